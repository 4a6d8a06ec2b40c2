mod SubkeyLaws
mod ChainLaws
mod AnswerLaws
