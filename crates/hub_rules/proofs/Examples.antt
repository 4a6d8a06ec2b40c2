-- The example lines have the answers of their table.
-- Assumes nothing.
use mathlib.Core.Path.{◌≡◌, refl}
use mathlib.Core.Bool.{true}
use Rattle.cba_mode.specs.Sets.{is_set, column}
use Rattle.answers.specs.Rows.{answer}
use Rattle.cba_rules.specs.Checks.{seal_rows, open_rows}
use Rattle.cba_rules.specs.Refusals.{seal_answer, open_answer}
use Rattle.text.specs.Numerals.{is_digit, all_digits, is_set_number, decimal_value, is_hex_digit, hex_value, are_hex_pairs, unhex, is_value, value_of}
use Rattle.hub_grammar.specs.Lines.{join_first, words_of, from_six, from_words, parse}
use Rattle.hub_rules.specs.Answers.{request_answer, answer_of}
use Rattle.hub_rules.specs.Examples.{bytes_of, lines, lines_so}

pub examples : lines_so lines ≡ true
unfolding is_set column answer seal_rows open_rows seal_answer open_answer is_digit all_digits is_set_number decimal_value is_hex_digit hex_value are_hex_pairs unhex is_value value_of join_first words_of from_six from_words parse request_answer answer_of bytes_of lines_so
examples = refl
