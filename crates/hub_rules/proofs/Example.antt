-- Document 01's example of a whole run.
-- Assumes nothing.
use mathlib.Core.Path.{◌≡◌, refl}
use mathlib.Core.List.{List, [], ◌∷◌, ◌++◌}
use Prim.Native.Nat.{ℕ}
use Rattle.cba_mode.specs.Sets.{is_set, column}
use Rattle.answers.specs.Rows.{answer}
use Rattle.cba_rules.specs.Checks.{seal_rows, open_rows}
use Rattle.cba_rules.specs.Refusals.{seal_answer, open_answer}
use Rattle.text.specs.Numerals.{decimal_of, is_digit, all_digits, is_set_number, decimal_value, hex_digit, hex, shown, is_hex_digit, hex_value, are_hex_pairs, unhex, is_value, value_of}
use Rattle.hub_grammar.specs.Lines.{join_first, words_of, from_six, from_words, parse}
use Rattle.hub_rules.specs.Answers.{request_answer, request_result, answer_of, result_of, accepted_set, line_text, line_for}
use Rattle.hub_rules.specs.Whole.{first_line, heading, summary_head, lines_from, at_most, answers_from, count_for, row_for, rows_from, after_the_first, output_of, hub}

-- `seal 11 - - - -`
seal_eleven : List ℕ
seal_eleven = 115 ∷ 101 ∷ 97 ∷ 108 ∷ 32 ∷ 49 ∷ 49 ∷ 32 ∷ 45 ∷ 32 ∷ 45 ∷ 32 ∷ 45 ∷ 32 ∷ 45 ∷ []

-- `open 3 00 - - -`
open_three : List ℕ
open_three = 111 ∷ 112 ∷ 101 ∷ 110 ∷ 32 ∷ 51 ∷ 32 ∷ 48 ∷ 48 ∷ 32 ∷ 45 ∷ 32 ∷ 45 ∷ 32 ∷ 45 ∷ []

-- the heading, `1 1 -`, `2 2 -`, `set accepted`
example : hub (first_line ++ ((10 ∷ seal_eleven) ++ ((10 ∷ open_three) ++ (10 ∷ []))))
    ≡ heading ++ ((49 ∷ 32 ∷ 49 ∷ 32 ∷ 45 ∷ 10 ∷ []) ++ ((50 ∷ 32 ∷ 50 ∷ 32 ∷ 45 ∷ 10 ∷ []) ++ summary_head))
unfolding is_set column answer seal_rows open_rows seal_answer open_answer decimal_of is_digit all_digits is_set_number decimal_value hex_digit hex shown is_hex_digit hex_value are_hex_pairs unhex is_value value_of join_first words_of from_six from_words parse request_answer request_result answer_of result_of accepted_set line_text line_for lines_from at_most answers_from count_for row_for rows_from after_the_first output_of hub seal_eleven open_three
example = refl
