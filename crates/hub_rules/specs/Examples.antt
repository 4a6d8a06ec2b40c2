-- Example lines and their answers. A wrong reading of a line, a wrong order of its values or a wrong room shows here.
-- Assumes nothing.
use Rattle.std.specs.Prelude.{Bool, true, ◌&&◌, List, [], ◌∷◌, ℕ, eqb}
use Prim.Native.Char.{code}
use Prim.Native.String.{String, [] as end, ◌∷◌ as ◌then◌}
use Rattle.hub_grammar.specs.Lines.{parse}
use Rattle.hub_rules.specs.Answers.{answer_of}

pub record Line : Type 0 where
  pub answer : ℕ
  pub text : String

abbrev line : ℕ → String → Line
line a s = record { answer = a; text = s }

-- a line as the program is given it
unfoldable pub bytes_of : String → List ℕ
bytes_of end = []
bytes_of (c then s) = code c ∷ bytes_of s

-- Each refusal that lengths decide, in order; then lines that are malformed, whose set alone would be refused: 11 comes first. A key
-- has 16 bytes in set 3, 24 in set 9 and 32 in set 10; a ciphertext of set 3 has 8 at least, as the data of the last opening has, and
-- not its text.
abbrev pub lines : List Line
lines =
    line 0 "seal 3 000102030405060708090a0b0c0d0e0f a0a1a2a3a4a5a6a7a8a9aaab - -"
    ∷ line 0 "seal 3 000102030405060708090a0b0c0d0e0f a0a1a2a3a4a5a6a7a8a9aaab d0d1 c0ffee"
    ∷ line 0 "seal 9 000102030405060708090a0b0c0d0e0f1011121314151617 a0a1a2a3a4a5a6a7a8a9aaab - 00"
    ∷ line 0 "seal 10 000102030405060708090a0b0c0d0e0f101112131415161718191a1b1c1d1e1f a0a1a2a3a4a5a6a7a8a9aaab - 00"
    ∷ line 1 "seal 11 - - - -"
    ∷ line 1 "seal 0 - - - -"
    ∷ line 1 "open 999 - - - -"
    ∷ line 2 "open 3 00 - - -"
    ∷ line 2 "seal 9 000102030405060708090a0b0c0d0e0f a0a1a2a3a4a5a6a7a8a9aaab - -"
    ∷ line 2 "seal 3 a0a1a2a3a4a5a6a7a8a9aaab 000102030405060708090a0b0c0d0e0f - -"
    ∷ line 3 "seal 3 000102030405060708090a0b0c0d0e0f - - -"
    ∷ line 3 "open 3 000102030405060708090a0b0c0d0e0f a0a1a2a3a4a5a6a7a8a9aaabac - -"
    ∷ line 6 "open 3 000102030405060708090a0b0c0d0e0f a0a1a2a3a4a5a6a7a8a9aaab - -"
    ∷ line 6 "open 3 000102030405060708090a0b0c0d0e0f a0a1a2a3a4a5a6a7a8a9aaab 0001020304050607 00010203040506"
    ∷ line 11 ""
    ∷ line 11 "seal 11 - - -"
    ∷ line 11 "seal 11 - - - - -"
    ∷ line 11 "seal  11 - - - -"
    ∷ line 11 " seal 11 - - - -"
    ∷ line 11 "seal 11 - - - - "
    ∷ line 11 "seal 11 - - - -\r"
    ∷ line 11 "Seal 11 - - - -"
    ∷ line 11 "seals 11 - - - -"
    ∷ line 11 "act set key nonce data text"
    ∷ line 11 "seal 011 - - - -"
    ∷ line 11 "seal 1000 - - - -"
    ∷ line 11 "seal - - - - -"
    ∷ line 11 "seal 11 0 - - -"
    ∷ line 11 "seal 11 - 0A - -"
    ∷ line 11 "seal 11 - - 0g -"
    ∷ line 11 "seal 11 - - - --"
    ∷ []

unfoldable pub lines_so : List Line → Bool
lines_so [] = true
lines_so (l ∷ ls) = eqb (answer_of (parse (bytes_of l.text))) l.answer && lines_so ls
