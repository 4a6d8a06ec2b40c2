-- `aes::table::mixed` meets its contract.
-- Assumes nothing.
use mathlib.Core.Path.{ap, ap₂, ◌∙◌}
use mathlib.Core.List.{List}
use Prim.Native.Nat.{ℕ, ◌+◌, ◌*◌}
use Rattle.octets.specs.Xor.{xors}
use Rattle.aes_schedule.specs.Words.{word_at}
use Rattle.aes_schedule.proofs.WordLaws.{xor_bytes}
use Rattle.aes.proofs.table.mixed.Goals as goal

pub returns : goal.returns
returns c =
    let word : ℕ → ℕ → List ℕ = λ k x. word_at c.args.t.now (8 * x + k) in
    xor_bytes _ c.word_at-v.result
    ∙ ap₂ xors
    (xor_bytes _ c.word_at-u.result
    ∙ ap₂ xors
    (xor_bytes c.word_at-p.result c.word_at-q.result
    ∙ ap₂ xors (c.word_at-p.ensures ∙ ap (λ (x : ℕ). word_at c.args.t.now (8 * x)) c.byte.ensures) (c.word_at-q.ensures ∙ ap (word 3) c.byte-2.ensures))
    (c.word_at-u.ensures ∙ ap (word 2) c.byte-3.ensures))
    (c.word_at-v.ensures ∙ ap (word 1) c.byte-4.ensures)
