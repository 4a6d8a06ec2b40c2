-- `cba_opening::forms::dec` meets its contract: the attempt's message, or zeros over it.
-- Assumes nothing.
use mathlib.Core.Path.{ap}
use Prim.Native.Nat.{ℕ, ◌-◌}
use native.Mathlib.Omega.{arith}
use lib.ListN.{length}
use Rattle.fips197.specs.Cipher.{cipher, inv_cipher}
use Rattle.cba_mode.specs.Sets.{tag_bytes}
use Rattle.cba_sealing.specs.Calls.{data_tag}
use Rattle.cba_opening.proofs.OpenForms.{open_good, open_bad}
use Rattle.cba_opening.proofs.forms.dec.Goals as goal

pub returns-then-attempted : goal.returns-then-attempted
returns-then-attempted c =
    open_good (cipher c.args.e.now) (inv_cipher c.args.e.now) c.args.p.tau c.args.p.capacity c.args.nonce.now (data_tag c.args.p c.args.sum) c.args.ciphertext.now c.args.out.now c.attempted.new.out (length c.args.ciphertext.now - tag_bytes c.args.p.tau) _
    c.requires.opens.least c.attempted.ensures c.if-attempted.true

pub overflow_sub-ciphertext : goal.overflow_sub-ciphertext
overflow_sub-ciphertext c = omega (arith, c.tag_bytes.ensures, c.requires.opens.least)

pub clear-requires : goal.clear-requires
clear-requires c = omega (arith, c.tag_bytes.ensures, c.attempted.auto.out, c.requires.opens.room)

pub returns : goal.returns
returns c =
    open_bad (cipher c.args.e.now) (inv_cipher c.args.e.now) c.args.p.tau c.args.p.capacity c.args.nonce.now (data_tag c.args.p c.args.sum) c.args.ciphertext.now c.args.out.now c.attempted.new.out c.clear.new.out (length c.args.ciphertext.now - tag_bytes c.args.p.tau) _ _
    c.requires.opens.least c.attempted.ensures c.if-attempted.false c.attempted.auto.out (omega (arith, c.requires.opens.room)) (ap (λ (n : ℕ). length c.args.ciphertext.now - n) c.tag_bytes.ensures) c.clear.ensures
