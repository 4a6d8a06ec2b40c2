-- What the sealing and the opening of an accepted input require and leave, by the set's values.
-- Assumes nothing.
use Rattle.std.specs.Prelude.{◌≡◌, Bool, true, List, ◌++◌, ℕ, ◌+◌, ◌-◌, ◌≤◌, length, drop}
use Rattle.fips197.specs.Schedule.{is_key}
use Rattle.fips197.specs.Cipher.{cipher, inv_cipher}
use Rattle.cba_mode.specs.Sets.{tag_bytes}
use Rattle.cba_mode.specs.Seal.{ENC}
use Rattle.cba_mode.specs.Open.{DEC, Answered}
use Rattle.cba_sealing.specs.Calls.{Seals}
use Rattle.cba_opening.specs.Calls.{Opens}
use Rattle.cba_steps.specs.declared.parameters.Parameters.{Parameters}

pub record Sealable (p : Parameters) (key N A M out : List ℕ) : Type 0 where
  pub is-key : is_key key ≡ true
  pub data_limit : length A ≤ 4096
  pub seals : Seals p N M out

pub record Openable (p : Parameters) (key N A C out : List ℕ) : Type 0 where
  pub is-key : is_key key ≡ true
  pub data_limit : length A ≤ 4096
  pub opens : Opens p N C out

-- ENC over the first bytes of out
abbrev pub SealedBy : Parameters → List ℕ → List ℕ → List ℕ → List ℕ → List ℕ → List ℕ → Type 0
SealedBy p key N A M out out' = out' ≡ ENC (cipher key) p.tau p.capacity N A M ++ drop (length M + tag_bytes p.tau) out

-- DEC's decision r, and what it leaves in out
abbrev pub OpenedBy : Parameters → List ℕ → List ℕ → List ℕ → List ℕ → Bool → List ℕ → List ℕ → Type 0
OpenedBy p key N A C r out out' =
    Answered (DEC (cipher key) (inv_cipher key) p.tau p.capacity N A C) (length C - tag_bytes p.tau) r out out'
