-- Under what the blocks of a record are worked, and the mode there. Assumes nothing.
use Rattle.std.specs.Prelude.{ℕ, List}
use Rattle.ciphers.specs.declared.Cipher.{Cipher}
use Rattle.modes.specs.Mode.{Mode}
use Rattle.states.specs.declared.Kind.{Kind}
use Rattle.states.specs.Modes.{Carried, mode_of}

pub record KeyAndNonce : Type 0 where
  pub cipher : Cipher
  pub key : List ℕ
  pub nonce : List ℕ

abbrev pub mode_at : (k : Kind) → KeyAndNonce → Mode (Carried k)
mode_at k u = mode_of k u.cipher u.key u.nonce
