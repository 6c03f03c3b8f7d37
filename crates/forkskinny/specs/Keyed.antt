-- A key at work: what its holder knows of it, whatever round keys are kept beside it. Assumes nothing.
use Rattle.std.specs.Prelude.{ℕ, List}
use Rattle.ciphers.specs.declared.Cipher.{Cipher}

pub record Keying : Type 0 where
  pub cipher : Cipher
  pub key : List ℕ
