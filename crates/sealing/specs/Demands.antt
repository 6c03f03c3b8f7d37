-- The words of the demands: what is admitted, and what it means that a body seals to a run. Assumes nothing.
use Rattle.std.specs.Prelude.{◌≡◌, false, ℕ, ◌≤◌, List, length, Some}
use Rattle.cells.specs.Cells.{Bytes, Block}
use Rattle.ciphers.specs.Ciphers.{block_of}
use Rattle.modes.specs.Mode.{seal_run}
use Rattle.states.specs.Modes.{mode_of}
use Rattle.schemes.specs.declared.Scheme.{Scheme}
use Rattle.schemes.specs.Schemes.{scheme_of}
use Rattle.schemes.specs.Checks.{blank}

-- a number names a scheme, and key, nonce and header are bytes that it admits
pub record Admitted (number : ℕ) (s : Scheme) (key nonce header : List ℕ) : Type 0 where
  pub named : scheme_of number ≡ Some s
  pub key_fits : Block s.key key
  pub nonce_fits : Block s.nonce nonce
  pub header_bytes : Bytes header
  pub header_fits : length header ≤ s.header

-- a body within the limit seals to a run: the run is what the published rule of the scheme's mode over ForkSkinny makes of it; but for header
-- and body both empty under a mode that has no run for them (C-14): `seal_run` has a value there too, which is left out
pub record SealsTo (s : Scheme) (key nonce header body run : List ℕ) : Type 0 where
  pub body_bytes : Bytes body
  pub body_fits : length body ≤ s.body
  pub some : blank s (length header) (length body) ≡ false
  pub published : seal_run (block_of s.cipher) (mode_of s.kind s.cipher key nonce) header body ≡ run
