-- The key that a share was made of; and a record that is not admitted, which stands for none. Assumes nothing.
use mathlib.Core.Path.{◌≡◌, ap, ◌∙◌}
use mathlib.Core.Logic.{◌≢◌}
use mathlib.Core.Bool.{false}
use mathlib.Core.List.{List, ◌++◌}
use Prim.Native.Nat.{ℕ, ◌-◌, ◌<◌}
use native.Mathlib.Omega.{arith}
use lib.ListN.{length, get_or, take, replicate}
use Rattle.ciphers.specs.declared.Cipher.{Cipher}
use Rattle.prepared.specs.declared.Prepared.{Prepared}
use Rattle.prepared.specs.Prepared.{key_in, key_of, share_of, admitted, Made}
use Rattle.prepared.proofs.Found.{whole}
use Rattle.prepared.proofs.Admitted.{key_none, made_of}
use Rattle.schemes.specs.declared.Scheme.{Scheme}
use Rattle.schemes.specs.Schemes.{Fits}

-- the share of a key of sixteen bytes, which were brought into an array
pub share_made : (c : Cipher) (key : List ℕ) {front share : List ℕ} → length key ≡ 16 → ((k : ℕ) → get_or key k 0 < 256)
    → front ≡ take 16 key ++ replicate (16 - 16) 0 → share ≡ share_of c front → (key_in c share ≡ key) × Made c share
share_made c key long bytes e f = made_of c key (record { long = long; bytes = record { at = bytes } }) (f ∙ ap (share_of c) (e ∙ whole key long))

-- one that is not admitted is refused as a key of another length is
pub no_record_lem : (s : Scheme) (r : Prepared) → Fits s → admitted s.cipher r ≡ false → length (key_of s.cipher r) ≢ s.key
no_record_lem s r f e q = absurd (omega (arith, q, f.key, ap length (key_none s.cipher r e)))
