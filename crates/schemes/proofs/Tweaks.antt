-- Within a scheme's own limits no two blocks of one record, header and body together, have the same tweak: thirteen bits of number are enough for
-- PAEF, and for Umbreon and Jolteon fourteen in the header and fifteen in the body. Assumes nothing.
use Prim.Native.Nat.{ℕ, ◌≤◌}
use native.Mathlib.Omega.{arith}
use mathlib.Core.List.{List}
use lib.ListN.{length}
use Rattle.ciphers.specs.declared.Cipher.TheVariants.{N64T192, N128T256}
use Rattle.modes.specs.Jolteon.{jolteon}
use Rattle.modes.specs.Paef.{paef}
use Rattle.modes.specs.Tweaks.{seal_tweaks, Distinct}
use Rattle.modes.specs.Umbreon.{umbreon}
use Rattle.modes.proofs.EeveeTweaks.{umbreon_distinct, jolteon_distinct}
use Rattle.modes.proofs.PaefTweaks.{paef_distinct}
use Rattle.states.specs.Skinny.{skinny}
use Rattle.schemes.specs.Schemes.{scheme1, scheme2, scheme4, scheme5, scheme6, scheme7}

module _ (key nonce header body : List ℕ) where
  pub tweaks_1 : length header ≤ scheme1.header → length body ≤ scheme1.body
      → Distinct (seal_tweaks 8 (paef 8 (skinny N64T192 key) nonce) header body)
  tweaks_1 = paef_distinct 8 (skinny N64T192 key) nonce (omega arith) header body

  pub tweaks_2 : length header ≤ scheme2.header → length body ≤ scheme2.body
      → Distinct (seal_tweaks 16 (paef 16 (skinny N128T256 key) nonce) header body)
  tweaks_2 = paef_distinct 16 (skinny N128T256 key) nonce (omega arith) header body

  pub tweaks_4 : length header ≤ scheme4.header → length body ≤ scheme4.body
      → Distinct (seal_tweaks 8 (umbreon 8 (skinny N64T192 key) nonce) header body)
  tweaks_4 = umbreon_distinct 8 (omega arith) (skinny N64T192 key) nonce header body

  pub tweaks_5 : length header ≤ scheme5.header → length body ≤ scheme5.body
      → Distinct (seal_tweaks 8 (jolteon 8 (skinny N64T192 key) nonce) header body)
  tweaks_5 = jolteon_distinct 8 (omega arith) (skinny N64T192 key) nonce header body

  pub tweaks_6 : length header ≤ scheme6.header → length body ≤ scheme6.body
      → Distinct (seal_tweaks 16 (umbreon 16 (skinny N128T256 key) nonce) header body)
  tweaks_6 = umbreon_distinct 16 (omega arith) (skinny N128T256 key) nonce header body

  pub tweaks_7 : length header ≤ scheme7.header → length body ≤ scheme7.body
      → Distinct (seal_tweaks 16 (jolteon 16 (skinny N128T256 key) nonce) header body)
  tweaks_7 = jolteon_distinct 16 (omega arith) (skinny N128T256 key) nonce header body
