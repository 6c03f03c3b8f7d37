-- The order of a run's end, by the mode's name, is the mode's. Assumes nothing.
use mathlib.Core.Path.{◌≡◌, refl}
use mathlib.Core.List.{List}
use Prim.Native.Nat.{ℕ}
use Rattle.ciphers.specs.declared.Cipher.{Cipher}
use Rattle.modes.specs.Eevee.{eevee}
use Rattle.modes.specs.Jolteon.{jolteon}
use Rattle.modes.specs.Paef.{paef}
use Rattle.modes.specs.Saef.{saef}
use Rattle.modes.specs.Umbreon.{umbreon}
use Rattle.states.specs.declared.Kind.{Kind}
use Rattle.states.specs.declared.Kind.TheVariants.{Paef, Saef, Umbreon, Jolteon}
use Rattle.states.specs.Modes.{mode_of, block_first}

pub block_first_lem : (k : Kind) (c : Cipher) (key nonce : List ℕ) → (mode_of k c key nonce).block_first ≡ block_first k
unfolding paef saef umbreon jolteon eevee
block_first_lem Paef c key nonce = refl
block_first_lem Saef c key nonce = refl
block_first_lem Umbreon c key nonce = refl
block_first_lem Jolteon c key nonce = refl
