-- Where a mode begins, and what it gives for an empty body. Assumes nothing.
use mathlib.Core.Path.{◌≡◌, refl}
use mathlib.Core.List.{List}
use Prim.Native.Nat.{ℕ}
use lib.ListN.{take}
use Rattle.ciphers.specs.declared.Cipher.{Cipher}
use Rattle.ciphers.specs.declared.Cipher.TheVariants.{N64T192, N128T256}
use Rattle.ciphers.specs.Ciphers.{block_of}
use Rattle.modes.specs.Eevee.{eevee}
use Rattle.modes.specs.Jolteon.{jolteon}
use Rattle.modes.specs.Paef.{paef}
use Rattle.modes.specs.Saef.{saef}
use Rattle.modes.specs.Umbreon.{umbreon}
use Rattle.states.specs.declared.Kind.{Kind}
use Rattle.states.specs.declared.Kind.TheVariants.{Paef, Saef, Umbreon, Jolteon}
use Rattle.states.specs.declared.State.{State}
use Rattle.states.specs.Modes.{beginning, mode_of, state_of}

pub start_is : (k : Kind) (c : Cipher) (key nonce : List ℕ) → state_of k (block_of c) beginning ≡ (mode_of k c key nonce).start
unfolding paef saef umbreon jolteon eevee
start_is Paef N64T192 key nonce = refl
start_is Paef N128T256 key nonce = refl
start_is Saef N64T192 key nonce = refl
start_is Saef N128T256 key nonce = refl
start_is Umbreon N64T192 key nonce = refl
start_is Umbreon N128T256 key nonce = refl
start_is Jolteon N64T192 key nonce = refl
start_is Jolteon N128T256 key nonce = refl

pub alone_is : (k : Kind) (c : Cipher) (key nonce : List ℕ) (s : State)
    → take (block_of c) s.mask ≡ (mode_of k c key nonce).alone (state_of k (block_of c) s)
unfolding paef saef umbreon jolteon eevee
alone_is Paef c key nonce s = refl
alone_is Saef c key nonce s = refl
alone_is Umbreon c key nonce s = refl
alone_is Jolteon c key nonce s = refl
