-- Umbreon and Jolteon carry the same from block to block, so that what is said of a pair or a state under one is said under the other. Assumes nothing.
use mathlib.Core.List.{List}
use Prim.Native.Nat.{ℕ}
use Rattle.modes.specs.Eevee.{Chain}
use Rattle.states.specs.declared.Kind.TheVariants.{Umbreon, Jolteon}
use Rattle.states.specs.declared.State.{State}
use Rattle.states.specs.Steps.{Paired, Reached}

pub for_jolteon : {n : ℕ} {f g : Chain → List ℕ → List ℕ} {s : State} {x first second : List ℕ} → Paired Umbreon n f g s x first second
    → Paired Jolteon n f g s x first second
for_jolteon p =
    record { first_is = p.first_is; second_is = p.second_is; first_long = p.first_long; second_long = p.second_long }

pub reached_by_jolteon : {n : ℕ} {to : Chain} {most : ℕ} {r : State} → Reached Umbreon n to most r → Reached Jolteon n to most r
reached_by_jolteon h = record { state = h.state; number = h.number }
