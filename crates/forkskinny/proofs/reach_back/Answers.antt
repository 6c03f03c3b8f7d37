-- `forkskinny::reach_back` meets its contract: by what is wanted, and from which half. Assumes nothing.
use mathlib.Core.Path.{◌≡◌, refl, ◌∙◌, ap}
use native.Mathlib.Omega.{arith}
use Rattle.ciphers.proofs.Laws.{init_some}
use Rattle.forkskinny.specs.ForkSkinny.{other_of}
use Rattle.forkskinny.specs.Reach.{takes_far, reach_of}
use Rattle.forkskinny.specs.Calls.{wants}
use Rattle.forkskinny.specs.Wanted.{want_of, half_of}
use mathlib.Core.Bool.{Bool, true, false, cond}
use Rattle.forkskinny.proofs.Places.{reach_fit, reach_init}
use Rattle.forkskinny.proofs.reach_back.Goals.{in-First, in-Second, in-Both, in-Zero, in-One}
use Rattle.forkskinny.proofs.reach_back.Goals as goal

chosen : (b : Bool) → b ≡ cond b true false
chosen true = refl
chosen false = refl

pub returns : goal.returns
unfolding wants
returns c =
    let a = c.args in
    let other : c.match-want.other ≡ wants 1 (want_of a.want) =
    elim c.match-want.branch [
      | in-First w ↦ rw (w.in-First.is, w.other-is) refl
      | in-Second w ↦ rw (w.in-Second.is, w.other-is) refl
      | in-Both w ↦ rw (w.in-Both.is, w.other-is) refl
    ] in
    let far : c.match-from.far ≡ takes_far true (half_of a.from) (wants 1 (want_of a.want)) (other_of (half_of a.from)) =
    elim c.match-from.branch [ in-Zero w ↦ rw (w.in-Zero.is, w.far-is, other) (chosen _) | in-One w ↦ rw (w.in-One.is, w.far-is) refl ] in (
      c.reach_of.ensures ∙ ap (reach_of a.c) far,
      omega (arith, init_some a.c, reach_init a.c c.match-from.far, c.reach_of.ensures),
      omega (arith, reach_fit a.c c.match-from.far, c.reach_of.ensures),
    )
