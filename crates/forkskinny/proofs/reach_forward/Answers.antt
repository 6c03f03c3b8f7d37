-- `forkskinny::reach_forward` meets its contract: by what is wanted. Assumes nothing.
use mathlib.Core.Path.{◌≡◌, refl, ◌∙◌, ap}
use native.Mathlib.Omega.{arith}
use Rattle.ciphers.proofs.Laws.{init_some}
use Rattle.forkskinny.specs.Reach.{takes_far, reach_of}
use Rattle.forkskinny.specs.Calls.{wants}
use Rattle.forkskinny.specs.Wanted.{want_of}
use Rattle.forkskinny.proofs.Places.{reach_fit, reach_init}
use Rattle.forkskinny.proofs.reach_forward.Goals.{in-First, in-Second, in-Both}
use Rattle.forkskinny.proofs.reach_forward.Goals as goal

pub returns : goal.returns
unfolding wants
returns c =
    let a = c.args in
    let far : c.match-want.far ≡ takes_far (wants 0 (want_of a.want)) 0 (wants 1 (want_of a.want)) 1 =
    elim c.match-want.branch [ in-First w ↦ rw (w.in-First.is, w.far-is) refl | in-Second w ↦ rw (w.in-Second.is, w.far-is) refl | in-Both w ↦ rw (w.in-Both.is, w.far-is) refl ] in (
      c.reach_of.ensures ∙ ap (reach_of a.c) far,
      omega (arith, init_some a.c, reach_init a.c c.match-want.far, c.reach_of.ensures),
      omega (arith, reach_fit a.c c.match-want.far, c.reach_of.ensures),
    )
