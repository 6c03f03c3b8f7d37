-- `schedule::eight_steps` meets its contract: both loops keep `Stood`, the inner one of whatever cells the outer one began with.
-- Assumes nothing.
use Prim.Native.Nat.{ℕ}
use mathlib.Core.List.{List}
use Rattle.schedule.specs.Share.{tweak_step}
use Rattle.schedule.proofs.Standing.{Stood}
use Rattle.schedule.proofs.eight_steps.Given as goal

abbrev pub invariant-loop-k : goal.invariant-loop-k
invariant-loop-k g l =
    let f = tweak_step g.K.Cell.width g.K.Tweaked.words in
    (t : List ℕ) → Stood f l.row l.share t l.j 0 l.initial.c l.initial.sums → Stood f l.row l.share t l.j l.k l.c l.sums

abbrev pub invariant-loop-j : goal.invariant-loop-j
invariant-loop-j g l = Stood (tweak_step g.K.Cell.width g.K.Tweaked.words) l.row l.share l.initial.c l.j 0 l.c l.sums
