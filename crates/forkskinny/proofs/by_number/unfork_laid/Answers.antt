-- `forkskinny::by_number::unfork_laid` meets its contract: a number that names no choice wants nothing, and every number but 0 is half 1. Assumes
-- nothing.
use mathlib.Core.Path.{sym, ◌∙◌, subst⁻¹}
use Prim.Native.Nat.{ℕ}
use Rattle.ciphers.specs.Ciphers.{tk}
use Rattle.forkskinny.specs.Reach.{LaidFor, unfork_reach}
use Rattle.forkskinny.specs.Calls.{unfork_by}
use Rattle.forkskinny.proofs.Numbers.{want_is, unfork_nothing, one_half, one_half_reach}
use Rattle.forkskinny.proofs.by_number.unfork_laid.Goals as goal

pub returns-in-Ok : goal.returns-in-Ok
returns-in-Ok c =
    let a = c.args in
    let half = c.half_for-half.ensures in
    let want = want_is a.want c.in-Ok.ensures in
    λ key tweak laid.
    c.unfork.ensures key tweak
    (subst⁻¹ (λ (m : ℕ). LaidFor a.c m (tk a.c key tweak) a.keys.now) ((λ i. unfork_reach a.c (half i) (want i)) ∙ one_half_reach a.c a.from a.want) laid)
    ∙ (λ i. unfork_by a.c key tweak a.block (half i) (want i)) ∙ one_half a.c key tweak a.block a.from a.want

pub returns-in-Err : goal.returns-in-Err
returns-in-Err c =
    let a = c.args in
    λ key tweak laid. c.unfork_none.ensures ∙ sym (unfork_nothing a.c key tweak a.block a.from a.want c.in-Err.ensures)
