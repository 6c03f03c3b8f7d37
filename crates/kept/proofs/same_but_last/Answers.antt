-- `kept::same_but_last` meets its contract: what is put behind the front leaves the front. Assumes nothing.
use mathlib.Core.Path.{sym, ◌∙◌}
use native.Mathlib.Omega.{arith}
use lib.ListN.{length-set}
use lib.Seq.{length-take-le}
use Rattle.modes.proofs.Bytes.{same_eq}
use Rattle.kept.proofs.Changed.{put_last}
use Rattle.kept.proofs.same_but_last.Goals as goal

pub slice_bounds-near-end : goal.slice_bounds-near-end
slice_bounds-near-end c = simp length-set (omega arith)

pub slice_bounds-equal-end : goal.slice_bounds-equal-end
slice_bounds-equal-end c = sym (length-take-le _ _ (simp length-set (omega arith)))

pub slice_bounds-equal-end-2 : goal.slice_bounds-equal-end-2
slice_bounds-equal-end-2 c = sym (length-take-le _ _ (omega arith))

pub returns : goal.returns
returns c e =
    let a = c.args in
    put_last a.n _ a.old a.tweak c.requires.0 (omega arith) (omega arith) (same_eq _ _ (sym c.equal.ensures ∙ e))
