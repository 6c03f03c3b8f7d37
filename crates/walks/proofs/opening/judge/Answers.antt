-- `walks::opening::judge` meets its contract: nothing is collected exactly where neither part has a difference. Assumes nothing.
use mathlib.Core.Path.{sym, ap₂, ◌∙◌}
use mathlib.Core.Bool.{◌&&◌}
use Prim.Native.Nat.{◌-◌}
use native.Mathlib.Omega.{arith}
use lib.Seq.{length-take-le}
use Rattle.modes.specs.Blocks.{ten}
use Rattle.blocks.proofs.Collected.{or_none}
use Rattle.walks.proofs.opening.judge.Goals as goal

pub slice_bounds-differences-end : goal.slice_bounds-differences-end
slice_bounds-differences-end c = let a = c.args in sym (length-take-le a.r a.second (omega arith))

pub slice_bounds-differences-length-2 : goal.slice_bounds-differences-length-2
slice_bounds-differences-length-2 c =
    let a = c.args in
    sym (length-take-le (a.n - a.r) (ten 15) (omega arith))

pub returns : goal.returns
returns c =
    let tag = c.differences-in_tag in
    let padding = c.differences-in_padding in
    or_none tag.result padding.result ∙ ap₂ ◌&&◌ tag.ensures padding.ensures
