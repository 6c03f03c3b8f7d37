-- `prepared::differ_128_256` meets its contract: what each row differs in from the one before it. Assumes nothing.
use mathlib.Core.Path.{sym}
use native.Mathlib.Omega.{arith}
use lib.Seq.{length-take-le}
use Rattle.prepared.proofs.Found.{differs_128_256}
use Rattle.prepared.proofs.differ_128_256.Goals as goal

pub slice_bounds-differences-end-2 : goal.slice_bounds-differences-end-2
slice_bounds-differences-end-2 c = sym (length-take-le _ c.args.share.now (omega arith))

pub returns : goal.returns
returns c =
    differs_128_256 c.args.share.now c.differences.result (record { at = c.fits-share }) (omega arith) c.differences.ensures
