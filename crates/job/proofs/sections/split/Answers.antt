-- `job::sections::split` meets its contract. Assumes nothing.
use mathlib.Core.Path.{◌∙◌}
use native.Mathlib.Omega.{arith}
use Rattle.job.proofs.Wholes.{whole_short, split_so}
use Rattle.job.proofs.sections.split.Goals as goal

pub returns-in_err-count : goal.returns-in_err-count
returns-in_err-count c = rw c.from_residual.ensures (whole_short c.args.s.now c.in_err-count.ensures.cases)

pub returns : goal.returns
returns c =
    let (front, rest, long) = c.in_ok-count.ensures.cases in
    split_so c.args.s.now (omega arith) front rest (c.from.ensures ∙ c.from_be_bytes.ensures) _ c.split_at_checked.ensures.cases
