-- `walks::last_block` meets its contract: by what a division leaves. Assumes nothing.
use native.Mathlib.Omega.{arith}
use Rattle.walks.proofs.Strides.{last_inside, last_short}
use Rattle.walks.proofs.last_block.Goals as goal

pub overflow_mul-result : goal.overflow_mul-result
overflow_mul-result c = omega (arith, last_inside c.args.n c.args.l _ c.requires c.before_last.ensures)

pub returns-clause-inside : goal.returns-clause-inside
returns-clause-inside c = last_inside c.args.n c.args.l _ c.requires c.before_last.ensures

pub returns-clause-short : goal.returns-clause-short
returns-clause-short c = last_short c.args.n c.args.l _ c.requires c.before_last.ensures
