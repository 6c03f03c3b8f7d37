-- `forkskinny::reach_of` meets its contract: by cases. Assumes nothing.
use mathlib.Core.Path.{◌∙◌, sym, ap, ap₂}
use Prim.Native.Nat.{◌+◌}
use native.Mathlib.Omega.{arith}
use Rattle.forkskinny.specs.Reach.{reach_of}
use Rattle.forkskinny.specs.declared.Branch.TheVariants.{Near, Far}
use Rattle.forkskinny.proofs.Places.{branch_fit}
use Rattle.forkskinny.proofs.reach_of.Goals as goal

pub overflow_add-result : goal.overflow_add-result
overflow_add-result c = omega (arith, branch_fit c.args.c Far, c.start_of.ensures, c.branch_of.ensures)

pub returns-then-far : goal.returns-then-far
returns-then-far c = ap₂ ◌+◌ c.start_of.ensures c.branch_of.ensures ∙ sym (ap (reach_of c.args.c) c.if-far.true)

pub overflow_add-result-2 : goal.overflow_add-result-2
overflow_add-result-2 c = omega (arith, branch_fit c.args.c Near, c.start_of-2.ensures, c.branch_of-2.ensures)

pub returns : goal.returns
returns c = ap₂ ◌+◌ c.start_of-2.ensures c.branch_of-2.ensures ∙ sym (ap (reach_of c.args.c) c.if-far.false)
