-- `forkskinny::start_of` meets its contract: by cases. Assumes nothing.
use mathlib.Core.Path.{◌∙◌, sym, ap, ap₂}
use Prim.Native.Nat.{◌+◌}
use native.Mathlib.Omega.{arith}
use Rattle.ciphers.proofs.Laws.{fit}
use Rattle.forkskinny.specs.ForkSkinny.{start_of}
use Rattle.forkskinny.proofs.start_of.Goals as goal

pub overflow_add-result : goal.overflow_add-result
overflow_add-result c = omega (arith, fit c.args.c, c.init_of-in-Far.ensures, c.branch_of.ensures)

pub returns-in-Far : goal.returns-in-Far
returns-in-Far c =
    let a = c.args in
    ap₂ ◌+◌ c.init_of-in-Far.ensures c.branch_of.ensures ∙ sym (ap (start_of a.c) c.in-Far.is)
