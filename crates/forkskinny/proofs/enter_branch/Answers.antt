-- `forkskinny::enter_branch` meets its contract: by cases. Assumes nothing.
use mathlib.Core.Path.{◌∙◌, sym, ap}
use Rattle.forkskinny.specs.declared.Branch.{Branch}
use Rattle.ciphers.specs.Ciphers.{width_of}
use Rattle.forkskinny.specs.ForkSkinny.{enter}
use Rattle.forkskinny.proofs.enter_branch.Goals as goal

pub returns-in-Far : goal.returns-in-Far
returns-in-Far c =
    let a = c.args in
    c.add_branch.ensures ∙ sym (ap (λ (x : Branch). enter (width_of a.c) x a.s) c.in-Far.is)
