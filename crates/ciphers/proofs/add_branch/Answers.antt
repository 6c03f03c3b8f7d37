-- `ciphers::add_branch` meets its contract: the constant xored in. Assumes nothing.
use mathlib.Core.Path.{◌∙◌, ap}
use Rattle.ciphers.specs.Ciphers.{add_branch, xored}
use Rattle.ciphers.proofs.add_branch.Goals as goal

pub returns : goal.returns
unfolding add_branch
returns c = c.xor_states.ensures ∙ ap (xored c.args.s) c.branch_constant.ensures
