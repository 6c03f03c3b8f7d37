-- `forkskinny::rounds_back` meets its contract: the rounds of its parts. Assumes nothing.
use mathlib.Core.Path.{◌∙◌}
use native.Mathlib.Omega.{arith}
use Rattle.ciphers.proofs.Laws.{fit}
use Rattle.forkskinny.specs.Calls.{rounds_for, unfork_rounds}
use Rattle.forkskinny.specs.Wanted.{want_of}
use Rattle.forkskinny.proofs.rounds_back.Goals as goal

pub rounds_for-requires : goal.rounds_for-requires
rounds_for-requires c =
    omega (arith, fit c.args.c, c.branch_of-half.ensures, c.init_of.ensures, c.branch_of-half.ensures)

pub returns : goal.returns
unfolding unfork_rounds
returns c =
    let n = c.branch_of-half.ensures in
    let input = c.init_of.ensures in
    let other = c.branch_of-half.ensures in
    c.rounds_for.ensures ∙ (λ i. rounds_for (n i) (input i) (other i) (want_of c.args.want))
