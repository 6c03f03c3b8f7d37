-- `sealing::rounds_of` meets its contract: refused by the number or by a check, or counted. Assumes nothing.
use mathlib.Core.Path.{sym, ◌∙◌}
use native.Mathlib.Omega.{arith}
use Rattle.schemes.proofs.Table.{named_fits}
use Rattle.sealing.specs.Budget.{budget_under, budget_of}
use Rattle.sealing.proofs.Answers.{counted_on}
use Rattle.sealing.proofs.Budgets.{cost_refused, cost_passed}
use Rattle.sealing.proofs.rounds_of.Goals as goal

pub check-requires : goal.check-requires
check-requires c = (named_fits _ _ (sym c.scheme_of.ensures ∙ c.in_ok-s.ensures.ok_part), omega arith)

pub returns-in_err-check : goal.returns-in_err-check
unfolding budget_of budget_under
returns-in_err-check c =
    let named = sym c.scheme_of.ensures ∙ c.in_ok-s.ensures.ok_part in
    rw named
    (cost_refused _ _ _ _ c.from_residual-in_err-check.ensures.1 c.in_err-check.ensures.number c.in_err-check.ensures.unworked)

pub rounds-requires : goal.rounds-requires
rounds-requires c =
    counted_on c.in_ok-s.s _ _ _ _ _ _ _ (named_fits _ _ (sym c.scheme_of.ensures ∙ c.in_ok-s.ensures.ok_part)) c.in_ok-check.ensures.number

pub returns : goal.returns
unfolding budget_of budget_under
returns c =
    let named = sym c.scheme_of.ensures ∙ c.in_ok-s.ensures.ok_part in
    rw named (cost_passed _ _ _ c.in_ok-check.ensures.number c.rounds.ensures)
