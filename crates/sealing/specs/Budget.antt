-- The rounds of a record by its lengths alone (C-13): what seal tells of a body of this length, and open of the run that it is sealed to.
-- Assumes nothing.
use Rattle.std.specs.Prelude.{ℕ, zero, suc, false, Option, Some, None, Result, Ok, Err}
use Rattle.refusals.specs.declared.Refusal.{Refusal}
use Rattle.refusals.specs.Refusal as refusals
use Rattle.states.specs.Modes.{rounds_of}
use Rattle.schemes.specs.declared.Scheme.{Scheme}
use Rattle.schemes.specs.Checks.{check_of}
use Rattle.schemes.specs.Schemes.{scheme_of}

-- the number, and the rounds of a seal or an open
pub record Budget : Type 0 where
  pub number : ℕ
  pub rounds : ℕ

-- what is told
abbrev pub counted : Result ℕ Refusal → Budget
counted (Ok rounds) = record { number = 0; rounds = rounds }
counted (Err refusal) = record { number = refusals.number_of refusal; rounds = refusals.rounds_of refusal }

-- no rounds where the checks answered with a number
abbrev pub costs : (number rounds : ℕ) → Budget
costs zero rounds = record { number = 0; rounds = rounds }
costs (suc k) rounds = record { number = suc k; rounds = 0 }

-- the checks of a call whose key, nonce and room are right: 3, 8 and 10 are left
unfoldable pub budget_under : Scheme → (header body : ℕ) → Budget
budget_under s header body = costs (check_of s s.key s.nonce header body false 0 body) (rounds_of s.kind s.cipher header body)

abbrev pub budget_by : Option Scheme → (header body : ℕ) → Budget
budget_by (Some s) header body = budget_under s header body
budget_by None header body = costs 1 0

unfoldable pub budget_of : (scheme header body : ℕ) → Budget
budget_of scheme = budget_by (scheme_of scheme)
