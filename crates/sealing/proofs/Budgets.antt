-- The rounds of a record by its lengths: what the checks' number makes of them, what each number says, and what a call that was worked
-- tells. Assumes nothing.
use mathlib.Core.Path.{◌≡◌, refl, sym, ap, ◌∙◌}
use mathlib.Core.Logic.Iff
use mathlib.Core.Logic.{◌↔◌}
use Prim.Native.Nat.{ℕ, zero, suc, ◌<◌}
use native.Mathlib.Omega.{arith}
use mathlib.Core.Bool.{Bool, false}
use mathlib.Core.List.{List}
use lib.Dec.{eqb}
use lib.ListN.{length}
use borrow.Author.Tests.{eqb-false}
use Rattle.states.specs.Modes.{rounds_of}
use Rattle.walks.proofs.Counted.{rounds_fit}
use Rattle.schemes.specs.declared.Scheme.{Scheme}
use Rattle.std.specs.Prelude.{Option, Some, None, Result, Err, IsErrAnd}
use Rattle.std.proofs.lemmas.Result.{err_from_is_err_and}
use Rattle.refusals.specs.declared.Refusal.{Refusal}
use Rattle.refusals.specs.Refusal as refusals
use Rattle.refusals.specs.Refusal.{number_of}
use Rattle.schemes.specs.Checks.{body_in, check_of}
use Rattle.schemes.specs.Schemes.{Under, scheme_of, Fits}
use Rattle.schemes.proofs.Passed.{Passed, check_passed, check_pass, check_never}
use Rattle.schemes.proofs.Table.{of_named, named_fits}
use Rattle.sealing.specs.Budget.{counted, costs, budget_under, budget_by, budget_of}
use Rattle.sealing.specs.Numbers.{answered, Worked}
use Rattle.sealing.proofs.Answers.{number_some}
use Rattle.sealing.proofs.Counted.{worked_check, worked_rounds}
use Rattle.sealing.proofs.Said.{under_says, under_1, under_each}

-- ---- the checks' number, and the rounds

pub cost_refused : (r : Result ℕ Refusal) (e : Refusal) (k rounds : ℕ) → IsErrAnd r (λ x. x ≡ e) → number_of e ≡ k
    → refusals.rounds_of e ≡ 0 → counted r ≡ costs k rounds
cost_refused r e k rounds a n u =
    let (x, is, same) = err_from_is_err_and r a in
    ap counted (is ∙ ap Err same)
    ∙ (λ i. record { number = n i; rounds = u i })
    ∙ sym (costs_none k rounds (λ z. number_some e (n ∙ z)))
  where
    costs_none : (k rounds : ℕ) → (k ≡ 0 → ⊥) → costs k rounds ≡ record { number = k; rounds = 0 }
    costs_none zero rounds h = absurd (h refl)
    costs_none (suc k) rounds h = refl

pub cost_passed : (k r rounds : ℕ) → 0 ≡ k → r ≡ rounds → record { number = 0; rounds = r } ≡ costs k rounds
cost_passed k r rounds e q = (λ i. record { number = 0; rounds = q i }) ∙ ap (λ (j : ℕ). costs j rounds) e

cost_number : (k rounds : ℕ) → (costs k rounds).number ≡ k
cost_number zero rounds = refl
cost_number (suc k) rounds = refl

-- no rounds but with 0, and never more than 32 bits hold
cost_none : (k rounds : ℕ) → ((costs k rounds).number ≡ 0 → ⊥) → (costs k rounds).rounds ≡ 0
cost_none zero rounds h = absurd (h refl)
cost_none (suc k) rounds h = refl

cost_few : (k rounds : ℕ) → (k ≡ 0 → rounds < 4294967296) → (costs k rounds).rounds < 4294967296
cost_few zero rounds h = h refl
cost_few (suc k) rounds h = omega arith

-- ---- what a number says

module _ (scheme header body : ℕ) where
  abbrev check : Scheme → ℕ
  check s = check_of s s.key s.nonce header body false 0 body

  abbrev number : Option Scheme → ℕ
  number m = (budget_by m header body).number

  pub budget_says : (k : ℕ) → eqb 1 k ≡ false → (Q : Scheme → Type 0) → ((s : Scheme) → (check s ≡ k) ↔ Q s)
      → ((budget_of scheme header body).number ≡ k) ↔ Under scheme Q
  unfolding budget_of budget_under
  budget_says k not-1 Q f =
      Iff.trans (under_says number refl (scheme_of scheme) k (eqb-false 1 k not-1))
      (under_each scheme (λ s. (budget_under s header body).number ≡ k) Q λ s.
      (λ e. (f s).0 (sym (cost_number (check s) _) ∙ e), λ q. cost_number (check s) _ ∙ (f s).1 q))

  pub budget_unknown : ((budget_of scheme header body).number ≡ 1) ↔ (scheme_of scheme ≡ None)
  unfolding budget_of budget_under
  budget_unknown =
      under_1 number refl (scheme_of scheme) λ s e. check_never s _ _ _ _ _ _ _ 1 refl (sym (cost_number (check s) _) ∙ e)

  -- ---- no rounds where it is refused, and never more than 32 bits hold

  pub budget_none : ((budget_of scheme header body).number ≡ 0 → ⊥) → (budget_of scheme header body).rounds ≡ 0
  unfolding budget_of budget_under
  budget_none = go (scheme_of scheme)
    where
      go : (m : Option Scheme) → ((budget_by m header body).number ≡ 0 → ⊥) → (budget_by m header body).rounds ≡ 0
      go (Some s) h = cost_none (check s) _ h
      go None h = refl

  pub budget_fits : (budget_of scheme header body).rounds < 4294967296
  unfolding budget_of budget_under
  budget_fits = go (scheme_of scheme) refl
    where
      few : (s : Scheme) → Fits s → check s ≡ 0 → rounds_of s.kind s.cipher header body < 4294967296
      few s f c =
          let p = check_passed s _ _ _ _ _ _ _ c in
          omega (
            arith,
            rounds_fit s.kind s.cipher header body (omega (arith, p.fit.header_fits, f.header)) (omega (arith, p.body_fits, f.body)),
          )

      go : (m : Option Scheme) → scheme_of scheme ≡ m → (budget_by m header body).rounds < 4294967296
      go (Some s) e = cost_few (check s) _ (few s (named_fits scheme s e))
      go None e = omega arith

-- ---- a call that was worked tells the rounds of its lengths

pub worked_budget : (opens : Bool) (scheme : ℕ) (s : Scheme) (key nonce header input room : List ℕ) → scheme_of scheme ≡ Some s
    → Worked (answered opens scheme key nonce header input room).number
    → budget_of scheme (length header) (body_in opens s (length input))
    ≡ record { number = 0; rounds = (answered opens scheme key nonce header input room).rounds }
unfolding budget_of budget_under
worked_budget opens scheme s key nonce header input room known w =
    let p = check_passed s _ _ _ _ _ _ _ (of_named _ scheme s known (worked_check scheme key nonce header input room opens w)) in
    let l : ℕ = body_in opens s (length input) in
    let passed : Passed s s.key s.nonce (length header) l 0 l
    = record {
      fit = record { key_fits = refl; nonce_fits = refl; header_fits = p.fit.header_fits };
      body_fits = p.body_fits;
      room_fits = omega arith;
      some = p.some;
    } in
    ap (λ (m : Option Scheme). budget_by m (length header) l) known
    ∙ sym (cost_passed _ _ _ (sym (check_pass s _ _ _ _ _ _ _ passed refl))
    (of_named _ scheme s known (worked_rounds scheme key nonce header input room opens w)))
