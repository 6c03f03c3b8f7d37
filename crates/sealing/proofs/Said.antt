-- The number that a call tells (C-11): 1 where no scheme is named, else what the checks answer, and behind them 6 for a run that is
-- not authentic.
--     said, said_1             from a scheme's number to the call's
--     after_check, _0, _6      which numbers come from the checks, and which behind them
--     short_is, forged_is, ..  what only an open can have
-- Assumes nothing.
use mathlib.Core.Path.{◌≡◌, refl, sym, ap, subst, ◌∙◌}
use Prim.Native.Nat.{ℕ, zero, suc, ◌+◌, ◌-◌, ◌≤◌, ◌<◌}
use native.Mathlib.Omega.{arith}
use mathlib.Core.Logic.Iff
use mathlib.Core.Logic.{◌↔◌}
use mathlib.Core.Bool.{Bool, true, false, not, cond, true≢false, false≢true}
use mathlib.Core.List.{List}
use lib.Dec.{eqb}
use lib.ListN.{length}
use borrow.Author.Tests.{eqb-false, ltb-true, ltb-false, lt-ltb, le-ltb, not-true, not-false}
use Rattle.ciphers.specs.Ciphers.{block_of}
use Rattle.cells.proofs.Choice.{either}
use Rattle.schemes.specs.declared.Scheme.{Scheme}
use Rattle.std.specs.Prelude.{Option, Some, None}
use Rattle.schemes.specs.Schemes.{scheme_of, Under}
use Rattle.schemes.specs.Checks.{body_in, short_in, more_in, checked}
use Rattle.schemes.proofs.Passed.{check_never}
use Rattle.sealing.specs.Calls.{Told, done, forged, passed, under, opened, open_rounds, seal_under, open_under, seal_of, open_of}
use Rattle.sealing.specs.Numbers.{answered}

-- ---- under a scheme: c is what the checks answer, f whether it is a forged run

abbrev pub after : ℕ → Bool → ℕ
after zero f = cond f 6 0
after (suc c) f = suc c

pub after_check : (c : ℕ) (f : Bool) (k : ℕ) → eqb 0 k ≡ false → eqb 6 k ≡ false → (after c f ≡ k) ↔ (c ≡ k)
after_check zero f k not_0 not_6 = (
  λ e. absurd (either (λ (n : ℕ). n ≡ k → ⊥) f 6 0 (eqb-false 6 k not_6) (eqb-false 0 k not_0) e),
  λ e. absurd (eqb-false 0 k not_0 e),
)
after_check (suc c) f k not_0 not_6 = (λ e. e, λ e. e)

pub after_0 : (c : ℕ) (f : Bool) → (after c f ≡ 0) ↔ ((c ≡ 0) × (f ≡ false))
after_0 zero true = (λ e. absurd (omega arith), λ t. absurd (true≢false t.1))
after_0 zero false = (λ _. (refl, refl), λ _. refl)
after_0 (suc c) f = (λ e. absurd (omega arith), λ t. absurd (omega (arith, t.0)))

pub after_6 : (c : ℕ) (f : Bool) → (c ≡ 6 → ⊥) → (after c f ≡ 6) ↔ ((c ≡ 0) × (f ≡ true))
after_6 zero true none = (λ _. (refl, refl), λ _. refl)
after_6 zero false none = (λ e. absurd (omega arith), λ t. absurd (false≢true t.1))
after_6 (suc c) f none = (λ e. absurd (none e), λ t. absurd (omega (arith, t.0)))

passed_number : (c : ℕ) (t : Told) (room : List ℕ) (f : Bool) → t.number ≡ cond f 6 0 → (passed c t room).number ≡ after c f
passed_number zero t room f e = e
passed_number (suc c) t room f e = refl

judged_number : (a : Bool) (r l : ℕ) (out room : List ℕ) → (cond a (done r l out room) (forged r l room)).number ≡ cond (not a) 6 0
judged_number true r l out room = refl
judged_number false r l out room = refl

-- ---- under what a number names

-- `number` is what is told under it, and 1 where it is no scheme
module _ (number : Option Scheme → ℕ) (one : number None ≡ 1) (m : Option Scheme) where
  pub under_says : (k : ℕ) → (1 ≡ k → ⊥) → (number m ≡ k) ↔ ((s : Scheme) × (m ≡ Some s) × (number (Some s) ≡ k))
  under_says k h = (to m, λ t. subst (λ (m : Option Scheme). number m ≡ k) (sym t.1) t.2)
    where
      to : (m : Option Scheme) → number m ≡ k → (s : Scheme) × (m ≡ Some s) × (number (Some s) ≡ k)
      to (Some s) e = (s, refl, e)
      to None e = absurd (h (sym one ∙ e))

  pub under_1 : ((s : Scheme) → number (Some s) ≡ 1 → ⊥) → (number m ≡ 1) ↔ (m ≡ None)
  under_1 none = (to m, λ e. ap number e ∙ one)
    where
      to : (m : Option Scheme) → number m ≡ 1 → m ≡ None
      to (Some s) e = absurd (none s e)
      to None e = refl

pub under_each : (number : ℕ) (P Q : Scheme → Type 0) → ((s : Scheme) → P s ↔ Q s) → Under number P ↔ Under number Q
under_each number P Q f = (λ t. (t.0, t.1, (f t.0).0 t.2), λ t. (t.0, t.1, (f t.0).1 t.2))

-- ---- what only an open can have: a run shorter than a block, and one that is not authentic

module _ (s : Scheme) (input : ℕ) where
  pub short_is : (opens : Bool) → (short_in opens s input ≡ true) ↔ ((opens ≡ true) × (input < block_of s.cipher))
  short_is false = (λ e. absurd (false≢true e), λ t. t.0)
  short_is true = (λ e. (refl, ltb-true _ _ e), λ t. lt-ltb _ _ t.1)

  pub long_is : (opens : Bool) → (short_in opens s input ≡ false) ↔ (opens ≡ true → block_of s.cipher ≤ input)
  long_is false = (λ _ o. absurd (false≢true o), λ _. refl)
  long_is true = (λ e _. ltb-false _ _ e, λ h. le-ltb _ _ (h refl))

  -- a short run has no body, so that none is too long and no room too short for it
  pub short_fits : (opens : Bool) → short_in opens s input ≡ true → body_in opens s input ≤ s.body
  short_fits false e = absurd (false≢true e)
  short_fits true e = omega (arith, ltb-true input (block_of s.cipher) e)

  pub not_short : (opens : Bool) (room : ℕ) → room < body_in opens s input + more_in opens s → short_in opens s input ≡ false
  not_short false room h = refl
  not_short true room h = le-ltb input (block_of s.cipher) (omega arith)

abbrev pub forged_in : (opens authentic : Bool) → Bool
forged_in false a = false
forged_in true a = not a

pub forged_is : (opens a : Bool) → (forged_in opens a ≡ true) ↔ ((opens ≡ true) × (a ≡ false))
forged_is false a = (λ e. absurd (false≢true e), λ t. t.0)
forged_is true a = (λ e. (refl, not-true a e), λ t. ap not t.1)

pub not_forged : (opens a : Bool) → (forged_in opens a ≡ false) ↔ (opens ≡ true → a ≡ true)
not_forged false a = (λ _ e. absurd (false≢true e), λ _. refl)
not_forged true a = (λ e _. not-false a e, λ h. ap not (h refl))

-- ---- the call's number

module _ (key nonce header input room : List ℕ) where
  abbrev check_in : (opens : Bool) → Scheme → ℕ
  check_in opens s = checked opens s (length key) (length nonce) (length header) (length input) (length room)

  abbrev pub number_in : (opens : Bool) → Scheme → ℕ
  number_in opens s = after (check_in opens s) (forged_in opens (opened s key nonce header input).authentic)

  abbrev call : (opens : Bool) → Scheme → Told
  call false s = seal_under s key nonce header input room
  call true s = open_under s key nonce header input room

  call_number : (opens : Bool) (s : Scheme) → (call opens s).number ≡ number_in opens s
  unfolding seal_under open_under
  call_number false s = passed_number (check_in false s) _ room false refl
  call_number true s =
      let o = opened s key nonce header input in
      passed_number (check_in true s) _ room (not o.authentic) (judged_number o.authentic (open_rounds s key nonce header input) (length input - block_of s.cipher) o.body room)

  -- under what a number names, as `answered` has it
  abbrev told_under : (opens : Bool) → Option Scheme → ℕ
  told_under opens m = (under m (call opens) room).number

  by_name : (opens : Bool) (scheme : ℕ)
      → (answered opens scheme key nonce header input room).number ≡ told_under opens (scheme_of scheme)
  unfolding seal_of open_of
  by_name false scheme = refl
  by_name true scheme = refl

  module _ (opens : Bool) (scheme : ℕ) where
    abbrev answer : ℕ
    answer = (answered opens scheme key nonce header input room).number

    pub said : (k : ℕ) → eqb 1 k ≡ false → (Q : Scheme → Type 0) → ((s : Scheme) → (number_in opens s ≡ k) ↔ Q s) → (answer ≡ k) ↔ Under scheme Q
    said k not-1 Q f =
        let u = under_says (told_under opens) refl (scheme_of scheme) k (eqb-false 1 k not-1) in
        Iff.trans (λ e. u.0 (sym (by_name opens scheme) ∙ e), λ t. by_name opens scheme ∙ u.1 t)
        (under_each scheme (λ s. (call opens s).number ≡ k) Q λ s.
        (λ e. (f s).0 (sym (call_number opens s) ∙ e), λ q. call_number opens s ∙ (f s).1 q))

    pub said_1 : (answer ≡ 1) ↔ (scheme_of scheme ≡ None)
    said_1 =
        let u = under_1 (told_under opens) refl (scheme_of scheme) λ s e.
        check_never s _ _ _ _ _ _ _ 1 refl ((after_check (check_in opens s) _ 1 refl refl).0 (sym (call_number opens s) ∙ e)) in
        (λ e. u.0 (sym (by_name opens scheme) ∙ e), λ t. by_name opens scheme ∙ u.1 t)
