-- The array that `array::from_fn` makes by a closure which changes nothing holds the closure's number at each place. Assumes nothing.
use mathlib.Core.Path.{◌≡◌, sym, subst, ◌∙◌}
use mathlib.Core.List.{List}
use mathlib.Core.Logic.{inl, inr}
use Prim.Native.Nat.{ℕ, zero, suc, ◌+◌, ◌<◌, ◌≤◌}
use native.Mathlib.Nat.{eq-or-lt_of_le}
use native.Mathlib.Omega.{arith}
use denote.Param.Members.{Mut, Called}
use lib.ListN.{length, get_or}
use Rattle.std.proofs.lemmas.List.{ext_get_or}
use Rattle.std.specs.Array.{IsFromFnResult, IsFromFnResultFrom}

module _ {F : Type 0} (g : Mut F (ℕ × Unit {0}) ℕ) (h : ℕ → ℕ) {f : F} (ys : List ℕ) (calls : (i y : ℕ) (q : F) → Called g f (i, tt) y q → (q ≡ f) × (y ≡ h i)) where
  made_from : (n i k : ℕ) → IsFromFnResultFrom g f ys i n → i ≤ k → k < i + n → get_or ys k 0 ≡ h k
  made_from zero i k e low high = absurd (omega arith)
  made_from (suc n) i k (q, y, here, called, rest) low high =
      elim (eq-or-lt_of_le low) [
        | inl e ↦ rw (← e) (here.1 0 ∙ (calls i y q called).1)
        | inr l ↦ made_from n (i + 1) k (subst (λ (p : F). IsFromFnResultFrom g p ys (i + 1) n) (calls i y q called).0 rest) (omega arith) (omega arith)
      ]

  -- it is a list with those numbers
  pub made : {n : ℕ} → IsFromFnResult g f ys n → (xs : List ℕ) → length xs ≡ n → ((k : ℕ) → k < n → get_or xs k 0 ≡ h k) → ys ≡ xs
  made {n} e xs long at =
      ext_get_or 0 ys xs (e.long ∙ sym long)
      (λ k l. let m : k < n = omega (arith, e.long) in made_from n 0 k e.each (omega arith) (omega arith) ∙ sym (at k m))
