-- What the loops keep that correct the keys of the odd rounds: none is corrected, one more, those of two runs, and those that are
-- corrected for two cells. Assumes nothing.
use mathlib.Core.Path.{◌≡◌, refl, sym, ap, ◌∙◌, subst, subst⁻¹}
use mathlib.Core.Logic.{◌≢◌}
use Prim.Native.Nat.{ℕ, suc, ◌+◌, ◌*◌, ◌%◌, ◌<◌, ◌≤◌}
use mathlib.Core.List.{List, []}
use native.Mathlib.Decide.{dec_lt, ℕ_discrete}
use native.Mathlib.Nat.{le_antisymm}
use native.Mathlib.Numerals.{add-one}
use native.Mathlib.Omega.{arith}
use lib.ListN.{length, get_or, set, length-set}
use lib.Seq.{get_or-set_same, get_or-set_other}
use Rattle.schedule.specs.Sixteen.{times}
use Rattle.schedule.specs.Change.{cell_laid, corrected, OddRows, CellOn}

pub odd_none : {g : ℕ → List ℕ → List ℕ} {a : ℕ} {keys : List (List ℕ)} → OddRows g a a keys keys
odd_none = record { long = refl; odd = λ k h l. absurd (omega arith); front = λ k h. refl; behind = λ k h. refl; even = λ k. refl }

odd_more
    : {g : ℕ → List ℕ → List ℕ} {a b : ℕ} {before keys : List (List ℕ)} (i : ℕ)
    → i ≡ 2 * b + 1 → i < length before → a ≤ b → OddRows g a b before keys → OddRows g a (b + 1) before (set keys i (g b (get_or keys i [])))
odd_more {g} {a} {b} {before} {keys} i e h m s = record {
  long = length-set keys i row ∙ s.long;
  odd = λ k p q. elim (ℕ_discrete k b) [
    | yes z ↦ rw (z, sym e) (get_or-set_same keys i row [] (omega (arith, s.long)) ∙ ap (g b) (here i e))
    | no z ↦ other (2 * k + 1) (λ o. omega arith) ∙ s.odd k p (omega arith)
  ];
  front = λ k p. other (2 * k + 1) (λ o. omega arith) ∙ s.front k p;
  behind = λ k p. other (2 * k + 1) (λ o. omega arith) ∙ s.behind k (omega arith);
  even = λ k. other (2 * k) (λ o. omega arith) ∙ s.even k;
} where
  row : List ℕ
  row = g b (get_or keys i [])

  here : (j : ℕ) → j ≡ 2 * b + 1 → get_or keys j [] ≡ get_or before j []
  here j z = rw z (s.behind b (omega arith))

  other : (r : ℕ) → r ≢ i → get_or (set keys i row) r [] ≡ get_or keys r []
  other r = get_or-set_other keys i r row []

-- one run, and then another
pub odd_on
    : {g : ℕ → List ℕ → List ℕ} {a b c : ℕ} {k₀ k₁ k₂ : List (List ℕ)}
    → a ≤ b → b ≤ c → OddRows g a b k₀ k₁ → OddRows g b c k₁ k₂ → OddRows g a c k₀ k₂
odd_on {g} {a} {b} h l s r = record {
  long = r.long ∙ s.long;
  odd = λ k p q. elim (dec_lt k b) [
    | yes z ↦ r.front k z ∙ s.odd k p z
    | no z ↦ r.odd k (omega arith) q ∙ ap (g k) (s.behind k (omega arith))
  ];
  front = λ k p. r.front k (omega arith) ∙ s.front k p;
  behind = λ k p. r.behind k p ∙ s.behind k (omega arith);
  even = λ k. r.even k ∙ s.even k;
}

-- the same run twice
pub odd_both
    : {g h : ℕ → List ℕ → List ℕ} {a b : ℕ} {k₀ k₁ k₂ : List (List ℕ)}
    → OddRows g a b k₀ k₁ → OddRows h a b k₁ k₂ → OddRows (λ k r. h k (g k r)) a b k₀ k₂
odd_both {h = h} s r = record {
  long = r.long ∙ s.long;
  odd = λ k p q. r.odd k p q ∙ ap (h k) (s.odd k p q);
  front = λ k p. r.front k p ∙ s.front k p;
  behind = λ k p. r.behind k p ∙ s.behind k p;
  even = λ k. r.even k ∙ s.even k;
}

-- ---- the turn of a cell

module _ {f : ℕ → ℕ} {places : List ℕ} {i x : ℕ} {before : List (List ℕ)} where
  pub cell_none : CellOn f places i 0 x before x before
  cell_none = record { led = λ d e. let z : 8 * i + 0 ≡ 8 * i = omega arith in rw z (e, odd_none) }

  pub cell_more
      : {k y z : ℕ} {keys keys' : List (List ℕ)} → i < 6 → k < 8 → length before ≡ 97 → CellOn f places i k x before y keys
      → z ≡ f y → keys' ≡ cell_laid (16 * i + 2 * k + 1) (get_or places k 0) z keys → CellOn f places i (k + 1) x before z keys'
  cell_more {k} {y} {z} {keys} {keys'} hi hk l s e q = record {
    led = λ d o.
        let (ey, r) = s.led d o in
        let b = 8 * i + k in
        let j = 16 * i + 2 * k + 1 in
        let m : 8 * i + (k + 1) ≡ b + 1 = omega arith in
        let p : k ≡ b % 8 = omega arith in
        let w : z ≡ times f (suc b) d = e ∙ ap f ey in
        rw m (
          w ∙ ap (λ (c : ℕ). times f c d) (sym (add-one b)),
          subst⁻¹ (OddRows (corrected f places d) (8 * i) (b + 1) before)
              (q ∙ (λ v. cell_laid j (get_or places (p v) 0) (w v) keys))
              (odd_more j (omega arith) (omega arith) (omega arith) r),
        );
  }

  -- the loop has ended
  pub cell_all : {k y : ℕ} {keys : List (List ℕ)} → k ≤ 8 → 8 ≤ k → CellOn f places i k x before y keys → CellOn f places i 8 x before y keys
  cell_all {k} {y} {keys} h l s = subst (λ (m : ℕ). CellOn f places i m x before y keys) (le_antisymm h l) s

  -- and with it the turn
  pub cell_turn
      : {y d : ℕ} {keys : List (List ℕ)} → CellOn f places i 8 x before y keys
      → x ≡ times f (8 * i) d → (y ≡ times f (8 * (i + 1)) d) × OddRows (corrected f places d) (8 * i) (8 * (i + 1)) before keys
  cell_turn {d = d} s e = let m : 8 * (i + 1) ≡ 8 * i + 8 = omega arith in rw m (s.led d e)
