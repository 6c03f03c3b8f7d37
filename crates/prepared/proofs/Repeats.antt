-- A list that repeats: after its first p elements, each is as the one p places before it. A list is equal to such a one exactly where it
-- begins like it and repeats too. Assumes nothing.
use mathlib.Core.Path.{◌≡◌, refl, sym, ap, ap₂, ◌∙◌}
use mathlib.Core.Bool.{Bool, true, false, ◌&&◌, true≢false}
use mathlib.Core.List.{List}
use Prim.Native.Nat.{ℕ, zero, suc, ◌+◌, ◌-◌, ◌<◌, ◌≤◌}
use native.Mathlib.Decide.{dec_lt}
use native.Mathlib.Omega.{arith}
use lib.ListN.{length, get_or, take, drop, length-drop}
use lib.Seq.{ext_get_or, get_or-take, get_or-drop, length-take-le}
use Rattle.modes.specs.Blocks.{same}
use Rattle.modes.proofs.Bytes.{same_eq, same_refl}

-- ---- tests

pub and_true : (a b : Bool) → (a && b) ≡ true → (a ≡ true) × (b ≡ true)
and_true true b e = (refl, e)
and_true false b e = absurd (true≢false (sym e))

-- two tests of which each holds where the other does
one_test : (a b : Bool) → (a ≡ true → b ≡ true) → (b ≡ true → a ≡ true) → a ≡ b
one_test true b f g = sym (f refl)
one_test false true f g = g refl
one_test false false f g = refl

pub same_if : {a b : List ℕ} → a ≡ b → same a b ≡ true
same_if {a} {b} e = ap (λ (l : List ℕ). same l b) e ∙ same_refl b

-- ---- s repeats after p elements, of p + m

module _ (p m : ℕ) (s : List ℕ) (long : length s ≡ p + m) (again : (i : ℕ) → i < m → get_or s (p + i) 0 ≡ get_or s i 0) where
  own : drop p s ≡ take m s
  own =
      let l : m ≤ length s = omega arith in
      let d : length (drop p s) ≡ m = length-drop p s ∙ omega arith in
      ext_get_or 0 (drop p s) (take m s) (d ∙ sym (length-take-le m s l))
      (λ i h. let q : i < m = omega (arith, d) in get_or-drop p s i 0 ∙ again i q ∙ sym (get_or-take m s i 0 q))

  module _ (t : List ℕ) (whole : length t ≡ p + m) where
    -- place by place: at the front as s is, and from there as p places before
    along : 0 < p → take p t ≡ take p s → drop p t ≡ take m t → (n i : ℕ) → i < n → i < p + m → get_or t i 0 ≡ get_or s i 0
    along z e f zero i h l = absurd (omega arith)
    along z e f (suc n) i h l = elim (dec_lt i p) [
      | yes a ↦ sym (get_or-take p t i 0 a) ∙ ap (λ (x : List ℕ). get_or x i 0) e ∙ get_or-take p s i 0 a
      | no a ↦
          let j : p + (i - p) ≡ i = omega arith in
          let q : i - p < m = omega arith in
          ap (λ (k : ℕ). get_or t k 0) (sym j) ∙ sym (get_or-drop p t (i - p) 0) ∙ ap (λ (x : List ℕ). get_or x (i - p) 0) f ∙ get_or-take m t (i - p) 0 q
          ∙ along z e f n (i - p) (omega arith) (omega arith) ∙ sym (again (i - p) q) ∙ ap (λ (k : ℕ). get_or s k 0) j
    ]

    pub repeats : 0 < p → same t s ≡ (same (take p t) (take p s) && same (drop p t) (take m t))
    repeats z = one_test (same t s) (same (take p t) (take p s) && same (drop p t) (take m t))
        (λ e. let q = same_eq t s e in
        ap₂ ◌&&◌ (same_if (ap (take p) q)) (same_if (ap (drop p) q ∙ own ∙ sym (ap (take m) q))))
        (λ e. let (u, v) = and_true (same (take p t) (take p s)) (same (drop p t) (take m t)) e in
        same_if (ext_get_or 0 t s (whole ∙ sym long)
        (λ i h. along z (same_eq (take p t) (take p s) u) (same_eq (drop p t) (take m t) v) (suc i) i (omega arith) (omega (arith, whole)))))
