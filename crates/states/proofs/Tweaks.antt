-- Tweaks as the code makes them: one or two bytes stored behind the nonce, or behind zeros. Assumes nothing.
use mathlib.Core.Path.{◌≡◌, refl, sym, ap, ◌∙◌}
use mathlib.Core.List.{List, [], ◌∷◌, ◌++◌}
use Prim.Native.Nat.{ℕ, suc, ◌+◌, ◌-◌, ◌≤◌, ◌<◌}
use native.Mathlib.Numerals.{add-one}
use native.Mathlib.Omega.{arith}
use lib.ListN.{length, take, set, replicate, length-replicate, replicate-append-replicate}
use lib.Seq.{take_all, set_at, take-append-add}

-- what `front` made of the whole nonce
module _ (nonce r : List ℕ) (e : r ≡ take (length nonce) nonce ++ replicate (16 - length nonce) 0) where
  abbrev k : ℕ
  k = length nonce

  -- with one byte stored behind it
  first : (v : ℕ) → k < 16 → set r k v ≡ nonce ++ v ∷ replicate (15 - k) 0
  first v h =
      let z : 16 - k ≡ suc (15 - k) = omega arith in
      let f : r ≡ nonce ++ 0 ∷ replicate (15 - k) 0 = e ∙ rw (take_all k nonce (omega arith), z) in
      ap (λ (l : List ℕ). set l k v) f ∙ set_at nonce 0 (replicate (15 - k) 0) v k refl

  pub one_behind : (v : ℕ) → k + 1 ≤ 16 → take (k + 1) (set r k v) ≡ nonce ++ v ∷ []
  one_behind v h = ap (take (k + 1)) (first v (omega arith)) ∙ take-append-add nonce (v ∷ replicate (15 - k) 0) 1

  -- and a second one
  second : (l : List ℕ) (a z b : ℕ) (q : List ℕ) → set (l ++ a ∷ z ∷ q) (suc (length l)) b ≡ l ++ a ∷ b ∷ q
  second [] a z b q = refl
  second (x ∷ l) a z b q = ap (λ (m : List ℕ). x ∷ m) (second l a z b q)

  pub two_behind : (a b : ℕ) → k + 2 ≤ 16 → take (k + 2) (set (set r k a) (k + 1) b) ≡ nonce ++ a ∷ b ∷ []
  two_behind a b h =
      let z : 15 - k ≡ suc (14 - k) = omega arith in
      ap (take (k + 2))
      (ap (λ (l : List ℕ). set l (k + 1) b) (first a (omega arith)) ∙ rw (z, add-one k) (second nonce a 0 b (replicate (14 - k) 0)))
      ∙ take-append-add nonce (a ∷ b ∷ replicate (14 - k) 0) 2

-- a byte behind k zeros
pub one_behind_zeros : (k v : ℕ) → k + 1 ≤ 16 → take (k + 1) (set (replicate 16 0) k v) ≡ replicate k 0 ++ v ∷ []
one_behind_zeros k v h =
    let e : 16 ≡ k + suc (15 - k) = omega arith in
    let l : length {A = ℕ} (replicate k 0) ≡ k = length-replicate k 0 in
    ap (λ (m : ℕ). take (k + 1) (set (replicate m 0) k v)) e
    ∙ ap (λ (m : List ℕ). take (k + 1) (set m k v)) (sym (replicate-append-replicate k (suc (15 - k)) 0))
    ∙ ap (take (k + 1)) (set_at (replicate k 0) 0 (replicate (15 - k) 0) v k l)
    ∙ ap (λ (j : ℕ). take (j + 1) (replicate k 0 ++ v ∷ replicate (15 - k) 0)) (sym l)
    ∙ take-append-add (replicate k 0) (v ∷ replicate (15 - k) 0) 1
