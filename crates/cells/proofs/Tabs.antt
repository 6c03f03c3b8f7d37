-- What is known of the values of a function in a list: the list's elements and length, when two are the same, and that a list is that of
-- its own elements. Assumes nothing.
use mathlib.Core.Path.{◌≡◌, refl, sym, ap, ◌∙◌}
use mathlib.Core.List.{List, ◌∷◌}
use Prim.Native.Nat.{ℕ, zero, suc, ◌+◌, ◌<◌, ◌≤◌}
use native.Mathlib.Nat.{add-zero, zero-add, add-suc, suc-add, le_of_suc-le-suc, not-suc-le-zero}
use native.Mathlib.Omega.{arith}
use lib.ListN.{length, get_or, take}
use lib.Seq.{ext_get_or, get_or-take, length-take-le, take_all}
use Rattle.cells.specs.Cells.{Width, size, LowCells}
use Rattle.cells.specs.Tabs.{tab}
use Rattle.cells.proofs.Laws.{small_low}

-- a constant array that equals the list by computation has f's value at each place
module _ {A : Type 0} where
  tab_from : (d : A) (f : ℕ → A) (n i k : ℕ) → k < n → get_or (tab f i n) k d ≡ f (i + k)
  tab_from d f zero i k h = absurd (not-suc-le-zero h)
  tab_from d f (suc n) i zero h = ap f (sym (add-zero i))
  tab_from d f (suc n) i (suc k) h = tab_from d f n (suc i) k (le_of_suc-le-suc h) ∙ ap f (suc-add i k ∙ sym (add-suc i k))

  pub tab_at : (d : A) (f : ℕ → A) (n k : ℕ) → k < n → get_or (tab f 0 n) k d ≡ f k
  tab_at d f n k h = tab_from d f n 0 k h ∙ ap f (zero-add k)

-- ---- of numbers

pub table : (f : ℕ → ℕ) (n k : ℕ) → k < n → get_or (tab f 0 n) k 0 ≡ f k
table = tab_at 0

pub tab_long : (f : ℕ → ℕ) (n i : ℕ) → length (tab f i n) ≡ n
tab_long f zero i = refl
tab_long f (suc n) i = ap suc (tab_long f n (suc i))

-- two functions with the same values have the same list
pub tab_same : (f g : ℕ → ℕ) (n i : ℕ) → ((j : ℕ) → j < i + n → f j ≡ g j) → tab f i n ≡ tab g i n
tab_same f g zero i e = refl
tab_same f g (suc n) i e = λ k. e i (omega arith) k ∷ tab_same f g n (suc i) (λ j h. e j (omega arith)) k

-- and the other way round: what antt computes at each of n places
pub agree : (f g : ℕ → ℕ) (n : ℕ) → tab f 0 n ≡ tab g 0 n → (j : ℕ) → j < n → f j ≡ g j
agree f g n e j h = sym (table f n j h) ∙ ap (λ (l : List ℕ). get_or l j 0) e ∙ table g n j h

-- the first n of a list, place by place
pub spelled : (l : List ℕ) (n : ℕ) → n ≤ length l → tab (λ (k : ℕ). get_or l k 0) 0 n ≡ take n l
spelled l n h =
    ext_get_or 0 (tab (λ (k : ℕ). get_or l k 0) 0 n) (take n l) (tab_long (λ k. get_or l k 0) n 0 ∙ sym (length-take-le n l h))
    (λ k p. let q : k < n = omega (arith, tab_long (λ k. get_or l k 0) n 0) in table (λ k. get_or l k 0) n k q ∙ sym (get_or-take n l k 0 q))

-- all of it
pub spelled_all : (l : List ℕ) (n : ℕ) → length l ≡ n → tab (λ (k : ℕ). get_or l k 0) 0 n ≡ l
spelled_all l n e = spelled l n (omega arith) ∙ take_all n l (omega arith)

-- values that are cells make a list of cells
pub tab_low : (w : Width) (f : ℕ → ℕ) → ((k : ℕ) → f k < size w) → (n i : ℕ) → LowCells w (tab f i n)
tab_low w f h zero i k = small_low w 0 (omega arith)
tab_low w f h (suc n) i zero = h i
tab_low w f h (suc n) i (suc k) = tab_low w f h n (suc i) k
