-- Where a cell of the tweakey comes from, so many rounds on: its trail. Over the width and the number of words. Assumes nothing.
use mathlib.Core.Path.{◌≡◌, refl, ap, ◌∙◌}
use Prim.Native.Nat.{ℕ, zero, suc, ◌<◌, ◌/◌, ◌%◌}
use mathlib.Core.List.{List}
use lib.Dec.{T, ltb, ltb→lt}
use lib.ListN.{get_or}
use Rattle.cells.specs.Cells.{Width, Words, Two, Three, step2, step3}
use Rattle.cells.specs.Tabs.{tab}
use Rattle.cells.proofs.Below.{every, below}
use Rattle.cells.proofs.Tabs.{table}
use Rattle.schedule.specs.declared.Tweakey.{Tweakey}
use Rattle.schedule.specs.Schedule.{permuted_words, stepped, next_cells, advance}
use Rattle.schedule.specs.Sixteen.{standing}

-- a cell of a word, stepped as this word is: word 1 is not, nor is a word that is not there
abbrev step_in : Width → Words → ℕ → ℕ → ℕ
step_in w n zero x = x
step_in w n (suc zero) x = step2 w x
step_in w Two (suc (suc k)) x = x
step_in w Three (suc (suc k)) x = step3 w x

-- where the cell at j of the permuted words comes from: the words of the numbers 0 to 47, permuted, say it
abbrev pub origin : Words → ℕ → ℕ
origin n j = get_or (permuted_words n (tab (λ (k : ℕ). k) 0 48)) j 0

-- a cell that a round moved into this half of this word: in the upper half, zero, it is stepped
abbrev in_half : Width → Words → ℕ → ℕ → ℕ → ℕ
in_half w n word zero x = step_in w n word x
in_half w n word (suc k) x = x

abbrev arrived : Width → Words → ℕ → ℕ → ℕ
arrived w n j x = in_half w n (j / 16) (j % 16 / 8) x

-- the cell at j, m rounds on
abbrev pub trail : Width → Words → ℕ → List ℕ → ℕ → ℕ
trail w n zero t j = get_or t j 0
trail w n (suc m) t j = arrived w n j (trail w n m t (origin n j))

-- what stays below n at every number below n, by one computed test
pub stays : (f : ℕ → ℕ) (n : ℕ) → T (every (λ (i : ℕ). ltb (f i) n) 0 n) → (j : ℕ) → j < n → f j < n
stays f n t j h = ltb→lt (f j) n (below (λ (i : ℕ). ltb (f i) n) n t j h)

module _ (w : Width) where
  -- a round, cell by cell
  next_cells_lem : (n : Words) (t : List ℕ) → next_cells w n t ≡ tab (trail w n 1 t) 0 48
  unfolding next_cells stepped
  next_cells_lem Two t = refl
  next_cells_lem Three t = refl

  origin_low : (n : Words) (j : ℕ) → j < 48 → origin n j < 48
  origin_low Two = stays (origin Two) 48 tt
  origin_low Three = stays (origin Three) 48 tt

  -- each cell is where its trail says
  pub on_trail : (n : Words) (m : ℕ) (t : Tweakey) (j : ℕ) → j < 48 → get_or (advance w n m t).cells j 0 ≡ trail w n m t.cells j
  unfolding advance
  on_trail n zero t j h = refl
  on_trail n (suc m) t j h =
      ap (λ (l : List ℕ). get_or l j 0) (next_cells_lem n (advance w n m t).cells) ∙ table (trail w n 1 (advance w n m t).cells) 48 j h
      ∙ ap (arrived w n j) (on_trail n m t (origin n j) (origin_low n j h))

  -- the cells' trails over sixteen rounds, computed
  pub trails : (n : Words) (t : List ℕ) → tab (trail w n 16 t) 0 48 ≡ standing w n 8 t
  unfolding standing
  trails Two t = refl
  trails Three t = refl
