-- What the schedule makes of cells are cells, over the width. Assumes nothing.
use Prim.Native.Nat.{ℕ, zero, suc, ◌+◌, ◌/◌, ◌%◌, ◌<◌}
use mathlib.Core.List.{List, [], ◌∷◌}
use native.Mathlib.Omega.{arith}
use lib.ListN.{get_or, set}
use lib.Bits.{bit_xor}
use Rattle.cells.specs.Cells.{Width, Words, Two, Three, size, step2, step3, LowCells}
use Rattle.cells.proofs.Laws.{step2_law, step3_law, xor_low, small_low}
use Rattle.cells.proofs.Tabs.{tab_low}
use Rattle.schedule.specs.declared.Tweakey.{Tweakey}
use Rattle.constants.specs.Constants.{constant, constant_row}
use Rattle.schedule.specs.Schedule.{key_cell, round_key, xor_row, permuted_words, stepped, next_cells, advance}
use Rattle.schedule.proofs.Trails.{origin}

pub constant_low : (q : ℕ) → constant q < 128
unfolding constant
constant_low q = omega arith

module _ (w : Width) where
  set_low : (t : List ℕ) (i v : ℕ) → v < size w → LowCells w t → LowCells w (set t i v)
  set_low [] i v p h k = h k
  set_low (x ∷ t) zero v p h zero = p
  set_low (x ∷ t) zero v p h (suc k) = h (suc k)
  set_low (x ∷ t) (suc i) v p h zero = h zero
  set_low (x ∷ t) (suc i) v p h (suc k) = set_low t i v p (λ j. h (suc j)) k

  stepped_low : (f : ℕ → ℕ) → ((x : ℕ) → x < size w → f x < size w) → (o m : ℕ) (t : List ℕ) → LowCells w t → LowCells w (stepped f o m t)
  unfolding stepped
  stepped_low f hf o zero t h = h
  stepped_low f hf o (suc m) t h = let l = stepped_low f hf o m t h in set_low (stepped f o m t) (o + m) _ (hf _ (l (o + m))) l

  permuted_low : (n : Words) (t : List ℕ) → LowCells w t → LowCells w (permuted_words n t)
  permuted_low Two t h = tab_low w _ (λ j. h (origin Two j)) 48 0
  permuted_low Three t h = tab_low w _ (λ j. h (origin Three j)) 48 0

  cell_low : (n : Words) (t : List ℕ) → LowCells w t → (k : ℕ) → key_cell n t k < size w
  cell_low Two t h k = xor_low w _ _ (h k) (h (16 + k))
  cell_low Three t h k = xor_low w _ _ (xor_low w _ _ (h k) (h (16 + k))) (h (32 + k))

  pub next_low : (n : Words) (t : List ℕ) → LowCells w t → LowCells w (next_cells w n t)
  unfolding next_cells
  next_low Two t h = stepped_low (step2 w) (step2_law w).low 16 8 _ (permuted_low Two t h)
  next_low Three t h =
      stepped_low (step3 w) (step3_law w).low 32 8 _ (stepped_low (step2 w) (step2_law w).low 16 8 _ (permuted_low Three t h))

  pub advance_low : (n : Words) (m : ℕ) (t : Tweakey) → LowCells w t.cells → LowCells w (advance w n m t).cells
  unfolding advance
  advance_low n zero t h = h
  advance_low n (suc m) t h = next_low n (advance w n m t).cells (advance_low n m t h)

  pub key_low : (n : Words) (t : List ℕ) → LowCells w t → LowCells w (round_key n t)
  unfolding round_key
  key_low n t h = tab_low w (key_cell n t) (cell_low n t h) 8 0

  -- what a round adds, constant and key
  pub row_low : (k : ℕ) (r : List ℕ) → k < 128 → LowCells w r → LowCells w (xor_row (constant_row k) r)
  row_low k r h l = tab_low w (λ j. bit_xor (get_or (constant_row k) j 0) (get_or r j 0)) (λ j. xor_low w _ _ (parts j) (l j)) 8 0 where
    zeros : (j : ℕ) → get_or (0 ∷ 0 ∷ 0 ∷ []) j 0 < size w
    zeros zero = small_low w 0 (omega arith)
    zeros (suc zero) = small_low w 0 (omega arith)
    zeros (suc (suc zero)) = small_low w 0 (omega arith)
    zeros (suc (suc (suc j))) = small_low w 0 (omega arith)

    parts : LowCells w (constant_row k)
    parts zero = small_low w (k % 16) (omega arith)
    parts (suc zero) = small_low w 0 (omega arith)
    parts (suc (suc zero)) = small_low w 2 (omega arith)
    parts (suc (suc (suc zero))) = small_low w 0 (omega arith)
    parts (suc (suc (suc (suc zero)))) = small_low w (k / 16) (omega arith)
    parts (suc (suc (suc (suc (suc j))))) = zeros j
