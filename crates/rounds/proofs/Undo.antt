-- A round undone, and a round back undone: each step undoes its step back, over the width; and what a step makes of cells are cells.
-- Assumes nothing.
use mathlib.Core.Path.{◌≡◌, refl, ap, ◌∙◌}
use mathlib.Core.List.{List}
use Prim.Native.Nat.{ℕ, zero, suc, ◌+◌, ◌/◌, ◌%◌, ◌<◌}
use native.Mathlib.Omega.{arith}
use lib.ListN.{get_or}
use Rattle.cells.specs.Cells.{Width, size, sub, unsub, LowCells}
use Rattle.cells.proofs.Below.{Undoes}
use Rattle.cells.proofs.Laws.{sub_law, unsub_law, xor_low, small_low}
use Rattle.cells.proofs.Xor.{xor_first, xor_last, xor_outer, xor_inner}
use Rattle.rounds.specs.State.{State, cell, four, row, grid, sub_by, add_constants, add_tweakey, shift_rows, unshift_rows, mix_columns, unmix_columns, round, unround}

-- the state has four rows of four cells
abbrev pub Square : State → Type 0
Square s = grid (cell s) ≡ s

-- each cell is of the width: past the ends a cell counts as 0
abbrev pub Low : Width → State → Type 0
Low w s = (i j : ℕ) → cell s i j < size w

-- a state of four rows of four cells of the width
pub record Cells (w : Width) (s : State) : Type 0 where
  pub low : Low w s
  pub square : Square s

-- ---- each step undone

unmix_mix : (s : State) → unmix_columns (mix_columns s) ≡ grid (cell s)
unmix_mix s = simp (xor_first, xor_last, xor_outer)

mix_unmix : (s : State) → mix_columns (unmix_columns s) ≡ grid (cell s)
mix_unmix s = simp (xor_first, xor_last, xor_inner)

tweakey_tweakey : (t : List ℕ) (s : State) → add_tweakey t (add_tweakey t s) ≡ grid (cell s)
tweakey_tweakey t s = simp xor_last

constants_constants : (k : ℕ) (s : State) → add_constants k (add_constants k s) ≡ grid (cell s)
constants_constants k s = simp xor_last

-- the cells by f and then by g, which undoes it
sub_back : (w : Width) (f g : ℕ → ℕ) → Undoes (size w) f g → (s : State) → Low w s → sub_by g (sub_by f s) ≡ grid (cell s)
sub_back w f g u s h = simp (u.back, h)

-- ---- what the steps make of cells are cells

low_row : (n a b c d : ℕ) → a < n → b < n → c < n → d < n → (j : ℕ) → get_or (four a b c d) j 0 < n
low_row n a b c d ha hb hc hd zero = ha
low_row n a b c d ha hb hc hd (suc zero) = hb
low_row n a b c d ha hb hc hd (suc (suc zero)) = hc
low_row n a b c d ha hb hc hd (suc (suc (suc zero))) = hd
low_row n a b c d ha hb hc hd (suc (suc (suc (suc j)))) = omega arith

low_rows : (n : ℕ) (a b c d : List ℕ) → 0 < n → ((j : ℕ) → get_or a j 0 < n) → ((j : ℕ) → get_or b j 0 < n)
    → ((j : ℕ) → get_or c j 0 < n) → ((j : ℕ) → get_or d j 0 < n) → (i j : ℕ) → cell (four a b c d) i j < n
low_rows n a b c d p ha hb hc hd zero j = ha j
low_rows n a b c d p ha hb hc hd (suc zero) j = hb j
low_rows n a b c d p ha hb hc hd (suc (suc zero)) j = hc j
low_rows n a b c d p ha hb hc hd (suc (suc (suc zero))) j = hd j
low_rows n a b c d p ha hb hc hd (suc (suc (suc (suc i)))) j = p

-- of a row that is made column by column
low_cols : (n : ℕ) (f : ℕ → ℕ) → ((j : ℕ) → f j < n) → (j : ℕ) → get_or (row f) j 0 < n
low_cols n f h = low_row n (f 0) (f 1) (f 2) (f 3) (h 0) (h 1) (h 2) (h 3)

-- of a state that is made cell by cell
pub low_grid : (n : ℕ) (f : ℕ → ℕ → ℕ) → ((i j : ℕ) → f i j < n) → (i j : ℕ) → cell (grid f) i j < n
low_grid n f h =
    low_rows n (row (f 0)) (row (f 1)) (row (f 2)) (row (f 3)) (let z : f 0 0 < n = h 0 0 in omega arith) (low_cols n (f 0) (h 0)) (low_cols n (f 1) (h 1))
    (low_cols n (f 2) (h 2)) (low_cols n (f 3) (h 3))

module _ (w : Width) where
  pos : 0 < size w
  pos = small_low w 0 (omega arith)

  rows : (a b c d : List ℕ) → LowCells w a → LowCells w b → LowCells w c → LowCells w d → Low w (four a b c d)
  rows a b c d = low_rows (size w) a b c d pos

  cols : (f : ℕ → ℕ) → ((j : ℕ) → f j < size w) → LowCells w (row f)
  cols f = low_cols (size w) f

  quad : {a b c d : ℕ} → a < size w → b < size w → c < size w → d < size w → LowCells w (four a b c d)
  quad {a} {b} {c} {d} = low_row (size w) a b c d

  low_sub : (f g : ℕ → ℕ) → Undoes (size w) f g → (s : State) → Low w s → Low w (sub_by f s)
  low_sub f g u s h =
      rows _ _ _ _ (cols _ (λ j. u.low _ (h 0 j))) (cols _ (λ j. u.low _ (h 1 j))) (cols _ (λ j. u.low _ (h 2 j))) (cols _ (λ j. u.low _ (h 3 j)))

  low_constants : (k : ℕ) (s : State) → k < 128 → Low w s → Low w (add_constants k s)
  low_constants k s hk h =
      rows _ _ _ _ (quad (xor_low w _ _ (h 0 0) (small_low w (k % 16) (omega arith))) (h 0 1) (xor_low w _ _ (h 0 2) (small_low w 2 (omega arith))) (h 0 3))
      (quad (xor_low w _ _ (h 1 0) (small_low w (k / 16) (omega arith))) (h 1 1) (h 1 2) (h 1 3))
      (quad (xor_low w _ _ (h 2 0) (small_low w 2 (omega arith))) (h 2 1) (h 2 2) (h 2 3))
      (cols _ (h 3))

  low_tweakey : (t : List ℕ) (s : State) → LowCells w t → Low w s → Low w (add_tweakey t s)
  low_tweakey t s ht h =
      rows _ _ _ _ (cols _ (λ j. xor_low w _ _ (h 0 j) (ht j))) (cols _ (λ j. xor_low w _ _ (h 1 j) (ht (4 + j))))
      (cols _ (h 2)) (cols _ (h 3))

  low_shift : (s : State) → Low w s → Low w (shift_rows s)
  low_shift s h =
      rows _ _ _ _ (cols _ (h 0)) (quad (h 1 3) (h 1 0) (h 1 1) (h 1 2)) (quad (h 2 2) (h 2 3) (h 2 0) (h 2 1)) (quad (h 3 1) (h 3 2) (h 3 3) (h 3 0))

  low_unshift : (s : State) → Low w s → Low w (unshift_rows s)
  low_unshift s h =
      rows _ _ _ _ (cols _ (h 0)) (quad (h 1 1) (h 1 2) (h 1 3) (h 1 0)) (quad (h 2 2) (h 2 3) (h 2 0) (h 2 1)) (quad (h 3 3) (h 3 0) (h 3 1) (h 3 2))

  low_mix : (s : State) → Low w s → Low w (mix_columns s)
  low_mix s h =
      rows _ _ _ _ (cols _ (λ j. xor_low w _ _ (xor_low w _ _ (h 0 j) (h 2 j)) (h 3 j))) (cols _ (h 0))
      (cols _ (λ j. xor_low w _ _ (h 1 j) (h 2 j))) (cols _ (λ j. xor_low w _ _ (h 0 j) (h 2 j)))

  low_unmix : (s : State) → Low w s → Low w (unmix_columns s)
  low_unmix s h =
      rows _ _ _ _ (cols _ (h 1)) (cols _ (λ j. xor_low w _ _ (h 2 j) (xor_low w _ _ (h 1 j) (h 3 j))))
      (cols _ (λ j. xor_low w _ _ (h 1 j) (h 3 j))) (cols _ (λ j. xor_low w _ _ (h 0 j) (h 3 j)))

  -- ---- a round

  module _ (k : ℕ) (t : List ℕ) (s : State) where
    pub round_low : k < 128 → LowCells w t → Low w s → Low w (round w k t s)
    unfolding round
    round_low hk ht h =
        low_mix (shift_rows (add_tweakey t (add_constants k (sub_by (sub w) s))))
        (low_shift (add_tweakey t (add_constants k (sub_by (sub w) s)))
        (low_tweakey t (add_constants k (sub_by (sub w) s)) ht
        (low_constants k (sub_by (sub w) s) hk (low_sub (sub w) (unsub w) (sub_law w) s h))))

    pub unround_low : k < 128 → LowCells w t → Low w s → Low w (unround w k t s)
    unfolding unround
    unround_low hk ht h =
        low_sub (unsub w) (sub w) (unsub_law w) (add_constants k (add_tweakey t (unshift_rows (unmix_columns s))))
        (low_constants k (add_tweakey t (unshift_rows (unmix_columns s))) hk
        (low_tweakey t (unshift_rows (unmix_columns s)) ht
        (low_unshift (unmix_columns s) (low_unmix s h))))

    pub round_square : Square (round w k t s)
    unfolding round
    round_square = refl

    pub unround_square : Square (unround w k t s)
    unfolding unround
    unround_square = refl

    pub unround_round : Low w s → unround w k t (round w k t s) ≡ grid (cell s)
    unfolding round unround
    unround_round h =
        ap (λ (x : State). sub_by (unsub w) (add_constants k (add_tweakey t (unshift_rows x)))) (unmix_mix (shift_rows (add_tweakey t (add_constants k (sub_by (sub w) s)))))
        ∙ ap (λ (x : State). sub_by (unsub w) (add_constants k x)) (tweakey_tweakey t (add_constants k (sub_by (sub w) s)))
        ∙ ap (sub_by (unsub w)) (constants_constants k (sub_by (sub w) s))
        ∙ sub_back w (sub w) (unsub w) (sub_law w) s h

    pub round_unround : k < 128 → LowCells w t → Low w s → round w k t (unround w k t s) ≡ grid (cell s)
    unfolding round unround
    round_unround hk ht h =
        ap (λ (x : State). mix_columns (shift_rows (add_tweakey t (add_constants k x)))) (sub_back w (unsub w) (sub w) (unsub_law w) (add_constants k (add_tweakey t (unshift_rows (unmix_columns s))))
        (low_constants k (add_tweakey t (unshift_rows (unmix_columns s))) hk (low_tweakey t (unshift_rows (unmix_columns s)) ht (low_unshift (unmix_columns s) (low_unmix s h)))))
        ∙ ap (λ (x : State). mix_columns (shift_rows (add_tweakey t x))) (constants_constants k (add_tweakey t (unshift_rows (unmix_columns s))))
        ∙ ap (λ (x : State). mix_columns (shift_rows x)) (tweakey_tweakey t (unshift_rows (unmix_columns s)))
        ∙ mix_unmix s
