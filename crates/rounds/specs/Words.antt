-- How the code holds a state while rounds run: four words, a row in each, the first cell its lowest byte, each byte a complement. And a round's
-- linear part, which is what follows the cells: constants and key in one row of eight cells, then rows and columns. That a round is the
-- cells and then this is proved in proofs/Linear.antt. Assumes nothing.
use Rattle.std.specs.Prelude.{ℕ, ◌*◌, List, [], ◌∷◌, get_or}
use Rattle.std.specs.Int.Bits.{bit_xor}
use Rattle.cells.specs.Words.{lane, not8, near, pair_of}
use Rattle.rounds.specs.State.{State, cell, four, row, grid, sub_by, add_tweakey, shift_rows, unshift_rows, mix_columns, unmix_columns}

-- the bytes of four words
abbrev pub lanes : List ℕ → State
lanes x = grid (λ i j. lane (get_or x i 0) j)

-- the state that they hold
abbrev pub shown : List ℕ → State
shown x = sub_by not8 (lanes x)

-- a row of cells into each row
abbrev pub added : List ℕ → List ℕ → List ℕ → List ℕ → State → State
added a b c d s =
    four
    (row (λ j. bit_xor (cell s 0 j) (get_or a j 0)))
    (row (λ j. bit_xor (cell s 1 j) (get_or b j 0)))
    (row (λ j. bit_xor (cell s 2 j) (get_or c j 0)))
    (row (λ j. bit_xor (cell s 3 j) (get_or d j 0)))

-- the constant of row 2
abbrev pub add_below : ℕ → State → State
add_below d s = four (row (cell s 0)) (row (cell s 1)) (four (bit_xor (cell s 2 0) d) (cell s 2 1) (cell s 2 2) (cell s 2 3)) (row (cell s 3))

-- with d for the constant of row 2, and with the cipher's, which is 2
unfoldable pub linear_by : ℕ → List ℕ → State → State
linear_by d t s = mix_columns (shift_rows (add_tweakey t (add_below d s)))

abbrev pub linear : List ℕ → State → State
linear t s = linear_by 2 t s

unfoldable pub unlinear : List ℕ → State → State
unlinear t s = add_below 2 (add_tweakey t (unshift_rows (unmix_columns s)))

-- two times eight nibbles as eight bytes, the second in the high nibbles
abbrev pub pair_cell : List ℕ → List ℕ → ℕ → ℕ
pair_cell t u k = bit_xor (get_or t k 0) (get_or u k 0 * 16)

abbrev pub pair_row : List ℕ → List ℕ → List ℕ
pair_row t u =
    pair_cell t u 0 ∷ pair_cell t u 1 ∷ pair_cell t u 2 ∷ pair_cell t u 3
    ∷ pair_cell t u 4 ∷ pair_cell t u 5 ∷ pair_cell t u 6 ∷ pair_cell t u 7 ∷ []

-- two states of nibbles as one of bytes, the second in the high nibbles
abbrev pub paired : State → State → State
paired s t = grid (λ i j. pair_of (near (cell s i j)) (near (cell t i j)))
