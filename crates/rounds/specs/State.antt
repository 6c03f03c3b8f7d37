-- The state, sixteen cells in four rows of four, and the steps of a round, forward and back, in the order of document 01,
-- "ForkSkinny, the cells" ("01" below; "F.1" is appendix F.1 of the Forkcipher paper, with figure 18).
-- Assumes nothing.
use Rattle.std.specs.Prelude.{ℕ, ◌+◌, ◌/◌, ◌%◌, List, [], ◌∷◌, get_or}
use Rattle.std.specs.Int.Bits.{bit_xor}
use Rattle.cells.specs.Cells.{Width, sub, unsub}

-- four rows of four cells
abbrev pub State : Type 0
State = List (List ℕ)

-- the cell in row i and column j
abbrev pub cell : State → ℕ → ℕ → ℕ
cell s i j = get_or (get_or s i []) j 0

abbrev pub four : {A : Type 0} → A → A → A → A → List A
four a b c d = a ∷ b ∷ c ∷ d ∷ []

-- a row, by its columns
abbrev pub row : (ℕ → ℕ) → List ℕ
row f = four (f 0) (f 1) (f 2) (f 3)

-- a state, by its cells
abbrev pub grid : (ℕ → ℕ → ℕ) → State
grid f = four (row (f 0)) (row (f 1)) (row (f 2)) (row (f 3))

-- ---- Cells: each by the same rule

abbrev pub sub_by : (ℕ → ℕ) → State → State
sub_by f s = grid (λ i j. f (cell s i j))

-- ---- Constants: the low four bits of the 7-bit number k, its high three, 2 and 2

abbrev pub add_constants : ℕ → State → State
add_constants k s =
    four
    (four (bit_xor (cell s 0 0) (k % 16)) (cell s 0 1) (bit_xor (cell s 0 2) 2) (cell s 0 3))
    (four (bit_xor (cell s 1 0) (k / 16)) (cell s 1 1) (cell s 1 2) (cell s 1 3))
    (four (bit_xor (cell s 2 0) 2) (cell s 2 1) (cell s 2 2) (cell s 2 3))
    (row (cell s 3))

-- ---- Tweakey: the round's key, two rows of cells one after the other, into the top two rows

abbrev pub add_tweakey : List ℕ → State → State
add_tweakey t s =
    four
    (row (λ j. bit_xor (cell s 0 j) (get_or t j 0)))
    (row (λ j. bit_xor (cell s 1 j) (get_or t (4 + j) 0)))
    (row (cell s 2))
    (row (cell s 3))

-- ---- Rows turn right by 0, 1, 2, 3

abbrev pub shift_rows : State → State
shift_rows s =
    four
    (four (cell s 0 0) (cell s 0 1) (cell s 0 2) (cell s 0 3))
    (four (cell s 1 3) (cell s 1 0) (cell s 1 1) (cell s 1 2))
    (four (cell s 2 2) (cell s 2 3) (cell s 2 0) (cell s 2 1))
    (four (cell s 3 1) (cell s 3 2) (cell s 3 3) (cell s 3 0))

abbrev pub unshift_rows : State → State
unshift_rows s =
    four
    (four (cell s 0 0) (cell s 0 1) (cell s 0 2) (cell s 0 3))
    (four (cell s 1 1) (cell s 1 2) (cell s 1 3) (cell s 1 0))
    (four (cell s 2 2) (cell s 2 3) (cell s 2 0) (cell s 2 1))
    (four (cell s 3 3) (cell s 3 0) (cell s 3 1) (cell s 3 2))

-- ---- Columns (a, b, c, d) become (a ^ c ^ d, a, b ^ c, a ^ c)

abbrev pub mix_columns : State → State
mix_columns s =
    four
    (row (λ j. bit_xor (bit_xor (cell s 0 j) (cell s 2 j)) (cell s 3 j)))
    (row (cell s 0))
    (row (λ j. bit_xor (cell s 1 j) (cell s 2 j)))
    (row (λ j. bit_xor (cell s 0 j) (cell s 2 j)))

-- and back: (p, q, r, t) become (q, r ^ (q ^ t), q ^ t, p ^ t)
abbrev pub unmix_columns : State → State
unmix_columns s =
    four
    (row (cell s 1))
    (row (λ j. bit_xor (cell s 2 j) (bit_xor (cell s 1 j) (cell s 3 j))))
    (row (λ j. bit_xor (cell s 1 j) (cell s 3 j)))
    (row (λ j. bit_xor (cell s 0 j) (cell s 3 j)))

-- ---- one round with the constant k and the round's key t, and one round back

unfoldable pub round : Width → ℕ → List ℕ → State → State
round w k t s = mix_columns (shift_rows (add_tweakey t (add_constants k (sub_by (sub w) s))))

unfoldable pub unround : Width → ℕ → List ℕ → State → State
unround w k t s = sub_by (unsub w) (add_constants k (add_tweakey t (unshift_rows (unmix_columns s))))
