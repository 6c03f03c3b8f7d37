-- The round constants (document 01, "Constants"; 001, section 4.1), and the room that has them. Assumes nothing.
use Rattle.std.specs.Prelude.{◌≡◌, ℕ, zero, suc, ◌+◌, ◌*◌, ◌/◌, ◌%◌, ◌<◌, List, [], ◌∷◌, length, get_or}
use Rattle.cells.specs.Cells.{bit}

-- the 7-bit number: shift left by one, new lowest bit = bit 6 xor bit 5 xor 1
abbrev pub step_constant : ℕ → ℕ
step_constant k = k % 64 * 2 + (bit k 6 + bit k 5 + 1) % 2

-- it starts at 0, and is stepped before each round
abbrev pub steps_from0 : ℕ → ℕ
steps_from0 zero = 0
steps_from0 (suc n) = step_constant (steps_from0 n)

-- the constant of the round that n others came before
unfoldable pub constant : ℕ → ℕ
constant n = steps_from0 (suc n)

-- as it goes into the top two rows: its low four bits to row 0 column 0, its high three to row 1 column 0, and 2 to row 0 column 2 (01)
abbrev pub constant_row : ℕ → List ℕ
constant_row k = k % 16 ∷ 0 ∷ 2 ∷ 0 ∷ k / 16 ∷ 0 ∷ 0 ∷ 0 ∷ []

-- a room with the constants of all rounds, each in its row
pub record Room (rows : List (List ℕ)) : Type 0 where
  pub long : length rows ≡ 97
  pub at : (i : ℕ) → i < 87 → get_or rows i [] ≡ constant_row (constant i)
