-- How the code holds cells in a word of 32 bits: four bytes, the lowest the first, each the complement of a byte cell or of two nibbles.
-- Complemented, because the rules of the cells ask whether two bits are both 0. Assumes nothing.
use Rattle.std.specs.Prelude.{◌≡◌, ℕ, ◌<◌, ◌+◌, ◌*◌, ◌/◌, ◌%◌, ◌^◌}
use Rattle.std.specs.Int.Bits.{bit_xor}
use Rattle.cells.specs.Cells.{Width, Nibble, Byte, sub, unsub}

-- byte j of a word
abbrev pub lane : ℕ → ℕ → ℕ
lane x j = x / 2 ^ (8 * j) % 2 ^ 8

-- every bit of a byte turned over
abbrev pub not8 : ℕ → ℕ
not8 b = bit_xor b 255

-- the nibbles of a byte
abbrev pub near : ℕ → ℕ
near b = b % 16

abbrev pub far : ℕ → ℕ
far b = b / 16

-- two nibbles as a byte
abbrev pub pair_of : ℕ → ℕ → ℕ
pair_of a b = a + b * 16

-- both nibbles of a byte by the 4-bit table, and back
unfoldable pub sub_pair : ℕ → ℕ
sub_pair b = pair_of (sub Nibble (near b)) (sub Nibble (far b))

unfoldable pub unsub_pair : ℕ → ℕ
unsub_pair b = pair_of (unsub Nibble (near b)) (unsub Nibble (far b))

-- over the width: the cells that a byte of a word holds, one or two, each by its rule, and back
abbrev pub sub_cells : Width → ℕ → ℕ
sub_cells Nibble b = sub_pair b
sub_cells Byte b = sub Byte b

abbrev pub unsub_cells : Width → ℕ → ℕ
unsub_cells Nibble b = unsub_pair b
unsub_cells Byte b = unsub Byte b

-- the cell that is seen in a byte: of two nibbles the first
abbrev pub seen : Width → ℕ → ℕ
seen Nibble b = near b
seen Byte b = b

-- each of the four bytes that x holds by f gives those that r holds
pub record Each (f : ℕ → ℕ) (x r : ℕ) : Type 0 where
  pub at : (j : ℕ) → j < 4 → lane r j ≡ not8 (f (not8 (lane x j)))
