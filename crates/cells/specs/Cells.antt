-- The cells of ForkSkinny over their width: the 4-bit table, the 8-bit rule, and the steps of tweakey words 2 and 3.
-- "01" is the desk's document 01, "ForkSkinny, the cells"; "F.1" is appendix F.1 of the Forkcipher paper.
-- Assumes nothing.
use Rattle.std.specs.Prelude.{◌≡◌, ℕ, ◌<◌, ◌+◌, ◌-◌, ◌*◌, ◌/◌, ◌%◌, ◌^◌, List, [], ◌∷◌, length, get_or}

-- a cell is a nibble where the block has 64 bits, a byte where it has 128 (F.1)
pub data Width : Type 0 where
  Nibble : Width
  Byte : Width

-- how many words of one block a tweakey has (01, Tweakey)
pub data Words : Type 0 where
  Two : Words
  Three : Words

-- every cell of the width is below this
abbrev pub size : Width → ℕ
size Nibble = 16
size Byte = 256

-- each of a list's cells is of the width: past the end a cell counts as 0
abbrev pub LowCells : Width → List ℕ → Type 0
LowCells w t = (k : ℕ) → get_or t k 0 < size w

-- every element of a list is a byte; past the end an element counts as 0
pub record Bytes (b : List ℕ) : Type 0 where
  pub at : (k : ℕ) → get_or b k 0 < 256

-- n bytes
pub record Block (n : ℕ) (b : List ℕ) : Type 0 where
  pub long : length b ≡ n
  pub bytes : Bytes b

-- ---- bits

-- bit k of x
abbrev pub bit : ℕ → ℕ → ℕ
bit x k = x / 2 ^ k % 2

-- 1 where both bits are 0
abbrev pub nor : ℕ → ℕ → ℕ
nor a b = (1 - a) * (1 - b)

-- the number whose bits 7 to 0 are these
abbrev pub byte : ℕ → ℕ → ℕ → ℕ → ℕ → ℕ → ℕ → ℕ → ℕ
byte a b c d e f g h = ((((((a * 2 + b) * 2 + c) * 2 + d) * 2 + e) * 2 + f) * 2 + g) * 2 + h

-- ---- the 8-bit rule (01, Cells)

-- flip bit 4 if bits 7 and 6 are both 0, flip bit 0 if bits 3 and 2 are both 0
unfoldable pub flips : ℕ → ℕ
flips x =
    byte (bit x 7) (bit x 6) (bit x 5) ((bit x 4 + nor (bit x 7) (bit x 6)) % 2)
    (bit x 3) (bit x 2) (bit x 1) ((bit x 0 + nor (bit x 3) (bit x 2)) % 2)

-- the bits (7..0) become (2,1,7,6,4,0,3,5)
unfoldable pub shuffle : ℕ → ℕ
shuffle x = byte (bit x 2) (bit x 1) (bit x 7) (bit x 6) (bit x 4) (bit x 0) (bit x 3) (bit x 5)

-- and back
unfoldable pub unshuffle : ℕ → ℕ
unshuffle x = byte (bit x 5) (bit x 4) (bit x 0) (bit x 3) (bit x 1) (bit x 7) (bit x 6) (bit x 2)

-- bits 1 and 2 change places
unfoldable pub swap : ℕ → ℕ
swap x = byte (bit x 7) (bit x 6) (bit x 5) (bit x 4) (bit x 3) (bit x 1) (bit x 2) (bit x 0)

-- four times the flips; after each of the first three the shuffle, after the fourth the swap
unfoldable pub sub8 : ℕ → ℕ
sub8 x = swap (flips (shuffle (flips (shuffle (flips (shuffle (flips x)))))))

unfoldable pub unsub8 : ℕ → ℕ
unsub8 x = flips (unshuffle (flips (unshuffle (flips (unshuffle (flips (swap x)))))))

-- ---- the 4-bit table (01, Cells; F.1, S4)

abbrev pub table4 : List ℕ
table4 = 0xc ∷ 6 ∷ 9 ∷ 0 ∷ 1 ∷ 0xa ∷ 2 ∷ 0xb ∷ 3 ∷ 8 ∷ 5 ∷ 0xd ∷ 4 ∷ 0xe ∷ 7 ∷ 0xf ∷ []

-- where each number stands in it
abbrev pub untable4 : List ℕ
untable4 = 3 ∷ 4 ∷ 6 ∷ 8 ∷ 0xc ∷ 0xa ∷ 1 ∷ 0xe ∷ 9 ∷ 2 ∷ 5 ∷ 7 ∷ 0 ∷ 0xb ∷ 0xd ∷ 0xf ∷ []

-- ---- over the width; of a number past a nibble's only the nibble counts

unfoldable pub sub : Width → ℕ → ℕ
sub Nibble x = get_or table4 (x % 16) 0
sub Byte x = sub8 x

unfoldable pub unsub : Width → ℕ → ℕ
unsub Nibble x = get_or untable4 (x % 16) 0
unsub Byte x = unsub8 x

-- word 2: shift left, new lowest bit = xor of the two highest bits for nibbles, of bits 7 and 5 for bytes (01, Tweakey; F.1, table 3)
unfoldable pub step2 : Width → ℕ → ℕ
step2 Nibble x = x % 8 * 2 + (bit x 3 + bit x 2) % 2
step2 Byte x = x % 128 * 2 + (bit x 7 + bit x 5) % 2

-- word 3: shift right, new highest bit = bit 0 xor bit 3 for nibbles, bit 0 xor bit 6 for bytes (01, Tweakey; F.1, table 3)
unfoldable pub step3 : Width → ℕ → ℕ
step3 Nibble x = x % 16 / 2 + (x % 2 + bit x 3) % 2 * 8
step3 Byte x = x / 2 + (x % 2 + bit x 6) % 2 * 128

-- ---- a table of a rule: its first n entries are f's values

pub record Tabulates (f : ℕ → ℕ) (n : ℕ) (l : List ℕ) : Type 0 where
  pub at : (k : ℕ) → k < n → get_or l k 0 ≡ f k
