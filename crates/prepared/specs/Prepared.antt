-- A prepared key (C-16): the record that preparing makes of a key, the key that a record was made of, and which records are admitted.
-- Assumes nothing.
use Rattle.std.specs.Prelude.{Result, Ok, Err, ◌≡◌, Bool, cond, ◌&&◌, List, [], ◌++◌, ℕ, ◌+◌, ◌*◌, ◌/◌, ◌%◌, eqb, length, get_or, replicate}
use Rattle.std.specs.Int.Bits.{bit_xor}
use Rattle.refusals.specs.declared.Refusal.{Refusal}
use Rattle.refusals.specs.Refusal as refusal
use Rattle.cells.specs.Cells.{Block, Nibble, step3}
use Rattle.cells.specs.Tabs.{tab}
use Rattle.schedule.specs.Sixteen.{times}
use Rattle.schedule.specs.Share.{share_cell}
use Rattle.ciphers.specs.declared.Cipher.{Cipher}
use Rattle.ciphers.specs.declared.Cipher.TheVariants.{N64T192, N128T256}
use Rattle.ciphers.specs.Ciphers.{width_of, words_of, key_cells, number_of, under_cipher}
use Rattle.modes.specs.Blocks.{same}
use Rattle.prepared.specs.declared.Prepared.{Prepared}

-- ---- what preparing makes of a key

-- as preparing leaves the moving part
abbrev pub unmoving : List ℕ
unmoving = replicate 16 0

-- 49 rows of sixteen cells, one after the other: the key's share of every round, of which each two rounds take one row; 49 serve the 87 rounds of
-- the longest cipher
unfoldable pub shares_of : Cipher → (cells : List ℕ) → List ℕ
shares_of c cells = tab (λ i. share_cell (width_of c) (words_of c) cells (i / 16) (i % 16)) 0 784

abbrev pub share_of : Cipher → (key : List ℕ) → List ℕ
share_of c key = shares_of c (key_cells c key unmoving)

abbrev pub prepared_of : Cipher → (key : List ℕ) → Prepared
prepared_of c key = record { cipher = number_of c; share = share_of c key; tweak = unmoving }

-- a record, by its parts
abbrev pub record_of : ℕ → (share tweak : List ℕ) → Prepared
record_of cipher share tweak = record { cipher = cipher; share = share; tweak = tweak }

-- ---- what preparing answers: 0 and the record, or a number and one fixed record; 1 before 2 (C-16)

pub record Preparation : Type 0 where
  pub number : ℕ
  pub made : Prepared

abbrev pub no_record : Prepared
no_record = record { cipher = 0; share = replicate 784 0; tweak = unmoving }

abbrev pub refused_with : ℕ → Preparation
refused_with number = record { number = number; made = no_record }

abbrev pub prepared_by : Cipher → (key : List ℕ) → Preparation
prepared_by c key = cond (eqb (length key) 16) (record { number = 0; made = prepared_of c key }) (refused_with 2)

unfoldable pub prepare_of : (cipher : ℕ) → (key : List ℕ) → Preparation
prepare_of cipher key = under_cipher cipher (λ c. prepared_by c key) (refused_with 1)

-- what is told of a key that is prepared, and of one that is refused
abbrev pub prepared_as : Result Prepared Refusal → Preparation
prepared_as (Ok made) = record { number = 0; made = made }
prepared_as (Err r) = refused_with (refusal.number_of r)

-- ---- admitted: some sixteen-byte key gives this record under the cipher (C-16)

abbrev pub Admitted : Cipher → Prepared → Type 0
Admitted c r = (key : List ℕ) × Block 16 key × (r ≡ prepared_of c key)

-- ---- the key that a share was made of, if any

-- word 2, from what its first step changes: a nibble b, xored with itself stepped, and back by four steps of word 3, is b
abbrev pub second : List ℕ → ℕ → ℕ
second s j = times (step3 Nibble) 4 (bit_xor (get_or s j 0) (get_or s (16 + j) 0))

abbrev pub first : List ℕ → ℕ → ℕ
first s j = bit_xor (get_or s j 0) (second s j)

unfoldable pub words_in : List ℕ → List ℕ
words_in s = tab (first s) 0 16 ++ tab (second s) 0 16

-- nibbles as bytes, two each, the high one first
unfoldable pub joined : List ℕ → List ℕ
joined l = tab (λ i. get_or l (2 * i) 0 % 16 * 16 + get_or l (2 * i + 1) 0 % 16) 0 16

unfoldable pub key_in : Cipher → (share : List ℕ) → List ℕ
key_in N64T192 s = joined (words_in s)
key_in N128T256 s = tab (λ j. get_or s j 0 % 256) 0 16

-- a share that some key gives
abbrev pub Made : Cipher → (share : List ℕ) → Type 0
Made c share = share ≡ share_of c (key_in c share)

-- ---- the check: the record's own cipher, the moving part as it was left, and the share that this key gives, in every byte

unfoldable pub admitted : Cipher → Prepared → Bool
admitted c r = eqb r.cipher (number_of c) && (same r.share (share_of c (key_in c r.share)) && same r.tweak unmoving)

-- the key that a record stands for: the one that it was made of, or none
unfoldable pub key_of : Cipher → Prepared → List ℕ
key_of c r = cond (admitted c r) (key_in c r.share) []
