-- The ciphers: their sizes, blocks and keys as cells, and the branch constant. "01" is the desk's document 01, "ForkSkinny, the
-- cells"; "001" the Forkcipher paper, and "enc" and "dec" the lines of its figure 4. Assumes nothing.
use Rattle.std.specs.Prelude.{Result, Ok, Err, ℕ, zero, suc, ◌+◌, ◌*◌, ◌/◌, ◌%◌, cond, List, [], ◌∷◌, ◌++◌, eqb, get_or, take, replicate}
use Rattle.std.specs.Int.Bits.{bit_xor}
use Rattle.cells.specs.Cells.{Width, Nibble, Byte, Words, Two, Three, step2}
use Rattle.schedule.specs.declared.Tweakey.{Tweakey}
use Rattle.rounds.specs.State.{State, cell, grid}
use Rattle.refusals.specs.declared.Refusal.{Refusal}
use Rattle.refusals.specs.declared.Refusal.TheVariants.{Unknown}
use Rattle.ciphers.specs.declared.Cipher.{Cipher}
use Rattle.ciphers.specs.declared.Cipher.TheVariants.{N64T192, N128T256}

-- ---- the ciphers (01; 001, table 1)

abbrev pub width_of : Cipher → Width
width_of N64T192 = Nibble
width_of N128T256 = Byte

abbrev pub words_of : Cipher → Words
words_of N64T192 = Three
words_of N128T256 = Two

-- r_init, the rounds before the fork
abbrev pub init_of : Cipher → ℕ
init_of N64T192 = 17
init_of N128T256 = 21

-- r_0 and r_1, the rounds of a branch
abbrev pub branch_of : Cipher → ℕ
branch_of N64T192 = 23
branch_of N128T256 = 27

-- bytes of a block, and of a tweak (01, the schemes)
abbrev pub block_of : Cipher → ℕ
block_of N64T192 = 8
block_of N128T256 = 16

-- the number of a cipher, as the calls have it
abbrev pub number_of : Cipher → ℕ
number_of N64T192 = 1
number_of N128T256 = 2

-- the answer under the cipher that a number names, or the refusal
abbrev pub under_cipher : {A : Type 0} → ℕ → (Cipher → A) → A → A
under_cipher cipher f refused = cond (eqb cipher 1) (f N64T192) (cond (eqb cipher 2) (f N128T256) refused)

-- the cipher that a number names, or a refusal
abbrev pub cipher_named : ℕ → Result Cipher Refusal
cipher_named cipher = under_cipher cipher Ok (Err Unknown)

-- ---- cells and bytes

-- nibble k of bytes, the high one of a byte first, from byte o on
abbrev pub nibble_from : List ℕ → ℕ → ℕ → ℕ
nibble_from b o zero = get_or b o 0 / 16
nibble_from b o (suc zero) = get_or b o 0 % 16
nibble_from b o (suc (suc k)) = nibble_from b (suc o) k

-- cell k of bytes
abbrev pub cell_of : Width → List ℕ → ℕ → ℕ
cell_of Nibble b k = nibble_from b 0 k
cell_of Byte b k = get_or b k 0

-- a block fills the state row by row (001, F.1)
abbrev pub loaded : Width → List ℕ → State
loaded w b = grid (λ i j. cell_of w b (4 * i + j))

unfoldable pub load : Width → List ℕ → State
load w b = loaded w b

-- two nibbles as a byte
abbrev pub pair : State → ℕ → ℕ → ℕ
pair s i j = cell s i j % 16 * 16 + cell s i (suc j) % 16

-- and back; bytes 8 to 15 are zero where the cells are nibbles
abbrev pub unloaded : Width → State → List ℕ
unloaded Nibble s =
    pair s 0 0 ∷ pair s 0 2 ∷ pair s 1 0 ∷ pair s 1 2 ∷ pair s 2 0 ∷ pair s 2 2 ∷ pair s 3 0 ∷ pair s 3 2
    ∷ 0 ∷ 0 ∷ 0 ∷ 0 ∷ 0 ∷ 0 ∷ 0 ∷ 0 ∷ []
unloaded Byte s =
    cell s 0 0 ∷ cell s 0 1 ∷ cell s 0 2 ∷ cell s 0 3 ∷ cell s 1 0 ∷ cell s 1 1 ∷ cell s 1 2 ∷ cell s 1 3
    ∷ cell s 2 0 ∷ cell s 2 1 ∷ cell s 2 2 ∷ cell s 2 3 ∷ cell s 3 0 ∷ cell s 3 1 ∷ cell s 3 2 ∷ cell s 3 3 ∷ []

unfoldable pub unload : Width → State → List ℕ
unload w s = unloaded w s

-- the part of a block that counts, as the calls give it back (01, What a caller is told)
abbrev pub counted : Width → List ℕ → List ℕ
counted Nibble b = take 8 b ++ replicate 8 0
counted Byte b = b

abbrev pub sixteen : (ℕ → ℕ) → List ℕ
sixteen f =
    f 0 ∷ f 1 ∷ f 2 ∷ f 3 ∷ f 4 ∷ f 5 ∷ f 6 ∷ f 7 ∷ f 8 ∷ f 9 ∷ f 10 ∷ f 11 ∷ f 12 ∷ f 13 ∷ f 14 ∷ f 15 ∷ []

-- tk (enc 2, dec 2): the key and then the tweak, cut into words; what is left of the room is zero, and is never looked at
abbrev pub key_cells : Cipher → List ℕ → List ℕ → List ℕ
key_cells N64T192 key tweak =
    sixteen (cell_of Nibble key) ++ sixteen (λ k. cell_of Nibble key (16 + k)) ++ sixteen (cell_of Nibble tweak)
key_cells N128T256 key tweak = sixteen (cell_of Byte key) ++ sixteen (cell_of Byte tweak) ++ sixteen (λ k. 0)

-- the tweak's word of it, the last one
unfoldable pub tweak_cells : Cipher → List ℕ → List ℕ
tweak_cells c tweak = sixteen (cell_of (width_of c) tweak)

unfoldable pub tk : Cipher → List ℕ → List ℕ → Tweakey
tk c key tweak = record { cells = key_cells c key tweak; at = 0 }

-- ---- BC, the branch constant: from 1 on, each cell the word-2 step of the one before (01; 001, 4.1)

abbrev pub steps_from1 : Width → ℕ → ℕ
steps_from1 w zero = 1
steps_from1 w (suc n) = step2 w (steps_from1 w n)

unfoldable pub branch_constant : Width → State
branch_constant w = grid (λ i j. steps_from1 w (4 * i + j))

-- two states xored, cell by cell
abbrev pub xored : State → State → State
xored s t = grid (λ i j. bit_xor (cell s i j) (cell t i j))

unfoldable pub add_branch : Width → State → State
add_branch w s = xored s (branch_constant w)
