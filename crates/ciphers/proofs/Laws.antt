-- What is made of bytes are cells and the other way round, over the width; a state as a block and back; the branch constant
-- undone; and the rounds of a cipher are no more than the constants. Assumes nothing.
use mathlib.Core.Path.{◌≡◌, refl, ap}
use mathlib.Core.List.{List, [], ◌∷◌, ◌++◌}
use Prim.Native.Nat.{ℕ, zero, suc, ◌+◌, ◌*◌, ◌/◌, ◌%◌, ◌<◌, ◌≤◌}
use native.Mathlib.Omega.{arith}
use mathlib.Core.Bool.{true}
use borrow.Author.Tests.{ltb-true}
use lib.Dec.{lit≤, lit<, ltb}
use lib.ListN.{length, get_or, take, replicate}
use lib.Bits.{bit_xor}
use lib.Seq.{get_or-take}
use Rattle.cells.specs.Cells.{Width, Nibble, Byte, size, Bytes, LowCells}
use Rattle.cells.proofs.Laws.{step2_law, small_low, xor_low}
use Rattle.cells.proofs.Tabs.{spelled, spelled_all, tab_low}
use Rattle.cells.proofs.Xor.{xor_last}
use Rattle.rounds.specs.State.{State, cell}
use Rattle.rounds.proofs.Undo.{Cells, low_grid}
use Rattle.ciphers.specs.declared.Cipher.{Cipher}
use Rattle.ciphers.specs.declared.Cipher.TheVariants.{N64T192, N128T256}
use Rattle.ciphers.specs.Ciphers.{width_of, init_of, branch_of, block_of, nibble_from, cell_of, load, unload, counted, sixteen, tk, steps_from1, branch_constant, add_branch}

-- the constants are enough
pub fit : (c : Cipher) → init_of c + (branch_of c + branch_of c) ≤ 87
fit N64T192 = lit≤ tt
fit N128T256 = lit≤ tt

-- there are rounds before the fork, and more in a branch
pub init_some : (c : Cipher) → 0 < init_of c
init_some N64T192 = lit< tt
init_some N128T256 = lit< tt

pub branch_more : (c : Cipher) → init_of c < branch_of c
branch_more N64T192 = lit< tt
branch_more N128T256 = lit< tt

-- a block has some bytes, and no more than sixteen
pub block_some : (c : Cipher) → 0 < block_of c
block_some N64T192 = lit< tt
block_some N128T256 = lit< tt

pub block_most : (c : Cipher) → block_of c ≤ 16
block_most N64T192 = lit≤ tt
block_most N128T256 = lit≤ tt

-- ---- bytes as cells

nibble_low : (b : List ℕ) (o k : ℕ) → Bytes b → nibble_from b o k < 16
nibble_low b o zero h = omega (arith, h.at o)
nibble_low b o (suc zero) h = omega arith
nibble_low b o (suc (suc k)) h = nibble_low b (suc o) k h

cell_low : (w : Width) (b : List ℕ) → Bytes b → (k : ℕ) → cell_of w b k < size w
cell_low Nibble b h k = nibble_low b 0 k h
cell_low Byte b h k = h.at k

pub load_cells : (w : Width) (b : List ℕ) → Bytes b → Cells w (load w b)
unfolding load
load_cells w b h = record {
  low = low_grid (size w) (λ i j. cell_of w b (4 * i + j)) (λ i j. cell_low w b h (4 * i + j));
  square = refl;
}

pub tk_at : (c : Cipher) (key tweak : List ℕ) → (tk c key tweak).at ≡ 0
unfolding tk
tk_at c key tweak = refl

pub append_low : (w : Width) (a b : List ℕ) → LowCells w a → LowCells w b → LowCells w (a ++ b)
append_low w [] b p q k = q k
append_low w (x ∷ a) b p q zero = p zero
append_low w (x ∷ a) b p q (suc k) = append_low w a b (λ j. p (suc j)) q k

words_low : (w : Width) (f g h : ℕ → ℕ) → ((k : ℕ) → f k < size w) → ((k : ℕ) → g k < size w) → ((k : ℕ) → h k < size w)
    → LowCells w (sixteen f ++ sixteen g ++ sixteen h)
words_low w f g h p q r =
    append_low w (sixteen f ++ sixteen g) (sixteen h) (append_low w (sixteen f) (sixteen g) (tab_low w f p 16 0) (tab_low w g q 16 0)) (tab_low w h r 16 0)

pub tk_low : (c : Cipher) (key tweak : List ℕ) → Bytes key → Bytes tweak → LowCells (width_of c) (tk c key tweak).cells
unfolding tk
tk_low N64T192 key tweak p q =
    words_low Nibble (cell_of Nibble key) (λ k. cell_of Nibble key (16 + k)) (cell_of Nibble tweak) (cell_low Nibble key p) (λ k. cell_low Nibble key p (16 + k))
    (cell_low Nibble tweak q)
tk_low N128T256 key tweak p q = words_low Byte (cell_of Byte key) (cell_of Byte tweak) (λ k. 0) (cell_low Byte key p) (cell_low Byte tweak q) (λ k. omega arith)

-- ---- a state as a block and back

join_high : (x y : ℕ) → x < 16 → (x % 16 * 16 + y % 16) / 16 ≡ x
join_high x y h = omega arith

join_low : (x y : ℕ) → y < 16 → (x % 16 * 16 + y % 16) % 16 ≡ y
join_low x y h = omega arith

pub load_unload : (w : Width) (s : State) → Cells w s → load w (unload w s) ≡ s
unfolding load unload
load_unload Nibble s h = simp (join_high, join_low, h.low) h.square
load_unload Byte s h = h.square

-- a byte's two nibbles, joined again
pub split_join : (x : ℕ) → x < 256 → x / 16 % 16 * 16 + x % 16 % 16 ≡ x
split_join x h = omega arith

pub unload_load : (w : Width) (b : List ℕ) → length b ≡ 16 → Bytes b → unload w (load w b) ≡ counted w b
unfolding load unload
unload_load Nibble b e h = simp (split_join, h.at) (ap (λ (l : List ℕ). l ++ replicate 8 0) (spelled b 8 (omega arith)))
unload_load Byte b e h = spelled_all b 16 e

-- ---- only the bytes of a block are read, of a block and of a tweak

front : (n : ℕ) (l : List ℕ) (k : ℕ) → ltb k n ≡ true → get_or (take n l) k 0 ≡ get_or l k 0
front n l k h = get_or-take n l k 0 (ltb-true k n h)

pub load_front : (c : Cipher) (b : List ℕ) → load (width_of c) (take (block_of c) b) ≡ load (width_of c) b
unfolding load
load_front N64T192 b = simp (front 8 b)
load_front N128T256 b = simp (front 16 b)

pub tk_front : (c : Cipher) (key tweak : List ℕ) → tk c key (take (block_of c) tweak) ≡ tk c key tweak
unfolding tk
tk_front N64T192 key tweak = simp (front 8 tweak)
tk_front N128T256 key tweak = simp (front 16 tweak)

-- ---- the branch constant undone

pub branch_branch : (w : Width) (s : State) → Cells w s → add_branch w (add_branch w s) ≡ s
unfolding add_branch
branch_branch w s h = simp xor_last h.square

constant_low : (w : Width) (n : ℕ) → steps_from1 w n < size w
constant_low w zero = small_low w 1 (omega arith)
constant_low w (suc n) = (step2_law w).low (steps_from1 w n) (constant_low w n)

pub branch_cells : (w : Width) (s : State) → Cells w s → Cells w (add_branch w s)
unfolding add_branch branch_constant
branch_cells w s h = record {
  low =
      low_grid (size w) (λ i j. bit_xor (cell s i j) (cell (branch_constant w) i j))
      (λ i j. xor_low w _ _ (h.low i j) (low_grid (size w) (λ i j. steps_from1 w (4 * i + j)) (λ i j. constant_low w (4 * i + j)) i j));
  square = refl;
}
