-- ForkSkinny is a forkcipher: from either half come the input and the other half, every block is a half, and what comes out are
-- blocks. Once over the cipher and the half. Assumes nothing.
use mathlib.Core.Path.{◌≡◌, sym, ap, ◌∙◌}
use mathlib.Core.List.{List}
use Prim.Native.Nat.{ℕ}
use lib.ListN.{length, take}
use Rattle.cells.specs.Cells.{Bytes, Block, LowCells}
use Rattle.schedule.specs.declared.Tweakey.{Tweakey}
use Rattle.ciphers.specs.declared.Cipher.{Cipher}
use Rattle.ciphers.specs.Ciphers.{width_of, block_of, counted, tk}
use Rattle.ciphers.proofs.Laws.{tk_low, tk_front, load_front}
use Rattle.forkskinny.specs.ForkSkinny.{side_of, forked, branch, unbranch, unforked, half, input, other_of, other}
use Rattle.forkskinny.proofs.Ways.{unload_long, unload_counted, forked_counted, forked_cells, unforked_block, unforked_forked, forked_unforked, branch_block, unbranch_cells, unbranch_branch, branch_unbranch}

-- for every key and tweak of bytes, every half h and every block
module _ (c : Cipher) (key tweak : List ℕ) (hk : Bytes key) (ht : Bytes tweak) where
  abbrev t : Tweakey
  t = tk c key tweak

  k : LowCells (width_of c) t.cells
  k = tk_low c key tweak hk ht

  -- ---- from half h of a block

  -- the input: the part of the block that counts
  pub input_half : (h : ℕ) (m : List ℕ) → Block 16 m → input c key tweak h (half c key tweak h m) ≡ counted (width_of c) m
  unfolding half input
  input_half h m p =
      ap (unforked c t) (unbranch_branch c t k (side_of h) _ (forked_cells c t k m p)) ∙ unforked_forked c t k m p

  -- and the other half
  pub other_half : (h : ℕ) (m : List ℕ) → Block 16 m → other c key tweak h (half c key tweak h m) ≡ half c key tweak (other_of h) m
  unfolding half other
  other_half h m p = ap (branch c (side_of (other_of h)) t) (unbranch_branch c t k (side_of h) _ (forked_cells c t k m p))

  -- ---- the other way round, from any block x

  -- it is half h of its input
  pub half_input : (h : ℕ) (x : List ℕ) → Block 16 x → half c key tweak h (input c key tweak h x) ≡ counted (width_of c) x
  unfolding half input
  half_input h x p =
      ap (branch c (side_of h) t) (forked_unforked c t k _ (unbranch_cells c t k (side_of h) x p))
      ∙ branch_unbranch c t k (side_of h) x p

  -- and the other half is that of its input
  pub other_input : (h : ℕ) (x : List ℕ) → Block 16 x → other c key tweak h x ≡ half c key tweak (other_of h) (input c key tweak h x)
  unfolding half input other
  other_input h x p =
      ap (branch c (side_of (other_of h)) t) (sym (forked_unforked c t k _ (unbranch_cells c t k (side_of h) x p)))

  -- ---- what comes out are blocks

  pub half_block : (h : ℕ) (m : List ℕ) → Block 16 m → Block 16 (half c key tweak h m)
  unfolding half
  half_block h m p = branch_block c t k (side_of h) _ (forked_cells c t k m p)

  pub input_block : (h : ℕ) (x : List ℕ) → Block 16 x → Block 16 (input c key tweak h x)
  unfolding input
  input_block h x p = unforked_block c t k _ (unbranch_cells c t k (side_of h) x p)

  pub other_block : (h : ℕ) (x : List ℕ) → Block 16 x → Block 16 (other c key tweak h x)
  unfolding other
  other_block h x p = branch_block c t k (side_of (other_of h)) _ (unbranch_cells c t k (side_of h) x p)

  -- ---- only the part of a block that counts has a say in its halves

  pub half_counts : (h : ℕ) (x y : List ℕ) → Block 16 x → Block 16 y → counted (width_of c) x ≡ counted (width_of c) y
      → half c key tweak h x ≡ half c key tweak h y
  unfolding half
  half_counts h x y p q e =
      ap (branch c (side_of h) t) (sym (forked_counted c t x p) ∙ ap (forked c t) e ∙ forked_counted c t y q)

-- ---- what comes out is sixteen bytes long, whatever went in

module _ (c : Cipher) (key tweak : List ℕ) (h : ℕ) (x : List ℕ) where
  pub half_long : length (half c key tweak h x) ≡ 16
  unfolding half branch
  half_long = unload_long (width_of c) _

  pub input_long : length (input c key tweak h x) ≡ 16
  unfolding input unforked
  input_long = unload_long (width_of c) _

  pub other_long : length (other c key tweak h x) ≡ 16
  unfolding other branch
  other_long = unload_long (width_of c) _

-- ---- and behind the cipher's bytes it has zeros: it is the part of itself that counts

module _ (c : Cipher) (key tweak : List ℕ) (h : ℕ) (x : List ℕ) where
  pub half_behind : counted (width_of c) (half c key tweak h x) ≡ half c key tweak h x
  unfolding half branch
  half_behind = unload_counted (width_of c) _

  pub input_behind : counted (width_of c) (input c key tweak h x) ≡ input c key tweak h x
  unfolding input unforked
  input_behind = unload_counted (width_of c) _

  pub other_behind : counted (width_of c) (other c key tweak h x) ≡ other c key tweak h x
  unfolding other branch
  other_behind = unload_counted (width_of c) _

-- ---- of a tweak and a block only the cipher's bytes are read, whatever stands behind them

module _ (c : Cipher) (key tweak : List ℕ) (h : ℕ) (x : List ℕ) where
  abbrev n : ℕ
  n = block_of c

  pub half_front : half c key (take n tweak) h (take n x) ≡ half c key tweak h x
  unfolding half forked
  half_front = rw (tk_front c key tweak, load_front c x)

  pub input_front : input c key (take n tweak) h (take n x) ≡ input c key tweak h x
  unfolding input unbranch
  input_front = rw (tk_front c key tweak, load_front c x)

  pub other_front : other c key (take n tweak) h (take n x) ≡ other c key tweak h x
  unfolding other unbranch
  other_front = rw (tk_front c key tweak, load_front c x)
