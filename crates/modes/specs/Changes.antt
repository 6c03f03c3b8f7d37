-- The words of C-23: a string cut into blocks, and what two strings have in common, block by block. Blocks are counted from 0 here, so that a
-- body of l bytes has its last one at `before_last n l`. Assumes nothing.
use Rattle.std.specs.Prelude.{◌≡◌, ℕ, suc, ◌*◌, ◌<◌, List, length, take, drop}

-- block i: n bytes, but fewer where the string ends
unfoldable pub block_at : ℕ → ℕ → List ℕ → List ℕ
block_at n i x = take n (drop (i * n) x)

-- all that stands behind block i
unfoldable pub behind : ℕ → ℕ → List ℕ → List ℕ
behind n i x = drop (suc i * n) x

-- two strings agree in their first k blocks
pub record AgreeTo (n k : ℕ) (a b : List ℕ) : Type 0 where
  pub blocks : (i : ℕ) → i < k → block_at n i a ≡ block_at n i b

-- two strings of equal length differ in block j, and in no other
pub record DifferAt (n j : ℕ) (a b : List ℕ) : Type 0 where
  pub long : length a ≡ length b
  pub differ : block_at n j a ≡ block_at n j b → ⊥
  pub others : (i : ℕ) → (i ≡ j → ⊥) → block_at n i a ≡ block_at n i b

-- two runs of equal length, cut into m blocks, C_* and the trailing bytes of the tag (001, figure 5, enc 38): block j differs and C_* differs,
-- each as a whole, and every other block is equal, and so are the trailing bytes
pub record MovedAt (n j m : ℕ) (c d : List ℕ) : Type 0 where
  pub long : length c ≡ length d
  pub block_differs : block_at n j c ≡ block_at n j d → ⊥
  pub last_differs : block_at n m c ≡ block_at n m d → ⊥
  pub others : (i : ℕ) → i < m → (i ≡ j → ⊥) → block_at n i c ≡ block_at n i d
  pub tag_bytes : behind n m c ≡ behind n m d
