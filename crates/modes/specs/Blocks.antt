-- Blocks of n bytes: how a string is cut into them, padding, and their exclusive or (001, the Forkcipher paper, section 2).
-- Assumes nothing.
use Rattle.std.specs.Prelude.{ℕ, ◌-◌, ◌/◌, ◌%◌, Bool, true, false, cond, List, [], ◌∷◌, ◌++◌, eqb, leb, take, replicate}
use Rattle.std.specs.Int.Bits.{bit_xor}

-- X_1 .. X_x, X_*: how many blocks stand before the last one, of a string of l bytes. The last one has 1 to n bytes; a string of
-- whole blocks ends in a full one. (The paper prints a floor where a short last block needs the ceiling.)
unfoldable pub before_last : ℕ → ℕ → ℕ
before_last n l = (l - 1) / n

-- is a last block of l bytes full
abbrev pub full : ℕ → ℕ → Bool
full n l = leb n l

-- is a string of l bytes empty
abbrev pub none : ℕ → Bool
none l = eqb l 0

-- a one bit and zeros behind
abbrev pub ten : ℕ → List ℕ
ten n = 128 ∷ replicate n 0

-- pad10: x, then a one bit and zeros, to n bytes; a full block as it is
unfoldable pub pad : ℕ → List ℕ → List ℕ
pad n x = take n (x ++ ten n)

-- byte by byte, as long as the shorter
unfoldable pub ◌⊕◌ : List ℕ → List ℕ → List ℕ
[] ⊕ ys = []
(x ∷ xs) ⊕ [] = []
(x ∷ xs) ⊕ (y ∷ ys) = bit_xor x y ∷ xs ⊕ ys

infixl 70 ◌⊕◌
-- two bytes, the high one first
unfoldable pub be16 : ℕ → List ℕ
be16 v = v / 256 % 256 ∷ v % 256 ∷ []

-- are two strings the same
unfoldable pub same : List ℕ → List ℕ → Bool
same [] [] = true
same [] (y ∷ ys) = false
same (x ∷ xs) [] = false
same (x ∷ xs) (y ∷ ys) = cond (eqb x y) (same xs ys) false
