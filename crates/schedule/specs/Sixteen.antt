-- The tweakey sixteen rounds on at once, as the code goes: cells stepped where they stand, and moved only when a key is laid. That
-- this is what sixteen rounds of the published step do is proved in proofs/Sixteen.antt. Assumes nothing.
use Rattle.std.specs.Prelude.{◌≡◌, ℕ, zero, suc, ◌+◌, ◌<◌, List, [], ◌∷◌, ◌++◌, map, length, get_or, set}
use Rattle.cells.specs.Cells.{Width, Words, Two, Three, step2, step3}
use Rattle.schedule.specs.declared.Tweakey.{Tweakey}
use Rattle.schedule.specs.Schedule.{permuted, unmoved, round_key, xor_row, advance}

-- f so many times
abbrev pub times : (ℕ → ℕ) → ℕ → ℕ → ℕ
times f zero x = x
times f (suc k) x = f (times f k x)

-- each cell where it stands; those of word 2 and word 3 stepped k times, a word that is not there as it was
unfoldable pub standing : Width → Words → ℕ → List ℕ → List ℕ
standing w Two k t = unmoved 0 t ++ map (times (step2 w) k) (unmoved 16 t) ++ unmoved 32 t
standing w Three k t = unmoved 0 t ++ map (times (step2 w) k) (unmoved 16 t) ++ map (times (step3 w) k) (unmoved 32 t)

-- where two rounds move the cells of a word: the permutation twice, which keeps the upper half and the lower half apart
abbrev pub moved_once : List ℕ → List ℕ
moved_once s = permuted 0 (permuted 0 s)

-- and k times two rounds
abbrev pub moved : ℕ → List ℕ → List ℕ
moved zero s = s
moved (suc k) s = moved_once (moved k s)

-- the halves of sixteen cells: the top two rows, and the bottom two
abbrev pub upper : List ℕ → List ℕ
upper s = get_or s 0 0 ∷ get_or s 1 0 ∷ get_or s 2 0 ∷ get_or s 3 0 ∷ get_or s 4 0 ∷ get_or s 5 0 ∷ get_or s 6 0 ∷ get_or s 7 0 ∷ []

abbrev pub lower : List ℕ → List ℕ
lower s = get_or s 8 0 ∷ get_or s 9 0 ∷ get_or s 10 0 ∷ get_or s 11 0 ∷ get_or s 12 0 ∷ get_or s 13 0 ∷ get_or s 14 0 ∷ get_or s 15 0 ∷ []

-- a key xored into row i
abbrev pub row_laid : ℕ → List ℕ → List (List ℕ) → List (List ℕ)
row_laid i k keys = set keys i (xor_row (get_or keys i []) k)

-- the keys of two rounds laid, the first of them round i's: the lower half of s, then the upper one
abbrev pub pair_laid : ℕ → List ℕ → List (List ℕ) → List (List ℕ)
pair_laid i s keys = row_laid (i + 1) (upper s) (row_laid i (lower s) keys)

-- the keys of the b rounds after t's are laid, each into its row; the rows to t's own, and those behind, are as they were
pub record Laid (w : Width) (n : Words) (t : Tweakey) (b : ℕ) (before keys : List (List ℕ)) : Type 0 where
  pub long : length keys ≡ length before
  pub front : (r : ℕ) → r < t.at + 1 → get_or keys r [] ≡ get_or before r []
  pub rows : (k : ℕ) → k < b → get_or keys (t.at + k + 1) [] ≡ xor_row (get_or before (t.at + k + 1) []) (round_key n (advance w n (k + 1) t).cells)
  pub behind : (r : ℕ) → t.at + b < r → get_or keys r [] ≡ get_or before r []
