-- One changed byte of the tweak, as the code corrects the round keys. A cell of the lower half of the tweak's word stands in the upper half
-- after every odd number of rounds, and only there a round takes it; from one odd round to the next it is stepped once more, and goes to
-- another of the eight places. That this is what the schedule does is proved in proofs/Changed.antt. Assumes nothing.
use Rattle.std.specs.Prelude.{◌≡◌, ℕ, suc, ◌+◌, ◌*◌, ◌%◌, ◌<◌, ◌≤◌, List, [], ◌∷◌, length, get_or, set}
use Rattle.std.specs.Int.Bits.{bit_xor}
use Rattle.schedule.specs.Sixteen.{times}

-- a cell of a row xored
abbrev pub cell_xored : ℕ → ℕ → List ℕ → List ℕ
cell_xored p x r = set r p (bit_xor (get_or r p 0) x)

-- and of row i
abbrev pub cell_laid : ℕ → ℕ → ℕ → List (List ℕ) → List (List ℕ)
cell_laid i p x keys = set keys i (cell_xored p x (get_or keys i []))

-- the places of cells 14 and 15 of the tweak's word in the keys of the rounds 1, 3, .. 15
abbrev pub places14 : List ℕ
places14 = 5 ∷ 3 ∷ 7 ∷ 1 ∷ 0 ∷ 2 ∷ 4 ∷ 6 ∷ []

abbrev pub places15 : List ℕ
places15 = 1 ∷ 0 ∷ 2 ∷ 4 ∷ 6 ∷ 5 ∷ 3 ∷ 7 ∷ []

-- the key of round 2k + 1 where a cell with these places changed by x: by then it is stepped k + 1 times
abbrev pub corrected : (ℕ → ℕ) → List ℕ → ℕ → ℕ → List ℕ → List ℕ
corrected f places x k r = cell_xored (get_or places (k % 8) 0) (times f (suc k) x) r

-- of the rows 2k + 1 for k from a to below b, g makes the new ones; all others are as they were
pub record OddRows (g : ℕ → List ℕ → List ℕ) (a b : ℕ) (before keys : List (List ℕ)) : Type 0 where
  pub long : length keys ≡ length before
  pub odd : (k : ℕ) → a ≤ k → k < b → get_or keys (2 * k + 1) [] ≡ g k (get_or before (2 * k + 1) [])
  pub front : (k : ℕ) → k < a → get_or keys (2 * k + 1) [] ≡ get_or before (2 * k + 1) []
  pub behind : (k : ℕ) → b ≤ k → get_or keys (2 * k + 1) [] ≡ get_or before (2 * k + 1) []
  pub even : (k : ℕ) → get_or keys (2 * k) [] ≡ get_or before (2 * k) []

-- k steps of turn i: a change d that was x when the turn began is now y, and the rows of these steps are corrected
pub record CellOn (f : ℕ → ℕ) (places : List ℕ) (i k x : ℕ) (before : List (List ℕ)) (y : ℕ) (keys : List (List ℕ)) : Type 0 where
  pub led : (d : ℕ) → x ≡ times f (8 * i) d → (y ≡ times f (8 * i + k) d) × OddRows (corrected f places d) (8 * i) (8 * i + k) before keys
