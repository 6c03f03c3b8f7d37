-- The key's share of the round keys, and the tweak's. A tweakey's last word is the tweak's, and the words before it are the key's. What a
-- key gives to all rounds can be worked out once: a row for each time that the cells are stepped, unmoved, for they are moved when a key is
-- laid (Sixteen.antt). Assumes nothing.
use Rattle.std.specs.Prelude.{◌≡◌, ℕ, suc, ◌+◌, ◌*◌, ◌/◌, ◌%◌, ◌<◌, List, [], length, get_or}
use Rattle.std.specs.Int.Bits.{bit_xor}
use Rattle.cells.specs.Cells.{Width, Nibble, Byte, Words, Two, Three, LowCells, step2, step3}
use Rattle.schedule.specs.declared.Tweakey.{Tweakey}
use Rattle.schedule.specs.declared.Moving.{Moving}
use Rattle.schedule.specs.Schedule.{advance}
use Rattle.schedule.specs.Sixteen.{times, Laid}

-- the key's words xored, after k steps, at place j
abbrev pub share_cell : Width → Words → List ℕ → (k j : ℕ) → ℕ
share_cell w Two t k j = get_or t j 0
share_cell w Three t k j = bit_xor (get_or t j 0) (times (step2 w) k (get_or t (16 + j) 0))

-- where the tweak's word begins, and how it is stepped
abbrev pub tweak_at : Words → ℕ
tweak_at Two = 16
tweak_at Three = 32

abbrev pub tweak_step : Width → Words → ℕ → ℕ
tweak_step w Two x = step2 w x
tweak_step w Three x = step3 w x

-- a tweakey before the first round, in two parts: 49 rows of its key's share, one after the other, and its tweak's word
pub record Parts (w : Width) (n : Words) (t : Tweakey) (share tweak : List ℕ) : Type 0 where
  pub first : t.at ≡ 0
  pub low : LowCells w t.cells
  pub key : (k j : ℕ) → k < 49 → j < 16 → get_or share (16 * k + j) 0 ≡ share_cell w n t.cells k j
  pub word : (j : ℕ) → j < 16 → get_or t.cells (tweak_at n + j) 0 ≡ get_or tweak j 0

-- ---- sixteen rounds on at once

-- the cells t stepped eight times by f are c; after k + 1 steps, they and the row of the share with the number row + k are row k of the sums
pub record Summed (f : ℕ → ℕ) (row : ℕ) (share t c : List ℕ) (sums : List (List ℕ)) : Type 0 where
  pub cells : (j : ℕ) → j < 16 → get_or c j 0 ≡ times f 8 (get_or t j 0)
  pub at : (k j : ℕ) → k < 8 → j < 16 → get_or (get_or sums k []) j 0 ≡ bit_xor (get_or share (16 * (row + k) + j) 0) (times f (suc k) (get_or t j 0))

-- a tweakey where a turn begins: the rows of its key's share are those from half its rounds on, and u is its tweak's word
pub record Along (w : Width) (n : Words) (t : Tweakey) (share : List ℕ) (u : Moving) : Type 0 where
  pub here : t.at ≡ u.at
  pub key : (k j : ℕ) → u.at / 2 + k < 49 → j < 16 → get_or share (16 * (u.at / 2 + k) + j) 0 ≡ share_cell w n t.cells k j
  pub word : (j : ℕ) → j < 16 → get_or t.cells (tweak_at n + j) 0 ≡ get_or u.cells j 0

-- a turn: u goes sixteen rounds on, and the keys of these rounds are laid
pub record Turn (w : Width) (n : Words) (share : List ℕ) (u v : Moving) (before keys : List (List ℕ)) : Type 0 where
  pub on : v.at ≡ u.at + 16
  pub long : length keys ≡ length before
  pub led : (t : Tweakey) → Along w n t share u → Along w n (advance w n 16 t) share v × Laid w n t 16 before keys

-- ---- one changed byte of the tweak

-- the change of the last byte, by its cells: cell 14 of the word and cell 15
abbrev pub change14 : Width → ℕ → ℕ
change14 Nibble d = d / 16
change14 Byte d = 0

abbrev pub change15 : Width → ℕ → ℕ
change15 Nibble d = d % 16
change15 Byte d = d

-- u is as t before the first round, but for the last byte of its tweak, which is another by d
pub record LastChanged (w : Width) (n : Words) (d : ℕ) (t u : Tweakey) : Type 0 where
  pub first : u.at ≡ 0
  pub low : LowCells w u.cells
  pub before : (j : ℕ) → j < tweak_at n + 14 → get_or u.cells j 0 ≡ get_or t.cells j 0
  pub cell14 : get_or u.cells (tweak_at n + 14) 0 ≡ bit_xor (get_or t.cells (tweak_at n + 14) 0) (change14 w d)
  pub cell15 : get_or u.cells (tweak_at n + 15) 0 ≡ bit_xor (get_or t.cells (tweak_at n + 15) 0) (change15 w d)
