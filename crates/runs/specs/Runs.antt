-- Rounds in a row from a place in the schedule, forward and back: Enc-Skinny and Dec-Skinny of figure 4 of the Forkcipher
-- paper. Assumes nothing.
use Rattle.std.specs.Prelude.{◌≡◌, List, ℕ, zero, suc, ◌+◌}
use Rattle.cells.specs.Cells.{Width, Words}
use Rattle.schedule.specs.declared.Tweakey.{Tweakey}
use Rattle.constants.specs.Constants.{constant}
use Rattle.schedule.specs.Schedule.{round_key, advance, RoundKeys}
use Rattle.rounds.specs.State.{State, round, unround}

-- the round that a tweakey serves: its place gives the constant, its cells the key
abbrev pub round_at : Width → Words → Tweakey → State → State
round_at w n t s = round w (constant t.at) (round_key n t.cells) s

abbrev pub unround_at : Width → Words → Tweakey → State → State
unround_at w n t s = unround w (constant t.at) (round_key n t.cells) s

-- m rounds from the tweakey t on
unfoldable pub rounds : Width → Words → ℕ → Tweakey → State → State
rounds w n zero t s = s
rounds w n (suc m) t s = round_at w n (advance w n m t) (rounds w n m t s)

-- these m rounds undone, the last one first
unfoldable pub unrounds : Width → Words → ℕ → Tweakey → State → State
unrounds w n zero t s = s
unrounds w n (suc m) t s = unrounds w n m t (unround_at w n (advance w n m t) s)

-- ---- what the code is told: with what a tweakey's first m rounds add, r is s after count rounds from round `from` on; likewise back
pub record Ran (w : Width) (m : ℕ) (keys : List (List ℕ)) (from count : ℕ) (s r : State) : Type 0 where
  pub by : (n : Words) (t : Tweakey) → RoundKeys w n m t keys → r ≡ rounds w n count (advance w n from t) s

pub record Unran (w : Width) (m : ℕ) (keys : List (List ℕ)) (from count : ℕ) (s r : State) : Type 0 where
  pub by : (n : Words) (t : Tweakey) → RoundKeys w n m t keys → r ≡ unrounds w n count (advance w n from t) s

-- two states side by side, the second from as many rounds later on
abbrev pub RanBoth : Width → List (List ℕ) → ℕ → ℕ → State → State → State → State → Type 0
RanBoth w keys from count s r s' r' =
    Ran w (from + count + count) keys from count s r × Ran w (from + count + count) keys (from + count) count s' r'

-- two states from the fork: of the first n rounds undone, of the second count rounds run from round `from` on
abbrev pub RanApart : Width → List (List ℕ) → ℕ → ℕ → ℕ → State → State → State → State → Type 0
RanApart w keys n from count s r s' r' = Unran w (from + count) keys 0 n s r × Ran w (from + count) keys from count s' r'
