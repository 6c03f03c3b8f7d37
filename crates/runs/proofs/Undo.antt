-- Rounds in a row undone, and rounds back undone, over the width and the number of words; and what they make of cells are
-- cells. Assumes nothing.
use mathlib.Core.Path.{◌≡◌, refl, ap, ◌∙◌}
use Prim.Native.Nat.{ℕ, zero, suc}
use Rattle.cells.specs.Cells.{Width, Words, LowCells}
use Rattle.schedule.specs.declared.Tweakey.{Tweakey}
use Rattle.constants.specs.Constants.{constant}
use Rattle.schedule.specs.Schedule.{round_key, advance}
use Rattle.schedule.proofs.Low.{constant_low, advance_low, key_low}
use Rattle.rounds.specs.State.{State}
use Rattle.rounds.proofs.Undo.{Cells, round_low, round_square, unround_low, unround_square, unround_round, round_unround}
use Rattle.runs.specs.Runs.{rounds, unrounds, round_at, unround_at}

module _ (w : Width) (n : Words) where
  -- ---- one round, at a tweakey of cells

  module _ (t : Tweakey) (k : LowCells w t.cells) (s : State) (h : Cells w s) where
    key : LowCells w (round_key n t.cells)
    key = key_low w n t.cells k

    round_cells : Cells w (round_at w n t s)
    round_cells = record {
      low = round_low w (constant t.at) (round_key n t.cells) s (constant_low t.at) key h.low;
      square = round_square w (constant t.at) (round_key n t.cells) s;
    }

    unround_cells : Cells w (unround_at w n t s)
    unround_cells = record {
      low = unround_low w (constant t.at) (round_key n t.cells) s (constant_low t.at) key h.low;
      square = unround_square w (constant t.at) (round_key n t.cells) s;
    }

    there_back : unround_at w n t (round_at w n t s) ≡ s
    there_back = unround_round w (constant t.at) (round_key n t.cells) s h.low ∙ h.square

    back_there : round_at w n t (unround_at w n t s) ≡ s
    back_there = round_unround w (constant t.at) (round_key n t.cells) s (constant_low t.at) key h.low ∙ h.square

  -- ---- m rounds

  pub rounds_cells : (m : ℕ) (t : Tweakey) (s : State) → LowCells w t.cells → Cells w s → Cells w (rounds w n m t s)
  unfolding rounds
  rounds_cells zero t s k h = h
  rounds_cells (suc m) t s k h =
      round_cells (advance w n m t) (advance_low w n m t k) (rounds w n m t s) (rounds_cells m t s k h)

  pub unrounds_cells : (m : ℕ) (t : Tweakey) (s : State) → LowCells w t.cells → Cells w s → Cells w (unrounds w n m t s)
  unfolding unrounds
  unrounds_cells zero t s k h = h
  unrounds_cells (suc m) t s k h =
      unrounds_cells m t (unround_at w n (advance w n m t) s) k (unround_cells (advance w n m t) (advance_low w n m t k) s h)

  pub unrounds_rounds : (m : ℕ) (t : Tweakey) (s : State) → LowCells w t.cells → Cells w s → unrounds w n m t (rounds w n m t s) ≡ s
  unfolding rounds unrounds
  unrounds_rounds zero t s k h = refl
  unrounds_rounds (suc m) t s k h =
      ap (unrounds w n m t) (there_back (advance w n m t) (advance_low w n m t k) (rounds w n m t s) (rounds_cells m t s k h))
      ∙ unrounds_rounds m t s k h

  pub rounds_unrounds : (m : ℕ) (t : Tweakey) (s : State) → LowCells w t.cells → Cells w s → rounds w n m t (unrounds w n m t s) ≡ s
  unfolding rounds unrounds
  rounds_unrounds zero t s k h = refl
  rounds_unrounds (suc m) t s k h =
      let u = advance w n m t in
      let x = unround_at w n u s in
      ap (round_at w n u) (rounds_unrounds m t x k (unround_cells u (advance_low w n m t k) s h))
      ∙ back_there u (advance_low w n m t k) s h
