-- Where a tweakey stands after so many rounds, and so many rounds after so many. Assumes nothing.
use mathlib.Core.Path.{◌≡◌, sym, ap, ◌∙◌}
use Prim.Native.Nat.{ℕ, zero, suc, ◌+◌}
use native.Mathlib.Nat.{add-zero, add-suc}
use native.Mathlib.Omega.{arith}
use Rattle.cells.specs.Cells.{Width, Words}
use Rattle.schedule.specs.declared.Tweakey.{Tweakey}
use Rattle.schedule.specs.Schedule.{next, advance}

pub advance_at : (w : Width) (n : Words) (m : ℕ) (t : Tweakey) → (advance w n m t).at ≡ t.at + m
unfolding advance
advance_at w n zero t = omega arith
advance_at w n (suc m) t = let e : (advance w n m t).at ≡ t.at + m = advance_at w n m t in omega arith

pub advance_add : (w : Width) (n : Words) (a b : ℕ) (t : Tweakey) → advance w n b (advance w n a t) ≡ advance w n (a + b) t
unfolding advance
advance_add w n a zero t = ap (λ (k : ℕ). advance w n k t) (sym (add-zero a))
advance_add w n a (suc b) t = ap (next w n) (advance_add w n a b t) ∙ ap (λ (k : ℕ). advance w n k t) (sym (add-suc a b))
