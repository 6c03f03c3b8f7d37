-- The part of the room that is printed, and the lines of the answers. Assumes nothing.
use mathlib.Core.Path.{◌≡◌}
use mathlib.Core.Bool.{not}
use mathlib.Core.List.{List, [], ◌++◌}
use Prim.Native.Nat.{ℕ, ◌≤◌}
use native.Mathlib.Omega.{arith}
use borrow.Author.Tests.{le-ltb, ne_eqb}
use lib.Dec.{eqb, ltb}
use lib.ListN.{length, take, drop, length-take, length-append}
use lib.Seq.{take_at}
use Rattle.views.specs.View.{view_of}
use Rattle.sealing.specs.Calls.{Told, done}
use Rattle.cells.proofs.Choice.{either}
use Rattle.lines.specs.Line.{line_of}
use Rattle.job.specs.Job.{line_for}

-- a part is no longer than its room
pub view_most : (number l : ℕ) (room : List ℕ) → length (view_of number l room) ≤ length room
unfolding view_of
view_most number l room =
    let Most : List ℕ → Type 0 = λ v. length v ≤ length room in
    either Most (not (eqb number 0)) [] _ (omega arith)
    (either Most (ltb (length room) l) [] (take l room) (omega arith) (simp length-take (omega arith)))

-- ---- the line of each way in which a call answers

-- done: what was put at the front of the room, whatever stood there before
pub done_line : (r l : ℕ) (out room : List ℕ) → length out ≡ l → line_for (done r l out room) ≡ line_of 0 l out
unfolding view_of
done_line r l out room e =
    let m : l ≤ length (out ++ drop l room) = omega (arith, length-append out (drop l room)) in
    rw (le-ltb (length (out ++ drop l room)) l m, take_at out (drop l room) l e)

-- refused: no output
pub refused_line : (t : Told) → (t.number ≡ 0 → ⊥) → t.length ≡ 0 → line_for t ≡ line_of t.number 0 []
unfolding view_of
refused_line t h e = rw (e, ne_eqb t.number 0 h)
