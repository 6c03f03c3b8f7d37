-- A loop that writes on into the rest of a room: what it has laid down so far, and what is known of that. One turn lends the rest,
-- and the callee puts x at its front. Assumes nothing.
use mathlib.Core.Path.{◌≡◌, refl}
use mathlib.Core.List.{List, [], ◌++◌}
use Prim.Native.Nat.{ℕ, ◌+◌, ◌≤◌}
use lib.ListN.{length}
use Rattle.blocks.proofs.Wrote.{Wrote, wrote_none, wrote_more}
use Rattle.walks.specs.Walks.{Put}
use Rattle.walks.proofs.Answered.{put_as}
use Rattle.walks.proofs.Places.{lent, after}

-- room is room₀ with `done` at its front, as far as `at`, and P holds of `done`
pub record Writing (P : List ℕ → Type 0) (room₀ : List ℕ) (at : ℕ) (room : List ℕ) : Type 0 where
  pub done : List ℕ
  pub holds : P done
  pub wrote : Wrote done room₀ at room

pub writing_none : (P : List ℕ → Type 0) (room : List ℕ) → P [] → Writing P room 0 room
writing_none P room h = record { done = []; holds = h; wrote = wrote_none room }

module _ {P : List ℕ → Type 0} {room₀ room : List ℕ} {at : ℕ} (w : Writing P room₀ at room) {n : ℕ} {x ys : List ℕ}
    (p : Put x n (lent at room) ys) (fits : at + n ≤ length room₀) where
  more : Wrote (w.done ++ x) room₀ (at + n) (after at room ys)
  more = wrote_more w.wrote n x ys p.long fits p.said

  -- a turn
  pub writing_more : (Q : List ℕ → Type 0) → ((done : List ℕ) → P done → Q (done ++ x)) → Writing Q room₀ (at + n) (after at room ys)
  writing_more Q f = record { done = w.done ++ x; holds = f w.done w.holds; wrote = more }

  -- the end: what stands in the room
  pub writing_end : (all : List ℕ) → ((done : List ℕ) → P done → done ++ x ≡ all) → Put all (at + n) room₀ (after at room ys)
  writing_end all f = put_as (f w.done w.holds) refl (record { said = more.said; long = more.reach })
