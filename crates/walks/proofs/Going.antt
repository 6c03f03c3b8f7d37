-- The loop of a walk that writes: what holds at `at` of the state and of what is laid down (P), and one turn of it. The last block of l
-- bytes, which the loop does not work, begins at `last`. Assumes nothing.
use mathlib.Core.List.{List, [], ◌++◌}
use mathlib.Core.Path.{◌≡◌}
use Prim.Native.Nat.{ℕ, ◌+◌, ◌*◌, ◌≤◌, ◌<◌}
use native.Mathlib.Omega.{arith}
use lib.ListN.{length, take}
use Rattle.modes.specs.Blocks.{before_last}
use Rattle.states.specs.declared.Kind.{Kind}
use Rattle.states.specs.declared.State.{State}
use Rattle.states.specs.Modes.{Carried, state_of}
use Rattle.walks.specs.Walks.{Turned}
use Rattle.walks.proofs.Places.{lent, after}
use Rattle.walks.proofs.Strides.{Place, place_none, place_more}
use Rattle.walks.proofs.Writing.{Writing, writing_none, writing_more}

pub record Going (n l last : ℕ) (P : State → ℕ → List ℕ → Type 0) (room₀ : List ℕ) (s : State) (at : ℕ) (room : List ℕ) : Type 0 where
  pub writing : Writing (P s at) room₀ at room
  pub place : Place n l last at
  pub number : s.number ≤ at + 1

module _ (n l last : ℕ) (e : last ≡ before_last n l * n) (P : State → ℕ → List ℕ → Type 0) where
  pub going_none : (room : List ℕ) (s : State) → P s 0 [] → s.number ≤ 1 → Going n l last P room s 0 room
  going_none room s p h =
      record { writing = writing_none (P s 0) room p; place = place_none n l last e; number = omega (arith, h) }

  -- a turn that was lent the rest of the room and left ys in it
  pub going_more
      : {room₀ : List ℕ} {s : State} {at : ℕ} {room : List ℕ} {k : Kind} {f : Carried k → List ℕ → List ℕ}
      {g : Carried k → List ℕ → Carried k} {part : List ℕ} {s' : State} {ys : List ℕ}
      → Going n l last P room₀ s at room → Turned k n f g s part (lent at room) s' ys → 0 < n → at < last → last ≤ length room₀
      → ((done : List ℕ) → P s at done → P s' (at + n) (done ++ f (state_of k n s) (take n part)))
      → Going n l last P room₀ s' (at + n) (after at room ys)
  going_more {at = at} {s' = s'} w t p h fits next = record {
    writing = writing_more w.writing t.put (omega (arith, w.place.turn h, fits)) (P s' (at + n)) next;
    place = place_more n l last e w.place h;
    number = omega (arith, w.number, t.reached.number, p);
  }
