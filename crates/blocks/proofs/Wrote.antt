-- What a writer that goes on into the rest of a room has laid down so far.
--     wrote_none   nothing
--     wrote_more   n bytes x more, by a callee that was lent the rest, `&mut room[at..]`, and put x at its front
-- Assumes nothing.
use mathlib.Core.Path.{◌≡◌, refl, ap, ◌∙◌}
use mathlib.Core.List.{List, [], ◌++◌, append_assoc}
use Prim.Native.Nat.{ℕ, ◌+◌, ◌-◌, ◌≤◌}
use native.Mathlib.Omega.{arith}
use lib.ListN.{length, take, drop, length-append, length-drop}
use lib.Seq.{take_at, drop_at, drop-drop}
use Rattle.blocks.proofs.Parts.{part_rest, put_rest}

-- room is room₀ with out at its front, as far as at
pub record Wrote (out room₀ : List ℕ) (at : ℕ) (room : List ℕ) : Type 0 where
  pub said : room ≡ out ++ drop at room₀
  pub reach : length out ≡ at
  pub long : length room ≡ length room₀

pub wrote_none : (room : List ℕ) → Wrote [] room 0 room
wrote_none room = record { said = refl; reach = refl; long = refl }

-- the first n bytes x, by a callee that was lent the whole room
pub wrote_first : {x room₀ room : List ℕ} (n : ℕ) → length x ≡ n → n ≤ length room₀ → room ≡ x ++ drop n room₀ → Wrote x room₀ n room
wrote_first {x} {room₀} {room} n e k h =
    record { said = h; reach = e; long = ap length h ∙ simp (length-append, length-drop) (omega arith) }

module _ {out room₀ room : List ℕ} {at : ℕ} (w : Wrote out room₀ at room) (n : ℕ) (x ys : List ℕ) (e : length x ≡ n) where
  said_more
      : ys ≡ x ++ drop n (take (length room - at) (drop at room))
      → take at room ++ (ys ++ drop (length room - at) (drop at room)) ≡ (out ++ x) ++ drop (at + n) room₀
  said_more h =
      put_rest at room ys
      ∙ rw (h, part_rest at room, w.said, take_at out (drop at room₀) at w.reach, drop_at out (drop at room₀) at w.reach, drop-drop n at room₀, append_assoc)

  pub wrote_more
      : at + n ≤ length room₀
      → ys ≡ x ++ drop n (take (length room - at) (drop at room))
      → Wrote (out ++ x) room₀ (at + n) (take at room ++ (ys ++ drop (length room - at) (drop at room)))
  wrote_more k h =
      let l : length (out ++ x) ≡ at + n = length-append out x ∙ omega (arith, w.reach) in
      record {
        said = said_more h;
        reach = l;
        long = ap length (said_more h) ∙ length-append (out ++ x) (drop (at + n) room₀) ∙ rw (l, length-drop) (omega arith);
      }
