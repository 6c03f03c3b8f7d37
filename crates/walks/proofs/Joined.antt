-- The end of a run in either order, by the places that the code gives to its block of n bytes and to the l leading bytes of the second;
-- `ahead` says whether the block comes first.
--     block_there   what is loaded from the block's place
--     tag_there     what stands at the place of the leading bytes
--     both_put      what is left when each was stored at its place
-- Assumes nothing.
use mathlib.Core.Path.{◌≡◌, refl, sym, ap, ◌∙◌, subst⁻¹}
use mathlib.Core.Bool.{Bool, true, false, not, cond}
use mathlib.Core.List.{List, ◌++◌, append_assoc}
use Prim.Native.Nat.{ℕ, ◌+◌, ◌-◌, ◌≤◌}
use native.Mathlib.Omega.{arith}
use lib.ListN.{length, take, drop, length-append, length-drop, take-append-drop}
use lib.Seq.{length-take-le, take_all, drop_at}
use Rattle.blocks.proofs.Parts.{part_rest, put_rest}
use Rattle.blocks.proofs.Wrote.{Wrote, wrote_first, wrote_more}
use Rattle.modes.specs.Blocks.{pad}
use Rattle.modes.specs.Mode.{join, end_block, end_tag}
use Rattle.modes.proofs.Bytes.{pad_long, pad_full}
use Rattle.walks.specs.Walks.{Put}
use Rattle.walks.proofs.Answered.{put_as}
use Rattle.walks.proofs.Places.{lent, after}

-- ---- read

module _ (n l : ℕ) (run : List ℕ) (long : length run ≡ l + n) where
  pub block_there : (ahead : Bool) (at : ℕ) → at ≡ cond (not ahead) l 0 → pad n (lent at run) ≡ end_block ahead n l run
  unfolding end_block
  block_there ahead at e = ap (pad n) (part_rest at run) ∙ ap (λ (a : ℕ). pad n (drop a run)) e ∙ there ahead
    where
      there : (ahead : Bool) → pad n (drop (cond (not ahead) l 0) run) ≡ end_block ahead n l run
      there true = pad_long n run (omega arith)
      there false = pad_full n (drop l run) (length-drop l run ∙ omega arith)

  pub tag_there : (ahead : Bool) (from : ℕ) → from ≡ cond ahead n 0 → take (from + l - from) (drop from run) ≡ end_tag ahead n l run
  unfolding end_tag
  tag_there ahead from e =
      let size : from + l - from ≡ l = omega arith in
      (λ i. take (size i) (drop (e i) run)) ∙ there ahead
    where
      there : (ahead : Bool) → take l (drop (cond ahead n 0) run) ≡ end_tag ahead n l run
      there true = take_all l (drop n run) (rw (length-drop n run) (omega arith))
      there false = refl

-- ---- written: the block x and then the bytes y, whatever their order in the run; xs and ys are what was lent, when it came back

module _ (n l : ℕ) (x y old xs ys : List ℕ) (x_long : length x ≡ n) (y_long : length y ≡ l) (fits : l + n ≤ length old) where
  abbrev Puts : (ahead : Bool) (at from : ℕ) → Type 0
  Puts ahead at from =
      let mid = after at old xs in
      xs ≡ x ++ drop n (lent at old) → ys ≡ y ++ drop l (lent from mid) → Put (join ahead x y) (l + n) old (after from mid ys)

  puts : (ahead : Bool) → Puts ahead (cond (not ahead) l 0) (cond ahead n 0)
  unfolding join
  puts true ex ey =
      let front : after 0 old xs ≡ x ++ drop n old = put_rest 0 old xs ∙ ex ∙ ap (λ (t : List ℕ). x ++ drop n t) (part_rest 0 old) in
      let w = wrote_more {out = x} {room₀ = old} (wrote_first n x_long (omega arith) front) l y ys y_long (omega arith) ey in
      put_as refl (omega arith) (record { said = w.said; long = w.reach })
  puts false ex ey =
      let kept : length (take l old) ≡ l = length-take-le l old (omega arith) in
      let old_is : Wrote (take l old) old l old = record { said = sym (take-append-drop l old); reach = kept; long = refl } in
      let w = wrote_more old_is n x xs x_long fits ex in
      let mid = after l old xs in
      let back = drop (l + n) old in
      let behind : drop l mid ≡ x ++ back
      = ap (drop l) (w.said ∙ append_assoc (take l old) x back) ∙ drop_at (take l old) (x ++ back) l kept in
      record {
        said =
            put_rest 0 mid ys ∙ ey ∙ ap (λ (t : List ℕ). y ++ drop l t) (part_rest 0 mid) ∙ ap (λ (t : List ℕ). y ++ t) behind
            ∙ sym (append_assoc y x back);
        long = length-append y x ∙ omega arith;
      }

  pub both_put : {at from : ℕ} (ahead : Bool) → at ≡ cond (not ahead) l 0 → from ≡ cond ahead n 0 → Puts ahead at from
  both_put {from = from} ahead ea ef =
      subst⁻¹ (λ (a : ℕ). Puts ahead a from) ea (subst⁻¹ (Puts ahead (cond (not ahead) l 0)) ef (puts ahead))
