-- The end of a run, a block and leading bytes of a second: sealed and opened again it is the last block of the body, and opened
-- and sealed again the end of the run, for every mode that obeys the laws. Assumes nothing.
use mathlib.Core.Path.{◌≡◌, refl, sym, ap, ap₂, ◌∙◌}
use Prim.Native.Nat.{ℕ, ◌+◌, ◌-◌, ◌≤◌}
use native.Mathlib.Omega.{arith}
use mathlib.Core.Bool.{Bool, true, false, ◌&&◌, false≢true}
use mathlib.Core.List.{List}
use lib.ListN.{length, take, drop, take-append-drop}
use lib.Seq.{length-take-le, take_at, drop_at}
use Rattle.cells.specs.Cells.{Bytes, Block}
use Rattle.modes.specs.Blocks.{full, ten, pad, same}
use Rattle.modes.specs.Mode.{Mode, Opened, join, end_block, end_tag, judge, seal_last, open_last}
use Rattle.modes.specs.Lawful.{Lawful}
use Rattle.modes.proofs.Bytes.{block_take, block_drop, block_size, block_append}
use Rattle.modes.proofs.Bytes.{pad_block, take_pad, pad_rest, pad_judged, same_refl, same_eq}
use Rattle.modes.proofs.Undo.{undo_one}

-- ---- a block a and bytes t, in one order or the other

block_join : (o : Bool) (n r : ℕ) (a t : List ℕ) → length a ≡ n → length t ≡ r → end_block o n r (join o a t) ≡ a
unfolding join end_block
block_join true n r a t ha ht = take_at a t n ha
block_join false n r a t ha ht = drop_at t a r ht

tag_join : (o : Bool) (n r : ℕ) (a t : List ℕ) → length a ≡ n → length t ≡ r → end_tag o n r (join o a t) ≡ t
unfolding join end_tag
tag_join true n r a t ha ht = drop_at a t n ha
tag_join false n r a t ha ht = take_at t a r ht

join_split : (o : Bool) (n r : ℕ) (c : List ℕ) → join o (end_block o n r c) (end_tag o n r c) ≡ c
unfolding join end_block end_tag
join_split true n r c = take-append-drop n c
join_split false n r c = take-append-drop r c

join_block : (o : Bool) (n r : ℕ) (a t : List ℕ) → Block n a → Block r t → Block (r + n) (join o a t)
unfolding join
join_block true n r a t ha ht = block_size (block_append ha ht) (omega arith)
join_block false n r a t ha ht = block_append ht ha

block_block : (o : Bool) (n r : ℕ) (c : List ℕ) → Block (r + n) c → Block n (end_block o n r c)
unfolding end_block
block_block true n r c h = block_take n c (omega (arith, h.long)) h.bytes
block_block false n r c h = block_drop r n c h.long h.bytes

-- ---- the judge

both : (a b : Bool) → a && b ≡ true → (a ≡ true) × (b ≡ true)
both true b e = (refl, e)
both false b e = absurd (false≢true e)

module _ {St : Type 0} (n : ℕ) (M : Mode St) (Ok : St → Type 0) (L : Lawful n M Ok) where
  pub seal_last_block : (s : St) (x : List ℕ) → Ok s → Bytes x → length x ≤ n → Block (length x + n) (seal_last n M s x)
  unfolding seal_last
  seal_last_block s x ok b h =
      let f : Bool = full n (length x) in
      let p : Block n (pad n x) = pad_block n x b in
      let t : Block n (M.tag f s (pad n x)) = L.tag_block f s _ ok p in
      join_block M.block_first n (length x) _ _ ((L.undo_fin f s ok).to _ p) (block_take (length x) _ (omega (arith, t.long)) t.bytes)

  -- ---- an end of r + n bytes, taken apart

  module _ (s : St) (x : List ℕ) (r : ℕ) (ok : Ok s) (b : Bytes x) (e : length x ≡ r) (h : r ≤ n) where
    fin_long : length (M.fin (full n (length x)) s (pad n x)) ≡ n
    fin_long = ((L.undo_fin (full n (length x)) s ok).to _ (pad_block n x b)).long

    tag_long : length (take (length x) (M.tag (full n (length x)) s (pad n x))) ≡ r
    tag_long = length-take-le (length x) _ (omega (arith, (L.tag_block (full n (length x)) s _ ok (pad_block n x b)).long)) ∙ e

    pub block_of_end : end_block M.block_first n r (seal_last n M s x) ≡ M.fin (full n r) s (pad n x)
    unfolding seal_last
    block_of_end = block_join M.block_first n r _ _ fin_long tag_long ∙ ap (λ (k : ℕ). M.fin (full n k) s (pad n x)) e

    pub tag_of_end : end_tag M.block_first n r (seal_last n M s x) ≡ take r (M.tag (full n r) s (pad n x))
    unfolding seal_last
    tag_of_end =
        tag_join M.block_first n r (M.fin (full n (length x)) s (pad n x)) _ fin_long tag_long
        ∙ ap (λ (k : ℕ). take k (M.tag (full n k) s (pad n x))) e

  -- the block of an end tells the last block, and so the whole end
  pub end_told : (s : St) (x y : List ℕ) (r : ℕ) → Ok s → Bytes x → Bytes y → length x ≡ r → length y ≡ r → r ≤ n
      → end_block M.block_first n r (seal_last n M s x) ≡ end_block M.block_first n r (seal_last n M s y)
      → seal_last n M s x ≡ seal_last n M s y
  end_told s x y r ok hx hy lx ly h q =
      let padded : pad n x ≡ pad n y = undo_one (L.undo_fin (full n r) s ok) (pad_block n x hx) (pad_block n y hy)
      (sym (block_of_end s x r ok hx lx h) ∙ q ∙ block_of_end s y r ok hy ly h) in
      ap (seal_last n M s) (sym (take_pad n x (omega arith)) ∙ ap₂ take (lx ∙ sym ly) padded ∙ take_pad n y (omega arith))

  -- opening an end whose last block had r bytes
  open_at : St → ℕ → List ℕ → Opened
  open_at s r c =
      let x = end_block M.block_first n r c in
      judge n r (M.unfin (full n r) s x) (M.untag (full n r) s x) (end_tag M.block_first n r c)

  open_at_lem : (s : St) (r : ℕ) (c : List ℕ) → length c ≡ r + n → open_last n M s c ≡ open_at s r c
  unfolding open_last open_at
  open_at_lem s r c h = let e : length c - n ≡ r = omega arith in ap (λ (k : ℕ). open_at s k c) e

  seal_open_at : (s : St) (c : List ℕ) (r : ℕ) → Ok s → Block (r + n) c → r ≤ n → (open_at s r c).authentic ≡ true
      → Block r (open_at s r c).body × (seal_last n M s (open_at s r c).body ≡ c)
  unfolding open_at judge seal_last
  seal_open_at s c r ok h k e =
      let f : Bool = full n r in
      let o : Bool = M.block_first in
      let a : List ℕ = end_block o n r c in
      let ab : Block n a = block_block o n r c h in
      let p : List ℕ = M.unfin f s a in
      let pb : Block n p = (L.undo_fin f s ok).fro a ab in
      let t : List ℕ = end_tag o n r c in
      let y : (same (take r (M.untag f s a)) t ≡ true) × (same (drop r p) (take (n - r) (ten n)) ≡ true) = both _ _ e in
      let et : take r (M.tag f s p) ≡ t = ap (take r) (sym (L.tag_is f s a ok ab)) ∙ same_eq _ _ y.0 in
      let ep : pad n (take r p) ≡ p = pad_judged n r p pb.long k (same_eq _ _ y.1) in
      let bb : Block r (take r p) = block_take r p (omega (arith, pb.long)) pb.bytes in (
        bb,
        ap₂ (λ (q : ℕ) (w : List ℕ). join o (M.fin (full n q) s w) (take q (M.tag (full n q) s w))) bb.long ep
            ∙ ap₂ (join o) ((L.undo_fin f s ok).again a ab) et
            ∙ join_split o n r c,
      )

  pub seal_open_last : (s : St) (c : List ℕ) (r : ℕ) → Ok s → Block (r + n) c → r ≤ n → (open_last n M s c).authentic ≡ true
      → Block r (open_last n M s c).body × (seal_last n M s (open_last n M s c).body ≡ c)
  seal_open_last s c r ok h k e =
      rw (open_at_lem s r c h.long) (seal_open_at s c r ok h k (rw (open_at_lem s r c h.long) at e))

judge_yes : (n r : ℕ) (p second tag x : List ℕ) → take r second ≡ tag → drop r p ≡ take (n - r) (ten n) → take r p ≡ x
    → judge n r p second tag ≡ record { authentic = true; body = x }
unfolding judge
judge_yes n r p second tag x e₁ e₂ e₃ = rw (e₁, e₂, e₃, same_refl tag, same_refl (take (n - r) (ten n)))

module _ {St : Type 0} (n : ℕ) (M : Mode St) (Ok : St → Type 0) (L : Lawful n M Ok) where
  pub open_seal_last : (s : St) (x : List ℕ) → Ok s → Bytes x → length x ≤ n
      → open_last n M s (seal_last n M s x) ≡ record { authentic = true; body = x }
  unfolding open_at
  open_seal_last s x ok b h =
      let r : ℕ = length x in
      let f : Bool = full n r in
      let p : List ℕ = pad n x in
      let pb : Block n p = pad_block n x b in
      let a : List ℕ = M.fin f s p in
      let ea : M.unfin f s a ≡ p = (L.undo_fin f s ok).there p pb in
      let et : M.untag f s a ≡ M.tag f s p = L.tag_is f s a ok ((L.undo_fin f s ok).to p pb) ∙ ap (M.tag f s) ea in
      let t : List ℕ = take r (M.tag f s p) in
      open_at_lem n M Ok L s r (seal_last n M s x) (seal_last_block n M Ok L s x ok b h).long
      ∙ ap₂ (λ (z w : List ℕ). judge n r (M.unfin f s z) (M.untag f s z) w) (block_of_end n M Ok L s x r ok b refl h) (tag_of_end n M Ok L s x r ok b refl h)
      ∙ ap₂ (λ (z w : List ℕ). judge n r z w t) ea et
      ∙ judge_yes n r p (M.tag f s p) t x refl (pad_rest n x h) (take_pad n x h)
