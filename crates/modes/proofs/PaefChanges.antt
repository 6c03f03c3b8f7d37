-- PAEF over any forkcipher with its laws: what one changed block, not the last, moves (C-23). It moves its own sealed block, and half 1 of it
-- moves S, which goes into C_* and nowhere else. Assumes nothing.
use mathlib.Core.Path.{◌≡◌, refl, sym, ap, ap₂, ◌∙◌}
use mathlib.Core.Logic.{◌↔◌}
use Prim.Native.Nat.{ℕ, zero, suc, ◌+◌, ◌*◌, ◌<◌}
use native.Mathlib.Omega.{arith}
use mathlib.Core.Bool.{Bool, false}
use mathlib.Core.List.{List, [], ◌∷◌}
use lib.ListN.{length, take, drop}
use lib.Seq.{take_all}
use Rattle.cells.specs.Cells.{Bytes, Block}
use Rattle.modes.specs.Blocks.{◌⊕◌, before_last, full}
use Rattle.modes.specs.Changes.{block_at, behind, AgreeTo, DifferAt, MovedAt}
use Rattle.modes.specs.Forkcipher.{Fork, ForkLaws}
use Rattle.modes.specs.Lawful.{Lawful}
use Rattle.modes.specs.Mode.{Mode, walk_from, walk, headed, seal_run}
use Rattle.modes.specs.Paef.{Sum, paef_body, paef_tweak, paef}
use Rattle.modes.proofs.Bytes.{pad_block, pad_full}
use Rattle.modes.proofs.Undo.{undo_one, xor_cancel}
use Rattle.modes.proofs.PaefLaws.{SumOk, number_block, paef_lawful}
use Rattle.modes.proofs.Rest.{before_last_behind, headed_skip, headed_some}
use Rattle.modes.proofs.Exact.{seal_run_block}
use Rattle.modes.proofs.Cut.{block_at_lem, after, sized}
use Rattle.modes.proofs.PaefSum.{sum_moves}
use Rattle.modes.proofs.PaefCut.{last_half, begun, begun_ok, middle, last_ok, last_bytes, c_star, tag_bytes}

module _ (n ν : ℕ) (F : Fork) (L : ForkLaws n F) (e : ν + 2 ≡ n) (nonce : List ℕ) (hn : Block ν nonce) where
  abbrev P : Mode Sum
  P = paef n F nonce

  lawful : Lawful n P (SumOk n)
  lawful = paef_lawful n ν F L e nonce hn

  tweak : (flag number : ℕ) → Block n (paef_tweak nonce flag number)
  tweak = number_block n ν F L e nonce hn

  -- ---- the runs of two bodies, cut

  module _ (header : List ℕ) (hh : Bytes header) (a b : List ℕ) (ha : Bytes a) (hb : Bytes b) where
    abbrev c : List ℕ
    c = seal_run n P header a

    abbrev c' : List ℕ
    c' = seal_run n P header b

    abbrev start : Sum
    start = begun n ν F L e nonce hn header hh

    -- a block before the last of both is sealed to the same exactly if it is the same
    pub block_exactly : (i : ℕ) → i < before_last n (length a) → i < before_last n (length b)
        → (block_at n i c ≡ block_at n i c') ↔ (block_at n i a ≡ block_at n i b)
    block_exactly i h h' =
        let fits : suc i * n < length a = before_last_behind n i (length a) lawful.positive h in
        let fits' : suc i * n < length b = before_last_behind n i (length b) lawful.positive h' in
        let in_a = middle n ν F L e nonce hn header hh a ha (omega arith) _ refl i h in
        let in_b = middle n ν F L e nonce hn header hh b hb (omega arith) _ refl i h' in
        let t : ℕ = start.number + i in (
          λ q. undo_one (L.undo _ (tweak 4 t)) (block_at_lem n i a ha (omega arith)) (block_at_lem n i b hb (omega arith)) (sym in_a ∙ q ∙ in_b),
          λ q. in_a ∙ ap (F.half 0 (paef_tweak nonce 4 t)) q ∙ sym in_b,
        )

    -- bodies of equal length, which are not empty; m is the number of their last block
    module _ (long : length a ≡ length b) (pos : 0 < length a) where
      abbrev m : ℕ
      m = before_last n (length a)

      abbrev x : List ℕ
      x = block_at n m a

      abbrev y : List ℕ
      y = block_at n m b

      abbrev t : ℕ
      t = start.number + m

      last : m ≡ before_last n (length b)
      last = ap (before_last n) long

      some : 0 < length b
      some = omega arith

      -- the same last block: the same trailing bytes
      pub tag_stays : x ≡ y → behind n m c ≡ behind n m c'
      tag_stays same =
          tag_bytes n ν F L e nonce hn header hh a ha pos m refl
          ∙ ap (λ (z : List ℕ). take (length z) (last_half n ν F L e nonce hn 1 t z)) same
          ∙ sym (tag_bytes n ν F L e nonce hn header hh b hb some m last)

      -- and the other way round, where they are a whole block
      full_tag : (z : List ℕ) → Block n z → take (length z) (last_half n ν F L e nonce hn 1 t z) ≡ F.half 1 (paef_tweak nonce (paef_body (full n n)) t) z
      full_tag z h =
          ap₂ (λ (k : ℕ) (w : List ℕ). take k (F.half 1 (paef_tweak nonce (paef_body (full n k)) t) w)) h.long (pad_full n z h.long)
          ∙ take_all n _ (omega (arith, ((L.undo_second _ (tweak (paef_body (full n n)) t)).to z h).long))

      pub tag_known : length a ≡ suc m * n → behind n m c ≡ behind n m c' → x ≡ y
      tag_known w q =
          let hx = block_at_lem n m a ha (omega arith) in
          let hy = block_at_lem n m b hb (omega arith) in
          undo_one (L.undo_second _ (tweak (paef_body (full n n)) t)) hx hy
          (sym (tag_bytes n ν F L e nonce hn header hh a ha pos m refl ∙ full_tag x hx) ∙ q
          ∙ tag_bytes n ν F L e nonce hn header hh b hb some m last ∙ full_tag y hy)

      -- the same last block, and the same C_*: the same S
      sum_stays : x ≡ y → block_at n m c ≡ block_at n m c' → (after n P m start a).sum ≡ (after n P m start b).sum
      sum_stays same q =
          let in_a = c_star n ν F L e nonce hn header hh a ha pos m refl in
          let in_b = c_star n ν F L e nonce hn header hh b hb some m last in
          let w = (L.undo _ (tweak _ t)).to _ (pad_block n _ (last_bytes n ν F L e nonce hn header hh b hb some m last)) in
          xor_cancel w (last_ok n ν F L e nonce hn header hh a ha pos m refl).block (last_ok n ν F L e nonce hn header hh b hb some m last).block
          (ap (λ (z : List ℕ). last_half n ν F L e nonce hn 0 t z ⊕ (after n P m start a).sum) (sym same) ∙ sym in_a ∙ q ∙ in_b)

  pub paef_moves : (header : List ℕ) → Bytes header → (j : ℕ) (a b : List ℕ) → Bytes a → Bytes b → DifferAt n j a b → j < before_last n (length a)
      → MovedAt n j (before_last n (length a)) (seal_run n P header a) (seal_run n P header b)
  paef_moves header hh j a b ha hb d h =
      let m : ℕ = before_last n (length a) in
      let fits : suc j * n < length a = before_last_behind n j (length a) lawful.positive h in
      let same : block_at n m a ≡ block_at n m b = d.others m (λ q. absurd (omega arith)) in
      let size_a = sized n P (SumOk n) lawful header hh a ha (omega arith) m refl in
      let size_b : Block _ b = record { long = sym d.long ∙ size_a.long; bytes = hb } in
      record {
        long =
            (seal_run_block n P (SumOk n) lawful header hh a ha).long
            ∙ ap (λ (l : ℕ). l + n) d.long
            ∙ sym (seal_run_block n P (SumOk n) lawful header hh b hb).long;
        block_differs = λ q. d.differ ((block_exactly header hh a b ha hb j h (rw (sym d.long) h)).0 q);
        last_differs = λ q. sum_moves n ν F L e nonce hn j m _ _ a b (begun_ok n ν F L e nonce hn header hh) size_a size_b h d
            (sum_stays header hh a b ha hb d.long (omega arith) same q);
        others = λ i l ne. (block_exactly header hh a b ha hb i l (rw (sym d.long) l)).1 (d.others i ne);
        tag_bytes = tag_stays header hh a b ha hb d.long (omega arith) same;
      }

  -- ---- one body under two headers: all stays but C_*

  walk_number : (k : ℕ) (noM : Bool) (s : Sum) (x : List ℕ) → (walk_from n P k noM s x).number ≡ 1
  unfolding walk_from paef
  walk_number zero noM s x = refl
  walk_number (suc k) noM s x = walk_number k noM _ (drop n x)

  begun_number : (header : List ℕ) → (headed n P false header).number ≡ 1
  unfolding walk paef
  begun_number [] = ap (λ (s : Sum). s.number) (headed_skip n P [] refl)
  begun_number (z ∷ zs) = ap (λ (s : Sum). s.number) (headed_some n P false (z ∷ zs) (omega arith)) ∙ walk_number _ false P.start (z ∷ zs)

  pub paef_header : (header header' : List ℕ) → Bytes header → Bytes header' → (b : List ℕ) → Bytes b → 0 < length b
      → let m = before_last n (length b) in
      AgreeTo n m (seal_run n P header b) (seal_run n P header' b) × (behind n m (seal_run n P header b) ≡ behind n m (seal_run n P header' b))
  paef_header header header' hh hh' b hb pos =
      let m : ℕ = before_last n (length b) in
      let number : (begun n ν F L e nonce hn header hh).number ≡ (begun n ν F L e nonce hn header' hh').number = begun_number header ∙ sym (begun_number header') in (
        record {
          blocks = λ i h.
              middle n ν F L e nonce hn header hh b hb pos m refl i h
              ∙ ap (λ (v : ℕ). F.half 0 (paef_tweak nonce 4 (v + i)) (block_at n i b)) number
              ∙ sym (middle n ν F L e nonce hn header' hh' b hb pos m refl i h);
        },
        tag_bytes n ν F L e nonce hn header hh b hb pos m refl
            ∙ ap (λ (v : ℕ). take (length (block_at n m b)) (last_half n ν F L e nonce hn 1 (v + m) (block_at n m b))) number
            ∙ sym (tag_bytes n ν F L e nonce hn header' hh' b hb pos m refl),
      )
