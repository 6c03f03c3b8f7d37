-- PAEF's S over any forkcipher with its laws: it takes half 1 of every block before the last, and so moves if one of them does (C-23). Assumes
-- nothing.
use mathlib.Core.Path.{◌≡◌, refl, sym, ap, ◌∙◌}
use Prim.Native.Nat.{ℕ, zero, suc, ◌+◌, ◌*◌, ◌<◌}
use native.Mathlib.Omega.{arith}
use mathlib.Core.List.{List}
use lib.ListN.{take, drop, length-drop}
use Rattle.cells.specs.Cells.{Block}
use Rattle.modes.specs.Blocks.{◌⊕◌}
use Rattle.modes.specs.Changes.{AgreeTo, DifferAt}
use Rattle.modes.specs.Forkcipher.{Fork, ForkLaws}
use Rattle.modes.specs.Lawful.{Lawful}
use Rattle.modes.specs.Mode.{Mode}
use Rattle.modes.specs.Paef.{Sum, paef_tweak, sum_tweak, sum_half, paef}
use Rattle.modes.proofs.Undo.{undo_xor, undo_one, xor_cancel}
use Rattle.modes.proofs.PaefLaws.{SumOk, number_block, paef_lawful}
use Rattle.modes.proofs.Cut.{block_zero, block_suc, same_first, same_rest, after, after_agrees, first, rest, next_ok}

-- ---- bodies that differ in one block: before it the first blocks are equal, and the rest differs in one; behind it all are equal

module _ {n j : ℕ} {a b : List ℕ} (d : DifferAt n (suc j) a b) where
  differ_first : take n a ≡ take n b
  differ_first = same_first n a b (d.others 0 (λ q. absurd (omega arith)))

  differ_rest : DifferAt n j (drop n a) (drop n b)
  differ_rest = record {
    long = simp length-drop (rw d.long);
    differ = λ q. d.differ (block_suc n j a ∙ q ∙ sym (block_suc n j b));
    others = λ i h. same_rest n a b i (d.others (suc i) (λ q. h (omega arith)));
  }

agree_behind : {n : ℕ} (k : ℕ) {a b : List ℕ} → DifferAt n 0 a b → AgreeTo n k (drop n a) (drop n b)
agree_behind {n} k {a} {b} d = record { blocks = λ i h. same_rest n a b i (d.others (suc i) (λ q. absurd (omega arith))) }

module _ (n ν : ℕ) (F : Fork) (L : ForkLaws n F) (e : ν + 2 ≡ n) (nonce : List ℕ) (hn : Block ν nonce) where
  abbrev P : Mode Sum
  P = paef n F nonce

  lawful : Lawful n P (SumOk n)
  lawful = paef_lawful n ν F L e nonce hn

  tweak : (flag number : ℕ) → Block n (paef_tweak nonce flag number)
  tweak = number_block n ν F L e nonce hn

  -- S before k blocks is known from S behind them
  sum_back : (k r : ℕ) (s t : Sum) (b : List ℕ) → SumOk n s → SumOk n t → s.number ≡ t.number → Block (k * n + r) b
      → (after n P k s b).sum ≡ (after n P k t b).sum → s.sum ≡ t.sum
  unfolding paef sum_half sum_tweak
  sum_back zero r s t b hs ht i h q = q
  sum_back (suc k) r s t b hs ht i h q =
      let g = (L.undo_second _ (tweak 4 s.number)).to _ (first n P (SumOk n) lawful k r h) in
      let sums = sum_back k r (P.next s (take n b)) (P.next t (take n b)) (drop n b) (next_ok n P (SumOk n) lawful k r h s hs)
      (next_ok n P (SumOk n) lawful k r h t ht) (ap (λ (v : ℕ). v + 1) i) (rest n P (SumOk n) lawful k r h) q in
      undo_one (undo_xor g) hs.block ht.block
      (sums ∙ ap (λ (v : ℕ). t.sum ⊕ F.half 1 (paef_tweak nonce 4 v) (take n b)) (sym i))

  -- one of k blocks changed moves it
  pub sum_moves : (j k r : ℕ) (s : Sum) (a b : List ℕ) → SumOk n s → Block (k * n + r) a → Block (k * n + r) b → j < k → DifferAt n j a b
      → (after n P k s a).sum ≡ (after n P k s b).sum → ⊥
  unfolding paef sum_half sum_tweak
  sum_moves j zero r s a b hs ha hb h d q = absurd (omega arith)
  sum_moves zero (suc k) r s a b hs ha hb h d q =
      let x = first n P (SumOk n) lawful k r ha in
      let y = first n P (SumOk n) lawful k r hb in
      let back = L.undo_second _ (tweak 4 s.number) in
      let same = after_agrees n P k (P.next s (take n b)) (drop n a) (drop n b) (agree_behind k d) in
      let sums = sum_back k r (P.next s (take n a)) (P.next s (take n b)) (drop n a) (next_ok n P (SumOk n) lawful k r ha s hs)
      (next_ok n P (SumOk n) lawful k r hb s hs) refl (rest n P (SumOk n) lawful k r ha) (q ∙ sym (ap (λ (t : Sum). t.sum) same)) in
      let halves = xor_cancel hs.block (back.to _ x) (back.to _ y) sums in
      d.differ (block_zero n a ∙ undo_one back x y halves ∙ sym (block_zero n b))
  sum_moves (suc j) (suc k) r s a b hs ha hb h d q =
      sum_moves j k r (P.next s (take n a)) (drop n a) (drop n b) (next_ok n P (SumOk n) lawful k r ha s hs)
      (rest n P (SumOk n) lawful k r ha) (rest n P (SumOk n) lawful k r hb) (omega arith) (differ_rest d)
      (q ∙ ap (λ (x : List ℕ). (after n P k (P.next s x) (drop n b)).sum) (sym (differ_first d)))
