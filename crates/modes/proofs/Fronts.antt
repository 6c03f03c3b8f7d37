-- For every mode that obeys the laws (C-23): bodies that begin alike are sealed to runs that begin alike, and no others are; and of the end of a
-- run one piece tells the other. Assumes nothing.
use mathlib.Core.Path.{◌≡◌, refl, sym, ap, ap₂, ◌∙◌, subst}
use Prim.Native.Nat.{ℕ, zero, suc, ◌+◌, ◌*◌, ◌-◌, ◌≤◌, ◌<◌}
use native.Mathlib.Nat.{suc-mul, mul-le-mul_right}
use native.Mathlib.Omega.{arith}
use native.Mathlib.Decide.{dec_lt}
use mathlib.Core.Bool.{false}
use mathlib.Core.List.{List}
use lib.ListN.{length, drop, length-drop}
use Rattle.cells.specs.Cells.{Bytes, Block}
use Rattle.modes.specs.Blocks.{before_last}
use Rattle.modes.specs.Changes.{block_at, AgreeTo}
use Rattle.modes.specs.Mode.{Mode, end_block, headed, seal_last, seal_run}
use Rattle.modes.specs.Lawful.{Lawful}
use Rattle.modes.proofs.Cut.{block_at_lem, after, after_agrees, after_ok, run_block, run_end}
use Rattle.modes.proofs.Bytes.{bytes_drop}
use Rattle.modes.proofs.Ends.{end_told}
use Rattle.modes.proofs.Exact.{headed_ok}
use Rattle.modes.proofs.Rest.{before_last_of, before_last_cut}
use Rattle.modes.proofs.Undo.{undo_one}

fewer : {n k i : ℕ} {a b : List ℕ} → i ≤ k → AgreeTo n k a b → AgreeTo n i a b
fewer h e = record { blocks = λ i j. e.blocks i (omega arith) }

module _ {St : Type 0} (n : ℕ) (M : Mode St) (Ok : St → Type 0) (L : Lawful n M Ok) (header : List ℕ) (hh : Bytes header) where
  abbrev begun : St
  begun = headed n M false header

  front : (k i : ℕ) → i < k → (x : List ℕ) → Bytes x → k * n < length x
      → block_at n i (seal_run n M header x) ≡ M.out (after n M i begun x) (block_at n i x)
  front k i h x hx l = run_block n M Ok L header hh x hx (omega arith) _ refl i (omega (arith, before_last_of n k (length x) L.positive l))

  module _ (k : ℕ) (a b : List ℕ) (ha : Bytes a) (hb : Bytes b) (la : k * n < length a) (lb : k * n < length b) where
    pub front_stays : AgreeTo n k a b → AgreeTo n k (seal_run n M header a) (seal_run n M header b)
    front_stays e = record {
      blocks = λ i h.
          front k i h a ha la ∙ ap₂ M.out (after_agrees n M i begun a b (fewer (omega arith) e)) (e.blocks i h) ∙ sym (front k i h b hb lb);
    }

    -- ---- the other way round, one block more at a time

    module _ (e : AgreeTo n k (seal_run n M header a) (seal_run n M header b)) where
      one_more : (i : ℕ) → i < k → AgreeTo n i a b → block_at n i a ≡ block_at n i b
      one_more i h alike =
          let fits : suc i * n ≤ k * n = mul-le-mul_right n h in
          let sized : Block (i * n + (length a - i * n)) a = record { long = omega (arith, suc-mul i n); bytes = ha } in
          undo_one (L.undo _ (after_ok n M Ok L i _ begun a (headed_ok n M Ok L false header hh) sized))
          (block_at_lem n i a ha (omega arith)) (block_at_lem n i b hb (omega arith))
          (sym (front k i h a ha la) ∙ e.blocks i h ∙ front k i h b hb lb
          ∙ ap (λ (t : St). M.out t (block_at n i b)) (sym (after_agrees n M i begun a b alike)))

      up_to : (i : ℕ) → i ≤ k → AgreeTo n i a b
      up_to zero h = record { blocks = λ j l. absurd (omega arith) }
      up_to (suc i) h =
          let alike : AgreeTo n i a b = up_to i (omega arith) in
          record {
            blocks = λ j l. elim (dec_lt j i) [
              | yes q ↦ alike.blocks j q
              | no q ↦ let same : i ≡ j = omega arith in subst (λ (v : ℕ). block_at n v a ≡ block_at n v b) same (one_more i (omega arith) alike)
            ];
          }

      pub front_back : AgreeTo n k a b
      front_back = up_to k (omega arith)

  -- ---- bodies of equal length, which are not empty: where the blocks before the last agree, the piece of the end that has n bytes tells the
  -- other one

  module _ (a b : List ℕ) (ha : Bytes a) (hb : Bytes b) (long : length a ≡ length b) (pos : 0 < length a) where
    abbrev m : ℕ
    m = before_last n (length a)

    -- the piece of the end of a run that has n bytes
    abbrev end_piece : List ℕ → List ℕ
    end_piece c = end_block M.block_first n (length a - m * n) (drop (m * n) c)

    pub end_known : AgreeTo n m (seal_run n M header a) (seal_run n M header b) → end_piece (seal_run n M header a) ≡ end_piece (seal_run n M header b)
        → drop (m * n) (seal_run n M header a) ≡ drop (m * n) (seal_run n M header b)
    end_known e q =
        let (r, size, some, most) = before_last_cut n (length a) L.positive pos in
        let x : List ℕ = drop (m * n) a in
        let y : List ℕ = drop (m * n) b in
        let s : St = after n M m begun a in
        let same : s ≡ after n M m begun b = after_agrees n M m begun a b (front_back m a b ha hb (omega arith) (omega arith) e) in
        let in_a = run_end n M Ok L header hh a ha pos m refl in
        let in_b = run_end n M Ok L header hh b hb (omega arith) m (ap (before_last n) long) ∙ ap (λ (t : St). seal_last n M t y) (sym same) in
        let ok : Ok s = after_ok n M Ok L m r begun a (headed_ok n M Ok L false header hh) (record { long = size; bytes = ha }) in
        let told = end_told n M Ok L s x y (length a - m * n) ok (bytes_drop (m * n) a ha) (bytes_drop (m * n) b hb) (length-drop (m * n) a)
        (length-drop (m * n) b ∙ ap (λ (l : ℕ). l - m * n) (sym long)) (omega arith) in
        let cut : List ℕ → List ℕ = end_block M.block_first n (length a - m * n) in
        in_a ∙ told (ap cut (sym in_a) ∙ q ∙ ap cut in_b) ∙ sym in_b
