-- A sealed run cut into its blocks, for every mode that obeys the laws: block i is sealed from block i of the body, in the state after the
-- blocks before it, and the end of the run from the body's last block. Assumes nothing.
use mathlib.Core.Path.{◌≡◌, refl, sym, ap, ◌∙◌}
use Prim.Native.Nat.{ℕ, zero, suc, ◌+◌, ◌*◌, ◌≤◌, ◌<◌}
use native.Mathlib.Nat.{suc-mul, zero-mul}
use native.Mathlib.Omega.{arith}
use mathlib.Core.Bool.{false}
use mathlib.Core.List.{List, ◌++◌}
use lib.ListN.{length, take, drop, length-drop}
use lib.Seq.{take_at, drop_at, drop-drop}
use Rattle.cells.specs.Cells.{Bytes, Block}
use Rattle.modes.specs.Blocks.{before_last}
use Rattle.modes.specs.Changes.{block_at, AgreeTo}
use Rattle.modes.specs.Mode.{Mode, headed, seal_last, seal_from, seal_rest, seal_run}
use Rattle.modes.specs.Lawful.{Lawful}
use Rattle.modes.proofs.Bytes.{bytes_drop, block_take, block_size, block_head, block_rest}
use Rattle.modes.proofs.Rest.{before_last_cut, seal_run_rest}
use Rattle.modes.proofs.Exact.{headed_ok}

-- ---- the first block, and those behind it

past_one : (n i : ℕ) (x : List ℕ) → drop (suc i * n) x ≡ drop (i * n) (drop n x)
past_one n i x = let e : suc i * n ≡ n + i * n = omega (arith, suc-mul i n) in ap (λ (k : ℕ). drop k x) e ∙ sym (drop-drop (i * n) n x)

pub block_zero : (n : ℕ) (x : List ℕ) → block_at n 0 x ≡ take n x
unfolding block_at
block_zero n x = rw (zero-mul n)

pub block_suc : (n i : ℕ) (x : List ℕ) → block_at n (suc i) x ≡ block_at n i (drop n x)
unfolding block_at
block_suc n i x = ap (take n) (past_one n i x)

pub block_at_lem : (n i : ℕ) (x : List ℕ) → Bytes x → suc i * n ≤ length x → Block n (block_at n i x)
unfolding block_at
block_at_lem n i x b h = block_take n (drop (i * n) x) (simp length-drop (omega (arith, suc-mul i n))) (bytes_drop (i * n) x b)

module _ (n : ℕ) (a b : List ℕ) where
  pub same_first : block_at n 0 a ≡ block_at n 0 b → take n a ≡ take n b
  same_first e = sym (block_zero n a) ∙ e ∙ block_zero n b

  pub same_rest : (i : ℕ) → block_at n (suc i) a ≡ block_at n (suc i) b → block_at n i (drop n a) ≡ block_at n i (drop n b)
  same_rest i e = sym (block_suc n i a) ∙ e ∙ block_suc n i b

agree_first : {n k : ℕ} {a b : List ℕ} → AgreeTo n (suc k) a b → take n a ≡ take n b
agree_first {n} {k} {a} {b} e = same_first n a b (e.blocks 0 (omega arith))

agree_rest : {n k : ℕ} {a b : List ℕ} → AgreeTo n (suc k) a b → AgreeTo n k (drop n a) (drop n b)
agree_rest {n} {k} {a} {b} e = record { blocks = λ i h. same_rest n a b i (e.blocks (suc i) (omega arith)) }

-- a block in front
module _ {n : ℕ} {p : List ℕ} (h : Block n p) (q : List ℕ) where
  front_zero : block_at n 0 (p ++ q) ≡ p
  front_zero = block_zero n (p ++ q) ∙ take_at p q n h.long

  front_suc : (i : ℕ) → block_at n (suc i) (p ++ q) ≡ block_at n i q
  front_suc i = block_suc n i (p ++ q) ∙ ap (block_at n i) (drop_at p q n h.long)

  front_past : (m : ℕ) → drop (suc m * n) (p ++ q) ≡ drop (m * n) q
  front_past m = past_one n m (p ++ q) ∙ ap (drop (m * n)) (drop_at p q n h.long)

-- ---- the state after i blocks

module _ {St : Type 0} (n : ℕ) (M : Mode St) where
  abbrev pub after : ℕ → St → List ℕ → St
  after zero s b = s
  after (suc i) s b = after i (M.next s (take n b)) (drop n b)

  pub after_agrees : (k : ℕ) (s : St) (a b : List ℕ) → AgreeTo n k a b → after k s a ≡ after k s b
  after_agrees zero s a b e = refl
  after_agrees (suc k) s a b e =
      ap (λ (x : List ℕ). after k (M.next s x) (drop n a)) (agree_first e)
      ∙ after_agrees k (M.next s (take n b)) (drop n a) (drop n b) (agree_rest e)

module _ {St : Type 0} (n : ℕ) (M : Mode St) (Ok : St → Type 0) (L : Lawful n M Ok) where
  -- ---- m blocks and r bytes, and in front of them a block: it is sealed to a block, and the state after it is good

  module _ (m r : ℕ) {b : List ℕ} (h : Block (suc m * n + r) b) where
    pub first : Block n (take n b)
    first = block_head n (m * n + r) (block_size h (omega (arith, suc-mul m n)))

    pub rest : Block (m * n + r) (drop n b)
    rest = block_rest n (m * n + r) (block_size h (omega (arith, suc-mul m n)))

    out_block : (s : St) → Ok s → Block n (M.out s (take n b))
    out_block s ok = (L.undo s ok).to (take n b) first

    pub next_ok : (s : St) → Ok s → Ok (M.next s (take n b))
    next_ok s ok = L.next_ok s (take n b) ok first

  pub after_ok : (m r : ℕ) (s : St) (b : List ℕ) → Ok s → Block (m * n + r) b → Ok (after n M m s b)
  after_ok zero r s b ok h = ok
  after_ok (suc m) r s b ok h = after_ok m r _ (drop n b) (next_ok m r h s ok) (rest m r h)

  sealed_block : (i m r : ℕ) (s : St) (b : List ℕ) → Ok s → Block (m * n + r) b → i < m
      → block_at n i (seal_from n M m s b) ≡ M.out (after n M i s b) (block_at n i b)
  unfolding seal_from
  sealed_block i zero r s b ok h k = absurd (omega arith)
  sealed_block zero (suc m) r s b ok h k = front_zero (out_block m r h s ok) _ ∙ ap (M.out s) (sym (block_zero n b))
  sealed_block (suc i) (suc m) r s b ok h k =
      front_suc (out_block m r h s ok) _ i
      ∙ sealed_block i m r _ (drop n b) (next_ok m r h s ok) (rest m r h) (omega arith)
      ∙ ap (M.out (after n M (suc i) s b)) (sym (block_suc n i b))

  sealed_end : (m r : ℕ) (s : St) (b : List ℕ) → Ok s → Block (m * n + r) b
      → drop (m * n) (seal_from n M m s b) ≡ seal_last n M (after n M m s b) (drop (m * n) b)
  unfolding seal_from
  sealed_end zero r s b ok h = rw (zero-mul n)
  sealed_end (suc m) r s b ok h =
      front_past (out_block m r h s ok) _ m
      ∙ sealed_end m r _ (drop n b) (next_ok m r h s ok) (rest m r h)
      ∙ ap (seal_last n M (after n M (suc m) s b)) (sym (past_one n m b))

  -- ---- the run of a body that is not empty, m being the number of its last block

  module _ (header : List ℕ) (hh : Bytes header) (b : List ℕ) (hb : Bytes b) (some : 0 < length b) (m : ℕ) (last : m ≡ before_last n (length b)) where
    abbrev begun : St
    begun = headed n M false header

    from : seal_run n M header b ≡ seal_from n M m begun b
    unfolding seal_rest
    from = seal_run_rest n M header b some ∙ ap (λ (k : ℕ). seal_from n M k begun b) (sym last)

    pub last_size : (r : ℕ) × (length b ≡ m * n + r) × (r ≤ n)
    last_size =
        let (r, e, _, h) = before_last_cut n (length b) L.positive some in
        (r, e ∙ ap (λ (k : ℕ). k * n + r) (sym last), h)

    pub sized : Block (m * n + last_size.0) b
    sized = record { long = last_size.1; bytes = hb }

    pub run_block : (i : ℕ) → i < m → block_at n i (seal_run n M header b) ≡ M.out (after n M i begun b) (block_at n i b)
    run_block i h = ap (block_at n i) from ∙ sealed_block i m _ begun b (headed_ok n M Ok L false header hh) sized h

    pub run_end : drop (m * n) (seal_run n M header b) ≡ seal_last n M (after n M m begun b) (drop (m * n) b)
    run_end = ap (drop (m * n)) from ∙ sealed_end m _ begun b (headed_ok n M Ok L false header hh) sized
