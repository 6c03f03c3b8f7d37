-- What the loops over rounds keep, over the width: so many rounds are run and the cells of the next one worked, or so many are still to be
-- undone. Of the words that the code holds only the state is told that is seen in them. Assumes nothing.
use mathlib.Core.Path.{◌≡◌, sym, ap, ◌∙◌, subst⁻¹}
use mathlib.Core.List.{List, []}
use Prim.Native.Nat.{ℕ, zero, suc, ◌+◌, ◌/◌, ◌%◌, ◌<◌, ◌≤◌}
use native.Mathlib.Numerals.{add-one}
use native.Mathlib.Omega.{arith}
use lib.ListN.{get_or}
use lib.Bits.{bit_xor, xor_comm}
use Rattle.cells.specs.Cells.{Width, Words, LowCells, sub, unsub}
use Rattle.cells.proofs.Xor.{xor_assoc}
use Rattle.schedule.specs.declared.Tweakey.{Tweakey}
use Rattle.constants.specs.Constants.{constant, constant_row}
use Rattle.schedule.specs.Schedule.{round_key, xor_row, advance, RoundKeys}
use Rattle.schedule.proofs.Low.{constant_low, row_low, advance_low, key_low}
use Rattle.schedule.proofs.Places.{advance_at, advance_add}
use Rattle.rounds.specs.State.{State, cell, four, row, sub_by, add_constants, add_tweakey, shift_rows, unshift_rows, mix_columns, unmix_columns, round, unround}
use Rattle.rounds.specs.Words.{add_below, linear_by, linear, unlinear}
use Rattle.runs.specs.Runs.{round_at, unround_at, rounds, unrounds, Ran, Unran}

-- ---- a round is the cells and then its linear part, with constant and key in one row; and back

after : (x k t : ℕ) → bit_xor (bit_xor x t) k ≡ bit_xor x (bit_xor k t)
after x k t = xor_assoc x t k ∙ ap (bit_xor x) (xor_comm t k)

add_here : (k : ℕ) (t : List ℕ) (s : State) → add_tweakey t (add_constants k s) ≡ add_tweakey (xor_row (constant_row k) t) (add_below 2 s)
add_here k t s =
    λ i. four
    (four (xor_assoc (cell s 0 0) (k % 16) (get_or t 0 0) i) (bit_xor (cell s 0 1) (get_or t 1 0)) (xor_assoc (cell s 0 2) 2 (get_or t 2 0) i) (bit_xor (cell s 0 3) (get_or t 3 0)))
    (four (xor_assoc (cell s 1 0) (k / 16) (get_or t 4 0) i) (bit_xor (cell s 1 1) (get_or t 5 0)) (bit_xor (cell s 1 2) (get_or t 6 0)) (bit_xor (cell s 1 3) (get_or t 7 0)))
    (four (bit_xor (cell s 2 0) 2) (cell s 2 1) (cell s 2 2) (cell s 2 3))
    (row (cell s 3))

add_back : (k : ℕ) (t : List ℕ) (s : State) → add_constants k (add_tweakey t s) ≡ add_below 2 (add_tweakey (xor_row (constant_row k) t) s)
add_back k t s =
    λ i. four
    (four (after (cell s 0 0) (k % 16) (get_or t 0 0) i) (bit_xor (cell s 0 1) (get_or t 1 0)) (after (cell s 0 2) 2 (get_or t 2 0) i) (bit_xor (cell s 0 3) (get_or t 3 0)))
    (four (after (cell s 1 0) (k / 16) (get_or t 4 0) i) (bit_xor (cell s 1 1) (get_or t 5 0)) (bit_xor (cell s 1 2) (get_or t 6 0)) (bit_xor (cell s 1 3) (get_or t 7 0)))
    (four (bit_xor (cell s 2 0) 2) (cell s 2 1) (cell s 2 2) (cell s 2 3))
    (row (cell s 3))

pub round_linear : (w : Width) (k : ℕ) (t : List ℕ) (s : State) → round w k t s ≡ linear (xor_row (constant_row k) t) (sub_by (sub w) s)
unfolding round linear_by
round_linear w k t s = ap (λ (x : State). mix_columns (shift_rows x)) (add_here k t (sub_by (sub w) s))

pub unround_linear : (w : Width) (k : ℕ) (t : List ℕ) (s : State) → unround w k t s ≡ sub_by (unsub w) (unlinear (xor_row (constant_row k) t) s)
unfolding unround unlinear
unround_linear w k t s = ap (sub_by (unsub w)) (add_back k t (unshift_rows (unmix_columns s)))

-- ---- at a place of the schedule

-- the first rows alone
pub fewer
    : {w : Width} {n : Words} {t : Tweakey} {m : ℕ} {keys : List (List ℕ)} → RoundKeys w n m t keys → (l : ℕ) → l ≤ m → RoundKeys w n l t keys
fewer known l h = record { first = known.first; low = known.low; at = λ i p. known.at i (omega arith) }

-- every row of the first m has cells of the width
abbrev pub LowRows : Width → ℕ → List (List ℕ) → Type 0
LowRows w m keys = (k : ℕ) → k < m → LowCells w (get_or keys k [])

module _ {w : Width} {n : Words} {t : Tweakey} {m : ℕ} {keys : List (List ℕ)} (known : RoundKeys w n m t keys) where
  rows_low : LowRows w m keys
  rows_low k h =
      subst⁻¹ (LowCells w) (known.at k h) (row_low w (constant k) (round_key n (advance w n k t).cells) (constant_low k) (key_low w n _ (advance_low w n k t known.low)))

  module _ (from i : ℕ) (h : from + i < m) where
    -- the tweakey of round from + i, and the row of this round
    abbrev there : Tweakey
    there = advance w n i (advance w n from t)

    row_here : get_or keys (from + i) [] ≡ xor_row (constant_row (constant there.at)) (round_key n there.cells)
    row_here =
        let e : advance w n (from + i) t ≡ there = sym (advance_add w n from i t) in
        let p : from + i ≡ (advance w n (from + i) t).at = (let z : t.at ≡ 0 = known.first in omega (arith, advance_at w n (from + i) t)) in
        known.at (from + i) h
        ∙ ap (λ (k : ℕ). xor_row (constant_row (constant k)) (round_key n (advance w n (from + i) t).cells)) p
        ∙ ap (λ (u : Tweakey). xor_row (constant_row (constant u.at)) (round_key n u.cells)) e

    round_here : (s : State) → linear (get_or keys (from + i) []) (sub_by (sub w) s) ≡ round_at w n there s
    round_here s =
        ap (λ (r : List ℕ). linear r (sub_by (sub w) s)) row_here ∙ sym (round_linear w (constant there.at) (round_key n there.cells) s)

    unround_here : (s : State) → sub_by (unsub w) (unlinear (get_or keys (from + i) []) s) ≡ unround_at w n there s
    unround_here s =
        ap (λ (r : List ℕ). sub_by (unsub w) (unlinear r s)) row_here ∙ sym (unround_linear w (constant there.at) (round_key n there.cells) s)

-- x₀ are cells worked; x is what i rounds and the cells of the next one make of them
pub record Begun (w : Width) (m : ℕ) (keys : List (List ℕ)) (from : ℕ) (x₀ : State) (i : ℕ) (x : State) : Type 0 where
  pub by : (n : Words) (t : Tweakey) → RoundKeys w n m t keys → (s : State) → x₀ ≡ sub_by (sub w) s
      → x ≡ sub_by (sub w) (rounds w n i (advance w n from t) s)

-- x with i rounds still to be undone is s with count of them
pub record Left (w : Width) (m : ℕ) (keys : List (List ℕ)) (from : ℕ) (s : State) (count i : ℕ) (x : State) : Type 0 where
  pub by : (n : Words) (t : Tweakey) → RoundKeys w n m t keys
      → unrounds w n i (advance w n from t) x ≡ unrounds w n count (advance w n from t) s

module _ {w : Width} {m : ℕ} {keys : List (List ℕ)} {from : ℕ} where
  -- ---- forward

  pub begun_none : {x₀ : State} → Begun w m keys from x₀ 0 x₀
  unfolding rounds
  begun_none = record { by = λ n t known s e. e }

  -- y is x after the linear part of the next round
  pub begun_end
      : {x₀ x y : State} {i : ℕ} → from + i < m → Begun w m keys from x₀ i x → (LowRows w m keys → y ≡ linear (get_or keys (from + i) []) x)
      → (s : State) → x₀ ≡ sub_by (sub w) s → Ran w m keys from (i + 1) s y
  unfolding rounds
  begun_end {x₀} {x} {y} {i} h b e s f = record {
    by = λ n t known.
        e (rows_low known)
        ∙ ap (linear (get_or keys (from + i) [])) (b.by n t known s f)
        ∙ round_here known from i h (rounds w n i (advance w n from t) s)
        ∙ ap (λ (k : ℕ). rounds w n k (advance w n from t) s) (sym (add-one i));
  }

  pub begun_more
      : {x₀ x y z : State} {i : ℕ} → from + i < m → Begun w m keys from x₀ i x → (LowRows w m keys → y ≡ linear (get_or keys (from + i) []) x)
      → z ≡ sub_by (sub w) y → Begun w m keys from x₀ (i + 1) z
  begun_more h b e d = record { by = λ n t known s f. d ∙ ap (sub_by (sub w)) ((begun_end h b e s f).by n t known) }

  -- ---- back

  pub left_all : {s : State} {count i : ℕ} → i ≡ count → Left w m keys from s count i s
  left_all {s} e = record { by = λ n t known. ap (λ (k : ℕ). unrounds w n k (advance w n from t) s) e }

  pub left_less
      : {s x y z : State} {count i j : ℕ} → j ≡ suc i → from + i < m → Left w m keys from s count j x
      → (LowRows w m keys → y ≡ unlinear (get_or keys (from + i) []) x) → z ≡ sub_by (unsub w) y → Left w m keys from s count i z
  unfolding unrounds
  left_less {s} {x} {y} {z} {count} {i} {j} p h l e f = record {
    by = λ n t known.
        ap (unrounds w n i (advance w n from t)) (f ∙ ap (sub_by (unsub w)) (e (rows_low known)) ∙ unround_here known from i h x)
        ∙ ap (λ (k : ℕ). unrounds w n k (advance w n from t) x) (sym p)
        ∙ l.by n t known;
  }

  -- behind the last; x₀, from which it began, stood for s
  pub left_none
      : {x₀ x : State} (count : ℕ) → 0 < count → Left w m keys from x₀ count 0 x → (s : State)
      → ((k : ℕ) (r : List ℕ) → k < 128 → LowCells w r → unround w k r x₀ ≡ unround w k r s) → Unran w m keys from count s x
  unfolding unrounds
  left_none zero h l s e = absurd (omega arith)
  left_none (suc k) h l s e = record {
    by = λ n t known.
        let u = advance w n k (advance w n from t) in
        l.by n t known
        ∙ ap (unrounds w n k (advance w n from t))
        (e (constant u.at) (round_key n u.cells) (constant_low u.at) (key_low w n _ (advance_low w n k _ (advance_low w n from t known.low))));
  }

  -- ---- what is handed back

  pub ran_as : {i count : ℕ} {s x r : State} → Ran w m keys from i s x → i ≡ count → r ≡ x → Ran w m keys from count s r
  ran_as {s = s} q e f = record { by = λ n t known. f ∙ q.by n t known ∙ ap (λ (k : ℕ). rounds w n k (advance w n from t) s) e }

  pub unran_as : {count : ℕ} {s x r : State} → Unran w m keys from count s x → r ≡ x → Unran w m keys from count s r
  unran_as q f = record { by = λ n t known. f ∙ q.by n t known }
