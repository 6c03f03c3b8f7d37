-- What sixteen rounds of the published step do on the 48 cells, over the width and the number of words: each cell stands where it
-- stood, those of word 2 and word 3 stepped eight times, a word that is not there as it was. And what the keys on the way are: halves
-- of the words' sums, moved. Assumes nothing.
use mathlib.Core.Path.{◌≡◌, refl, sym, ap, ◌∙◌, subst⁻¹}
use Prim.Native.Nat.{ℕ, zero, suc, ◌+◌, ◌*◌, ◌<◌}
use mathlib.Core.List.{List, []}
use native.Mathlib.Numerals.{add-one}
use native.Mathlib.Omega.{arith}
use borrow.Author.Count.{below_none, below_more}
use lib.Bits.{bit_xor}
use lib.ListN.{length, get_or}
use lib.Seq.{ext_get_or}
use Rattle.cells.specs.Cells.{Width, Words, Two, Three}
use Rattle.cells.specs.Tabs.{tab}
use Rattle.cells.proofs.Tabs.{table, tab_same}
use Rattle.schedule.specs.declared.Tweakey.{Tweakey}
use Rattle.schedule.specs.Schedule.{key_cell, round_key, stepped, next_cells, advance}
use Rattle.schedule.specs.Sixteen.{standing, moved_once, moved, upper, lower}
use Rattle.schedule.proofs.Places.{advance_at}
use Rattle.schedule.proofs.Trails.{trail, stays, on_trail, trails}

module _ (w : Width) where
  long : (n : Words) (t : Tweakey) (m : ℕ) → length (advance w n (suc m) t).cells ≡ 48
  unfolding advance next_cells stepped
  long Two t m = refl
  long Three t m = refl

  sixteen_cells : (n : Words) (t : Tweakey) → (advance w n 16 t).cells ≡ standing w n 8 t.cells
  sixteen_cells n t =
      ext_get_or 0 (advance w n 16 t).cells (tab (trail w n 16 t.cells) 0 48) (long n t 15)
      (λ j h. let l : j < 48 = omega (arith, long n t 15) in on_trail w n 16 t j l ∙ sym (table (trail w n 16 t.cells) 48 j l))
      ∙ trails w n t.cells

  -- the theorem: the tweakey sixteen rounds on
  pub sixteen : (n : Words) (t : Tweakey) → advance w n 16 t ≡ record { cells = standing w n 8 t.cells; at = t.at + 16 }
  sixteen n t = λ i. record { cells = sixteen_cells n t i; at = advance_at w n 16 t i }

-- ---- the keys on the way: the sums, moved

-- row k has the sixteen cells of every word, xored, after k + 1 steps
pub record Sums (w : Width) (n : Words) (t : List ℕ) (sums : List (List ℕ)) : Type 0 where
  pub at : (k j : ℕ) → k < 8 → j < 16 → get_or (get_or sums k []) j 0 ≡ key_cell n (standing w n (suc k) t) j

-- where a move takes a cell from
abbrev place : ℕ → ℕ
place j = get_or (moved_once (tab (λ (k : ℕ). k) 0 16)) j 0

-- what is moved is the first sixteen cells
moved_same : (s s' : List ℕ) → ((j : ℕ) → j < 16 → get_or s j 0 ≡ get_or s' j 0) → (k : ℕ) → moved (suc k) s ≡ moved (suc k) s'
moved_same s s' e zero = tab_same (λ (j : ℕ). get_or s (place j) 0) (λ (j : ℕ). get_or s' (place j) 0) 16 0 (λ j h. e (place j) (stays place 16 tt j h))
moved_same s s' e (suc k) = ap moved_once (moved_same s s' e k)

-- the round key, by its cells' trails
abbrev trail_key : Width → Words → ℕ → List ℕ → ℕ → ℕ
trail_key w Two m t j = bit_xor (trail w Two m t j) (trail w Two m t (16 + j))
trail_key w Three m t j = bit_xor (bit_xor (trail w Three m t j) (trail w Three m t (16 + j))) (trail w Three m t (32 + j))

-- what holds of 0 to 7
pub below_8 : (P : ℕ → Type 0) → P 0 → P 1 → P 2 → P 3 → P 4 → P 5 → P 6 → P 7 → (k : ℕ) → k < 8 → P k
below_8 P a b c d e f g h =
    below_more P 7
    (below_more P 6 (below_more P 5 (below_more P 4 (below_more P 3 (below_more P 2 (below_more P 1 (below_more P 0 (below_none P) a) b) c) d) e) f) g)
    h

module _ (w : Width) where
  key_cell_lem : (n : Words) (m : ℕ) (t : Tweakey) (j : ℕ) → j < 8 → key_cell n (advance w n m t).cells j ≡ trail_key w n m t.cells j
  key_cell_lem Two m t j h = λ i. bit_xor (on_trail w Two m t j (omega arith) i) (on_trail w Two m t (16 + j) (omega arith) i)
  key_cell_lem Three m t j h =
      λ i. bit_xor
      (bit_xor (on_trail w Three m t j (omega arith) i) (on_trail w Three m t (16 + j) (omega arith) i))
      (on_trail w Three m t (32 + j) (omega arith) i)

  key_trail : (n : Words) (m : ℕ) (t : Tweakey) → round_key n (advance w n m t).cells ≡ tab (trail_key w n m t.cells) 0 8
  unfolding round_key
  key_trail n m t = tab_same (key_cell n (advance w n m t).cells) (trail_key w n m t.cells) 8 0 (key_cell_lem n m t)

  -- row k of the sums
  abbrev pub sum_row : Words → List ℕ → ℕ → List ℕ
  sum_row n t k = tab (key_cell n (standing w n (suc k) t)) 0 16

  -- moved, its halves are two keys: computed for each of the eight rows
  first_trail : (n : Words) (t : List ℕ) (k : ℕ) → k < 8 → lower (moved (k + 1) (sum_row n t k)) ≡ tab (trail_key w n (2 * k + 1) t) 0 8
  unfolding standing
  first_trail Two t = below_8 _ refl refl refl refl refl refl refl refl
  first_trail Three t = below_8 _ refl refl refl refl refl refl refl refl

  second_trail : (n : Words) (t : List ℕ) (k : ℕ) → k < 8 → upper (moved (k + 1) (sum_row n t k)) ≡ tab (trail_key w n (2 * k + 2) t) 0 8
  unfolding standing
  second_trail Two t = below_8 _ refl refl refl refl refl refl refl refl
  second_trail Three t = below_8 _ refl refl refl refl refl refl refl refl

  -- row k of the sums is moved as its cells say
  row
      : {n : Words} {t : List ℕ} {sums : List (List ℕ)}
      → Sums w n t sums → (k : ℕ) → k < 8 → moved (k + 1) (get_or sums k []) ≡ moved (k + 1) (sum_row n t k)
  row {n} {t} {sums} s k h =
      subst⁻¹ (λ (m : ℕ). moved m (get_or sums k []) ≡ moved m (sum_row n t k)) (add-one k)
      (moved_same (get_or sums k []) (sum_row n t k) (λ j p. s.at k j h p ∙ sym (table (key_cell n (standing w n (suc k) t)) 16 j p)) k)

  -- its lower half has the key of the round 2k + 1 rounds on, its upper half the next one's
  pub first_sums : (n : Words) (t : Tweakey) (k : ℕ) → k < 8 → lower (moved (k + 1) (sum_row n t.cells k)) ≡ round_key n (advance w n (2 * k + 1) t).cells
  first_sums n t k h = first_trail n t.cells k h ∙ sym (key_trail n (2 * k + 1) t)

  pub second_sums : (n : Words) (t : Tweakey) (k : ℕ) → k < 8 → upper (moved (k + 1) (sum_row n t.cells k)) ≡ round_key n (advance w n (2 * k + 2) t).cells
  second_sums n t k h = second_trail n t.cells k h ∙ sym (key_trail n (2 * k + 2) t)

  pub first_key
      : {n : Words} (t : Tweakey) {sums : List (List ℕ)}
      → Sums w n t.cells sums → (k : ℕ) → k < 8 → lower (moved (k + 1) (get_or sums k [])) ≡ round_key n (advance w n (2 * k + 1) t).cells
  first_key {n} t s k h = ap lower (row s k h) ∙ first_sums n t k h

  pub second_key
      : {n : Words} (t : Tweakey) {sums : List (List ℕ)}
      → Sums w n t.cells sums → (k : ℕ) → k < 8 → upper (moved (k + 1) (get_or sums k [])) ≡ round_key n (advance w n (2 * k + 2) t).cells
  second_key {n} t s k h = ap upper (row s k h) ∙ second_sums n t k h
