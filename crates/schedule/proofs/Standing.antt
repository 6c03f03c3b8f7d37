-- What the loops keep that step the tweak's cells where they stand, over the step: cell by cell, each of it stepped eight times, with a
-- sum laid after each step. Assumes nothing.
use mathlib.Core.Path.{◌≡◌, refl, sym, ap, ◌∙◌}
use Prim.Native.Nat.{ℕ, suc, ◌+◌, ◌*◌, ◌-◌, ◌<◌, ◌≤◌, min}
use mathlib.Core.List.{List, [], map}
use native.Mathlib.Decide.{ℕ_discrete}
use native.Mathlib.Omega.{arith}
use lib.Bits.{bit_xor}
use lib.ListN.{length, get_or, set, replicate, length-set, length-map, get_or-map, get_or-replicate}
use lib.Seq.{get_or-set_same, get_or-set_other, map-set_same}
use Rattle.schedule.specs.Sixteen.{times}
use Rattle.schedule.specs.Share.{Summed}

-- how often cell l is stepped after m turns of the inner loop, eight for a cell
abbrev count : ℕ → ℕ → ℕ
count m l = min 8 (m - 8 * l)

-- the sum that is laid at place l of row i
abbrev sum_at : (ℕ → ℕ) → ℕ → List ℕ → List ℕ → ℕ → ℕ → ℕ
sum_at f row share t i l = bit_xor (get_or share (16 * (row + i) + l) 0) (times f (suc i) (get_or t l 0))

-- the cells below j are done, and k turns of cell j; the sums have eight rows of sixteen cells, and in turn k of a cell its place
-- of row k is laid
pub record Stood (f : ℕ → ℕ) (row : ℕ) (share t : List ℕ) (j k : ℕ) (c : List ℕ) (sums : List (List ℕ)) : Type 0 where
  pub low : k ≤ 8
  pub long : length c ≡ 16
  pub room : map length sums ≡ replicate 8 16
  pub cells : (l m : ℕ) → l < 16 → m ≡ count (8 * j + k) l → get_or c l 0 ≡ times f m (get_or t l 0)
  pub laid : (i l : ℕ) → i < 8 → l < 16 → 8 * l + i < 8 * j + k → get_or (get_or sums i []) l 0 ≡ sum_at f row share t i l

-- before the first turn
pub stood_none
    : (f : ℕ → ℕ) (row : ℕ) (share t : List ℕ) (sums : List (List ℕ))
    → length t ≡ 16 → map length sums ≡ replicate 8 16 → Stood f row share t 0 0 t sums
stood_none f row share t sums e r = record {
  low = omega arith;
  long = e;
  room = r;
  cells = λ l m p q. let z : m ≡ 0 = omega arith in rw z refl;
  laid = λ i l p q h. absurd (omega arith);
}

module _ {f : ℕ → ℕ} {row : ℕ} {share t : List ℕ} {j k : ℕ} {c : List ℕ} {sums : List (List ℕ)} (s : Stood f row share t j k c sums) where
  -- a turn
  pub stood_more
      : {a : ℕ} → j < 16 → k < 8 → a ≡ f (get_or c j 0)
      → let d = set c j a in Stood f row share t j (k + 1) d (set sums k (set (get_or sums k []) j (bit_xor (get_or share (16 * (row + k) + j) 0) (get_or d j 0))))
  stood_more {a} hj hk e =
      let d = set c j a in
      let old = get_or sums k [] in
      let v = bit_xor (get_or share (16 * (row + k) + j) 0) (get_or d j 0) in
      let here : get_or d j 0 ≡ times f (suc k) (get_or t j 0) =
      get_or-set_same c j a 0 (omega (arith, s.long)) ∙ e ∙ ap f (s.cells j k hj (omega arith)) in
      let rows : length sums ≡ 8 = sym (length-map sums length) ∙ ap length s.room in
      let wide : length old ≡ 16 = sym (get_or-map length sums k []) ∙ rw s.room (get_or-replicate 8 k 16 0 hk) in
      let stored : get_or (set sums k (set old j v)) k [] ≡ set old j v = get_or-set_same sums k (set old j v) [] (omega arith) in record {
        low = omega arith;
        long = length-set c j a ∙ s.long;
        room = map-set_same length sums k (set old j v) [] (length-set old j v) ∙ s.room;
        cells = λ l m p q. elim (ℕ_discrete l j) [
          | yes g ↦ let z : m ≡ suc k = omega arith in rw (g, z) here
          | no g ↦ get_or-set_other c j l a 0 g ∙ s.cells l m p (omega arith)
        ];
        laid = λ i l p q r. elim (ℕ_discrete i k) [
          | yes g ↦ elim (ℕ_discrete l j) [
            | yes h ↦ rw (g, h)
                (ap (λ (x : List ℕ). get_or x j 0) stored ∙ get_or-set_same old j v 0 (omega arith)
                ∙ ap (bit_xor (get_or share (16 * (row + k) + j) 0)) here)
            | no h ↦ rw g (ap (λ (x : List ℕ). get_or x l 0) stored ∙ get_or-set_other old j l v 0 h ∙ s.laid k l hk q (omega arith))
          ]
          | no g ↦ ap (λ (x : List ℕ). get_or x l 0) (get_or-set_other sums k i (set old j v) [] g) ∙ s.laid i l p q (omega arith)
        ];
      }

  -- the inner loop has ended
  pub stood_next : 8 ≤ k → Stood f row share t (j + 1) 0 c sums
  stood_next h = record {
    low = omega arith;
    long = s.long;
    room = s.room;
    cells = λ l m p e. s.cells l m p (omega arith);
    laid = λ i l p q r. s.laid i l p q (omega arith);
  }

  -- the outer loop has ended
  pub stood_all : 16 ≤ j → Summed f row share t c sums
  stood_all h = record {
    cells = λ l p. s.cells l 8 p (omega arith);
    at = λ i l p q. s.laid i l p q (omega arith);
  }
