-- What the key's share and the tweak's word have to do with a tweakey, over the width and the number of words: xored they are its sums,
-- and sixteen rounds on both are again its parts, the share's eight rows further. Assumes nothing.
use mathlib.Core.Path.{◌≡◌, refl, sym, ap, ap₂, ◌∙◌}
use Prim.Native.Nat.{ℕ, zero, suc, ◌+◌, ◌*◌, ◌/◌, ◌<◌}
use mathlib.Core.List.{List}
use native.Mathlib.Nat.{zero-add, suc-add}
use native.Mathlib.Omega.{arith}
use lib.Bits.{bit_xor}
use lib.ListN.{get_or}
use Rattle.cells.specs.Cells.{Width, Words, Two, Three, step2}
use Rattle.cells.proofs.Tabs.{tab_same, agree}
use Rattle.schedule.specs.declared.Tweakey.{Tweakey}
use Rattle.schedule.specs.declared.Moving.{Moving}
use Rattle.schedule.specs.Schedule.{key_cell, key_row, xor_row, advance}
use Rattle.schedule.specs.Sixteen.{times, standing}
use Rattle.schedule.specs.Share.{share_cell, tweak_at, tweak_step, Parts, Summed, Along}
use Rattle.schedule.proofs.Places.{advance_at}
use Rattle.schedule.proofs.Sixteen.{Sums, sixteen}

-- so many steps after so many
pub times_add : (f : ℕ → ℕ) (a b x : ℕ) → times f a (times f b x) ≡ times f (a + b) x
times_add f zero b x = ap (λ (m : ℕ). times f m x) (sym (zero-add b))
times_add f (suc a) b x = ap f (times_add f a b x) ∙ ap (λ (m : ℕ). times f m x) (sym (suc-add a b))

-- before a step
pub sum_none : (w : Width) (n : Words) (t : List ℕ) (j : ℕ) → bit_xor (share_cell w n t 0 j) (get_or t (tweak_at n + j) 0) ≡ key_cell n t j
sum_none w Two t j = refl
sum_none w Three t j = refl

module _ (w : Width) where
  -- the sum of a column is the key's share and the tweak's cell
  pub sum_parts
      : (n : Words) (t : List ℕ) (k j : ℕ) → j < 16
      → key_cell n (standing w n k t) j ≡ bit_xor (share_cell w n t k j) (times (tweak_step w n) k (get_or t (tweak_at n + j) 0))
  unfolding standing
  sum_parts Two t k = agree _ _ 16 refl
  sum_parts Three t k = agree _ _ 16 refl

  -- both parts of cells that were stepped before
  pub share_standing : (n : Words) (t : List ℕ) (k j : ℕ) → j < 16 → share_cell w n (standing w n 8 t) k j ≡ share_cell w n t (k + 8) j
  unfolding standing
  share_standing Two t k j h = agree (share_cell w Two (standing w Two 8 t) k) (share_cell w Two t (k + 8)) 16 refl j h
  share_standing Three t k j h =
      agree (share_cell w Three (standing w Three 8 t) k) (λ i. bit_xor (get_or t i 0) (times (step2 w) k (times (step2 w) 8 (get_or t (16 + i) 0)))) 16 refl j h
      ∙ ap (bit_xor (get_or t j 0)) (times_add (step2 w) k 8 (get_or t (16 + j) 0))

  pub word_standing
      : (n : Words) (t : List ℕ) (j : ℕ) → j < 16 → get_or (standing w n 8 t) (tweak_at n + j) 0 ≡ times (tweak_step w n) 8 (get_or t (tweak_at n + j) 0)
  unfolding standing
  word_standing Two t = agree _ _ 16 refl
  word_standing Three t = agree _ _ 16 refl

-- the first round's key
pub first_row : {w : Width} {n : Words} {t : Tweakey} {share tweak : List ℕ} → Parts w n t share tweak → xor_row share tweak ≡ key_row n t.cells
first_row {w} {n} {t} {share} {tweak} p =
    tab_same (λ (j : ℕ). bit_xor (get_or share j 0) (get_or tweak j 0)) (key_cell n t.cells) 8 0
    (λ j h. let first = ap (λ (i : ℕ). get_or share i 0) (sym (zero-add j)) ∙ p.key 0 j (omega arith) (omega arith) in
    ap₂ bit_xor first (sym (p.word j (omega arith))) ∙ sum_none w n t.cells j)

-- a tweakey before its first round
pub along_first : {w : Width} {n : Words} {t : Tweakey} {share tweak : List ℕ} → Parts w n t share tweak → Along w n t share (record { cells = tweak; at = 0 })
along_first {share = share} p = record {
  here = p.first;
  key = λ k j h l. ap (λ (i : ℕ). get_or share (16 * i + j) 0) (zero-add k) ∙ p.key k j (omega arith) l;
  word = p.word;
}

module _ {w : Width} {n : Words} {share : List ℕ} {u : Moving} where
  -- the sums of a turn
  pub along_sums
      : {t : Tweakey} {c : List ℕ} {sums : List (List ℕ)}
      → u.at < 81 → Along w n t share u → Summed (tweak_step w n) (u.at / 2 + 1) share u.cells c sums → Sums w n t.cells sums
  along_sums {t} h a s = record {
    at = λ k j p q.
        let r : u.at / 2 + 1 + k ≡ u.at / 2 + suc k = omega arith in
        s.at k j p q
        ∙ ap₂ bit_xor (ap (λ (i : ℕ). get_or share (16 * i + j) 0) r ∙ a.key (suc k) j (omega arith) q) (ap (times (tweak_step w n) (suc k)) (sym (a.word j q)))
        ∙ sym (sum_parts w n t.cells (suc k) j q);
  }

  -- and where it leads
  pub along_more
      : {t : Tweakey} {v : Moving} {row : ℕ} {sums : List (List ℕ)}
      → Along w n t share u → v.at ≡ u.at + 16 → Summed (tweak_step w n) row share u.cells v.cells sums → Along w n (advance w n 16 t) share v
  along_more {t} {v} a e s = record {
    here = advance_at w n 16 t ∙ ap (λ (i : ℕ). i + 16) a.here ∙ sym e;
    key = λ k j p q.
        let r : v.at / 2 + k ≡ u.at / 2 + (k + 8) = omega arith in
        ap (λ (i : ℕ). get_or share (16 * i + j) 0) r ∙ a.key (k + 8) j (omega arith) q ∙ sym (share_standing w n t.cells k j q)
        ∙ ap (λ (l : Tweakey). share_cell w n l.cells k j) (sym (sixteen w n t));
    word = λ j q.
        ap (λ (l : Tweakey). get_or l.cells (tweak_at n + j) 0) (sixteen w n t) ∙ word_standing w n t.cells j q
        ∙ ap (times (tweak_step w n) 8) (a.word j q) ∙ sym (s.cells j q);
  }
