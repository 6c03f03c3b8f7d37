-- What a change of the tweak's last byte makes of the round keys, over the width and the number of words: cells 14 and 15 of the
-- tweak's word change, and with them one cell each of the keys of the odd rounds. Assumes nothing.
use mathlib.Core.Path.{◌≡◌, refl, sym, ap, ap₂, ◌∙◌, subst}
use Prim.Native.Nat.{ℕ, zero, suc, ◌+◌, ◌*◌, ◌/◌, ◌%◌, ◌<◌, ◌≤◌}
use mathlib.Core.List.{List, [], ◌∷◌, ◌++◌}
use native.Mathlib.Decide.{ℕ_discrete}
use native.Mathlib.Omega.{arith}
use lib.Bits.{bit_xor, xor_zero_r}
use lib.ListN.{get_or, set}
use lib.Seq.{set-get_or}
use Rattle.cells.specs.Cells.{Width, Byte, Words, Two, Three, size, LowCells, step2}
use Rattle.cells.specs.Tabs.{tab}
use Rattle.cells.proofs.Laws.{xor_low}
use Rattle.cells.proofs.Tabs.{tab_same}
use Rattle.cells.proofs.Xor.{xor_assoc, xor_first}
use Rattle.constants.specs.Constants.{constant, constant_row}
use Rattle.schedule.specs.declared.Tweakey.{Tweakey}
use Rattle.schedule.specs.Schedule.{key_cell, round_key, xor_row, advance, RoundKeys}
use Rattle.schedule.specs.Sixteen.{times, standing, moved, upper, lower}
use Rattle.schedule.specs.Share.{share_cell, tweak_at, tweak_step, change14, change15, LastChanged}
use Rattle.schedule.specs.Change.{cell_xored, places14, places15, corrected, OddRows}
use Rattle.schedule.proofs.Linear.{times_xor}
use Rattle.schedule.proofs.Low.{advance_low}
use Rattle.schedule.proofs.Places.{advance_add}
use Rattle.schedule.proofs.Share.{times_add, sum_none, sum_parts, share_standing, word_standing}
use Rattle.schedule.proofs.Sixteen.{sixteen, below_8, sum_row, first_sums, second_sums}

-- ---- the changed cells

-- two tweakeys with the same key, and the same tweak but for cell 14, which is another by x, and cell 15, another by y
record Off (w : Width) (n : Words) (x y : ℕ) (t u : Tweakey) : Type 0 where
  low : LowCells w t.cells
  low' : LowCells w u.cells
  share : (k j : ℕ) → j < 16 → share_cell w n u.cells k j ≡ share_cell w n t.cells k j
  word : (j : ℕ) → j < 14 → get_or u.cells (tweak_at n + j) 0 ≡ get_or t.cells (tweak_at n + j) 0
  cell14 : get_or u.cells (tweak_at n + 14) 0 ≡ bit_xor (get_or t.cells (tweak_at n + 14) 0) x
  cell15 : get_or u.cells (tweak_at n + 15) 0 ≡ bit_xor (get_or t.cells (tweak_at n + 15) 0) y

share_same
    : (w : Width) (n : Words) (t u : List ℕ) → ((j : ℕ) → j < tweak_at n + 14 → get_or u j 0 ≡ get_or t j 0)
    → (k j : ℕ) → j < 16 → share_cell w n u k j ≡ share_cell w n t k j
share_same w Two t u e k j h = e j (omega arith)
share_same w Three t u e k j h = ap₂ bit_xor (e j (omega arith)) (ap (times (step2 w) k) (e (16 + j) (omega arith)))

off_first
    : {w : Width} {n : Words} {d : ℕ} {t u : Tweakey} → LowCells w t.cells → LastChanged w n d t u → Off w n (change14 w d) (change15 w d) t u
off_first {w} {n} {d} {t} {u} l c = record {
  low = l;
  low' = c.low;
  share = share_same w n t.cells u.cells c.before;
  word = λ j h. c.before (tweak_at n + j) (omega arith);
  cell14 = c.cell14;
  cell15 = c.cell15;
}

-- ---- the changed keys of a turn

-- the key's cell, moved as the sums are: for each of the eight rows
row_changed
    : (c : List ℕ) (g : ℕ → ℕ) (x y k : ℕ) → k < 8
    → let s = tab g 0 16 in
    xor_row c (lower (moved (k + 1) (cell_xored 15 y (cell_xored 14 x s))))
    ≡ cell_xored (get_or places15 k 0) y (cell_xored (get_or places14 k 0) x (xor_row c (lower (moved (k + 1) s))))
row_changed c g x y = below_8 _ (both 0) (both 1) (both 2) (both 3) (both 4) (both 5) (both 6) (both 7) where
  both
      : (k : ℕ)
      → let p = get_or places14 k 0 in
      let q = get_or places15 k 0 in
      let r = xor_row c (lower (moved (k + 1) (tab g 0 16))) in
      set (set r p (bit_xor (get_or c p 0) (bit_xor (g 14) x))) q (bit_xor (get_or c q 0) (bit_xor (g 15) y))
      ≡ set (set r p (bit_xor (bit_xor (get_or c p 0) (g 14)) x)) q (bit_xor (bit_xor (get_or c q 0) (g 15)) y)
  both k =
      ap₂ (λ (a b : ℕ). set (set (xor_row c (lower (moved (k + 1) (tab g 0 16)))) (get_or places14 k 0) a) (get_or places15 k 0) b)
      (sym (xor_assoc (get_or c (get_or places14 k 0) 0) (g 14) x)) (sym (xor_assoc (get_or c (get_or places15 k 0) 0) (g 15) y))

row_kept : (g : ℕ → ℕ) (x y k : ℕ) → k < 8 → upper (moved (k + 1) (cell_xored 15 y (cell_xored 14 x (tab g 0 16)))) ≡ upper (moved (k + 1) (tab g 0 16))
row_kept g x y = below_8 _ refl refl refl refl refl refl refl refl

-- ---- round by round

module _ (w : Width) (n : Words) where
  abbrev step : ℕ → ℕ
  step = tweak_step w n

  -- a changed cell after k steps
  stepped_cell
      : {a b : ℕ} (x k : ℕ) → a < size w → b < size w → b ≡ bit_xor a x → times step k b ≡ bit_xor (times step k a) (times step k x)
  stepped_cell {a} {b} x k p q e =
      let l : x < size w = subst (λ (z : ℕ). z < size w) (ap (bit_xor a) e ∙ xor_first a x) (xor_low w a b p q) in
      ap (times step k) e ∙ times_xor w n k a x p l

  -- sixteen rounds on
  off_more : {x y : ℕ} {t u : Tweakey} → Off w n x y t u → Off w n (times step 8 x) (times step 8 y) (advance w n 16 t) (advance w n 16 u)
  off_more {x} {y} {t} {u} o = record {
    low = advance_low w n 16 t o.low;
    low' = advance_low w n 16 u o.low';
    share = λ k j h. part k j h u ∙ o.share (k + 8) j h ∙ sym (part k j h t);
    word = λ j h. cell u j (omega arith) ∙ ap (times step 8) (o.word j h) ∙ sym (cell t j (omega arith));
    cell14 = changed 14 x (omega arith) o.cell14;
    cell15 = changed 15 y (omega arith) o.cell15;
  } where
    part : (k j : ℕ) → j < 16 → (v : Tweakey) → share_cell w n (advance w n 16 v).cells k j ≡ share_cell w n v.cells (k + 8) j
    part k j h v = ap (λ (z : Tweakey). share_cell w n z.cells k j) (sixteen w n v) ∙ share_standing w n v.cells k j h

    cell : (v : Tweakey) (j : ℕ) → j < 16 → get_or (advance w n 16 v).cells (tweak_at n + j) 0 ≡ times step 8 (get_or v.cells (tweak_at n + j) 0)
    cell v j h = ap (λ (z : Tweakey). get_or z.cells (tweak_at n + j) 0) (sixteen w n v) ∙ word_standing w n v.cells j h

    changed
        : (j z : ℕ) → j < 16 → get_or u.cells (tweak_at n + j) 0 ≡ bit_xor (get_or t.cells (tweak_at n + j) 0) z
        → get_or (advance w n 16 u).cells (tweak_at n + j) 0 ≡ bit_xor (get_or (advance w n 16 t).cells (tweak_at n + j) 0) (times step 8 z)
    changed j z h e =
        cell u j h ∙ stepped_cell z 8 (o.low (tweak_at n + j)) (o.low' (tweak_at n + j)) e
        ∙ ap (λ (a : ℕ). bit_xor a (times step 8 z)) (sym (cell t j h))

  off_turns
      : {x y : ℕ} {t u : Tweakey} (q : ℕ)
      → Off w n x y t u → Off w n (times step (8 * q) x) (times step (8 * q) y) (advance w n (16 * q) t) (advance w n (16 * q) u)
  unfolding advance
  off_turns zero o = o
  off_turns {x} {y} {t} {u} (suc q) o =
      let s : 8 * suc q ≡ 8 + 8 * q = omega arith in
      let r : 16 * suc q ≡ 16 * q + 16 = omega arith in
      let more : (z : ℕ) → times step 8 (times step (8 * q) z) ≡ times step (8 * suc q) z =
      λ z. times_add step 8 (8 * q) z ∙ ap (λ (k : ℕ). times step k z) (sym s) in
      let on : (v : Tweakey) → advance w n 16 (advance w n (16 * q) v) ≡ advance w n (16 * suc q) v =
      λ v. advance_add w n (16 * q) 16 v ∙ ap (λ (m : ℕ). advance w n m v) (sym r) in
      rw (more x, more y, on t, on u) at (off_more (off_turns q o))

  abbrev key_at : Tweakey → ℕ → List ℕ
  key_at t i = round_key n (advance w n i t).cells

  -- row k of the sums
  sums_changed
      : {x y : ℕ} {t u : Tweakey} (k : ℕ) → Off w n x y t u
      → sum_row w n u.cells k ≡ cell_xored 15 (times step (suc k) y) (cell_xored 14 (times step (suc k) x) (sum_row w n t.cells k))
  sums_changed {x} {y} {t} {u} k o =
      λ i. tab_same (sum u) (sum t) 14 0 same i ++ (changed 14 x (omega arith) o.cell14 i ∷ changed 15 y (omega arith) o.cell15 i ∷ []) where
        sum : Tweakey → ℕ → ℕ
        sum v = key_cell n (standing w n (suc k) v.cells)

        parts : (v : Tweakey) (j : ℕ) → j < 16 → sum v j ≡ bit_xor (share_cell w n v.cells (suc k) j) (times step (suc k) (get_or v.cells (tweak_at n + j) 0))
        parts v = sum_parts w n v.cells (suc k)

        same : (j : ℕ) → j < 0 + 14 → sum u j ≡ sum t j
        same j h =
            parts u j (omega arith) ∙ ap₂ bit_xor (o.share (suc k) j (omega arith)) (ap (times step (suc k)) (o.word j (omega arith)))
            ∙ sym (parts t j (omega arith))

        changed
            : (j z : ℕ) → j < 16 → get_or u.cells (tweak_at n + j) 0 ≡ bit_xor (get_or t.cells (tweak_at n + j) 0) z
            → sum u j ≡ bit_xor (sum t j) (times step (suc k) z)
        changed j z h e =
            parts u j h
            ∙ ap₂ bit_xor (o.share (suc k) j h) (stepped_cell z (suc k) (o.low (tweak_at n + j)) (o.low' (tweak_at n + j)) e)
            ∙ sym (xor_assoc (share_cell w n t.cells (suc k) j) (times step (suc k) (get_or t.cells (tweak_at n + j) 0)) (times step (suc k) z))
            ∙ ap (λ (a : ℕ). bit_xor a (times step (suc k) z)) (sym (parts t j h))

  module _ {x y : ℕ} {t u : Tweakey} (o : Off w n x y t u) where
    -- round i in its turn
    in_turn : (v : Tweakey) (q r i : ℕ) → 16 * q + r ≡ i → round_key n (advance w n r (advance w n (16 * q) v)).cells ≡ key_at v i
    in_turn v q r i e = ap (λ (z : Tweakey). round_key n z.cells) (advance_add w n (16 * q) r v) ∙ ap (key_at v) e

    odd_key
        : (c : List ℕ) (s : ℕ)
        → xor_row c (key_at u (2 * s + 1)) ≡ corrected step places15 y s (corrected step places14 x s (xor_row c (key_at t (2 * s + 1))))
    odd_key c s =
        let q = s / 8 in
        let k = s % 8 in
        let h : k < 8 = omega arith in
        let e : 16 * q + (2 * k + 1) ≡ 2 * s + 1 = omega arith in
        let m : suc k + 8 * q ≡ suc s = omega arith in
        let on : (z : ℕ) → times step (suc k) (times step (8 * q) z) ≡ times step (suc s) z =
        λ z. times_add step (suc k) (8 * q) z ∙ ap (λ (j : ℕ). times step j z) m in
        let now : (v : Tweakey) → lower (moved (k + 1) (sum_row w n (advance w n (16 * q) v).cells k)) ≡ key_at v (2 * s + 1) =
        λ v. first_sums w n (advance w n (16 * q) v) k h ∙ in_turn v q (2 * k + 1) (2 * s + 1) e in
        ap (xor_row c) (sym (now u) ∙ ap (λ (r : List ℕ). lower (moved (k + 1) r)) (sums_changed k (off_turns q o)))
        ∙ row_changed c (key_cell n (standing w n (suc k) (advance w n (16 * q) t).cells)) _ _ k h
        ∙ (λ i. cell_xored (get_or places15 k 0) (on y i) (cell_xored (get_or places14 k 0) (on x i) (xor_row c (now t i))))

    even_key : (s : ℕ) → key_at u (2 * s) ≡ key_at t (2 * s)
    unfolding round_key advance
    even_key zero =
        tab_same (key_cell n u.cells) (key_cell n t.cells) 8 0
        (λ j h. sym (sum_none w n u.cells j) ∙ ap₂ bit_xor (o.share 0 j (omega arith)) (o.word j (omega arith)) ∙ sum_none w n t.cells j)
    even_key (suc s) =
        let q = s / 8 in
        let k = s % 8 in
        let h : k < 8 = omega arith in
        let e : 16 * q + (2 * k + 2) ≡ 2 * suc s = omega arith in
        let now : (v : Tweakey) → upper (moved (k + 1) (sum_row w n (advance w n (16 * q) v).cells k)) ≡ key_at v (2 * suc s) =
        λ v. second_sums w n (advance w n (16 * q) v) k h ∙ in_turn v q (2 * k + 2) (2 * suc s) e in
        sym (now u) ∙ ap (λ (r : List ℕ). upper (moved (k + 1) r)) (sums_changed k (off_turns q o))
        ∙ row_kept (key_cell n (standing w n (suc k) (advance w n (16 * q) t).cells)) _ _ k h ∙ now t

-- the theorem: with the odd rows corrected for both cells, the keys are those of the changed tweakey
pub keys_changed
    : {w : Width} {n : Words} {d m b : ℕ} {t u : Tweakey} {before keys : List (List ℕ)}
    → OddRows (λ k r. corrected (tweak_step w n) places15 (change15 w d) k (corrected (tweak_step w n) places14 (change14 w d) k r)) 0 b before keys
    → m ≤ 2 * b + 1 → LastChanged w n d t u → RoundKeys w n m t before → RoundKeys w n m u keys
keys_changed {w} {n} {d} {m} {b} {t} {u} {before} {keys} r h c known = record {
  first = c.first;
  low = c.low;
  at = λ i p. let s = i / 2 in elim (ℕ_discrete (2 * s) i) [
    | yes e ↦ subst Row e (r.even s ∙ known.at (2 * s) (omega arith) ∙ ap (xor_row (constant_row (constant (2 * s)))) (sym (even_key w n o s)))
    | no e ↦ subst Row (omega arith)
        (r.odd s (omega arith) (omega arith) ∙ ap (both s) (known.at (2 * s + 1) (omega arith)) ∙ sym (odd_key w n o (constant_row (constant (2 * s + 1))) s))
  ];
} where
  o : Off w n (change14 w d) (change15 w d) t u
  o = off_first known.low c

  Row : ℕ → Type 0
  Row i = get_or keys i [] ≡ xor_row (constant_row (constant i)) (round_key n (advance w n i u).cells)

  both : ℕ → List ℕ → List ℕ
  both k r = corrected (tweak_step w n) places15 (change15 w d) k (corrected (tweak_step w n) places14 (change14 w d) k r)

-- where a byte is one cell, cell 14 has not changed
unchanged : (k : ℕ) (r : List ℕ) → corrected (step2 Byte) places14 0 k r ≡ r
unfolding step2
unchanged k r = let p = get_or places14 (k % 8) 0 in ap (set r p) (ap (bit_xor (get_or r p 0)) (none (suc k)) ∙ xor_zero_r (get_or r p 0)) ∙ set-get_or r p 0 where
  none : (m : ℕ) → times (step2 Byte) m 0 ≡ 0
  none zero = refl
  none (suc m) = ap (step2 Byte) (none m)

pub byte_changed
    : {d m b : ℕ} {t u : Tweakey} {before keys : List (List ℕ)} → OddRows (corrected (step2 Byte) places15 d) 0 b before keys
    → m ≤ 2 * b + 1 → LastChanged Byte Two d t u → RoundKeys Byte Two m t before → RoundKeys Byte Two m u keys
byte_changed {d} {b = b} {before = before} {keys} r =
    keys_changed {b = b} (record {
      long = r.long;
      odd = λ k p q. r.odd k p q ∙ ap (corrected (step2 Byte) places15 d k) (sym (unchanged k (get_or before (2 * k + 1) [])));
      front = r.front;
      behind = r.behind;
      even = r.even;
    })
