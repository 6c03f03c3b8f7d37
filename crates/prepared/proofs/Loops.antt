-- What the loops of `prepared` keep: rows of a share, laid cell by cell, and the words that are read out of one. Assumes nothing.
use mathlib.Core.Path.{◌≡◌, refl, sym, ap, ap₂, ◌∙◌, subst}
use mathlib.Core.List.{List, ◌++◌}
use Prim.Native.Nat.{ℕ, suc, ◌+◌, ◌*◌, ◌-◌, ◌/◌, ◌%◌, ◌<◌, ◌≤◌}
use native.Mathlib.Decide.{dec_lt, ℕ_discrete}
use native.Mathlib.Omega.{arith}
use lib.Bits.{bit_xor}
use lib.ListN.{length, get_or, set, take, drop, replicate, length-append, length-set, length-replicate, length-drop, length-take}
use lib.Seq.{get_or-set_same, get_or-set_other, get_or-take, get_or-drop, length-take-le, take_all, take-add, ext_get_or}
use borrow.Rule.Slice.PartMut.{put_mid}
use Rattle.std.proofs.lemmas.Slice.{take-put_mid}
use Rattle.cells.specs.Cells.{Nibble, Three, step2}
use Rattle.cells.specs.Tabs.{tab}
use Rattle.cells.proofs.Tabs.{table, tab_long, agree}
use Rattle.schedule.specs.Sixteen.{times}
use Rattle.schedule.specs.Share.{share_cell}
use Rattle.ciphers.specs.declared.Cipher.{Cipher}
use Rattle.ciphers.specs.declared.Cipher.TheVariants.{N128T256}
use Rattle.ciphers.specs.Ciphers.{width_of, words_of}
use Rattle.blocks.proofs.Over.{Laid, laid_none, laid_more}
use Rattle.prepared.specs.Prepared.{shares_of, first, second, words_in, joined}

-- ---- a share, over the cipher

-- the first i cells of a share are laid into a room d for one
pub record SharesLaid (c : Cipher) (t d : List ℕ) (i : ℕ) (share : List ℕ) : Type 0 where
  pub room : length d ≡ 784
  pub laid : Laid (shares_of c t) d i share

pub shares_long : (c : Cipher) (t : List ℕ) → length (shares_of c t) ≡ 784
unfolding shares_of
shares_long c t = tab_long (λ i. share_cell (width_of c) (words_of c) t (i / 16) (i % 16)) 784 0

-- a share's cell, by its row and place
pub share_at : (c : Cipher) (t : List ℕ) (i k j : ℕ) → i < 784 → i / 16 ≡ k → i % 16 ≡ j → get_or (shares_of c t) i 0 ≡ share_cell (width_of c) (words_of c) t k j
unfolding shares_of
share_at c t i k j h p q = table (λ i. share_cell (width_of c) (words_of c) t (i / 16) (i % 16)) 784 i h ∙ ap₂ (share_cell (width_of c) (words_of c) t) p q

pub shares_at : (c : Cipher) (t : List ℕ) (k j : ℕ) → k < 49 → j < 16 → get_or (shares_of c t) (16 * k + j) 0 ≡ share_cell (width_of c) (words_of c) t k j
shares_at c t k j p q = share_at c t (16 * k + j) k j (omega arith) (omega arith) (omega arith)

pub shares_none : (c : Cipher) (t d : List ℕ) → length d ≡ 784 → SharesLaid c t d (16 * 0 + 0) d
shares_none c t d l = record { room = l; laid = laid_none (shares_of c t) d }

module _ (c : Cipher) (t : List ℕ) {d share : List ℕ} (k : ℕ) where
  pub shares_more
      : (j v : ℕ) → k < 49 → j < 16 → v ≡ share_cell (width_of c) (words_of c) t k j
      → SharesLaid c t d (16 * k + j) share → SharesLaid c t d (16 * k + (j + 1)) (set share (16 * k + j) v)
  shares_more j v p q e s =
      let on : 16 * k + j + 1 ≡ 16 * k + (j + 1) = omega arith in
      record {
        room = s.room;
        laid =
            subst (λ (i : ℕ). Laid (shares_of c t) d i (set share (16 * k + j) v)) on
            (laid_more s.laid (e ∙ sym (shares_at c t k j p q)) (omega (arith, shares_long c t)) (omega (arith, s.room)));
      }

  pub shares_next : (j : ℕ) → j ≡ 16 → SharesLaid c t d (16 * k + j) share → SharesLaid c t d (16 * (k + 1) + 0) share
  shares_next j e s = let on : 16 * k + j ≡ 16 * (k + 1) + 0 = omega arith in subst (λ (i : ℕ). SharesLaid c t d i share) on s

  -- n rows are laid
  pub shares_rows : (n : ℕ) → k ≡ n → SharesLaid c t d (16 * k + 0) share → share ≡ take (16 * n) (shares_of c t) ++ drop (16 * n) d
  shares_rows n e s =
      let i : 16 * k + 0 ≡ 16 * n = omega arith in s.laid.said ∙ ap (λ (i : ℕ). take i (shares_of c t) ++ drop i d) i

-- ---- the share of 128-256, k rows of which are laid

pub record RowsLaid (t : List ℕ) (k : ℕ) (share : List ℕ) : Type 0 where
  pub room : length share ≡ 784
  pub said : take (16 * k) share ≡ take (16 * k) (shares_of N128T256 t)

-- each of its rows is word 1
row_at : (t : List ℕ) (k : ℕ) → k < 49 → length t ≡ 48 → take 16 (drop (16 * k) (shares_of N128T256 t)) ≡ take 16 t
row_at t k h e =
    let long : length (drop (16 * k) (shares_of N128T256 t)) ≡ 784 - 16 * k = length-drop (16 * k) (shares_of N128T256 t) ∙ omega (arith, shares_long N128T256 t) in
    let one = length-take-le 16 (drop (16 * k) (shares_of N128T256 t)) (omega arith) in
    let two = length-take-le 16 t (omega arith) in
    ext_get_or 0 (take 16 (drop (16 * k) (shares_of N128T256 t))) (take 16 t) (one ∙ sym two)
    (λ j l. let i : j < 16 = omega (arith, one) in
    get_or-take 16 (drop (16 * k) (shares_of N128T256 t)) j 0 i ∙ get_or-drop (16 * k) (shares_of N128T256 t) j 0 ∙ shares_at N128T256 t k j h i ∙ sym (get_or-take 16 t j 0 i))

pub rows_more
    : {t share row : List ℕ} {k n : ℕ} → RowsLaid t k share → k < 49 → length t ≡ 48 → row ≡ take 16 t → n ≡ 16
    → RowsLaid t (k + 1) (put_mid (16 * k) n share row)
rows_more {t} {share} {row} {k} {n} r h e f w =
    let S = shares_of N128T256 t in
    let long : length row ≡ 16 = ap length f ∙ length-take-le 16 t (omega arith) in
    let on : 16 * k + 16 ≡ 16 * (k + 1) = omega arith in
    record {
      room = simp (length-append, length-take, length-drop) (omega (arith, r.room));
      said =
          take-put_mid (16 * k) n share row (16 * (k + 1)) (omega arith) (omega (arith, r.room))
          ∙ ap₂ ◌++◌ r.said (f ∙ sym (row_at t k h e))
          ∙ sym (take-add (16 * k) 16 S) ∙ ap (λ (i : ℕ). take i S) on;
    }

pub rows_done : {t share : List ℕ} {k : ℕ} → RowsLaid t k share → 49 ≤ k → share ≡ shares_of N128T256 t
rows_done {t} {share} {k} r h =
    sym (take_all (16 * k) share (omega (arith, r.room))) ∙ r.said ∙ take_all (16 * k) (shares_of N128T256 t) (omega (arith, shares_long N128T256 t))

-- ---- the cells of 64-192 on the way: k rows are laid, and j cells of the next

pub record Stepped (t : List ℕ) (k j : ℕ) (cells : List ℕ) : Type 0 where
  pub long : length cells ≡ 48
  pub one : (l : ℕ) → l < 16 → get_or cells l 0 ≡ get_or t l 0
  pub two : (l m : ℕ) → l < 16 → m ≡ (16 * k + j + 15 - l) / 16 → get_or cells (16 + l) 0 ≡ times (step2 Nibble) m (get_or t (16 + l) 0)

pub stepped_none : (t : List ℕ) → length t ≡ 48 → Stepped t 0 0 t
stepped_none t e = record {
  long = e;
  one = λ l h. refl;
  two = λ l m h q. let z : m ≡ 0 = omega arith in rw z refl;
}

module _ {t cells : List ℕ} {k j : ℕ} (s : Stepped t k j cells) where
  -- what is laid
  pub stepped_cell : j < 16 → bit_xor (get_or cells j 0) (get_or cells (16 + j) 0) ≡ share_cell Nibble Three t k j
  stepped_cell h = ap₂ bit_xor (s.one j h) (s.two j k h (omega arith))

  pub stepped_more : (b : ℕ) → j < 16 → b ≡ step2 Nibble (get_or cells (16 + j) 0) → Stepped t k (j + 1) (set cells (16 + j) b)
  stepped_more b h e = record {
    long = length-set cells (16 + j) b ∙ s.long;
    one = λ l p. get_or-set_other cells (16 + j) l b 0 (λ o. omega arith) ∙ s.one l p;
    two = λ l m p q. elim (ℕ_discrete l j) [
      | yes f ↦ let z : m ≡ suc k = omega arith in
          rw (f, z) (get_or-set_same cells (16 + j) b 0 (omega (arith, s.long)) ∙ e ∙ ap (step2 Nibble) (s.two j k h (omega arith)))
      | no f ↦ get_or-set_other cells (16 + j) (16 + l) b 0 (λ o. f (omega arith)) ∙ s.two l m p (omega arith)
    ];
  }

  pub stepped_next : j ≡ 16 → Stepped t (k + 1) 0 cells
  stepped_next e = record { long = s.long; one = s.one; two = λ l m p q. s.two l m p (omega arith) }

-- ---- the words of a key, from a share

pub record Words (s : List ℕ) (j : ℕ) (words : List ℕ) : Type 0 where
  pub long : length words ≡ 32
  pub one : (l : ℕ) → l < j → get_or words l 0 ≡ first s l
  pub two : (l : ℕ) → l < j → get_or words (16 + l) 0 ≡ second s l

pub words_none : (s : List ℕ) → Words s 0 (replicate 32 0)
words_none s = record { long = length-replicate {A = ℕ} 32 0; one = λ l h. absurd (omega arith); two = λ l h. absurd (omega arith) }

pub words_more
    : {s words : List ℕ} {j : ℕ} (b : ℕ) → Words s j words → j < 16 → b ≡ second s j
    → Words s (j + 1) (set (set words j (bit_xor (get_or s j 0) b)) (16 + j) b)
words_more {s} {words} {j} b w h e = record {
  long = length-set (set words j a) (16 + j) b ∙ length-set words j a ∙ w.long;
  one = λ l p. get_or-set_other (set words j a) (16 + j) l b 0 (λ o. omega arith) ∙ elim (ℕ_discrete l j) [
    | yes f ↦ rw f (get_or-set_same words j a 0 (omega (arith, w.long)) ∙ ap (bit_xor (get_or s j 0)) e)
    | no f ↦ get_or-set_other words j l a 0 f ∙ w.one l (omega arith)
  ];
  two = λ l p. elim (ℕ_discrete l j) [
    | yes f ↦ rw f (get_or-set_same (set words j a) (16 + j) b 0 (omega (arith, length-set words j a, w.long)) ∙ e)
    | no f ↦
        get_or-set_other (set words j a) (16 + j) (16 + l) b 0 (λ o. f (omega arith)) ∙ get_or-set_other words j (16 + l) a 0 (λ o. omega arith) ∙ w.two l (omega arith)
  ];
} where
  a : ℕ
  a = bit_xor (get_or s j 0) b

-- sixteen places of two lists, one after the other
pub ext_32 : (f g : ℕ → ℕ) (l : List ℕ) → length l ≡ 32 → ((j : ℕ) → j < 16 → get_or l j 0 ≡ f j) → ((j : ℕ) → j < 16 → get_or l (16 + j) 0 ≡ g j)
    → l ≡ tab f 0 16 ++ tab g 0 16
ext_32 f g l e p q = ext_get_or 0 l (tab f 0 16 ++ tab g 0 16) e (λ i h. elim (dec_lt i 16) [
  | yes a ↦ p i a ∙ sym (at_one i a)
  | no a ↦ subst (λ (m : ℕ). get_or l m 0 ≡ get_or (tab f 0 16 ++ tab g 0 16) m 0) (omega arith) (q (i - 16) (omega (arith, e)) ∙ sym (at_two (i - 16) (omega (arith, e))))
]) where
  at_one : (j : ℕ) → j < 16 → get_or (tab f 0 16 ++ tab g 0 16) j 0 ≡ f j
  at_one j h = agree (λ m. get_or (tab f 0 16 ++ tab g 0 16) m 0) f 16 refl j h

  at_two : (j : ℕ) → j < 16 → get_or (tab f 0 16 ++ tab g 0 16) (16 + j) 0 ≡ g j
  at_two j h = agree (λ m. get_or (tab f 0 16 ++ tab g 0 16) (16 + m) 0) g 16 refl j h

pub words_all : {s words : List ℕ} {j : ℕ} → Words s j words → 16 ≤ j → words ≡ words_in s
unfolding words_in
words_all {s} {words} {j} w h = ext_32 (first s) (second s) words w.long (λ l p. w.one l (omega arith)) (λ l p. w.two l (omega arith))

-- ---- nibbles joined

pub joined_long : (l : List ℕ) → length (joined l) ≡ 16
unfolding joined
joined_long l = tab_long (λ i. get_or l (2 * i) 0 % 16 * 16 + get_or l (2 * i + 1) 0 % 16) 16 0

pub joined_at : (l : List ℕ) (i : ℕ) → i < 16 → get_or (joined l) i 0 ≡ get_or l (2 * i) 0 % 16 * 16 + get_or l (2 * i + 1) 0 % 16
unfolding joined
joined_at l i h = table (λ i. get_or l (2 * i) 0 % 16 * 16 + get_or l (2 * i + 1) 0 % 16) 16 i h
