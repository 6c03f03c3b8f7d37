-- Two tweaks that differ in their last byte alone: what that changes in the tweakey, and what is then kept. Assumes nothing.
use mathlib.Core.Path.{◌≡◌, refl, sym, ap, ◌∙◌, subst}
use mathlib.Core.List.{List, ◌++◌}
use Prim.Native.Nat.{ℕ, zero, suc, ◌+◌, ◌-◌, ◌/◌, ◌%◌, ◌<◌, ◌≤◌}
use native.Mathlib.Decide.{dec_lt}
use native.Mathlib.Omega.{arith}
use lib.Bits.{bit_xor, xor_shr, xor_mod, xor_zero_r}
use lib.ListN.{length, get_or, take, set}
use lib.Seq.{ext_get_or, get_or-take, get_or-set_other, length-take-le}
use Rattle.cells.specs.Cells.{Bytes, Nibble, Byte}
use Rattle.cells.proofs.Tabs.{tab_same, agree}
use Rattle.cells.proofs.Xor.{xor_first}
use Rattle.schedule.specs.declared.Tweakey.{Tweakey}
use Rattle.schedule.specs.Schedule.{RoundKeys}
use Rattle.schedule.specs.Share.{LastChanged}
use Rattle.ciphers.specs.declared.Cipher.{Cipher}
use Rattle.ciphers.specs.declared.Cipher.TheVariants.{N64T192, N128T256}
use Rattle.ciphers.specs.Ciphers.{width_of, words_of, block_of, cell_of, nibble_from, sixteen, key_cells, tk}
use Rattle.ciphers.proofs.Laws.{tk_low}
use Rattle.prepared.specs.Prepared.{key_in}
use Rattle.prepared.proofs.Found.{key_block}
use Rattle.kept.specs.declared.Kept.{Kept}
use Rattle.kept.specs.Kept.{Holds, TurnedTo}

-- ---- bytes and cells

-- the first n bytes are the same
abbrev pub Front : ℕ → List ℕ → List ℕ → Type 0
Front n a b = (j : ℕ) → j < n → get_or a j 0 ≡ get_or b j 0

pub front_same : {n : ℕ} (a b : List ℕ) → take n a ≡ take n b → Front n a b
front_same {n} a b e j h = sym (get_or-take n a j 0 h) ∙ ap (λ (l : List ℕ). get_or l j 0) e ∙ get_or-take n b j 0 h

front_more : {n : ℕ} (a b : List ℕ) → Front n a b → get_or a n 0 ≡ get_or b n 0 → Front (n + 1) a b
front_more {n} a b f e j h = elim (dec_lt j n) [
  | yes l ↦ f j l
  | no l ↦ let z : j ≡ n = omega arith in rw z e
]

nibbles_same : {n : ℕ} (a b : List ℕ) → Front n a b → (k o : ℕ) → o + k / 2 < n → nibble_from a o k ≡ nibble_from b o k
nibbles_same a b f zero o h = ap (λ (x : ℕ). x / 16) (f o (omega arith))
nibbles_same a b f (suc zero) o h = ap (λ (x : ℕ). x % 16) (f o (omega arith))
nibbles_same a b f (suc (suc k)) o h = nibbles_same a b f k (suc o) (omega arith)

-- a difference of none
none : (x y : ℕ) → bit_xor x y ≡ 0 → x ≡ y
none x y z = sym (xor_zero_r x) ∙ ap (bit_xor x) (sym z) ∙ xor_first x y

-- a difference xored in
over : (x y d : ℕ) → d ≡ bit_xor x y → y ≡ bit_xor x d
over x y d e = sym (ap (bit_xor x) e ∙ xor_first x y)

-- a byte put behind the front of a list leaves the front
pub put_last
    : (n x : ℕ) (a b : List ℕ) → 0 < n → n ≤ length a → n ≤ length b → take n (set a (n - 1) x) ≡ take n b → take (n - 1) a ≡ take (n - 1) b
put_last n x a b some p q e =
    ext_get_or 0 (take (n - 1) a) (take (n - 1) b) (wide a p ∙ sym (wide b q))
    (λ j h. let l : j < n - 1 = omega (arith, wide a p) in
    get_or-take (n - 1) a j 0 l ∙ sym (get_or-set_other a (n - 1) j x 0 (λ o. omega arith)) ∙ sym (get_or-take n (set a (n - 1) x) j 0 (omega arith))
    ∙ ap (λ (l : List ℕ). get_or l j 0) e ∙ get_or-take n b j 0 (omega arith) ∙ sym (get_or-take (n - 1) b j 0 l)) where
      wide : (l : List ℕ) → n ≤ length l → length (take (n - 1) l) ≡ n - 1
      wide l h = length-take-le (n - 1) l (omega arith)

-- ---- the tweakey

module _ (key : List ℕ) where
  cells_same : (c : Cipher) (a b : List ℕ) → Front (block_of c) a b → tk c key a ≡ tk c key b
  unfolding tk
  cells_same N64T192 a b f =
      ap (λ (l : List ℕ). record { cells = sixteen (cell_of Nibble key) ++ sixteen (λ k. cell_of Nibble key (16 + k)) ++ l; at = 0 })
      (tab_same (cell_of Nibble a) (cell_of Nibble b) 16 0 (λ k h. nibbles_same a b f k 0 (omega arith)))
  cells_same N128T256 a b f =
      ap (λ (l : List ℕ). record { cells = sixteen (cell_of Byte key) ++ l ++ sixteen (λ k. 0); at = 0 })
      (tab_same (cell_of Byte a) (cell_of Byte b) 16 0 f)

  module _ (a b : List ℕ) (d : ℕ) where
    changed : (c : Cipher) → Bytes key → Bytes b → Front (block_of c - 1) a b → d ≡ bit_xor (get_or a (block_of c - 1) 0) (get_or b (block_of c - 1) 0)
        → LastChanged (width_of c) (words_of c) d (tk c key a) (tk c key b)
    unfolding tk
    changed N64T192 hk hb f e = record {
      first = refl;
      low = tk_low N64T192 key b hk hb;
      before = λ j h. elim (dec_lt j 16) [
        | yes l ↦ agree (λ m. get_or (key_cells N64T192 key b) m 0) (λ m. get_or (key_cells N64T192 key a) m 0) 16 refl j l
        | no l ↦ elim (dec_lt j 32) [
          | yes m ↦ shift j 16 (omega arith) (agree (λ m. get_or (key_cells N64T192 key b) (16 + m) 0) (λ m. get_or (key_cells N64T192 key a) (16 + m) 0) 16 refl (j - 16) (omega arith))
          | no m ↦ shift j 32 (omega arith)
              (agree (λ m. get_or (key_cells N64T192 key b) (32 + m) 0) (cell_of Nibble b) 16 refl (j - 32) (omega arith)
              ∙ sym (nibbles_same a b f (j - 32) 0 (omega arith))
              ∙ sym (agree (λ m. get_or (key_cells N64T192 key a) (32 + m) 0) (cell_of Nibble a) 16 refl (j - 32) (omega arith)))
        ]
      ];
      cell14 = over (get_or a 7 0 / 16) (get_or b 7 0 / 16) (d / 16) (ap (λ (x : ℕ). x / 16) e ∙ xor_shr (get_or a 7 0) (get_or b 7 0) 4);
      cell15 = over (get_or a 7 0 % 16) (get_or b 7 0 % 16) (d % 16) (ap (λ (x : ℕ). x % 16) e ∙ xor_mod (get_or a 7 0) (get_or b 7 0) 4);
    } where
      shift : (j o : ℕ) → o ≤ j → get_or (key_cells N64T192 key b) (o + (j - o)) 0 ≡ get_or (key_cells N64T192 key a) (o + (j - o)) 0
          → get_or (key_cells N64T192 key b) j 0 ≡ get_or (key_cells N64T192 key a) j 0
      shift j o h p =
          let i : o + (j - o) ≡ j = omega arith in subst (λ (i : ℕ). get_or (key_cells N64T192 key b) i 0 ≡ get_or (key_cells N64T192 key a) i 0) i p
    changed N128T256 hk hb f e = record {
      first = refl;
      low = tk_low N128T256 key b hk hb;
      before = λ j h. elim (dec_lt j 16) [
        | yes l ↦ agree (λ m. get_or (key_cells N128T256 key b) m 0) (λ m. get_or (key_cells N128T256 key a) m 0) 16 refl j l
        | no l ↦ let i : 16 + (j - 16) ≡ j = omega arith in
            subst (λ (i : ℕ). get_or (key_cells N128T256 key b) i 0 ≡ get_or (key_cells N128T256 key a) i 0) i
            (agree (λ m. get_or (key_cells N128T256 key b) (16 + m) 0) (cell_of Byte b) 16 refl (j - 16) (omega arith)
            ∙ sym (f (j - 16) (omega arith))
            ∙ sym (agree (λ m. get_or (key_cells N128T256 key a) (16 + m) 0) (cell_of Byte a) 16 refl (j - 16) (omega arith)))
      ];
      cell14 = sym (f 14 (omega arith)) ∙ sym (xor_zero_r (get_or a 14 0));
      cell15 = over (get_or a 15 0) (get_or b 15 0) d e;
    }

-- ---- what is kept

-- N is the block's size as the code has it
module _ (c : Cipher) {share : List ℕ} (tweak : List ℕ) {keys : List (List ℕ)} {kept : Kept} {m : ℕ} (N : ℕ) (s : Holds c share kept keys)
    (h : m ≤ kept.rounds) (size : N ≡ block_of c) (w : length tweak ≡ 16) (p : take (N - 1) kept.tweak ≡ take (N - 1) tweak) where
  abbrev d : ℕ
  d = bit_xor (get_or kept.tweak (N - 1) 0) (get_or tweak (N - 1) 0)

  f : Front (block_of c - 1) kept.tweak tweak
  f = subst (λ (n : ℕ). Front (n - 1) kept.tweak tweak) size
      (front_same kept.tweak tweak p)

  e : d ≡ bit_xor (get_or kept.tweak (block_of c - 1) 0) (get_or tweak (block_of c - 1) 0)
  e = ap (λ (n : ℕ). bit_xor (get_or kept.tweak (n - 1) 0) (get_or tweak (n - 1) 0)) size

  -- the last byte is the same too
  pub still : d ≡ 0 → TurnedTo c share tweak m (record { tweak = tweak; rounds = kept.rounds }) keys
  still z =
      let one = front_more kept.tweak tweak f (none _ _ (sym e ∙ z)) in
      let all = subst (λ (n : ℕ). Front n kept.tweak tweak) (whole c) one in record {
        tweaked = refl;
        enough = h;
        keeps = record {
          wide = w;
          most = s.most;
          long = s.long;
          keyed = subst (λ (t : Tweakey). RoundKeys (width_of c) (words_of c) kept.rounds t keys) (cells_same (key_in c share) c kept.tweak tweak all) s.keyed;
        };
      } where
        whole : (c : Cipher) → block_of c - 1 + 1 ≡ block_of c
        whole N64T192 = refl
        whole N128T256 = refl

  -- it is another one
  pub corrected
      : {keys' : List (List ℕ)} → Bytes tweak → length keys' ≡ 97
      → ((t u : Tweakey) → LastChanged (width_of c) (words_of c) d t u → RoundKeys (width_of c) (words_of c) kept.rounds t keys
      → RoundKeys (width_of c) (words_of c) kept.rounds u keys')
      → TurnedTo c share tweak m (record { tweak = tweak; rounds = kept.rounds }) keys'
  corrected b l change = record {
    tweaked = refl;
    enough = h;
    keeps = record {
      wide = w;
      most = s.most;
      long = l;
      keyed =
          let key = key_in c share in
          change (tk c key kept.tweak) (tk c key tweak) (changed key kept.tweak tweak d c (key_block c share).bytes b f e) s.keyed;
    };
  }
