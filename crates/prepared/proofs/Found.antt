-- What the code of `prepared` finds: the record of a key, and of a record the key that it was made of. Assumes nothing.
use mathlib.Core.Path.{◌≡◌, refl, sym, ap, ap₂, ◌∙◌}
use mathlib.Core.Bool.{Bool, false, cond, ◌&&◌}
use mathlib.Core.List.{List, ◌++◌, append-nil}
use mathlib.Core.Logic.{◌≢◌}
use Prim.Native.Nat.{ℕ, zero, suc, ◌+◌, ◌*◌, ◌-◌, ◌/◌, ◌%◌, ◌<◌, ◌≤◌}
use native.Mathlib.Nat.{add-suc}
use native.Mathlib.Omega.{arith}
use borrow.Author.Tests.{eq-eqb, ne_eqb}
use lib.Bits.{bit_xor, bit_or, xor_comm}
use lib.Dec.{eqb}
use lib.ListN.{length, get_or, take, drop, replicate, length-append, drop_of_length-le}
use lib.Seq.{ext_get_or, get_or-take, length-take-le, take_all, take-append_seam}
use Rattle.std.proofs.Common.{Ok, Err}
use Rattle.refusals.specs.declared.Refusal.{Refusal}
use Rattle.refusals.specs.declared.Refusal.TheVariants.{Key}
use Rattle.refusals.specs.Refusal as refusal
use Rattle.cells.specs.Cells.{Bytes, Block, Nibble, Byte, step2, step3}
use Rattle.cells.specs.Tabs.{tab}
use Rattle.cells.proofs.Below as below
use Rattle.cells.proofs.Tabs.{table, tab_long, tab_same, tab_low, agree, spelled_all}
use Rattle.cells.proofs.Xor.{xor_assoc, xor_first, xor_last}
use Rattle.schedule.specs.Sixteen.{times}
use Rattle.ciphers.specs.declared.Cipher.{Cipher}
use Rattle.ciphers.specs.declared.Cipher.TheVariants.{N64T192, N128T256}
use Rattle.ciphers.specs.Ciphers.{key_cells, tk, number_of, cipher_named}
use Rattle.ciphers.proofs.Laws.{tk_low, split_join}
use Rattle.ciphers.proofs.Named.{told_by, under_names}
use Rattle.modes.specs.Blocks.{same}
use Rattle.blocks.proofs.Collected.{or_none}
use Rattle.blocks.proofs.Parts.{part_rest}
use Rattle.prepared.specs.declared.Prepared.{Prepared}
use Rattle.prepared.specs.Prepared.{unmoving, shares_of, share_of, prepared_of, refused_with, prepared_by, prepare_of, prepared_as, first, second, words_in, joined, key_in, admitted}
use Rattle.prepared.proofs.Loops.{shares_long, share_at, joined_long}
use Rattle.prepared.proofs.Repeats.{same_if, repeats}

-- ---- preparing

-- a key of sixteen bytes, brought into an array, is that key
pub whole : (key : List ℕ) → length key ≡ 16 → take 16 key ++ replicate (16 - 16) 0 ≡ key
whole key e = append-nil (take 16 key) ∙ take_all 16 key (omega arith)

pub made
    : (c : Cipher) (key : List ℕ) {front share : List ℕ} {n : ℕ} → length key ≡ 16 → front ≡ take 16 key ++ replicate (16 - 16) 0 → share ≡ share_of c front
    → n ≡ number_of c → prepared_as (Ok (record { cipher = n; share = share; tweak = unmoving })) ≡ prepared_by c key
made c key e f s d =
    let g = s ∙ ap (share_of c) (f ∙ whole key e) in
    (λ i. record { number = 0; made = record { cipher = d i; share = g i; tweak = unmoving } })
    ∙ sym (ap (λ (b : Bool). cond b (record { number = 0; made = prepared_of c key }) (refused_with 2)) (eq-eqb (length key) 16 e))

pub not_made : (c : Cipher) (key : List ℕ) → length key ≢ 16 → prepared_as (Err Key) ≡ prepared_by c key
not_made c key e = sym (ap (λ (b : Bool). cond b (record { number = 0; made = prepared_of c key }) (refused_with 2)) (ne_eqb (length key) 16 e))

-- under the cipher that the number names, or without one
pub prepare_names
    : (cipher : ℕ) (key : List ℕ) → prepare_of cipher key ≡ told_by (λ (r : Refusal). refused_with (refusal.number_of r)) (λ (c : Cipher). prepared_by c key) (cipher_named cipher)
unfolding prepare_of
prepare_names cipher key = under_names (λ (r : Refusal). refused_with (refusal.number_of r)) (λ (c : Cipher). prepared_by c key) cipher

-- 49 rows laid in a room are all that it holds
pub rows_all : (c : Cipher) (cells d : List ℕ) → length d ≡ 784 → take 784 (shares_of c cells) ++ drop 784 d ≡ shares_of c cells
rows_all c cells d e =
    let h : length d ≤ 784 = omega arith in
    ap₂ ◌++◌ (take_all 784 (shares_of c cells) (omega (arith, shares_long c cells))) (drop_of_length-le d h) ∙ append-nil (shares_of c cells)

-- ---- the key that a share was made of

-- what the loop found is the key's: a share's first two rows, of 64-192
cancel : (a b y : ℕ) → bit_xor (bit_xor a b) (bit_xor a y) ≡ bit_xor b y
cancel a b y = ap (λ (x : ℕ). bit_xor x (bit_xor a y)) (xor_comm a b) ∙ xor_assoc b a (bit_xor a y) ∙ ap (bit_xor b) (xor_first a y)

-- a nibble from what a step of word 2 changes in it
unstep : (b : ℕ) → b < 16 → times (step3 Nibble) 4 (bit_xor b (step2 Nibble b)) ≡ b
unfolding step2 step3
unstep = below.same (λ b. times (step3 Nibble) 4 (bit_xor b (step2 Nibble b))) (λ b. b) 16 tt

pub zeros_bytes : Bytes unmoving
zeros_bytes = record { at = tab_low Byte (λ k. 0) (λ k. omega arith) 16 0 }

-- the first row of 128-256 is the key
first_row : (key : List ℕ) (j : ℕ) → j < 16 → get_or (share_of N128T256 key) j 0 ≡ get_or key j 0
first_row key j h =
    share_at N128T256 (key_cells N128T256 key unmoving) j 0 j (omega arith) (omega arith) (omega arith)
    ∙ agree (λ m. get_or (key_cells N128T256 key unmoving) m 0) (λ m. get_or key m 0) 16 refl j h

small : (x : ℕ) → x < 256 → x % 256 ≡ x
small x l = omega arith

module _ (key : List ℕ) (b : Block 16 key) where
  abbrev K : List ℕ
  K = key_cells N64T192 key unmoving

  abbrev S : List ℕ
  S = share_of N64T192 key

  nibble : (k : ℕ) → get_or K k 0 < 16
  unfolding tk
  nibble = tk_low N64T192 key unmoving b.bytes zeros_bytes

  row_0 : (j : ℕ) → j < 16 → get_or S j 0 ≡ bit_xor (get_or K j 0) (get_or K (16 + j) 0)
  row_0 j h = share_at N64T192 K j 0 j (omega arith) (omega arith) (omega arith)

  row_1 : (j : ℕ) → j < 16 → get_or S (16 + j) 0 ≡ bit_xor (get_or K j 0) (step2 Nibble (get_or K (16 + j) 0))
  row_1 j h = share_at N64T192 K (16 + j) 1 j (omega arith) (omega arith) (omega arith)

  word_2 : (j : ℕ) → j < 16 → second S j ≡ get_or K (16 + j) 0
  word_2 j h =
      ap (times (step3 Nibble) 4) (ap₂ bit_xor (row_0 j h) (row_1 j h) ∙ cancel (get_or K j 0) (get_or K (16 + j) 0) (step2 Nibble (get_or K (16 + j) 0)))
      ∙ unstep (get_or K (16 + j) 0) (nibble (16 + j))

  word_1 : (j : ℕ) → j < 16 → first S j ≡ get_or K j 0
  word_1 j h = ap₂ bit_xor (row_0 j h) (word_2 j h) ∙ xor_last (get_or K j 0) (get_or K (16 + j) 0)

  rejoined : joined (tab (λ (j : ℕ). get_or K j 0) 0 16 ++ tab (λ (j : ℕ). get_or K (16 + j) 0) 0 16) ≡ key
  unfolding joined
  rejoined = simp (split_join, b.bytes.at) (spelled_all key 16 b.long)

  back_64_192 : key_in N64T192 S ≡ key
  unfolding key_in words_in
  back_64_192 =
      ap joined
      (ap₂ ◌++◌ (tab_same (first S) (λ j. get_or K j 0) 16 0 word_1) (tab_same (second S) (λ j. get_or K (16 + j) 0) 16 0 word_2))
      ∙ rejoined

  back_128_256 : key_in N128T256 (share_of N128T256 key) ≡ key
  unfolding key_in
  back_128_256 =
      tab_same (λ j. get_or (share_of N128T256 key) j 0 % 256) (λ j. get_or key j 0) 16 0
      (λ j h. ap (λ (x : ℕ). x % 256) (first_row key j h) ∙ small (get_or key j 0) (b.bytes.at j))
      ∙ spelled_all key 16 b.long

pub key_back : (c : Cipher) (key : List ℕ) → Block 16 key → key_in c (share_of c key) ≡ key
key_back N64T192 key b = back_64_192 key b
key_back N128T256 key b = back_128_256 key b

-- and it is always sixteen bytes
pub key_block : (c : Cipher) (share : List ℕ) → Block 16 (key_in c share)
unfolding key_in joined
key_block N64T192 s = record {
  long = joined_long (words_in s);
  bytes = record { at = tab_low Byte (λ i. get_or (words_in s) (2 * i) 0 % 16 * 16 + get_or (words_in s) (2 * i + 1) 0 % 16) (λ k. omega arith) 16 0 };
}
key_block N128T256 s = record {
  long = tab_long (λ j. get_or s j 0 % 256) 16 0;
  bytes = record { at = tab_low Byte (λ j. get_or s j 0 % 256) (λ k. omega arith) 16 0 };
}

-- ---- the share that a key gives, judged by its first rows and by how it repeats

-- fifteen steps of word 2 leave a nibble as it was, and so do fifteen steps more
fifteen : (b : ℕ) → b < 16 → times (step2 Nibble) 15 b ≡ b
unfolding step2
fifteen = below.same (times (step2 Nibble) 15) (λ b. b) 16 tt

fifteen_more : (k b : ℕ) → b < 16 → times (step2 Nibble) (15 + k) b ≡ times (step2 Nibble) k b
fifteen_more zero b h = fifteen b h
fifteen_more (suc k) b h = ap (λ (m : ℕ). times (step2 Nibble) m b) (add-suc 15 k) ∙ ap (step2 Nibble) (fifteen_more k b h)

-- so each row of 64-192 is as the one fifteen rows before it ..
again_64_192 : (key : List ℕ) → Block 16 key → (i : ℕ) → i < 544 → get_or (share_of N64T192 key) (240 + i) 0 ≡ get_or (share_of N64T192 key) i 0
again_64_192 key b i h =
    share_at N64T192 (K key b) (240 + i) (15 + i / 16) (i % 16) (omega arith) (omega arith) (omega arith)
    ∙ ap (bit_xor (get_or (K key b) (i % 16) 0)) (fifteen_more (i / 16) (get_or (K key b) (16 + i % 16) 0) (nibble key b (16 + i % 16)))
    ∙ sym (share_at N64T192 (K key b) i (i / 16) (i % 16) (omega arith) refl refl)

-- .. and each of 128-256 as the one before it
again_128_256 : (key : List ℕ) (i : ℕ) → i < 768 → get_or (share_of N128T256 key) (16 + i) 0 ≡ get_or (share_of N128T256 key) i 0
again_128_256 key i h =
    share_at N128T256 (key_cells N128T256 key unmoving) (16 + i) (1 + i / 16) (i % 16) (omega arith) (omega arith) (omega arith)
    ∙ sym (share_at N128T256 (key_cells N128T256 key unmoving) i (i / 16) (i % 16) (omega arith) refl refl)

-- a share of 128-256 begins with the key that is in it
begins : (s : List ℕ) → Bytes s → length s ≡ 784 → take 16 s ≡ take 16 (share_of N128T256 (key_in N128T256 s))
unfolding key_in
begins s b e =
    let S = share_of N128T256 (key_in N128T256 s) in
    let l : length (take 16 s) ≡ 16 = length-take-le 16 s (omega arith) in
    ext_get_or 0 (take 16 s) (take 16 S) (l ∙ sym (length-take-le 16 S (omega (arith, shares_long N128T256 (key_cells N128T256 (key_in N128T256 s) unmoving)))))
    (λ j h. let q : j < 16 = omega (arith, l) in
    get_or-take 16 s j 0 q ∙ sym (small (get_or s j 0) (b.at j)) ∙ sym (table (λ j. get_or s j 0 % 256) 16 j q) ∙ sym (first_row (key_in N128T256 s) j q)
    ∙ sym (get_or-take 16 S j 0 q))

-- fifteen rows laid in a room
module _ (cells d : List ℕ) {again : List ℕ} (laid : again ≡ take 240 (shares_of N64T192 cells) ++ drop 240 d) where
  abbrev front : List ℕ
  front = take 240 (shares_of N64T192 cells)

  front_long : length front ≡ 240
  front_long = length-take-le 240 (shares_of N64T192 cells) (omega (arith, shares_long N64T192 cells))

  pub room_long : 240 ≤ length again
  room_long = omega (arith, front_long, ap length laid ∙ length-append front (drop 240 d))

  rows_front : take 240 again ≡ front
  rows_front = ap (take 240) laid ∙ ap (λ (n : ℕ). take n (front ++ drop 240 d)) (sym front_long) ∙ take-append_seam front (drop 240 d)

-- a and b are what two parts of a share of 64-192 differ in: its first fifteen rows from those made anew, and the others from those fifteen
-- rows before them
pub differs_64_192
    : (s d : List ℕ) (a b : ℕ) {again : List ℕ} → length s ≡ 784 → again ≡ take 240 (share_of N64T192 (key_in N64T192 s)) ++ drop 240 d
    → eqb a 0 ≡ same (take 240 s) (take 240 again) → eqb b 0 ≡ same (take (length s - 240) (drop 240 s)) (take 544 s)
    → eqb (bit_or a b) 0 ≡ same s (share_of N64T192 (key_in N64T192 s))
differs_64_192 s d a b l e p q =
    let k = key_in N64T192 s in
    let cells = key_cells N64T192 k unmoving in
    or_none a b
    ∙ ap₂ ◌&&◌ (p ∙ ap (same (take 240 s)) (rows_front cells d e)) (q ∙ ap (λ (x : List ℕ). same x (take 544 s)) (part_rest 240 s))
    ∙ sym (repeats 240 544 (share_of N64T192 k) (shares_long N64T192 cells) (again_64_192 k (key_block N64T192 s)) s l (omega arith))

-- and of 128-256: every row but the first from the one before it
pub differs_128_256
    : (s : List ℕ) (a : ℕ) → Bytes s → length s ≡ 784 → eqb a 0 ≡ same (take (length s - 16) (drop 16 s)) (take 768 s)
    → eqb a 0 ≡ same s (share_of N128T256 (key_in N128T256 s))
differs_128_256 s a b l q =
    let k = key_in N128T256 s in
    q ∙ ap (λ (x : List ℕ). same x (take 768 s)) (part_rest 16 s)
    ∙ sym (ap (λ (t : Bool). t && same (drop 16 s) (take 768 s)) (same_if (begins s b l)))
    ∙ sym (repeats 16 768 (share_of N128T256 k) (shares_long N128T256 (key_cells N128T256 k unmoving)) (again_128_256 k) s l (omega arith))

-- ---- the check

pub other_cipher : (c : Cipher) (r : Prepared) {n : ℕ} → n ≡ number_of c → (r.cipher ≡ n → ⊥) → false ≡ admitted c r
unfolding admitted
other_cipher c r e d =
    sym (ap (λ (b : Bool). b && (same r.share (share_of c (key_in c r.share)) && same r.tweak unmoving)) (ne_eqb r.cipher (number_of c) (λ p. d (p ∙ sym e))))

pub judged
    : (c : Cipher) (r : Prepared) (a b : ℕ) {n : ℕ} → n ≡ number_of c → r.cipher ≡ n → eqb a 0 ≡ same r.share (share_of c (key_in c r.share))
    → eqb b 0 ≡ same r.tweak unmoving → eqb (bit_or a b) 0 ≡ admitted c r
unfolding admitted
judged c r a b e d p q =
    or_none a b ∙ ap₂ ◌&&◌ p q
    ∙ sym (ap (λ (t : Bool). t && (same r.share (share_of c (key_in c r.share)) && same r.tweak unmoving)) (eq-eqb r.cipher (number_of c) (d ∙ e)))
