-- A row in a word: four bytes put together, a word rotated, words xored. Assumes nothing.
use mathlib.Core.Path.{◌≡◌, refl, ap, ◌∙◌}
use Prim.Native.Nat.{ℕ, ◌+◌, ◌*◌, ◌/◌, ◌%◌, ◌<◌}
use native.Mathlib.Omega.{arith}
use lib.Arith.{mod-mul}
use lib.ListN.{get_or}
use mathlib.Core.List.{List}
use lib.Bits.{bit_xor, bit_or, or_shifted}
use Rattle.std.specs.Int.{w32, rotate_left, rotate_right, from_le_bytes, to_le_bytes}
use Rattle.std.proofs.lemmas.Nat.{or_comm}
use Rattle.cells.specs.Words.{lane, not8}
use Rattle.cells.proofs.Lanes.{lane_lt, lane_xor}
use Rattle.cells.proofs.Xor.{xor_last}
use Rattle.rounds.specs.State.{four, row}

fours : {a b c d a' b' c' d' : ℕ} → a ≡ a' → b ≡ b' → c ≡ c' → d ≡ d' → four a b c d ≡ four a' b' c' d'
fours p q r s = λ i. four (p i) (q i) (r i) (s i)

-- ---- four bytes put together

row_of_sum : (a b c d : ℕ) → a < 256 → b < 256 → c < 256 → d < 256 → row (lane (d * 16777216 + (c * 65536 + (b * 256 + a)))) ≡ four a b c d
row_of_sum a b c d ha hb hc hd = fours (omega arith) (omega arith) (omega arith) (omega arith)

pub bytes_row : (r : List ℕ) → ((j : ℕ) → get_or r j 0 < 256) → row (lane (from_le_bytes w32 r)) ≡ row (λ j. get_or r j 0)
bytes_row r h =
    let a = get_or r 0 0 in
    let b = get_or r 1 0 in
    let c = get_or r 2 0 in
    let d = get_or r 3 0 in
    let e : from_le_bytes w32 r ≡ d * 16777216 + (c * 65536 + (b * 256 + a)) = omega arith in
    ap (λ (x : ℕ). row (lane x)) e ∙ row_of_sum a b c d (h 0) (h 1) (h 2) (h 3)

-- ---- a word rotated

sum_of_row : (x : ℕ) → x < 4294967296 → x ≡ lane x 3 * 16777216 + (lane x 2 * 65536 + (lane x 1 * 256 + lane x 0))
sum_of_row x h =
    let whole : x ≡ x % 4294967296 = omega arith in
    let last : x % 256 ≡ lane x 0 = omega arith in
    let p : x % 4294967296 ≡ lane x 3 * 16777216 + x % 16777216 = mod-mul x (omega arith) (omega arith) in
    let q : x % 16777216 ≡ lane x 2 * 65536 + x % 65536 = mod-mul x (omega arith) (omega arith) in
    let r : x % 65536 ≡ lane x 1 * 256 + x % 256 = mod-mul x (omega arith) (omega arith) in
    whole ∙ p ∙ (λ i. lane x 3 * 16777216 + q i) ∙ (λ i. lane x 3 * 16777216 + (lane x 2 * 65536 + r i))
    ∙ (λ i. lane x 3 * 16777216 + (lane x 2 * 65536 + (lane x 1 * 256 + last i)))

-- what rotating makes of a word of these bytes
module _ (x a b c d : ℕ) (e : x ≡ d * 16777216 + (c * 65536 + (b * 256 + a))) (ha : a < 256) (hb : b < 256) (hc : c < 256) (hd : d < 256) where
  turned_1 : row (lane (bit_or (x * 256 % 4294967296) (x / 16777216))) ≡ four d a b c
  turned_1 =
      let l : x * 256 % 4294967296 ≡ (c * 65536 + (b * 256 + a)) * 256 = omega arith in
      let r : x / 16777216 ≡ d = omega arith in
      let z : (c * 65536 + (b * 256 + a)) * 256 + d ≡ c * 16777216 + (b * 65536 + (a * 256 + d)) = omega arith in
      (λ i. row (lane (bit_or (l i) (r i)))) ∙ ap (λ (y : ℕ). row (lane y)) (or_shifted (c * 65536 + (b * 256 + a)) 8 d hd ∙ z) ∙ row_of_sum d a b c hd ha hb hc

  turned_2 : row (lane (bit_or (x * 65536 % 4294967296) (x / 65536))) ≡ four c d a b
  turned_2 =
      let l : x * 65536 % 4294967296 ≡ (b * 256 + a) * 65536 = omega arith in
      let r : x / 65536 ≡ d * 256 + c = omega arith in
      let z : (b * 256 + a) * 65536 + (d * 256 + c) ≡ b * 16777216 + (a * 65536 + (d * 256 + c)) = omega arith in
      (λ i. row (lane (bit_or (l i) (r i)))) ∙ ap (λ (y : ℕ). row (lane y)) (or_shifted (b * 256 + a) 16 (d * 256 + c) (omega arith) ∙ z) ∙ row_of_sum c d a b hc hd ha hb

  turned_3 : row (lane (bit_or (x * 16777216 % 4294967296) (x / 256))) ≡ four b c d a
  turned_3 =
      let l : x * 16777216 % 4294967296 ≡ a * 16777216 = omega arith in
      let r : x / 256 ≡ d * 65536 + (c * 256 + b) = omega arith in
      (λ i. row (lane (bit_or (l i) (r i)))) ∙ ap (λ (y : ℕ). row (lane y)) (or_shifted a 24 (d * 65536 + (c * 256 + b)) (omega arith)) ∙ row_of_sum b c d a hb hc hd ha

module _ (x y : ℕ) (h : x < 4294967296) where
  pub turned_left_1 : y ≡ rotate_left w32 x 8 → row (lane y) ≡ four (lane x 3) (lane x 0) (lane x 1) (lane x 2)
  turned_left_1 e = ap (λ (z : ℕ). row (lane z)) e ∙ turned_1 x _ _ _ _ (sum_of_row x h) (lane_lt x 0) (lane_lt x 1) (lane_lt x 2) (lane_lt x 3)

  pub turned_left_2 : y ≡ rotate_left w32 x 16 → row (lane y) ≡ four (lane x 2) (lane x 3) (lane x 0) (lane x 1)
  turned_left_2 e = ap (λ (z : ℕ). row (lane z)) e ∙ turned_2 x _ _ _ _ (sum_of_row x h) (lane_lt x 0) (lane_lt x 1) (lane_lt x 2) (lane_lt x 3)

  pub turned_left_3 : y ≡ rotate_left w32 x 24 → row (lane y) ≡ four (lane x 1) (lane x 2) (lane x 3) (lane x 0)
  turned_left_3 e = ap (λ (z : ℕ). row (lane z)) e ∙ turned_3 x _ _ _ _ (sum_of_row x h) (lane_lt x 0) (lane_lt x 1) (lane_lt x 2) (lane_lt x 3)

  -- to the right by as much as is left
  pub turned_right_1 : y ≡ rotate_right w32 x 8 → row (lane y) ≡ four (lane x 1) (lane x 2) (lane x 3) (lane x 0)
  turned_right_1 e = turned_left_3 (e ∙ or_comm (x / 256) (x * 16777216 % 4294967296))

  pub turned_right_2 : y ≡ rotate_right w32 x 16 → row (lane y) ≡ four (lane x 2) (lane x 3) (lane x 0) (lane x 1)
  turned_right_2 e = turned_left_2 (e ∙ or_comm (x / 65536) (x * 65536 % 4294967296))

  pub turned_right_3 : y ≡ rotate_right w32 x 24 → row (lane y) ≡ four (lane x 3) (lane x 0) (lane x 1) (lane x 2)
  turned_right_3 e = turned_left_1 (e ∙ or_comm (x / 16777216) (x * 256 % 4294967296))

-- ---- a row held by its complements

turned_over : (x j : ℕ) → lane 4294967295 j ≡ 255 → lane (bit_xor x 4294967295) j ≡ not8 (lane x j)
turned_over x j e = lane_xor x 4294967295 j ∙ ap (bit_xor (lane x j)) e

-- the bytes of the word turned over
pub bytes_over : (x : ℕ) → to_le_bytes w32 (bit_xor x 4294967295) ≡ row (λ j. not8 (lane x j))
bytes_over x =
    let y = bit_xor x 4294967295 in
    let first : y % 256 ≡ lane y 0 = omega arith in
    fours (first ∙ turned_over x 0 refl) (turned_over x 1 refl) (turned_over x 2 refl) (turned_over x 3 refl)

pub held_row
    : (x : ℕ) (r : List ℕ) → row (lane x) ≡ row (λ j. get_or r j 0)
    → row (λ j. not8 (lane (bit_xor x 4294967295) j)) ≡ row (λ j. get_or r j 0)
held_row x r e = fours (back 0 refl) (back 1 refl) (back 2 refl) (back 3 refl) ∙ e where
  back : (j : ℕ) → lane 4294967295 j ≡ 255 → not8 (lane (bit_xor x 4294967295) j) ≡ lane x j
  back j e = ap not8 (turned_over x j e) ∙ xor_last (lane x j) 255

-- ---- two rows of nibbles in one, the second in the high nibbles

-- a word of nibbles, each four bits higher
module _ (y a b c d : ℕ) (e : y ≡ d * 16777216 + (c * 65536 + (b * 256 + a))) (ha : a < 16) (hb : b < 16) (hc : c < 16) (hd : d < 16) where
  higher : row (lane (y * 16 % 4294967296)) ≡ four (a * 16) (b * 16) (c * 16) (d * 16)
  higher =
      let z : y * 16 % 4294967296 ≡ d * 16 * 16777216 + (c * 16 * 65536 + (b * 16 * 256 + a * 16)) = omega arith in
      ap (λ (x : ℕ). row (lane x)) z ∙ row_of_sum (a * 16) (b * 16) (c * 16) (d * 16) (omega arith) (omega arith) (omega arith) (omega arith)

pub pair_row_lem
    : (x y : ℕ) (t u : ℕ → ℕ) → y < 4294967296 → row (lane x) ≡ row t → row (lane y) ≡ row u → ((k : ℕ) → u k < 16)
    → row (lane (bit_xor x (y * 16 % 4294967296))) ≡ row (λ j. bit_xor (t j) (u j * 16))
pair_row_lem x y t u h p q l =
    fours (cell 0) (cell 1) (cell 2) (cell 3)
    ∙ (λ i. four (bit_xor (get_or (p i) 0 0) (get_or (up i) 0 0)) (bit_xor (get_or (p i) 1 0) (get_or (up i) 1 0)) (bit_xor (get_or (p i) 2 0) (get_or (up i) 2 0)) (bit_xor (get_or (p i) 3 0) (get_or (up i) 3 0)))
  where
    sum : y ≡ u 3 * 16777216 + (u 2 * 65536 + (u 1 * 256 + u 0))
    sum = sum_of_row y h ∙ (λ i. get_or (q i) 3 0 * 16777216 + (get_or (q i) 2 0 * 65536 + (get_or (q i) 1 0 * 256 + get_or (q i) 0 0)))

    up : row (lane (y * 16 % 4294967296)) ≡ row (λ j. u j * 16)
    up = higher y (u 0) (u 1) (u 2) (u 3) sum (l 0) (l 1) (l 2) (l 3)

    cell : (j : ℕ) → lane (bit_xor x (y * 16 % 4294967296)) j ≡ bit_xor (lane x j) (lane (y * 16 % 4294967296) j)
    cell j = lane_xor x (y * 16 % 4294967296) j
