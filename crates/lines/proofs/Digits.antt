-- The texts of a line, place by place.
--     most_digits, field_*   a number and a space, from what `io::decimal` answers
--     ended, ended-*         bytes in hex and the line's end
--     output_none, _some     what an output is where there are no bytes, and where there are
-- Assumes nothing.
use mathlib.Core.Path.{◌≡◌, refl, sym, ap, ◌∙◌}
use mathlib.Core.List.{List, [], ◌∷◌, ◌++◌, append_assoc}
use Prim.Native.Nat.{ℕ, zero, suc, ◌+◌, ◌-◌, ◌/◌, ◌%◌, ◌^◌, ◌≤◌, ◌<◌}
use native.Mathlib.Nat.{not-suc-le-zero, le_of_suc-le-suc, one-le-pow, pow-succ', pow-le-pow_right, mod-eq_of_lt}
use native.Mathlib.Numerals.{add-one}
use native.Mathlib.Omega.{arith}
use borrow.Author.Tests.{lt-ltb, le-ltb}
use lib.ListN.{length, set, take, drop, get_or, length-append}
use lib.Seq.{get_or_at, set_at, drop-cons}
use Rattle.io.specs.Counts.{IsPrefixLen}
use Rattle.io.specs.Digits.{last_digits, IsDigitCount, hex_digit_ascii}
use Rattle.lines.specs.Line.{digits_of, decimal_of, field_of, hex_of, output_of}

-- the fewest digits are those with no zeros in front
same_digits : (k f n : ℕ) → k ≤ f → IsDigitCount 10 1 n k → last_digits 10 k n ≡ digits_of f n
unfolding digits_of
same_digits zero f n h (some, most, least) = absurd (not-suc-le-zero some)
same_digits (suc k) zero n h w = absurd (not-suc-le-zero h)
same_digits (suc zero) (suc f) n h (some, most, least) = rw (mod-eq_of_lt most, lt-ltb n 10 most)
same_digits (suc (suc k)) (suc f) n h (some, most, least) =
    let a = pow-succ' 10 (suc k) in
    let b = pow-succ' 10 k in
    let e : suc (suc k) - 1 ≡ suc k = omega arith in
    let m : 10 ^ suc k ≤ n = rw e at (least (omega arith)) in
    let g : 10 ≤ n = omega (arith, one-le-pow k 10 (omega arith)) in
    let d : suc k - 1 ≡ k = omega arith in
    let w : IsDigitCount 10 1 (n / 10) (suc k) = (omega arith, omega arith, λ t. rw d (omega arith)) in
    rw (le-ltb n 10 g, same_digits (suc k) f (n / 10) (le_of_suc-le-suc h) w)

-- twenty digits hold 64 bits
pub most_digits : (n k : ℕ) → n < 2 ^ 64 → IsDigitCount 10 1 n k → k ≤ 20
most_digits n k h (some, most, least) =
    let m : 20 < k → 10 ^ 20 ≤ 10 ^ (k - 1) = λ t. pow-le-pow_right {n = 10} (omega arith) {i = 20} (omega arith) in
    let few : ¬ (20 < k) = λ t. omega (arith, m t, least (omega arith)) in
    omega arith

-- what `io::decimal` answers of n: k, and d with k digits at its front
abbrev pub Told : ℕ → ℕ → List ℕ → Type 0
Told n k d = IsPrefixLen k d × (IsDigitCount 10 1 n k × (take k d ≡ last_digits 10 k n))

module _ (n k : ℕ) (d : List ℕ) (most : k ≤ 20) (told : Told n k d) where
  spelled : take k d ≡ decimal_of n
  spelled = told.1.1 ∙ same_digits k 20 n most told.1.0

  long : length (decimal_of n) ≡ k
  long = sym (ap length spelled) ∙ sym told.0.1

  pub field_length : length (field_of n) ≡ k + 1
  field_length = length-append (decimal_of n) (32 ∷ []) ∙ rw long

  -- the digits and a space at the front of a text, the digits copied first
  pub field_laid : {s : List ℕ} (text : List ℕ) → s ≡ take k d → k < length text → set (s ++ drop k text) k 32 ≡ field_of n ++ drop (k + 1) text
  field_laid {s} text e h =
      rw (e ∙ spelled, drop-cons text k 0 h, add-one)
      (set_at (decimal_of n) (get_or text k 0) (drop (suc k) text) 32 k long ∙ sym (append_assoc (decimal_of n) (32 ∷ []) (drop (suc k) text)))

hex_length : (bs : List ℕ) → length (hex_of bs) ≡ length bs + length bs
unfolding hex_of
hex_length [] = refl
hex_length (b ∷ bs) = omega (arith, hex_length bs)

-- bytes in hex, and the line's end
abbrev pub ended : List ℕ → List ℕ
ended bs = hex_of bs ++ (10 ∷ [])

pub ended_length : (bs : List ℕ) → length (ended bs) ≡ length bs + length bs + 1
ended_length bs = length-append (hex_of bs) (10 ∷ []) ∙ rw (hex_length bs)

-- the two digits of the i-th byte
pub ended_at
    : (bs : List ℕ) (i k : ℕ) → i < length bs → k ≡ i + i
    → (hex_digit_ascii (get_or bs i 0 / 16) ≡ get_or (ended bs) k 0) × (hex_digit_ascii (get_or bs i 0 % 16) ≡ get_or (ended bs) (k + 1) 0)
unfolding hex_of
ended_at [] i k h e = absurd (not-suc-le-zero h)
ended_at (b ∷ bs) zero k h e = rw e (refl, refl)
ended_at (b ∷ bs) (suc i) k h e =
    let f : k ≡ suc (suc (i + i)) = omega arith in
    let g : k + 1 ≡ suc (suc (i + i + 1)) = omega arith in
    rw (g, f) (ended_at bs i (i + i) (le_of_suc-le-suc h) refl)

pub ended_end : (bs : List ℕ) (k : ℕ) → k ≡ length bs + length bs → 10 ≡ get_or (ended bs) k 0
ended_end bs k e = sym (get_or_at (hex_of bs) 10 [] 0 k (hex_length bs ∙ sym e))

pub output_none : (bs : List ℕ) → length bs ≡ 0 → output_of bs ≡ 45 ∷ 10 ∷ []
unfolding output_of
output_none [] e = refl
output_none (b ∷ bs) e = absurd (omega arith)

pub output_some : (bs : List ℕ) → (length bs ≡ 0 → ⊥) → output_of bs ≡ ended bs
unfolding output_of
output_some [] h = absurd (h refl)
output_some (b ∷ bs) h = refl
