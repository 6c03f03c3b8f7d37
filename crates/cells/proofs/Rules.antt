-- Formulas of shifts, masks and bit operations, which a word of four bytes can follow as one byte does: such a formula does to each byte of
-- a word what it does to that byte alone (`lanes`), so that a function on words is proved by one computed test over all bytes (`each`).
-- Assumes nothing.
use mathlib.Core.Path.{◌≡◌, refl, sym, ap, ap₂, ◌∙◌, subst, subst⁻¹}
use mathlib.Core.Bool.{Bool, true}
use Prim.Native.Nat.{ℕ, ◌*◌, ◌/◌, ◌%◌, ◌^◌, ◌<◌}
use lib.Dec.{T, eqb, eqb→eq, ltb, ltb→lt}
use lib.Bits.{bit_and, bit_or, bit_xor}
use Rattle.cells.specs.Words.{lane, not8, Each}
use Rattle.cells.proofs.Below.{both, both_left, both_right, every, equals, same}
use Rattle.cells.proofs.Lanes.{and_both, spread, lane_lt, lane_and, lane_or, lane_xor, lane_spread, lane_right, lane_left}

-- x, the bits m of x, these of x after a shift by s, and these of two shifts to the left, `(x << s) & (x << t) & m`
pub data Rule : Type 0 where
  whole : Rule
  bits : ℕ → Rule
  right : ℕ → ℕ → Rule
  left : ℕ → ℕ → Rule
  lefts : ℕ → ℕ → ℕ → Rule
  ◌and◌ : Rule → Rule → Rule
  ◌xor◌ : Rule → Rule → Rule
  ◌or◌ : Rule → Rule → Rule
  ◌then◌ : Rule → Rule → Rule

infixl 60 ◌and◌
infixl 50 ◌xor◌
infixl 40 ◌or◌
infixl 30 ◌then◌
-- the formula on numbers of w bits, with the masks u m
abbrev run : ℕ → (ℕ → ℕ) → Rule → ℕ → ℕ
run w u whole x = x
run w u (bits m) x = bit_and x (u m)
run w u (right s m) x = bit_and (x / 2 ^ s) (u m)
run w u (left s m) x = bit_and (x * 2 ^ s % 2 ^ w) (u m)
run w u (lefts s t m) x = bit_and (bit_and (x * 2 ^ s % 2 ^ w) (x * 2 ^ t % 2 ^ w)) (u m)
run w u (p and q) x = bit_and (run w u p x) (run w u q x)
run w u (p xor q) x = bit_xor (run w u p x) (run w u q x)
run w u (p or q) x = bit_or (run w u p x) (run w u q x)
run w u (p then q) x = run w u q (run w u p x)

abbrev pub on_byte : Rule → ℕ → ℕ
on_byte = run 8 (λ m. m)

abbrev pub on_word : Rule → ℕ → ℕ
on_word = run 32 spread

-- m is a byte whose s low bits are 0
abbrev above : ℕ → ℕ → Bool
above s m = both (ltb m 256) (eqb (m / 2 ^ s * 2 ^ s) m)

-- no mask lets a bit pass that has come from the byte beside
abbrev pub fits : Rule → Bool
fits whole = true
fits (bits m) = ltb m 256
fits (right s m) = ltb (m * 2 ^ s) 256
fits (left s m) = above s m
fits (lefts s t m) = both (above s m) (above t m)
fits (p and q) = both (fits p) (fits q)
fits (p xor q) = both (fits p) (fits q)
fits (p or q) = both (fits p) (fits q)
fits (p then q) = both (fits p) (fits q)

-- F does to each byte of a word what f does to the byte
abbrev Lanewise : (ℕ → ℕ) → (ℕ → ℕ) → Type 0
Lanewise F f = (x j : ℕ) → j < 4 → lane (F x) j ≡ f (lane x j)

up : (s m : ℕ) → T (above s m) → Lanewise (on_word (left s m)) (on_byte (left s m))
up s m t x j h =
    let e = eqb→eq (m / 2 ^ s * 2 ^ s) m (both_right (ltb m 256) (eqb (m / 2 ^ s * 2 ^ s) m) t) in
    let l = ltb→lt m 256 (both_left (ltb m 256) (eqb (m / 2 ^ s * 2 ^ s) m) t) in
    subst (λ (n : ℕ). lane (on_word (left s n) x) j ≡ on_byte (left s n) (lane x j)) e
    (lane_left x s (m / 2 ^ s) j (subst⁻¹ (λ (n : ℕ). n < 256) e l) h)

lanes : (r : Rule) → T (fits r) → Lanewise (on_word r) (on_byte r)
lanes whole t x j h = refl
lanes (bits m) t x j h = lane_and x (spread m) j ∙ ap (bit_and (lane x j)) (lane_spread m j (ltb→lt m 256 t) h)
lanes (right s m) t x j h = lane_right x s m j (ltb→lt (m * 2 ^ s) 256 t) h
lanes (left s m) t x j h = up s m t x j h
lanes (lefts s t m) e x j h =
    ap (λ (y : ℕ). lane y j) (and_both (x * 2 ^ s % 2 ^ 32) (x * 2 ^ t % 2 ^ 32) (spread m))
    ∙ lane_and (on_word (left s m) x) (on_word (left t m) x) j
    ∙ ap₂ bit_and (up s m (both_left (above s m) (above t m) e) x j h) (up t m (both_right (above s m) (above t m) e) x j h)
    ∙ sym (and_both (lane x j * 2 ^ s % 2 ^ 8) (lane x j * 2 ^ t % 2 ^ 8) m)
lanes (p and q) t x j h =
    lane_and (on_word p x) (on_word q x) j
    ∙ ap₂ bit_and (lanes p (both_left (fits p) (fits q) t) x j h) (lanes q (both_right (fits p) (fits q) t) x j h)
lanes (p xor q) t x j h =
    lane_xor (on_word p x) (on_word q x) j
    ∙ ap₂ bit_xor (lanes p (both_left (fits p) (fits q) t) x j h) (lanes q (both_right (fits p) (fits q) t) x j h)
lanes (p or q) t x j h =
    lane_or (on_word p x) (on_word q x) j
    ∙ ap₂ bit_or (lanes p (both_left (fits p) (fits q) t) x j h) (lanes q (both_right (fits p) (fits q) t) x j h)
lanes (p then q) t x j h =
    lanes q (both_right (fits p) (fits q) t) (on_word p x) j h ∙ ap (on_byte q) (lanes p (both_left (fits p) (fits q) t) x j h)

-- the two tests are computed
pub each : (f : ℕ → ℕ) (r : Rule) → T (fits r) → T (every (equals (on_byte r) (λ b. not8 (f (not8 b)))) 0 256) → (x : ℕ) → Each f x (on_word r x)
each f r t e x = record { at = λ j h. lanes r t x j h ∙ same (on_byte r) (λ b. not8 (f (not8 b))) 256 e (lane x j) (lane_lt x j) }
