-- The steps of words 2 and 3 are linear over the exclusive or of cells, over the width: for the step of word 2 from its bits, and for that
-- of word 3 because it undoes the other. Assumes nothing.
use mathlib.Core.Path.{◌≡◌, refl, sym, ap, ap₂, ◌∙◌}
use Prim.Native.Nat.{ℕ, zero, suc, ◌+◌, ◌*◌, ◌/◌, ◌%◌, ◌^◌, ◌<◌}
use native.Mathlib.Nat.{mod-lt, zero-lt-suc}
use native.Mathlib.Omega.{arith}
use lib.Bits.{bit_xor, xor_comm, xor_block, xor_shr, xor_mod}
use Rattle.cells.specs.Cells.{Width, Nibble, Byte, Words, Two, Three, size, bit, step2, step3}
use Rattle.cells.proofs.Laws.{step2_law, step3_law, xor_low}
use Rattle.cells.proofs.Xor.{xor_assoc}
use Rattle.schedule.specs.Sixteen.{times}
use Rattle.schedule.specs.Share.{tweak_step}

-- ---- bits

-- the inner two of four change places
medial : (p q r s : ℕ) → bit_xor (bit_xor p q) (bit_xor r s) ≡ bit_xor (bit_xor p r) (bit_xor q s)
medial p q r s =
    xor_assoc p q (bit_xor r s)
    ∙ ap (bit_xor p) (sym (xor_assoc q r s) ∙ ap (λ (x : ℕ). bit_xor x s) (xor_comm q r) ∙ xor_assoc r q s)
    ∙ sym (xor_assoc p r (bit_xor q s))

bit_of_xor : (a b k : ℕ) → bit (bit_xor a b) k ≡ bit_xor (bit a k) (bit b k)
bit_of_xor a b k = ap (λ (x : ℕ). x % 2 ^ 1) (xor_shr a b k) ∙ xor_mod (a / 2 ^ k) (b / 2 ^ k) 1

-- two bits added
add_bits : (p q : ℕ) → p < 2 → q < 2 → (p + q) % 2 ≡ bit_xor p q
add_bits zero zero h l = refl
add_bits zero (suc zero) h l = refl
add_bits (suc zero) zero h l = refl
add_bits (suc zero) (suc zero) h l = refl
add_bits zero (suc (suc q)) h l = absurd (omega arith)
add_bits (suc zero) (suc (suc q)) h l = absurd (omega arith)
add_bits (suc (suc p)) q h l = absurd (omega arith)

odd : (x : ℕ) → x % 2 < 2
odd x = mod-lt x (zero-lt-suc 1)

-- bits i and j added
abbrev sum : ℕ → ℕ → ℕ → ℕ
sum i j x = (bit x i + bit x j) % 2

sum_xor : (i j a b : ℕ) → sum i j (bit_xor a b) ≡ bit_xor (sum i j a) (sum i j b)
sum_xor i j a b =
    add_bits (bit (bit_xor a b) i) (bit (bit_xor a b) j) (odd _) (odd _)
    ∙ ap₂ bit_xor (bit_of_xor a b i) (bit_of_xor a b j)
    ∙ medial (bit a i) (bit b i) (bit a j) (bit b j)
    ∙ sym (ap₂ bit_xor (add_bits (bit a i) (bit a j) (odd _) (odd _)) (add_bits (bit b i) (bit b j) (odd _) (odd _)))

-- ---- steps

-- a shift to the left, with a sum of two bits behind
shift_xor
    : (k i j a b : ℕ)
    → bit_xor a b % 2 ^ k * 2 ^ 1 + sum i j (bit_xor a b) ≡ bit_xor (a % 2 ^ k * 2 ^ 1 + sum i j a) (b % 2 ^ k * 2 ^ 1 + sum i j b)
shift_xor k i j a b =
    ap₂ (λ (x y : ℕ). x * 2 ^ 1 + y) (xor_mod a b k) (sum_xor i j a b)
    ∙ sym (xor_block 1 (a % 2 ^ k) (b % 2 ^ k) (sum i j a) (sum i j b) (odd _) (odd _))

step2_xor : (w : Width) (a b : ℕ) → step2 w (bit_xor a b) ≡ bit_xor (step2 w a) (step2 w b)
unfolding step2
step2_xor Nibble = shift_xor 3 3 2
step2_xor Byte = shift_xor 7 7 5

module _ (w : Width) where
  step3_xor : (a b : ℕ) → a < size w → b < size w → step3 w (bit_xor a b) ≡ bit_xor (step3 w a) (step3 w b)
  step3_xor a b p q =
      sym (ap (step3 w) (step2_xor w (step3 w a) (step3 w b) ∙ ap₂ bit_xor ((step3_law w).back a p) ((step3_law w).back b q)))
      ∙ (step2_law w).back _ (xor_low w _ _ ((step3_law w).low a p) ((step3_law w).low b q))

  tweak_xor : (n : Words) (a b : ℕ) → a < size w → b < size w → tweak_step w n (bit_xor a b) ≡ bit_xor (tweak_step w n a) (tweak_step w n b)
  tweak_xor Two a b p q = step2_xor w a b
  tweak_xor Three a b p q = step3_xor a b p q

  tweak_low : (n : Words) (a : ℕ) → a < size w → tweak_step w n a < size w
  tweak_low Two = (step2_law w).low
  tweak_low Three = (step3_law w).low

  times_low : (n : Words) (k a : ℕ) → a < size w → times (tweak_step w n) k a < size w
  times_low n zero a h = h
  times_low n (suc k) a h = tweak_low n _ (times_low n k a h)

  -- so many steps
  pub times_xor
      : (n : Words) (k a b : ℕ) → a < size w → b < size w
      → times (tweak_step w n) k (bit_xor a b) ≡ bit_xor (times (tweak_step w n) k a) (times (tweak_step w n) k b)
  times_xor n zero a b p q = refl
  times_xor n (suc k) a b p q = ap (tweak_step w n) (times_xor n k a b p q) ∙ tweak_xor n _ _ (times_low n k a p) (times_low n k b q)
