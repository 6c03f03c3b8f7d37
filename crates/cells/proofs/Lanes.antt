-- The laws of the four bytes of a word: the bit operations work on each byte apart, and so does a shift under a mask that leaves out what
-- comes from the byte beside it. Assumes nothing.
use mathlib.Core.Path.{◌≡◌, refl, sym, ap, ap₂, ◌∙◌}
use Prim.Native.Nat.{ℕ, zero, suc, ◌+◌, ◌*◌, ◌/◌, ◌%◌, ◌^◌, ◌<◌, min}
use native.Mathlib.Nat.{mod-lt, mod-eq_of_lt, lt_of_le_of_lt, le-mul_of_pos_right, add_comm, add-zero, zero-lt-suc, min-le_left}
use native.Mathlib.Omega.{arith}
use lib.Arith.{bin_ind, digits_mod}
use lib.Bits.{bit_and, bit_or, bit_xor, and_step, and_shr, or_shr, xor_shr, and_mod, or_mod, xor_mod, and_le_r, and_block, and_zero_r}
use lib.Pow.{pow_pos, split, shl-shr, shr-shr}
use Rattle.cells.specs.Words.{lane}
use Rattle.cells.proofs.Below.{every, equals, below, same}

-- ---- more laws of `and`

-- a mask below 2 ^ k sees only the k low digits
and_low : (k a m : ℕ) → m < 2 ^ k → bit_and (a % 2 ^ k) m ≡ bit_and a m
and_low k a m h =
    ap (bit_and (a % 2 ^ k)) (sym (mod-eq_of_lt h)) ∙ sym (and_mod a m k) ∙ mod-eq_of_lt (lt_of_le_of_lt (and_le_r a m) h)

-- a mask with its s low digits 0 takes what stands s digits up
and_up : (a s m : ℕ) → bit_and a (m * 2 ^ s) ≡ bit_and (a / 2 ^ s) m * 2 ^ s
and_up a s m =
    ap₂ bit_and (sym (split a s)) (sym (add-zero (m * 2 ^ s)))
    ∙ and_block s (a / 2 ^ s) m (a % 2 ^ s) 0 (mod-lt a (pow_pos s)) (pow_pos s)
    ∙ ap (λ (x : ℕ). bit_and (a / 2 ^ s) m * 2 ^ s + x) (and_zero_r (a % 2 ^ s))
    ∙ add-zero (bit_and (a / 2 ^ s) m * 2 ^ s)

-- and the other way: the mask may be laid on before the shift
and_down : (a s m : ℕ) → bit_and (a / 2 ^ s) m ≡ bit_and a (m * 2 ^ s) / 2 ^ s
and_down a s m = sym (ap (λ (x : ℕ). x / 2 ^ s) (and_up a s m) ∙ shl-shr (bit_and (a / 2 ^ s) m) s)

and_odd : (a b : ℕ) → bit_and a b % 2 ≡ min (a % 2) (b % 2)
and_odd a b =
    ap (λ (x : ℕ). x % 2) (and_step a b)
    ∙ digits_mod (bit_and (a / 2) (b / 2)) (lt_of_le_of_lt (min-le_left (a % 2) (b % 2)) (mod-lt a (zero-lt-suc 1)))

min_both : (a b m : ℕ) → min (min a b) m ≡ min (min a m) (min b m)
min_both a b m = omega arith

-- a mask goes in to both sides
pub and_both : (a b m : ℕ) → bit_and (bit_and a b) m ≡ bit_and (bit_and a m) (bit_and b m)
and_both =
    bin_ind (λ (a : ℕ). (b m : ℕ) → bit_and (bit_and a b) m ≡ bit_and (bit_and a m) (bit_and b m)) (λ b m. refl)
    (λ a ih b m. and_step (bit_and a b) m
    ∙ ap₂ (λ (x y : ℕ). x * 2 + y)
    (ap (λ (x : ℕ). bit_and x (m / 2)) (and_shr a b 1) ∙ ih (b / 2) (m / 2) ∙ ap₂ bit_and (sym (and_shr a m 1)) (sym (and_shr b m 1)))
    (ap (λ (x : ℕ). min x (m % 2)) (and_odd a b) ∙ min_both (a % 2) (b % 2) (m % 2) ∙ ap₂ min (sym (and_odd a m)) (sym (and_odd b m)))
    ∙ sym (and_step (bit_and a m) (bit_and b m)))

-- ---- a byte of a word

pub lane_lt : (x j : ℕ) → lane x j < 256
lane_lt x j = mod-lt (x / 2 ^ (8 * j)) (pow_pos 8)

pub lane_and : (x y j : ℕ) → lane (bit_and x y) j ≡ bit_and (lane x j) (lane y j)
lane_and x y j = ap (λ (z : ℕ). z % 2 ^ 8) (and_shr x y (8 * j)) ∙ and_mod (x / 2 ^ (8 * j)) (y / 2 ^ (8 * j)) 8

pub lane_or : (x y j : ℕ) → lane (bit_or x y) j ≡ bit_or (lane x j) (lane y j)
lane_or x y j = ap (λ (z : ℕ). z % 2 ^ 8) (or_shr x y (8 * j)) ∙ or_mod (x / 2 ^ (8 * j)) (y / 2 ^ (8 * j)) 8

pub lane_xor : (x y j : ℕ) → lane (bit_xor x y) j ≡ bit_xor (lane x j) (lane y j)
lane_xor x y j = ap (λ (z : ℕ). z % 2 ^ 8) (xor_shr x y (8 * j)) ∙ xor_mod (x / 2 ^ (8 * j)) (y / 2 ^ (8 * j)) 8

-- what a shift leaves in the 32 bits of a word
lane_low : (x j : ℕ) → j < 4 → lane (x % 2 ^ 32) j ≡ lane x j
lane_low x zero h = omega arith
lane_low x (suc zero) h = omega arith
lane_low x (suc (suc zero)) h = omega arith
lane_low x (suc (suc (suc zero))) h = omega arith
lane_low x (suc (suc (suc (suc j)))) h = absurd (omega arith)

-- the byte m four times
abbrev pub spread : ℕ → ℕ
spread m = m * 0x01010101

pub lane_spread : (m j : ℕ) → m < 256 → j < 4 → lane (spread m) j ≡ m
lane_spread m j l h =
    same (λ (n : ℕ). lane (spread n) j) (λ n. n) 256
    (below (λ (i : ℕ). every (equals (λ n. lane (spread n) i) (λ n. n)) 0 256) 4 tt j h) m l

-- ---- shifts under a mask

-- two shifts to the right in either order
shr_comm : (x s t : ℕ) → x / 2 ^ s / 2 ^ t ≡ x / 2 ^ t / 2 ^ s
shr_comm x s t = shr-shr x s t ∙ ap (λ (n : ℕ). x / 2 ^ n) (add_comm s t) ∙ sym (shr-shr x t s)

module _ (x s m j : ℕ) (fits : m * 2 ^ s < 256) (h : j < 4) where
  narrow : m < 256
  narrow = lt_of_le_of_lt (le-mul_of_pos_right m (pow_pos s)) fits

  pub lane_right : lane (bit_and (x / 2 ^ s) (spread m)) j ≡ bit_and (lane x j / 2 ^ s) m
  lane_right =
      lane_and (x / 2 ^ s) (spread m) j
      ∙ ap (bit_and (lane (x / 2 ^ s) j)) (lane_spread m j narrow h)
      ∙ and_low 8 (x / 2 ^ s / 2 ^ (8 * j)) m narrow
      ∙ ap (λ (y : ℕ). bit_and y m) (shr_comm x s (8 * j))
      ∙ and_down (x / 2 ^ (8 * j)) s m
      ∙ ap (λ (y : ℕ). y / 2 ^ s) (sym (and_low 8 (x / 2 ^ (8 * j)) (m * 2 ^ s) fits))
      ∙ sym (and_down (lane x j) s m)

  pub lane_left : lane (bit_and (x * 2 ^ s % 2 ^ 32) (spread (m * 2 ^ s))) j ≡ bit_and (lane x j * 2 ^ s % 2 ^ 8) (m * 2 ^ s)
  lane_left =
      lane_and (x * 2 ^ s % 2 ^ 32) (spread (m * 2 ^ s)) j
      ∙ ap₂ bit_and (lane_low (x * 2 ^ s) j h) (lane_spread (m * 2 ^ s) j fits h)
      ∙ and_low 8 (x * 2 ^ s / 2 ^ (8 * j)) (m * 2 ^ s) fits
      ∙ and_up (x * 2 ^ s / 2 ^ (8 * j)) s m
      ∙ ap (λ (y : ℕ). bit_and y m * 2 ^ s)
      (shr_comm (x * 2 ^ s) (8 * j) s ∙ ap (λ (y : ℕ). y / 2 ^ (8 * j)) (shl-shr x s))
      ∙ ap (λ (y : ℕ). y * 2 ^ s) (sym (and_low 8 (x / 2 ^ (8 * j)) m narrow) ∙ ap (λ (y : ℕ). bit_and y m) (sym (shl-shr (lane x j) s)))
      ∙ sym (and_up (lane x j * 2 ^ s) s m)
      ∙ sym (and_low 8 (lane x j * 2 ^ s) (m * 2 ^ s) fits)
