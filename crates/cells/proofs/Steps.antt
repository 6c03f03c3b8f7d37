-- The steps of words 2 and 3 as the code takes them, with one xor for the new bit: one computed test each. Assumes nothing.
use mathlib.Core.Path.{◌≡◌}
use Prim.Native.Nat.{ℕ, ◌<◌, ◌+◌, ◌*◌, ◌/◌, ◌%◌}
use lib.Bits.{bit_xor}
use Rattle.cells.specs.Cells.{Nibble, Byte, step2, step3}
use Rattle.cells.proofs.Below.{same}

pub left_nibble : (x : ℕ) → x < 256 → x % 8 * 2 + bit_xor x (x % 8 * 2) / 8 % 2 ≡ step2 Nibble x
unfolding step2
left_nibble = same (λ x. x % 8 * 2 + bit_xor x (x % 8 * 2) / 8 % 2) (step2 Nibble) 256 tt

pub left_byte : (x : ℕ) → x < 256 → x % 128 * 2 + bit_xor x (x % 64 * 4) / 128 ≡ step2 Byte x
unfolding step2
left_byte = same (λ x. x % 128 * 2 + bit_xor x (x % 64 * 4) / 128) (step2 Byte) 256 tt

pub right_nibble : (x : ℕ) → x < 256 → x % 16 / 2 + bit_xor x (x / 8) % 2 * 8 ≡ step3 Nibble x
unfolding step3
right_nibble = same (λ x. x % 16 / 2 + bit_xor x (x / 8) % 2 * 8) (step3 Nibble) 256 tt
