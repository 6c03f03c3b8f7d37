-- The laws of the cells, over the width: the tables undo each other, the steps of words 2 and 3 undo each other, and all stay
-- below the width's size. Assumes nothing.
use Prim.Native.Nat.{ℕ, ◌<◌}
use Rattle.cells.specs.Cells.{Width, Nibble, Byte, size, sub, unsub, sub8, unsub8, flips, shuffle, unshuffle, swap, step2, step3}
use native.Mathlib.Omega.{arith}
use lib.Bits.{bit_xor, xor_lt}
use Rattle.cells.proofs.Below.{Undoes, undoes}

pub sub_law : (w : Width) → Undoes (size w) (sub w) (unsub w)
unfolding sub unsub sub8 unsub8 flips shuffle unshuffle swap
sub_law Nibble = undoes (sub Nibble) (unsub Nibble) 16 tt
sub_law Byte = undoes (sub Byte) (unsub Byte) 256 tt

pub unsub_law : (w : Width) → Undoes (size w) (unsub w) (sub w)
unfolding sub unsub sub8 unsub8 flips shuffle unshuffle swap
unsub_law Nibble = undoes (unsub Nibble) (sub Nibble) 16 tt
unsub_law Byte = undoes (unsub Byte) (sub Byte) 256 tt

pub step2_law : (w : Width) → Undoes (size w) (step2 w) (step3 w)
unfolding step2 step3
step2_law Nibble = undoes (step2 Nibble) (step3 Nibble) 16 tt
step2_law Byte = undoes (step2 Byte) (step3 Byte) 256 tt

pub step3_law : (w : Width) → Undoes (size w) (step3 w) (step2 w)
unfolding step2 step3
step3_law Nibble = undoes (step3 Nibble) (step2 Nibble) 16 tt
step3_law Byte = undoes (step3 Byte) (step2 Byte) 256 tt

-- the exclusive or of two cells is a cell
pub xor_low : (w : Width) (a b : ℕ) → a < size w → b < size w → bit_xor a b < size w
xor_low Nibble = xor_lt 4
xor_low Byte = xor_lt 8

-- a number below 16 is a cell
pub small_low : (w : Width) (a : ℕ) → a < 16 → a < size w
small_low Nibble a h = h
small_low Byte a h = omega arith
