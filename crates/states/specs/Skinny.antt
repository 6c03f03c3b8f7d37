-- ForkSkinny under one key as the modes take it: blocks and tweaks of as many bytes as the cipher has; and what a block call of it costs.
-- Assumes nothing.
use Rattle.std.specs.Prelude.{List, ℕ, take}
use Rattle.ciphers.specs.declared.Cipher.{Cipher}
use Rattle.ciphers.specs.Ciphers.{block_of}
use Rattle.forkskinny.specs.ForkSkinny.{half, input, other}
use Rattle.forkskinny.specs.Calls.{fork_rounds, unfork_rounds}
use Rattle.modes.specs.Forkcipher.{Fork, Want, half0, both_halves, input_back, both_back}

unfoldable pub skinny : Cipher → List ℕ → Fork
skinny c key = record {
  half = λ h tweak m. take (block_of c) (half c key tweak h m);
  input = λ h tweak x. take (block_of c) (input c key tweak h x);
  other = λ h tweak x. take (block_of c) (other c key tweak h x);
}

-- the rounds that a call tells (C-13): half 0 alone, or back the input alone, is asked for with 0, both results with 2
abbrev pub cost_of : Cipher → Want → ℕ
cost_of c half0 = fork_rounds c 0
cost_of c both_halves = fork_rounds c 2
cost_of c input_back = unfork_rounds c 0
cost_of c both_back = unfork_rounds c 2
