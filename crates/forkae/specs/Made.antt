-- What PAEF's and SAEF's functions make: of block calls under a flag, and of two blocks. Assumes nothing.
use Rattle.std.specs.Prelude.{◌≡◌, ◌+◌, ℕ, List, false, replicate, take}
use Rattle.ciphers.specs.Ciphers.{block_of}
use Rattle.modes.specs.Blocks.{◌⊕◌}
use Rattle.modes.specs.Forkcipher.{Fork}
use Rattle.modes.specs.Paef.{sum_half, sum_input, sum_other, head_sum}
use Rattle.modes.specs.Saef.{mask_half, mask_input, mask_other}
use Rattle.states.specs.declared.Kind.TheVariants.{Paef, Saef}
use Rattle.states.specs.declared.State.{State}
use Rattle.states.specs.declared.Pair.{Pair}
use Rattle.states.specs.declared.Step.{Step}
use Rattle.states.specs.Modes.{state_of}
use Rattle.states.specs.Skinny.{skinny}
use Rattle.states.specs.Steps.{Paired}
use Rattle.states.specs.Under.{KeyAndNonce}

module _ (u : KeyAndNonce) (flag : ℕ) (s : State) (x : List ℕ) where
  abbrev n : ℕ
  n = block_of u.cipher

  abbrev F : Fork
  F = skinny u.cipher u.key

  -- ---- PAEF: S with half 0 of a header block added; both halves of a body block; back from half 0, the block and half 1
  abbrev pub SumHead : List ℕ → Type 0
  SumHead r = take n r ≡ head_sum n F u.nonce flag (state_of Paef n s) (take n x)

  abbrev pub SumBoth : Pair → Type 0
  SumBoth p = Paired Paef n (sum_half n F u.nonce 0 flag) (sum_half n F u.nonce 1 flag) s x p.first p.second

  abbrev pub SumBack : Pair → Type 0
  SumBack p = Paired Paef n (sum_input n F u.nonce flag) (sum_other n F u.nonce flag) s x p.first p.second

  -- ---- SAEF: half 0 of a masked header block; both halves of a masked body block; back from a masked half 0, the masked block and half 1
  abbrev pub MaskHead : List ℕ → Type 0
  MaskHead r = take n r ≡ mask_half n F u.nonce 0 flag (state_of Saef n s) (take n x)

  abbrev pub MaskBoth : Pair → Type 0
  MaskBoth p = Paired Saef n (mask_half n F u.nonce 0 flag) (mask_half n F u.nonce 1 flag) s x p.first p.second

  abbrev pub MaskBack : Pair → Type 0
  MaskBack p = Paired Saef n (mask_input n F u.nonce flag) (mask_other n F u.nonce flag) s x p.first p.second

-- ---- PAEF: a block is given, and the second one added to S
abbrev pub added_of : State → Pair → Step
added_of s p = record {
  out = p.first;
  next = record { mask = s.mask ⊕ p.second; delta = replicate 16 0; number = s.number + 1; first = false };
}

-- ---- SAEF: Δ comes off the block that is given, and the second one is the next Δ
abbrev pub unmasked_of : State → Pair → Pair
unmasked_of s p = record { first = p.first ⊕ s.mask; second = p.second }

abbrev pub moved_of : State → Pair → Step
moved_of s p = record {
  out = p.first ⊕ s.mask;
  next = record { mask = p.second; delta = replicate 16 0; number = s.number; first = false };
}
