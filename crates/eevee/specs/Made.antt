-- What the functions of Umbreon and Jolteon make. Assumes nothing.
use Rattle.std.specs.Prelude.{◌≡◌, false, Bool, List, ℕ, ◌+◌, length, take}
use Rattle.ciphers.specs.Ciphers.{block_of}
use Rattle.modes.specs.Blocks.{◌⊕◌}
use Rattle.modes.specs.Eevee.{Middle, head_link, body_half, body_input, body_other, eevee}
use Rattle.modes.specs.Forkcipher.{Fork}
use Rattle.states.specs.declared.Kind.TheVariants.{Umbreon}
use Rattle.states.specs.declared.Pair.{Pair}
use Rattle.states.specs.declared.State.{State}
use Rattle.states.specs.declared.Step.{Step}
use Rattle.states.specs.Modes.{chain_of}
use Rattle.states.specs.Skinny.{skinny}
use Rattle.states.specs.Steps.{Paired, Reached}
use Rattle.states.specs.Under.{KeyAndNonce}

-- a block goes to f of it; and a pair to f of it and g of it
pub record Worked (n : ℕ) (f : List ℕ → List ℕ) (x out : List ℕ) : Type 0 where
  pub is : take n out ≡ f (take n x)
  pub long : length out ≡ 16

abbrev pub WorkedBoth : ℕ → (f g : List ℕ → List ℕ) → (x first second : List ℕ) → Type 0
WorkedBoth n f g x first second = Worked n f x first × Worked n g x second

module _ (u : KeyAndNonce) where
  abbrev n : ℕ
  n = block_of u.cipher

  abbrev F : Fork
  F = skinny u.cipher u.key

  -- a tweak has two bytes behind the nonce
  abbrev pub Fills : Type 0
  Fills = length u.nonce + 2 ≡ block_of u.cipher

  -- ---- block calls under the tweak of a number: of a body block, half 0, both halves, and back from half 0 the block, and the block and half 1;
  -- and of a header block, T_A with half 0 added
  module _ (v : ℕ) where
    abbrev pub HalfOf : (x out : List ℕ) → Type 0
    HalfOf x out = Worked n (body_half n F u.nonce 0 v) x out

    abbrev pub BothOf : List ℕ → Pair → Type 0
    BothOf x p = WorkedBoth n (body_half n F u.nonce 0 v) (body_half n F u.nonce 1 v) x p.first p.second

    abbrev pub InputOf : (x out : List ℕ) → Type 0
    InputOf x out = Worked n (body_input n F u.nonce v) x out

    abbrev pub BackOf : List ℕ → Pair → Type 0
    BackOf x p = WorkedBoth n (body_input n F u.nonce v) (body_other n F u.nonce v) x p.first p.second

    abbrev pub LinkOf : State → (x out : List ℕ) → Type 0
    LinkOf s x out = take n out ≡ head_link n F u.nonce v (chain_of n s) (take n x)

  -- ---- the header and the last block, whatever a mode's own lines are
  abbrev pub HeadOf : State → List ℕ → State → Type 0
  HeadOf s x r = (own : Middle) → Reached Umbreon n ((eevee n F u.nonce own).head (chain_of n s) (take n x)) (s.number + 1) r

  abbrev pub HeadEndOf : (empty full : Bool) → State → List ℕ → State → Type 0
  HeadEndOf empty full s x r =
      (own : Middle) → Reached Umbreon n ((eevee n F u.nonce own).head_last empty full (chain_of n s) (take n x)) 1 r

  abbrev pub SealEndOf : (full : Bool) → State → List ℕ → Pair → Type 0
  SealEndOf full s x p =
      (own : Middle) → Paired Umbreon n ((eevee n F u.nonce own).fin full) ((eevee n F u.nonce own).tag full) s x p.first p.second

  abbrev pub OpenEndOf : (full : Bool) → State → List ℕ → Pair → Type 0
  OpenEndOf full s x p =
      (own : Middle) → Paired Umbreon n ((eevee n F u.nonce own).unfin full) ((eevee n F u.nonce own).untag full) s x p.first p.second

-- ---- Umbreon: a block is given; Δ takes the T_A that was used, and `link` is the next one
abbrev pub linked_of : State → (out link : List ℕ) → Step
linked_of s out link = record {
  out = out;
  next = record { mask = link; delta = s.delta ⊕ s.mask; number = s.number + 1; first = false };
}

-- ---- Jolteon: a block is given; Δ takes the body's block and the sealed one before, and `link` is the sealed one
abbrev pub collected_of : State → (out block link : List ℕ) → Step
collected_of s out block link = record {
  out = out;
  next = record { mask = link; delta = s.delta ⊕ block ⊕ s.mask; number = s.number + 1; first = false };
}
