-- A block call under the tweak of a number, read in the cipher's own bytes: what figure 9 says of it. Assumes nothing.
use mathlib.Core.Path.{◌≡◌, ap, ◌∙◌, subst⁻¹}
use mathlib.Core.List.{List}
use Prim.Native.Nat.{ℕ}
use lib.ListN.{take}
use Rattle.ciphers.specs.Ciphers.{block_of}
use Rattle.forkskinny.specs.declared.Forked.{Forked}
use Rattle.forkskinny.specs.declared.Unforked.{Unforked}
use Rattle.forkskinny.specs.Calls.{ForkTold, UnforkTold, wants, fork_by, fork_done, unfork_by, unfork_done}
use Rattle.forkskinny.proofs.Forkcipher.{half_long, input_long, other_long}
use Rattle.modes.specs.Blocks.{◌⊕◌}
use Rattle.modes.specs.Eevee.{head_tweak, body_tweak, head_link, body_half, body_input, body_other}
use Rattle.modes.specs.Forkcipher.{Fork}
use Rattle.modes.proofs.Bytes.{take_xor}
use Rattle.states.specs.declared.Pair.{Pair}
use Rattle.states.specs.declared.State.{State}
use Rattle.states.specs.Modes.{chain_of}
use Rattle.states.specs.Skinny.{skinny}
use Rattle.states.specs.Under.{KeyAndNonce}
use Rattle.states.proofs.Skinny.{half_is, input_is, other_is}
use Rattle.eevee.specs.Made.{Worked, BothOf, BackOf}

-- t is the tweak in sixteen bytes
module _ (u : KeyAndNonce) (v : ℕ) (x t : List ℕ) where
  abbrev n : ℕ
  n = block_of u.cipher

  abbrev F : Fork
  F = skinny u.cipher u.key

  module _ (told : take n t ≡ body_tweak u.nonce v) where
    pub half_worked : (f : Forked) → fork_done f ≡ fork_by u.cipher u.key t x 0 → Worked n (body_half n F u.nonce 0 v) x f.half0
    unfolding body_half wants
    half_worked f e =
        subst⁻¹ (λ (f : ForkTold). Worked n (body_half n F u.nonce 0 v) x f.half0) e
        (record { is = half_is u.cipher u.key 0 t _ x told; long = half_long u.cipher u.key t 0 x })

    pub both_worked : (f : Forked) (p : Pair) → fork_done f ≡ fork_by u.cipher u.key t x 2 → p ≡ record { first = f.half0; second = f.half1 }
        → BothOf u v x p
    unfolding body_half wants
    both_worked f p e g =
        subst⁻¹ (BothOf u v x) g
        (subst⁻¹ (λ (f : ForkTold). BothOf u v x (record { first = f.half0; second = f.half1 })) e (
          record { is = half_is u.cipher u.key 0 t _ x told; long = half_long u.cipher u.key t 0 x },
          record { is = half_is u.cipher u.key 1 t _ x told; long = half_long u.cipher u.key t 1 x },
        ))

    pub input_worked : (r : Unforked) → unfork_done r ≡ unfork_by u.cipher u.key t x 0 0 → Worked n (body_input n F u.nonce v) x r.input
    unfolding body_input wants
    input_worked r e =
        subst⁻¹ (λ (r : UnforkTold). Worked n (body_input n F u.nonce v) x r.input) e
        (record { is = input_is u.cipher u.key 0 t _ x told; long = input_long u.cipher u.key t 0 x })

    pub back_worked : (r : Unforked) (p : Pair) → unfork_done r ≡ unfork_by u.cipher u.key t x 0 2
        → p ≡ record { first = r.input; second = r.other } → BackOf u v x p
    unfolding body_input body_other wants
    back_worked r p e g =
        subst⁻¹ (BackOf u v x) g
        (subst⁻¹ (λ (r : UnforkTold). BackOf u v x (record { first = r.input; second = r.other })) e (
          record { is = input_is u.cipher u.key 0 t _ x told; long = input_long u.cipher u.key t 0 x },
          record { is = other_is u.cipher u.key 0 t _ x told; long = other_long u.cipher u.key t 0 x },
        ))

  -- half 0 of a header block, with T_A added
  pub head_is : take n t ≡ head_tweak u.nonce v → (s : State) (f : Forked) (r : List ℕ) → fork_done f ≡ fork_by u.cipher u.key t x 0
      → r ≡ f.half0 ⊕ s.mask → take n r ≡ head_link n F u.nonce v (chain_of n s) (take n x)
  unfolding head_link wants
  head_is told s f r e g =
      ap (take n) g
      ∙ take_xor n f.half0 s.mask
      ∙ ap (λ (l : List ℕ). l ⊕ take n s.mask) (ap (λ (f : ForkTold). take n f.half0) e ∙ half_is u.cipher u.key 0 t _ x told)
