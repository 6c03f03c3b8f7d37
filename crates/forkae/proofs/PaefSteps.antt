-- What PAEF's functions make is what figure 5 says. Assumes nothing.
use mathlib.Core.Path.{◌≡◌, ap, ◌∙◌, subst⁻¹}
use mathlib.Core.Bool.{Bool}
use mathlib.Core.List.{List}
use Prim.Native.Nat.{ℕ, ◌+◌}
use native.Mathlib.Omega.{arith}
use lib.ListN.{length, take}
use Rattle.ciphers.specs.Ciphers.{block_of}
use Rattle.forkskinny.specs.declared.Forked.{Forked}
use Rattle.forkskinny.specs.declared.Unforked.{Unforked}
use Rattle.forkskinny.specs.Calls.{ForkTold, UnforkTold, wants, fork_by, fork_done, unfork_by, unfork_done}
use Rattle.forkskinny.proofs.Forkcipher.{half_long, input_long, other_long}
use Rattle.modes.specs.Blocks.{◌⊕◌}
use Rattle.modes.specs.Forkcipher.{Fork}
use Rattle.modes.specs.Paef.{Sum, paef_tweak, paef_body, sum_tweak, sum_half, sum_input, sum_other, head_sum, paef}
use Rattle.modes.proofs.Bytes.{take_xor}
use Rattle.states.specs.declared.Kind.TheVariants.{Paef}
use Rattle.states.specs.declared.State.{State}
use Rattle.states.specs.declared.Pair.{Pair}
use Rattle.states.specs.declared.Step.{Step}
use Rattle.states.specs.Skinny.{skinny}
use Rattle.states.specs.Modes.{state_of}
use Rattle.states.specs.Steps.{Stepped, Paired}
use Rattle.states.specs.Under.{KeyAndNonce}
use Rattle.forkae.specs.Made.{SumBoth, SumBack, added_of}
use Rattle.states.proofs.Skinny.{half_is, input_is, other_is}

-- S with the second block of a pair added
pub summed : {n : ℕ} {f g : Sum → List ℕ → List ℕ} {s : State} {x : List ℕ} {p : Pair} → Paired Paef n f g s x p.first p.second
    → {r : Step} → r ≡ added_of s p
    → Stepped Paef n f (λ t y. record { sum = t.sum ⊕ g t y; number = t.number + 1 }) s x r.out r.next
summed {n} {f} {g} {s} {x} {p} h e =
    subst⁻¹
    (λ (r : Step). Stepped Paef n f (λ t y. record { sum = t.sum ⊕ g t y; number = t.number + 1 }) s x r.out r.next)
    e
    (record {
      out_is = h.first_is;
      next_is =
          ap (λ (l : List ℕ). record { sum = l; number = s.number + 1 })
          (take_xor n s.mask p.second ∙ ap (λ (l : List ℕ). take n s.mask ⊕ l) h.second_is);
      long = h.first_long;
      number = omega arith;
    })

-- the last block, of which the second comes as it is: S goes on to the first, or comes off what is taken back
module _ {n : ℕ} (F : Fork) (nonce : List ℕ) (full : Bool) {flag : ℕ} (e : flag ≡ paef_body full) {s : State} {x : List ℕ} where
  pub last_paired : {p : Pair} → Paired Paef n (sum_half n F nonce 0 flag) (sum_half n F nonce 1 flag) s x p.first p.second
      → {r : List ℕ} → r ≡ p.first ⊕ s.mask → length r ≡ 16
      → Paired Paef n ((paef n F nonce).fin full) ((paef n F nonce).tag full) s x r p.second
  unfolding paef
  last_paired {p} h q l = record {
    first_is =
        ap (take n) q
        ∙ take_xor n p.first s.mask
        ∙ ap (λ (l : List ℕ). l ⊕ take n s.mask) (h.first_is ∙ ap (λ (f : ℕ). sum_half n F nonce 0 f (state_of Paef n s) (take n x)) e);
    second_is = h.second_is ∙ ap (λ (f : ℕ). sum_half n F nonce 1 f (state_of Paef n s) (take n x)) e;
    first_long = l;
    second_long = h.second_long;
  }

  pub unlast_paired : {y : List ℕ} → y ≡ x ⊕ s.mask
      → {p : Pair} → Paired Paef n (sum_input n F nonce flag) (sum_other n F nonce flag) s y p.first p.second
      → Paired Paef n ((paef n F nonce).unfin full) ((paef n F nonce).untag full) s x p.first p.second
  unfolding paef
  unlast_paired {y} q {p} h =
      let z : take n y ≡ take n x ⊕ take n s.mask = ap (take n) q ∙ take_xor n x s.mask in record {
        first_is = h.first_is ∙ (λ i. sum_input n F nonce (e i) (state_of Paef n s) (z i));
        second_is = h.second_is ∙ (λ i. sum_other n F nonce (e i) (state_of Paef n s) (z i));
        first_long = h.first_long;
        second_long = h.second_long;
      }

module _ (u : KeyAndNonce) (flag : ℕ) (s : State) (x t : List ℕ) (told : take (block_of u.cipher) t ≡ paef_tweak u.nonce flag s.number) where
  abbrev n : ℕ
  n = block_of u.cipher

  abbrev F : Fork
  F = skinny u.cipher u.key

  pub both_paired : (f : Forked) (p : Pair) → fork_done f ≡ fork_by u.cipher u.key t x 2 → p ≡ record { first = f.half0; second = f.half1 }
      → SumBoth u flag s x p
  unfolding sum_half sum_tweak wants
  both_paired f p e g =
      subst⁻¹ (SumBoth u flag s x) g
      (subst⁻¹ (λ (f : ForkTold). SumBoth u flag s x (record { first = f.half0; second = f.half1 })) e
      (record {
        first_is = half_is u.cipher u.key 0 t _ x told;
        second_is = half_is u.cipher u.key 1 t _ x told;
        first_long = half_long u.cipher u.key t 0 x;
        second_long = half_long u.cipher u.key t 1 x;
      }))

  pub back_paired : (r : Unforked) (p : Pair) → unfork_done r ≡ unfork_by u.cipher u.key t x 0 2 → p ≡ record { first = r.input; second = r.other }
      → SumBack u flag s x p
  unfolding sum_input sum_other sum_tweak wants
  back_paired r p e g =
      subst⁻¹ (SumBack u flag s x) g
      (subst⁻¹ (λ (r : UnforkTold). SumBack u flag s x (record { first = r.input; second = r.other })) e
      (record {
        first_is = input_is u.cipher u.key 0 t _ x told;
        second_is = other_is u.cipher u.key 0 t _ x told;
        first_long = input_long u.cipher u.key t 0 x;
        second_long = other_long u.cipher u.key t 0 x;
      }))

  -- half 0 of a header block, added to S
  pub head_is : (f : Forked) (r : List ℕ) → fork_done f ≡ fork_by u.cipher u.key t x 0 → r ≡ s.mask ⊕ f.half0
      → take n r ≡ head_sum n F u.nonce flag (state_of Paef n s) (take n x)
  unfolding head_sum sum_half sum_tweak wants
  head_is f r e g =
      ap (take n) g
      ∙ take_xor n s.mask f.half0
      ∙ ap (λ (l : List ℕ). take n s.mask ⊕ l)
      (ap (λ (f : ForkTold). take n f.half0) e ∙ half_is u.cipher u.key 0 t _ x told)
