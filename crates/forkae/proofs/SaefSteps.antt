-- What SAEF's functions make is what figure 8 says. Assumes nothing.
use mathlib.Core.Path.{◌≡◌, ap, ◌∙◌, subst⁻¹}
use mathlib.Core.Bool.{false}
use mathlib.Core.List.{List}
use Prim.Native.Nat.{ℕ}
use native.Mathlib.Omega.{arith}
use lib.ListN.{length, take}
use Rattle.ciphers.specs.Ciphers.{block_of}
use Rattle.forkskinny.specs.declared.Forked.{Forked}
use Rattle.forkskinny.specs.declared.Unforked.{Unforked}
use Rattle.forkskinny.specs.Calls.{ForkTold, UnforkTold, wants, fork_by, fork_done, unfork_by, unfork_done}
use Rattle.forkskinny.proofs.Forkcipher.{half_long, input_long, other_long}
use Rattle.modes.specs.Blocks.{◌⊕◌}
use Rattle.modes.specs.Forkcipher.{Fork}
use Rattle.modes.specs.Saef.{Mask, saef_tweak, mask_tweak, mask_half, mask_input, mask_other}
use Rattle.modes.proofs.Bytes.{take_xor}
use Rattle.states.specs.declared.Kind.TheVariants.{Saef}
use Rattle.states.specs.declared.State.{State}
use Rattle.states.specs.declared.Pair.{Pair}
use Rattle.states.specs.declared.Step.{Step}
use Rattle.states.specs.Skinny.{skinny}
use Rattle.states.specs.Modes.{state_of}
use Rattle.states.specs.Steps.{Stepped, Paired}
use Rattle.states.specs.Under.{KeyAndNonce}
use Rattle.forkae.specs.Made.{MaskBoth, MaskBack, unmasked_of, moved_of}
use Rattle.states.proofs.Skinny.{half_is, input_is, other_is}

module _ {n : ℕ} {f g : Mask → List ℕ → List ℕ} {s : State} {x : List ℕ} {p : Pair} (h : Paired Saef n f g s x p.first p.second) where
  -- Δ off the first block of a pair
  off : take n (p.first ⊕ s.mask) ≡ f (state_of Saef n s) (take n x) ⊕ take n s.mask
  off = take_xor n p.first s.mask ∙ ap (λ (l : List ℕ). l ⊕ take n s.mask) h.first_is

  pub unmasked_paired : {r : Pair} → r ≡ unmasked_of s p → length r.first ≡ 16
      → Paired Saef n (λ t y. f t y ⊕ t.delta) g s x r.first r.second
  unmasked_paired {r} e l = record {
    first_is = ap (λ (r : Pair). take n r.first) e ∙ off;
    second_is = ap (λ (r : Pair). take n r.second) e ∙ h.second_is;
    first_long = l;
    second_long = ap (λ (r : Pair). length r.second) e ∙ h.second_long;
  }

  pub moved_stepped : {r : Step} → r ≡ moved_of s p → length r.out ≡ 16
      → Stepped Saef n (λ t y. f t y ⊕ t.delta) (λ t y. record { delta = g t y; first = false }) s x r.out r.next
  moved_stepped {r} e l = record {
    out_is = ap (λ (r : Step). take n r.out) e ∙ off;
    next_is =
        ap (λ (r : Step). state_of Saef n r.next) e ∙ ap (λ (l : List ℕ). record { delta = l; first = false }) h.second_is;
    long = l;
    number = omega (arith, ap (λ (r : Step). r.next.number) e);
  }

-- t is the tweak in sixteen bytes, y the masked block
module _ (u : KeyAndNonce) (flag : ℕ) (s : State) (x y t : List ℕ)
    (told : take (block_of u.cipher) t ≡ saef_tweak u.nonce s.first flag) (masked : y ≡ x ⊕ s.mask) where
  abbrev n : ℕ
  n = block_of u.cipher

  abbrev F : Fork
  F = skinny u.cipher u.key

  under : take n y ≡ take n x ⊕ take n s.mask
  under = ap (take n) masked ∙ take_xor n x s.mask

  pub both_paired : (f : Forked) (p : Pair) → fork_done f ≡ fork_by u.cipher u.key t y 2 → p ≡ record { first = f.half0; second = f.half1 }
      → MaskBoth u flag s x p
  unfolding mask_half mask_tweak wants
  both_paired f p e g =
      subst⁻¹ (MaskBoth u flag s x) g
      (subst⁻¹ (λ (f : ForkTold). MaskBoth u flag s x (record { first = f.half0; second = f.half1 })) e
      (record {
        first_is = half_is u.cipher u.key 0 t _ y told ∙ ap (F.half 0 _) under;
        second_is = half_is u.cipher u.key 1 t _ y told ∙ ap (F.half 1 _) under;
        first_long = half_long u.cipher u.key t 0 y;
        second_long = half_long u.cipher u.key t 1 y;
      }))

  pub back_paired : (r : Unforked) (p : Pair) → unfork_done r ≡ unfork_by u.cipher u.key t y 0 2 → p ≡ record { first = r.input; second = r.other }
      → MaskBack u flag s x p
  unfolding mask_input mask_other mask_tweak wants
  back_paired r p e g =
      subst⁻¹ (MaskBack u flag s x) g
      (subst⁻¹ (λ (r : UnforkTold). MaskBack u flag s x (record { first = r.input; second = r.other })) e
      (record {
        first_is = input_is u.cipher u.key 0 t _ y told ∙ ap (F.input 0 _) under;
        second_is = other_is u.cipher u.key 0 t _ y told ∙ ap (F.other 0 _) under;
        first_long = input_long u.cipher u.key t 0 y;
        second_long = other_long u.cipher u.key t 0 y;
      }))

  -- half 0 of a header block
  pub head_is : (f : Forked) → fork_done f ≡ fork_by u.cipher u.key t y 0 → take n f.half0 ≡ mask_half n F u.nonce 0 flag (state_of Saef n s) (take n x)
  unfolding mask_half mask_tweak wants
  head_is f e = ap (λ (f : ForkTold). take n f.half0) e ∙ half_is u.cipher u.key 0 t _ y told ∙ ap (F.half 0 _) under
