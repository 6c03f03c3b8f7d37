-- What the steps of Umbreon and Jolteon make is what figure 9 says. Assumes nothing.
use mathlib.Core.Path.{◌≡◌, ap, ◌∙◌}
use mathlib.Core.Bool.{Bool}
use mathlib.Core.List.{List}
use Prim.Native.Nat.{ℕ, ◌+◌}
use native.Mathlib.Omega.{arith}
use lib.ListN.{length, take}
use Rattle.modes.specs.Blocks.{◌⊕◌}
use Rattle.modes.specs.Eevee.{Middle, bit, last_mask, body_half, body_input, body_other, eevee}
use Rattle.modes.specs.Forkcipher.{Fork}
use Rattle.modes.specs.Jolteon.{jolteon_own, jolteon}
use Rattle.modes.specs.Umbreon.{umbreon_own, umbreon}
use Rattle.modes.proofs.Bytes.{take_xor}
use Rattle.states.specs.declared.Kind.TheVariants.{Umbreon, Jolteon}
use Rattle.states.specs.declared.State.{State}
use Rattle.states.specs.declared.Step.{Step}
use Rattle.states.specs.Modes.{chain_of}
use Rattle.states.specs.Steps.{Stepped, Paired}
use Rattle.eevee.specs.Made.{Worked, WorkedBoth, linked_of, collected_of}

-- the front of two blocks added, where the front of the first is known
front_xor : (n : ℕ) (a b r f : List ℕ) → r ≡ a ⊕ b → take n a ≡ f → take n r ≡ f ⊕ take n b
front_xor n a b r f e h = ap (take n) e ∙ take_xor n a b ∙ ap (λ (l : List ℕ). l ⊕ take n b) h

module _ (n : ℕ) (F : Fork) (nonce : List ℕ) (s : State) (x : List ℕ) where
  -- ---- the last block; m is its mask, and v its number

  module _ (full : Bool) {m : List ℕ} {v : ℕ} (em : m ≡ s.delta ⊕ s.mask) (ev : v ≡ bit full) where
    mask_is : take n m ≡ last_mask (chain_of n s)
    unfolding last_mask
    mask_is = ap (take n) em ∙ take_xor n s.delta s.mask

    pub sealed_last : {y first half second : List ℕ} → y ≡ x ⊕ m → WorkedBoth n (body_half n F nonce 0 v) (body_half n F nonce 1 v) y first half
        → second ≡ half ⊕ x → length second ≡ 16
        → (own : Middle) → Paired Umbreon n ((eevee n F nonce own).fin full) ((eevee n F nonce own).tag full) s x first second
    unfolding eevee
    sealed_last {y} {first} {half} {second} ey w es l own =
        let under : take n y ≡ take n x ⊕ last_mask (chain_of n s) = ap (take n) ey ∙ take_xor n x m ∙ ap (λ (k : List ℕ). take n x ⊕ k) mask_is in record {
          first_is = w.0.is ∙ (λ i. body_half n F nonce 0 (ev i) (under i));
          second_is = front_xor n half x second _ es (w.1.is ∙ (λ i. body_half n F nonce 1 (ev i) (under i)));
          first_long = w.0.long;
          second_long = l;
        }

    pub opened_last : {masked other first second : List ℕ} → WorkedBoth n (body_input n F nonce v) (body_other n F nonce v) x masked other
        → first ≡ masked ⊕ m → second ≡ first ⊕ other → length first ≡ 16 → length second ≡ 16
        → (own : Middle) → Paired Umbreon n ((eevee n F nonce own).unfin full) ((eevee n F nonce own).untag full) s x first second
    unfolding eevee
    opened_last {masked} {other} {first} {second} w ef es lf ls own =
        let input : take n masked ≡ body_input n F nonce (bit full) (take n x) = w.0.is ∙ (λ i. body_input n F nonce (ev i) (take n x)) in
        let block : take n first ≡ body_input n F nonce (bit full) (take n x) ⊕ last_mask (chain_of n s)
        = front_xor n masked m first _ ef input ∙ ap (λ (k : List ℕ). body_input n F nonce (bit full) (take n x) ⊕ k) mask_is in record {
          first_is = block;
          second_is =
              front_xor n first other second _ es block
              ∙ ap (λ (k : List ℕ). body_input n F nonce (bit full) (take n x) ⊕ last_mask (chain_of n s) ⊕ k) (w.1.is ∙ (λ i. body_other n F nonce (ev i) (take n x)));
          first_long = lf;
          second_long = ls;
        }

  -- ---- Umbreon

  module _ {out link : List ℕ} {r : Step} (e : r ≡ linked_of s out link) where
    -- Δ takes T_A
    linked_next : {f : List ℕ} → take n link ≡ f → chain_of n r.next ≡ record { link = f; delta = take n s.delta ⊕ take n s.mask; number = s.number + 1 }
    linked_next {f} h =
        ap (λ (r : Step). chain_of n r.next) e
        ∙ (λ i. record { link = h i; delta = take_xor n s.delta s.mask i; number = s.number + 1 })

    linked_out : r.out ≡ out
    linked_out = ap (λ (r : Step). r.out) e

    linked_number : r.next.number ≡ s.number + 1
    linked_number = ap (λ (r : Step). r.next.number) e

    pub umbreon_sealed : {y : List ℕ} → y ≡ x ⊕ s.mask
        → WorkedBoth n (body_half n F nonce 0 (s.number + 1)) (body_half n F nonce 1 (s.number + 1)) y out link
        → Stepped Umbreon n (umbreon n F nonce).out (umbreon n F nonce).next s x r.out r.next
    unfolding umbreon umbreon_own eevee
    umbreon_sealed {y} ey w =
        let under : take n y ≡ take n x ⊕ take n s.mask = ap (take n) ey ∙ take_xor n x s.mask in record {
          out_is = ap (take n) linked_out ∙ w.0.is ∙ ap (body_half n F nonce 0 (s.number + 1)) under;
          next_is = linked_next (w.1.is ∙ ap (body_half n F nonce 1 (s.number + 1)) under);
          long = ap length linked_out ∙ w.0.long;
          number = omega (arith, linked_number);
        }

    pub umbreon_opened : {masked : List ℕ} → out ≡ masked ⊕ s.mask → length out ≡ 16
        → WorkedBoth n (body_input n F nonce (s.number + 1)) (body_other n F nonce (s.number + 1)) x masked link
        → Stepped Umbreon n (umbreon n F nonce).back (umbreon n F nonce).back_next s x r.out r.next
    unfolding umbreon umbreon_own eevee
    umbreon_opened {masked} eo l w = record {
      out_is = ap (take n) linked_out ∙ front_xor n masked s.mask out _ eo w.0.is;
      next_is = linked_next w.1.is;
      long = ap length linked_out ∙ l;
      number = omega (arith, linked_number);
    }

  -- ---- Jolteon

  module _ {out : List ℕ} (block : List ℕ) {link : List ℕ} {r : Step} (e : r ≡ collected_of s out block link) where
    -- Δ takes the body's block and the sealed one before
    collected_next : {f b : List ℕ} → take n link ≡ f → take n block ≡ b
        → chain_of n r.next ≡ record { link = f; delta = take n s.delta ⊕ b ⊕ take n s.mask; number = s.number + 1 }
    collected_next {f} {b} h k =
        let delta : take n (s.delta ⊕ block ⊕ s.mask) ≡ take n s.delta ⊕ b ⊕ take n s.mask
        = take_xor n (s.delta ⊕ block) s.mask ∙ ap (λ (l : List ℕ). l ⊕ take n s.mask) (take_xor n s.delta block ∙ ap (λ (l : List ℕ). take n s.delta ⊕ l) k) in
        ap (λ (r : Step). chain_of n r.next) e ∙ (λ i. record { link = h i; delta = delta i; number = s.number + 1 })

    collected_out : r.out ≡ out
    collected_out = ap (λ (r : Step). r.out) e

    collected_number : r.next.number ≡ s.number + 1
    collected_number = ap (λ (r : Step). r.next.number) e

  pub jolteon_sealed : {sealed : List ℕ} {r : Step} → r ≡ collected_of s sealed x sealed
      → Worked n (body_half n F nonce 0 (s.number + 1)) x sealed
      → Stepped Jolteon n (jolteon n F nonce).out (jolteon n F nonce).next s x r.out r.next
  unfolding jolteon jolteon_own eevee
  jolteon_sealed {sealed} e w = record {
    out_is = ap (take n) (collected_out x e) ∙ w.is;
    next_is = collected_next x e w.is (λ i. take n x);
    long = ap length (collected_out x e) ∙ w.long;
    number = omega (arith, collected_number x e);
  }

  pub jolteon_opened : {block : List ℕ} {r : Step} → r ≡ collected_of s block block x
      → Worked n (body_input n F nonce (s.number + 1)) x block
      → Stepped Jolteon n (jolteon n F nonce).back (jolteon n F nonce).back_next s x r.out r.next
  unfolding jolteon jolteon_own eevee
  jolteon_opened {block} e w = record {
    out_is = ap (take n) (collected_out block e) ∙ w.is;
    next_is = collected_next block e (λ i. take n x) w.is;
    long = ap length (collected_out block e) ∙ w.long;
    number = omega (arith, collected_number block e);
  }
