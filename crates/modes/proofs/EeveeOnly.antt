-- Umbreon and Jolteon look at no block call but those that specs/Rounds.antt lists (Only.antt). Header and last block are the family's.
-- Assumes nothing.
use mathlib.Core.Path.{◌≡◌, refl, ap}
use Prim.Native.Nat.{ℕ, ◌+◌}
use mathlib.Core.List.{List}
use Rattle.modes.specs.Blocks.{◌⊕◌}
use Rattle.modes.specs.Forkcipher.{Fork}
use Rattle.modes.specs.Mode.{seal_run, open_run}
use Rattle.modes.specs.Rounds.{seal_calls, open_calls}
use Rattle.modes.specs.Eevee.{Chain, Middle, last_mask, head_link, body_half, body_input, body_other, eevee}
use Rattle.modes.specs.Jolteon.{jolteon_own, jolteon}
use Rattle.modes.specs.Umbreon.{umbreon_own, umbreon}
use Rattle.modes.proofs.Only.{Agree, Alike, Heeds, answer, seal_only, open_only}

-- what a mode does with the blocks before the last, over two forkciphers that answer the block's call alike
pub record OwnHeeds (F G : Fork) (own other : Middle) : Type 0 where
  pub out : (s : Chain) (x : List ℕ) → Agree F G (own.seal_asks s x) → own.out s x ≡ other.out s x
  pub next : (s : Chain) (x : List ℕ) → Agree F G (own.seal_asks s x) → own.next s x ≡ other.next s x
  pub back : (s : Chain) (x : List ℕ) → Agree F G (own.open_asks s x) → own.back s x ≡ other.back s x
  pub back_next : (s : Chain) (x : List ℕ) → Agree F G (own.open_asks s x) → own.back_next s x ≡ other.back_next s x

module _ (n : ℕ) (F G : Fork) (nonce : List ℕ) where
  eevee_heeds : (own other : Middle) → OwnHeeds F G own other → Heeds F G (eevee n F nonce own) (eevee n G nonce other)
  unfolding eevee head_link body_half body_input body_other
  eevee_heeds own other H = record {
    start = refl;
    head = λ s x e. ap (λ (y : List ℕ). record { link = y ⊕ s.link; delta = s.delta; number = s.number + 1 }) (answer 0 e);
    head_last = λ noM full s x e. ap (λ (y : List ℕ). record { link = y ⊕ s.link; delta = s.delta; number = 1 }) (answer 0 e);
    out = H.out;
    next = H.next;
    fin = λ full s x e. answer 0 e;
    tag = λ full s x e. ap (λ (y : List ℕ). y ⊕ x) (answer 1 e);
    alone = λ s. refl;
    back = H.back;
    back_next = H.back_next;
    unfin = λ full s x e. ap (λ (y : List ℕ). y ⊕ last_mask s) (answer 0 e);
    untag = λ full s x e. (λ i. answer 0 e i ⊕ last_mask s ⊕ answer 1 e i);
    block_first = refl;
  }

  umbreon_heeds : Heeds F G (umbreon n F nonce) (umbreon n G nonce)
  unfolding umbreon umbreon_own body_half body_input body_other
  umbreon_heeds =
      let linked : Chain → List ℕ → Chain = λ s y. record { link = y; delta = s.delta ⊕ s.link; number = s.number + 1 } in
      eevee_heeds (umbreon_own n F nonce) (umbreon_own n G nonce)
      (record {
        out = λ s x e. answer 0 e;
        next = λ s x e. ap (linked s) (answer 1 e);
        back = λ s x e. ap (λ (y : List ℕ). y ⊕ s.link) (answer 0 e);
        back_next = λ s x e. ap (linked s) (answer 1 e);
      })

  jolteon_heeds : Heeds F G (jolteon n F nonce) (jolteon n G nonce)
  unfolding jolteon jolteon_own body_half body_input
  jolteon_heeds =
      eevee_heeds (jolteon_own n F nonce) (jolteon_own n G nonce)
      (record {
        out = λ s x e. answer 0 e;
        next = λ s x e. ap (λ (y : List ℕ). record { link = y; delta = s.delta ⊕ x ⊕ s.link; number = s.number + 1 }) (answer 0 e);
        back = λ s x e. answer 0 e;
        back_next = λ s x e. ap (λ (y : List ℕ). record { link = x; delta = s.delta ⊕ y ⊕ s.link; number = s.number + 1 }) (answer 0 e);
      })

  pub umbreon_seal_only : (header body : List ℕ) → Alike F G (seal_calls n (umbreon n F nonce) header body)
      → seal_run n (umbreon n F nonce) header body ≡ seal_run n (umbreon n G nonce) header body
  umbreon_seal_only = seal_only n umbreon_heeds

  pub umbreon_open_only : (header run : List ℕ) → Alike F G (open_calls n (umbreon n F nonce) header run)
      → open_run n (umbreon n F nonce) header run ≡ open_run n (umbreon n G nonce) header run
  umbreon_open_only = open_only n umbreon_heeds

  pub jolteon_seal_only : (header body : List ℕ) → Alike F G (seal_calls n (jolteon n F nonce) header body)
      → seal_run n (jolteon n F nonce) header body ≡ seal_run n (jolteon n G nonce) header body
  jolteon_seal_only = seal_only n jolteon_heeds

  pub jolteon_open_only : (header run : List ℕ) → Alike F G (open_calls n (jolteon n F nonce) header run)
      → open_run n (jolteon n F nonce) header run ≡ open_run n (jolteon n G nonce) header run
  jolteon_open_only = open_only n jolteon_heeds
