-- Umbreon and Jolteon obey the laws of a mode, over any forkcipher that obeys its own. Header and last block are the family's, proved once for
-- whatever a mode does with the blocks before the last (`Own`). Assumes nothing.
use mathlib.Core.Path.{◌≡◌, sym, ap, ◌∙◌}
use Prim.Native.Nat.{ℕ, ◌+◌, ◌*◌}
use native.Mathlib.Omega.{arith}
use mathlib.Core.List.{List}
use Rattle.cells.specs.Cells.{Block}
use Rattle.modes.specs.Blocks.{◌⊕◌}
use Rattle.modes.specs.Forkcipher.{Fork, ForkLaws, Undo}
use Rattle.modes.specs.Lawful.{Lawful}
use Rattle.modes.specs.Eevee.{Chain, Middle, bit, head_tweak, body_tweak, head_end, last_mask, head_link, body_half, body_input, body_other, eevee}
use Rattle.modes.specs.Jolteon.{jolteon_own, jolteon}
use Rattle.modes.specs.Umbreon.{umbreon_own, umbreon}
use Rattle.modes.proofs.Bytes.{be16_block, block_append, block_size, block_zeros, xor_block, xor_undo, xor_swap}
use Rattle.modes.proofs.Undo.{undo_xor, undo_then}

-- what holds of every state: T_A, or the block before, and Δ are blocks
pub record ChainOk (n : ℕ) (s : Chain) : Type 0 where
  pub link : Block n s.link
  pub delta : Block n s.delta

-- what is asked of the blocks before the last
pub record Own (n : ℕ) (own : Middle) : Type 0 where
  pub next_ok : (s : Chain) (x : List ℕ) → ChainOk n s → Block n x → ChainOk n (own.next s x)
  pub undo : (s : Chain) → ChainOk n s → Undo n (own.out s) (own.back s)
  pub next_is : (s : Chain) (c : List ℕ) → ChainOk n s → Block n c → own.back_next s c ≡ own.next s (own.back s c)

module _ (n ν : ℕ) (F : Fork) (L : ForkLaws n F) (e : ν + 2 ≡ n) (nonce : List ℕ) (hn : Block ν nonce) where
  head_tweak_block : (v : ℕ) → Block n (head_tweak nonce v)
  unfolding head_tweak
  head_tweak_block v = block_size (block_append hn (be16_block (v * 4))) e

  body_tweak_block : (v : ℕ) → Block n (body_tweak nonce v)
  unfolding body_tweak
  body_tweak_block v = block_size (block_append hn (be16_block (v * 2 + 1))) e

  -- ---- a body block under any number

  body_undo : (v : ℕ) → Undo n (body_half n F nonce 0 v) (body_input n F nonce v)
  unfolding body_half body_input
  body_undo v = L.undo _ (body_tweak_block v)

  half1_block : (v : ℕ) (x : List ℕ) → Block n x → Block n (body_half n F nonce 1 v x)
  unfolding body_half
  half1_block v x b = (L.undo_second _ (body_tweak_block v)).to x b

  -- masked by m, and from half 0 the mask, added to the input that was found and then again, is gone
  masked_undo : (v : ℕ) (m : List ℕ) → Block n m → Undo n (λ x. body_half n F nonce 0 v (x ⊕ m)) (λ c. body_input n F nonce v c ⊕ m)
  masked_undo v m h = undo_then (undo_xor h) (body_undo v)

  masked_other : (v : ℕ) (m c : List ℕ) → Block n m → Block n c
      → body_other n F nonce v c ≡ body_half n F nonce 1 v (body_input n F nonce v c ⊕ m ⊕ m)
  unfolding body_half body_input body_other
  masked_other v m c h b =
      let t = body_tweak_block v in
      L.other_is _ c t b
      ∙ ap (F.half 1 (body_tweak nonce v)) (sym (xor_undo _ m (((L.undo _ t).fro c b).long ∙ sym h.long)))

  -- ---- the family's header and last block

  head_block : (v : ℕ) (s : Chain) (x : List ℕ) → ChainOk n s → Block n x → Block n (head_link n F nonce v s x)
  unfolding head_link
  head_block v s x ok b = xor_block n _ _ ((L.undo _ (head_tweak_block v)).to x b) ok.link

  mask_block : (s : Chain) → ChainOk n s → Block n (last_mask s)
  unfolding last_mask
  mask_block s ok = xor_block n _ _ ok.delta ok.link

  tag_block : (v : ℕ) (s : Chain) (x : List ℕ) → ChainOk n s → Block n x → Block n (body_half n F nonce 1 v (x ⊕ last_mask s) ⊕ x)
  tag_block v s x ok b = xor_block n _ _ (half1_block v _ (xor_block n _ _ b (mask_block s ok))) b

  tag_is : (v : ℕ) (s : Chain) (c : List ℕ) → ChainOk n s → Block n c
      → body_input n F nonce v c ⊕ last_mask s ⊕ body_other n F nonce v c
      ≡ body_half n F nonce 1 v (body_input n F nonce v c ⊕ last_mask s ⊕ last_mask s) ⊕ (body_input n F nonce v c ⊕ last_mask s)
  tag_is v s c ok b =
      let m = body_input n F nonce v c ⊕ last_mask s in
      xor_swap m (body_other n F nonce v c) ∙ ap (λ (y : List ℕ). y ⊕ m) (masked_other v (last_mask s) c (mask_block s ok) b)

  pub eevee_lawful : (own : Middle) → Own n own → Lawful n (eevee n F nonce own) (ChainOk n)
  unfolding eevee
  eevee_lawful own O =
      record {
        positive = omega arith;
        start_ok = record { link = block_zeros n; delta = block_zeros n };
        head_ok = λ s x ok b. record { link = head_block (s.number + 4) s x ok b; delta = ok.delta };
        last_ok = λ noM f s x ok b. record { link = head_block (head_end noM f) s x ok b; delta = ok.delta };
        next_ok = O.next_ok;
        undo = O.undo;
        undo_fin = λ f s ok. masked_undo (bit f) (last_mask s) (mask_block s ok);
        tag_block = λ f s x ok b. tag_block (bit f) s x ok b;
        alone_block = λ s ok. ok.link;
        next_is = O.next_is;
        tag_is = λ f s c ok b. tag_is (bit f) s c ok b;
      }

  -- ---- the two modes

  pub umbreon_lawful : Lawful n (umbreon n F nonce) (ChainOk n)
  unfolding umbreon umbreon_own
  umbreon_lawful =
      eevee_lawful (umbreon_own n F nonce)
      (record {
        next_ok = λ s x ok b. record {
          link = half1_block (s.number + 1) _ (xor_block n _ _ b ok.link);
          delta = xor_block n _ _ ok.delta ok.link;
        };
        undo = λ s ok. masked_undo (s.number + 1) s.link ok.link;
        next_is = λ s c ok b.
            ap (λ (y : List ℕ). record { link = y; delta = s.delta ⊕ s.link; number = s.number + 1 })
            (masked_other (s.number + 1) s.link c ok.link b);
      })

  pub jolteon_lawful : Lawful n (jolteon n F nonce) (ChainOk n)
  unfolding jolteon jolteon_own
  jolteon_lawful =
      eevee_lawful (jolteon_own n F nonce)
      (record {
        next_ok = λ s x ok b. record {
          link = (body_undo (s.number + 1)).to x b;
          delta = xor_block n _ _ (xor_block n _ _ ok.delta b) ok.link;
        };
        undo = λ s ok. body_undo (s.number + 1);
        next_is = λ s c ok b.
            ap (λ (y : List ℕ). record {
              link = y;
              delta = s.delta ⊕ body_input n F nonce (s.number + 1) c ⊕ s.link;
              number = s.number + 1;
            }) (sym ((body_undo (s.number + 1)).again c b));
      })
