-- SAEF obeys the laws of a mode, over any forkcipher that obeys its own. Assumes nothing.
use mathlib.Core.Path.{◌≡◌, refl, sym, ap, ◌∙◌}
use Prim.Native.Nat.{ℕ, ◌+◌, ◌<◌}
use native.Mathlib.Omega.{arith}
use mathlib.Core.Bool.{Bool, true, false}
use mathlib.Core.List.{List, [], ◌∷◌}
use lib.ListN.{length}
use lib.Dec.{lit<}
use Rattle.cells.specs.Cells.{Block}
use Rattle.modes.specs.Blocks.{◌⊕◌}
use Rattle.modes.specs.Forkcipher.{Fork, ForkLaws, Undo}
use Rattle.modes.specs.Lawful.{Lawful}
use Rattle.modes.specs.Saef.{Mask, saef_tweak, saef_head, saef_body, mask_tweak, mask_half, mask_input, mask_other, saef}
use Rattle.modes.proofs.Bytes.{bytes_nil, bytes_cons, block_append, block_size, block_zeros, xor_block, xor_undo}
use Rattle.modes.proofs.Undo.{undo_xor, undo_then}

-- what holds of every state: Δ is a block
pub record MaskOk (n : ℕ) (s : Mask) : Type 0 where
  pub block : Block n s.delta

-- ---- a flag has three bits

head_small : (noM full : Bool) → saef_head noM full < 8
unfolding saef_head
head_small false true = lit< tt
head_small false false = lit< tt
head_small true true = lit< tt
head_small true false = lit< tt

body_small : (full : Bool) → saef_body full < 8
unfolding saef_body
body_small true = lit< tt
body_small false = lit< tt

byte_block : (v : ℕ) → v < 256 → Block 1 (v ∷ [])
byte_block v h = record { long = refl; bytes = bytes_cons h bytes_nil }

saef_tweak_block : (ν : ℕ) (nonce : List ℕ) → Block ν nonce → (first : Bool) (flag : ℕ) → flag < 8
    → Block (ν + 1) (saef_tweak nonce first flag)
unfolding saef_tweak
saef_tweak_block ν nonce hn true flag h = block_append hn (byte_block (8 + flag) (omega arith))
saef_tweak_block ν nonce hn false flag h = block_append (block_size (block_zeros (length nonce)) hn.long) (byte_block flag (omega arith))

module _ (n ν : ℕ) (F : Fork) (L : ForkLaws n F) (e : ν + 1 ≡ n) (nonce : List ℕ) (hn : Block ν nonce) where
  tweak_block : (flag : ℕ) (s : Mask) → flag < 8 → Block n (mask_tweak n F nonce flag s)
  unfolding mask_tweak
  tweak_block flag s h = block_size (saef_tweak_block ν nonce hn s.first flag h) e

  -- ---- the masked block, under any flag

  half0_block : (flag : ℕ) (s : Mask) (x : List ℕ) → flag < 8 → MaskOk n s → Block n x → Block n (mask_half n F nonce 0 flag s x)
  unfolding mask_half
  half0_block flag s x h ok b = (L.undo _ (tweak_block flag s h)).to _ (xor_block n x _ b ok.block)

  half1_block : (flag : ℕ) (s : Mask) (x : List ℕ) → flag < 8 → MaskOk n s → Block n x → Block n (mask_half n F nonce 1 flag s x)
  unfolding mask_half
  half1_block flag s x h ok b = (L.undo_second _ (tweak_block flag s h)).to _ (xor_block n x _ b ok.block)

  mask_undo : (flag : ℕ) (s : Mask) → flag < 8 → MaskOk n s
      → Undo n (λ x. mask_half n F nonce 0 flag s x ⊕ s.delta) (λ c. mask_input n F nonce flag s c ⊕ s.delta)
  unfolding mask_half mask_input
  mask_undo flag s h ok = undo_then (undo_then (undo_xor ok.block) (L.undo _ (tweak_block flag s h))) (undo_xor ok.block)

  -- from half 0: Δ, added to the input that was found and then again, is gone
  mask_other_lem : (flag : ℕ) (s : Mask) (c : List ℕ) → flag < 8 → MaskOk n s → Block n c
      → mask_other n F nonce flag s c ≡ mask_half n F nonce 1 flag s (mask_input n F nonce flag s c ⊕ s.delta)
  unfolding mask_half mask_input mask_other
  mask_other_lem flag s c h ok b =
      let tw : Block n (mask_tweak n F nonce flag s) = tweak_block flag s h in
      let m : Block n (c ⊕ s.delta) = xor_block n c _ b ok.block in
      let i : Block n (F.input 0 (mask_tweak n F nonce flag s) (c ⊕ s.delta)) = (L.undo _ tw).fro _ m in
      L.other_is _ _ tw m
      ∙ ap (F.half 1 (mask_tweak n F nonce flag s)) (sym (xor_undo _ s.delta (i.long ∙ sym ok.block.long)))

  pub saef_lawful : Lawful n (saef n F nonce) (MaskOk n)
  unfolding saef
  saef_lawful =
      record {
        positive = omega arith;
        start_ok = record { block = block_zeros n };
        head_ok = λ s x ok b. record { block = half0_block 0 s x (lit< tt) ok b };
        last_ok = λ noM f s x ok b. record { block = half0_block (saef_head noM f) s x (head_small noM f) ok b };
        next_ok = λ s x ok b. record { block = half1_block 1 s x (lit< tt) ok b };
        undo = λ s ok. mask_undo 1 s (lit< tt) ok;
        undo_fin = λ f s ok. mask_undo (saef_body f) s (body_small f) ok;
        tag_block = λ f s x ok b. half1_block (saef_body f) s x (body_small f) ok b;
        alone_block = λ s ok. ok.block;
        next_is = λ s c ok b. ap (λ (z : List ℕ). record { delta = z; first = false }) (mask_other_lem 1 s c (lit< tt) ok b);
        tag_is = λ f s c ok b. mask_other_lem (saef_body f) s c (body_small f) ok b;
      }
