-- PAEF obeys the laws of a mode, over any forkcipher that obeys its own. Assumes nothing.
use mathlib.Core.Path.{◌≡◌, ap}
use Prim.Native.Nat.{ℕ, ◌+◌, ◌*◌}
use native.Mathlib.Omega.{arith}
use mathlib.Core.List.{List}
use Rattle.cells.specs.Cells.{Block}
use Rattle.modes.specs.Blocks.{◌⊕◌}
use Rattle.modes.specs.Forkcipher.{Fork, ForkLaws}
use Rattle.modes.specs.Lawful.{Lawful}
use Rattle.modes.specs.Paef.{Sum, paef_tweak, paef_head, paef_body, sum_tweak, sum_half, sum_input, sum_other, head_sum, paef}
use Rattle.modes.proofs.Bytes.{be16_block, block_append, block_size, block_zeros, xor_block}
use Rattle.modes.proofs.Undo.{undo_xor, undo_then}

-- what holds of every state: S is a block
pub record SumOk (n : ℕ) (s : Sum) : Type 0 where
  pub block : Block n s.sum

module _ (n ν : ℕ) (F : Fork) (L : ForkLaws n F) (e : ν + 2 ≡ n) (nonce : List ℕ) (hn : Block ν nonce) where
  pub number_block : (flag number : ℕ) → Block n (paef_tweak nonce flag number)
  unfolding paef_tweak
  number_block flag number = block_size (block_append hn (be16_block (flag * 8192 + number))) e

  tweak_block : (flag : ℕ) (s : Sum) → Block n (sum_tweak n F nonce flag s)
  unfolding sum_tweak
  tweak_block flag s = number_block flag s.number

  head_block : (flag : ℕ) (s : Sum) (x : List ℕ) → SumOk n s → Block n x → Block n (head_sum n F nonce flag s x)
  unfolding head_sum sum_half
  head_block flag s x ok b = xor_block n _ _ ok.block ((L.undo _ (tweak_block flag s)).to x b)

  pub paef_lawful : Lawful n (paef n F nonce) (SumOk n)
  unfolding paef sum_half sum_input sum_other
  paef_lawful =
      record {
        positive = omega arith;
        start_ok = record { block = block_zeros n };
        head_ok = λ s x ok b. record { block = head_block 0 s x ok b };
        last_ok = λ noM f s x ok b. record { block = head_block (paef_head f) s x ok b };
        next_ok = λ s x ok b. record { block = xor_block n _ _ ok.block ((L.undo_second _ (tweak_block 4 s)).to x b) };
        undo = λ s ok. L.undo _ (tweak_block 4 s);
        undo_fin = λ f s ok. undo_then (L.undo _ (tweak_block (paef_body f) s)) (undo_xor ok.block);
        tag_block = λ f s x ok b. (L.undo_second _ (tweak_block (paef_body f) s)).to x b;
        alone_block = λ s ok. ok.block;
        next_is = λ s c ok b.
            ap (λ (z : List ℕ). record { sum = s.sum ⊕ z; number = s.number + 1 }) (L.other_is _ c (tweak_block 4 s) b);
        tag_is = λ f s c ok b. L.other_is _ _ (tweak_block (paef_body f) s) (xor_block n c _ b ok.block);
      }
