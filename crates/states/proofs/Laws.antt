-- ForkSkinny under a key of bytes obeys the laws that the modes ask of a forkcipher: those of the block calls, in the cipher's own
-- bytes. Assumes nothing.
use mathlib.Core.Path.{◌≡◌, refl, sym, ap, ◌∙◌, subst⁻¹}
use mathlib.Core.List.{List, ◌++◌}
use Prim.Native.Nat.{ℕ, ◌+◌, ◌-◌}
use native.Mathlib.Omega.{arith}
use lib.ListN.{length, take, replicate}
use lib.Seq.{take_all, take_at, length-take-le}
use Rattle.ciphers.proofs.Laws.{block_most}
use Rattle.cells.specs.Cells.{Bytes, Block}
use Rattle.ciphers.specs.declared.Cipher.{Cipher}
use Rattle.ciphers.specs.declared.Cipher.TheVariants.{N64T192, N128T256}
use Rattle.ciphers.specs.Ciphers.{width_of, block_of, counted}
use Rattle.forkskinny.specs.ForkSkinny.{half, input, other}
use Rattle.forkskinny.proofs.Forkcipher as F
use Rattle.modes.specs.Forkcipher.{Undo, ForkLaws}
use Rattle.modes.proofs.Bytes.{block_take, block_zeros, block_append}
use Rattle.states.specs.Skinny.{skinny}

-- the bytes of a block that count
counted_front : (c : Cipher) (b : List ℕ) → length b ≡ 16 → take (block_of c) (counted (width_of c) b) ≡ take (block_of c) b
counted_front N64T192 b l = take_at (take 8 b) (replicate 8 0) 8 (length-take-le 8 b (omega arith))
counted_front N128T256 b l = refl

module _ (c : Cipher) (key : List ℕ) (hk : Bytes key) (tweak : List ℕ) (ht : Block (block_of c) tweak) where
  abbrev n : ℕ
  n = block_of c

  tweak_front : take n tweak ≡ tweak
  tweak_front = take_all n tweak (omega (arith, ht.long))

  -- ---- what stands behind the cipher's bytes is not read

  half_cut : (h : ℕ) (y : List ℕ) → half c key tweak h (take n y) ≡ half c key tweak h y
  half_cut h y = ap (λ (t : List ℕ). half c key t h (take n y)) (sym tweak_front) ∙ F.half_front c key tweak h y

  input_cut : (h : ℕ) (y : List ℕ) → input c key tweak h (take n y) ≡ input c key tweak h y
  input_cut h y = ap (λ (t : List ℕ). input c key t h (take n y)) (sym tweak_front) ∙ F.input_front c key tweak h y

  other_cut : (h : ℕ) (y : List ℕ) → other c key tweak h (take n y) ≡ other c key tweak h y
  other_cut h y = ap (λ (t : List ℕ). other c key t h (take n y)) (sym tweak_front) ∙ F.other_front c key tweak h y

  -- ---- a block in sixteen bytes

  abbrev wide : List ℕ → List ℕ
  wide x = x ++ replicate (16 - n) 0

  module _ (x : List ℕ) (b : Block n x) where
    cut : take n (wide x) ≡ x
    cut = take_at x (replicate (16 - n) 0) n b.long

    sixteen : Block 16 (wide x)
    sixteen =
        let w : Block (n + (16 - n)) (wide x) = block_append b (block_zeros (16 - n)) in
        record { long = w.long ∙ omega (arith, block_most c); bytes = w.bytes }

    half_wide : (h : ℕ) → half c key tweak h x ≡ half c key tweak h (wide x)
    half_wide h = ap (half c key tweak h) (sym cut) ∙ half_cut h (wide x)

    input_wide : (h : ℕ) → input c key tweak h x ≡ input c key tweak h (wide x)
    input_wide h = ap (input c key tweak h) (sym cut) ∙ input_cut h (wide x)

    back_front : take n (counted (width_of c) (wide x)) ≡ x
    back_front = counted_front c (wide x) sixteen.long ∙ cut

    front_block : (y : List ℕ) → Block 16 y → Block n (take n y)
    front_block y h = block_take n y (omega (arith, h.long, block_most c)) h.bytes

    half_to : (h : ℕ) → Block n (take n (half c key tweak h x))
    half_to h = subst⁻¹ (λ (y : List ℕ). Block n (take n y)) (half_wide h) (front_block _ (F.half_block c key tweak hk ht.bytes h (wide x) sixteen))

    input_to : (h : ℕ) → Block n (take n (input c key tweak h x))
    input_to h = subst⁻¹ (λ (y : List ℕ). Block n (take n y)) (input_wide h) (front_block _ (F.input_block c key tweak hk ht.bytes h (wide x) sixteen))

    there : (h : ℕ) → take n (input c key tweak h (take n (half c key tweak h x))) ≡ x
    there h =
        ap (take n)
        (input_cut h (half c key tweak h x) ∙ ap (input c key tweak h) (half_wide h) ∙ F.input_half c key tweak hk ht.bytes h (wide x) sixteen)
        ∙ back_front

    again : (h : ℕ) → take n (half c key tweak h (take n (input c key tweak h x))) ≡ x
    again h =
        ap (take n)
        (half_cut h (input c key tweak h x) ∙ ap (half c key tweak h) (input_wide h) ∙ F.half_input c key tweak hk ht.bytes h (wide x) sixteen)
        ∙ back_front

    other_of_input : other c key tweak 0 x ≡ half c key tweak 1 (take n (input c key tweak 0 x))
    other_of_input =
        ap (other c key tweak 0) (sym cut)
        ∙ other_cut 0 (wide x)
        ∙ F.other_input c key tweak hk ht.bytes 0 (wide x) sixteen
        ∙ ap (half c key tweak 1) (sym (input_wide 0))
        ∙ sym (half_cut 1 (input c key tweak 0 x))

undo_half : (c : Cipher) (key : List ℕ) → Bytes key → (h : ℕ) (tweak : List ℕ) → Block (block_of c) tweak
    → Undo (block_of c) ((skinny c key).half h tweak) ((skinny c key).input h tweak)
unfolding skinny
undo_half c key hk h t ht = record {
  to = λ x b. half_to c key hk t ht x b h;
  fro = λ x b. input_to c key hk t ht x b h;
  there = λ x b. there c key hk t ht x b h;
  again = λ x b. again c key hk t ht x b h;
}

pub skinny_laws : (c : Cipher) (key : List ℕ) → Bytes key → ForkLaws (block_of c) (skinny c key)
unfolding skinny
skinny_laws c key hk = record {
  undo = undo_half c key hk 0;
  undo_second = undo_half c key hk 1;
  other_is = λ t x ht b. ap (take (block_of c)) (other_of_input c key hk t ht x b);
}
