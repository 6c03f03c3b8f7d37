-- A block call on sixteen bytes, read in the cipher's own bytes. Assumes nothing.
use mathlib.Core.Path.{◌≡◌, sym, ap, ◌∙◌}
use mathlib.Core.List.{List}
use Prim.Native.Nat.{ℕ}
use lib.ListN.{take}
use Rattle.ciphers.specs.declared.Cipher.{Cipher}
use Rattle.ciphers.specs.Ciphers.{block_of}
use Rattle.forkskinny.specs.ForkSkinny.{half, input, other}
use Rattle.forkskinny.proofs.Forkcipher.{half_front, input_front, other_front}
use Rattle.states.specs.Skinny.{skinny}

-- t is the tweak in sixteen bytes, T its bytes that count
module _ (c : Cipher) (key : List ℕ) (h : ℕ) (t T x : List ℕ) (e : take (block_of c) t ≡ T) where
  abbrev n : ℕ
  n = block_of c

  pub half_is : take n (half c key t h x) ≡ (skinny c key).half h T (take n x)
  unfolding skinny
  half_is = ap (take n) (sym (half_front c key t h x) ∙ ap (λ (u : List ℕ). half c key u h (take n x)) e)

  pub input_is : take n (input c key t h x) ≡ (skinny c key).input h T (take n x)
  unfolding skinny
  input_is = ap (take n) (sym (input_front c key t h x) ∙ ap (λ (u : List ℕ). input c key u h (take n x)) e)

  pub other_is : take n (other c key t h x) ≡ (skinny c key).other h T (take n x)
  unfolding skinny
  other_is = ap (take n) (sym (other_front c key t h x) ∙ ap (λ (u : List ℕ). other c key u h (take n x)) e)
