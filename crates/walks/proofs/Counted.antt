-- The rounds as they are counted: no product and no sum is too large for 32 bits, and what comes out is the formula. The code has the
-- block's length as N, the prices as P, the header's blocks as H and the body's blocks before the last as B. Assumes nothing.
use mathlib.Core.Path.{◌≡◌, refl, ap, subst⁻¹, ◌∙◌}
use Prim.Native.Nat.{ℕ, ◌+◌, ◌*◌, ◌≤◌}
use native.Mathlib.Nat.{mul-le-mul}
use native.Mathlib.Omega.{arith}
use mathlib.Core.Bool.{Bool, true, false, ◌&&◌}
use lib.Dec.{lit≤}
use borrow.Author.Tests.{eq-eqb, ne_eqb}
use Rattle.ciphers.specs.declared.Cipher.{Cipher}
use Rattle.ciphers.specs.declared.Cipher.TheVariants.{N64T192, N128T256}
use Rattle.ciphers.specs.Ciphers.{block_of}
use Rattle.forkskinny.specs.Calls.{wants, fork_rounds}
use Rattle.modes.specs.Blocks.{before_last, none}
use Rattle.modes.specs.Forkcipher.{half0, both_halves}
use Rattle.modes.specs.Rounds.{blocks, head_blocks, rounds_by}
use Rattle.modes.proofs.Rounds.{before_last_few, head_blocks_few, rounds_few}
use Rattle.states.specs.declared.Kind.{Kind}
use Rattle.states.specs.declared.Kind.TheVariants.{Paef, Saef, Umbreon, Jolteon}
use Rattle.states.specs.declared.Prices.{Prices}
use Rattle.states.specs.Skinny.{cost_of}
use Rattle.states.specs.Modes.{prices_of, rounds_of}

-- ---- a block has eight bytes at least, and no price is above 128

pub wide : (c : Cipher) → 8 ≤ block_of c
wide N64T192 = lit≤ tt
wide N128T256 = lit≤ tt

pub record Low (p : Prices) : Type 0 where
  pub head : p.head ≤ 128
  pub block : p.block ≤ 128
  pub last : p.last ≤ 128

one_low : (c : Cipher) → cost_of c half0 ≤ 128
unfolding fork_rounds wants
one_low N64T192 = lit≤ tt
one_low N128T256 = lit≤ tt

both_low : (c : Cipher) → cost_of c both_halves ≤ 128
unfolding fork_rounds wants
both_low N64T192 = lit≤ tt
both_low N128T256 = lit≤ tt

prices_low : (k : Kind) (c : Cipher) → Low (prices_of k c)
prices_low Paef c = record { head = one_low c; block = both_low c; last = both_low c }
prices_low Saef c = record { head = one_low c; block = both_low c; last = both_low c }
prices_low Umbreon c = record { head = one_low c; block = both_low c; last = both_low c }
prices_low Jolteon c = record { head = one_low c; block = one_low c; last = both_low c }

-- so that the rounds of a record are a number of 32 bits
pub rounds_fit : (k : Kind) (c : Cipher) (header body : ℕ) → header ≤ 16777216 → body ≤ 16777216 → rounds_of k c header body ≤ 536870912
unfolding rounds_of
rounds_fit k c header body h b =
    let l = prices_low k c in
    rounds_few (block_of c) (wide c) _ _ _ header body l.head l.block l.last h b

-- a header that is not empty is walked as it is, whatever the body
pub some_header : (n header body : ℕ) → (header ≡ 0 → ⊥) → head_blocks n header body ≡ before_last n header + 1
unfolding head_blocks blocks
some_header n header body h = rw (ne_eqb header 0 h, and_false (none body))
  where
    and_false : (b : Bool) → (b && false) ≡ false
    and_false true = refl
    and_false false = refl

-- ---- as the code has them

module _ (k : Kind) (c : Cipher) (header body : ℕ) (N : ℕ) (size : N ≡ block_of c) (P : Prices) (price : P ≡ prices_of k c) where
  low : Low P
  low = subst⁻¹ Low price (prices_low k c)

  -- the header's: how large, and what they are; all there is where the body is empty
  module _ (H : ℕ) (heads : H ≡ head_blocks N header body) where
    of_header : H * P.head ≡ head_blocks (block_of c) header body * (prices_of k c).head
    of_header = λ i. (heads ∙ ap (λ (m : ℕ). head_blocks m header body) size) i * (price i).head

    pub head_few : header ≤ 16777216 → (H ≤ 2097152) × (H * P.head ≤ 268435456)
    head_few fits =
        let h : H ≤ 2097152
        = omega (arith, head_blocks_few (block_of c) (wide c) header body fits, heads ∙ ap (λ (m : ℕ). head_blocks m header body) size) in
        let m : H * P.head ≤ 2097152 * 128 = mul-le-mul h low.head in
        (h, omega arith)

    pub counted_none : body ≡ 0 → H * P.head ≡ rounds_of k c header body
    unfolding rounds_of rounds_by
    counted_none e = rw (eq-eqb body 0 e) (omega (arith, of_header))

  -- the body's, likewise
  module _ (B : ℕ) (before : B ≡ before_last N body) where
    of_body : B * P.block ≡ before_last (block_of c) body * (prices_of k c).block
    of_body = λ i. (before ∙ ap (λ (m : ℕ). before_last m body) size) i * (price i).block

    pub body_few : body ≤ 16777216 → (B ≤ 2097152) × (B * P.block ≤ 268435456) × (P.last ≤ 128)
    body_few fits =
        let b : B ≤ 2097152 = omega (arith, before_last_few (block_of c) (wide c) body fits, before ∙ ap (λ (m : ℕ). before_last m body) size) in
        let m : B * P.block ≤ 2097152 * 128 = mul-le-mul b low.block in
        (b, omega arith, low.last)

  pub counted_some : (H : ℕ) → H ≡ head_blocks N header body → (B : ℕ) → B ≡ before_last N body → (body ≡ 0 → ⊥)
      → H * P.head + B * P.block + P.last ≡ rounds_of k c header body
  unfolding rounds_of rounds_by
  counted_some H heads B before e =
      rw (ne_eqb body 0 e) (omega (arith, of_header H heads, of_body B before, ap (λ (p : Prices). p.last) price))
