-- The block calls meet the correctness condition of a forkcipher (the Forkcipher paper, 3.1, conditions 1 to 4), each cipher by
-- its number; what they take and what they refuse, what they read and what they leave; and a contract leaves a caller one result.
-- Assumes nothing.
use mathlib.Core.Path.{◌≡◌, refl, sym, ap, ◌∙◌}
use mathlib.Core.Bool.{Bool, true, false, cond}
use mathlib.Core.List.{List}
use Prim.Native.Nat.{ℕ, zero, suc, ◌<◌}
use native.Mathlib.Omega.{arith}
use lib.ListN.{take}
use borrow.Author.Tests.{lt-ltb, le-ltb, ne_eqb}
use Rattle.ciphers.specs.declared.Cipher.{Cipher}
use Rattle.ciphers.specs.declared.Cipher.TheVariants.{N64T192, N128T256}
use Rattle.ciphers.specs.Ciphers.{width_of, block_of, counted, number_of}
use Rattle.cells.specs.Cells.{Width, Nibble, Byte, Bytes, Block}
use Rattle.cells.proofs.Choice.{either}
use Rattle.forkskinny.specs.ForkSkinny.{half, input, other, other_of}
use Rattle.std.specs.Prelude.{Result}
use Rattle.refusals.specs.declared.Refusal.{Refusal}
use Rattle.forkskinny.specs.declared.Forked.{Forked}
use Rattle.forkskinny.specs.declared.Unforked.{Unforked}
use Rattle.forkskinny.specs.Calls.{ForkTold, UnforkTold, zeros, given, wants, fork_rounds, fork_refused, fork_result, fork_by, fork_of, unfork_rounds, unfork_refused, unfork_result, unfork_by, unfork_of}
use Rattle.forkskinny.proofs.Told.{fork_named, unfork_named}
use Rattle.forkskinny.proofs.Forkcipher.{input_half, other_half, half_input}
use Rattle.forkskinny.proofs.Forkcipher.{half_behind, input_behind, other_behind, half_front, input_front, other_front}

-- ---- the calls as the paper writes them, for a cipher c and a half h

-- F(K, T, M, h): half h of the block m, asked for alone; h is 0 or 1
abbrev pub fork_one : Cipher → List ℕ → List ℕ → List ℕ → ℕ → List ℕ
fork_one c key tweak m zero = (fork_of (number_of c) key tweak m 0).half0
fork_one c key tweak m (suc h) = (fork_of (number_of c) key tweak m 1).half1

-- F⁻¹(K, T, x, h, i): the input from half h
abbrev pub unfork_input : Cipher → List ℕ → List ℕ → List ℕ → ℕ → List ℕ
unfork_input c key tweak x h = (unfork_of (number_of c) key tweak x h 0).input

-- F⁻¹(K, T, x, h, o): the other half from half h
abbrev pub unfork_other : Cipher → List ℕ → List ℕ → List ℕ → ℕ → List ℕ
unfork_other c key tweak x h = (unfork_of (number_of c) key tweak x h 1).other

-- ---- what the calls answer where they don't refuse

forks : (c : Cipher) (key tweak m : List ℕ) (want : ℕ) → want < 3
    → fork_of (number_of c) key tweak m want ≡ fork_by c key tweak m want
unfolding fork_of
forks N64T192 key tweak m want p = rw (le-ltb 2 want (omega arith))
forks N128T256 key tweak m want p = rw (le-ltb 2 want (omega arith))

unforks : (c : Cipher) (key tweak x : List ℕ) (h want : ℕ) → h < 2 → want < 3
    → unfork_of (number_of c) key tweak x h want ≡ unfork_by c key tweak x h want
unfolding unfork_of
unforks N64T192 key tweak x h want p q = rw (le-ltb 1 h (omega arith), le-ltb 2 want (omega arith))
unforks N128T256 key tweak x h want p q = rw (le-ltb 1 h (omega arith), le-ltb 2 want (omega arith))

other_lt : (h : ℕ) → other_of h < 2
other_lt zero = omega arith
other_lt (suc h) = omega arith

module _ (c : Cipher) (key tweak : List ℕ) where
  one : (m : List ℕ) (h : ℕ) → h < 2 → fork_one c key tweak m h ≡ half c key tweak h m
  unfolding wants
  one m zero p = ap (λ (f : ForkTold). f.half0) (forks c key tweak m 0 (omega arith))
  one m (suc zero) p = ap (λ (f : ForkTold). f.half1) (forks c key tweak m 1 (omega arith))
  one m (suc (suc h)) p = absurd (omega arith)

  back : (x : List ℕ) (h : ℕ) → h < 2 → unfork_input c key tweak x h ≡ input c key tweak h x
  unfolding wants
  back x h p = ap (λ (f : UnforkTold). f.input) (unforks c key tweak x h 0 p (omega arith))

  across : (x : List ℕ) (h : ℕ) → h < 2 → unfork_other c key tweak x h ≡ other c key tweak h x
  unfolding wants
  across x h p = ap (λ (f : UnforkTold). f.other) (unforks c key tweak x h 1 p (omega arith))

  -- ---- conditions 1 and 2: from a half the input, its part that counts, and the other half

  module _ (hk : Bytes key) (ht : Bytes tweak) (h : ℕ) (p : h < 2) where
    pub condition_1 : (m : List ℕ) → Block 16 m → unfork_input c key tweak (fork_one c key tweak m h) h ≡ counted (width_of c) m
    condition_1 m b =
        ap (λ (x : List ℕ). unfork_input c key tweak x h) (one m h p) ∙ back (half c key tweak h m) h p
        ∙ input_half c key tweak hk ht h m b

    pub condition_2 : (m : List ℕ) → Block 16 m
        → unfork_other c key tweak (fork_one c key tweak m h) h ≡ fork_one c key tweak m (other_of h)
    condition_2 m b =
        ap (λ (x : List ℕ). unfork_other c key tweak x h) (one m h p) ∙ across (half c key tweak h m) h p
        ∙ other_half c key tweak hk ht h m b ∙ sym (one m (other_of h) (other_lt h))

    -- condition 1 the other way round: every block is half h of some input, so that each half is a permutation
    pub every_half : (x : List ℕ) → Block 16 x → fork_one c key tweak (unfork_input c key tweak x h) h ≡ counted (width_of c) x
    every_half x b =
        ap (λ (m : List ℕ). fork_one c key tweak m h) (back x h p) ∙ one (input c key tweak h x) h p
        ∙ half_input c key tweak hk ht h x b

  -- ---- conditions 3 and 4: both results at once are the two alone, whatever the lists hold

  pub condition_3 : (m : List ℕ)
      → fork_of (number_of c) key tweak m 2 ≡ record { number = 0; half0 = fork_one c key tweak m 0; half1 = fork_one c key tweak m 1; rounds = fork_rounds c 2 }
  unfolding wants
  condition_3 m = rw (one m 0 (omega arith), one m 1 (omega arith), forks c key tweak m 2 (omega arith))

  pub condition_4 : (x : List ℕ) (h : ℕ) → h < 2
      → unfork_of (number_of c) key tweak x h 2
      ≡ record { number = 0; input = unfork_input c key tweak x h; other = unfork_other c key tweak x h; rounds = unfork_rounds c 2 }
  unfolding wants
  condition_4 x h p = rw (back x h p, across x h p, unforks c key tweak x h 2 p (omega arith))

  -- ---- these calls are taken: the number is 0

  pub fork_takes : (m : List ℕ) (want : ℕ) → want < 3 → (fork_of (number_of c) key tweak m want).number ≡ 0
  fork_takes m want p = ap (λ (f : ForkTold). f.number) (forks c key tweak m want p)

  pub unfork_takes : (x : List ℕ) (h want : ℕ) → h < 2 → want < 3 → (unfork_of (number_of c) key tweak x h want).number ≡ 0
  unfork_takes x h want p q = ap (λ (f : UnforkTold). f.number) (unforks c key tweak x h want p q)

  -- ---- of tweak and block the cipher's bytes count alone, and what was not asked for comes back as zeros

  pub fork_front : (m : List ℕ) (want : ℕ) → want < 3
      → fork_of (number_of c) key (take (block_of c) tweak) (take (block_of c) m) want ≡ fork_of (number_of c) key tweak m want
  fork_front m want p =
      rw (
        forks c key (take (block_of c) tweak) (take (block_of c) m) want p,
        forks c key tweak m want p,
        half_front c key tweak 0 m,
        half_front c key tweak 1 m,
      )

  pub unfork_front : (x : List ℕ) (h want : ℕ) → h < 2 → want < 3
      → unfork_of (number_of c) key (take (block_of c) tweak) (take (block_of c) x) h want ≡ unfork_of (number_of c) key tweak x h want
  unfork_front x h want p q =
      rw (
        unforks c key (take (block_of c) tweak) (take (block_of c) x) h want p q,
        unforks c key tweak x h want p q,
        input_front c key tweak h x,
        other_front c key tweak h x,
      )

  pub fork_unasked : (m : List ℕ) → ((fork_of (number_of c) key tweak m 0).half1 ≡ zeros) × ((fork_of (number_of c) key tweak m 1).half0 ≡ zeros)
  unfolding wants
  fork_unasked m = (
    ap (λ (f : ForkTold). f.half1) (forks c key tweak m 0 (omega arith)),
    ap (λ (f : ForkTold). f.half0) (forks c key tweak m 1 (omega arith)),
  )

  pub unfork_unasked : (x : List ℕ) (h : ℕ) → h < 2
      → ((unfork_of (number_of c) key tweak x h 0).other ≡ zeros) × ((unfork_of (number_of c) key tweak x h 1).input ≡ zeros)
  unfolding wants
  unfork_unasked x h p = (
    ap (λ (f : UnforkTold). f.other) (unforks c key tweak x h 0 p (omega arith)),
    ap (λ (f : UnforkTold). f.input) (unforks c key tweak x h 1 p (omega arith)),
  )

-- ---- every block that a call gives has zeros behind the cipher's bytes

given_behind : (w : Width) (asked : Bool) (b : List ℕ) → counted w b ≡ b → counted w (given asked b) ≡ given asked b
given_behind Nibble asked b e = either (λ (l : List ℕ). counted Nibble l ≡ l) asked b zeros e refl
given_behind Byte asked b e = refl

module _ (c : Cipher) (key tweak : List ℕ) where
  pub fork_behind : (m : List ℕ) (want : ℕ) → want < 3
      → let f = fork_of (number_of c) key tweak m want in
      (counted (width_of c) f.half0 ≡ f.half0) × (counted (width_of c) f.half1 ≡ f.half1)
  fork_behind m want p =
      rw (forks c key tweak m want p)
      (given_behind (width_of c) (wants 0 want) _ (half_behind c key tweak 0 m), given_behind (width_of c) (wants 1 want) _ (half_behind c key tweak 1 m))

  pub unfork_behind : (x : List ℕ) (h want : ℕ) → h < 2 → want < 3
      → let f = unfork_of (number_of c) key tweak x h want in
      (counted (width_of c) f.input ≡ f.input) × (counted (width_of c) f.other ≡ f.other)
  unfork_behind x h want p q =
      rw (unforks c key tweak x h want p q)
      (given_behind (width_of c) (wants 0 want) _ (input_behind c key tweak h x), given_behind (width_of c) (wants 1 want) _ (other_behind c key tweak h x))

-- ---- every other call is refused, for its cipher, its choice or its half; and any two results that a contract allows are equal

pick_same : {A : Type 0} (t : Bool) (a : A) → cond t a a ≡ a
pick_same true a = refl
pick_same false a = refl

module _ (cipher : ℕ) (key tweak block : List ℕ) (want : ℕ) where
  pub fork_no_cipher : (cipher ≡ 1 → ⊥) → (cipher ≡ 2 → ⊥) → fork_of cipher key tweak block want ≡ fork_refused
  unfolding fork_of
  fork_no_cipher p q = simp (ne_eqb cipher 1 p, ne_eqb cipher 2 q, pick_same)

  pub fork_no_choice : 2 < want → fork_of cipher key tweak block want ≡ fork_refused
  unfolding fork_of
  fork_no_choice p = rw (lt-ltb 2 want p)

  pub same_fork : (a b : Result Forked Refusal) → fork_result a ≡ fork_of cipher key tweak block want → fork_result b ≡ fork_of cipher key tweak block want → a ≡ b
  same_fork a b p q = fork_named a b (p ∙ sym q)

module _ (cipher : ℕ) (key tweak block : List ℕ) (from want : ℕ) where
  pub unfork_no_cipher : (cipher ≡ 1 → ⊥) → (cipher ≡ 2 → ⊥) → unfork_of cipher key tweak block from want ≡ unfork_refused
  unfolding unfork_of
  unfork_no_cipher p q = simp (ne_eqb cipher 1 p, ne_eqb cipher 2 q, pick_same)

  pub unfork_no_choice : 2 < want → unfork_of cipher key tweak block from want ≡ unfork_refused
  unfolding unfork_of
  unfork_no_choice p = simp (lt-ltb 2 want p, pick_same)

  pub unfork_no_half : 1 < from → unfork_of cipher key tweak block from want ≡ unfork_refused
  unfolding unfork_of
  unfork_no_half p = rw (lt-ltb 1 from p)

  pub same_unfork : (a b : Result Unforked Refusal)
      → unfork_result a ≡ unfork_of cipher key tweak block from want → unfork_result b ≡ unfork_of cipher key tweak block from want → a ≡ b
  same_unfork a b p q = unfork_named a b (p ∙ sym q)
