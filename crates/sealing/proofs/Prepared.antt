-- A prepared key (C-16): under an admitted record every answer, room and round count is that of the key, stated on the definitions that take a
-- key; any other record is refused with 2, in 2's place; and any two results that a contract allows are equal. Which records are admitted
-- is crates/prepared/proofs/Admitted.antt. Assumes nothing.
use mathlib.Core.Path.{◌≡◌, refl, sym, ap, ◌∙◌}
use mathlib.Core.Bool.{false, cond}
use mathlib.Core.List.{List}
use Prim.Native.Nat.{ℕ, ◌<◌}
use native.Mathlib.Omega.{arith}
use borrow.Author.Tests.{le-ltb}
use lib.Dec.{ltb}
use Rattle.cells.specs.Cells.{Block}
use Rattle.ciphers.specs.declared.Cipher.{Cipher}
use Rattle.ciphers.specs.declared.Cipher.TheVariants.{N64T192, N128T256}
use Rattle.ciphers.specs.Ciphers.{number_of}
use Rattle.prepared.specs.declared.Prepared.{Prepared}
use Rattle.prepared.specs.Prepared.{prepared_of, key_of, admitted}
use Rattle.prepared.proofs.Found.{key_back}
use Rattle.prepared.proofs.Admitted.{all_admitted, key_of_lem}
use Rattle.std.specs.Prelude.{Result}
use Rattle.refusals.specs.declared.Refusal.{Refusal}
use Rattle.forkskinny.specs.declared.Forked.{Forked}
use Rattle.forkskinny.specs.declared.Unforked.{Unforked}
use Rattle.forkskinny.proofs.Told.{fork_named, unfork_named}
use Rattle.forkskinny.specs.Calls.{fork_result, unfork_result, fork_by, unfork_by, fork_refused_with, unfork_refused_with, fork_of, unfork_of, fork_with, unfork_with}
use Rattle.schemes.specs.declared.Scheme.{Scheme}
use Rattle.std.specs.Prelude.{Some}
use Rattle.schemes.specs.Schemes.{scheme_of}
use Rattle.schemes.proofs.Table.{named_fits}
use Rattle.sealing.specs.Calls.{Told, refused, seal_under, open_under, seal_of, open_of, seal_with, open_with}
use Rattle.sealing.specs.Keys.{seal_no_key, open_no_key}
use Rattle.sealing.proofs.Keys.{no_record_lem}
use Rattle.sealing.proofs.Known.{known_under, seal_known, open_known}

-- ---- seal and open: number, length, room and rounds are those of the key

module _ (number : ℕ) (s : Scheme) (named : scheme_of number ≡ Some s) (nonce header input room : List ℕ) where
  sealing_with : (r : Prepared) → seal_with number r nonce header input room ≡ seal_under s (key_of s.cipher r) nonce header input room
  unfolding seal_with
  sealing_with r = known_under (λ s. seal_under s (key_of s.cipher r) nonce header input room) room named

  opening_with : (r : Prepared) → open_with number r nonce header input room ≡ open_under s (key_of s.cipher r) nonce header input room
  unfolding open_with
  opening_with r = known_under (λ s. open_under s (key_of s.cipher r) nonce header input room) room named

  pub seals_as_key : (key : List ℕ) → Block 16 key → seal_with number (prepared_of s.cipher key) nonce header input room ≡ seal_of number key nonce header input room
  seals_as_key key b =
      sealing_with (prepared_of s.cipher key)
      ∙ ap (λ (k : List ℕ). seal_under s k nonce header input room) (key_of_lem s.cipher key b)
      ∙ sym (seal_known number s named key nonce header input room)

  pub opens_as_key : (key : List ℕ) → Block 16 key → open_with number (prepared_of s.cipher key) nonce header input room ≡ open_of number key nonce header input room
  opens_as_key key b =
      opening_with (prepared_of s.cipher key)
      ∙ ap (λ (k : List ℕ). open_under s k nonce header input room) (key_of_lem s.cipher key b)
      ∙ sym (open_known number s named key nonce header input room)

  -- a record that is not admitted: 2, whatever else is wrong
  pub seals_not : (r : Prepared) → admitted s.cipher r ≡ false → seal_with number r nonce header input room ≡ refused 2 room
  seals_not r e =
      sealing_with r ∙ sym (seal_no_key s (key_of s.cipher r) nonce header input room (no_record_lem s r (named_fits number s named) e))

  pub opens_not : (r : Prepared) → admitted s.cipher r ≡ false → open_with number r nonce header input room ≡ refused 2 room
  opens_not r e =
      opening_with r ∙ sym (open_no_key s (key_of s.cipher r) nonce header input room (no_record_lem s r (named_fits number s named) e))

-- ---- the block calls: both blocks, the number and the rounds; 2 after 1

module _ (tweak block : List ℕ) (want : ℕ) where
  pub forks_as_key : (c : Cipher) (key : List ℕ) → Block 16 key
      → fork_with (number_of c) (prepared_of c key) tweak block want ≡ fork_of (number_of c) key tweak block want
  unfolding fork_with fork_of
  forks_as_key N64T192 key b =
      let a = all_admitted N64T192 (prepared_of N64T192 key) (key, b, refl) in
      let k = key_back N64T192 key b in
      λ i. cond (ltb 2 want) (fork_refused_with 1) (cond (a i) (fork_by N64T192 (k i) tweak block want) (fork_refused_with 2))
  forks_as_key N128T256 key b =
      let a = all_admitted N128T256 (prepared_of N128T256 key) (key, b, refl) in
      let k = key_back N128T256 key b in
      λ i. cond (ltb 2 want) (fork_refused_with 1) (cond (a i) (fork_by N128T256 (k i) tweak block want) (fork_refused_with 2))

  pub forks_not : (c : Cipher) (r : Prepared) → want < 3 → admitted c r ≡ false → fork_with (number_of c) r tweak block want ≡ fork_refused_with 2
  unfolding fork_with
  forks_not N64T192 r h e = rw (le-ltb 2 want (omega arith), e)
  forks_not N128T256 r h e = rw (le-ltb 2 want (omega arith), e)

module _ (tweak block : List ℕ) (from want : ℕ) where
  pub unforks_as_key : (c : Cipher) (key : List ℕ) → Block 16 key
      → unfork_with (number_of c) (prepared_of c key) tweak block from want ≡ unfork_of (number_of c) key tweak block from want
  unfolding unfork_with unfork_of
  unforks_as_key N64T192 key b =
      let a = all_admitted N64T192 (prepared_of N64T192 key) (key, b, refl) in
      let k = key_back N64T192 key b in
      λ i. cond (ltb 1 from) (unfork_refused_with 1) (cond (ltb 2 want) (unfork_refused_with 1)
      (cond (a i) (unfork_by N64T192 (k i) tweak block from want) (unfork_refused_with 2)))
  unforks_as_key N128T256 key b =
      let a = all_admitted N128T256 (prepared_of N128T256 key) (key, b, refl) in
      let k = key_back N128T256 key b in
      λ i. cond (ltb 1 from) (unfork_refused_with 1) (cond (ltb 2 want) (unfork_refused_with 1)
      (cond (a i) (unfork_by N128T256 (k i) tweak block from want) (unfork_refused_with 2)))

  pub unforks_not : (c : Cipher) (r : Prepared) → from < 2 → want < 3 → admitted c r ≡ false
      → unfork_with (number_of c) r tweak block from want ≡ unfork_refused_with 2
  unfolding unfork_with
  unforks_not N64T192 r g h e = rw (le-ltb 1 from (omega arith), le-ltb 2 want (omega arith), e)
  unforks_not N128T256 r g h e = rw (le-ltb 1 from (omega arith), le-ltb 2 want (omega arith), e)

-- ---- any two results that a contract allows are equal

module _ (number : ℕ) (r : Prepared) where
  pub same_seal_with : (nonce header body room : List ℕ) (a b : Told) → a ≡ seal_with number r nonce header body room → b ≡ seal_with number r nonce header body room → a ≡ b
  same_seal_with nonce header body room a b p q = p ∙ sym q

  pub same_open_with : (nonce header run room : List ℕ) (a b : Told) → a ≡ open_with number r nonce header run room → b ≡ open_with number r nonce header run room → a ≡ b
  same_open_with nonce header run room a b p q = p ∙ sym q

  pub same_fork_with : (tweak block : List ℕ) (want : ℕ) (a b : Result Forked Refusal)
      → fork_result a ≡ fork_with number r tweak block want → fork_result b ≡ fork_with number r tweak block want → a ≡ b
  same_fork_with tweak block want a b p q = fork_named a b (p ∙ sym q)

  pub same_unfork_with : (tweak block : List ℕ) (from want : ℕ) (a b : Result Unforked Refusal)
      → unfork_result a ≡ unfork_with number r tweak block from want → unfork_result b ≡ unfork_with number r tweak block from want → a ≡ b
  same_unfork_with tweak block from want a b p q = unfork_named a b (p ∙ sym q)
