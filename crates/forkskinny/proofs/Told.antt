-- What a block call tells, by what its numbers name: the answer, or the first refusal. Assumes nothing.
use Rattle.std.proofs.Common.{◌≡◌, ℕ, zero, suc, Bool, true, false, cond, eqb, ltb, lt-ltb, List, Result, Ok, Err, refl, sym, ap, ◌∙◌, arith}
use Rattle.refusals.specs.declared.Refusal.{Refusal}
use Rattle.refusals.specs.declared.Refusal.TheVariants.{Unknown, Key}
use Rattle.refusals.proofs.Back.{refusal_of, refusal_back, number_not_0}
use Rattle.forkskinny.specs.declared.Forked.{Forked}
use Rattle.forkskinny.specs.declared.Unforked.{Unforked}
use Rattle.ciphers.specs.declared.Cipher.{Cipher}
use Rattle.ciphers.specs.declared.Cipher.TheVariants.{N64T192, N128T256}
use Rattle.ciphers.specs.Ciphers.{under_cipher, cipher_named}
use Rattle.ciphers.proofs.Named.{told_by, under_names}
use Rattle.prepared.specs.declared.Prepared.{Prepared}
use Rattle.prepared.specs.Prepared.{key_in, admitted}
use Rattle.forkskinny.specs.Wanted.{want_of, want_named, half_of, half_named}
use Rattle.forkskinny.specs.Calls.{ForkTold, UnforkTold, fork_refusal, fork_result, fork_by, fork_of, fork_with, unfork_refusal, unfork_result, unfork_by, unfork_of, unfork_with, judged_cipher}

module _ {A : Type 0} (told : Refusal → A) where
  -- ---- the choice, and the half

  wanted : (f : ℕ → A) (want : ℕ) → cond (ltb 2 want) (told Unknown) (f want) ≡ told_by told (λ w. f (want_of w)) (want_named want)
  wanted f zero = refl
  wanted f (suc zero) = refl
  wanted f (suc (suc zero)) = refl
  wanted f (suc (suc (suc n))) = rw (lt-ltb 2 (suc (suc (suc n))) (omega arith))

  from_half : (f : ℕ → A) (from : ℕ) → cond (ltb 1 from) (told Unknown) (f from) ≡ told_by told (λ h. f (half_of h)) (half_named from)
  from_half f zero = refl
  from_half f (suc zero) = refl
  from_half f (suc (suc n)) = rw (lt-ltb 1 (suc (suc n)) (omega arith))

  from_wanted : (f : ℕ → ℕ → A) (from want : ℕ)
      → cond (ltb 1 from) (told Unknown) (cond (ltb 2 want) (told Unknown) (f from want))
      ≡ told_by told (λ h. told_by told (λ w. f (half_of h) (want_of w)) (want_named want)) (half_named from)
  from_wanted f from want =
      ap (cond (ltb 1 from) (told Unknown)) (wanted (f from) want) ∙ from_half (λ h. told_by told (λ w. f h (want_of w)) (want_named want)) from

  -- ---- the cipher, and a prepared key judged under it

  module _ (f : Cipher → A) where
    by_name : (p q a b : Bool)
        → cond p (cond a (f N64T192) (told Key)) (cond q (cond b (f N128T256) (told Key)) (told Unknown))
        ≡ told_by told f (cond p (cond a (Ok N64T192) (Err Key)) (cond q (cond b (Ok N128T256) (Err Key)) (Err Unknown)))
    by_name true q true b = refl
    by_name true q false b = refl
    by_name false true a true = refl
    by_name false true a false = refl
    by_name false false a b = refl

    under_judged : (cipher : ℕ) (r : Prepared) → under_cipher cipher (λ c. cond (admitted c r) (f c) (told Key)) (told Unknown) ≡ told_by told f (judged_cipher cipher r)
    under_judged cipher r = by_name (eqb cipher 1) (eqb cipher 2) (admitted N64T192 r) (admitted N128T256 r)

-- a key that is judged is admitted
pub judged_admitted : (cipher : ℕ) (r : Prepared) {c : Cipher} → Ok c ≡ judged_cipher cipher r → admitted c r ≡ true
judged_admitted cipher r {c} e = by_name (eqb cipher 1) (eqb cipher 2) (admitted N64T192 r) (admitted N128T256 r) refl refl e where
  by_name : (p q a b : Bool) → admitted N64T192 r ≡ a → admitted N128T256 r ≡ b
      → ◌≡◌ {A = Result Cipher Refusal} (Ok c) (cond p (cond a (Ok N64T192) (Err Key)) (cond q (cond b (Ok N128T256) (Err Key)) (Err Unknown)))
      → admitted c r ≡ true
  by_name true q true b s t e = cc
  by_name true q false b s t e = cc
  by_name false true a true s t e = cc
  by_name false true a false s t e = cc
  by_name false false a b s t e = cc

-- ---- the calls

-- what is told names the result
abbrev fork_of_told : ForkTold → Result Forked Refusal
fork_of_told t = cond (eqb t.number 0) (Ok (record { half0 = t.half0; half1 = t.half1; rounds = t.rounds })) (Err (refusal_of t.number t.rounds))

fork_back : (a : Result Forked Refusal) → fork_of_told (fork_result a) ≡ a
fork_back (Ok f) = refl
fork_back (Err r) = rw (number_not_0 r) (ap Err (refusal_back r))

pub fork_named : (a b : Result Forked Refusal) → fork_result a ≡ fork_result b → a ≡ b
fork_named a b e = sym (fork_back a) ∙ ap fork_of_told e ∙ fork_back b

abbrev unfork_of_told : UnforkTold → Result Unforked Refusal
unfork_of_told t = cond (eqb t.number 0) (Ok (record { input = t.input; other = t.other; rounds = t.rounds })) (Err (refusal_of t.number t.rounds))

unfork_back : (a : Result Unforked Refusal) → unfork_of_told (unfork_result a) ≡ a
unfork_back (Ok f) = refl
unfork_back (Err r) = rw (number_not_0 r) (ap Err (refusal_back r))

pub unfork_named : (a b : Result Unforked Refusal) → unfork_result a ≡ unfork_result b → a ≡ b
unfork_named a b e = sym (unfork_back a) ∙ ap unfork_of_told e ∙ unfork_back b

module _ (cipher : ℕ) (tweak block : List ℕ) (want : ℕ) where
  pub fork_names : (key : List ℕ) → fork_of cipher key tweak block want
      ≡ told_by fork_refusal (λ w. told_by fork_refusal (λ c. fork_by c key tweak block (want_of w)) (cipher_named cipher)) (want_named want)
  unfolding fork_of
  fork_names key =
      ap (cond (ltb 2 want) (fork_refusal Unknown)) (under_names fork_refusal (λ c. fork_by c key tweak block want) cipher)
      ∙ wanted fork_refusal (λ w. told_by fork_refusal (λ c. fork_by c key tweak block w) (cipher_named cipher)) want

  pub fork_with_names : (r : Prepared) → fork_with cipher r tweak block want
      ≡ told_by fork_refusal (λ w. told_by fork_refusal (λ c. fork_by c (key_in c r.share) tweak block (want_of w)) (judged_cipher cipher r)) (want_named want)
  unfolding fork_with
  fork_with_names r =
      ap (cond (ltb 2 want) (fork_refusal Unknown)) (under_judged fork_refusal (λ c. fork_by c (key_in c r.share) tweak block want) cipher r)
      ∙ wanted fork_refusal (λ w. told_by fork_refusal (λ c. fork_by c (key_in c r.share) tweak block w) (judged_cipher cipher r)) want

module _ (cipher : ℕ) (tweak block : List ℕ) (from want : ℕ) where
  pub unfork_names : (key : List ℕ) → unfork_of cipher key tweak block from want
      ≡ told_by unfork_refusal
      (λ h. told_by unfork_refusal (λ w. told_by unfork_refusal (λ c. unfork_by c key tweak block (half_of h) (want_of w)) (cipher_named cipher)) (want_named want))
      (half_named from)
  unfolding unfork_of
  unfork_names key =
      ap (λ (x : UnforkTold). cond (ltb 1 from) (unfork_refusal Unknown) (cond (ltb 2 want) (unfork_refusal Unknown) x))
      (under_names unfork_refusal (λ c. unfork_by c key tweak block from want) cipher)
      ∙ from_wanted unfork_refusal (λ h w. told_by unfork_refusal (λ c. unfork_by c key tweak block h w) (cipher_named cipher)) from want

  pub unfork_with_names : (r : Prepared) → unfork_with cipher r tweak block from want
      ≡ told_by unfork_refusal
      (λ h. told_by unfork_refusal (λ w. told_by unfork_refusal (λ c. unfork_by c (key_in c r.share) tweak block (half_of h) (want_of w)) (judged_cipher cipher r)) (want_named want))
      (half_named from)
  unfolding unfork_with
  unfork_with_names r =
      ap (λ (x : UnforkTold). cond (ltb 1 from) (unfork_refusal Unknown) (cond (ltb 2 want) (unfork_refusal Unknown) x))
      (under_judged unfork_refusal (λ c. unfork_by c (key_in c r.share) tweak block from want) cipher r)
      ∙ from_wanted unfork_refusal (λ h w. told_by unfork_refusal (λ c. unfork_by c (key_in c r.share) tweak block h w) (judged_cipher cipher r)) from want
