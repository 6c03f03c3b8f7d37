-- Choices by any number: what one that names no choice wants, and the half that a number stands for. Assumes nothing.
use Rattle.std.proofs.Common.{◌≡◌, ℕ, zero, suc, false, cond, eqb, ne_eqb, ◌<◌, List, [], Ok, Err, refl, sym, ap, arith}
use Rattle.refusals.specs.declared.Refusal.{Refusal}
use Rattle.ciphers.specs.declared.Cipher.{Cipher}
use Rattle.ciphers.specs.Ciphers.{init_of, branch_of}
use Rattle.forkskinny.specs.declared.wanted.Want.{Want}
use Rattle.forkskinny.specs.ForkSkinny.{input, other}
use Rattle.forkskinny.specs.Wanted.{want_of, want_named}
use Rattle.forkskinny.specs.Reach.{reach_of, fork_reach, unfork_reach}
use Rattle.forkskinny.specs.Calls.{ForkTold, wants, zeros, fork_by, fork_rounds, unfork_by, unfork_rounds}

-- a number that is named is its choice's
pub want_is : (want : ℕ) {w : Want} → Ok w ≡ want_named want → want_of w ≡ want
want_is zero e = cc
want_is (suc zero) e = cc
want_is (suc (suc zero)) e = cc
want_is (suc (suc (suc n))) e = cc

-- a number that names no choice wants neither result
unwanted : (k want : ℕ) {r : Refusal} → k < 2 → Err r ≡ want_named want → wants k want ≡ false
unfolding wants
unwanted k zero low e = cc
unwanted k (suc zero) low e = cc
unwanted k (suc (suc zero)) low e = cc
unwanted k (suc (suc (suc n))) low e = rw (ne_eqb (suc (suc (suc n))) k (λ e. omega arith), ne_eqb (suc (suc (suc n))) 2 (λ e. omega arith)) refl

module _ (c : Cipher) where
  -- so the blocks are zeros, and only the rounds that every call runs are run
  module _ (key tweak block : List ℕ) where
    pub fork_nothing : (want : ℕ) {r : Refusal} → Err r ≡ want_named want
        → fork_by c key tweak block want ≡ record { number = 0; half0 = zeros; half1 = zeros; rounds = init_of c }
    unfolding fork_rounds
    fork_nothing want e =
        rw (unwanted 0 want (omega arith) e, unwanted 1 want (omega arith) e)
        (ap (λ (x : ℕ). record { number = 0; half0 = zeros; half1 = zeros; rounds = x }) (omega arith))

    pub unfork_nothing : (from want : ℕ) {r : Refusal} → Err r ≡ want_named want
        → unfork_by c key tweak block from want ≡ record { number = 0; input = zeros; other = zeros; rounds = branch_of c }
    unfolding unfork_rounds
    unfork_nothing from want e =
        rw (unwanted 0 want (omega arith) e, unwanted 1 want (omega arith) e)
        (ap (λ (x : ℕ). record { number = 0; input = zeros; other = zeros; rounds = x }) (omega arith))

  pub fork_costs_nothing : (want : ℕ) {r : Refusal} → Err r ≡ want_named want → init_of c ≡ fork_rounds c want
  fork_costs_nothing want e = ap (λ (t : ForkTold). t.rounds) (sym (fork_nothing [] [] [] want e))

  -- and no branch is reached but the one that every call reaches
  pub fork_reaches_nothing : (want : ℕ) {r : Refusal} → Err r ≡ want_named want → reach_of c false ≡ fork_reach c want
  fork_reaches_nothing want e = rw (unwanted 0 want (omega arith) e, unwanted 1 want (omega arith) e) refl

  pub unfork_reaches_nothing : (from want : ℕ) {r : Refusal} → Err r ≡ want_named want → unfork_reach c from 0 ≡ unfork_reach c from want
  unfolding wants
  unfork_reaches_nothing from want e = rw (unwanted 1 want (omega arith) e) refl

-- every number but 0 is half 1
pub one_half_reach : (c : Cipher) (from want : ℕ) → unfork_reach c (cond (eqb from 0) 0 1) want ≡ unfork_reach c from want
one_half_reach c zero want = refl
one_half_reach c (suc n) want = rw (ne_eqb (suc n) 0 (λ e. omega arith)) refl

pub one_half : (c : Cipher) (key tweak block : List ℕ) (from want : ℕ) → unfork_by c key tweak block (cond (eqb from 0) 0 1) want ≡ unfork_by c key tweak block from want
unfolding input other
one_half c key tweak block zero want = refl
one_half c key tweak block (suc n) want = rw (ne_eqb (suc n) 0 (λ e. omega arith)) refl
