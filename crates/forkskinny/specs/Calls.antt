-- The block calls: what a caller is told, for every number (document 01, "What a caller is told"). Ciphers: 1 is 64-192,
-- 2 is 128-256. Wanted: 0 the first result, 1 the second, 2 both; forward these are half 0 and half 1, back the input and the
-- other half. The rounds that a call runs are C-13's. Assumes nothing.
use Rattle.std.specs.Prelude.{ℕ, ◌+◌, Bool, true, cond, List, Result, Ok, Err, eqb, ltb, replicate}
use Rattle.ciphers.specs.declared.Cipher.{Cipher}
use Rattle.ciphers.specs.Ciphers.{init_of, branch_of, under_cipher}
use Rattle.prepared.specs.declared.Prepared.{Prepared}
use Rattle.prepared.specs.Prepared.{key_in, admitted}
use Rattle.refusals.specs.declared.Refusal.{Refusal}
use Rattle.refusals.specs.declared.Refusal.TheVariants.{Unknown, Key}
use Rattle.refusals.specs.Refusal.{number_of, rounds_of}
use Rattle.forkskinny.specs.declared.Forked.{Forked}
use Rattle.forkskinny.specs.declared.Unforked.{Unforked}
use Rattle.forkskinny.specs.ForkSkinny.{half, input, other}

abbrev pub zeros : List ℕ
zeros = replicate 16 0

-- a block that wasn't asked for comes back as zeros
abbrev pub given : Bool → List ℕ → List ℕ
given asked b = cond asked b zeros

-- result k is wanted: it alone, or both
unfoldable pub wants : ℕ → ℕ → Bool
wants k want = cond (eqb want k) true (eqb want 2)

-- the rounds of a call: n always, a for its first result and b for its second, where they are asked for
abbrev pub rounds_if : Bool → ℕ → ℕ
rounds_if asked n = cond asked n 0

abbrev pub rounds_for : (n a b want : ℕ) → ℕ
rounds_for n a b want = n + rounds_if (wants 0 want) a + rounds_if (wants 1 want) b

-- ---- what a caller is told: 0, what was asked for and the rounds, or a number, zeros and no rounds

pub record ForkTold : Type 0 where
  pub number : ℕ
  pub half0 : List ℕ
  pub half1 : List ℕ
  pub rounds : ℕ

pub record UnforkTold : Type 0 where
  pub number : ℕ
  pub input : List ℕ
  pub other : List ℕ
  pub rounds : ℕ

-- a prepared key is judged under the cipher that a number names (C-16): 2, after 1, for a record that is not admitted
abbrev pub judged_cipher : ℕ → Prepared → Result Cipher Refusal
judged_cipher cipher r = under_cipher cipher (λ c. cond (admitted c r) (Ok c) (Err Key)) (Err Unknown)

-- ---- forward

-- those before the fork, and those of each branch that is asked for (001, figure 4: enc 3, 5, 9)
unfoldable pub fork_rounds : Cipher → (want : ℕ) → ℕ
fork_rounds c want = rounds_for (init_of c) (branch_of c) (branch_of c) want

abbrev pub fork_refused_with : ℕ → ForkTold
fork_refused_with number = record { number = number; half0 = zeros; half1 = zeros; rounds = 0 }

-- of what the code gives
abbrev pub fork_done : Forked → ForkTold
fork_done f = record { number = 0; half0 = f.half0; half1 = f.half1; rounds = f.rounds }

-- of a refusal, its number and its rounds (none but a forged run's, which no block call gives)
abbrev pub fork_refusal : Refusal → ForkTold
fork_refusal r = record { number = number_of r; half0 = zeros; half1 = zeros; rounds = rounds_of r }

abbrev pub fork_result : Result Forked Refusal → ForkTold
fork_result (Ok f) = fork_done f
fork_result (Err r) = fork_refusal r

abbrev pub fork_refused : ForkTold
fork_refused = fork_refused_with 1

abbrev pub fork_by : Cipher → List ℕ → List ℕ → List ℕ → ℕ → ForkTold
fork_by c key tweak block want = record {
  number = 0;
  half0 = given (wants 0 want) (half c key tweak 0 block);
  half1 = given (wants 1 want) (half c key tweak 1 block);
  rounds = fork_rounds c want;
}

unfoldable pub fork_of : ℕ → List ℕ → List ℕ → List ℕ → ℕ → ForkTold
fork_of cipher key tweak block want =
    cond (ltb 2 want) fork_refused (under_cipher cipher (λ c. fork_by c key tweak block want) fork_refused)

-- the same with a prepared key (C-16): 2, after 1, for a record that is not admitted under the cipher
abbrev pub fork_under : Cipher → Prepared → List ℕ → List ℕ → ℕ → ForkTold
fork_under c r tweak block want = cond (admitted c r) (fork_by c (key_in c r.share) tweak block want) (fork_refused_with 2)

unfoldable pub fork_with : ℕ → Prepared → List ℕ → List ℕ → ℕ → ForkTold
fork_with cipher r tweak block want =
    cond (ltb 2 want) fork_refused (under_cipher cipher (λ c. fork_under c r tweak block want) fork_refused)

-- ---- back

-- those of the branch whose half is given; those before the fork, where the input is asked for; those of the other branch, where its half
-- is (001, figure 4: dec 5 and 8, 11, 15)
unfoldable pub unfork_rounds : Cipher → (want : ℕ) → ℕ
unfork_rounds c want = rounds_for (branch_of c) (init_of c) (branch_of c) want

abbrev pub unfork_refused_with : ℕ → UnforkTold
unfork_refused_with number = record { number = number; input = zeros; other = zeros; rounds = 0 }

-- of what the code gives
abbrev pub unfork_done : Unforked → UnforkTold
unfork_done f = record { number = 0; input = f.input; other = f.other; rounds = f.rounds }

abbrev pub unfork_refusal : Refusal → UnforkTold
unfork_refusal r = record { number = number_of r; input = zeros; other = zeros; rounds = rounds_of r }

abbrev pub unfork_result : Result Unforked Refusal → UnforkTold
unfork_result (Ok f) = unfork_done f
unfork_result (Err r) = unfork_refusal r

abbrev pub unfork_refused : UnforkTold
unfork_refused = unfork_refused_with 1

abbrev pub unfork_by : Cipher → List ℕ → List ℕ → List ℕ → ℕ → ℕ → UnforkTold
unfork_by c key tweak block from want = record {
  number = 0;
  input = given (wants 0 want) (input c key tweak from block);
  other = given (wants 1 want) (other c key tweak from block);
  rounds = unfork_rounds c want;
}

unfoldable pub unfork_of : ℕ → List ℕ → List ℕ → List ℕ → ℕ → ℕ → UnforkTold
unfork_of cipher key tweak block from want =
    cond (ltb 1 from) unfork_refused
    (cond (ltb 2 want) unfork_refused (under_cipher cipher (λ c. unfork_by c key tweak block from want) unfork_refused))

abbrev pub unfork_under : Cipher → Prepared → List ℕ → List ℕ → ℕ → ℕ → UnforkTold
unfork_under c r tweak block from want = cond (admitted c r) (unfork_by c (key_in c r.share) tweak block from want) (unfork_refused_with 2)

unfoldable pub unfork_with : ℕ → Prepared → List ℕ → List ℕ → ℕ → ℕ → UnforkTold
unfork_with cipher r tweak block from want =
    cond (ltb 1 from) unfork_refused
    (cond (ltb 2 want) unfork_refused (under_cipher cipher (λ c. unfork_under c r tweak block from want) unfork_refused))
