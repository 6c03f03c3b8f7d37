-- What the parts of a block call are told makes the call's answer: the hypotheses are the parts' contracts, word for word.
-- Assumes nothing.
use mathlib.Core.Path.{◌≡◌, subst, subst⁻¹, ◌∙◌}
use mathlib.Core.Bool.{Bool, true}
use mathlib.Core.List.{List}
use Prim.Native.Nat.{ℕ, ◌+◌}
use Rattle.schedule.specs.declared.Tweakey.{Tweakey}
use Rattle.schedule.specs.Schedule.{RoundKeys}
use Rattle.rounds.specs.State.{State}
use Rattle.runs.proofs.Loops.{fewer}
use Rattle.ciphers.specs.declared.Cipher.{Cipher}
use Rattle.ciphers.specs.Ciphers.{width_of, words_of, init_of, branch_of, tk}
use Rattle.forkskinny.specs.declared.Branch.{Branch}
use Rattle.forkskinny.specs.ForkSkinny.{side_of, other_of, start_of, forked, branch, unbranch, unforked, half, input, other}
use Rattle.forkskinny.specs.Reach.{is_far, reach_of}
use Rattle.forkskinny.specs.Calls.{ForkTold, UnforkTold, given, wants, fork_rounds, fork_by, unfork_rounds, unfork_by}
use Rattle.forkskinny.proofs.Places.{reach_init, reach_branch}

-- the keys of the first m rounds of a cipher
abbrev Keys : Cipher → ℕ → Tweakey → List (List ℕ) → Type 0
Keys c m t keys = RoundKeys (width_of c) (words_of c) m t keys

module _ (c : Cipher) (block key tweak : List ℕ) where
  abbrev t : Tweakey
  t = tk c key tweak

  -- the answer, from the state at the fork and the halves that are asked for
  pub fork_made
      : (want : ℕ) {s : State} {half0 half1 : List ℕ} {run : ℕ} → s ≡ forked c t block
      → half0 ≡ given (wants 0 want) (branch c (side_of 0) t s) → half1 ≡ given (wants 1 want) (branch c (side_of 1) t s)
      → run ≡ fork_rounds c want
      → ◌≡◌ {A = ForkTold} (record { number = 0; half0 = half0; half1 = half1; rounds = run }) (fork_by c key tweak block want)
  unfolding half
  fork_made want es h₀ h₁ er =
      let a = h₀ ∙ (λ i. given (wants 0 want) (branch c (side_of 0) t (es i))) in
      let b = h₁ ∙ (λ i. given (wants 1 want) (branch c (side_of 1) t (es i))) in
      λ i. record { number = 0; half0 = a i; half1 = b i; rounds = er i }

  pub unfork_made
      : (from want : ℕ) {s : State} {input' other' : List ℕ} {run : ℕ} → s ≡ unbranch c (side_of from) t block
      → input' ≡ given (wants 0 want) (unforked c t s) → other' ≡ given (wants 1 want) (branch c (side_of (other_of from)) t s)
      → run ≡ unfork_rounds c want
      → ◌≡◌ {A = UnforkTold} (record { number = 0; input = input'; other = other'; rounds = run }) (unfork_by c key tweak block from want)
  unfolding input other
  unfork_made from want back h₀ h₁ er =
      let a = h₀ ∙ (λ i. given (wants 0 want) (unforked c t (back i))) in
      let b = h₁ ∙ (λ i. given (wants 1 want) (branch c (side_of (other_of from)) t (back i))) in
      λ i. record { number = 0; input = a i; other = b i; rounds = er i }

-- what is so of a branch where the keys that it takes are laid, of keys that reach further
module _ (c : Cipher) (far : Bool) {keys : List (List ℕ)} {t : Tweakey} (k : Keys c (reach_of c far) t keys) where
  pub at_fork : {A : Tweakey → Type 0} → ((t : Tweakey) → Keys c (init_of c) t keys → A t) → A t
  at_fork told = told t (fewer k (init_of c) (reach_init c far))

  pub in_branch
      : {b d : Branch} (A : Branch → Tweakey → Type 0) → b ≡ d → (is_far d ≡ true → far ≡ true)
      → ((t : Tweakey) → Keys c (start_of c b + branch_of c) t keys → A b t) → A d t
  in_branch {d = d} A e reached told =
      subst (λ (b : Branch). A b t) e (told t (subst⁻¹ (λ (b : Branch). Keys c (start_of c b + branch_of c) t keys) e (fewer k _ (reach_branch c d far reached))))
