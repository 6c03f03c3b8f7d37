-- The rounds that the branches take are laid out and no more than the constants. Assumes nothing.
use mathlib.Core.Path.{◌≡◌, refl, sym}
use mathlib.Core.Bool.{Bool, true, false, true≢false, cond}
use Prim.Native.Nat.{ℕ, ◌+◌, ◌≤◌}
use native.Mathlib.Omega.{arith}
use Rattle.ciphers.specs.declared.Cipher.{Cipher}
use Rattle.ciphers.specs.Ciphers.{init_of, branch_of}
use Rattle.ciphers.proofs.Laws.{fit}
use Rattle.forkskinny.specs.declared.Branch.{Branch}
use Rattle.forkskinny.specs.declared.Branch.TheVariants.{Near, Far}
use Rattle.forkskinny.specs.ForkSkinny.{start_of, side_of}
use Rattle.forkskinny.specs.Reach.{is_far, far_if, takes_far, reach_of}

pub branch_fit : (c : Cipher) (b : Branch) → start_of c b + branch_of c ≤ 87
branch_fit c Near = omega (arith, fit c)
branch_fit c Far = omega (arith, fit c)

module _ (c : Cipher) where
  pub reach_fit : (far : Bool) → reach_of c far ≤ 87
  reach_fit true = branch_fit c Far
  reach_fit false = branch_fit c Near

  -- the rounds before the fork are always laid out
  pub reach_init : (far : Bool) → init_of c ≤ reach_of c far
  reach_init true = omega arith
  reach_init false = omega arith

  -- so is the near branch; and the far one where it is taken
  pub reach_branch : (b : Branch) (far : Bool) → (is_far b ≡ true → far ≡ true) → start_of c b + branch_of c ≤ reach_of c far
  reach_branch Near true p = omega arith
  reach_branch Near false p = omega arith
  reach_branch Far true p = omega arith
  reach_branch Far false p = absurd (true≢false (sym (p refl)))

either : (t : Bool) → cond t true true ≡ true
either true = refl
either false = refl

-- a half that is asked for is given by a branch that is laid out: the first of two halves, and the second
pub far_first : (a : Bool) (h : ℕ) (b : Bool) (k : ℕ) → a ≡ true → is_far (side_of h) ≡ true → takes_far a h b k ≡ true
far_first a h b k p q = simp (p, q)

pub far_second : (a : Bool) (h : ℕ) (b : Bool) (k : ℕ) → b ≡ true → is_far (side_of k) ≡ true → takes_far a h b k ≡ true
far_second a h b k p q = simp (p, q) (either (far_if a h))
