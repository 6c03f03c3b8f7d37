-- Which number a list of checks answers.
--     first_says    k, exactly if the check with this number applies and none before it does; 0, if none applies
--     first_never   k never, if no check has this number and it is not 0
-- Assumes nothing.
use mathlib.Core.Path.{◌≡◌, refl}
use mathlib.Core.Logic.Iff
use mathlib.Core.Logic.{◌↔◌}
use mathlib.Core.Bool.{Bool, true, false, not, cond, true≢false, false≢true}
use mathlib.Core.List.{List, [], ◌∷◌}
use Prim.Native.Nat.{ℕ}
use lib.Dec.{eqb}
use borrow.Author.Tests.{eqb-true, eqb-false, not-true}
use Rattle.cells.proofs.Choice.{either}
use Rattle.schemes.specs.Checks.{Check, first}

abbrev picked : Bool → Type 0 → Type 0 → Type 0
picked true A B = A
picked false A B = B

-- k is answered by the first that applies
abbrev pub Says : ℕ → List Check → Type 0
Says k [] = 0 ≡ k
Says k (c ∷ cs) = picked (eqb c.number k) (c.applies ≡ true) ((c.applies ≡ false) × Says k cs)

-- no check has this number, nor is it 0; and one has it at most
abbrev pub absent : ℕ → List Check → Bool
absent k [] = not (eqb 0 k)
absent k (c ∷ cs) = cond (eqb c.number k) false (absent k cs)

abbrev pub alone : ℕ → List Check → Bool
alone k [] = true
alone k (c ∷ cs) = cond (eqb c.number k) (absent k cs) (alone k cs)

-- ---- one check, whose number j is k or not, before the rest

step_never : (same b : Bool) (j k rest : ℕ) (a : Bool) → eqb j k ≡ same → cond same false a ≡ true → (a ≡ true → rest ≡ k → ⊥)
    → cond b j rest ≡ k → ⊥
step_never true b j k rest a e h none = absurd (false≢true h)
step_never false b j k rest a e h none = either (λ (n : ℕ). n ≡ k → ⊥) b j rest (eqb-false j k e) (none h)

step_says : (same b : Bool) (j k rest : ℕ) (a o : Bool) (S : Type 0) → eqb j k ≡ same → cond same a o ≡ true
    → (a ≡ true → rest ≡ k → ⊥) → (o ≡ true → (rest ≡ k) ↔ S) → (cond b j rest ≡ k) ↔ picked same (b ≡ true) ((b ≡ false) × S)
step_says true true j k rest a o S e h none one = (λ _. refl, λ _. eqb-true j k e)
step_says true false j k rest a o S e h none one = (λ q. absurd (none h q), λ q. absurd (false≢true q))
step_says false true j k rest a o S e h none one = (λ q. absurd (eqb-false j k e q), λ q. absurd (true≢false q.0))
step_says false false j k rest a o S e h none one = (λ q. (refl, (one h).0 q), λ q. (one h).1 q.1)

-- ---- all of them

pub first_never : (k : ℕ) (cs : List Check) → absent k cs ≡ true → first cs ≡ k → ⊥
first_never k [] h = eqb-false 0 k (not-true (eqb 0 k) h)
first_never k (c ∷ cs) h =
    step_never (eqb c.number k) c.applies c.number k (first cs) (absent k cs) refl h (first_never k cs)

pub first_says : (k : ℕ) (cs : List Check) → alone k cs ≡ true → (first cs ≡ k) ↔ Says k cs
first_says k [] h = Iff.rfl
first_says k (c ∷ cs) h =
    step_says (eqb c.number k) c.applies c.number k (first cs) (absent k cs) (alone k cs) (Says k cs) refl h
    (first_never k cs)
    (first_says k cs)
