-- `forkskinny::laid::Laid::unfork` meets its contract: by what is wanted. Assumes nothing.
use mathlib.Core.Path.{◌≡◌, refl, ap, ◌∙◌}
use mathlib.Core.Bool.{Bool, true}
use Prim.Native.Nat.{ℕ}
use Rattle.forkskinny.specs.declared.wanted.Want.{Want}
use Rattle.forkskinny.specs.ForkSkinny.{side_of, other_of, branch, unbranch, unforked}
use Rattle.forkskinny.specs.Reach.{takes_far}
use Rattle.forkskinny.specs.Calls.{wants, unfork_rounds}
use Rattle.forkskinny.specs.Wanted.{want_of, half_of}
use Rattle.forkskinny.proofs.Parts.{unfork_made, at_fork, in_branch}
use Rattle.forkskinny.proofs.Places.{far_first, far_second}
use Rattle.forkskinny.proofs.laid.Laid.unfork.Goals as goal

-- whether the far branch is taken from half h, where the other half is wanted or not
abbrev far : ℕ → Bool → Bool
far h other = takes_far true h other (other_of h)

pub returns-in-First : goal.returns-in-First
unfolding wants
returns-in-First c =
    let a = c.args in
    let h = half_of a.from in
    rw c.in-First.is (λ key tweak k.
    let f = far h (wants 1 0) in
    unfork_made a.self.now.cipher a.block key tweak h 0
    (in_branch a.self.now.cipher f k (λ b t. c.unrun_branch-s.result ≡ unbranch a.self.now.cipher b t a.block) c.branch-from.ensures (far_first true h (wants 1 0) (other_of h) refl) c.unrun_branch-s.ensures)
    (at_fork a.self.now.cipher f k c.from_fork-input.ensures) refl
    (c.rounds_back-rounds.ensures ∙ ap (λ (w : Want). unfork_rounds a.self.now.cipher (want_of w)) c.in-First.is))

pub returns-in-Second : goal.returns-in-Second
unfolding wants
returns-in-Second c =
    let a = c.args in
    let h = half_of a.from in
    rw c.in-Second.is (λ key tweak k.
    let f = far h (wants 1 1) in
    unfork_made a.self.now.cipher a.block key tweak h 1
    (in_branch a.self.now.cipher f k (λ b t. c.unrun_branch-s.result ≡ unbranch a.self.now.cipher b t a.block) c.branch-from.ensures (far_first true h (wants 1 1) (other_of h) refl) c.unrun_branch-s.ensures)
    refl
    (in_branch a.self.now.cipher f k (λ b t. c.run_branch-other.result ≡ branch a.self.now.cipher b t c.unrun_branch-s.result) (c.branch-to.ensures ∙ ap side_of c.other.ensures)
    (far_second true h (wants 1 1) (other_of h) refl) c.run_branch-other.ensures)
    (c.rounds_back-rounds.ensures ∙ ap (λ (w : Want). unfork_rounds a.self.now.cipher (want_of w)) c.in-Second.is))

pub returns-in-Both : goal.returns-in-Both
unfolding wants
returns-in-Both c =
    let a = c.args in
    let h = half_of a.from in
    rw c.in-Both.is (λ key tweak k.
    let f = far h (wants 1 2) in
    let ends = in_branch a.self.now.cipher f k (λ b t. (c.both_ends-both.result.first ≡ unforked a.self.now.cipher t c.unrun_branch-s.result) × (c.both_ends-both.result.second ≡ branch a.self.now.cipher b t c.unrun_branch-s.result))
    (c.branch-to.ensures ∙ ap side_of c.other.ensures) (far_second true h (wants 1 2) (other_of h) refl) c.both_ends-both.ensures in
    unfork_made a.self.now.cipher a.block key tweak h 2
    (in_branch a.self.now.cipher f k (λ b t. c.unrun_branch-s.result ≡ unbranch a.self.now.cipher b t a.block) c.branch-from.ensures (far_first true h (wants 1 2) (other_of h) refl) c.unrun_branch-s.ensures)
    ends.0 ends.1
    (c.rounds_back-rounds.ensures ∙ ap (λ (w : Want). unfork_rounds a.self.now.cipher (want_of w)) c.in-Both.is))
