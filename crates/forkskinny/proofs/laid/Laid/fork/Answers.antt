-- `forkskinny::laid::Laid::fork` meets its contract: by what is wanted. Assumes nothing.
use mathlib.Core.Path.{◌≡◌, refl, ap, ◌∙◌}
use mathlib.Core.Bool.{true, false}
use Rattle.ciphers.specs.Ciphers.{tk}
use Rattle.forkskinny.specs.declared.wanted.Want.{Want}
use Rattle.forkskinny.specs.ForkSkinny.{branch}
use Rattle.forkskinny.specs.Calls.{wants, fork_rounds}
use Rattle.forkskinny.specs.Wanted.{want_of}
use Rattle.forkskinny.proofs.Parts.{fork_made, at_fork, in_branch}
use Rattle.forkskinny.proofs.laid.Laid.fork.Goals as goal

pub returns-in-First : goal.returns-in-First
unfolding wants
returns-in-First c =
    let a = c.args in
    rw c.in-First.is (λ key tweak k.
    fork_made a.self.now.cipher a.block key tweak 0 (at_fork a.self.now.cipher false k c.to_fork-s.ensures)
    (in_branch a.self.now.cipher false k (λ b t. c.run_branch-half0.result ≡ branch a.self.now.cipher b t c.to_fork-s.result) c.branch.ensures (λ p. p) c.run_branch-half0.ensures)
    refl (c.rounds_forward-rounds.ensures ∙ ap (λ (w : Want). fork_rounds a.self.now.cipher (want_of w)) c.in-First.is))

pub returns-in-Second : goal.returns-in-Second
unfolding wants
returns-in-Second c =
    let a = c.args in
    rw c.in-Second.is (λ key tweak k.
    fork_made a.self.now.cipher a.block key tweak 1 (at_fork a.self.now.cipher true k c.to_fork-s.ensures) refl
    (in_branch a.self.now.cipher true k (λ b t. c.run_branch-half1.result ≡ branch a.self.now.cipher b t c.to_fork-s.result) c.branch-in-Second.ensures (λ p. p) c.run_branch-half1.ensures)
    (c.rounds_forward-rounds.ensures ∙ ap (λ (w : Want). fork_rounds a.self.now.cipher (want_of w)) c.in-Second.is))

pub returns-in-Both : goal.returns-in-Both
unfolding wants
returns-in-Both c =
    let a = c.args in
    rw c.in-Both.is (λ key tweak k.
    let halves = c.both_halves-both.ensures (tk a.self.now.cipher key tweak) k in
    fork_made a.self.now.cipher a.block key tweak 2 (at_fork a.self.now.cipher true k c.to_fork-s.ensures) halves.0 halves.1
    (c.rounds_forward-rounds.ensures ∙ ap (λ (w : Want). fork_rounds a.self.now.cipher (want_of w)) c.in-Both.is))
