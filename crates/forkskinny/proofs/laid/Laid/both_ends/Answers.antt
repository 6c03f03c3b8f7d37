-- `forkskinny::laid::Laid::both_ends` meets its contract: the rounds before the fork undone, and those of the branch. Assumes nothing.
use mathlib.Core.Path.{◌∙◌, ap}
use native.Mathlib.Omega.{arith}
use Rattle.schedule.specs.Schedule.{advance}
use Rattle.runs.specs.Runs.{rounds, unrounds}
use Rattle.runs.proofs.Loops.{fewer}
use Rattle.ciphers.specs.Ciphers.{width_of, words_of, unload}
use Rattle.ciphers.proofs.Laws.{init_some, branch_more}
use Rattle.forkskinny.specs.ForkSkinny.{branch, unforked}
use Rattle.forkskinny.proofs.Places.{branch_fit}
use Rattle.forkskinny.proofs.laid.Laid.both_ends.Goals as goal

pub run_apart-input-requires : goal.run_apart-input-requires
run_apart-input-requires c =
    let a = c.args in
    let o = c.init_of-n.ensures in
    let p = c.start_of-at.ensures in
    let q = c.branch_of-m.ensures in
    (omega (arith, init_some a.self.now.cipher, o), omega (arith, branch_more a.self.now.cipher, o, q), omega (arith, branch_fit a.self.now.cipher a.b, p, q))

pub returns : goal.returns
unfolding branch unforked advance
returns c =
    let a = c.args in
    let w = width_of a.self.now.cipher in
    let n = words_of a.self.now.cipher in
    let o = c.init_of-n.ensures in
    let p = c.start_of-at.ensures in
    let q = c.branch_of-m.ensures in
    let e = c.enter_branch-other.ensures in
    λ t known. (
      c.unload_state-first.ensures
          ∙ ap (unload w) (c.run_apart-input.ensures.0.by n t (fewer known _ (omega (arith, p, q))) ∙ (λ i. unrounds w n (o i) t a.s)),
      c.unload_state-second.ensures
          ∙ ap (unload w) (c.run_apart-input.ensures.1.by n t (fewer known _ (omega (arith, p, q))) ∙ (λ i. rounds w n (q i) (advance w n (p i) t) (e i))),
    )
