-- `forkskinny::laid::Laid::both_halves` meets its contract: the rounds of both branches, each from its place on. Assumes nothing.
use mathlib.Core.Path.{◌∙◌, ap}
use Prim.Native.Nat.{◌+◌}
use native.Mathlib.Omega.{arith}
use Rattle.schedule.specs.Schedule.{advance}
use Rattle.runs.specs.Runs.{rounds}
use Rattle.runs.proofs.Loops.{fewer}
use Rattle.ciphers.specs.Ciphers.{width_of, words_of, unload}
use Rattle.ciphers.proofs.Laws.{fit, branch_more}
use Rattle.forkskinny.specs.ForkSkinny.{branch}
use Rattle.forkskinny.proofs.laid.Laid.both_halves.Goals as goal

pub run_both-near-requires : goal.run_both-near-requires
run_both-near-requires c =
    let a = c.args in
    let p = c.start_of-at.ensures in
    let q = c.branch_of-n.ensures in
    (omega (arith, branch_more a.self.now.cipher, q), omega (arith, fit a.self.now.cipher, p, q))

pub returns : goal.returns
unfolding branch
returns c =
    let a = c.args in
    let w = width_of a.self.now.cipher in
    let n = words_of a.self.now.cipher in
    let p = c.start_of-at.ensures in
    let q = c.branch_of-n.ensures in
    let e = c.enter_branch-far.ensures in
    λ t known. (
      c.unload_state-first.ensures
          ∙ ap (unload w) (c.run_both-near.ensures.0.by n t (fewer known _ (omega (arith, p, q))) ∙ (λ i. rounds w n (q i) (advance w n (p i) t) a.s)),
      c.unload_state-second.ensures
          ∙ ap (unload w) (c.run_both-near.ensures.1.by n t (fewer known _ (omega (arith, p, q))) ∙ (λ i. rounds w n (q i) (advance w n (p i + q i) t) (e i))),
    )
