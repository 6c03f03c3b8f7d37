-- `forkskinny::laid::Laid::from_fork` meets its contract: the rounds before the fork, undone. Assumes nothing.
use mathlib.Core.Path.{◌∙◌, ap}
use native.Mathlib.Omega.{arith}
use Rattle.schedule.specs.Schedule.{advance}
use Rattle.runs.specs.Runs.{unrounds}
use Rattle.runs.proofs.Loops.{fewer}
use Rattle.ciphers.specs.Ciphers.{width_of, words_of, unload}
use Rattle.ciphers.proofs.Laws.{fit, init_some}
use Rattle.forkskinny.specs.ForkSkinny.{unforked}
use Rattle.forkskinny.proofs.laid.Laid.from_fork.Goals as goal

pub unrun-requires : goal.unrun-requires
unrun-requires c =
    let a = c.args in
    let p = c.init_of-n.ensures in
    (omega (arith, init_some a.self.now.cipher, p), omega (arith, fit a.self.now.cipher, p))

pub returns : goal.returns
unfolding unforked advance
returns c =
    let a = c.args in
    let w = width_of a.self.now.cipher in
    let n = words_of a.self.now.cipher in
    let p = c.init_of-n.ensures in
    λ t known. c.unload_state.ensures
    ∙ ap (unload w) (c.unrun.ensures.by n t (fewer known _ (omega (arith, p)))
    ∙ (λ i. unrounds w n (p i) t a.s))
