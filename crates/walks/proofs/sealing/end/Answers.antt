-- `walks::sealing::end` meets its contract: `seal_ended` of what the callees ensure. Assumes nothing.
use mathlib.Core.Path.{ap, ◌∙◌}
use Prim.Native.Nat.{ℕ}
use lib.ListN.{length}
use Rattle.ciphers.specs.Ciphers.{block_of}
use Rattle.modes.specs.Blocks.{full}
use Rattle.states.specs.Modes.{block_first}
use Rattle.walks.proofs.Places.{loaded}
use Rattle.walks.proofs.Sealed.{seal_ended}
use Rattle.walks.proofs.sealing.end.Goals as goal

pub returns-clause-ended : goal.returns-clause-ended
returns-clause-ended g c =
    let a = c.args in
    let u = a.under.now in
    let e = c.block-n.ensures in
    let f = c.is_full.ensures ∙ ap (λ (m : ℕ). full m (length a.part.now)) e in
    let l = loaded _ (block_of u.cipher) _ a.part.now e c.load-x.ensures in
    let o = c.block_first-ahead.ensures ∙ ap block_first c.kind.ensures in
    seal_ended g.M.Mode.kind u _ _ _ a.s a.part.now _ _ _ _ _ e f l c.seal_last-sealed.ensures.stepped c.requires.short o c.put.ensures
