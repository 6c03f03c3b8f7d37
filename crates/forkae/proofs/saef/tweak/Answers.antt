-- `forkae::saef::tweak` meets its contract: a byte is stored behind the nonce, or behind zeros. Assumes nothing.
use Prim.Native.Nat.{◌+◌}
use native.Mathlib.Omega.{arith}
use Rattle.ciphers.proofs.Laws.{block_most}
use Rattle.modes.specs.Saef.{saef_tweak}
use Rattle.states.proofs.Tweaks.{one_behind, one_behind_zeros}
use Rattle.forkae.proofs.saef.tweak.Goals as goal

pub returns-then-first : goal.returns-then-first
unfolding saef_tweak
returns-then-first c =
    let a = c.args in
    rw (c.if-first.true, c.nonce-nonce.ensures, ← c.requires.0)
    (one_behind _ _ (rw c.nonce-nonce.ensures at c.front-t.ensures) (8 + a.flag) (omega (arith, c.requires.0, block_most a.under.now.cipher)))

pub returns : goal.returns
unfolding saef_tweak
returns c =
    let a = c.args in
    rw (c.if-first.false, c.nonce-nonce.ensures, ← c.requires.0)
    (one_behind_zeros _ a.flag (omega (arith, c.requires.0, block_most a.under.now.cipher)))
