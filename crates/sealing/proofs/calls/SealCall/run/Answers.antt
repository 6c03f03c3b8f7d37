-- `sealing::calls::Seal::run` meets its contract: refused by a check, or done. Assumes nothing.
use mathlib.Core.Path.{sym}
use native.Mathlib.Omega.{arith}
use Rattle.schemes.proofs.Passed.{check_passed}
use Rattle.sealing.proofs.Answers.{counted_on, seal_refuses, seal_does}
use Rattle.sealing.proofs.calls.SealCall.run.Goals as goal

pub returns-in_err-check : goal.returns-in_err-check
returns-in_err-check c =
    let a = c.args in
    seal_refuses a.s a.share.now a.nonce.now a.header.now _ c.requires.0 c.block_of-n.ensures a.body.now a.room.now
    _ _ c.from_residual.ensures.1 c.in_err-check.ensures.number c.in_err-check.ensures.unworked

pub rounds-rounds-requires : goal.rounds-rounds-requires
rounds-rounds-requires c = counted_on c.args.s _ _ _ _ _ _ _ c.requires.0 c.in_ok-check.ensures.number

pub seal-requires : goal.seal-requires
seal-requires c =
    let a = c.args in
    let p = check_passed a.s _ _ _ _ _ _ _ (sym c.in_ok-check.ensures.number) in (
      record { fills = omega (arith, p.fit.nonce_fits, c.requires.0.nonce); few = omega (arith, p.fit.header_fits, c.requires.0.header) },
      record { fills = omega (arith, p.fit.nonce_fits, c.requires.0.nonce); few = omega (arith, p.body_fits, c.requires.0.body) },
      omega (arith, p.room_fits, c.block_of-n.ensures),
      c.requires.1,
    )

pub returns : goal.returns
returns c =
    let a = c.args in
    seal_does a.s a.share.now a.nonce.now a.header.now _ c.requires.0 c.block_of-n.ensures a.body.now a.room.now
    c.in_ok-check.ensures.number _ c.seal.ensures _ c.rounds-rounds.ensures
