-- `sealing::calls::Open::run` meets its contract: refused by a check, done, or forged and cleared. Assumes nothing.
use mathlib.Core.Path.{refl, sym}
use native.Mathlib.Omega.{arith}
use lib.ListN.{length}
use borrow.Author.Tests.{ltb-false}
use Rattle.ciphers.proofs.Laws.{block_most}
use Rattle.schemes.proofs.Passed.{check_passed, check_long}
use Rattle.sealing.proofs.Answers.{counted_on, open_refuses, open_does, open_forges}
use Rattle.sealing.proofs.calls.OpenCall.run.Goals as goal

pub returns-in_err-check : goal.returns-in_err-check
returns-in_err-check c =
    let a = c.args in
    open_refuses a.s a.share.now a.nonce.now a.header.now _ c.requires.0 c.block_of-n.ensures a.sealed.now a.room.now
    _ _ c.saturating_sub-length.ensures refl _ _ c.from_residual.ensures.1 c.in_err-check.ensures.number c.in_err-check.ensures.unworked

pub rounds-rounds-requires : goal.rounds-rounds-requires
rounds-rounds-requires c = counted_on c.args.s _ _ _ _ _ _ _ c.requires.0 c.in_ok-check.ensures.number

pub open-requires : goal.open-requires
open-requires c =
    let a = c.args in
    let p = check_passed a.s _ _ _ _ _ _ _ (sym c.in_ok-check.ensures.number) in
    let q = ltb-false (length a.sealed.now) c.block_of-n.result
    (check_long a.s _ _ _ _ _ _ _ (sym c.in_ok-check.ensures.number)) in (
      record { fills = omega (arith, p.fit.nonce_fits, c.requires.0.nonce); few = omega (arith, p.fit.header_fits, c.requires.0.header) },
      record {
        fills = omega (arith, p.fit.nonce_fits, c.requires.0.nonce);
        few =
            omega (arith, p.body_fits, c.requires.0.body, c.saturating_sub-length.ensures, q, c.block_of-n.ensures, block_most a.s.cipher);
      },
      record {
        block = omega (arith, q, c.block_of-n.ensures);
        fits = omega (arith, p.room_fits, c.saturating_sub-length.ensures, q, c.block_of-n.ensures);
      },
      c.requires.1,
    )

pub returns-then-not-open : goal.returns-then-not-open
returns-then-not-open c =
    let a = c.args in
    open_forges a.s a.share.now a.nonce.now a.header.now _ c.requires.0 c.block_of-n.ensures a.sealed.now a.room.now
    _ _ c.saturating_sub-length.ensures refl c.in_ok-check.ensures.number _ _ c.open.ensures _ c.rounds-rounds.ensures
    c.if-not-open.true _ c.clear.ensures

pub returns : goal.returns
returns c =
    let a = c.args in
    open_does a.s a.share.now a.nonce.now a.header.now _ c.requires.0 c.block_of-n.ensures a.sealed.now a.room.now
    _ _ c.saturating_sub-length.ensures refl c.in_ok-check.ensures.number _ _ c.open.ensures _ c.rounds-rounds.ensures
    c.if-not-open.false
