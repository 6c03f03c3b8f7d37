-- `lines::output` meets its contract: the loop lays two digits a turn over the text. Assumes nothing.
use mathlib.Core.Path.{◌≡◌, refl, sym, ◌∙◌}
use mathlib.Core.List.{[], ◌∷◌}
use Prim.Native.Nat.{◌+◌, ◌*◌}
use native.Mathlib.Omega.{arith}
use borrow.Author.Tests.{eqb-true, eqb-false}
use lib.ListN.{length}
use Rattle.blocks.proofs.Over.{laid_none, laid_more, laid_front}
use Rattle.lines.proofs.Digits.{ended, ended_length, ended_at, ended_end, output_none, output_some}
use Rattle.lines.proofs.output.Goals as goal

pub returns-then-is_empty : goal.returns-then-is_empty
returns-then-is_empty c =
    let text = c.args.text.now in
    let none = eqb-true (length c.args.bytes.now) 0 (sym c.is_empty.ensures ∙ c.if-is_empty.true) in
    let dash = laid_more (laid_none (45 ∷ 10 ∷ []) text) refl (omega arith) (omega arith) in
    let laid = laid_more dash refl (omega arith) (omega arith) in
    rw (output_none _ none) (omega arith, (refl, laid_front laid refl refl))

pub loop-i-init : goal.loop-i-init
loop-i-init c = laid_none _ _

pub loop-i-preserved : goal.loop-i-preserved
loop-i-preserved c =
    let l = c.loop-i in
    let bytes = c.args.bytes.now in
    let n = ended_length bytes in
    let (high, low) = ended_at bytes l.i (2 * l.i) c.loop-i-test.true (omega arith) in
    let one = laid_more l.invariant (c.digit.ensures ∙ high) (omega arith) (omega arith) in
    let two = laid_more one (c.digit-in-loop-i.ensures ∙ low) (omega arith) (omega arith) in
    let e : 2 * l.i + 1 + 1 ≡ 2 * (l.i + 1) = omega arith in
    rw e at two

pub returns : goal.returns
returns c =
    let l = c.loop-i in
    let bytes = c.args.bytes.now in
    let some = eqb-false (length bytes) 0 (sym c.is_empty.ensures ∙ c.if-is_empty.false) in
    let end : l.i ≡ length bytes = omega arith in
    let t : length (ended bytes) ≡ 2 * length bytes + 1 = ended_length bytes ∙ omega arith in
    let laid = laid_more (rw end at l.invariant) (ended_end bytes (2 * length bytes) (omega arith)) (omega arith) (omega arith) in
    rw (output_some bytes some) (omega arith, (sym t, laid_front laid t refl))
