-- `lines::line` meets its contract: each part goes on where the one before it ended. Assumes nothing.
use mathlib.Core.Path.{sym}
use native.Mathlib.Omega.{arith}
use Rattle.blocks.proofs.Wrote.{wrote_first, wrote_more}
use Rattle.lines.specs.Line.{field_of}
use Rattle.lines.proofs.line.Goals as goal

pub returns-clause-puts : goal.returns-clause-puts
returns-clause-puts c =
    let first = c.field-a.ensures in
    let second = c.field-b.ensures in
    let third = c.output-c.ensures in
    let a = c.args in
    let one = wrote_first {x = field_of a.number} {room₀ = a.text.now} _ (sym first.1.0) (omega arith) first.1.1 in
    let two = wrote_more one _ _ _ (sym second.1.0) (omega arith) second.1.1 in
    let three = wrote_more two _ _ _ (sym third.1.0) (omega arith) third.1.1 in
    (sym three.reach, three.said)
