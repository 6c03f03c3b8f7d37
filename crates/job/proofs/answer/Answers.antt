-- `job::answer` meets its contract: the text holds the line of every part of the room. Assumes nothing.
use mathlib.Core.Path.{◌≡◌, ap}
use native.Mathlib.Omega.{arith}
use lib.ListN.{length}
use borrow.Author.Rules.{rules}
use Rattle.job.proofs.Printing.{view_most}
use Rattle.job.proofs.answer.Goals as goal

pub line-requires : goal.line-requires
line-requires c =
    let text : length c.args.text.now ≡ 32832 = search rules in
    let room : length c.run.new.room ≡ 16384 = search rules in
    let part = ap length c.view-output.ensures in
    omega (arith, text, room, part, view_most c.match-run.number.0 c.match-run.number.1 c.run.new.room)
