-- `lines::output` meets its contract: the loop lays two digits a turn over the text. Assumes nothing.
use Prim.Native.Nat.{◌*◌}
use Rattle.blocks.proofs.Over.{Laid}
use Rattle.lines.proofs.Digits.{ended}
use Rattle.lines.proofs.output.Given as goal

abbrev pub invariant-loop-i : goal.invariant-loop-i
invariant-loop-i l = Laid (ended l.bytes) l.initial.text (2 * l.i) l.text
