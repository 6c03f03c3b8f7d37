-- `walks::counting::head_blocks` meets its contract: by which of header and body is empty. Assumes nothing.
use mathlib.Core.Path.{◌∙◌, sym, ap}
use Prim.Native.Nat.{ℕ, ◌+◌}
use native.Mathlib.Omega.{arith}
use borrow.Author.Tests.{eq-eqb, ne_eqb}
use Rattle.modes.specs.Rounds.{blocks, head_blocks}
use Rattle.modes.proofs.Rounds.{before_last_few}
use Rattle.walks.proofs.Counted.{some_header}
use Rattle.walks.proofs.counting.head_blocks.Goals as goal

pub returns-then-body-eq0 : goal.returns-then-body-eq0
unfolding head_blocks
returns-then-body-eq0 c = rw (eq-eqb _ 0 c.if-header-eq0.true, eq-eqb _ 0 c.if-body-eq0.true)

pub returns-else-body-eq0 : goal.returns-else-body-eq0
unfolding head_blocks blocks
returns-else-body-eq0 c = rw (eq-eqb _ 0 c.if-header-eq0.true, ne_eqb _ 0 c.if-body-eq0.false)

pub before_last-requires : goal.before_last-requires
before_last-requires c = omega (arith, c.requires.0)

pub overflow_add-result : goal.overflow_add-result
overflow_add-result c =
    omega (arith, before_last_few _ c.requires.0 c.args.header c.requires.1, c.before_last.ensures)

pub returns : goal.returns
returns c = ap (λ (k : ℕ). k + 1) c.before_last.ensures ∙ sym (some_header _ _ _ c.if-header-eq0.false)
