-- `walks::counting::rounds` meets its contract: no step overflows, and the sum is the formula (Counted.antt). Assumes nothing.
use native.Mathlib.Omega.{arith}
use Rattle.walks.proofs.Counted.{wide, head_few, counted_none, body_few, counted_some}
use Rattle.walks.proofs.counting.rounds.Goals as goal

pub head_blocks-requires : goal.head_blocks-requires
head_blocks-requires c = (omega (arith, wide c.args.c, c.block_of-n.ensures), c.requires.0)

pub overflow_cast-of_header : goal.overflow_cast-of_header
overflow_cast-of_header c =
    let a = c.args in
    omega (arith, head_few a.k a.c a.header a.body _ c.block_of-n.ensures _ c.prices_of-p.ensures _ c.head_blocks.ensures c.requires.0)

pub overflow_mul-of_header : goal.overflow_mul-of_header
overflow_mul-of_header c =
    let a = c.args in
    omega (arith, head_few a.k a.c a.header a.body _ c.block_of-n.ensures _ c.prices_of-p.ensures _ c.head_blocks.ensures c.requires.0)

pub returns-then-body-eq0 : goal.returns-then-body-eq0
returns-then-body-eq0 c =
    let a = c.args in
    counted_none a.k a.c a.header a.body _ c.block_of-n.ensures _ c.prices_of-p.ensures _ c.head_blocks.ensures c.if-body-eq0.true

pub before_last-requires : goal.before_last-requires
before_last-requires c =
    omega (arith, wide c.args.c, c.block_of-n.ensures)

pub overflow_cast-result : goal.overflow_cast-result
overflow_cast-result c =
    let a = c.args in
    omega (arith, body_few a.k a.c a.header a.body _ c.block_of-n.ensures _ c.prices_of-p.ensures _ c.before_last.ensures c.requires.1)

pub overflow_mul-result : goal.overflow_mul-result
overflow_mul-result c =
    let a = c.args in
    omega (arith, body_few a.k a.c a.header a.body _ c.block_of-n.ensures _ c.prices_of-p.ensures _ c.before_last.ensures c.requires.1)

pub overflow_add-result : goal.overflow_add-result
overflow_add-result c =
    let a = c.args in
    omega (
      arith,
      head_few a.k a.c a.header a.body _ c.block_of-n.ensures _ c.prices_of-p.ensures _ c.head_blocks.ensures c.requires.0,
      body_few a.k a.c a.header a.body _ c.block_of-n.ensures _ c.prices_of-p.ensures _ c.before_last.ensures c.requires.1,
    )

pub overflow_add-result-2 : goal.overflow_add-result-2
overflow_add-result-2 c =
    let a = c.args in
    omega (
      arith,
      head_few a.k a.c a.header a.body _ c.block_of-n.ensures _ c.prices_of-p.ensures _ c.head_blocks.ensures c.requires.0,
      body_few a.k a.c a.header a.body _ c.block_of-n.ensures _ c.prices_of-p.ensures _ c.before_last.ensures c.requires.1,
    )

pub returns : goal.returns
returns c =
    let a = c.args in
    counted_some a.k a.c a.header a.body _ c.block_of-n.ensures _ c.prices_of-p.ensures _ c.head_blocks.ensures
    _ c.before_last.ensures c.if-body-eq0.false
