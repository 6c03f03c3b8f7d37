-- `rounds::add_rows` meets its contract: words xored are bytes xored. Assumes nothing.
use Prim.Native.Nat.{ℕ}
use lib.ListN.{get_or}
use Rattle.cells.proofs.Lanes.{lane_xor}
use Rattle.rounds.specs.State.{four, row}
use Rattle.rounds.proofs.add_rows.Goals as goal

pub returns : goal.returns
returns c =
    let a = c.args in
    let at : ℕ → ℕ = λ k. get_or a.s k 0 in
    λ i. four
    (row (λ j. lane_xor (at 0) a.a j i))
    (row (λ j. lane_xor (at 1) a.b j i))
    (row (λ j. lane_xor (at 2) a.c j i))
    (row (λ j. lane_xor (at 3) a.d j i))
