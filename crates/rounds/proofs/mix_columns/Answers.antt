-- `rounds::mix_columns` meets its contract: words xored are bytes xored. Assumes nothing.
use mathlib.Core.Path.{◌∙◌, ap}
use Prim.Native.Nat.{ℕ}
use lib.ListN.{get_or}
use lib.Bits.{bit_xor}
use Rattle.cells.specs.Words.{lane}
use Rattle.cells.proofs.Lanes.{lane_xor}
use Rattle.rounds.specs.State.{four, row}
use Rattle.rounds.proofs.mix_columns.Goals as goal

pub returns : goal.returns
returns c =
    let at : ℕ → ℕ = λ k. get_or c.args.s k 0 in
    let a = at 0 in
    let b = at 1 in
    let e = at 2 in
    let d = at 3 in
    λ i. four
    (row (λ j. (lane_xor (bit_xor a e) d j ∙ ap (λ (x : ℕ). bit_xor x (lane d j)) (lane_xor a e j)) i))
    (row (lane a))
    (row (λ j. lane_xor b e j i))
    (row (λ j. lane_xor a e j i))
