-- `rounds::unmix_columns` meets its contract: words xored are bytes xored. Assumes nothing.
use mathlib.Core.Path.{◌∙◌, ap}
use Prim.Native.Nat.{ℕ}
use lib.ListN.{get_or}
use lib.Bits.{bit_xor}
use Rattle.cells.specs.Words.{lane}
use Rattle.cells.proofs.Lanes.{lane_xor}
use Rattle.rounds.specs.State.{four, row}
use Rattle.rounds.proofs.unmix_columns.Goals as goal

pub returns : goal.returns
returns c =
    let at : ℕ → ℕ = λ k. get_or c.args.s k 0 in
    let p = at 0 in
    let q = at 1 in
    let r = at 2 in
    let t = at 3 in
    λ i. four
    (row (lane q))
    (row (λ j. (lane_xor r (bit_xor q t) j ∙ ap (λ (x : ℕ). bit_xor (lane r j) x) (lane_xor q t j)) i))
    (row (λ j. lane_xor q t j i))
    (row (λ j. lane_xor p t j i))
