-- `constants::room` meets its contract: one computed test of the table against the rule; behind it ten rows of zeros.
-- Assumes nothing.
use mathlib.Core.Path.{refl, ◌∙◌}
use mathlib.Core.List.{List, []}
use Prim.Native.Nat.{ℕ}
use lib.ListN.{replicate, get_or-append}
use Rattle.cells.specs.Tabs.{tab}
use Rattle.cells.proofs.Tabs.{tab_at}
use Rattle.constants.specs.Constants.{constant, constant_row}
use Rattle.constants.proofs.room.Goals as goal

pub returns : goal.returns
unfolding constant
returns c =
    let rule : ℕ → List ℕ = λ i. constant_row (constant i) in
    record { long = refl; at = λ i h. get_or-append (tab rule 0 87) (replicate 10 (replicate 8 0)) [] i h ∙ tab_at [] rule 87 i h }
