-- `auraski::with_prepared::moving_in` meets its contract: a part of the room. Assumes nothing.
use mathlib.Core.Path.{◌∙◌}
use mathlib.Core.List.{append-nil}
use native.Mathlib.Omega.{arith}
use lib.ListN.{take, drop, length-take}
use lib.Seq.{take_all}
use Rattle.auraski.proofs.with_prepared.moving_in.Goals as goal

pub returns : goal.returns
returns c =
    let part = take 16 (drop 785 c.args.room.now) in
    c.front.ensures ∙ append-nil (take 16 part) ∙ take_all 16 part (simp length-take (omega arith))
