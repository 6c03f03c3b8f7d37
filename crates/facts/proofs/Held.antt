-- The small facts of document 01 hold: the whole table, computed, under one proof. Assumes nothing.
use mathlib.Core.Path.{◌≡◌, refl}
use Prim.Native.Nat.{ℕ}
use Rattle.cells.specs.Cells.{sub, unsub, sub8, unsub8, flips, shuffle, unshuffle, swap, step2}
use Rattle.constants.specs.Constants.{constant}
use Rattle.modes.specs.Blocks.{be16, pad}
use Rattle.modes.specs.Paef.{paef_tweak, paef_head, paef_body}
use Rattle.modes.specs.Saef.{saef_tweak, saef_head}
use Rattle.facts.specs.Facts.{facts, all_computed, all_stated}

pub facts_hold : (h : ℕ → ℕ) → all_computed (facts h) ≡ all_stated (facts h)
unfolding facts sub unsub sub8 unsub8 flips shuffle unshuffle swap step2 constant pad be16 paef_tweak paef_head paef_body saef_tweak saef_head
facts_hold h = refl
