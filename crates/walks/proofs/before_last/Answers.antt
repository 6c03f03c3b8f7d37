-- `walks::before_last` meets its contract: it is the definition. Assumes nothing.
use mathlib.Core.Path.{ap}
use Prim.Native.Nat.{ℕ, ◌/◌}
use Rattle.modes.specs.Blocks.{before_last}
use Rattle.walks.proofs.before_last.Goals as goal

pub returns : goal.returns
unfolding before_last
returns c = ap (λ (m : ℕ). m / c.args.n) c.saturating_sub.ensures
