-- `auraski::auraski_rounds` meets its contract: a refusal has no rounds. Assumes nothing.
use mathlib.Core.Path.{ap, ◌∙◌}
use Prim.Native.Nat.{ℕ}
use Rattle.sealing.proofs.Rounds.{refused_budget}
use Rattle.auraski.specs.Entries.{counted}
use Rattle.auraski.proofs.auraski_rounds.Goals as goal

pub returns-in-Err : goal.returns-in-Err
returns-in-Err c =
    let a = c.args in
    ap (λ (number : ℕ). counted number 0) c.from.ensures ∙ refused_budget a.scheme a.header a.body c.in-Err.refusal c.in-Err.ensures
