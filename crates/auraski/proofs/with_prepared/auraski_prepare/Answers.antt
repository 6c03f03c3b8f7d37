-- `auraski::with_prepared::auraski_prepare` meets its contract: the number, and the record or the fixed one laid out. Assumes nothing.
use mathlib.Core.Path.{ap, ◌∙◌}
use Rattle.auraski.specs.Rooms.{prepared, prepared_in}
use Rattle.auraski.proofs.Rooms.{no_record_laid}
use Rattle.auraski.proofs.with_prepared.auraski_prepare.Goals as goal

pub returns-in-Err : goal.returns-in-Err
returns-in-Err c = (λ i. prepared (c.from.ensures i) (no_record_laid i)) ∙ ap prepared_in c.in-Err.ensures
