-- `job::run` meets its contract: what can be taken is answered by its sections' seal or open. Assumes nothing.
use mathlib.Core.Path.{ap, ◌∙◌}
use Rattle.std.specs.Prelude.{Result, Err}
use Rattle.std.proofs.lemmas.Result.{err_from_is_err_and}
use Rattle.refusals.specs.declared.Refusal.{Refusal}
use Rattle.sealing.specs.declared.Answer.{Answer}
use Rattle.sealing.specs.Calls.{told}
use Rattle.job.specs.Job.{byte_of}
use Rattle.job.proofs.Reading.{unsound, answered}
use Rattle.job.proofs.run.Goals as goal

pub returns-in_err-r : goal.returns-in_err-r
returns-in_err-r c =
    let (x, is, same) = err_from_is_err_and c.from_residual.result c.from_residual.ensures.1 in
    let (job, none) = c.in_err-r.ensures.unsound in
    let a = c.args in
    ap (λ (r : Result Answer Refusal). told r a.room.now) (is ∙ ap Err (same ∙ job)) ∙ unsound a.job.now a.room.now none

pub returns-in-Seal : goal.returns-in-Seal
returns-in-Seal c = c.seal_by_key.ensures ∙ answered c.in_ok-r.ensures.sound (ap byte_of c.in-Seal.is) c.args.room.now

pub returns-in-Open : goal.returns-in-Open
returns-in-Open c = c.open_by_key.ensures ∙ answered c.in_ok-r.ensures.sound (ap byte_of c.in-Open.is) c.args.room.now
