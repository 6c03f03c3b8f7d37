-- `auraski::with_prepared::lay_out` meets its contract: its copies lay the record in place. Assumes nothing.
use native.Mathlib.Omega.{arith}
use Rattle.auraski.proofs.Rooms.{copied_out}
use Rattle.auraski.proofs.with_prepared.lay_out.Goals as goal

pub returns : goal.returns
returns c = copied_out c.args.cipher _ c.copy_from_slice.ensures.after c.copy_from_slice-2.ensures.after (omega arith) (omega arith)
