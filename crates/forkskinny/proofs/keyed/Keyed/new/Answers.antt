-- `forkskinny::Keyed::new` meets its contract: nothing is kept in a room that has the constants. Assumes nothing.
use Rattle.forkskinny.proofs.keyed.Keyed.new.Goals as goal

pub invariant_of-result : goal.invariant_of-result
invariant_of-result c = record { made = c.requires; keeps = c.room.ensures }
