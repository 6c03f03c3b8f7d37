-- `auraski::with_prepared::record_in` meets its contract: its parts are those that are read of the room. Assumes nothing.
use Rattle.auraski.proofs.Rooms.{parts_in}
use Rattle.auraski.proofs.with_prepared.record_in.Goals as goal

pub returns : goal.returns
returns c = parts_in c.args.room.now c.cipher_in.ensures c.share_in.ensures c.moving_in.ensures
