-- `prepared::join` meets its contract: the closure's number at each place is two joined nibbles. Assumes nothing.
use Prim.Native.Nat.{◌+◌, ◌*◌, ◌%◌}
use lib.ListN.{get_or}
use Rattle.std.proofs.Common.{rules}
use Rattle.blocks.proofs.Made.{made}
use Rattle.prepared.proofs.Loops.{joined_long, joined_at}
use Rattle.prepared.proofs.join.Goals as goal

pub returns : goal.returns
returns c =
    let cells = c.args.cells in
    made _ (λ i. get_or cells (2 * i) 0 % 16 * 16 + get_or cells (2 * i + 1) 0 % 16) _ (λ i y q k. search rules) c.from_fn.ensures.items _
    (joined_long cells) (joined_at cells)
