-- `states::numbered` meets its contract: two bytes are stored behind the nonce. Assumes nothing.
use Prim.Native.Nat.{◌/◌, ◌%◌}
use Rattle.modes.specs.Blocks.{be16}
use Rattle.states.proofs.Tweaks.{two_behind}
use Rattle.states.proofs.numbered.Goals as goal

pub returns : goal.returns
unfolding be16
returns c =
    let a = c.args in
    let v = a.number in
    two_behind a.nonce.now c.front-t.result c.front-t.ensures (v / 256 % 256) (v % 256) c.requires
