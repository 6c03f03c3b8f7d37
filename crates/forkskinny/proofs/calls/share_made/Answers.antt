-- `forkskinny::calls::share_made` meets its contract: the share was made of this key. Assumes nothing.
use native.Mathlib.Omega.{arith}
use Rattle.prepared.proofs.Admitted.{made_of}
use Rattle.forkskinny.proofs.calls.share_made.Goals as goal

pub returns : goal.returns
returns c =
    let a = c.args in
    let m = made_of a.c a.key.now (record { long = omega arith; bytes = record { at = c.fits-key } }) c.share_of.ensures in
    record { made = m.1; key = m.0 }
