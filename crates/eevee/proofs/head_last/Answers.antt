-- `eevee::head_last` meets its contract: T_A is what `head_link` made, under the number of a last block. Assumes nothing.
use mathlib.Core.Path.{ap}
use mathlib.Core.List.{List}
use Prim.Native.Nat.{ℕ}
use native.Mathlib.Omega.{arith}
use lib.ListN.{take}
use Rattle.ciphers.specs.Ciphers.{block_of}
use Rattle.modes.specs.Eevee.{eevee}
use Rattle.eevee.proofs.head_last.Goals as goal

pub returns-clause-stepped : goal.returns-clause-stepped
unfolding eevee
returns-clause-stepped c own =
    let a = c.args in record {
      state =
          ap (λ (l : List ℕ). record { link = l; delta = take (block_of a.under.now.cipher) a.s.delta; number = 1 })
          (rw c.head_end.ensures.0 at c.head_link.ensures.linked);
      number = omega arith;
    }
