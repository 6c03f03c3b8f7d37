-- `prepared::lay_64_192` meets its contract: both loops lay cells of the share and step word 2. Assumes nothing.
use mathlib.Core.List.{List}
use Prim.Native.Nat.{ℕ, ◌*◌, ◌+◌}
use Rattle.ciphers.specs.declared.Cipher.TheVariants.{N64T192}
use Rattle.prepared.proofs.Loops.{SharesLaid, Stepped}
use Rattle.prepared.proofs.lay_64_192.Given as goal

abbrev pub invariant-loop-j : goal.invariant-loop-j
invariant-loop-j l =
    (t d : List ℕ) → SharesLaid N64T192 t d (16 * l.k + 0) l.initial.share → Stepped t l.k 0 l.initial.c
    → SharesLaid N64T192 t d (16 * l.k + l.j) l.share × Stepped t l.k l.j l.c

abbrev pub invariant-loop-k : goal.invariant-loop-k
invariant-loop-k l = SharesLaid N64T192 l.initial.c l.initial.share (16 * l.k + 0) l.share × Stepped l.initial.c l.k 0 l.c
