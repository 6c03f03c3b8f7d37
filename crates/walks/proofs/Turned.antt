-- One turn of a walk that writes, from what its callees ensure. f and g are what a mode makes of the block and of the state: `out` and
-- `next` in sealing, `back` and `back_next` in opening. Assumes nothing.
use mathlib.Core.Path.{◌≡◌, ap, ◌∙◌}
use mathlib.Core.List.{List, ◌++◌}
use Prim.Native.Nat.{ℕ, ◌≤◌}
use native.Mathlib.Omega.{arith}
use lib.ListN.{length, take, drop}
use lib.Seq.{length-take-le}
use Rattle.ciphers.specs.declared.Cipher.{Cipher}
use Rattle.ciphers.specs.Ciphers.{block_of}
use Rattle.ciphers.proofs.Laws.{block_most}
use Rattle.modes.specs.Blocks.{pad}
use Rattle.states.specs.declared.Kind.{Kind}
use Rattle.states.specs.declared.State.{State}
use Rattle.states.specs.Modes.{Carried, state_of}
use Rattle.states.specs.Steps.{Stepped}
use Rattle.walks.specs.Walks.{Turned}
use Rattle.walks.proofs.Answered.{put_as}
use Rattle.walks.proofs.Places.{loaded_full}

-- N is the block's size as the code has it
pub turned
    : (c : Cipher) {k : Kind} {f : Carried k → List ℕ → List ℕ} {g : Carried k → List ℕ → Carried k} {s : State} (part old : List ℕ)
    {x out : List ℕ} {next : State} {new : List ℕ} {N : ℕ}
    → N ≡ block_of c → take N x ≡ pad N part → Stepped k (block_of c) f g s x out next → new ≡ take N out ++ drop N old
    → block_of c ≤ length part → Turned k (block_of c) f g s part old next new
turned c {k} {f} {g} {s} part old {x} {out} {N = N} size ld t put h =
    let n = block_of c in
    let st = state_of k n s in
    let e : take n x ≡ take n part = loaded_full N n x part size ld h in
    let l : length (take N out) ≡ N = length-take-le N out (omega (arith, t.long, block_most c, size)) in
    record {
      reached = record { state = t.next_is ∙ ap (g st) e; number = t.number };
      put =
          put_as (ap (λ (m : ℕ). take m out) size ∙ t.out_is ∙ ap (f st) e) size
          (record { said = put; long = l });
    }
