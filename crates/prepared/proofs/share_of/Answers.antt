-- `prepared::share_of` meets its contract: by cases. Assumes nothing.
use mathlib.Core.Path.{◌∙◌, sym}
use Prim.Native.Nat.{ℕ}
use lib.ListN.{replicate, length-replicate}
use Rattle.ciphers.specs.declared.Cipher.TheVariants.{N64T192}
use Rattle.ciphers.specs.Ciphers.{tk}
use Rattle.prepared.specs.Prepared.{shares_of}
use Rattle.prepared.proofs.Found.{rows_all}
use Rattle.prepared.proofs.share_of.Goals as goal

pub returns-in-N64T192 : goal.returns-in-N64T192
unfolding tk
returns-in-N64T192 c =
    let e = c.in-N64T192.is in
    let d = c.load_key-t.ensures in
    c.lay_64_192.ensures ∙ rows_all N64T192 _ (replicate 784 0) (length-replicate {A = ℕ} 784 0) ∙ (λ i. shares_of (sym e i) (d i).cells)

pub returns-in-N128T256 : goal.returns-in-N128T256
unfolding tk
returns-in-N128T256 c =
    let e = c.in-N128T256.is in
    let d = c.load_key-t.ensures in c.lay_128_256.ensures ∙ (λ i. shares_of (sym e i) (d i).cells)
