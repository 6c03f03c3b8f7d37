-- `ciphers::load_key` meets its contract: by cases. Assumes nothing.
use mathlib.Core.Path.{◌∙◌, sym, ap}
use mathlib.Core.List.{List}
use Prim.Native.Nat.{ℕ}
use lib.ListN.{replicate}
use Rattle.schedule.specs.declared.Tweakey.{Tweakey}
use Rattle.ciphers.specs.declared.Cipher.{Cipher}
use Rattle.ciphers.specs.Ciphers.{tk}
use Rattle.ciphers.proofs.load_key.Goals as goal

pub returns-in-N64T192 : goal.returns-in-N64T192
unfolding tk
returns-in-N64T192 c =
    let a = c.args in
    ap {B = Tweakey} (λ (l : List ℕ). record { cells = l; at = 0 }) c.key_nibbles-cells.ensures
    ∙ sym (ap (λ (x : Cipher). tk x a.key (replicate 16 0)) c.in-N64T192.is)

pub returns-in-N128T256 : goal.returns-in-N128T256
unfolding tk
returns-in-N128T256 c =
    let a = c.args in
    ap {B = Tweakey} (λ (l : List ℕ). record { cells = l; at = 0 }) c.key_bytes-cells.ensures
    ∙ sym (ap (λ (x : Cipher). tk x a.key (replicate 16 0)) c.in-N128T256.is)
