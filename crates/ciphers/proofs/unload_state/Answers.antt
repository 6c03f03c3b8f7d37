-- `ciphers::unload_state` meets its contract: by cases. Assumes nothing.
use mathlib.Core.Path.{◌∙◌, sym, ap}
use Rattle.ciphers.specs.declared.Cipher.{Cipher}
use Rattle.ciphers.specs.Ciphers.{unload, width_of}
use Rattle.ciphers.proofs.unload_state.Goals as goal

pub returns-in-N64T192 : goal.returns-in-N64T192
unfolding unload
returns-in-N64T192 c =
    let a = c.args in
    c.unload_nibbles.ensures ∙ sym (ap (λ (x : Cipher). unload (width_of x) a.s) c.in-N64T192.is)

pub returns-in-N128T256 : goal.returns-in-N128T256
unfolding unload
returns-in-N128T256 c =
    let a = c.args in
    c.unload_bytes.ensures ∙ sym (ap (λ (x : Cipher). unload (width_of x) a.s) c.in-N128T256.is)
