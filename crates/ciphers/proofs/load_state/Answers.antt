-- `ciphers::load_state` meets its contract: by cases. Assumes nothing.
use mathlib.Core.Path.{◌∙◌, sym, ap}
use Rattle.ciphers.specs.declared.Cipher.{Cipher}
use Rattle.ciphers.specs.Ciphers.{load, width_of}
use Rattle.ciphers.proofs.load_state.Goals as goal

pub returns-in-N64T192 : goal.returns-in-N64T192
unfolding load
returns-in-N64T192 c =
    let a = c.args in
    c.load_nibbles.ensures ∙ sym (ap (λ (x : Cipher). load (width_of x) a.b) c.in-N64T192.is)

pub returns-in-N128T256 : goal.returns-in-N128T256
unfolding load
returns-in-N128T256 c =
    let a = c.args in
    c.load_bytes.ensures ∙ sym (ap (λ (x : Cipher). load (width_of x) a.b) c.in-N128T256.is)
