-- `ciphers::branch_constant` meets its contract: the steps from 1, computed. Assumes nothing.
use mathlib.Core.Path.{sym, ap}
use Rattle.cells.specs.Cells.{step2}
use Rattle.ciphers.specs.declared.Cipher.{Cipher}
use Rattle.ciphers.specs.Ciphers.{branch_constant, width_of}
use Rattle.ciphers.proofs.branch_constant.Goals as goal

pub returns-in-N64T192 : goal.returns-in-N64T192
unfolding branch_constant step2
returns-in-N64T192 c = sym (ap (λ (x : Cipher). branch_constant (width_of x)) c.in-N64T192.is)

pub returns-in-N128T256 : goal.returns-in-N128T256
unfolding branch_constant step2
returns-in-N128T256 c = sym (ap (λ (x : Cipher). branch_constant (width_of x)) c.in-N128T256.is)
