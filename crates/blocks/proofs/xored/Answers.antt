-- `blocks::xored` meets its contract: the closure's number at each place is the two bytes' xor. Assumes nothing.
use mathlib.Core.Path.{◌≡◌, sym, ◌∙◌}
use native.Mathlib.Omega.{arith}
use lib.Bits.{bit_xor}
use lib.ListN.{length, get_or}
use Rattle.std.proofs.Common.{rules}
use Rattle.modes.proofs.Bytes.{get_d_xor, xor_length}
use Rattle.blocks.proofs.Made.{made}
use Rattle.blocks.proofs.xored.Goals as goal

pub returns : goal.returns
returns c =
    let a = c.args.a in
    let b = c.args.b in
    let u : length a ≡ 16 = omega arith in
    let v : length b ≡ 16 = omega arith in
    made _ (λ i. bit_xor (get_or a i 0) (get_or b i 0)) _ (λ i y q k. search rules) c.from_fn.ensures.items _
    (xor_length a b (u ∙ sym v) ∙ u)
    (λ k l. get_d_xor a b k (omega arith) (omega arith))
