-- `lines::field` meets its contract: the digits are copied to the front of the text, and the space ends them. Assumes nothing.
use mathlib.Core.Path.{sym}
use native.Mathlib.Omega.{arith}
use Rattle.lines.proofs.Digits.{Told, most_digits, field_length, field_laid}
use Rattle.lines.proofs.field.Goals as goal

pub returns : goal.returns
returns c =
    let k = c.decimal-k in
    let most = most_digits _ _ c.ranges.n.fits k.ensures.len in
    let told : Told c.args.n k.result k.new.out = (k.ensures.in_bounds, (k.ensures.len, k.ensures.digits)) in
    (omega arith, (sym (field_length _ _ _ most told), field_laid _ _ _ most told _ c.copy_from_slice.ensures.after (omega arith)))
