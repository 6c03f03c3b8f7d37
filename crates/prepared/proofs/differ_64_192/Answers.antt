-- `prepared::differ_64_192` meets its contract: what two parts of the share differ in. Assumes nothing.
use mathlib.Core.Path.{sym, ap, ◌∙◌}
use mathlib.Core.List.{List, ◌++◌}
use Prim.Native.Nat.{ℕ}
use native.Mathlib.Omega.{arith}
use lib.ListN.{take, drop, replicate}
use lib.Seq.{length-take-le}
use Rattle.ciphers.specs.declared.Cipher.TheVariants.{N64T192}
use Rattle.ciphers.specs.Ciphers.{tk}
use Rattle.prepared.specs.Prepared.{unmoving, shares_of, joined, key_in}
use Rattle.prepared.proofs.Found.{room_long, differs_64_192}
use Rattle.prepared.proofs.differ_64_192.Goals as goal

pub slice_bounds-differences-end : goal.slice_bounds-differences-end
slice_bounds-differences-end c =
    let s = c.args.share.now in sym (length-take-le _ s (omega arith))

pub slice_bounds-differences-end-2 : goal.slice_bounds-differences-end-2
slice_bounds-differences-end-2 c =
    let l = c.lay_64_192 in sym (length-take-le _ l.new.share (omega (arith, room_long _ (replicate 784 0) l.ensures)))

pub slice_bounds-differences-end-4 : goal.slice_bounds-differences-end-4
slice_bounds-differences-end-4 c =
    let s = c.args.share.now in
    sym (length-take-le _ s (omega arith))

pub returns : goal.returns
unfolding key_in tk
returns c =
    let s = c.args.share.now in
    let key = c.join.ensures ∙ ap joined c.words_in.ensures in
    let t = c.load_key-t.ensures ∙ ap (λ (x : List ℕ). tk N64T192 x unmoving) key in
    differs_64_192 s (replicate 784 0) c.differences-in_first.result c.differences-in_rest.result (omega arith)
    (c.lay_64_192.ensures ∙ (λ i. take 240 (shares_of N64T192 (t i).cells) ++ drop 240 (replicate 784 0)))
    c.differences-in_first.ensures c.differences-in_rest.ensures
