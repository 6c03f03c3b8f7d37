-- `blocks::differences` meets its contract: it collects what the two differ by, and lists of two lengths are not the same. (What is gone
-- through is the whole of both, said so that a slice of the whole would do as well.) Assumes nothing.
use Rattle.std.proofs.Common.{rules, ◌∙◌}
use lib.Seq.{take_all}
use Rattle.std.proofs.lemmas.Iterator.{YieldsList-from_slice, YieldsList-from_zip}
use Rattle.std.proofs.lemmas.Iterator.Consumers.{YieldsList-at, fold_from_yields_List}
use Rattle.blocks.proofs.Collected.{differing, collected, not_same}
use Rattle.blocks.proofs.differences.Goals as goal

pub returns-then-a-b : goal.returns-then-a-b
returns-then-a-b c = not_same c.args.a.now c.args.b.now c.if-a-b.true

pub returns : goal.returns
returns c =
    let first = YieldsList-at c.zip.ensures.first (YieldsList-from_slice c.args.a.now (c.iter.ensures.rest ∙ search (rules, take_all))) in
    let second = YieldsList-at c.zip.ensures.second (YieldsList-from_slice c.args.b.now (c.iter-2.ensures.rest ∙ search (rules, take_all))) in
    rw (fold_from_yields_List _ differing 0 c.fold.result c.fold.ensures.ran (YieldsList-from_zip first second) (λ d p e q k. search rules))
    (collected c.args.a.now c.args.b.now c.if-a-b.false)
