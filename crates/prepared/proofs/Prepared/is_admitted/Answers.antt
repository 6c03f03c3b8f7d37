-- `prepared::Prepared::is_admitted` meets its contract: the record of another cipher, or what its share and its moving part differ in. Assumes nothing.
use Rattle.prepared.proofs.Found.{other_cipher, judged}
use Rattle.prepared.proofs.Prepared.is_admitted.Goals as goal

pub returns-then-self-from : goal.returns-then-self-from
returns-then-self-from c = other_cipher _ c.args.self.now c.from.ensures c.if-self-from.true

pub returns : goal.returns
returns c =
    judged _ c.args.self.now c.differ-in_share.result c.differences-in_tweak.result c.from.ensures c.if-self-from.false c.differ-in_share.ensures
    c.differences-in_tweak.ensures
