-- `kept::lay` meets its contract: the share and the tweak's word are the tweakey's parts. Assumes nothing.
use native.Mathlib.Omega.{arith}
use Rattle.kept.proofs.Parts.{laid_anew}
use Rattle.kept.proofs.lay.Goals as goal

pub returns : goal.returns
returns c =
    let a = c.args in
    laid_anew a.c a.share.now a.tweak.now a.m c.requires.0 c.requires.1 c.requires.2 (record { at = c.fits-tweak }) (omega arith)
    c.lay_keys.ensures.0 c.lay_keys.ensures.1
