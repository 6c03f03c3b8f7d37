-- The boundary figures of specs/Figures.antt: the whole table, computed. Assumes nothing.
use mathlib.Core.Path.{◌≡◌, refl}
use Rattle.schemes.specs.Checks.{blank, check_of}
use Rattle.schemes.specs.Figures.{figures, all_answered, all_stated}
use Rattle.schemes.specs.Schemes.{scheme_of}

pub figures_hold : all_answered figures ≡ all_stated figures
unfolding scheme_of check_of blank
figures_hold = refl
