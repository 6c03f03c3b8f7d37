-- What a block call is asked for, and the half that it starts from, by their numbers (document 01: wanted, 0 the first result, 1 the second, 2 both; from, 0
-- or 1). Assumes nothing.
use Rattle.std.specs.Prelude.{ℕ, zero, suc, Result, Ok, Err}
use Rattle.refusals.specs.declared.Refusal.{Refusal}
use Rattle.refusals.specs.declared.Refusal.TheVariants.{Unknown}
use Rattle.forkskinny.specs.declared.wanted.Want.{Want}
use Rattle.forkskinny.specs.declared.wanted.Want.TheVariants.{First, Second, Both}
use Rattle.forkskinny.specs.declared.wanted.Half.{Half}
use Rattle.forkskinny.specs.declared.wanted.Half.TheVariants.{Zero, One}

abbrev pub want_of : Want → ℕ
want_of First = 0
want_of Second = 1
want_of Both = 2

abbrev pub want_named : ℕ → Result Want Refusal
want_named zero = Ok First
want_named (suc zero) = Ok Second
want_named (suc (suc zero)) = Ok Both
want_named (suc (suc (suc n))) = Err Unknown

abbrev pub half_of : Half → ℕ
half_of Zero = 0
half_of One = 1

abbrev pub half_named : ℕ → Result Half Refusal
half_named zero = Ok Zero
half_named (suc zero) = Ok One
half_named (suc (suc n)) = Err Unknown
