-- What the comparison is told: an answer with its rounds, the number returned and all else written. Assumes nothing.
use Rattle.std.specs.Prelude.{ℕ, List}
use Rattle.forkskinny.specs.Calls.{ForkTold, UnforkTold}
use Rattle.sealing.specs.Calls.{Told}

abbrev pub fork_told : ℕ → List ℕ → List ℕ → ℕ → ForkTold
fork_told number half0 half1 rounds = record { number = number; half0 = half0; half1 = half1; rounds = rounds }

abbrev pub unfork_told : ℕ → List ℕ → List ℕ → ℕ → UnforkTold
unfork_told number input other rounds = record { number = number; input = input; other = other; rounds = rounds }

abbrev pub call_told : ℕ → ℕ → List ℕ → ℕ → Told
call_told number length room rounds = record { number = number; length = length; room = room; rounds = rounds }
