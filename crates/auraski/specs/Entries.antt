-- What a C caller is told: the number returned, and what is written. Of an answer that is all but its rounds, which `auraski_rounds` tells by
-- the lengths alone. Assumes nothing.
use Rattle.std.specs.Prelude.{ℕ, List}
use Rattle.forkskinny.specs.Calls.{ForkTold, UnforkTold}
use Rattle.sealing.specs.Budget.{Budget}
use Rattle.sealing.specs.Calls.{Told}

-- ---- a block call: both blocks

pub record Blocks : Type 0 where
  pub number : ℕ
  pub first : List ℕ
  pub second : List ℕ

abbrev pub blocks : ℕ → List ℕ → List ℕ → Blocks
blocks number first second = record { number = number; first = first; second = second }

abbrev pub halves_in : ForkTold → Blocks
halves_in f = blocks f.number f.half0 f.half1

abbrev pub back_in : UnforkTold → Blocks
back_in f = blocks f.number f.input f.other

-- ---- seal and open: the length and the room

pub record Answered : Type 0 where
  pub number : ℕ
  pub length : ℕ
  pub room : List ℕ

abbrev pub answered : ℕ → ℕ → List ℕ → Answered
answered number length room = record { number = number; length = length; room = room }

abbrev pub answer_in : Told → Answered
answer_in t = answered t.number t.length t.room

-- ---- the rounds

abbrev pub counted : ℕ → ℕ → Budget
counted number rounds = record { number = number; rounds = rounds }
