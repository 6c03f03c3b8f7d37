-- The number of each refusal (01, What a caller is told; 7 and 8 are parted from 2 and 3 by C-11, 9 is the desk's program's, and 10 is C-14's), and the
-- rounds that are told beside it. Assumes nothing.
use Rattle.std.specs.Prelude.{ℕ}
use Rattle.refusals.specs.declared.Refusal.{Refusal}
use Rattle.refusals.specs.declared.Refusal.TheVariants.{Unknown, Key, Header, Short, Room, Forged, Nonce, Body, Job, Blank}

abbrev pub number_of : Refusal → ℕ
-- scheme, cipher, half or choice that no number names
number_of Unknown = 1
-- a key of another length, or a prepared one that no key of this cipher gives
number_of Key = 2
number_of Header = 3
-- a run shorter than a block
number_of Short = 4
number_of Room = 5
-- a run that is not authentic
number_of (Forged rounds) = 6
number_of Nonce = 7
number_of Body = 8
-- what is no job
number_of Job = 9
-- header and body both empty, under a mode that has no run for them
number_of Blank = 10

-- none before the first block: a forged run's are those of a success (C-13)
abbrev pub rounds_of : Refusal → ℕ
rounds_of (Forged rounds) = rounds
rounds_of Unknown = 0
rounds_of Key = 0
rounds_of Header = 0
rounds_of Short = 0
rounds_of Room = 0
rounds_of Nonce = 0
rounds_of Body = 0
rounds_of Job = 0
rounds_of Blank = 0
