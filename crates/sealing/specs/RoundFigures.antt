-- The figures of C-13 (document 02; schemes 4 to 7 are C-14's), two tables: the rounds of the block calls, and those of records by their lengths. Assumes nothing.
use Rattle.std.specs.Prelude.{ℕ, Bool, true, false, cond, List, [], ◌∷◌}
use Rattle.forkskinny.specs.Calls.{fork_of, unfork_of}
use Rattle.sealing.specs.Budget.{Budget, budget_of}

-- ---- block calls

-- `back` from the half `from`; ciphers and wants by the numbers of the calls
pub record BlockFigure : Type 0 where
  pub back : Bool
  pub cipher : ℕ
  pub from : ℕ
  pub want : ℕ
  pub rounds : ℕ

abbrev forward : (cipher want rounds : ℕ) → BlockFigure
forward cipher want rounds = record { back = false; cipher = cipher; from = 0; want = want; rounds = rounds }

abbrev backward : (cipher from want rounds : ℕ) → BlockFigure
backward cipher from want rounds = record { back = true; cipher = cipher; from = from; want = want; rounds = rounds }

abbrev pub block_figures : List BlockFigure
block_figures =
    -- under 128-256 one half costs 48 and both 75
    forward 2 0 48
    ∷ forward 2 1 48
    ∷ forward 2 2 75
    -- under 64-192, 40 and 63
    ∷ forward 1 0 40
    ∷ forward 1 1 40
    ∷ forward 1 2 63
    -- back from a half, the input alone costs as one half
    ∷ backward 2 0 0 48
    ∷ backward 2 1 0 48
    ∷ backward 1 0 0 40
    ∷ backward 1 1 0 40
    -- both results as both
    ∷ backward 2 0 2 75
    ∷ backward 2 1 2 75
    ∷ backward 1 0 2 63
    ∷ backward 1 1 2 63
    -- the other half alone 54 or 46
    ∷ backward 2 0 1 54
    ∷ backward 2 1 1 54
    ∷ backward 1 0 1 46
    ∷ backward 1 1 1 46
    -- refusals report 0: no such cipher, choice or half
    ∷ forward 0 2 0
    ∷ forward 3 2 0
    ∷ forward 2 3 0
    ∷ backward 0 0 2 0
    ∷ backward 3 0 2 0
    ∷ backward 2 0 3 0
    ∷ backward 2 2 2 0
    ∷ []

module _ (key tweak block : List ℕ) where
  abbrev pub blocks_told : List BlockFigure → List ℕ
  blocks_told [] = []
  blocks_told (f ∷ fs) =
      cond f.back (unfork_of f.cipher key tweak block f.from f.want).rounds (fork_of f.cipher key tweak block f.want).rounds
      ∷ blocks_told fs

abbrev pub blocks_stated : List BlockFigure → List ℕ
blocks_stated [] = []
blocks_stated (f ∷ fs) = f.rounds ∷ blocks_stated fs

-- ---- records

pub record RecordFigure : Type 0 where
  pub scheme : ℕ
  pub header : ℕ
  pub body : ℕ
  pub told : Budget

abbrev takes : (scheme header body rounds : ℕ) → RecordFigure
takes scheme header body rounds = record { scheme = scheme; header = header; body = body; told = record { number = 0; rounds = rounds } }

abbrev refuses : (scheme header body number : ℕ) → RecordFigure
refuses scheme header body number = record { scheme = scheme; header = header; body = body; told = record { number = number; rounds = 0 } }

abbrev pub record_figures : List RecordFigure
record_figures =
    -- both empty: one padded block
    takes 1 0 0 40
    ∷ takes 2 0 0 48
    ∷ takes 3 0 0 48
    -- an empty header costs nothing before a body, and an empty body nothing behind a header
    ∷ takes 1 0 1 63
    ∷ takes 2 0 1 75
    ∷ takes 3 0 1 75
    ∷ takes 1 1 0 40
    ∷ takes 2 1 0 48
    ∷ takes 3 1 0 48
    -- a header of sixteen bytes and a body of thirty-two: 2 * 40 + 4 * 63, and 48 + 2 * 75
    ∷ takes 1 16 32 332
    ∷ takes 2 16 32 198
    ∷ takes 3 16 32 198
    -- a byte more of each is a block more
    ∷ takes 1 17 33 435
    ∷ takes 2 17 33 321
    ∷ takes 3 17 33 321
    -- the longest
    ∷ takes 1 65528 65528 843673
    ∷ takes 2 131056 131056 1007493
    ∷ takes 3 1048576 1048576 8060928
    -- Umbreon and Jolteon: an empty header, or an empty body, and the same where the body has one block
    ∷ takes 4 0 1 63
    ∷ takes 5 0 1 63
    ∷ takes 6 0 1 75
    ∷ takes 7 0 1 75
    ∷ takes 4 1 0 40
    ∷ takes 5 1 0 40
    ∷ takes 6 1 0 48
    ∷ takes 7 1 0 48
    -- 2 * 40 + 4 * 63, and 2 * 40 + 3 * 40 + 63; 48 + 2 * 75, and 48 + 48 + 75
    ∷ takes 4 16 32 332
    ∷ takes 5 16 32 263
    ∷ takes 6 16 32 198
    ∷ takes 7 16 32 171
    -- their longest
    ∷ takes 4 131040 262136 2719521
    ∷ takes 5 131040 262136 1965903
    ∷ takes 6 262080 524272 3243765
    ∷ takes 7 262080 524272 2359083
    -- refused: a byte too long, header before body, and no such scheme
    ∷ refuses 1 65529 0 3
    ∷ refuses 1 0 65529 8
    ∷ refuses 2 131057 131057 3
    ∷ refuses 3 0 1048577 8
    ∷ refuses 0 0 0 1
    ∷ refuses 8 0 0 1
    -- and header and body both empty
    ∷ refuses 4 0 0 10
    ∷ refuses 5 0 0 10
    ∷ refuses 6 0 0 10
    ∷ refuses 7 0 0 10
    ∷ refuses 4 131041 0 3
    ∷ refuses 7 0 524273 8
    ∷ []

abbrev pub records_told : List RecordFigure → List Budget
records_told [] = []
records_told (f ∷ fs) = budget_of f.scheme f.header f.body ∷ records_told fs

abbrev pub records_stated : List RecordFigure → List Budget
records_stated [] = []
records_stated (f ∷ fs) = f.told ∷ records_stated fs
