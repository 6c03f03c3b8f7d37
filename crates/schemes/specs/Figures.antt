-- The boundary figures of document 01 (What a caller is told; 3 and 8 parted by C-11, scheme 3's limit by C-12, schemes 4 to 7 by C-14), one
-- table: the lengths that go into a call, and the number that its checks answer; 0 says that no check applies. Key and nonce have the
-- scheme's lengths. Assumes nothing.
use Rattle.std.specs.Prelude.{ℕ, ◌+◌, ◌-◌, Bool, true, false, List, [], ◌∷◌, ◌++◌, Option, Some, None}
use Rattle.schemes.specs.declared.Scheme.{Scheme}
use Rattle.schemes.specs.Checks.{checked}
use Rattle.schemes.specs.Schemes.{scheme_of}

-- `input` is the body's length or, where the call is an open, the run's
pub record Figure : Type 0 where
  pub opens : Bool
  pub scheme : ℕ
  pub header : ℕ
  pub input : ℕ
  pub room : ℕ
  pub number : ℕ

abbrev seals : (scheme header body room number : ℕ) → Figure
seals scheme header body room number =
    record { opens = false; scheme = scheme; header = header; input = body; room = room; number = number }

abbrev opening : (scheme header run room number : ℕ) → Figure
opening scheme header run room number =
    record { opens = true; scheme = scheme; header = header; input = run; room = room; number = number }

-- a scheme with blocks of n bytes that has no run for an empty header and an empty body takes a header of h bytes and a body of b, and
-- refuses one more; where both are empty it is 10, behind 4 and 5
abbrev bounds : (scheme n h b : ℕ) → List Figure
bounds scheme n h b =
    seals scheme 0 b (b + n) 0
    ∷ seals scheme 0 (b + 1) (b + 1 + n) 8
    ∷ seals scheme h 0 n 0
    ∷ seals scheme (h + 1) 0 n 3
    ∷ opening scheme h (b + n) b 0
    ∷ opening scheme h (b + 1 + n) (b + 1) 8
    ∷ opening scheme (h + 1) (b + n) b 3
    ∷ opening scheme 0 (n - 1) 0 4
    ∷ opening scheme 0 n 0 10
    ∷ opening scheme 1 n 0 0
    ∷ opening scheme 0 (n + 1) 1 0
    ∷ seals scheme 0 0 (n - 1) 5
    ∷ seals scheme 0 0 n 10
    ∷ seals scheme 1 0 n 0
    ∷ seals scheme 0 1 (n + 1) 0
    ∷ []

abbrev pub figures : List Figure
figures =
    -- scheme 1 takes 65,528 bytes and refuses 65,529, of a header with 3 and of a body, also in its run, with 8; of both with 3
    seals 1 0 65528 65536 0
    ∷ seals 1 0 65529 65537 8
    ∷ seals 1 65528 0 8 0
    ∷ seals 1 65529 0 8 3
    ∷ opening 1 65528 65536 65528 0
    ∷ opening 1 65528 65537 65529 8
    ∷ opening 1 65529 65536 65528 3
    ∷ seals 1 65529 65529 65537 3
    ∷ opening 1 65529 65537 65529 3
    -- scheme 2 takes 131,056 and refuses 131,057
    ∷ seals 2 0 131056 131072 0
    ∷ seals 2 0 131057 131073 8
    ∷ seals 2 131056 0 16 0
    ∷ seals 2 131057 0 16 3
    ∷ opening 2 131056 131072 131056 0
    ∷ opening 2 131056 131073 131057 8
    ∷ opening 2 131057 131072 131056 3
    ∷ seals 2 131057 131057 131073 3
    ∷ opening 2 131057 131073 131057 3
    -- scheme 3 takes 1,048,576 and refuses 1,048,577
    ∷ seals 3 0 1048576 1048592 0
    ∷ seals 3 0 1048577 1048593 8
    ∷ seals 3 1048576 0 16 0
    ∷ seals 3 1048577 0 16 3
    ∷ opening 3 1048576 1048592 1048576 0
    ∷ opening 3 1048576 1048593 1048577 8
    ∷ opening 3 1048577 1048592 1048576 3
    ∷ seals 3 1048577 1048577 1048593 3
    ∷ opening 3 1048577 1048593 1048577 3
    -- an open of 7 bytes under scheme 1 is 4; of 8 bytes it is judged as an empty body; likewise 15 and 16 under 2 and 3
    ∷ opening 1 0 7 0 4
    ∷ opening 1 0 8 0 0
    ∷ opening 2 0 15 0 4
    ∷ opening 2 0 16 0 0
    ∷ opening 3 0 15 0 4
    ∷ opening 3 0 16 0 0
    -- a run shorter than a block has no body to judge under 8: it is 4, but 3 under too long a header
    ∷ opening 1 65529 7 0 3
    -- a room one byte short is 5; an exact room is enough
    ∷ seals 1 16 5 12 5
    ∷ seals 1 16 5 13 0
    ∷ opening 1 16 13 4 5
    ∷ opening 1 16 13 5 0
    ∷ seals 2 16 5 20 5
    ∷ seals 2 16 5 21 0
    ∷ opening 2 16 21 4 5
    ∷ opening 2 16 21 5 0
    ∷ seals 3 16 5 20 5
    ∷ seals 3 16 5 21 0
    ∷ opening 3 16 21 4 5
    ∷ opening 3 16 21 5 0
    -- schemes 4 and 5 take a header of 131,040 bytes and a body of 262,136, schemes 6 and 7 one of 262,080 and one of 524,272
    ∷ bounds 4 8 131040 262136
    ++ bounds 5 8 131040 262136
    ++ bounds 6 16 262080 524272
    ++ bounds 7 16 262080 524272

-- ---- its two sides

-- the number by the checks, with a key and a nonce of the scheme's lengths; 1 where none is named
abbrev number_by : Option Scheme → Figure → ℕ
number_by (Some s) f = checked f.opens s s.key s.nonce f.header f.input f.room
number_by None f = 1

abbrev pub all_answered : List Figure → List ℕ
all_answered [] = []
all_answered (f ∷ fs) = number_by (scheme_of f.scheme) f ∷ all_answered fs

abbrev pub all_stated : List Figure → List ℕ
all_stated [] = []
all_stated (f ∷ fs) = f.number ∷ all_stated fs
