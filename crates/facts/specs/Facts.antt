-- The small facts of document 01, one table: what the definitions compute, and what the document states. Assumes nothing.
use Rattle.std.specs.Prelude.{ℕ, true, List, [], ◌∷◌, ◌++◌, length, drop, replicate}
use Rattle.cells.specs.Cells.{Nibble, Byte, sub, unsub, step2}
use Rattle.constants.specs.Constants.{constant}
use Rattle.rounds.specs.State.{State, cell, mix_columns}
use Rattle.modes.specs.Blocks.{full, none, pad}
use Rattle.modes.specs.Paef.{paef_tweak, paef_head, paef_body}
use Rattle.modes.specs.Saef.{saef_tweak, saef_head}

pub record Fact : Type 0 where
  pub computed : List ℕ
  pub stated : List ℕ

-- the state whose first column this is
abbrev column : ℕ → ℕ → ℕ → ℕ → State
column a b c d = (a ∷ []) ∷ (b ∷ []) ∷ (c ∷ []) ∷ (d ∷ []) ∷ []

abbrev first_column : State → List ℕ
first_column s = cell s 0 0 ∷ cell s 1 0 ∷ cell s 2 0 ∷ cell s 3 0 ∷ []

-- any fifteen bytes
abbrev fifteen : (ℕ → ℕ) → List ℕ
fifteen h = h 0 ∷ h 1 ∷ h 2 ∷ h 3 ∷ h 4 ∷ h 5 ∷ h 6 ∷ h 7 ∷ h 8 ∷ h 9 ∷ h 10 ∷ h 11 ∷ h 12 ∷ h 13 ∷ h 14 ∷ []

-- the last two bytes of the tweak of a header's only block, under scheme 2
abbrev head_end : List ℕ → List ℕ
head_end header = drop 14 (paef_tweak (replicate 14 0) (paef_head (full 16 (length header))) 1)

-- h are the bytes of P12's header, whatever they are
unfoldable pub facts : (ℕ → ℕ) → List Fact
facts h =
    -- P1 8-bit cell 00 gives 65
    record { computed = sub Byte 0x00 ∷ []; stated = 0x65 ∷ [] }
    -- P2 01 gives 4c
    ∷ record { computed = sub Byte 0x01 ∷ []; stated = 0x4c ∷ [] }
    -- P3 ff gives ff
    ∷ record { computed = sub Byte 0xff ∷ []; stated = 0xff ∷ [] }
    -- P4 backward 65 gives 00
    ∷ record { computed = unsub Byte 0x65 ∷ []; stated = 0x00 ∷ [] }
    -- P5 4-bit 0 gives c, f gives f
    ∷ record { computed = sub Nibble 0x0 ∷ sub Nibble 0xf ∷ []; stated = 0xc ∷ 0xf ∷ [] }
    -- P6 first round constants 01 03 07 0f 1f 3f 7e 7d
    ∷ record {
      computed = constant 0 ∷ constant 1 ∷ constant 2 ∷ constant 3 ∷ constant 4 ∷ constant 5 ∷ constant 6 ∷ constant 7 ∷ [];
      stated = 0x01 ∷ 0x03 ∷ 0x07 ∷ 0x0f ∷ 0x1f ∷ 0x3f ∷ 0x7e ∷ 0x7d ∷ [];
    }
    -- P7 byte step of word 2: 82 to 05
    ∷ record { computed = step2 Byte 0x82 ∷ []; stated = 0x05 ∷ [] }
    -- P8 column (1,2,4,8) to (d,1,6,5)
    ∷ record { computed = first_column (mix_columns (column 1 2 4 8)); stated = 0xd ∷ 0x1 ∷ 0x6 ∷ 0x5 ∷ [] }
    -- P9 PAEF flag 101, number 2: bytes a0 02
    ∷ record { computed = drop 14 (paef_tweak (replicate 14 0) (paef_body true) 2); stated = 0xa0 ∷ 0x02 ∷ [] }
    -- P10 SAEF first tweak's last byte, empty header and body: 0f
    ∷ record { computed = drop 15 (saef_tweak (replicate 15 0) true (saef_head (none 0) (full 16 0))); stated = 0x0f ∷ [] }
    -- P11 aa bb cc pads to aa bb cc 80 00 00 00 00
    ∷ record {
      computed = pad 8 (0xaa ∷ 0xbb ∷ 0xcc ∷ []);
      stated = 0xaa ∷ 0xbb ∷ 0xcc ∷ 0x80 ∷ 0x00 ∷ 0x00 ∷ 0x00 ∷ 0x00 ∷ [];
    }
    -- P12 a 15-byte header and the same with 80 added pad alike, with PAEF ends 60 01 and 20 01 under scheme 2
    ∷ record { computed = pad 16 (fifteen h); stated = pad 16 (fifteen h ++ 0x80 ∷ []) }
    ∷ record { computed = head_end (fifteen h); stated = 0x60 ∷ 0x01 ∷ [] }
    ∷ record { computed = head_end (fifteen h ++ 0x80 ∷ []); stated = 0x20 ∷ 0x01 ∷ [] }
    ∷ []

-- the table's two sides
abbrev pub all_computed : List Fact → List (List ℕ)
all_computed [] = []
all_computed (f ∷ fs) = f.computed ∷ all_computed fs

abbrev pub all_stated : List Fact → List (List ℕ)
all_stated [] = []
all_stated (f ∷ fs) = f.stated ∷ all_stated fs
