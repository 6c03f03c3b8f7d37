-- A prepared key as a C caller holds it: a room of 801 bytes, the number of its cipher, the 784 cells of its share, its moving part of sixteen.
-- Assumes nothing.
use Rattle.std.specs.Prelude.{ℕ, ◌%◌, List, ◌∷◌, ◌++◌, get_or, take, drop}
use Rattle.prepared.specs.declared.Prepared.{Prepared}
use Rattle.prepared.specs.Prepared.{Preparation}

unfoldable pub laid_out : ℕ → (share tweak : List ℕ) → List ℕ
laid_out cipher share tweak = (cipher ∷ share) ++ tweak

unfoldable pub record_in : List ℕ → Prepared
record_in room = record { cipher = get_or room 0 0; share = take 784 (drop 1 room); tweak = take 16 (drop 785 room) }

-- what preparing tells: the number returned, and the room written
pub record Prepares : Type 0 where
  pub number : ℕ
  pub room : List ℕ

abbrev pub prepared : ℕ → List ℕ → Prepares
prepared number room = record { number = number; room = room }

abbrev pub prepared_in : Preparation → Prepares
prepared_in p = prepared p.number (laid_out (p.made.cipher % 256) p.made.share p.made.tweak)
