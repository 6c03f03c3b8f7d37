-- Round keys that are kept from block to block (C-16): under which tweak they were laid, and of how many rounds. Assumes nothing.
use Rattle.std.specs.Prelude.{ℕ, ◌≤◌, ◌≡◌, List, length, Option, Some, None}
use Rattle.constants.specs.Constants.{Room}
use Rattle.schedule.specs.Schedule.{RoundKeys}
use Rattle.ciphers.specs.declared.Cipher.{Cipher}
use Rattle.ciphers.specs.Ciphers.{width_of, words_of, tk}
use Rattle.prepared.specs.Prepared.{key_in, Made}
use Rattle.kept.specs.declared.Kept.{Kept}

-- the keys of the first m rounds, under the key that a share was made of and a tweak
abbrev pub KeysFor : Cipher → (share tweak : List ℕ) (m : ℕ) → List (List ℕ) → Type 0
KeysFor c share tweak m keys = RoundKeys (width_of c) (words_of c) m (tk c (key_in c share) tweak) keys

-- a room holds the keys of so many rounds, under a tweak
pub record Holds (c : Cipher) (share : List ℕ) (kept : Kept) (keys : List (List ℕ)) : Type 0 where
  pub wide : length kept.tweak ≡ 16
  pub most : kept.rounds ≤ 87
  pub long : length keys ≡ 97
  pub keyed : KeysFor c share kept.tweak kept.rounds keys

-- a room holds what is told of it; one in which nothing is laid has the constants
abbrev pub Keeps : Cipher → (share : List ℕ) → Option Kept → List (List ℕ) → Type 0
Keeps c share None keys = Room keys
Keeps c share (Some kept) keys = Holds c share kept keys

-- a room was turned to a tweak, for m rounds at least
pub record TurnedTo (c : Cipher) (share tweak : List ℕ) (m : ℕ) (kept : Kept) (keys : List (List ℕ)) : Type 0 where
  pub tweaked : kept.tweak ≡ tweak
  pub enough : m ≤ kept.rounds
  pub keeps : Holds c share kept keys

-- what goes from block to block: a share that some key gives, and a room that holds what is told of it
pub record Lent (c : Cipher) (share : List ℕ) (kept : Option Kept) (keys : List (List ℕ)) : Type 0 where
  pub made : Made c share
  pub keeps : Keeps c share kept keys
