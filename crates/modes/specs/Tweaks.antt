-- The tweaks under which a rule works the blocks of a record: those of its block calls. Assumes nothing.
use Rattle.std.specs.Prelude.{◌≡◌, ℕ, ◌<◌, List, [], ◌∷◌, length, get_or}
use Rattle.modes.specs.Forkcipher.{Call}
use Rattle.modes.specs.Mode.{Mode}
use Rattle.modes.specs.Rounds.{seal_calls}

unfoldable pub tweaks : List Call → List (List ℕ)
tweaks [] = []
tweaks (c ∷ cs) = c.tweak ∷ tweaks cs

-- of a record that is sealed
unfoldable pub seal_tweaks : {St : Type 0} → ℕ → Mode St → (header body : List ℕ) → List (List ℕ)
seal_tweaks n M header body = tweaks (seal_calls n M header body)

-- no two entries are the same
pub record Distinct (xs : List (List ℕ)) : Type 0 where
  pub differ : (i j : ℕ) → i < length xs → j < length xs → get_or xs i [] ≡ get_or xs j [] → i ≡ j
