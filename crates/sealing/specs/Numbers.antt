-- The words in which each number is explained (C-11, C-13), for both calls at once: `opens` is as in the schemes' Checks.antt. Assumes nothing.
use Rattle.std.specs.Prelude.{◌≡◌, ◌⊎◌, ℕ, Bool, true, false, List}
use Rattle.sealing.specs.Calls.{Told, seal_of, open_of}

abbrev pub answered : (opens : Bool) → ℕ → (key nonce header input room : List ℕ) → Told
answered false = seal_of
answered true = open_of

-- a call that was worked to its end: done, or found forged (C-13: 6 reports the rounds of a success)
abbrev pub Worked : ℕ → Type 0
Worked number = (number ≡ 0) ⊎ (number ≡ 6)
