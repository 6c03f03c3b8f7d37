-- ForkSkinny, forward and back, as figure 4 of the Forkcipher paper has it: "enc" and "dec" cite the lines of its two
-- functions. Assumes nothing.
use Rattle.std.specs.Prelude.{ℕ, zero, suc, ◌+◌, List}
use Rattle.cells.specs.Cells.{Width}
use Rattle.schedule.specs.declared.Tweakey.{Tweakey}
use Rattle.schedule.specs.Schedule.{advance}
use Rattle.rounds.specs.State.{State}
use Rattle.runs.specs.Runs.{rounds, unrounds}
use Rattle.ciphers.specs.declared.Cipher.{Cipher}
use Rattle.ciphers.specs.Ciphers.{width_of, words_of, init_of, branch_of, load, unload, tk, add_branch}
use Rattle.forkskinny.specs.declared.Branch.{Branch}
use Rattle.forkskinny.specs.declared.Branch.TheVariants.{Near, Far}

-- ---- the two branches

-- which branch gives a half: the near one half 0, the far one half 1 (enc 5 and 9). Only this line says it.
abbrev pub side_of : ℕ → Branch
side_of zero = Near
side_of (suc h) = Far

-- the round at which a branch begins: the near one goes on, the far one takes the rounds after it (enc 5 and 8)
abbrev pub start_of : Cipher → Branch → ℕ
start_of c Near = init_of c
start_of c Far = init_of c + branch_of c

-- the branch constant goes into the far branch alone, and comes off it on the way back (enc 9, dec 8)
abbrev pub enter : Width → Branch → State → State
enter w Near s = s
enter w Far s = add_branch w s

-- ---- forward, t being tk

-- L, the state at the fork (enc 3)
unfoldable pub forked : Cipher → Tweakey → List ℕ → State
forked c t m = rounds (width_of c) (words_of c) (init_of c) t (load (width_of c) m)

-- a branch from L (enc 5, 8, 9)
unfoldable pub branch : Cipher → Branch → Tweakey → State → List ℕ
branch c b t s =
    unload (width_of c)
    (rounds (width_of c) (words_of c) (branch_of c) (advance (width_of c) (words_of c) (start_of c b) t) (enter (width_of c) b s))

-- ---- back

-- L from a branch's block (dec 3 to 8)
unfoldable pub unbranch : Cipher → Branch → Tweakey → List ℕ → State
unbranch c b t h =
    enter (width_of c) b
    (unrounds (width_of c) (words_of c) (branch_of c) (advance (width_of c) (words_of c) (start_of c b) t) (load (width_of c) h))

-- M from L (dec 11)
unfoldable pub unforked : Cipher → Tweakey → State → List ℕ
unforked c t s = unload (width_of c) (unrounds (width_of c) (words_of c) (init_of c) t s)

-- ---- ForkSkinny: the halves of a block; from half h the input, and the other half from the state at the fork (dec 15)

unfoldable pub half : Cipher → List ℕ → List ℕ → ℕ → List ℕ → List ℕ
half c key tweak h m = branch c (side_of h) (tk c key tweak) (forked c (tk c key tweak) m)

unfoldable pub input : Cipher → List ℕ → List ℕ → ℕ → List ℕ → List ℕ
input c key tweak h x = unforked c (tk c key tweak) (unbranch c (side_of h) (tk c key tweak) x)

abbrev pub other_of : ℕ → ℕ
other_of zero = 1
other_of (suc h) = 0

unfoldable pub other : Cipher → List ℕ → List ℕ → ℕ → List ℕ → List ℕ
other c key tweak h x = branch c (side_of (other_of h)) (tk c key tweak) (unbranch c (side_of h) (tk c key tweak) x)
