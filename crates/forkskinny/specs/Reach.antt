-- How far a call lays the round keys out: no further than the branches that it takes. Assumes nothing.
use Rattle.std.specs.Prelude.{ℕ, ◌+◌, Bool, true, false, cond, List}
use Rattle.schedule.specs.declared.Tweakey.{Tweakey}
use Rattle.schedule.specs.Schedule.{RoundKeys}
use Rattle.ciphers.specs.declared.Cipher.{Cipher}
use Rattle.ciphers.specs.Ciphers.{width_of, words_of, branch_of}
use Rattle.forkskinny.specs.declared.Branch.{Branch}
use Rattle.forkskinny.specs.declared.Branch.TheVariants.{Near, Far}
use Rattle.forkskinny.specs.ForkSkinny.{side_of, start_of, other_of}
use Rattle.forkskinny.specs.Calls.{wants}

abbrev pub is_far : Branch → Bool
is_far Near = false
is_far Far = true

-- half h is asked for, and the far branch gives it
abbrev pub far_if : Bool → ℕ → Bool
far_if asked h = cond asked (is_far (side_of h)) false

-- the far branch is taken for half h or for half k
abbrev pub takes_far : Bool → ℕ → Bool → ℕ → Bool
takes_far a h b k = cond (far_if a h) true (far_if b k)

-- the rounds to the end of the far branch, or of the near one
abbrev pub reach_of : Cipher → Bool → ℕ
reach_of c true = start_of c Far + branch_of c
reach_of c false = start_of c Near + branch_of c

-- forward, and back from a half
abbrev pub fork_reach : Cipher → (want : ℕ) → ℕ
fork_reach c want = reach_of c (takes_far (wants 0 want) 0 (wants 1 want) 1)

abbrev pub unfork_reach : Cipher → (from want : ℕ) → ℕ
unfork_reach c from want = reach_of c (takes_far true from (wants 1 want) (other_of from))

-- ---- keys that are laid: of a cipher's first m rounds, from the tweakey t
abbrev pub LaidFor : Cipher → (m : ℕ) → Tweakey → List (List ℕ) → Type 0
LaidFor c m t keys = RoundKeys (width_of c) (words_of c) m t keys
