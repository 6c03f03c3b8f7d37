-- What seal and open tell their caller, and what the room then holds, for every input (01, What a caller is told; the rounds are C-13's).
-- Assumes nothing.
use Rattle.std.specs.Prelude.{ℕ, zero, suc, ◌+◌, ◌-◌, cond, List, ◌++◌, length, take, drop, replicate, Option, Some, None, Result, Ok, Err}
use Rattle.refusals.specs.declared.Refusal.{Refusal}
use Rattle.refusals.specs.Refusal.{number_of, rounds_of}
use Rattle.ciphers.specs.Ciphers.{block_of}
use Rattle.prepared.specs.declared.Prepared.{Prepared}
use Rattle.prepared.specs.Prepared.{key_of}
use Rattle.modes.specs.Mode.{Opened, seal_run, open_run}
use Rattle.modes.specs.Rounds.{seal_calls, open_calls, total}
use Rattle.states.specs.Modes.{mode_of}
use Rattle.states.specs.Skinny.{cost_of}
use Rattle.schemes.specs.declared.Scheme.{Scheme}
use Rattle.schemes.specs.Schemes.{scheme_of}
use Rattle.schemes.specs.Checks.{seal_check, open_check}
use Rattle.sealing.specs.declared.Answer.{Answer}

-- number, length, room and rounds
pub record Told : Type 0 where
  pub number : ℕ
  pub length : ℕ
  pub room : List ℕ
  pub rounds : ℕ

abbrev pub told : Result Answer Refusal → List ℕ → Told
told (Ok a) room = record { number = 0; length = a.length; room = room; rounds = a.rounds }
told (Err r) room = record { number = number_of r; length = 0; room = room; rounds = rounds_of r }

-- the output, at the front of the room
abbrev pub written : Told → List ℕ
written t = take t.length t.room

-- 1 to 5, 7, 8 and 10: the room unchanged, and no rounds
abbrev pub refused : ℕ → List ℕ → Told
refused number room = record { number = number; length = 0; room = room; rounds = 0 }

-- 0: an output of l bytes at the front, the rest unchanged
abbrev pub done : (rounds l : ℕ) → List ℕ → List ℕ → Told
done rounds l out room = record { number = 0; length = l; room = out ++ drop l room; rounds = rounds }

-- 6: zeros where a body of l bytes would have been, the rest unchanged, and the rounds of a success
abbrev pub forged : (rounds l : ℕ) → List ℕ → Told
forged rounds l room = record { number = 6; length = 0; room = replicate l 0 ++ drop l room; rounds = rounds }

-- what an open of a body of l bytes answers where the checks passed
abbrev pub judged : (rounds : ℕ) → Opened → (l : ℕ) → List ℕ → Told
judged rounds o l room = cond o.authentic (done rounds l o.body room) (forged rounds l room)

-- what is done where the checks answered 0, and else the refusal
abbrev pub passed : ℕ → Told → List ℕ → Told
passed zero t room = t
passed (suc k) t room = refused (suc k) room

-- under the scheme that a number names, or 1
abbrev pub under : Option Scheme → (Scheme → Told) → List ℕ → Told
under (Some s) f room = f s
under None f room = refused 1 room

-- ---- under a scheme, by its mode

abbrev pub sealed : Scheme → (key nonce header body : List ℕ) → List ℕ
sealed s key nonce header body = seal_run (block_of s.cipher) (mode_of s.kind s.cipher key nonce) header body

abbrev pub opened : Scheme → (key nonce header run : List ℕ) → Opened
opened s key nonce header run = open_run (block_of s.cipher) (mode_of s.kind s.cipher key nonce) header run

-- the rounds of the block calls that the mode's rule makes, added up
abbrev pub seal_rounds : Scheme → (key nonce header body : List ℕ) → ℕ
seal_rounds s key nonce header body =
    total (cost_of s.cipher) (seal_calls (block_of s.cipher) (mode_of s.kind s.cipher key nonce) header body)

abbrev pub open_rounds : Scheme → (key nonce header run : List ℕ) → ℕ
open_rounds s key nonce header run =
    total (cost_of s.cipher) (open_calls (block_of s.cipher) (mode_of s.kind s.cipher key nonce) header run)

-- a sealed run is a block longer than its body
unfoldable pub seal_under : Scheme → (key nonce header body room : List ℕ) → Told
seal_under s key nonce header body room =
    let n = block_of s.cipher in
    passed (seal_check s (length key) (length nonce) (length header) (length body) (length room))
    (done (seal_rounds s key nonce header body) (length body + n) (sealed s key nonce header body) room)
    room

unfoldable pub open_under : Scheme → (key nonce header run room : List ℕ) → Told
open_under s key nonce header run room =
    let n = block_of s.cipher in
    let l = length run - n in
    passed (open_check s (length key) (length nonce) (length header) (length run) (length room))
    (judged (open_rounds s key nonce header run) (opened s key nonce header run) l room)
    room

-- ---- the calls

unfoldable pub seal_of : ℕ → (key nonce header body room : List ℕ) → Told
seal_of scheme key nonce header body room = under (scheme_of scheme) (λ s. seal_under s key nonce header body room) room

unfoldable pub open_of : ℕ → (key nonce header run room : List ℕ) → Told
open_of scheme key nonce header run room = under (scheme_of scheme) (λ s. open_under s key nonce header run room) room

-- ---- with a prepared key (C-16): the answers are those of the key that the record was made of, and of none where it is not admitted, which is 2

unfoldable pub seal_with : ℕ → Prepared → (nonce header body room : List ℕ) → Told
seal_with scheme r nonce header body room = under (scheme_of scheme) (λ s. seal_under s (key_of s.cipher r) nonce header body room) room

unfoldable pub open_with : ℕ → Prepared → (nonce header run room : List ℕ) → Told
open_with scheme r nonce header run room = under (scheme_of scheme) (λ s. open_under s (key_of s.cipher r) nonce header run room) room
