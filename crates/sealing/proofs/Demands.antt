-- The three demands, on the definitions that the contracts of seal, open and view cite (specs/Calls.antt, views' specs/View.antt; the
-- words `Admitted` and `SealsTo` in specs/Demands.antt). These definitions are total, so every input of every length is answered; that
-- the calls end and answer so is what their contracts say. Assumes nothing.
use mathlib.Core.Path.{◌≡◌, refl, sym, ap, ◌∙◌}
use Prim.Native.Nat.{ℕ, ◌+◌, ◌-◌, ◌≤◌, ◌<◌}
use mathlib.Core.Logic.{◌↔◌, inr}
use mathlib.Core.Bool.{true, false}
use mathlib.Core.List.{List}
use lib.ListN.{length, take}
use Rattle.cells.specs.Cells.{Bytes, Block}
use Rattle.ciphers.specs.declared.Cipher.{Cipher}
use Rattle.ciphers.specs.declared.Cipher.TheVariants.{N64T192, N128T256}
use Rattle.ciphers.specs.Ciphers.{width_of, block_of, counted}
use Rattle.forkskinny.specs.ForkSkinny.{other_of}
use Rattle.forkskinny.proofs.Conditions.{fork_one, unfork_input, unfork_other, condition_1, condition_2}
use Rattle.modes.specs.Mode.{seal_run, open_run}
use Rattle.modes.specs.Paef.{paef}
use Rattle.modes.specs.Saef.{saef}
use Rattle.states.specs.Skinny.{skinny}
use Rattle.schemes.specs.declared.Scheme.{Scheme}
use Rattle.std.specs.Prelude.{Some, Result}
use Rattle.refusals.specs.declared.Refusal.{Refusal}
use Rattle.schemes.specs.Schemes.{scheme1, scheme2, scheme3, scheme_of}
use Rattle.schemes.specs.Checks.{blank, seal_check, open_check}
use Rattle.views.specs.View.{view_of}
use Rattle.schemes.proofs.Table.{none_named}
use Rattle.sealing.specs.declared.Answer.{Answer}
use Rattle.sealing.specs.Calls.{Told, told, refused, done, forged, judged}
use Rattle.sealing.specs.Calls.{sealed, opened, seal_rounds, open_rounds, seal_under, open_under, seal_of, open_of}
use Rattle.sealing.specs.Demands.{Admitted, SealsTo}
use Rattle.sealing.proofs.Admitted.{seal_admitted, open_admitted, open_blank}
use Rattle.sealing.proofs.Counted.{same_rounds}
use Rattle.sealing.proofs.Exactly.{seal_writes, seal_wrote, long, opens_iff, one_body, body_returned, none_forged, sealed_opens}
use Rattle.sealing.proofs.Numbers.{says_6}
use Rattle.sealing.proofs.Known.{all_passed, not_passed, seal_known, open_known}
use Rattle.sealing.proofs.Ways.{seal_ways, open_ways, forged_under, no_length, told_same}

-- ---- demand 1: refusals come in one fixed order (schemes' specs/Checks.antt), each with its number, length zero and fixed contents of
-- the room; and a contract leaves a caller one result

-- a refused seal has length 0 and leaves the room unchanged
pub seal_refused : (scheme : ℕ) (key nonce header body room : List ℕ)
    → ((seal_of scheme key nonce header body room).number ≡ 0 → ⊥)
    → seal_of scheme key nonce header body room ≡ refused (seal_of scheme key nonce header body room).number room
seal_refused scheme key nonce header body room =
    seal_ways (λ (t : Told). (t.number ≡ 0 → ⊥) → t ≡ refused t.number room) key nonce header scheme body room
    (λ r l out h. absurd (h refl)) (λ k p h. refl)

-- a refused open too, other than with 6
pub open_refused : (scheme : ℕ) (key nonce header run room : List ℕ)
    → ((open_of scheme key nonce header run room).number ≡ 0 → ⊥)
    → ((open_of scheme key nonce header run room).number ≡ 6 → ⊥)
    → open_of scheme key nonce header run room ≡ refused (open_of scheme key nonce header run room).number room
open_refused scheme key nonce header run room =
    open_ways (λ (t : Told). (t.number ≡ 0 → ⊥) → (t.number ≡ 6 → ⊥) → t ≡ refused t.number room) key nonce header scheme run room
    (λ r l out h j. absurd (h refl)) (λ r l h j. absurd (j refl)) (λ k p h j. refl)

-- 6 leaves zeros where a body would have been, and the rest unchanged
pub open_forged : (scheme : ℕ) (s : Scheme) (key nonce header run room : List ℕ) → scheme_of scheme ≡ Some s
    → (open_of scheme key nonce header run room).number ≡ 6
    → open_of scheme key nonce header run room ≡ forged (open_rounds s key nonce header run) (length run - block_of s.cipher) room
open_forged scheme s key nonce header run room known =
    rw (open_known scheme s known key nonce header run room) (forged_under s key nonce header run room)

-- an unknown scheme is 1, before all else
pub unknown : (scheme : ℕ) (key nonce header input room : List ℕ) → (1 ≤ scheme → scheme ≤ 7 → ⊥)
    → (seal_of scheme key nonce header input room ≡ refused 1 room) × (open_of scheme key nonce header input room ≡ refused 1 room)
unfolding seal_of open_of
unknown scheme key nonce header input room h = (rw (none_named scheme h), rw (none_named scheme h))

-- under a scheme, the first check that applies answers with its number, before anything else is looked at; where none does, a seal is
-- done and an open judged
module _ (scheme : ℕ) (s : Scheme) (key nonce header input room : List ℕ) (known : scheme_of scheme ≡ Some s) where
  pub seal_order : let k = seal_check s (length key) (length nonce) (length header) (length input) (length room) in
      (k ≡ 0 → ⊥) → seal_of scheme key nonce header input room ≡ refused k room
  unfolding seal_under
  seal_order h = seal_known scheme s known key nonce header input room ∙ not_passed _ _ room h

  pub seal_done : seal_check s (length key) (length nonce) (length header) (length input) (length room) ≡ 0
      → seal_of scheme key nonce header input room
      ≡ done (seal_rounds s key nonce header input) (length input + block_of s.cipher) (sealed s key nonce header input) room
  unfolding seal_under
  seal_done e = seal_known scheme s known key nonce header input room ∙ all_passed _ _ room e

  pub open_order : let k = open_check s (length key) (length nonce) (length header) (length input) (length room) in
      (k ≡ 0 → ⊥) → open_of scheme key nonce header input room ≡ refused k room
  unfolding open_under
  open_order h = open_known scheme s known key nonce header input room ∙ not_passed _ _ room h

  pub open_judged : open_check s (length key) (length nonce) (length header) (length input) (length room) ≡ 0
      → open_of scheme key nonce header input room
      ≡ judged (open_rounds s key nonce header input) (opened s key nonce header input) (length input - block_of s.cipher) room
  unfolding open_under
  open_judged e = open_known scheme s known key nonce header input room ∙ all_passed _ _ room e

-- any two results that a contract allows are one
pub same_seal : (scheme : ℕ) (key nonce header body room : List ℕ) (a b : Result Answer Refusal) (r q : List ℕ)
    → told a r ≡ seal_of scheme key nonce header body room → told b q ≡ seal_of scheme key nonce header body room → (a ≡ b) × (r ≡ q)
same_seal scheme key nonce header body room a b r q = told_same a b r q (seal_of scheme key nonce header body room)

pub same_open : (scheme : ℕ) (key nonce header run room : List ℕ) (a b : Result Answer Refusal) (r q : List ℕ)
    → told a r ≡ open_of scheme key nonce header run room → told b q ≡ open_of scheme key nonce header run room → (a ≡ b) × (r ≡ q)
same_open scheme key nonce header run room a b r q = told_same a b r q (open_of scheme key nonce header run room)

pub same_view : (number l : ℕ) (room v w : List ℕ) → v ≡ view_of number l room → w ≡ view_of number l room → v ≡ w
same_view number l room v w p q = p ∙ sym q

-- two opens refused with 6 under one scheme, of equal lengths and with equal room, can't be told apart
pub same_forged : (scheme : ℕ) (key nonce header run key' nonce' header' run' room : List ℕ) → length header ≡ length header' → length run ≡ length run'
    → (open_of scheme key nonce header run room).number ≡ 6 → (open_of scheme key' nonce' header' run' room).number ≡ 6
    → open_of scheme key nonce header run room ≡ open_of scheme key' nonce' header' run' room
same_forged scheme key nonce header run key' nonce' header' run' room h l e e' =
    let (s, known, _) = (says_6 true scheme key nonce header run room).0 e in
    let f = open_forged scheme s key nonce header run room known e in
    let f' = open_forged scheme s key' nonce' header' run' room known e' in
    let same = same_rounds scheme true true key nonce header run room key' nonce' header' run' room (inr e) (inr e') h
    (λ s _. ap (λ (k : ℕ). k - block_of s.cipher) l) in
    let q = ap (λ (t : Told). t.rounds) (sym f) ∙ same ∙ ap (λ (t : Told). t.rounds) f' in
    f ∙ (λ i. forged (q i) (l i - block_of s.cipher) room) ∙ sym f'

-- ---- demand 2: what is computed is PAEF and SAEF over ForkSkinny as published (Umbreon and Jolteon: Meters.antt)

module _ (key nonce header body room : List ℕ) where
  pub seal_1 : Admitted 1 scheme1 key nonce header → length body ≤ 65528 → length body + 8 ≤ length room
      → seal_of 1 key nonce header body room
      ≡ done (seal_rounds scheme1 key nonce header body) (length body + 8) (seal_run 8 (paef 8 (skinny N64T192 key) nonce) header body) room
  unfolding blank
  seal_1 ok b r = seal_admitted 1 scheme1 key nonce header ok body room b refl r

  pub seal_2 : Admitted 2 scheme2 key nonce header → length body ≤ 131056 → length body + 16 ≤ length room
      → seal_of 2 key nonce header body room
      ≡ done (seal_rounds scheme2 key nonce header body) (length body + 16) (seal_run 16 (paef 16 (skinny N128T256 key) nonce) header body) room
  unfolding blank
  seal_2 ok b r = seal_admitted 2 scheme2 key nonce header ok body room b refl r

  pub seal_3 : Admitted 3 scheme3 key nonce header → length body ≤ 1048576 → length body + 16 ≤ length room
      → seal_of 3 key nonce header body room
      ≡ done (seal_rounds scheme3 key nonce header body) (length body + 16) (seal_run 16 (saef 16 (skinny N128T256 key) nonce) header body) room
  unfolding blank
  seal_3 ok b r = seal_admitted 3 scheme3 key nonce header ok body room b refl r

module _ (key nonce header run room : List ℕ) where
  pub open_1 : Admitted 1 scheme1 key nonce header → 8 ≤ length run → length run ≤ 65536 → length run ≤ length room + 8
      → open_of 1 key nonce header run room
      ≡ judged (open_rounds scheme1 key nonce header run) (open_run 8 (paef 8 (skinny N64T192 key) nonce) header run) (length run - 8) room
  unfolding blank
  open_1 ok l b r = open_admitted 1 scheme1 key nonce header ok run room l b refl r

  pub open_2 : Admitted 2 scheme2 key nonce header → 16 ≤ length run → length run ≤ 131072 → length run ≤ length room + 16
      → open_of 2 key nonce header run room
      ≡ judged (open_rounds scheme2 key nonce header run) (open_run 16 (paef 16 (skinny N128T256 key) nonce) header run) (length run - 16) room
  unfolding blank
  open_2 ok l b r = open_admitted 2 scheme2 key nonce header ok run room l b refl r

  pub open_3 : Admitted 3 scheme3 key nonce header → 16 ≤ length run → length run ≤ 1048592 → length run ≤ length room + 16
      → open_of 3 key nonce header run room
      ≡ judged (open_rounds scheme3 key nonce header run) (open_run 16 (saef 16 (skinny N128T256 key) nonce) header run) (length run - 16) room
  unfolding blank
  open_3 ok l b r = open_admitted 3 scheme3 key nonce header ok run room l b refl r

-- a block can be taken back from either half h, and the other half comes out again
module _ (c : Cipher) (key tweak m : List ℕ) (hk : Bytes key) (ht : Bytes tweak) (hm : Block 16 m) (h : ℕ) (two : h < 2) where
  pub half_back : unfork_input c key tweak (fork_one c key tweak m h) h ≡ counted (width_of c) m
  half_back = condition_1 c key tweak hk ht h two m hm

  pub half_other : unfork_other c key tweak (fork_one c key tweak m h) h ≡ fork_one c key tweak m (other_of h)
  half_other = condition_2 c key tweak hk ht h two m hm

-- ---- demand 3: under one scheme, an admitted key, nonce and header, and a room large enough; where header and body are both empty and the
-- mode has no run for them (`blank`, C-14), nothing is sealed or opened

module _ (number : ℕ) (s : Scheme) (key nonce header : List ℕ) (ok : Admitted number s key nonce header) where
  -- open of what seal wrote gives back the body, in any room that takes it, and for as many rounds
  pub round_trip : (body room room' : List ℕ) → Bytes body → length body ≤ s.body → blank s (length header) (length body) ≡ false
      → length body + block_of s.cipher ≤ length room → length body ≤ length room'
      → let t = seal_of number key nonce header body room in
      (t.number ≡ 0) × (open_of number key nonce header (take t.length t.room) room' ≡ done t.rounds (length body) body room')
  round_trip = sealed_opens number s key nonce header ok

  -- seal answers just the published run
  pub seals_exactly : (body run room : List ℕ) → Bytes body → length body + block_of s.cipher ≤ length room
      → (seal_of number key nonce header body room ≡ done (seal_rounds s key nonce header body) (length run) run room)
      ↔ SealsTo s key nonce header body run
  seals_exactly body run room b r =
      (seal_wrote number s key nonce header ok body run room b, λ t. seal_writes number s key nonce header ok body run room t r)

  -- which has the body's length and a block, so that no other byte of the room changes
  pub sealed_length : (body run : List ℕ) → SealsTo s key nonce header body run → length run ≡ length body + block_of s.cipher
  sealed_length = long number s key nonce header ok

  module _ (run room : List ℕ) (hr : Bytes run) (enough : length run ≤ length room + block_of s.cipher) where
    -- a run opens exactly if some body within the limit seals to it
    pub opens_exactly : ((open_of number key nonce header run room).number ≡ 0) ↔ ((body : List ℕ) × SealsTo s key nonce header body run)
    opens_exactly = opens_iff number s key nonce header ok run room hr enough

    -- that body is the only one
    pub only_one : (a b : List ℕ) → SealsTo s key nonce header a run → SealsTo s key nonce header b run → a ≡ b
    only_one = one_body number s key nonce header ok run room hr enough

    -- and it is returned
    pub returned : (body : List ℕ) → SealsTo s key nonce header body run
        → open_of number key nonce header run room ≡ done (open_rounds s key nonce header run) (length body) body room
    returned = body_returned number s key nonce header ok run room hr enough

    -- every other run is refused
    pub others_refused : ((body : List ℕ) → SealsTo s key nonce header body run → ⊥)
        → ((open_of number key nonce header run room).number ≡ 0 → ⊥) × ((open_of number key nonce header run room).length ≡ 0)
    others_refused none =
        let e : (open_of number key nonce header run room).number ≡ 0 → ⊥ = λ z. let (body, t) = opens_exactly.0 z in none body t in
        (e, no_length number key nonce header run room e)

    -- with 10, if header and body are both empty and the mode has no run for them
    pub blanks_refused : block_of s.cipher ≤ length run → blank s (length header) (length run - block_of s.cipher) ≡ true
        → open_of number key nonce header run room ≡ refused 10 room
    blanks_refused = open_blank number s key nonce header ok run room

    -- and else with 6, if it has the length of a sealed body
    pub others_forged : ((body : List ℕ) → SealsTo s key nonce header body run → ⊥)
        → block_of s.cipher ≤ length run → length run ≤ s.body + block_of s.cipher
        → blank s (length header) (length run - block_of s.cipher) ≡ false
        → open_of number key nonce header run room ≡ forged (open_rounds s key nonce header run) (length run - block_of s.cipher) room
    others_forged = none_forged number s key nonce header ok run room hr enough
