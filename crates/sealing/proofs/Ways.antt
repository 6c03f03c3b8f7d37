-- The ways in which a call answers, whatever it is given: what holds of each of them holds of the answer. Assumes nothing.
use mathlib.Core.Path.{◌≡◌, refl, sym, ap, ◌∙◌}
use Prim.Native.Nat.{ℕ, zero, suc, ◌+◌, ◌-◌}
use native.Mathlib.Omega.{arith}
use mathlib.Core.Bool.{false, cond}
use mathlib.Core.List.{List}
use lib.Dec.{eqb, ltb}
use lib.ListN.{length}
use Rattle.ciphers.specs.Ciphers.{block_of}
use Rattle.schemes.specs.declared.Scheme.{Scheme}
use Rattle.std.specs.Prelude.{Option, Some, None, Result, Ok, Err}
use Rattle.refusals.specs.declared.Refusal.{Refusal}
use Rattle.refusals.proofs.Back.{refusal_of, refusal_back, number_not_0}
use Rattle.schemes.specs.Schemes.{scheme_of}
use Rattle.schemes.proofs.Passed.{Plain, plain_1, check_plain}
use Rattle.sealing.specs.declared.Answer.{Answer}
use Rattle.sealing.specs.Calls.{Told, told, refused, done, forged, passed, under}
use Rattle.sealing.specs.Calls.{sealed, opened, seal_rounds, open_rounds, seal_under, open_under, seal_of, open_of}
use Rattle.cells.proofs.Choice.{either}

-- ---- for any property of what is told

module _ (P : Told → Type 0) where
  pub passed_all : (k : ℕ) (t : Told) (room : List ℕ) → P t → P (refused k room) → P (passed k t room)
  passed_all zero t room p q = p
  passed_all (suc k) t room p q = q

  under_all : (m : Option Scheme) (f : Scheme → Told) (room : List ℕ) → ((s : Scheme) → P (f s)) → P (refused 1 room) → P (under m f room)
  under_all (Some s) f room p q = p s
  under_all None f room p q = q

  module _ (key nonce header : List ℕ) where
    -- a seal is done or refused
    seal_under_ways : (s : Scheme) (body room : List ℕ) → ((r l : ℕ) (out : List ℕ) → P (done r l out room))
        → ((k : ℕ) → Plain k → P (refused k room)) → P (seal_under s key nonce header body room)
    unfolding seal_under
    seal_under_ways s body room d r =
        let n = block_of s.cipher in
        passed_all _ _ room
        (d (seal_rounds s key nonce header body) (length body + n) (sealed s key nonce header body))
        (r _ (check_plain s (length key) (length nonce) (length header) (length body) false n (length room)))

    pub seal_ways : (scheme : ℕ) (body room : List ℕ) → ((r l : ℕ) (out : List ℕ) → P (done r l out room))
        → ((k : ℕ) → Plain k → P (refused k room)) → P (seal_of scheme key nonce header body room)
    unfolding seal_of
    seal_ways scheme body room d r =
        under_all (scheme_of scheme) (λ s. seal_under s key nonce header body room) room
        (λ s. seal_under_ways s body room d r)
        (r 1 plain_1)

    -- an open is done, forged or refused
    open_under_ways : (s : Scheme) (run room : List ℕ)
        → ((out : List ℕ) → P (done (open_rounds s key nonce header run) (length run - block_of s.cipher) out room))
        → P (forged (open_rounds s key nonce header run) (length run - block_of s.cipher) room)
        → ((k : ℕ) → Plain k → P (refused k room)) → P (open_under s key nonce header run room)
    unfolding open_under
    open_under_ways s run room d f r =
        let n = block_of s.cipher in
        let l = length run - n in
        let o = opened s key nonce header run in
        passed_all _ _ room
        (either P o.authentic _ _ (d o.body) f)
        (r _ (check_plain s (length key) (length nonce) (length header) l (ltb (length run) n) 0 (length room)))

    pub open_ways : (scheme : ℕ) (run room : List ℕ) → ((r l : ℕ) (out : List ℕ) → P (done r l out room))
        → ((r l : ℕ) → P (forged r l room)) → ((k : ℕ) → Plain k → P (refused k room)) → P (open_of scheme key nonce header run room)
    unfolding open_of
    open_ways scheme run room d f r =
        under_all (scheme_of scheme) (λ s. open_under s key nonce header run room) room
        (λ s.
        let k = open_rounds s key nonce header run in
        let l = length run - block_of s.cipher in
        open_under_ways s run room (d k l) (f k l) r)
        (r 1 plain_1)

-- ---- what follows

-- where 6 is told, a body's place holds zeros: no check answers 6
pub forged_under : (s : Scheme) (key nonce header run room : List ℕ) → (open_under s key nonce header run room).number ≡ 6
    → open_under s key nonce header run room ≡ forged (open_rounds s key nonce header run) (length run - block_of s.cipher) room
forged_under s key nonce header run room =
    open_under_ways (λ (t : Told). t.number ≡ 6 → t ≡ forged (open_rounds s key nonce header run) (length run - block_of s.cipher) room) key nonce header s run room
    (λ out h. absurd (omega arith))
    (λ h. refl)
    (λ k p h. absurd (p.not_6 h))

-- an open that is not done has no length
pub no_length : (scheme : ℕ) (key nonce header run room : List ℕ) → ((open_of scheme key nonce header run room).number ≡ 0 → ⊥)
    → (open_of scheme key nonce header run room).length ≡ 0
no_length scheme key nonce header run room =
    open_ways (λ (t : Told). (t.number ≡ 0 → ⊥) → t.length ≡ 0) key nonce header scheme run room
    (λ r l out h. absurd (h refl))
    (λ r l h. refl)
    (λ k p h. refl)

-- ---- what is told names the answer: each refusal has its own number, and a forged run's rounds are told

answer_told : Told → Result Answer Refusal
answer_told t =
    cond (eqb t.number 0) (Ok (record { length = t.length; rounds = t.rounds })) (Err (refusal_of t.number t.rounds))

told_back : (a : Result Answer Refusal) (room : List ℕ) → answer_told (told a room) ≡ a
unfolding answer_told
told_back (Ok a) room = refl
told_back (Err r) room = rw (number_not_0 r) (ap Err (refusal_back r))

room_in : (a : Result Answer Refusal) (room : List ℕ) → (told a room).room ≡ room
room_in (Ok a) room = refl
room_in (Err refusal) room = refl

-- so the answer is one, and the room
pub told_same : (a b : Result Answer Refusal) (r q : List ℕ) (t : Told) → told a r ≡ t → told b q ≡ t → (a ≡ b) × (r ≡ q)
told_same a b r q t p e =
    let same = p ∙ sym e in
    (sym (told_back a r) ∙ ap answer_told same ∙ told_back b q, sym (room_in a r) ∙ ap (λ (u : Told). u.room) same ∙ room_in b q)
