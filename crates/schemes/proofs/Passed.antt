-- What the checks say of the lengths, number by number: 0 exactly if all fit, a run is a block long at least, the room holds the output, and
-- the mode has a run for them; each other number exactly if its check is the first that does not pass. Assumes nothing.
use mathlib.Core.Path.{◌≡◌, refl, ap}
use mathlib.Core.Logic.Iff
use mathlib.Core.Logic.{◌↔◌}
use Prim.Native.Nat.{ℕ, ◌+◌, ◌≤◌, ◌<◌}
use mathlib.Core.Bool.{Bool, true, false, not, cond, true≢false, false≢true}
use mathlib.Core.List.{List, []}
use native.Mathlib.Omega.{arith}
use lib.Dec.{eqb, ltb}
use borrow.Author.Tests.{eqb-true, eqb-false, eq-eqb, ne_eqb, ltb-true, ltb-false, lt-ltb, le-ltb, not-true, not-false}
use Rattle.states.specs.Modes.{takes_blank}
use Rattle.schemes.specs.declared.Scheme.{Scheme}
use Rattle.schemes.specs.Checks.{Check, blank, checks, check_of, Fitting}
use Rattle.schemes.proofs.First.{Says, alone, absent, first_says, first_never}

-- `more` and `room` as in check_of: the output is `more` bytes longer than the body
pub record Passed (s : Scheme) (key nonce header body more room : ℕ) : Type 0 where
  pub fit : Fitting s key nonce header
  pub body_fits : body ≤ s.body
  pub room_fits : body + more ≤ room
  pub some : blank s header body ≡ false

-- the number of a check, or 0 or 1: not 6, which is judged behind the checks, nor 9, which is the desk's program's
pub record Plain (number : ℕ) : Type 0 where
  pub not_6 : number ≡ 6 → ⊥
  pub not_9 : number ≡ 9 → ⊥

pub plain_1 : Plain 1
plain_1 = record { not_6 = eqb-false 1 6 refl; not_9 = eqb-false 1 9 refl }

-- ---- the tests

same_passes : (a b : ℕ) → (not (eqb a b) ≡ false) ↔ (a ≡ b)
same_passes a b = (λ e. eqb-true a b (not-false _ e), λ e. ap not (eq-eqb a b e))

same_fails : (a b : ℕ) → (not (eqb a b) ≡ true) ↔ (a ≡ b → ⊥)
same_fails a b = (λ e. eqb-false a b (not-true _ e), λ h. ap not (ne_eqb a b h))

within_passes : (a b : ℕ) → (ltb a b ≡ false) ↔ (b ≤ a)
within_passes a b = (ltb-false a b, le-ltb a b)

within_fails : (a b : ℕ) → (ltb a b ≡ true) ↔ (a < b)
within_fails a b = (ltb-true a b, lt-ltb a b)

all_three : (a b c : Bool) → (cond a false (cond b c false) ≡ true) ↔ ((a ≡ false) × (b ≡ true) × (c ≡ true))
all_three true b c = (λ e. absurd (false≢true e), λ t. absurd (true≢false t.0))
all_three false true c = (λ e. (refl, refl, e), λ t. t.2)
all_three false false c = (λ e. absurd (false≢true e), λ t. absurd (false≢true t.1))

pub blank_is : (s : Scheme) (header body : ℕ) → (blank s header body ≡ true) ↔ ((takes_blank s.kind ≡ false) × (header ≡ 0) × (body ≡ 0))
unfolding blank
blank_is s header body =
    let (to, from) = all_three (takes_blank s.kind) (eqb body 0) (eqb header 0) in (
      λ e. let (k, b, h) = to e in (k, eqb-true header 0 h, eqb-true body 0 b),
      λ t. from (t.0, eq-eqb body 0 t.2, eq-eqb header 0 t.1),
    )

-- one byte of either is enough
pub not_blank : (s : Scheme) (header body : ℕ) → 0 < header + body → blank s header body ≡ false
not_blank s header body h = go (blank s header body) refl
  where
    go : (b : Bool) → blank s header body ≡ b → blank s header body ≡ false
    go true e = let (_, none, empty) = (blank_is s header body).0 e in absurd (omega arith)
    go false e = e

-- ---- the checks

module _ (s : Scheme) (key nonce header body : ℕ) (short : Bool) (more room : ℕ) where
  abbrev list : List Check
  list = checks s key nonce header body short more room

  abbrev number : ℕ
  number = check_of s key nonce header body short more room

  says : (k : ℕ) → alone k list ≡ true → (number ≡ k) ↔ Says k list
  unfolding check_of
  says k = first_says k list

  pub check_never : (k : ℕ) → absent k list ≡ true → number ≡ k → ⊥
  unfolding check_of
  check_never k = first_never k list

  pub check_plain : Plain number
  check_plain = record { not_6 = check_never 6 refl; not_9 = check_never 9 refl }

  -- key and nonce pass, and the header too
  two_pass : {A B : Type 0} → A ↔ B
      → ((not (eqb key s.key) ≡ false) × ((not (eqb nonce s.nonce) ≡ false) × A)) ↔ ((key ≡ s.key) × (nonce ≡ s.nonce) × B)
  two_pass f = (
    λ t. ((same_passes key s.key).0 t.0, (same_passes nonce s.nonce).0 t.1.0, f.0 t.1.1),
    λ t. ((same_passes key s.key).1 t.0, ((same_passes nonce s.nonce).1 t.1, f.1 t.2)),
  )

  three_pass : {A B : Type 0} → A ↔ B
      → ((not (eqb key s.key) ≡ false) × ((not (eqb nonce s.nonce) ≡ false) × ((ltb s.header header ≡ false) × A)))
      ↔ (Fitting s key nonce header × B)
  three_pass f =
      Iff.trans (two_pass (Iff.and (within_passes s.header header) f)) (
        λ t. (record { key_fits = t.0; nonce_fits = t.1; header_fits = t.2.0 }, t.2.1),
        λ t. (t.0.key_fits, t.0.nonce_fits, (t.0.header_fits, t.1)),
      )

  -- ---- each number

  pub check_2 : (number ≡ 2) ↔ (key ≡ s.key → ⊥)
  check_2 = Iff.trans (says 2 refl) (same_fails key s.key)

  pub check_7 : (number ≡ 7) ↔ ((key ≡ s.key) × (nonce ≡ s.nonce → ⊥))
  check_7 = Iff.trans (says 7 refl) (Iff.and (same_passes key s.key) (same_fails nonce s.nonce))

  pub check_3 : (number ≡ 3) ↔ ((key ≡ s.key) × (nonce ≡ s.nonce) × (s.header < header))
  check_3 = Iff.trans (says 3 refl) (two_pass (within_fails s.header header))

  pub check_8 : (number ≡ 8) ↔ (Fitting s key nonce header × (s.body < body))
  check_8 = Iff.trans (says 8 refl) (three_pass (within_fails s.body body))

  pub check_4 : (number ≡ 4) ↔ (Fitting s key nonce header × ((body ≤ s.body) × (short ≡ true)))
  check_4 = Iff.trans (says 4 refl) (three_pass (Iff.and (within_passes s.body body) Iff.rfl))

  pub check_5 : (number ≡ 5) ↔ (Fitting s key nonce header × ((body ≤ s.body) × ((short ≡ false) × (room < body + more))))
  check_5 =
      Iff.trans (says 5 refl)
      (three_pass (Iff.and (within_passes s.body body) (Iff.and Iff.rfl (within_fails room (body + more)))))

  pub check_10 : (number ≡ 10)
      ↔ (Fitting s key nonce header × ((body ≤ s.body) × ((short ≡ false) × ((body + more ≤ room) × (blank s header body ≡ true)))))
  check_10 =
      Iff.trans (says 10 refl)
      (three_pass
      (Iff.and (within_passes s.body body) (Iff.and Iff.rfl (Iff.and (within_passes room (body + more)) Iff.rfl))))

  -- behind the last of them, 0 is answered because it is 0 (`Says 0 []`)
  check_0 : (number ≡ 0)
      ↔ (Fitting s key nonce header
      × ((body ≤ s.body) × ((short ≡ false) × ((body + more ≤ room) × ((blank s header body ≡ false) × Says 0 [])))))
  check_0 =
      Iff.trans (says 0 refl)
      (three_pass
      (Iff.and (within_passes s.body body) (Iff.and Iff.rfl (Iff.and (within_passes room (body + more)) Iff.rfl))))

  pub check_passed : number ≡ 0 → Passed s key nonce header body more room
  check_passed e =
      let (f, (b, (_, (r, (m, _))))) = check_0.0 e in record { fit = f; body_fits = b; room_fits = r; some = m }

  pub check_long : number ≡ 0 → short ≡ false
  check_long e = let (_, (_, (l, _))) = check_0.0 e in l

  pub check_pass : Passed s key nonce header body more room → short ≡ false → number ≡ 0
  check_pass p l = check_0.1 (p.fit, (p.body_fits, (l, (p.room_fits, (p.some, refl)))))
