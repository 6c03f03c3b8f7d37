-- The checks, in their order: the first that applies answers with its number (01, What a caller is told; its 2 and 3 are parted by C-11, and
-- 10 is C-14's). They look at lengths alone. Number 1, no such scheme, comes before them all; 6, not authentic, behind them. Assumes nothing.
use Rattle.std.specs.Prelude.{◌≡◌, ℕ, ◌+◌, ◌-◌, ◌≤◌, Bool, true, false, not, cond, List, [], ◌∷◌, eqb, ltb, Result, Ok, Err}
use Rattle.ciphers.specs.Ciphers.{block_of}
use Rattle.refusals.specs.declared.Refusal.{Refusal}
use Rattle.refusals.specs.Refusal.{number_of}
use Rattle.states.specs.Modes.{takes_blank}
use Rattle.schemes.specs.declared.Scheme.{Scheme}

pub record Check : Type 0 where
  pub applies : Bool
  pub number : ℕ

abbrev when : Bool → ℕ → Check
when applies number = record { applies = applies; number = number }

-- 0 where none applies
abbrev pub first : List Check → ℕ
first [] = 0
first (c ∷ cs) = cond c.applies c.number (first cs)

-- header and body are both empty, under a mode that has no run for them (000, figure 9, line 29: no run where |M| = |A| = 0)
unfoldable pub blank : Scheme → (header body : ℕ) → Bool
blank s header body = cond (takes_blank s.kind) false (cond (eqb body 0) (eqb header 0) false)

-- `short`: the sealed run is shorter than a block. `more`: by how much the output is longer than the body.
abbrev pub checks : Scheme → (key nonce header body : ℕ) (short : Bool) (more room : ℕ) → List Check
checks s key nonce header body short more room =
    when (not (eqb key s.key)) 2
    ∷ when (not (eqb nonce s.nonce)) 7
    ∷ when (ltb s.header header) 3
    ∷ when (ltb s.body body) 8
    ∷ when short 4
    ∷ when (ltb room (body + more)) 5
    ∷ when (blank s header body) 10
    ∷ []

unfoldable pub check_of : Scheme → (key nonce header body : ℕ) (short : Bool) (more room : ℕ) → ℕ
check_of s key nonce header body short more room = first (checks s key nonce header body short more room)

-- the number that an answer says: 0 where it refuses nothing
abbrev pub number_in : {T : Type 0} → Result T Refusal → ℕ
number_in (Ok value) = 0
number_in (Err refusal) = number_of refusal

-- ---- of a call: `opens` is false for a seal, whose input is a body, and true for an open, whose input is a run

-- a run is a block longer than its body; one shorter than a block has none to judge under 8
abbrev pub body_in : (opens : Bool) → Scheme → ℕ → ℕ
body_in false s input = input
body_in true s input = input - block_of s.cipher

abbrev pub short_in : (opens : Bool) → Scheme → ℕ → Bool
short_in false s input = false
short_in true s input = ltb input (block_of s.cipher)

abbrev pub more_in : (opens : Bool) → Scheme → ℕ
more_in false s = block_of s.cipher
more_in true s = 0

abbrev pub checked : (opens : Bool) → Scheme → (key nonce header input room : ℕ) → ℕ
checked opens s key nonce header input room =
    check_of s key nonce header (body_in opens s input) (short_in opens s input) (more_in opens s) room

abbrev pub seal_check : Scheme → (key nonce header body room : ℕ) → ℕ
seal_check = checked false

abbrev pub open_check : Scheme → (key nonce header run room : ℕ) → ℕ
open_check = checked true

-- ---- in words

-- lengths of key, nonce and header that a scheme takes
pub record Fitting (s : Scheme) (key nonce header : ℕ) : Type 0 where
  pub key_fits : key ≡ s.key
  pub nonce_fits : nonce ≡ s.nonce
  pub header_fits : header ≤ s.header
