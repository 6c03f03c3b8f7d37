-- C-13, rounds on the battery sheet: what each call tells of its rounds, on the definitions that the contracts cite. The list of block calls,
-- the sum and the formula are those of crates/modes/specs/Rounds.antt; `Worked` says that a call was answered 0 or 6 (specs/Numbers.antt).
-- Assumes nothing.
use mathlib.Core.Path.{◌≡◌, refl, sym, ap, ◌∙◌}
use Prim.Native.Nat.{ℕ, ◌+◌, ◌-◌, ◌*◌, ◌≤◌, ◌<◌}
use native.Mathlib.Omega.{arith}
use mathlib.Core.Logic.Iff
use mathlib.Core.Logic.{◌↔◌, inl, inr}
use mathlib.Core.Bool.{Bool, true, false, cond}
use lib.Dec.{eqb}
use mathlib.Core.List.{List}
use lib.ListN.{length}
use Rattle.ciphers.specs.Ciphers.{block_of}
use Rattle.forkskinny.specs.Calls.{wants, fork_rounds, fork_of, unfork_rounds, unfork_of}
use Rattle.modes.specs.Blocks.{before_last}
use Rattle.modes.specs.Rounds.{seal_calls, open_calls, total, blocks, head_blocks, rounds_by}
use Rattle.modes.proofs.Rounds.{rounds_flat}
use Rattle.states.specs.Modes.{mode_of, takes_blank, rounds_of}
use Rattle.states.specs.Skinny.{cost_of}
use Rattle.schemes.specs.declared.Scheme.{Scheme}
use Rattle.std.specs.Prelude.{Some, Result, Ok, Err}
use Rattle.refusals.specs.declared.Refusal.{Refusal}
use Rattle.refusals.specs.Refusal.{number_of}
use Rattle.refusals.proofs.Back.{refusal_of, refusal_back, number_not_0}
use Rattle.schemes.specs.Checks.{body_in, blank, check_of}
use Rattle.schemes.specs.Schemes.{Under, scheme1, scheme2, scheme3, scheme_of}
use Rattle.schemes.proofs.Passed.{blank_is, check_3, check_8, check_10, check_passed, check_pass}
use Rattle.schemes.proofs.Table.{named_1, named_2, named_3, unnamed, of_named}
use Rattle.sealing.specs.Budget.{Budget, counted, budget_under, budget_of}
use Rattle.sealing.specs.Calls.{Told, seal_of, open_of}
use Rattle.sealing.specs.Numbers.{answered, Worked}
use Rattle.sealing.specs.RoundFigures.{block_figures, blocks_told, blocks_stated, record_figures, records_told, records_stated}
use Rattle.sealing.proofs.Answers.{number_some}
use Rattle.sealing.proofs.Budgets.{budget_says, budget_unknown, budget_none, budget_fits, worked_budget}
use Rattle.sealing.proofs.Counted.{worked_check, worked_rounds, seal_told, open_told, same_rounds}
use Rattle.sealing.proofs.Ways.{seal_ways, open_ways}

-- ---- a block call: the rounds before the fork plus each branch reached; the figures of document 02, for every key, tweak and block

pub block_figures_lem : (key tweak block : List ℕ) → blocks_told key tweak block block_figures ≡ blocks_stated block_figures
unfolding fork_of unfork_of fork_rounds unfork_rounds wants
block_figures_lem key tweak block = refl

-- ---- seal and open: the sum over the published rule's list of block calls

module _ (scheme : ℕ) (s : Scheme) (key nonce header : List ℕ) (known : scheme_of scheme ≡ Some s) where
  pub seal_sums : (body room : List ℕ) → (seal_of scheme key nonce header body room).number ≡ 0
      → (seal_of scheme key nonce header body room).rounds
      ≡ total (cost_of s.cipher) (seal_calls (block_of s.cipher) (mode_of s.kind s.cipher key nonce) header body)
  seal_sums body room e =
      seal_told scheme key nonce header body room s known (of_named _ scheme s known (worked_check scheme key nonce header body room false (inl e)))

  pub open_sums : (run room : List ℕ) → Worked (open_of scheme key nonce header run room).number
      → (open_of scheme key nonce header run room).rounds
      ≡ total (cost_of s.cipher) (open_calls (block_of s.cipher) (mode_of s.kind s.cipher key nonce) header run)
  open_sums run room w =
      open_told scheme key nonce header run room s known (of_named _ scheme s known (worked_check scheme key nonce header run room true w))

-- ---- under each scheme a formula of the lengths alone: so much for each header block, or for the one padded block where header and body
-- are empty, and so much for each body block

module _ (key nonce header : List ℕ) where
  module _ (body room : List ℕ) where
    pub seal_rounds_1 : (seal_of 1 key nonce header body room).number ≡ 0
        → (seal_of 1 key nonce header body room).rounds ≡ head_blocks 8 (length header) (length body) * 40 + blocks 8 (length body) * 63
    unfolding rounds_of fork_rounds wants
    seal_rounds_1 e = of_named _ 1 scheme1 named_1 (worked_rounds 1 key nonce header body room false (inl e)) ∙ rounds_flat 8 40 63 _ _

    pub seal_rounds_2 : (seal_of 2 key nonce header body room).number ≡ 0
        → (seal_of 2 key nonce header body room).rounds ≡ head_blocks 16 (length header) (length body) * 48 + blocks 16 (length body) * 75
    unfolding rounds_of fork_rounds wants
    seal_rounds_2 e = of_named _ 2 scheme2 named_2 (worked_rounds 2 key nonce header body room false (inl e)) ∙ rounds_flat 16 48 75 _ _

    pub seal_rounds_3 : (seal_of 3 key nonce header body room).number ≡ 0
        → (seal_of 3 key nonce header body room).rounds ≡ head_blocks 16 (length header) (length body) * 48 + blocks 16 (length body) * 75
    unfolding rounds_of fork_rounds wants
    seal_rounds_3 e = of_named _ 3 scheme3 named_3 (worked_rounds 3 key nonce header body room false (inl e)) ∙ rounds_flat 16 48 75 _ _

  -- a run is a block longer than its body
  module _ (run room : List ℕ) where
    pub open_rounds_1 : Worked (open_of 1 key nonce header run room).number
        → (open_of 1 key nonce header run room).rounds
        ≡ head_blocks 8 (length header) (length run - 8) * 40 + blocks 8 (length run - 8) * 63
    unfolding rounds_of fork_rounds wants
    open_rounds_1 w = of_named _ 1 scheme1 named_1 (worked_rounds 1 key nonce header run room true w) ∙ rounds_flat 8 40 63 _ _

    pub open_rounds_2 : Worked (open_of 2 key nonce header run room).number
        → (open_of 2 key nonce header run room).rounds
        ≡ head_blocks 16 (length header) (length run - 16) * 48 + blocks 16 (length run - 16) * 75
    unfolding rounds_of fork_rounds wants
    open_rounds_2 w = of_named _ 2 scheme2 named_2 (worked_rounds 2 key nonce header run room true w) ∙ rounds_flat 16 48 75 _ _

    pub open_rounds_3 : Worked (open_of 3 key nonce header run room).number
        → (open_of 3 key nonce header run room).rounds
        ≡ head_blocks 16 (length header) (length run - 16) * 48 + blocks 16 (length run - 16) * 75
    unfolding rounds_of fork_rounds wants
    open_rounds_3 w = of_named _ 3 scheme3 named_3 (worked_rounds 3 key nonce header run room true w) ∙ rounds_flat 16 48 75 _ _

-- ---- opening costs what sealing costs, also where it ends with 6

pub open_as_seal : (scheme : ℕ) (s : Scheme) (key nonce header body room key' nonce' header' run room' : List ℕ) → scheme_of scheme ≡ Some s
    → length header ≡ length header' → length run ≡ length body + block_of s.cipher
    → (seal_of scheme key nonce header body room).number ≡ 0 → Worked (open_of scheme key' nonce' header' run room').number
    → (open_of scheme key' nonce' header' run room').rounds ≡ (seal_of scheme key nonce header body room).rounds
open_as_seal scheme s key nonce header body room key' nonce' header' run room' known h l e w =
    same_rounds scheme true false key' nonce' header' run room' key nonce header body room w (inl e) (sym h)
    (λ u other.
    let e : length run ≡ length body + block_of u.cipher
    = of_named (λ (s : Scheme). length run ≡ length body + block_of s.cipher) scheme u other (s, known, l) in
    omega arith)

-- two calls of equal lengths under one scheme that are answered 0 or 6 report the same
pub equal_lengths : (opens : Bool) (scheme : ℕ) (key nonce header input room key' nonce' header' input' room' : List ℕ)
    → length header ≡ length header' → length input ≡ length input'
    → Worked (answered opens scheme key nonce header input room).number
    → Worked (answered opens scheme key' nonce' header' input' room').number
    → (answered opens scheme key nonce header input room).rounds ≡ (answered opens scheme key' nonce' header' input' room').rounds
equal_lengths opens scheme key nonce header input room key' nonce' header' input' room' h l w w' =
    same_rounds scheme opens opens key nonce header input room key' nonce' header' input' room' w w' h (λ s _. ap (body_in opens s) l)

-- ---- every other refusal reports 0

pub seal_none : (scheme : ℕ) (key nonce header body room : List ℕ) → ((seal_of scheme key nonce header body room).number ≡ 0 → ⊥)
    → (seal_of scheme key nonce header body room).rounds ≡ 0
seal_none scheme key nonce header body room =
    seal_ways (λ (t : Told). (t.number ≡ 0 → ⊥) → t.rounds ≡ 0) key nonce header scheme body room
    (λ r l out h. absurd (h refl)) (λ k p h. refl)

pub open_none : (scheme : ℕ) (key nonce header run room : List ℕ) → (Worked (open_of scheme key nonce header run room).number → ⊥)
    → (open_of scheme key nonce header run room).rounds ≡ 0
open_none scheme key nonce header run room =
    open_ways (λ (t : Told). (Worked t.number → ⊥) → t.rounds ≡ 0) key nonce header scheme run room
    (λ r l out h. absurd (h (inl refl))) (λ r l h. absurd (h (inr refl))) (λ k p h. refl)

-- ---- the call that tells the rounds of two lengths without a key (specs/Budget.antt)

-- it tells what a seal of these lengths tells, and an open, whose body is a block shorter than the run
module _ (scheme : ℕ) (key nonce header : List ℕ) where
  pub budget_seal : (body room : List ℕ) → (seal_of scheme key nonce header body room).number ≡ 0
      → budget_of scheme (length header) (length body) ≡ record { number = 0; rounds = (seal_of scheme key nonce header body room).rounds }
  budget_seal body room e =
      let (s, known, _) = worked_check scheme key nonce header body room false (inl e) in
      worked_budget false scheme s key nonce header body room known (inl e)

  pub budget_open : (s : Scheme) (run room : List ℕ) → scheme_of scheme ≡ Some s → Worked (open_of scheme key nonce header run room).number
      → budget_of scheme (length header) (length run - block_of s.cipher)
      ≡ record { number = 0; rounds = (open_of scheme key nonce header run room).rounds }
  budget_open s run room known w = worked_budget true scheme s key nonce header run room known w

-- what is told names the result
abbrev result_of : Budget → Result ℕ Refusal
result_of t = cond (eqb t.number 0) (Ok t.rounds) (Err (refusal_of t.number t.rounds))

counted_back : (a : Result ℕ Refusal) → result_of (counted a) ≡ a
counted_back (Ok rounds) = refl
counted_back (Err r) = rw (number_not_0 r) (ap Err (refusal_back r))

-- it refuses as the checks do: 1 for an unknown scheme, 3 for the header, 8 for the body, 10 for both empty under a mode that has no run for them
module _ (scheme header body : ℕ) where
  pub budget_1 : ((budget_of scheme header body).number ≡ 1) ↔ (1 ≤ scheme → scheme ≤ 7 → ⊥)
  budget_1 = Iff.trans (budget_unknown scheme header body) (unnamed scheme)

  pub budget_3 : ((budget_of scheme header body).number ≡ 3) ↔ Under scheme (λ s. s.header < header)
  budget_3 =
      budget_says scheme header body 3 refl _ λ s.
      let (to, from) = check_3 s s.key s.nonce header body false 0 body in
      (λ e. (to e).2, λ h. from (refl, refl, h))

  pub budget_8 : ((budget_of scheme header body).number ≡ 8) ↔ Under scheme (λ s. (header ≤ s.header) × (s.body < body))
  budget_8 =
      budget_says scheme header body 8 refl _ λ s.
      let (to, from) = check_8 s s.key s.nonce header body false 0 body in
      (λ e. ((to e).0.header_fits, (to e).1), λ h. from (record { key_fits = refl; nonce_fits = refl; header_fits = h.0 }, h.1))

  pub budget_10 : ((budget_of scheme header body).number ≡ 10)
      ↔ Under scheme (λ s. (takes_blank s.kind ≡ false) × (header ≡ 0) × (body ≡ 0))
  budget_10 =
      budget_says scheme header body 10 refl _ λ s.
      let (to, from) = check_10 s s.key s.nonce header body false 0 body in
      let none = blank_is s header body in (
        λ e. let (_, (_, (_, (_, b)))) = to e in none.0 b,
        λ h. from (
          record { key_fits = refl; nonce_fits = refl; header_fits = omega (arith, h.1) },
          (omega (arith, h.2), (refl, (omega arith, none.1 h))),
        ),
      )

  pub budget_0 : ((budget_of scheme header body).number ≡ 0)
      ↔ Under scheme (λ s. (header ≤ s.header) × (body ≤ s.body) × (blank s header body ≡ false))
  budget_0 =
      budget_says scheme header body 0 refl _ λ s. (
        λ e. let p = check_passed s _ _ _ _ _ _ _ e in (p.fit.header_fits, p.body_fits, p.some),
        λ h. check_pass s _ _ _ _ _ _ _ (record {
          fit = record { key_fits = refl; nonce_fits = refl; header_fits = h.0 };
          body_fits = h.1;
          room_fits = omega arith;
          some = h.2;
        }) refl,
      )

  -- refused, the rounds are 0
  pub budget_refused : ((budget_of scheme header body).number ≡ 0 → ⊥) → (budget_of scheme header body).rounds ≡ 0
  budget_refused = budget_none scheme header body

  pub refused_budget : (r : Refusal) → counted (Err r) ≡ budget_of scheme header body
      → record { number = number_of r; rounds = 0 } ≡ budget_of scheme header body
  refused_budget r e =
      let none = ap (λ (b : Budget). b.rounds) e ∙ budget_refused (λ z. number_some r (ap (λ (b : Budget). b.number) e ∙ z)) in
      (λ i. record { number = number_of r; rounds = sym none i }) ∙ e

  -- they never overflow 32 bits
  pub budget_32 : (budget_of scheme header body).rounds < 4294967296
  budget_32 = budget_fits scheme header body

  -- any two results that its contract allows are one
  pub same_budget : (a b : Result ℕ Refusal) → counted a ≡ budget_of scheme header body → counted b ≡ budget_of scheme header body → a ≡ b
  same_budget a b p q = sym (counted_back a) ∙ ap result_of (p ∙ sym q) ∙ counted_back b

-- some records, from the empty one to the longest, and the refusals beside them: the whole table, computed
pub record_figures_lem : records_told record_figures ≡ records_stated record_figures
unfolding budget_of budget_under scheme_of check_of blank rounds_of rounds_by head_blocks blocks before_last fork_rounds wants
record_figures_lem = refl
