-- The sections of a sound job, as the code takes them one behind the other, and what the job is answered by. Assumes nothing.
use mathlib.Core.Path.{◌≡◌, sym, ap, ◌∙◌}
use mathlib.Core.Bool.{Bool, false}
use mathlib.Core.List.{List}
use Prim.Native.Nat.{ℕ, suc, ◌-◌, ◌≤◌}
use lib.Dec.{eqb}
use lib.ListN.{length, take, drop, get_or}
use Rattle.std.specs.Prelude.{Option, None, Some, MatchOption, Result, Err, IfErr}
use Rattle.std.specs.Result.{IsErrAnd}
use Rattle.std.specs.Option.{ok_or}
use Rattle.std.specs.Borrow.{Bor}
use Rattle.std.proofs.lemmas.Option.{MatchOption-at_none, MatchOption-at_some}
use Rattle.std.proofs.lemmas.Result.{err_from_is_err_and}
use Rattle.refusals.specs.declared.Refusal.{Refusal}
use Rattle.refusals.specs.declared.Refusal.TheVariants.{Job}
use Rattle.sealing.specs.Calls.{refused}
use Rattle.blocks.proofs.Parts.{part_rest}
use Rattle.job.specs.declared.Direction.{Direction}
use Rattle.job.specs.Sections.{whole_at, section_of, behind_of, sections_of, Split}
use Rattle.job.specs.Job.{is_sound, job_of, directed, byte_of, Reads, from_key}
use Rattle.job.proofs.Wholes.{cut, more}
use Rattle.job.proofs.Soundness.{as_sections}

-- ---- the answer

pub unsound : (job room : List ℕ) → is_sound job ≡ false → refused 9 room ≡ job_of job room
unfolding job_of
unsound job room e = rw e

pub answered : {job : List ℕ} {scheme d : ℕ} {key nonce header body : List ℕ} → Reads job scheme d key nonce header body
    → {way : ℕ} → d ≡ way → (room : List ℕ) → directed way scheme key nonce header body room ≡ job_of job room
unfolding job_of
answered w e room =
    rw w.sound
    (λ i. directed ((sym e ∙ w.direction_is) i) (w.scheme_is i) (w.key_is i) (w.nonce_is i) (w.header_is i) (w.body_is i) room)

-- ---- the sections, as `split` hands them out

-- how far the sections are read: the rest stands at `at`, and `good` says whether k whole ones are there and nothing behind them
pub record Reached (k : ℕ) (good : Bool) (at rest : List ℕ) : Type 0 where
  pub is : rest ≡ at
  pub asks : good ≡ sections_of k at

-- behind the direction
pub start : (job : List ℕ) → length job ≤ 16384 → (d : Direction) → get_or job 1 0 ≡ byte_of d
    → Reached 4 (is_sound job) (from_key job) (take (length job - 2) (drop 2 job))
start job l d way = record { is = part_rest 2 job; asks = as_sections job l d way }

module _
    {k : ℕ}
    {good : Bool}
    {at rest : List ℕ}
    (w : Reached (suc k) good at rest)
    {o : Option (Bor (List ℕ) × Bor (List ℕ))}
    (halves : MatchOption o (whole_at rest ≡ false) (λ parts. Split rest parts.0.now parts.1.now))
  where
    pub stuck : o ≡ None → good ≡ false
    stuck e = w.asks ∙ cut k at (ap whole_at (sym w.is) ∙ MatchOption-at_none _ (λ parts. Split rest parts.0.now parts.1.now) e halves)

    module _ {front behind : Bor (List ℕ)} (e : o ≡ Some (front, behind)) where
      parted : Split rest front.now behind.now
      parted = MatchOption-at_some (whole_at rest ≡ false) (λ parts. Split rest parts.0.now parts.1.now) (front, behind) e halves

      pub section_is : front.now ≡ section_of at
      section_is = parted.front_is ∙ ap section_of w.is

      pub along : Reached k good (behind_of at) behind.now
      along = record {
        is = parted.rest_is ∙ ap behind_of w.is;
        asks = w.asks ∙ more k at (ap whole_at (sym w.is) ∙ parted.whole);
      }

-- behind the last one
pub ended : {good : Bool} {at rest : List ℕ} → Reached 0 good at rest → {r b : Bool} → r ≡ eqb (length rest) 0 → r ≡ b → good ≡ b
unfolding sections_of
ended w e f = w.asks ∙ ap (λ (s : List ℕ). eqb (length s) 0) (sym w.is) ∙ sym e ∙ f

-- what is returned where there is no section
pub no_section : {T U : Type 0} (job : List ℕ) (r : Result T Refusal) {o : Option U} {x : Refusal} → IsErrAnd r (λ y. y ≡ x)
    → Err x ≡ ok_or o Job → o ≡ None → is_sound job ≡ false
    → IfErr r (λ refusal. (refusal ≡ Job) × (is_sound job ≡ false))
no_section job r h told none unsound =
    let (y, is, same) = err_from_is_err_and r h in
    let e : Err _ ≡ Err Job = told ∙ ap (λ o. ok_or o Job) none in
    rw is (cc, unsound)
