-- A job of the desk, and its answer (01, The desk's program). Assumes nothing.
use Rattle.std.specs.Prelude.{◌≡◌, ℕ, zero, suc, ◌/◌, ◌%◌, ◌<◌, ◌≤◌, Bool, true, false, cond, List, ◌∷◌, ◌++◌, ltb, length, drop, get_or, Result, MatchResult}
use Rattle.refusals.specs.declared.Refusal.{Refusal}
use Rattle.refusals.specs.declared.Refusal.TheVariants as Refused
use Rattle.views.specs.View.{view_of}
use Rattle.sealing.specs.Calls.{Told, refused, seal_of, open_of}
use Rattle.lines.specs.Line.{line_of}
use Rattle.job.specs.declared.Direction.{Direction}
use Rattle.job.specs.declared.Direction.TheVariants.{Seal, Open}
use Rattle.job.specs.Sections.{section_of, behind_of, sections_of}

-- ---- a job, written: scheme, direction, key, nonce, header, body

abbrev pub with_count : List ℕ → List ℕ
with_count s = (length s / 256) ∷ (length s % 256) ∷ s

abbrev pub written : (scheme direction : ℕ) (key nonce header body : List ℕ) → List ℕ
written scheme direction key nonce header body =
    scheme ∷ direction ∷ (with_count key ++ (with_count nonce ++ (with_count header ++ with_count body)))

-- what the desk's program takes: a job so written, that seals (0) or opens (1), within the limit
pub record Job (job : List ℕ) : Type 0 where
  pub scheme : ℕ
  pub direction : ℕ
  pub key : List ℕ
  pub nonce : List ℕ
  pub header : List ℕ
  pub body : List ℕ
  pub way : direction ≤ 1
  pub short : length job ≤ 16384
  pub is : job ≡ written scheme direction key nonce header body

-- ---- a job, read

abbrev pub from_key : List ℕ → List ℕ
from_key job = drop 2 job

abbrev pub from_nonce : List ℕ → List ℕ
from_nonce job = behind_of (from_key job)

abbrev pub from_header : List ℕ → List ℕ
from_header job = behind_of (from_nonce job)

abbrev pub from_body : List ℕ → List ℕ
from_body job = behind_of (from_header job)

-- at most 16,384 bytes, direction 0 or 1, four sections in full and nothing left over (a job of no direction has no sections)
unfoldable pub is_sound : List ℕ → Bool
is_sound job = cond (ltb 16384 (length job)) false (cond (ltb 1 (get_or job 1 0)) false (sections_of 4 (from_key job)))

-- 0 seals, 1 opens
abbrev pub byte_of : Direction → ℕ
byte_of Seal = 0
byte_of Open = 1

-- what a byte is taken for
abbrev pub Direct : ℕ → Result Direction Refusal → Type 0
Direct byte r = MatchResult r (λ d. byte ≡ byte_of d) (λ refusal. (refusal ≡ Refused.Job) × (1 < byte))

abbrev pub directed : ℕ → (scheme : ℕ) (key nonce header body room : List ℕ) → Told
directed zero scheme key nonce header body room = seal_of scheme key nonce header body room
directed (suc d) scheme key nonce header body room = open_of scheme key nonce header body room

-- what is read of a sound job
pub record Reads (job : List ℕ) (scheme direction : ℕ) (key nonce header body : List ℕ) : Type 0 where
  pub sound : is_sound job ≡ true
  pub scheme_is : scheme ≡ get_or job 0 0
  pub direction_is : direction ≡ get_or job 1 0
  pub key_is : key ≡ section_of (from_key job)
  pub nonce_is : nonce ≡ section_of (from_nonce job)
  pub header_is : header ≡ section_of (from_header job)
  pub body_is : body ≡ section_of (from_body job)

-- 9 before all else
unfoldable pub job_of : List ℕ → List ℕ → Told
job_of job room =
    cond (is_sound job)
    (directed (get_or job 1 0) (get_or job 0 0) (section_of (from_key job)) (section_of (from_nonce job)) (section_of (from_header job)) (section_of (from_body job)) room)
    (refused 9 room)

-- ---- what is printed

abbrev pub line_for : Told → List ℕ
line_for t = line_of t.number t.length (view_of t.number t.length t.room)

abbrev pub printed : List ℕ → List ℕ → List ℕ
printed job room = line_for (job_of job room)
