-- A room of 16,384 bytes is enough for every job, and no section of a job is above a scheme's limits: 3, 8 and 5 are never answered, by
-- what these numbers say of the lengths (sealing's proofs/Numbers.antt). Assumes nothing.
use mathlib.Core.Path.{◌≡◌, refl}
use mathlib.Core.Bool.{Bool, true, false, cond}
use mathlib.Core.List.{List}
use Prim.Native.Nat.{ℕ, zero, suc, ◌+◌, ◌≤◌}
use native.Mathlib.Omega.{arith}
use lib.Dec.{eqb}
use lib.ListN.{length, get_or, length-drop}
use borrow.Author.Tests.{eqb-false}
use Rattle.ciphers.proofs.Laws.{block_most}
use Rattle.schemes.specs.declared.Scheme.{Scheme}
use Rattle.std.specs.Prelude.{Some}
use Rattle.schemes.specs.Schemes.{scheme_of}
use Rattle.schemes.specs.Checks.{body_in, more_in}
use Rattle.schemes.proofs.Table.{each_named}
use Rattle.sealing.specs.Calls.{Told, refused}
use Rattle.sealing.specs.Numbers.{answered}
use Rattle.sealing.proofs.Numbers.{says_3, says_5, says_8}
use Rattle.job.specs.Sections.{section_of}
use Rattle.job.specs.Job.{is_sound, job_of, directed, from_key, from_nonce, from_header, from_body}
use Rattle.job.proofs.Soundness.{Sound, sound, sound_front}
use Rattle.job.proofs.Writing.{behind_length}

-- a scheme's key has sixteen bytes, and its limits are above what a job can hold
pub record Wide (s : Scheme) : Type 0 where
  pub key : s.key ≡ 16
  pub header : 16384 ≤ s.header
  pub body : 16384 ≤ s.body

pub wide : (number : ℕ) (s : Scheme) → scheme_of number ≡ Some s → Wide s
wide =
    each_named Wide (
      record { key = refl; header = omega arith; body = omega arith },
      (
        record { key = refl; header = omega arith; body = omega arith },
        (
          record { key = refl; header = omega arith; body = omega arith },
          (
            record { key = refl; header = omega arith; body = omega arith },
            (
              record { key = refl; header = omega arith; body = omega arith },
              (
                record { key = refl; header = omega arith; body = omega arith },
                (record { key = refl; header = omega arith; body = omega arith }, tt),
              ),
            ),
          ),
        ),
      ),
    )

-- a body is no longer than the input, and an output by sixteen bytes at most
body_most : (opens : Bool) (s : Scheme) (l : ℕ) → body_in opens s l ≤ l
body_most false s l = omega arith
body_most true s l = omega arith

output_most : (opens : Bool) (s : Scheme) (l : ℕ) → body_in opens s l + more_in opens s ≤ l + 16
output_most false s l = omega (arith, block_most s.cipher)
output_most true s l = omega arith

-- ---- the sections of a job

module _ (job : List ℕ) where
  abbrev key : List ℕ
  key = section_of (from_key job)

  abbrev nonce : List ℕ
  nonce = section_of (from_nonce job)

  abbrev header : List ℕ
  header = section_of (from_header job)

  abbrev body : List ℕ
  body = section_of (from_body job)

  abbrev scheme : ℕ
  scheme = get_or job 0 0

  -- those of a sound job, and the ten bytes around them, are no longer than it
  all_of : Sound job → 10 + length key + length nonce + length header + length body ≤ 16384
  all_of w =
      let k = behind_length (from_key job) w.key in
      let n = behind_length (from_nonce job) w.nonce in
      let h = behind_length (from_header job) w.header in
      let b = behind_length (from_body job) w.body in
      let f = sound_front job w in
      omega (arith, k, n, h, b, f, length-drop 2 job, w.short)

  module _ (room : List ℕ) where
    -- whether a direction opens; another number than 9 is told by the sections' call
    abbrev opening : ℕ → Bool
    opening zero = false
    opening (suc d) = true

    abbrev opens : Bool
    opens = opening (get_or job 1 0)

    directed_so : (d k : ℕ) → (directed d scheme key nonce header body room).number ≡ k
        → (answered (opening d) scheme key nonce header body room).number ≡ k
    directed_so zero k e = e
    directed_so (suc d) k e = e

    sound_so : (b : Bool) (t : Told) (k : ℕ) → eqb 9 k ≡ false → (cond b t (refused 9 room)).number ≡ k → (b ≡ true) × (t.number ≡ k)
    sound_so true t k n e = (refl, e)
    sound_so false t k n e = absurd (eqb-false 9 k n e)

    called : (k : ℕ) → eqb 9 k ≡ false → (job_of job room).number ≡ k
        → Sound job × ((answered opens scheme key nonce header body room).number ≡ k)
    unfolding job_of
    called k n e = let (b, t) = sound_so (is_sound job) _ k n e in (sound job b, directed_so (get_or job 1 0) k t)

    -- ---- 3, 8 and 5

    pub not_3 : (job_of job room).number ≡ 3 → ⊥
    not_3 e =
        let (w, t) = called 3 refl e in
        let (s, known, (_, _, h)) = (says_3 opens scheme key nonce header body room).0 t in
        omega (arith, h, (wide scheme s known).header, all_of w)

    pub not_8 : (job_of job room).number ≡ 8 → ⊥
    not_8 e =
        let (w, t) = called 8 refl e in
        let (s, known, (_, h)) = (says_8 opens scheme key nonce header body room).0 t in
        omega (arith, h, body_most opens s (length body), (wide scheme s known).body, all_of w)

    pub not_5 : 16384 ≤ length room → (job_of job room).number ≡ 5 → ⊥
    not_5 l e =
        let (w, t) = called 5 refl e in
        let (s, known, (f, _, h)) = (says_5 opens scheme key nonce header body room).0 t in
        omega (arith, l, h, output_most opens s (length body), f.key_fits, (wide scheme s known).key, all_of w)
