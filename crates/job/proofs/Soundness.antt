-- A sound job.
--     sound       what it has: two bytes at its front, a direction, four whole sections and nothing behind
--     too_long, no_front, no_direction, as_sections   what the code tests
-- Assumes nothing.
use mathlib.Core.Path.{◌≡◌, refl, ap, ◌∙◌}
use mathlib.Core.Bool.{Bool, true, false, cond, false≢true}
use mathlib.Core.List.{List, []}
use Prim.Native.Nat.{ℕ, ◌≤◌, ◌<◌}
use native.Mathlib.Omega.{arith}
use borrow.Author.Tests.{ltb-false, lt-ltb, le-ltb, eqb-true}
use lib.Dec.{ltb}
use lib.ListN.{length, get_or, length-drop, drop_of_length-le}
use Rattle.cells.proofs.Choice.{either}
use Rattle.job.specs.Sections.{whole_at, behind_of, sections_of}
use Rattle.job.specs.declared.Direction.{Direction}
use Rattle.job.specs.declared.Direction.TheVariants.{Seal, Open}
use Rattle.job.specs.Job.{is_sound, byte_of, from_key, from_nonce, from_header, from_body}
use Rattle.job.proofs.Wholes.{whole_long, whole_short, cut, first}

pub record Sound (job : List ℕ) : Type 0 where
  pub short : length job ≤ 16384
  pub direction : get_or job 1 0 ≤ 1
  pub key : whole_at (from_key job) ≡ true
  pub nonce : whole_at (from_nonce job) ≡ true
  pub header : whole_at (from_header job) ≡ true
  pub body : whole_at (from_body job) ≡ true
  pub none : length (behind_of (from_body job)) ≡ 0

past : (b c : Bool) → cond b false c ≡ true → (b ≡ false) × (c ≡ true)
past true c h = absurd (false≢true h)
past false c h = (refl, h)

pub sound : (job : List ℕ) → is_sound job ≡ true → Sound job
unfolding is_sound sections_of
sound job h =
    let l = past (ltb 16384 (length job)) _ h in
    let d = past (ltb 1 (get_or job 1 0)) _ l.1 in
    let k = first 3 (from_key job) d.1 in
    let n = first 2 (from_nonce job) k.1 in
    let a = first 1 (from_header job) n.1 in
    let b = first 0 (from_body job) a.1 in
    record {
      short = ltb-false 16384 (length job) l.0;
      direction = ltb-false 1 (get_or job 1 0) d.0;
      key = k.0;
      nonce = n.0;
      header = a.0;
      body = b.0;
      none = eqb-true (length (behind_of (from_body job))) 0 b.1;
    }

-- two bytes stand before the key's count
pub sound_front : (job : List ℕ) → Sound job → 2 ≤ length job
sound_front job w = omega (arith, whole_long (from_key job) w.key, length-drop 2 job)

-- ---- what the code tests, in its order

nothing : (s : List ℕ) → s ≡ [] → sections_of 4 s ≡ false
nothing s e = ap (sections_of 4) e ∙ cut 3 [] (whole_short [] (omega arith))

byte_most : (d : Direction) → byte_of d ≤ 1
byte_most Seal = omega arith
byte_most Open = omega arith

module _ (job : List ℕ) where
  pub too_long : 16384 < length job → is_sound job ≡ false
  unfolding is_sound
  too_long h = rw (lt-ltb 16384 (length job) h)

  pub no_front : length job ≤ 16384 → length job < 2 → is_sound job ≡ false
  unfolding is_sound sections_of
  no_front l h = rw (le-ltb 16384 (length job) l) (either (λ (b : Bool). b ≡ false) (ltb 1 (get_or job 1 0)) false (sections_of 4 (from_key job)) refl (nothing (from_key job) (drop_of_length-le job {i = 2} (omega arith))))

  pub no_direction : length job ≤ 16384 → 1 < get_or job 1 0 → is_sound job ≡ false
  unfolding is_sound
  no_direction l h = rw (le-ltb 16384 (length job) l, lt-ltb 1 (get_or job 1 0) h)

  pub as_sections : length job ≤ 16384 → (d : Direction) → get_or job 1 0 ≡ byte_of d → is_sound job ≡ sections_of 4 (from_key job)
  unfolding is_sound
  as_sections l d way =
      let known : get_or job 1 0 ≤ 1 = omega (arith, way, byte_most d) in
      rw (le-ltb 16384 (length job) l, le-ltb 1 (get_or job 1 0) known)
