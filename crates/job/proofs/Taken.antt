-- A job that was written is sound, and read as it was written; a sound job was written. Assumes nothing.
use mathlib.Core.Path.{◌≡◌, refl, sym, ap, ◌∙◌}
use mathlib.Core.Bool.{true}
use mathlib.Core.List.{List, [], ◌∷◌, ◌++◌, append-nil}
use Prim.Native.Nat.{ℕ, suc, ◌+◌, ◌≤◌}
use native.Mathlib.Omega.{arith}
use borrow.Author.Tests.{le-ltb}
use lib.ListN.{length, drop, get_or, length-append}
use Rattle.cells.specs.Cells.{Bytes}
use Rattle.job.specs.Sections.{count_of, whole_at, section_of, behind_of, sections_of}
use Rattle.job.specs.Job.{Job, with_count, written, is_sound, job_of, directed, from_key, from_nonce, from_header, from_body}
use Rattle.modes.proofs.Bytes.{bytes_drop}
use Rattle.job.proofs.Wholes.{more}
use Rattle.job.proofs.Soundness.{sound, sound_front}
use Rattle.job.proofs.Writing.{with_count_whole, with_count_section, with_count_behind, written_so}

-- ---- what was written is read

with_count_more : (k : ℕ) (x rest : List ℕ) → sections_of (suc k) (with_count x ++ rest) ≡ sections_of k rest
with_count_more k x rest = more k (with_count x ++ rest) (with_count_whole x rest) ∙ ap (sections_of k) (with_count_behind x rest)

no_more : sections_of 0 [] ≡ true
unfolding sections_of
no_more = refl

module _ (scheme direction : ℕ) (key nonce header body : List ℕ) where
  abbrev job : List ℕ
  job = written scheme direction key nonce header body

  abbrev last : List ℕ
  last = with_count body

  pub written_length : length job ≡ 10 + length key + length nonce + length header + length body
  written_length =
      let k = length-append key (with_count nonce ++ (with_count header ++ last)) in
      let n = length-append nonce (with_count header ++ last) in
      let h = length-append header last in
      omega (arith, k, n, h)

  from_nonce_lem : from_nonce job ≡ with_count nonce ++ (with_count header ++ last)
  from_nonce_lem = with_count_behind key (with_count nonce ++ (with_count header ++ last))

  from_header_lem : from_header job ≡ with_count header ++ last
  from_header_lem = ap behind_of from_nonce_lem ∙ with_count_behind nonce (with_count header ++ last)

  -- the last section stands in front of nothing
  from_body_lem : from_body job ≡ last ++ []
  from_body_lem = ap behind_of from_header_lem ∙ with_count_behind header last ∙ sym (append-nil last)

  four : sections_of 4 (from_key job) ≡ true
  four =
      with_count_more 3 key (with_count nonce ++ (with_count header ++ last))
      ∙ with_count_more 2 nonce (with_count header ++ last)
      ∙ with_count_more 1 header last
      ∙ ap (sections_of 1) (sym (append-nil last))
      ∙ with_count_more 0 body []
      ∙ no_more

  pub written_sound : direction ≤ 1 → length job ≤ 16384 → is_sound job ≡ true
  unfolding is_sound
  written_sound d l = rw (le-ltb 16384 (length job) l, le-ltb 1 direction d) four

  pub written_answer : direction ≤ 1 → length job ≤ 16384 → (room : List ℕ) → job_of job room ≡ directed direction scheme key nonce header body room
  unfolding job_of
  written_answer d l room =
      rw (
        written_sound d l,
        with_count_section key (with_count nonce ++ (with_count header ++ last)),
        ap section_of from_nonce_lem ∙ with_count_section nonce (with_count header ++ last),
        ap section_of from_header_lem ∙ with_count_section header last,
        ap section_of from_body_lem ∙ with_count_section body [],
      )

-- ---- what is read was written

front_two : (job : List ℕ) → 2 ≤ length job → job ≡ get_or job 0 0 ∷ get_or job 1 0 ∷ drop 2 job
front_two [] h = absurd (omega arith)
front_two (x ∷ []) h = absurd (omega arith)
front_two (x ∷ y ∷ t) h = refl

no_length : (l : List ℕ) → length l ≡ 0 → l ≡ []
no_length [] e = refl
no_length (x ∷ l) e = absurd (omega arith)

bytes_behind : (s : List ℕ) → Bytes s → Bytes (behind_of s)
unfolding behind_of
bytes_behind s h = bytes_drop (2 + count_of s) s h

so : (s : List ℕ) {rest : List ℕ} → Bytes s → whole_at s ≡ true → behind_of s ≡ rest → s ≡ with_count (section_of s) ++ rest
so s h w e = written_so s w (h.at 0) (h.at 1) ∙ ap (λ (r : List ℕ). with_count (section_of s) ++ r) e

pub sound_written : (job : List ℕ) → Bytes job → is_sound job ≡ true → Job job
sound_written job bytes h =
    let w = sound job h in
    let at_key = bytes_drop 2 job bytes in
    let at_nonce = bytes_behind (from_key job) at_key in
    let at_header = bytes_behind (from_nonce job) at_nonce in
    let at_body = bytes_behind (from_header job) at_header in
    let last = so (from_body job) at_body w.body (no_length _ w.none) ∙ append-nil (with_count (section_of (from_body job))) in
    let sections = so (from_key job) at_key w.key (so (from_nonce job) at_nonce w.nonce (so (from_header job) at_header w.header last)) in
    record {
      scheme = get_or job 0 0;
      direction = get_or job 1 0;
      key = section_of (from_key job);
      nonce = section_of (from_nonce job);
      header = section_of (from_header job);
      body = section_of (from_body job);
      way = w.direction;
      short = w.short;
      is = front_two job (sound_front job w) ∙ ap (λ (r : List ℕ). get_or job 0 0 ∷ get_or job 1 0 ∷ r) sections;
    }
