-- The desk's program, in its document's words (01, The desk's program), on the definitions that the contracts of `job::run` and
-- `job::answer` cite. Assumes nothing.
use mathlib.Core.Path.{◌≡◌, refl, sym, ap, ◌∙◌}
use mathlib.Core.Bool.{false}
use mathlib.Core.List.{List, [], ◌∷◌, ◌++◌}
use Prim.Native.Nat.{ℕ, ◌+◌, ◌≤◌}
use native.Mathlib.Omega.{arith}
use lib.ListN.{length, drop}
use Rattle.cells.specs.Cells.{Bytes}
use Rattle.ciphers.specs.Ciphers.{block_of}
use Rattle.schemes.specs.declared.Scheme.{Scheme}
use Rattle.schemes.specs.Schemes.{scheme_of}
use Rattle.schemes.specs.Checks.{blank, check_of}
use Rattle.views.specs.View.{view_of}
use Rattle.std.specs.Prelude.{Result}
use Rattle.refusals.specs.declared.Refusal.{Refusal}
use Rattle.sealing.specs.declared.Answer.{Answer}
use Rattle.sealing.specs.Demands.{Admitted, SealsTo}
use Rattle.sealing.specs.Calls.{Told, told, refused, sealed, seal_rounds, open_rounds, seal_under, seal_of, open_of}
use Rattle.ciphers.proofs.Laws.{block_most}
use Rattle.sealing.proofs.Admitted.{seal_admitted}
use Rattle.sealing.proofs.Demands.{returned}
use Rattle.sealing.proofs.Exactly.{sealed_long}
use Rattle.sealing.proofs.Ways.{told_same}
use Rattle.lines.specs.Line.{digits_of, output_of, line_of, Puts}
use Rattle.job.specs.Job.{Job, written, job_of, line_for, printed}
use Rattle.job.proofs.Enough.{wide, not_3, not_5, not_8}
use Rattle.job.proofs.Printing.{done_line, refused_line}
use Rattle.job.proofs.Ways.{not_9, no_output, no_job}
use Rattle.job.proofs.Taken.{written_length, written_answer, sound_written}

-- ---- a job is answered by exactly what the seal or open of its sections answers

module _ (scheme : ℕ) (key nonce header body room : List ℕ) where
  pub job_seals : length (written scheme 0 key nonce header body) ≤ 16384
      → job_of (written scheme 0 key nonce header body) room ≡ seal_of scheme key nonce header body room
  job_seals l = written_answer scheme 0 key nonce header body (omega arith) l room

  pub job_opens : length (written scheme 1 key nonce header body) ≤ 16384
      → job_of (written scheme 1 key nonce header body) room ≡ open_of scheme key nonce header body room
  job_opens l = written_answer scheme 1 key nonce header body (omega arith) l room

-- ---- 9, before all else, is the answer to everything that is no job, and to nothing else

pub others_9 : (job room : List ℕ) → Bytes job → (Job job → ⊥) → job_of job room ≡ refused 9 room
others_9 job room bytes none = no_job job room λ e. none (sound_written job bytes e)

pub never_9 : (job room : List ℕ) → Job job → (job_of job room).number ≡ 9 → ⊥
never_9 job room j e =
    let l = rw j.is at j.short in
    let a = written_answer j.scheme j.direction j.key j.nonce j.header j.body j.way l room in
    not_9 j.direction j.scheme j.key j.nonce j.header j.body room
    (sym (ap (λ (t : Told). t.number) (ap (λ (s : List ℕ). job_of s room) j.is ∙ a)) ∙ e)

-- ---- what is printed

-- a seal of what is admitted and has a run: the run, whatever stood in the room
pub prints_sealed
    : (number : ℕ) (s : Scheme) (key nonce header body room : List ℕ) → Admitted number s key nonce header → Bytes body
    → blank s (length header) (length body) ≡ false → length (written number 0 key nonce header body) ≤ 16384 → 16384 ≤ length room
    → printed (written number 0 key nonce header body) room
    ≡ line_of 0 (length body + block_of s.cipher) (sealed s key nonce header body)
prints_sealed number s key nonce header body room ok b some l r =
    let w = wide number s ok.named in
    let m = written_length number 0 key nonce header body in
    let fits : length body ≤ s.body = omega (arith, l, m, w.body) in
    let enough : length body + block_of s.cipher ≤ length room
    = omega (arith, l, m, r, w.key, ok.key_fits.long, block_most s.cipher) in
    ap line_for (job_seals number key nonce header body room l ∙ seal_admitted number s key nonce header ok body room fits some enough)
    ∙ done_line (seal_rounds s key nonce header body) (length body + block_of s.cipher) (sealed s key nonce header body) room (sealed_long number s key nonce header ok body b)

-- an open of a run to which a body seals: the body, whatever stood in the room
pub prints_opened
    : (number : ℕ) (s : Scheme) (key nonce header body run room : List ℕ) → Admitted number s key nonce header → Bytes run
    → SealsTo s key nonce header body run → length (written number 1 key nonce header run) ≤ 16384 → 16384 ≤ length room
    → printed (written number 1 key nonce header run) room ≡ line_of 0 (length body) body
prints_opened number s key nonce header body run room ok hr t l r =
    let enough : length run ≤ length room + block_of s.cipher = omega (arith, l, r, written_length number 1 key nonce header run) in
    ap line_for (job_opens number key nonce header run room l ∙ returned number s key nonce header ok run room hr enough body t)
    ∙ done_line (open_rounds s key nonce header run) (length body) body room refl

-- every refusal: its number, 0 and `-`
pub prints_refused : (job room : List ℕ) → ((job_of job room).number ≡ 0 → ⊥) → printed job room ≡ line_of (job_of job room).number 0 []
prints_refused job room h = refused_line (job_of job room) h (no_output job room h)

-- ---- no job reaches the limits of a scheme; and a room of 16,384 bytes is always large enough

pub never_3 : (job room : List ℕ) → (job_of job room).number ≡ 3 → ⊥
never_3 = not_3

pub never_8 : (job room : List ℕ) → (job_of job room).number ≡ 8 → ⊥
never_8 = not_8

pub never_5 : (job room : List ℕ) → 16384 ≤ length room → (job_of job room).number ≡ 5 → ⊥
never_5 = not_5

-- ---- the document's own job: refused with 2, and the line is `2 0 -`

no_key : (room : List ℕ) → seal_of 1 [] [] [] [] room ≡ refused 2 room
unfolding seal_of seal_under scheme_of check_of
no_key room = refl

pub documents_job : (room : List ℕ) → job_of (1 ∷ 0 ∷ 0 ∷ 0 ∷ 0 ∷ 0 ∷ 0 ∷ 0 ∷ 0 ∷ 0 ∷ []) room ≡ refused 2 room
documents_job room = job_seals 1 [] [] [] [] room (omega arith) ∙ no_key room

pub documents_line : (room : List ℕ) → printed (1 ∷ 0 ∷ 0 ∷ 0 ∷ 0 ∷ 0 ∷ 0 ∷ 0 ∷ 0 ∷ 0 ∷ []) room ≡ 50 ∷ 32 ∷ 48 ∷ 32 ∷ 45 ∷ 10 ∷ []
unfolding view_of digits_of output_of
documents_line room = ap line_for (documents_job room)

-- ---- two results that a contract allows are equal

pub same_run : (job room : List ℕ) (a b : Result Answer Refusal) (r q : List ℕ) → told a r ≡ job_of job room → told b q ≡ job_of job room → (a ≡ b) × (r ≡ q)
same_run job room a b r q = told_same a b r q (job_of job room)

pub same_answer : (job room text : List ℕ) (k l : ℕ) (t u r q : List ℕ)
    → Puts (printed job room) k text t → Puts (printed job room) l text u
    → r ≡ (job_of job room).room → q ≡ (job_of job room).room → (k ≡ l) × (t ≡ u) × (r ≡ q)
same_answer job room text k l t u r q (a, p) (b, o) e f =
    let n = a ∙ sym b in
    (n, p ∙ ap (λ (m : ℕ). printed job room ++ drop m text) n ∙ sym o, e ∙ sym f)
