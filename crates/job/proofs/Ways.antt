-- The ways in which a job is answered: what holds of each of them holds of the answer. Assumes nothing.
use mathlib.Core.Path.{◌≡◌, refl, sym}
use mathlib.Core.Bool.{Bool, true, false}
use mathlib.Core.List.{List}
use Prim.Native.Nat.{ℕ, zero, suc}
use native.Mathlib.Omega.{arith}
use lib.ListN.{get_or}
use Rattle.schemes.proofs.Passed.{Plain}
use Rattle.sealing.specs.Calls.{Told, refused, done, forged}
use Rattle.cells.proofs.Choice.{either}
use Rattle.sealing.proofs.Ways.{seal_ways, open_ways}
use Rattle.job.specs.Job.{is_sound, job_of, directed}
use Rattle.job.proofs.Reading.{unsound}

module _
    (P : Told → Type 0)
    (room : List ℕ)
    (d : (r l : ℕ) (out : List ℕ) → P (done r l out room))
    (f : (r l : ℕ) → P (forged r l room))
    (r : (k : ℕ) → Plain k → P (refused k room))
  where
    directed_ways : (way scheme : ℕ) (key nonce header body : List ℕ) → P (directed way scheme key nonce header body room)
    directed_ways zero scheme key nonce header body = seal_ways P key nonce header scheme body room d r
    directed_ways (suc way) scheme key nonce header body = open_ways P key nonce header scheme body room d f r

    job_ways : P (refused 9 room) → (job : List ℕ) → P (job_of job room)
    unfolding job_of
    job_ways nine job = either P (is_sound job) _ _ (directed_ways (get_or job 1 0) (get_or job 0 0) _ _ _ _) nine

-- a seal or open is never answered by 9
pub not_9 : (way scheme : ℕ) (key nonce header body room : List ℕ) → (directed way scheme key nonce header body room).number ≡ 9 → ⊥
not_9 way scheme key nonce header body room =
    directed_ways (λ (t : Told). t.number ≡ 9 → ⊥) room
    (λ r l out e. omega arith) (λ r l e. omega arith) (λ k p e. p.not_9 e)
    way scheme key nonce header body

-- what is refused has no output
pub no_output : (job room : List ℕ) → ((job_of job room).number ≡ 0 → ⊥) → (job_of job room).length ≡ 0
no_output job room =
    job_ways (λ (t : Told). (t.number ≡ 0 → ⊥) → t.length ≡ 0) room
    (λ r l out h. absurd (h refl)) (λ r l h. refl) (λ k p h. refl) (λ h. refl) job

-- what is not sound is answered by 9
module _ (job room : List ℕ) where
  judged : (b : Bool) → is_sound job ≡ b → (is_sound job ≡ true → ⊥) → job_of job room ≡ refused 9 room
  judged true e h = absurd (h e)
  judged false e h = sym (unsound job room e)

  pub no_job : (is_sound job ≡ true → ⊥) → job_of job room ≡ refused 9 room
  no_job = judged (is_sound job) refl
