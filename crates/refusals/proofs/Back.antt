-- A refusal is known by its number and its rounds: each has a number of its own, and a forged run's rounds are told. Assumes nothing.
use Rattle.std.proofs.Common.{◌≡◌, ℕ, false, cond, eqb, refl}
use Rattle.refusals.specs.declared.Refusal.{Refusal}
use Rattle.refusals.specs.declared.Refusal.TheVariants.{Unknown, Key, Header, Short, Room, Forged, Nonce, Body, Job, Blank}
use Rattle.refusals.specs.Refusal.{number_of, rounds_of}

pub refusal_of : (number rounds : ℕ) → Refusal
refusal_of number rounds =
    cond (eqb number 1) Unknown
    (cond (eqb number 2) Key
    (cond (eqb number 3) Header
    (cond (eqb number 4) Short
    (cond (eqb number 5) Room
    (cond (eqb number 6) (Forged rounds)
    (cond (eqb number 7) Nonce
    (cond (eqb number 8) Body
    (cond (eqb number 9) Job Blank))))))))

pub refusal_back : (r : Refusal) → refusal_of (number_of r) (rounds_of r) ≡ r
unfolding refusal_of
refusal_back Unknown = refl
refusal_back Key = refl
refusal_back Header = refl
refusal_back Short = refl
refusal_back Room = refl
refusal_back (Forged rounds) = refl
refusal_back Nonce = refl
refusal_back Body = refl
refusal_back Job = refl
refusal_back Blank = refl

-- 0 is no refusal's
pub number_not_0 : (r : Refusal) → eqb (number_of r) 0 ≡ false
number_not_0 Unknown = refl
number_not_0 Key = refl
number_not_0 Header = refl
number_not_0 Short = refl
number_not_0 Room = refl
number_not_0 (Forged rounds) = refl
number_not_0 Nonce = refl
number_not_0 Body = refl
number_not_0 Job = refl
number_not_0 Blank = refl
