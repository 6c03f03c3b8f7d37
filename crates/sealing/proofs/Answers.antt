-- What the calls answer under a scheme, from what their callees answered: refused by a check, done, or forged. Assumes nothing.
use mathlib.Core.Path.{◌≡◌, sym, ap, ◌∙◌}
use mathlib.Core.Bool.{Bool, true, false, cond}
use mathlib.Core.List.{List, ◌++◌}
use Prim.Native.Nat.{ℕ, ◌+◌, ◌-◌, ◌≤◌}
use native.Mathlib.Omega.{arith}
use lib.Dec.{ltb}
use lib.ListN.{length, drop, replicate}
use lib.Seq.{drop_at}
use borrow.Author.Tests.{ltb-false}
use Rattle.std.specs.Prelude.{Result, Err, IsErrAnd}
use Rattle.std.proofs.lemmas.Result.{err_from_is_err_and}
use Rattle.refusals.specs.declared.Refusal.{Refusal}
use Rattle.refusals.specs.declared.Refusal.TheVariants.{Unknown, Key, Header, Short, Room, Forged, Nonce, Body, Job, Blank}
use Rattle.refusals.specs.Refusal as refusals
use Rattle.refusals.specs.Refusal.{number_of}
use Rattle.ciphers.specs.Ciphers.{block_of}
use Rattle.prepared.specs.Prepared.{key_in}
use Rattle.prepared.proofs.Found.{key_block}
use Rattle.states.specs.Modes.{rounds_of}
use Rattle.walks.specs.Walks.{RecordSealed, RecordOpened}
use Rattle.schemes.specs.declared.Scheme.{Scheme}
use Rattle.schemes.specs.Schemes.{Fits}
use Rattle.schemes.specs.Checks.{check_of}
use Rattle.schemes.proofs.Passed.{check_passed, check_long}
use Rattle.sealing.specs.declared.Answer.{Answer}
use Rattle.sealing.specs.Calls.{Told, told, done, forged, judged, passed, sealed, opened, seal_rounds, open_rounds, seal_under, open_under}
use Rattle.sealing.proofs.Known.{not_passed}
use Rattle.sealing.proofs.Sums.{seal_sum, open_sum}

-- ---- refused, as a check's `?` hands it on

-- the number of a refusal is not that of what is done
pub number_some : (e : Refusal) → number_of e ≡ 0 → ⊥
number_some Unknown h = cc
number_some Key h = cc
number_some Header h = cc
number_some Short h = cc
number_some Room h = cc
number_some (Forged rounds) h = cc
number_some Nonce h = cc
number_some Body h = cc
number_some Job h = cc
number_some Blank h = cc

told_refused : (r : Result Answer Refusal) (e : Refusal) (k : ℕ) (t : Told) (room : List ℕ) → IsErrAnd r (λ x. x ≡ e) → number_of e ≡ k
    → refusals.rounds_of e ≡ 0 → told r room ≡ passed k t room
told_refused r e k t room a n u =
    let (x, is, same) = err_from_is_err_and r a in
    ap (λ (q : Result Answer Refusal). told q room) (is ∙ ap Err same)
    ∙ (λ i. record { number = n i; length = 0; room = room; rounds = u i })
    ∙ sym (not_passed k t room (λ z. number_some e (n ∙ z)))

-- ---- not refused

told_passed : (k : ℕ) (t : Told) (room : List ℕ) → 0 ≡ k → t ≡ passed k t room
told_passed k t room e = ap (λ (j : ℕ). passed j t room) e

-- what the checks passed can be counted in 32 bits
pub counted_on : (s : Scheme) (key nonce header body : ℕ) (short : Bool) (more room : ℕ) → Fits s
    → 0 ≡ check_of s key nonce header body short more room → (header ≤ 16777216) × (body ≤ 16777216)
counted_on s key nonce header body short more room fits c =
    let p = check_passed s key nonce header body short more room (sym c) in
    (omega (arith, p.fit.header_fits, fits.header), omega (arith, p.body_fits, fits.body))

-- L bytes of output, as the code has it: N is a block's, and the share was made of the key
module _ (s : Scheme) (share nonce header : List ℕ) (N : ℕ) (fits : Fits s) (size : N ≡ block_of s.cipher) where
  abbrev n : ℕ
  n = block_of s.cipher

  abbrev key : List ℕ
  key = key_in s.cipher share

  -- the checks see the length of the key that the share was made of
  key_long : s.key ≡ length key
  key_long = fits.key ∙ sym (key_block s.cipher share).long

  -- ---- seal

  module _ (body room : List ℕ) where
    checked_as : check_of s s.key (length nonce) (length header) (length body) false N (length room)
        ≡ check_of s (length key) (length nonce) (length header) (length body) false n (length room)
    checked_as = λ i. check_of s (key_long i) (length nonce) (length header) (length body) false (size i) (length room)

    pub seal_refuses : (r : Result Answer Refusal) (e : Refusal) → IsErrAnd r (λ x. x ≡ e)
        → number_of e ≡ check_of s s.key (length nonce) (length header) (length body) false N (length room) → refusals.rounds_of e ≡ 0
        → told r room ≡ seal_under s key nonce header body room
    unfolding seal_under
    seal_refuses r e a c u = told_refused r e _ _ room a (c ∙ checked_as) u

    pub seal_does : 0 ≡ check_of s s.key (length nonce) (length header) (length body) false N (length room)
        → (new : List ℕ) → RecordSealed s.cipher s.kind key nonce header body room new
        → (R : ℕ) → R ≡ rounds_of s.kind s.cipher (length header) (length body)
        → record { number = 0; length = length body + N; room = new; rounds = R } ≡ seal_under s key nonce header body room
    unfolding seal_under
    seal_does c new put R counts =
        (λ i. record {
          number = 0;
          length = length body + size i;
          room = put.said i;
          rounds = (counts ∙ sym (seal_sum s key nonce header body)) i;
        })
        ∙ told_passed _ (done (seal_rounds s key nonce header body) (length body + n) (sealed s key nonce header body) room) room (c ∙ checked_as)

  -- ---- open; L is the body's length as the code has it, S whether the run is short

  module _ (run room : List ℕ) (L : ℕ) (S : Bool) (len : L ≡ length run - N) (short : S ≡ ltb (length run) N) where
    abbrev l : ℕ
    l = length run - n

    len_is : L ≡ l
    len_is = len ∙ ap (λ (m : ℕ). length run - m) size

    opens_as : check_of s s.key (length nonce) (length header) L S 0 (length room)
        ≡ check_of s (length key) (length nonce) (length header) l (ltb (length run) n) 0 (length room)
    opens_as = λ i. check_of s (key_long i) (length nonce) (length header) (len_is i) ((short ∙ ap (ltb (length run)) size) i) 0 (length room)

    pub open_refuses : (r : Result Answer Refusal) (e : Refusal) → IsErrAnd r (λ x. x ≡ e)
        → number_of e ≡ check_of s s.key (length nonce) (length header) L S 0 (length room) → refusals.rounds_of e ≡ 0
        → told r room ≡ open_under s key nonce header run room
    unfolding open_under
    open_refuses r e a c u = told_refused r e _ _ room a (c ∙ opens_as) u

    module _ (c : 0 ≡ check_of s s.key (length nonce) (length header) L S 0 (length room)) (r : Bool) (mid : List ℕ)
        (a : RecordOpened s.cipher s.kind key nonce header run room r mid) (R : ℕ)
        (counts : R ≡ rounds_of s.kind s.cipher (length header) L) where
      abbrev run_rounds : ℕ
      run_rounds = open_rounds s key nonce header run

      rounds_is : R ≡ run_rounds
      rounds_is =
          counts ∙ ap (rounds_of s.kind s.cipher (length header)) len_is
          ∙ sym (open_sum s key nonce header run (ltb-false (length run) n (check_long s _ _ _ _ _ _ _ (sym (c ∙ opens_as)))))

      -- the answer by r
      by : (b : Bool) (t : Told) → r ≡ b
          → t ≡ cond b (done run_rounds l (opened s key nonce header run).body room) (forged run_rounds l room) → t ≡ open_under s key nonce header run room
      unfolding open_under
      by b t q f =
          f
          ∙ ap (λ (b : Bool). cond b (done run_rounds l (opened s key nonce header run).body room) (forged run_rounds l room))
          (sym q ∙ a.authentic_is)
          ∙ told_passed _ (judged run_rounds (opened s key nonce header run) l room) room (c ∙ opens_as)

      pub open_does : r ≡ true → record { number = 0; length = L; room = mid; rounds = R } ≡ open_under s key nonce header run room
      open_does q =
          by true _ q (λ i. record { number = 0; length = len_is i; room = a.put.said i; rounds = rounds_is i })

      -- the room was cleared: behind the body's place nothing had changed
      pub open_forges : r ≡ false → (new : List ℕ) → new ≡ replicate L 0 ++ drop L mid
          → record { number = 6; length = 0; room = new; rounds = R } ≡ open_under s key nonce header run room
      open_forges q new put6 =
          by false _ q
          (let left : new ≡ replicate l 0 ++ drop l room
          = put6
          ∙ ap (λ (m : ℕ). replicate m 0 ++ drop m mid) len_is
          ∙ ap (λ (x : List ℕ). replicate l 0 ++ x) (ap (drop l) a.put.said ∙ drop_at (opened s key nonce header run).body (drop l room) l a.put.long) in
          λ i. record { number = 6; length = 0; room = left i; rounds = rounds_is i })
