-- Which records are admitted (C-16), for every value of a record. Assumes nothing.
use mathlib.Core.Path.{◌≡◌, refl, sym, ap, ◌∙◌}
use mathlib.Core.Bool.{Bool, true, false, cond, ◌&&◌}
use mathlib.Core.List.{List, []}
use mathlib.Core.Logic.{◌≢◌}
use Prim.Native.Nat.{ℕ, ◌≤◌}
use native.Mathlib.Omega.{arith}
use borrow.Author.Tests.{eq-eqb, ne_eqb, eqb-true}
use lib.Dec.{eqb}
use lib.ListN.{length}
use Rattle.cells.specs.Cells.{Block}
use Rattle.ciphers.specs.declared.Cipher.{Cipher}
use Rattle.ciphers.specs.declared.Cipher.TheVariants.{N64T192, N128T256}
use Rattle.ciphers.specs.Ciphers.{number_of}
use Rattle.modes.specs.Blocks.{same}
use Rattle.modes.proofs.Bytes.{same_eq, same_refl}
use Rattle.prepared.specs.declared.Prepared.{Prepared}
use Rattle.std.specs.Prelude.{Result, Ok, Err}
use Rattle.refusals.specs.declared.Refusal.{Refusal}
use Rattle.refusals.specs.declared.Refusal.TheVariants.{Unknown, Key, Header, Short, Room, Forged, Nonce, Body, Job, Blank}
use Rattle.refusals.proofs.Back.{refusal_of, refusal_back}
use Rattle.prepared.specs.Prepared.{Preparation, prepared_as, unmoving, share_of, prepared_of, no_record, refused_with, prepare_of, key_in, Made, Admitted, admitted, key_of}
use Rattle.prepared.proofs.Found.{key_back, key_block}
use Rattle.prepared.proofs.Repeats.{and_true}

-- ---- the check decides it

-- no record is taken but one that a key gives ..
pub only_admitted : (c : Cipher) (r : Prepared) → admitted c r ≡ true → Admitted c r
unfolding admitted
only_admitted c r e =
    let (p, q) = and_true (eqb r.cipher (number_of c)) (same r.share (share_of c (key_in c r.share)) && same r.tweak unmoving) e in
    let (s, t) = and_true (same r.share (share_of c (key_in c r.share))) (same r.tweak unmoving) q in
    let a = eqb-true r.cipher (number_of c) p in
    let f = same_eq r.share (share_of c (key_in c r.share)) s in
    let g = same_eq r.tweak unmoving t in (key_in c r.share, key_block c r.share, λ i. record { cipher = a i; share = f i; tweak = g i })

made_admitted : (c : Cipher) (key : List ℕ) → Block 16 key → admitted c (prepared_of c key) ≡ true
unfolding admitted
made_admitted c key b =
    simp (eq-eqb (number_of c) (number_of c) refl, key_back c key b, same_refl)

-- .. and each of these is
pub all_admitted : (c : Cipher) (r : Prepared) → Admitted c r → admitted c r ≡ true
all_admitted c r (key, b, e) = ap (admitted c) e ∙ made_admitted c key b

-- ---- the key that a record stands for: the one that it was made of, or none

pub key_if : (c : Cipher) (r : Prepared) → admitted c r ≡ true → key_of c r ≡ key_in c r.share
unfolding key_of
key_if c r e = ap (λ (t : Bool). cond t (key_in c r.share) []) e

pub key_of_lem : (c : Cipher) (key : List ℕ) → Block 16 key → key_of c (prepared_of c key) ≡ key
key_of_lem c key b = key_if c (prepared_of c key) (made_admitted c key b) ∙ key_back c key b

pub key_none : (c : Cipher) (r : Prepared) → admitted c r ≡ false → key_of c r ≡ []
unfolding key_of
key_none c r e = ap (λ (t : Bool). cond t (key_in c r.share) []) e

-- the share of a key was made of this key, and so was that of an admitted record
pub made_of : (c : Cipher) (key : List ℕ) {share : List ℕ} → Block 16 key → share ≡ share_of c key → (key_in c share ≡ key) × Made c share
made_of c key b e = let k = ap (key_in c) e ∙ key_back c key b in (k, e ∙ sym (ap (share_of c) k))

pub made_if : (c : Cipher) (r : Prepared) → admitted c r ≡ true → Made c r.share
made_if c r e = let (key, b, f) = only_admitted c r e in (made_of c key b (ap (λ (x : Prepared). x.share) f)).1

-- two keys of sixteen bytes that give one record under one cipher are equal
pub one_key : (c : Cipher) (k l : List ℕ) → Block 16 k → Block 16 l → prepared_of c k ≡ prepared_of c l → k ≡ l
one_key c k l a b e = sym (key_back c k a) ∙ ap (λ (r : Prepared). key_in c r.share) e ∙ key_back c l b

-- the fixed record is admitted under no cipher
pub never : (c : Cipher) → admitted c no_record ≡ false
unfolding admitted
never N64T192 = refl
never N128T256 = refl

-- a record of one cipher is not admitted under another
pub one_cipher : (c d : Cipher) (r : Prepared) → Admitted c r → Admitted d r → c ≡ d
one_cipher c d r (k, a, e) (l, b, f) = apart c d (ap (λ (r : Prepared). r.cipher) (sym e ∙ f)) where
  apart : (c d : Cipher) → number_of c ≡ number_of d → c ≡ d
  apart N64T192 N64T192 q = refl
  apart N64T192 N128T256 q = absurd (omega arith)
  apart N128T256 N64T192 q = absurd (omega arith)
  apart N128T256 N128T256 q = refl

-- ---- what is told names the result: no number that preparing tells is a forged run's

abbrev result_of : Preparation → Result Prepared Refusal
result_of t = cond (eqb t.number 0) (Ok t.made) (Err (refusal_of t.number 0))

result_back : (a : Result Prepared Refusal) → (prepared_as a).number ≤ 2 → result_of (prepared_as a) ≡ a
result_back (Ok made) h = refl
result_back (Err Unknown) h = ap Err (refusal_back Unknown)
result_back (Err Key) h = ap Err (refusal_back Key)
result_back (Err Header) h = absurd (omega arith)
result_back (Err Short) h = absurd (omega arith)
result_back (Err Room) h = absurd (omega arith)
result_back (Err (Forged rounds)) h = absurd (omega arith)
result_back (Err Nonce) h = absurd (omega arith)
result_back (Err Body) h = absurd (omega arith)
result_back (Err Job) h = absurd (omega arith)
result_back (Err Blank) h = absurd (omega arith)

-- ---- preparing: which number is answered, and with which record

module _ (cipher : ℕ) (key : List ℕ) where
  pub prepares : (c : Cipher) → cipher ≡ number_of c → length key ≡ 16 → prepare_of cipher key ≡ record { number = 0; made = prepared_of c key }
  unfolding prepare_of
  prepares N64T192 e h = simp (e, eq-eqb (length key) 16 h)
  prepares N128T256 e h = simp (e, eq-eqb (length key) 16 h)

  pub no_cipher : cipher ≢ 1 → cipher ≢ 2 → prepare_of cipher key ≡ refused_with 1
  unfolding prepare_of
  no_cipher p q = simp (ne_eqb cipher 1 p, ne_eqb cipher 2 q)

  pub no_key : (c : Cipher) → cipher ≡ number_of c → length key ≢ 16 → prepare_of cipher key ≡ refused_with 2
  unfolding prepare_of
  no_key N64T192 e h = simp (e, ne_eqb (length key) 16 h)
  no_key N128T256 e h = simp (e, ne_eqb (length key) 16 h)

  abbrev made : Cipher → Bool → Preparation
  made c s = cond s (record { number = 0; made = prepared_of c key }) (refused_with 2)

  -- no number but 0, 1 and 2
  few : (prepare_of cipher key).number ≤ 2
  unfolding prepare_of
  few = chosen (eqb cipher 1) (eqb cipher 2) (eqb (length key) 16) where
    chosen : (p q s : Bool) → (cond p (made N64T192 s) (cond q (made N128T256 s) (refused_with 1))).number ≤ 2
    chosen true q true = omega arith
    chosen true q false = omega arith
    chosen false true true = omega arith
    chosen false true false = omega arith
    chosen false false s = omega arith

  -- any two results that the contract allows are equal
  pub same_prepare : (a b : Result Prepared Refusal) → prepared_as a ≡ prepare_of cipher key → prepared_as b ≡ prepare_of cipher key → a ≡ b
  same_prepare a b p q = sym (result_back a (few_as p)) ∙ ap result_of (p ∙ sym q) ∙ result_back b (few_as q) where
    few_as : {t : Preparation} → t ≡ prepare_of cipher key → t.number ≤ 2
    few_as e = omega (arith, ap (λ (t : Preparation). t.number) e, few)
