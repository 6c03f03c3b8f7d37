-- Thirteen bits of number are enough for PAEF: where header and body have at most 8,191 blocks each, no two blocks of one record are
-- worked under the same tweak.
--     same_tweak   a tweak tells its flag and its number
--     Numbered     the i-th entry of a list is the tweak of number i + 1, with a flag between two bounds
--     distinct     two such lists whose flags are apart
-- Assumes nothing.
use mathlib.Core.Path.{◌≡◌, refl, sym, ap, ◌∙◌, subst}
use Prim.Native.Nat.{ℕ, zero, suc, ◌+◌, ◌-◌, ◌*◌, ◌≤◌, ◌<◌}
use native.Mathlib.Omega.{arith}
use native.Mathlib.Decide.{dec_lt}
use mathlib.Core.Bool.{Bool, true, false, not, ◌&&◌, cond}
use mathlib.Core.List.{List, [], ◌∷◌, ◌++◌}
use lib.ListN.{length, take, drop, get_or, length-append, get_or-append}
use lib.Seq.{get_or-append-add}
use Rattle.modes.specs.Blocks.{before_last, full, none}
use Rattle.modes.specs.Forkcipher.{Fork, Call}
use Rattle.modes.specs.Mode.{walk_from, walk, headed}
use Rattle.modes.specs.Paef.{Sum, paef_tweak, paef_head, paef_body, sum_tweak, sum_asks, paef}
use Rattle.modes.specs.Rounds.{calls_from, head_calls, body_calls, seal_calls}
use Rattle.modes.specs.Tweaks.{tweaks, seal_tweaks, Distinct}
use Rattle.cells.proofs.Choice.{either}
use Rattle.modes.proofs.Rest.{before_last_none}
use Rattle.modes.proofs.Tweaks.{same_number, before_few, tweaks_append, calls_long}

-- ---- a tweak tells its flag and its number

same_tweak : (nonce : List ℕ) (f g i j : ℕ) → f ≤ 7 → g ≤ 7 → i ≤ 8191 → j ≤ 8191 → paef_tweak nonce f i ≡ paef_tweak nonce g j
    → (f ≡ g) × (i ≡ j)
unfolding paef_tweak
same_tweak nonce f g i j hf hg hi hj e =
    let same : f * 8192 + i ≡ g * 8192 + j = same_number nonce (f * 8192 + i) (g * 8192 + j) (omega arith) (omega arith) e in
    (omega arith, omega arith)

-- ---- tweaks in a row

module _ (nonce : List ℕ) where
  -- the tweak of a number, with a flag between two bounds
  abbrev Flagged : (low high number : ℕ) → List ℕ → Type 0
  Flagged low high number t = (flag : ℕ) × (low ≤ flag) × (flag ≤ high) × (t ≡ paef_tweak nonce flag number)

  pub record Numbered (low high : ℕ) (from : ℕ) (ts : List (List ℕ)) : Type 0 where
    pub at : (i : ℕ) → i < length ts → Flagged low high (from + i) (get_or ts i [])

  -- numbered from 1, and at most 8,191
  abbrev Few : (low high : ℕ) → List (List ℕ) → Type 0
  Few low high ts = Numbered low high 1 ts × (length ts ≤ 8191)

  numbered_none : (low high from : ℕ) → Numbered low high from []
  numbered_none low high from = record { at = λ i h. absurd (omega arith) }

  few_none : (low high : ℕ) → Few low high []
  few_none low high = (numbered_none low high 1, omega arith)

  numbered_more : (low high from : ℕ) (t : List ℕ) (ts : List (List ℕ)) → Flagged low high from t → Numbered low high (from + 1) ts
      → Numbered low high from (t ∷ ts)
  numbered_more low high from t ts first more = record { at = go }
    where
      go : (i : ℕ) → i < length (t ∷ ts) → Flagged low high (from + i) (get_or (t ∷ ts) i [])
      go zero h =
          let (f, fl, fh, e) = first in
          let n : from ≡ from + 0 = omega arith in
          (f, fl, fh, e ∙ ap (paef_tweak nonce f) n)
      go (suc i) h =
          let (f, fl, fh, e) = more.at i (omega arith) in
          let n : from + 1 + i ≡ from + suc i = omega arith in
          (f, fl, fh, e ∙ ap (paef_tweak nonce f) n)

  -- of the calls of a walk whose steps count on
  module _ (n low high : ℕ) (step : Sum → List ℕ → Sum) (more last : Sum → List ℕ → Call)
      (hm : (s : Sum) (x : List ℕ) → Flagged low high s.number (more s x).tweak)
      (hl : (s : Sum) (x : List ℕ) → Flagged low high s.number (last s x).tweak)
      (counts : (s : Sum) (x : List ℕ) → (step s x).number ≡ s.number + 1) where
    calls_numbered : (m : ℕ) (s : Sum) (x : List ℕ) → Numbered low high s.number (tweaks (calls_from n step more last m s x))
    unfolding calls_from tweaks
    calls_numbered zero s x = numbered_more low high s.number _ [] (hl s x) (numbered_none low high (s.number + 1))
    calls_numbered (suc m) s x =
        numbered_more low high s.number _ _ (hm s (take n x))
        (rw (← counts s (take n x)) (calls_numbered m (step s (take n x)) (drop n x)))

    calls_few : (s : Sum) (x : List ℕ) → s.number ≡ 1 → zero < n → length x ≤ 8191 * n
        → Few low high (tweaks (calls_from n step more last (before_last n (length x)) s x))
    calls_few s x e p h =
        let m : ℕ = before_last n (length x) in (
          subst (λ (k : ℕ). Numbered low high k (tweaks (calls_from n step more last m s x))) e (calls_numbered m s x),
          omega (arith, before_few 8191 n (length x) p (omega arith), calls_long n step more last m s x),
        )

  -- the header's, with flags up to 3, and the body's, with flags from 4 on
  module _ (hs bs : List (List ℕ)) (h : Few 0 3 hs) (b : Few 4 7 bs) where
    -- the entry at i: of the header, or of the body behind it
    pub record Entry (i low high number : ℕ) : Type 0 where
      pub flag : ℕ
      pub above : low ≤ flag
      pub below : flag ≤ high
      pub some : number ≤ 8191
      pub is : get_or (hs ++ bs) i [] ≡ paef_tweak nonce flag number

    entry_head : (i : ℕ) → i < length hs → Entry i 0 3 (1 + i)
    entry_head i l =
        let (f, fl, fh, e) = h.0.at i l in
        record { flag = f; above = fl; below = fh; some = omega arith; is = get_or-append hs bs [] i l ∙ e }

    entry_body : (i : ℕ) → length hs ≤ i → i < length (hs ++ bs) → Entry i 4 7 (1 + (i - length hs))
    entry_body i l u =
        let k : i - length hs < length bs = omega (arith, length-append hs bs) in
        let (f, fl, fh, e) = b.0.at (i - length hs) k in
        let at : i ≡ length hs + (i - length hs) = omega arith in
        record {
          flag = f;
          above = fl;
          below = fh;
          some = omega arith;
          is = ap (λ (j : ℕ). get_or (hs ++ bs) j []) at ∙ get_or-append-add hs bs (i - length hs) [] ∙ e;
        }

    meet : {i j low high low' high' p q : ℕ} → Entry i low high p → Entry j low' high' q → high ≤ 7 → high' ≤ 7
        → get_or (hs ++ bs) i [] ≡ get_or (hs ++ bs) j [] → (low ≤ high') × (low' ≤ high) × (p ≡ q)
    meet {p = p} {q = q} x y u v e =
        let (f, n) = same_tweak nonce x.flag y.flag p q (omega arith) (omega arith) x.some y.some (sym x.is ∙ e ∙ y.is) in
        (omega arith, omega arith, n)

    distinct : Distinct (hs ++ bs)
    distinct = record { differ = go }
      where
        go : (i j : ℕ) → i < length (hs ++ bs) → j < length (hs ++ bs) → get_or (hs ++ bs) i [] ≡ get_or (hs ++ bs) j [] → i ≡ j
        go i j hi hj e =
            elim (dec_lt i (length hs)) [
              | yes k ↦ elim (dec_lt j (length hs)) [
                | yes l ↦ (let m = meet (entry_head i k) (entry_head j l) (omega arith) (omega arith) e in omega arith)
                | no l ↦ (let m = meet (entry_head i k) (entry_body j (omega arith) hj) (omega arith) (omega arith) e in absurd (omega arith))
              ]
              | no k ↦ elim (dec_lt j (length hs)) [
                | yes l ↦ (let m = meet (entry_body i (omega arith) hi) (entry_head j l) (omega arith) (omega arith) e in absurd (omega arith))
                | no l ↦ (let m = meet (entry_body i (omega arith) hi) (entry_body j (omega arith) hj) (omega arith) (omega arith) e in omega arith)
              ]
            ]

-- ---- the tweaks of a record

head_high : (f : Bool) → paef_head f ≤ 3
unfolding paef_head
head_high true = omega arith
head_high false = omega arith

body_low : (f : Bool) → 4 ≤ paef_body f
unfolding paef_body
body_low true = omega arith
body_low false = omega arith

body_high : (f : Bool) → paef_body f ≤ 7
unfolding paef_body
body_high true = omega arith
body_high false = omega arith

module _ (n : ℕ) (F : Fork) (nonce : List ℕ) (p : zero < n) where
  -- the numbers begin again behind the header
  walk_number : (m : ℕ) (noM : Bool) (s : Sum) (a : List ℕ) → (walk_from n (paef n F nonce) m noM s a).number ≡ 1
  unfolding walk_from paef
  walk_number zero noM s a = refl
  walk_number (suc m) noM s a = walk_number m noM _ (drop n a)

  headed_number : (noM : Bool) (a : List ℕ) → (headed n (paef n F nonce) noM a).number ≡ 1
  unfolding headed walk paef
  headed_number noM a =
      either (λ (s : Sum). s.number ≡ 1) (not noM && none (length a)) _ _ refl (walk_number (before_last n (length a)) noM _ a)

  head_few : (noM : Bool) (header : List ℕ) → length header ≤ 8191 * n → Few nonce 0 3 (tweaks (head_calls n (paef n F nonce) noM header))
  unfolding head_calls tweaks paef sum_asks sum_tweak
  head_few noM header h =
      either (λ (cs : List Call). Few nonce 0 3 (tweaks cs)) (not noM && none (length header)) _ _ (few_none nonce 0 3)
      (calls_few nonce n 0 3 (paef n F nonce).head _ _ (λ s x. (0, omega arith, omega arith, refl))
      (λ s x. (paef_head (full n (length x)), omega arith, head_high _, refl)) (λ s x. refl) _ header refl p h)

  -- the body's, where noM says that there is none
  body_few : (noM : Bool) (header body : List ℕ) → length body ≤ 8191 * n
      → Few nonce 4 7 (tweaks (cond noM [] (body_calls n (paef n F nonce) (headed n (paef n F nonce) noM header) body)))
  unfolding body_calls tweaks paef sum_asks sum_tweak
  body_few noM header body h =
      either (λ (cs : List Call). Few nonce 4 7 (tweaks cs)) noM _ _ (few_none nonce 4 7)
      (calls_few nonce n 4 7 (paef n F nonce).next _ _ (λ s x. (4, omega arith, omega arith, refl))
      (λ s x. (paef_body (full n (length x)), body_low _, body_high _, refl)) (λ s x. refl) _ body (headed_number noM header) p h)

  pub paef_distinct : (header body : List ℕ) → length header ≤ 8191 * n → length body ≤ 8191 * n → Distinct (seal_tweaks n (paef n F nonce) header body)
  unfolding seal_tweaks seal_calls
  paef_distinct header body hh hb =
      subst Distinct (sym (tweaks_append _ _))
      (distinct nonce _ _ (head_few (none (length body)) header hh) (body_few (none (length body)) header body hb))

  -- where header and body are empty there is one block
  pub paef_one : length (seal_tweaks n (paef n F nonce) [] []) ≡ 1
  unfolding seal_tweaks seal_calls head_calls calls_from tweaks
  paef_one = rw (before_last_none n 0 p (omega arith))
