-- Fourteen bits of number are enough for the header of a mode of the family, and fifteen for its body: where the header has at most 16,380 blocks
-- and the body 32,767, no two blocks of one record are worked under the same tweak.
--     Row      the entries of a list are the tweaks of numbers that go on from one to the next, but for the last, whose number is below them
--     Counts   what is asked of a mode's own lines: the tweak of a body block is that of its number, and the numbers go on
-- Assumes nothing.
use mathlib.Core.Path.{◌≡◌, refl, sym, ap, ◌∙◌, subst}
use mathlib.Core.Logic.{◌⊎◌, inl, inr}
use Prim.Native.Nat.{ℕ, zero, suc, ◌+◌, ◌-◌, ◌*◌, ◌≤◌, ◌<◌}
use native.Mathlib.Omega.{arith}
use native.Mathlib.Decide.{dec_lt}
use mathlib.Core.Bool.{Bool, true, false, not, ◌&&◌, cond}
use mathlib.Core.List.{List, [], ◌∷◌, ◌++◌}
use lib.ListN.{length, take, drop, get_or, length-append, get_or-append}
use lib.Seq.{get_or-append-add}
use Rattle.modes.specs.Blocks.{before_last, full, none, pad}
use Rattle.modes.specs.Forkcipher.{Fork, Call}
use Rattle.modes.specs.Mode.{walk_from, walk, headed}
use Rattle.modes.specs.Rounds.{calls_from, head_calls, body_calls, seal_calls}
use Rattle.modes.specs.Tweaks.{tweaks, seal_tweaks, Distinct}
use Rattle.modes.specs.Eevee.{Chain, Middle, bit, head_tweak, body_tweak, head_end, eevee}
use Rattle.modes.specs.Jolteon.{jolteon_own, jolteon}
use Rattle.modes.specs.Umbreon.{umbreon_own, umbreon}
use Rattle.cells.proofs.Choice.{either}
use Rattle.modes.proofs.Tweaks.{same_number, before_few, tweaks_append, calls_long}

-- ---- tweaks in a row, of which `tweak` makes one from a number

-- the number of the entry at i, of `long` entries
abbrev Numbered : (low from long i u : ℕ) → Type 0
Numbered low from long i u = ((suc i ≡ long) × (u ≤ low)) ⊎ ((suc i < long) × (u ≡ from + i))

pub record Row (tweak : ℕ → List ℕ) (low from : ℕ) (ts : List (List ℕ)) : Type 0 where
  pub at : (i : ℕ) → i < length ts → (u : ℕ) × (get_or ts i [] ≡ tweak u) × Numbered low from (length ts) i u

numbered_later : (low from long i u : ℕ) → Numbered low (from + 1) long i u → Numbered low from (suc long) (suc i) u
numbered_later low from long i u (inl h) = inl (omega arith, h.1)
numbered_later low from long i u (inr h) = inr (omega arith, omega arith)

-- one number stands at one place, where the last is below the others
same_place : (low from long i j u : ℕ) → low < from → Numbered low from long i u → Numbered low from long j u → i ≡ j
same_place low from long i j u h (inl a) (inl b) = omega arith
same_place low from long i j u h (inl a) (inr b) = absurd (omega arith)
same_place low from long i j u h (inr a) (inl b) = absurd (omega arith)
same_place low from long i j u h (inr a) (inr b) = omega arith

-- a number is below a bound that leaves room for those before the last
number_few : (low from long i u most : ℕ) → low < from → from + long ≤ most + 2 → Numbered low from long i u → u ≤ most
number_few low from long i u most h k (inl a) = omega arith
number_few low from long i u most h k (inr a) = omega arith

module _ (tweak : ℕ → List ℕ) (low : ℕ) where
  row_none : (from : ℕ) → Row tweak low from []
  row_none from = record { at = λ i h. absurd (omega arith) }

  row_last : (from u : ℕ) (t : List ℕ) → t ≡ tweak u → u ≤ low → Row tweak low from (t ∷ [])
  row_last from u t e h = record { at = go }
    where
      go : (i : ℕ) → i < length (t ∷ []) → (v : ℕ) × (get_or (t ∷ []) i [] ≡ tweak v) × Numbered low from (length (t ∷ [])) i v
      go zero k = (u, e, inl (omega arith, h))
      go (suc i) k = absurd (omega arith)

  row_more : (from : ℕ) (t : List ℕ) (ts : List (List ℕ)) → t ≡ tweak from → zero < length ts → Row tweak low (from + 1) ts → Row tweak low from (t ∷ ts)
  row_more from t ts e l more = record { at = go }
    where
      go : (i : ℕ) → i < length (t ∷ ts) → (v : ℕ) × (get_or (t ∷ ts) i [] ≡ tweak v) × Numbered low from (length (t ∷ ts)) i v
      go zero k = (from, e, inr (omega arith, omega arith))
      go (suc i) k = let (v, f, n) = more.at i (omega arith) in (v, f, numbered_later low from (length ts) i v n)

  -- of the calls of a walk whose steps count on; `off` stands between a block's number and its tweak's
  module _ (n off : ℕ) (step : Chain → List ℕ → Chain) (more last : Chain → List ℕ → Call)
      (hm : (s : Chain) (x : List ℕ) → (more s x).tweak ≡ tweak (s.number + off))
      (hl : (s : Chain) (x : List ℕ) → (u : ℕ) × ((last s x).tweak ≡ tweak u) × (u ≤ low))
      (counts : (s : Chain) (x : List ℕ) → (step s x).number ≡ s.number + 1) where
    calls_row : (m : ℕ) (s : Chain) (x : List ℕ) → Row tweak low (s.number + off) (tweaks (calls_from n step more last m s x))
    unfolding calls_from tweaks
    calls_row zero s x = let (u, e, h) = hl s x in row_last _ u _ e h
    calls_row (suc m) s x =
        let t : Chain = step s (take n x) in
        let e : t.number + off ≡ s.number + off + 1 = omega (arith, counts s (take n x)) in
        let rest : List (List ℕ) = tweaks (calls_from n step more last m t (drop n x)) in
        row_more _ _ rest (hm s (take n x)) (omega (arith, calls_long n step more last m t (drop n x)))
        (subst (λ (k : ℕ). Row tweak low k rest) e (calls_row m t (drop n x)))

-- ---- header and body

module _ (nonce : List ℕ) where
  -- at most 16,380 of a header: numbers from 5 on, and 0 to 3 for the last; at most 32,767 of a body: from 2 on, and 0 or 1
  abbrev HeadRow : List (List ℕ) → Type 0
  HeadRow ts = Row (head_tweak nonce) 3 5 ts × (length ts ≤ 16380)

  abbrev BodyRow : List (List ℕ) → Type 0
  BodyRow ts = Row (body_tweak nonce) 1 2 ts × (length ts ≤ 32767)

  head_same : (u v : ℕ) → u ≤ 16383 → v ≤ 16383 → head_tweak nonce u ≡ head_tweak nonce v → u ≡ v
  unfolding head_tweak
  head_same u v hu hv e = omega (arith, same_number nonce (u * 4) (v * 4) (omega arith) (omega arith) e)

  body_same : (u v : ℕ) → u ≤ 32767 → v ≤ 32767 → body_tweak nonce u ≡ body_tweak nonce v → u ≡ v
  unfolding body_tweak
  body_same u v hu hv e = omega (arith, same_number nonce (u * 2 + 1) (v * 2 + 1) (omega arith) (omega arith) e)

  -- the last bit tells a body's from a header's
  head_not_body : (u v : ℕ) → u ≤ 16383 → v ≤ 32767 → head_tweak nonce u ≡ body_tweak nonce v → ⊥
  unfolding head_tweak body_tweak
  head_not_body u v hu hv e =
      let same : u * 4 ≡ v * 2 + 1 = same_number nonce (u * 4) (v * 2 + 1) (omega arith) (omega arith) e in omega arith

  module _ (hs bs : List (List ℕ)) (h : HeadRow hs) (b : BodyRow bs) where
    -- the entry at i: of the header, or of the body behind it
    abbrev InHead : ℕ → Type 0
    InHead i = (u : ℕ) × (get_or (hs ++ bs) i [] ≡ head_tweak nonce u) × (u ≤ 16383) × Numbered 3 5 (length hs) i u

    abbrev InBody : ℕ → Type 0
    InBody i = (u : ℕ) × (get_or (hs ++ bs) i [] ≡ body_tweak nonce u) × (u ≤ 32767) × Numbered 1 2 (length bs) (i - length hs) u

    in_head : (i : ℕ) → i < length hs → InHead i
    in_head i l =
        let (u, e, n) = h.0.at i l in
        (u, get_or-append hs bs [] i l ∙ e, number_few 3 5 (length hs) i u 16383 (omega arith) (omega arith) n, n)

    in_body : (i : ℕ) → length hs ≤ i → i < length (hs ++ bs) → InBody i
    in_body i l k =
        let j : i - length hs < length bs = omega (arith, length-append hs bs) in
        let (u, e, n) = b.0.at (i - length hs) j in
        let at : i ≡ length hs + (i - length hs) = omega arith in (
          u,
          ap (λ (j : ℕ). get_or (hs ++ bs) j []) at ∙ get_or-append-add hs bs (i - length hs) [] ∙ e,
          number_few 1 2 (length bs) (i - length hs) u 32767 (omega arith) (omega arith) n,
          n,
        )

    heads_meet : (i j : ℕ) → InHead i → InHead j → get_or (hs ++ bs) i [] ≡ get_or (hs ++ bs) j [] → i ≡ j
    heads_meet i j (u, e, l, n) (v, f, k, m) q =
        let same : u ≡ v = head_same u v l k (sym e ∙ q ∙ f) in
        same_place 3 5 (length hs) i j v (omega arith) (subst (Numbered 3 5 (length hs) i) same n) m

    bodies_meet : (i j : ℕ) → InBody i → InBody j → length hs ≤ i → length hs ≤ j → get_or (hs ++ bs) i [] ≡ get_or (hs ++ bs) j [] → i ≡ j
    bodies_meet i j (u, e, l, n) (v, f, k, m) hi hj q =
        let same : u ≡ v = body_same u v l k (sym e ∙ q ∙ f) in
        omega (arith, same_place 1 2 (length bs) (i - length hs) (j - length hs) v (omega arith) (subst (Numbered 1 2 (length bs) (i - length hs)) same n) m)

    never_meet : (i j : ℕ) → InHead i → InBody j → get_or (hs ++ bs) i [] ≡ get_or (hs ++ bs) j [] → ⊥
    never_meet i j (u, e, l, n) (v, f, k, m) q = head_not_body u v l k (sym e ∙ q ∙ f)

    distinct : Distinct (hs ++ bs)
    distinct = record { differ = go }
      where
        go : (i j : ℕ) → i < length (hs ++ bs) → j < length (hs ++ bs) → get_or (hs ++ bs) i [] ≡ get_or (hs ++ bs) j [] → i ≡ j
        go i j hi hj q =
            elim (dec_lt i (length hs)) [
              | yes k ↦ elim (dec_lt j (length hs)) [
                | yes l ↦ heads_meet i j (in_head i k) (in_head j l) q
                | no l ↦ absurd (never_meet i j (in_head i k) (in_body j (omega arith) hj) q)
              ]
              | no k ↦ elim (dec_lt j (length hs)) [
                | yes l ↦ absurd (never_meet j i (in_head j l) (in_body i (omega arith) hi) (sym q))
                | no l ↦ bodies_meet i j (in_body i (omega arith) hi) (in_body j (omega arith) hj) (omega arith) (omega arith) q
              ]
            ]

-- ---- the tweaks of a record

head_end_low : (noM f : Bool) → head_end noM f ≤ 3
unfolding head_end bit
head_end_low true true = omega arith
head_end_low true false = omega arith
head_end_low false true = omega arith
head_end_low false false = omega arith

bit_low : (f : Bool) → bit f ≤ 1
unfolding bit
bit_low true = omega arith
bit_low false = omega arith

pub record Counts (nonce : List ℕ) (own : Middle) : Type 0 where
  pub tweak : (s : Chain) (x : List ℕ) → (own.seal_asks s x).tweak ≡ body_tweak nonce (s.number + 1)
  pub number : (s : Chain) (x : List ℕ) → (own.next s x).number ≡ s.number + 1

module _ (n : ℕ) (p : zero < n) (F : Fork) (nonce : List ℕ) (own : Middle) (C : Counts nonce own) where
  -- the numbers begin again behind the header
  walk_number : (m : ℕ) (noM : Bool) (s : Chain) (a : List ℕ) → (walk_from n (eevee n F nonce own) m noM s a).number ≡ 1
  unfolding walk_from eevee
  walk_number zero noM s a = refl
  walk_number (suc m) noM s a = walk_number m noM _ (drop n a)

  headed_number : (noM : Bool) (a : List ℕ) → (headed n (eevee n F nonce own) noM a).number ≡ 1
  unfolding headed walk eevee
  headed_number noM a =
      either (λ (s : Chain). s.number ≡ 1) (not noM && none (length a)) _ _ refl (walk_number (before_last n (length a)) noM _ a)

  head_row : (noM : Bool) (header : List ℕ) → length header ≤ 16380 * n → HeadRow nonce (tweaks (head_calls n (eevee n F nonce own) noM header))
  unfolding head_calls tweaks eevee
  head_row noM header h =
      let M = eevee n F nonce own in
      let m = before_last n (length header) in
      let last : Chain → List ℕ → Call = λ s x. M.head_last_asks noM (full n (length x)) s (pad n x) in
      either (λ (cs : List Call). HeadRow nonce (tweaks cs)) (not noM && none (length header)) _ _ (row_none (head_tweak nonce) 3 5, omega arith) (
        calls_row (head_tweak nonce) 3 n 4 M.head M.head_asks last (λ s x. refl)
            (λ s x. (head_end noM (full n (length x)), refl, head_end_low noM _)) (λ s x. refl) m M.start header,
        omega (arith, before_few 16380 n (length header) p (omega arith), calls_long n M.head M.head_asks last m M.start header),
      )

  -- the body's, where noM says that there is none
  body_row : (noM : Bool) (s : Chain) (body : List ℕ) → s.number ≡ 1 → length body ≤ 32767 * n
      → BodyRow nonce (tweaks (cond noM [] (body_calls n (eevee n F nonce own) s body)))
  unfolding body_calls tweaks eevee
  body_row noM s body e h =
      let M = eevee n F nonce own in
      let m = before_last n (length body) in
      let last : Chain → List ℕ → Call = λ s x. M.seal_last_asks (full n (length x)) s (pad n x) in
      let ts : List (List ℕ) = tweaks (calls_from n own.next own.seal_asks last m s body) in
      either (λ (cs : List Call). BodyRow nonce (tweaks cs)) noM _ _ (row_none (body_tweak nonce) 1 2, omega arith) (
        subst (λ (k : ℕ). Row (body_tweak nonce) 1 (k + 1) ts) e
            (calls_row (body_tweak nonce) 1 n 1 own.next own.seal_asks last C.tweak
            (λ s x. (bit (full n (length x)), refl, bit_low _)) C.number m s body),
        omega (arith, before_few 32767 n (length body) p (omega arith), calls_long n own.next own.seal_asks last m s body),
      )

  pub eevee_distinct : (header body : List ℕ) → length header ≤ 16380 * n → length body ≤ 32767 * n
      → Distinct (seal_tweaks n (eevee n F nonce own) header body)
  unfolding seal_tweaks seal_calls
  eevee_distinct header body hh hb =
      let noM = none (length body) in
      subst Distinct (sym (tweaks_append _ _))
      (distinct nonce _ _ (head_row noM header hh) (body_row noM _ body (headed_number noM header) hb))

module _ (n : ℕ) (p : zero < n) (F : Fork) (nonce header body : List ℕ) (hh : length header ≤ 16380 * n) (hb : length body ≤ 32767 * n) where
  pub umbreon_distinct : Distinct (seal_tweaks n (umbreon n F nonce) header body)
  unfolding umbreon umbreon_own
  umbreon_distinct =
      eevee_distinct n p F nonce (umbreon_own n F nonce) (record { tweak = λ s x. refl; number = λ s x. refl }) header body hh hb

  pub jolteon_distinct : Distinct (seal_tweaks n (jolteon n F nonce) header body)
  unfolding jolteon jolteon_own
  jolteon_distinct =
      eevee_distinct n p F nonce (jolteon_own n F nonce) (record { tweak = λ s x. refl; number = λ s x. refl }) header body hh hb
