-- What the code that lays round keys keeps, over the width and the number of words: two keys more, sixteen more, and behind the
-- first row all to the round at which the tweak's word stands. Assumes nothing.
use mathlib.Core.Path.{◌≡◌, refl, sym, ap, ap₂, ◌∙◌, subst, subst⁻¹}
use Prim.Native.Nat.{ℕ, zero, suc, ◌+◌, ◌*◌, ◌-◌, ◌/◌, ◌<◌, ◌≤◌}
use mathlib.Core.List.{List, []}
use mathlib.Core.Logic.{◌≢◌}
use native.Mathlib.Decide.{dec_lt}
use native.Mathlib.Numerals.{add-one}
use native.Mathlib.Omega.{arith}
use borrow.Author.Count.{below_none, below_more}
use lib.Dec.{T, ltb, ltb→lt}
use lib.ListN.{length, get_or, set, length-set}
use lib.Seq.{get_or-set_same, get_or-set_other}
use Rattle.cells.specs.Cells.{Width, Words}
use Rattle.schedule.specs.declared.Tweakey.{Tweakey}
use Rattle.schedule.specs.declared.Moving.{Moving}
use Rattle.constants.specs.Constants.{constant, constant_row, Room}
use Rattle.schedule.specs.Schedule.{key_row, round_key, advance, xor_row, RoundKeys}
use Rattle.schedule.specs.Sixteen.{moved, row_laid, pair_laid, Laid}
use Rattle.schedule.specs.Share.{tweak_step, Parts, Summed, Along, Turn}
use Rattle.schedule.proofs.Places.{advance_at, advance_add}
use Rattle.schedule.proofs.Share.{first_row, along_first, along_sums, along_more}
use Rattle.schedule.proofs.Sixteen.{Sums, first_key, second_key}

-- the key of round r, counted from the tweakey t
abbrev key_at : Width → Words → Tweakey → ℕ → List ℕ
key_at w n t r = round_key n (advance w n r t).cells

-- ---- sixteen keys

laid_none : {w : Width} {n : Words} {t : Tweakey} {keys : List (List ℕ)} → Laid w n t 0 keys keys
laid_none = record { long = refl; front = λ r h. refl; rows = below_none _; behind = λ r h. refl }

laid_more
    : {w : Width} {n : Words} {t : Tweakey} {b : ℕ} {x : List ℕ} {before keys : List (List ℕ)} (i : ℕ)
    → i ≡ t.at + b + 1 → Laid w n t b before keys → i < length before → x ≡ key_at w n t (b + 1) → Laid w n t (b + 1) before (row_laid i x keys)
laid_more {w} {n} {t} {b} {x} {before} {keys} i q s h e = record {
  long = length-set keys i laid ∙ s.long;
  front = λ r p. other r (λ o. omega arith) ∙ s.front r p;
  rows = below_more (λ (k : ℕ). get_or (row_laid i x keys) (t.at + k + 1) [] ≡ xor_row (get_or before (t.at + k + 1) []) (key_at w n t (k + 1))) b
      (λ k p. other (t.at + k + 1) (λ o. omega arith) ∙ s.rows k p)
      (subst (λ (j : ℕ). get_or (row_laid i x keys) j [] ≡ xor_row (get_or before j []) (key_at w n t (b + 1))) q
      (get_or-set_same keys i laid [] (omega (arith, s.long)) ∙ ap₂ xor_row (s.behind i (omega arith)) e));
  behind = λ r p. other r (λ o. omega arith) ∙ s.behind r (omega arith);
} where
  laid : List ℕ
  laid = xor_row (get_or keys i []) x

  other : (r : ℕ) → r ≢ i → get_or (row_laid i x keys) r [] ≡ get_or keys r []
  other r = get_or-set_other keys i r laid []

-- what the eight calls of `lay_two` do
abbrev pub LaidTwo : ℕ → List (List ℕ) → ℕ → List (List ℕ) → List (List ℕ) → Type 0
LaidTwo at sums k keys keys' = keys' ≡ pair_laid (at + 2 * k + 1) (moved (k + 1) (get_or sums k [])) keys

laid_two
    : {w : Width} {n : Words} {t : Tweakey} {at : ℕ} {sums before keys keys' : List (List ℕ)} (k : ℕ)
    → Sums w n t.cells sums → (t.at ≡ at) × (at + 16 < length before)
    → T (ltb k 8) → Laid w n t (2 * k) before keys → LaidTwo at sums k keys keys' → Laid w n t (2 * (k + 1)) before keys'
laid_two {w} {n} {t} {at} {sums} {before} {keys} {keys'} k s (q, h) p r e =
    let l = ltb→lt k 8 p in
    let two : 2 * k + 1 + 1 ≡ 2 * (k + 1) = omega arith in
    let i = at + 2 * k + 1 in
    let last : 2 * k + 2 ≡ 2 * k + 1 + 1 = omega arith in
    subst (λ (b : ℕ). Laid w n t b before keys') two
    (subst⁻¹ (Laid w n t (2 * k + 1 + 1) before) e
    (laid_more (i + 1) (omega arith) (laid_more i (omega arith) r (omega arith) (first_key w t s k l)) (omega arith)
    (second_key w t s k l ∙ ap (key_at w n t) last)))

laid_sixteen
    : {w : Width} {n : Words} {t : Tweakey} {at : ℕ} {sums k₀ k₁ k₂ k₃ k₄ k₅ k₆ k₇ k₈ : List (List ℕ)}
    → Sums w n t.cells sums → (t.at ≡ at) × (at + 16 < length k₀)
    → LaidTwo at sums 0 k₀ k₁ → LaidTwo at sums 1 k₁ k₂ → LaidTwo at sums 2 k₂ k₃ → LaidTwo at sums 3 k₃ k₄
    → LaidTwo at sums 4 k₄ k₅ → LaidTwo at sums 5 k₅ k₆ → LaidTwo at sums 6 k₆ k₇ → LaidTwo at sums 7 k₇ k₈ → Laid w n t 16 k₀ k₈
laid_sixteen s h e₀ e₁ e₂ e₃ e₄ e₅ e₆ e₇ =
    let four = laid_two 3 s h tt (laid_two 2 s h tt (laid_two 1 s h tt (laid_two 0 s h tt laid_none e₀) e₁) e₂) e₃ in
    laid_two 7 s h tt (laid_two 6 s h tt (laid_two 5 s h tt (laid_two 4 s h tt four e₄) e₅) e₆) e₇

-- a turn is the tweak's steps and these calls
pub turn
    : {w : Width} {n : Words} {u v : Moving} {share : List ℕ} {sums k₀ k₁ k₂ k₃ k₄ k₅ k₆ k₇ k₈ : List (List ℕ)}
    → (u.at < 81) × (length k₀ ≡ 97) → v.at ≡ u.at + 16 → Summed (tweak_step w n) (u.at / 2 + 1) share u.cells v.cells sums
    → LaidTwo u.at sums 0 k₀ k₁ → LaidTwo u.at sums 1 k₁ k₂ → LaidTwo u.at sums 2 k₂ k₃ → LaidTwo u.at sums 3 k₃ k₄
    → LaidTwo u.at sums 4 k₄ k₅ → LaidTwo u.at sums 5 k₅ k₆ → LaidTwo u.at sums 6 k₆ k₇ → LaidTwo u.at sums 7 k₇ k₈
    → Turn w n share u v k₀ k₈
turn {u = u} {sums = sums} {k₀} {k₁} {k₂} {k₃} {k₄} {k₅} {k₆} {k₇} {k₈} (h, l) e s e₀ e₁ e₂ e₃ e₄ e₅ e₆ e₇ = record {
  on = e;
  long = two 7 k₇ k₈ e₇ ∙ two 6 k₆ k₇ e₆ ∙ two 5 k₅ k₆ e₅ ∙ two 4 k₄ k₅ e₄ ∙ two 3 k₃ k₄ e₃ ∙ two 2 k₂ k₃ e₂ ∙ two 1 k₁ k₂ e₁ ∙ two 0 k₀ k₁ e₀;
  led = λ t a. (along_more a e s, laid_sixteen (along_sums h a s) (a.here, omega arith) e₀ e₁ e₂ e₃ e₄ e₅ e₆ e₇);
} where
  two : (k : ℕ) (keys keys' : List (List ℕ)) → LaidTwo u.at sums k keys keys' → length keys' ≡ length keys
  two k keys keys' q = let i = u.at + 2 * k + 1 in ap length q ∙ length-set (set keys i _) (i + 1) _ ∙ length-set keys i _

-- ---- all keys

-- first the keys of a rounds, then those of b more
laid_on
    : {w : Width} {n : Words} {t : Tweakey} {a b : ℕ} {before keys keys' : List (List ℕ)}
    → Laid w n t a before keys → Laid w n (advance w n a t) b keys keys' → Laid w n t (a + b) before keys'
laid_on {w} {n} {t} {a} {b} {before} {keys} {keys'} s l = record {
  long = l.long ∙ s.long;
  front = λ r p. l.front r (omega (arith, here)) ∙ s.front r p;
  rows = λ k p. elim (dec_lt k a) [
    | yes h ↦ l.front (t.at + k + 1) (omega (arith, here)) ∙ s.rows k h
    | no h ↦ let j = k - a in
        let r : u.at + j + 1 ≡ t.at + k + 1 = omega (arith, here) in
        let m : a + (j + 1) ≡ k + 1 = omega arith in
        subst (λ (i : ℕ). get_or keys' i [] ≡ xor_row (get_or before i []) (key_at w n t (k + 1))) r
        (l.rows j (omega arith)
        ∙ ap₂ xor_row (s.behind (u.at + j + 1) (omega (arith, here)))
        (ap (λ (x : Tweakey). round_key n x.cells) (advance_add w n a (j + 1) t) ∙ ap (key_at w n t) m))
  ];
  behind = λ r p. l.behind r (omega (arith, here)) ∙ s.behind r (omega arith);
} where
  u : Tweakey
  u = advance w n a t

  here : u.at ≡ t.at + a
  here = advance_at w n a t

-- after i turns of sixteen rounds u has gone on by them; of a tweakey whose parts the share and the tweak are, the keys of the rounds to there
-- are laid, but for the first
pub record Keys (w : Width) (n : Words) (share tweak : List ℕ) (before : List (List ℕ)) (i : ℕ) (u : Moving) (keys : List (List ℕ)) : Type 0
  where
    pub on : u.at ≡ 16 * i
    pub long : length keys ≡ length before
    pub led : (t : Tweakey) → Parts w n t share tweak → Along w n (advance w n u.at t) share u × Laid w n t u.at before keys

-- before the first turn
pub keys_none
    : (w : Width) (n : Words) (share tweak : List ℕ) (keys : List (List ℕ)) → Keys w n share tweak keys 0 (record { cells = tweak; at = 0 }) keys
unfolding advance
keys_none w n share tweak keys = record { on = refl; long = refl; led = λ t p. (along_first p, laid_none) }

module _ {w : Width} {n : Words} {share tweak : List ℕ} {before keys : List (List ℕ)} {i : ℕ} {u : Moving} (s : Keys w n share tweak before i u keys) where
  -- a turn
  pub keys_more : {v : Moving} {keys' : List (List ℕ)} → Turn w n share u v keys keys' → Keys w n share tweak before (i + 1) v keys'
  keys_more {v} {keys'} e = record {
    on = omega (arith, s.on, e.on);
    long = e.long ∙ s.long;
    led = λ t p.
        let (a, l) = s.led t p in
        let (b, k) = e.led (advance w n u.at t) a in (
          subst (λ (x : Tweakey). Along w n x share v) (advance_add w n u.at 16 t ∙ ap (λ (m : ℕ). advance w n m t) (sym e.on)) b,
          subst⁻¹ (λ (m : ℕ). Laid w n t m before keys') e.on (laid_on l k),
        );
  }

  -- the first key, behind the loop
  pub keys_long : {m : ℕ} {keys' : List (List ℕ)} → (m ≤ 87) × Room before → keys' ≡ row_laid 0 (xor_row share tweak) keys → length keys' ≡ 97
  keys_long (fit, room) e = ap length e ∙ length-set keys 0 (xor_row (get_or keys 0 []) (xor_row share tweak)) ∙ s.long ∙ room.long

  pub keys_all
      : {m : ℕ} {keys' : List (List ℕ)}
      → (m ≤ 87) × Room before → m ≤ u.at + 1 → keys' ≡ row_laid 0 (xor_row share tweak) keys
      → (t : Tweakey) → Parts w n t share tweak → RoundKeys w n m t keys'
  unfolding round_key advance
  keys_all {m} {keys'} (fit, room) h e t p = record {
    first = p.first;
    low = p.low;
    at = λ k q. ap (λ (l : List (List ℕ)). get_or l k []) (e ∙ ap (λ (r : List ℕ). row_laid 0 r keys) (first_row p)) ∙ laid k q;
  } where
    l : Laid w n t u.at before keys
    l = (s.led t p).1

    first : List ℕ
    first = key_row n t.cells

    row : List ℕ
    row = xor_row (get_or keys 0 []) first

    laid : (k : ℕ) → k < m → get_or (row_laid 0 first keys) k [] ≡ xor_row (constant_row (constant k)) (key_at w n t k)
    laid zero q =
        get_or-set_same keys 0 row [] (omega (arith, s.long, room.long))
        ∙ ap (λ (c : List ℕ). xor_row c first) (l.front 0 (omega arith) ∙ room.at 0 (omega arith))
    laid (suc k) q =
        let i : t.at + k + 1 ≡ suc k = omega (arith, p.first) in
        get_or-set_other keys 0 (suc k) row [] (λ z. omega arith)
        ∙ subst (λ (j : ℕ). get_or keys j [] ≡ xor_row (get_or before j []) (key_at w n t (k + 1))) i (l.rows k (omega arith))
        ∙ ap₂ xor_row (room.at (suc k) (omega arith)) (ap (key_at w n t) (add-one k))
