-- The rounds that a rule runs are the formula: for every mode whose calls cost the same from block to block, the sum over the list of its
-- block calls is `rounds_by` of the lengths of header and body alone; and all our modes are such.
--     seal_total, open_total   the sum, of a record that is sealed and of a run that is opened
--     rounds_flat              the formula where the last block costs what the others do
--     rounds_few               up to 2^24 bytes each of header and body it is at most 2^29
-- Assumes nothing.
use mathlib.Core.Path.{◌≡◌, refl, sym, ap, ◌∙◌}
use Prim.Native.Nat.{ℕ, zero, suc, ◌+◌, ◌-◌, ◌*◌, ◌≤◌, ◌<◌}
use native.Mathlib.Nat.{suc-mul, div-lt_iff_lt-mul, mul-le-mul}
use native.Mathlib.Omega.{arith}
use native.Mathlib.Decide.{dec_lt}
use mathlib.Core.Bool.{Bool, true, false, not, ◌&&◌, cond}
use mathlib.Core.List.{List, [], ◌∷◌, ◌++◌}
use lib.Dec.{eqb}
use lib.ListN.{length, take, drop}
use borrow.Author.Tests.{eqb-true, eq-eqb, ne_eqb}
use Rattle.modes.specs.Blocks.{before_last, none}
use Rattle.modes.specs.Forkcipher.{Fork, Want, half0, both_halves, input_back, both_back, Call}
use Rattle.modes.specs.Mode.{Mode}
use Rattle.modes.specs.Paef.{sum_asks, paef}
use Rattle.modes.specs.Saef.{mask_asks, saef}
use Rattle.modes.specs.Eevee.{eevee}
use Rattle.modes.specs.Jolteon.{jolteon_own, jolteon}
use Rattle.modes.specs.Umbreon.{umbreon_own, umbreon}
use Rattle.modes.specs.Rounds.{calls_from, head_calls, body_calls, run_calls, seal_calls, open_calls}
use Rattle.modes.specs.Rounds.{total, blocks, head_blocks, rounds_by}
use Rattle.cells.proofs.Choice.{either}
use Rattle.modes.proofs.Rest.{before_last_none}

-- a header block costs h, a body block that is not the last b, and the last one l
pub record Priced {St : Type 0} (cost : Want → ℕ) (M : Mode St) (h b l : ℕ) : Type 0 where
  pub head : (s : St) (x : List ℕ) → cost (M.head_asks s x).want ≡ h
  pub head_last : (noM full : Bool) (s : St) (x : List ℕ) → cost (M.head_last_asks noM full s x).want ≡ h
  pub seal_more : (s : St) (x : List ℕ) → cost (M.seal_asks s x).want ≡ b
  pub seal_last : (full : Bool) (s : St) (x : List ℕ) → cost (M.seal_last_asks full s x).want ≡ l
  pub open_more : (s : St) (x : List ℕ) → cost (M.open_asks s x).want ≡ b
  pub open_last : (full : Bool) (s : St) (x : List ℕ) → cost (M.open_last_asks full s x).want ≡ l

-- ---- the sum

total_append : (cost : Want → ℕ) (cs ds : List Call) → total cost (cs ++ ds) ≡ total cost cs + total cost ds
unfolding total
total_append cost [] ds = omega arith
total_append cost (c ∷ cs) ds = omega (arith, total_append cost cs ds)

-- m blocks that cost b, and the last
module _ {St : Type 0} (cost : Want → ℕ) (n b l : ℕ) (step : St → List ℕ → St) (more last : St → List ℕ → Call)
    (hm : (s : St) (x : List ℕ) → cost (more s x).want ≡ b) (hl : (s : St) (x : List ℕ) → cost (last s x).want ≡ l) where
  from_total : (m : ℕ) (s : St) (x : List ℕ) → total cost (calls_from n step more last m s x) ≡ m * b + l
  unfolding calls_from total
  from_total zero s x = omega (arith, hl s x)
  from_total (suc m) s x = omega (arith, hm s (take n x), from_total m (step s (take n x)) (drop n x), suc-mul m b)

-- m blocks and the last, of one cost; e says that there are none
pub flat : (e : Bool) (m b : ℕ) → cond e 0 (m * b + b) ≡ cond e 0 (m + 1) * b
flat true m b = omega arith
flat false m b = omega (arith, suc-mul m b)

-- those of a header, where e says that it is empty, and noM that the body is
head_flat : (cost : Want → ℕ) (noM e : Bool) (cs : List Call) (m h : ℕ) → (e ≡ true → m ≡ 0) → total cost cs ≡ m * h + h
    → total cost (cond (not noM && e) [] cs) ≡ cond (noM && e) 1 (cond e 0 (m + 1)) * h
unfolding total
head_flat cost true true cs m h z t = t ∙ ap (λ (k : ℕ). k * h + h) (z refl) ∙ flat false 0 h
head_flat cost true false cs m h z t = t ∙ flat false m h
head_flat cost false true cs m h z t = omega arith
head_flat cost false false cs m h z t = t ∙ flat false m h

-- a run of one block has an empty body
none_behind : (n k : ℕ) → n ≤ k → none (k - n) ≡ eqb k n
none_behind n k h =
    elim (dec_lt n k) [
      | yes l ↦ ne_eqb (k - n) 0 (omega arith) ∙ sym (ne_eqb k n (omega arith))
      | no l ↦ eq-eqb (k - n) 0 (omega arith) ∙ sym (eq-eqb k n (omega arith))
    ]

module _ {St : Type 0} {cost : Want → ℕ} {M : Mode St} {h b l : ℕ} (n : ℕ) (P : Priced cost M h b l) (p : zero < n) where
  head_total : (noM : Bool) (a : List ℕ) → total cost (head_calls n M noM a) ≡ cond (noM && none (length a)) 1 (blocks n (length a)) * h
  unfolding head_calls blocks
  head_total noM a =
      head_flat cost noM (none (length a)) _ (before_last n (length a)) h
      (λ e. before_last_none n (length a) p (omega (arith, eqb-true (length a) 0 e)))
      (from_total cost n h h M.head M.head_asks _ P.head (λ s x. P.head_last noM _ s _) (before_last n (length a)) M.start a)

  -- header and body, where noM says that the body is empty; if it is not, its calls are cs
  both_total : (noM : Bool) (header : List ℕ) (cs : List Call) (k : ℕ) → total cost cs ≡ k
      → total cost (head_calls n M noM header ++ cond noM [] cs)
      ≡ cond (noM && none (length header)) 1 (blocks n (length header)) * h + cond noM 0 k
  unfolding total
  both_total true header cs k e = omega (arith, total_append cost (head_calls n M true header) [], head_total true header)
  both_total false header cs k e = omega (arith, total_append cost (head_calls n M false header) cs, head_total false header)

  pub seal_total : (header body : List ℕ) → total cost (seal_calls n M header body) ≡ rounds_by n h b l (length header) (length body)
  unfolding seal_calls body_calls rounds_by head_blocks
  seal_total header body =
      both_total (none (length body)) header _ _
      (from_total cost n b l M.next M.seal_asks _ P.seal_more (λ s x. P.seal_last _ s _) (before_last n (length body)) _ body)

  pub open_total : (header run : List ℕ) → n ≤ length run
      → total cost (open_calls n M header run) ≡ rounds_by n h b l (length header) (length run - n)
  unfolding open_calls run_calls rounds_by head_blocks
  open_total header run k =
      rw (none_behind n (length run) k)
      (both_total (eqb (length run) n) header _ _
      (from_total cost n b l M.back_next M.open_asks _ P.open_more (λ s x. P.open_last _ s _) (before_last n (length run - n)) _ run))

-- ---- the modes: an opened block costs what a sealed one does, where the input alone costs what half 0 does, and both results what both halves

module _ (n : ℕ) (F : Fork) (nonce : List ℕ) (cost : Want → ℕ) (back : cost both_back ≡ cost both_halves) where
  pub paef_priced : Priced cost (paef n F nonce) (cost half0) (cost both_halves) (cost both_halves)
  unfolding paef sum_asks
  paef_priced = record {
    head = λ s x. refl;
    head_last = λ noM full s x. refl;
    seal_more = λ s x. refl;
    seal_last = λ full s x. refl;
    open_more = λ s x. back;
    open_last = λ full s x. back;
  }

  pub saef_priced : Priced cost (saef n F nonce) (cost half0) (cost both_halves) (cost both_halves)
  unfolding saef mask_asks
  saef_priced = record {
    head = λ s x. refl;
    head_last = λ noM full s x. refl;
    seal_more = λ s x. refl;
    seal_last = λ full s x. refl;
    open_more = λ s x. back;
    open_last = λ full s x. back;
  }

  pub umbreon_priced : Priced cost (umbreon n F nonce) (cost half0) (cost both_halves) (cost both_halves)
  unfolding umbreon umbreon_own eevee
  umbreon_priced = record {
    head = λ s x. refl;
    head_last = λ noM full s x. refl;
    seal_more = λ s x. refl;
    seal_last = λ full s x. refl;
    open_more = λ s x. back;
    open_last = λ full s x. back;
  }

  pub jolteon_priced : cost input_back ≡ cost half0 → Priced cost (jolteon n F nonce) (cost half0) (cost half0) (cost both_halves)
  unfolding jolteon jolteon_own eevee
  jolteon_priced input = record {
    head = λ s x. refl;
    head_last = λ noM full s x. refl;
    seal_more = λ s x. refl;
    seal_last = λ full s x. refl;
    open_more = λ s x. input;
    open_last = λ full s x. back;
  }

-- ---- the formula

pub rounds_flat : (n h b header body : ℕ) → rounds_by n h b b header body ≡ head_blocks n header body * h + blocks n body * b
unfolding rounds_by blocks
rounds_flat n h b header body = ap (λ (k : ℕ). head_blocks n header body * h + k) (flat (none body) (before_last n body) b)

-- how large its parts become, for up to 2^24 bytes in blocks of eight bytes or more
module _ (n : ℕ) (wide : 8 ≤ n) where
  pub before_last_few : (k : ℕ) → k ≤ 16777216 → before_last n k ≤ 2097151
  unfolding before_last
  before_last_few k h = omega (arith, (div-lt_iff_lt-mul {k = n} {x = k - 1} {y = 2097152} (omega arith)).1 (omega arith))

  pub blocks_few : (k : ℕ) → k ≤ 16777216 → blocks n k ≤ 2097152
  unfolding blocks
  blocks_few k h = either (λ (m : ℕ). m ≤ 2097152) (none k) 0 (before_last n k + 1) (omega arith) (omega (arith, before_last_few k h))

  pub head_blocks_few : (header body : ℕ) → header ≤ 16777216 → head_blocks n header body ≤ 2097152
  unfolding head_blocks
  head_blocks_few header body h =
      either (λ (m : ℕ). m ≤ 2097152) (none body && none header) 1 (blocks n header) (omega arith) (blocks_few header h)

  pub rounds_few : (h b l header body : ℕ) → h ≤ 128 → b ≤ 128 → l ≤ 128 → header ≤ 16777216 → body ≤ 16777216
      → rounds_by n h b l header body ≤ 536870912
  unfolding rounds_by
  rounds_few h b l header body hh hb hl ha hm =
      let a : head_blocks n header body * h ≤ 2097152 * 128 = mul-le-mul (head_blocks_few header body ha) hh in
      let m : before_last n body * b ≤ 2097151 * 128 = mul-le-mul (before_last_few body hm) hb in
      omega (
        arith,
        either (λ (k : ℕ). k ≤ 2097152 * 128) (none body) 0 (before_last n body * b + l) (omega arith) (omega arith),
      )
