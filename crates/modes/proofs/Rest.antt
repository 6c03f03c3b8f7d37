-- The equations that a loop follows, with no count of blocks in them: a header, a body or a run ends here, or goes on for a
-- block; and how a whole one begins. Assumes nothing.
use mathlib.Core.Path.{◌≡◌, refl, sym, ap, ◌∙◌}
use Prim.Native.Nat.{ℕ, zero, suc, ◌+◌, ◌-◌, ◌*◌, ◌/◌, ◌%◌, ◌≤◌, ◌<◌}
use native.Mathlib.Nat.{suc-mul, div-eq_of_lt, div-eq-sub-div, le-div_iff_mul-le, div-add-mod', mod-lt}
use native.Mathlib.Numerals.{add-one}
use native.Mathlib.Omega.{arith}
use mathlib.Core.Bool.{Bool, true, false}
use mathlib.Core.List.{List, [], ◌++◌}
use lib.ListN.{length, take, drop, length-drop}
use borrow.Author.Tests.{eq-eqb, ne_eqb}
use Rattle.modes.specs.Blocks.{before_last, full, pad, same}
use Rattle.modes.specs.Mode.{Mode, before, walk_from, walk, headed}
use Rattle.modes.specs.Mode.{seal_last, seal_from, seal_rest, seal_run, open_last, open_from, open_rest, open_run}

-- ---- how many blocks before the last: for the equations below, and for induction

pub before_last_none : (n l : ℕ) → zero < n → l ≤ n → before_last n l ≡ 0
unfolding before_last
before_last_none n l p h = div-eq_of_lt (omega arith)

pub before_last_more : (n l : ℕ) → zero < n → n < l → before_last n l ≡ suc (before_last n (l - n))
unfolding before_last
before_last_more n l p h =
    let e : l - 1 - n ≡ l - n - 1 = omega arith in
    div-eq-sub-div p (omega arith) ∙ add-one ((l - 1 - n) / n) ∙ ap (λ (k : ℕ). suc (k / n)) e

-- the bytes of the last block
pub before_last_cut : (n l : ℕ) → zero < n → zero < l → (r : ℕ) × (l ≡ before_last n l * n + r) × (zero < r) × (r ≤ n)
unfolding before_last
before_last_cut n l p h =
    let q : (l - 1) / n * n + (l - 1) % n ≡ l - 1 = div-add-mod' (l - 1) n in
    let k : (l - 1) % n < n = mod-lt (l - 1) p in
    (suc ((l - 1) % n), omega arith, omega arith, omega arith)

-- k whole blocks and more: k stand before the last one
pub before_last_of : (n k l : ℕ) → zero < n → k * n < l → k ≤ before_last n l
unfolding before_last
before_last_of n k l p h = (le-div_iff_mul-le p).1 (omega arith)

-- block k is not the last: behind it there is more
pub before_last_behind : (n k l : ℕ) → zero < n → k < before_last n l → suc k * n < l
unfolding before_last
before_last_behind n k l p h =
    let q : suc k * n ≤ l - 1 = (le-div_iff_mul-le p).0 h in
    omega (arith, suc-mul k n)

module _ {St : Type 0} (n : ℕ) (M : Mode St) (p : zero < n) where
  -- ---- the last block, or one more

  pub walk_last : (noM : Bool) (s : St) (a : List ℕ) → length a ≤ n → walk n M noM s a ≡ M.head_last noM (full n (length a)) s (pad n a)
  unfolding walk walk_from
  walk_last noM s a h = ap (λ (m : ℕ). walk_from n M m noM s a) (before_last_none n (length a) p h)

  pub walk_more : (noM : Bool) (s : St) (a : List ℕ) → n < length a → walk n M noM s a ≡ walk n M noM (M.head s (take n a)) (drop n a)
  unfolding walk walk_from
  walk_more noM s a h =
      ap (λ (m : ℕ). walk_from n M m noM s a) (before_last_more n (length a) p h)
      ∙ ap (λ (l : ℕ). walk_from n M (suc (before_last n l)) noM s a) (sym (length-drop n a))

  pub seal_rest_last : (s : St) (b : List ℕ) → length b ≤ n → seal_rest n M s b ≡ seal_last n M s b
  unfolding seal_rest seal_from
  seal_rest_last s b h = ap (λ (m : ℕ). seal_from n M m s b) (before_last_none n (length b) p h)

  pub seal_rest_more : (s : St) (b : List ℕ) → n < length b
      → seal_rest n M s b ≡ M.out s (take n b) ++ seal_rest n M (M.next s (take n b)) (drop n b)
  unfolding seal_rest seal_from
  seal_rest_more s b h =
      ap (λ (m : ℕ). seal_from n M m s b) (before_last_more n (length b) p h)
      ∙ ap (λ (l : ℕ). seal_from n M (suc (before_last n l)) s b) (sym (length-drop n b))

  pub open_rest_last : (s : St) (c : List ℕ) → length c ≤ n + n → open_rest n M s c ≡ open_last n M s c
  unfolding open_rest open_from
  open_rest_last s c h = ap (λ (m : ℕ). open_from n M m s c) (before_last_none n (length c - n) p (omega arith))

  pub open_rest_more : (s : St) (c : List ℕ) → n + n < length c
      → open_rest n M s c ≡ before (M.back s (take n c)) (open_rest n M (M.back_next s (take n c)) (drop n c))
  unfolding open_rest open_from
  open_rest_more s c h =
      ap (λ (m : ℕ). open_from n M m s c) (before_last_more n (length c - n) p (omega arith))
      ∙ ap (λ (l : ℕ). open_from n M (suc (before_last n (l - n))) s c) (sym (length-drop n c))

module _ {St : Type 0} (n : ℕ) (M : Mode St) where
  -- ---- a whole header, body or run

  pub headed_skip : (a : List ℕ) → length a ≡ 0 → headed n M false a ≡ M.start
  unfolding headed
  headed_skip a h = simp (eq-eqb (length a) 0 h)

  pub headed_none : (a : List ℕ) → headed n M true a ≡ walk n M true M.start a
  unfolding headed
  headed_none a = refl

  pub headed_some : (noM : Bool) (a : List ℕ) → 0 < length a → headed n M noM a ≡ walk n M noM M.start a
  unfolding headed
  headed_some true a h = refl
  headed_some false a h = simp (ne_eqb (length a) 0 (omega arith))

  pub seal_run_empty : (h b : List ℕ) → length b ≡ 0 → seal_run n M h b ≡ M.alone (headed n M true h)
  unfolding seal_run
  seal_run_empty h b e = simp (eq-eqb (length b) 0 e)

  pub seal_run_rest : (h b : List ℕ) → 0 < length b → seal_run n M h b ≡ seal_rest n M (headed n M false h) b
  unfolding seal_run
  seal_run_rest h b e = simp (ne_eqb (length b) 0 (omega arith))

  pub open_run_empty : (h c : List ℕ) → length c ≡ n
      → open_run n M h c ≡ record { authentic = same c (M.alone (headed n M true h)); body = [] }
  unfolding open_run
  open_run_empty h c e = simp (eq-eqb (length c) n e)

  pub open_run_rest : (h c : List ℕ) → n < length c → open_run n M h c ≡ open_rest n M (headed n M false h) c
  unfolding open_run
  open_run_rest h c e = simp (ne_eqb (length c) n (omega arith))
