-- Whole sections.
--     whole_long     a whole section is its count and two bytes long, or longer
--     whole_short    nothing is whole that is too short for a count
--     split_so       what the code tests and hands out
--     cut, more, first   sections in a row, by the first of them
-- Assumes nothing.
use mathlib.Core.Path.{◌≡◌, refl, ap, ◌∙◌}
use mathlib.Core.Bool.{Bool, true, false, cond, false≢true}
use mathlib.Core.List.{List, [], ◌∷◌}
use Prim.Native.Nat.{ℕ, suc, ◌+◌, ◌≤◌, ◌<◌}
use native.Mathlib.Omega.{arith}
use borrow.Author.Tests.{leb-true, lt-leb, le-leb}
use lib.ListN.{length, take, drop, length-drop}
use lib.Seq.{drop-drop}
use Rattle.std.specs.Prelude.{Option, None, Some, MatchOption}
use Rattle.std.specs.Borrow.{Bor}
use Rattle.std.specs.List.{IsSplitAt}
use Rattle.job.specs.Sections.{count_of, whole_at, section_of, behind_of, sections_of, Split}

-- ---- one section

pub whole_long : (s : List ℕ) → whole_at s ≡ true → 2 + count_of s ≤ length s
unfolding whole_at
whole_long s h = leb-true (2 + count_of s) (length s) h

pub whole_short : (s : List ℕ) → length s < 2 → whole_at s ≡ false
unfolding whole_at
whole_short s h = lt-leb (2 + count_of s) (length s) (omega arith)

-- the count that is read at the front
count_so : (s : List ℕ) → 2 ≤ length s → count_of (take 2 s) ≡ count_of s
count_so [] h = absurd (omega arith)
count_so (x ∷ []) h = absurd (omega arith)
count_so (x ∷ y ∷ t) h = refl

module _ (s : List ℕ) {front rest : List ℕ} {n : ℕ} (two : 2 ≤ length s) (is_front : front ≡ take 2 s) (is_rest : rest ≡ drop 2 s) (read : n ≡ count_of front) where
  counted : n ≡ count_of s
  counted = read ∙ ap count_of is_front ∙ count_so s two

  pub split_so : (o : Option (Bor (List ℕ) × Bor (List ℕ)))
      → MatchOption o (length rest < n) (λ p. IsSplitAt rest n p.0.now p.1.now)
      → MatchOption o (whole_at s ≡ false) (λ p. Split s p.0.now p.1.now)
  unfolding whole_at section_of behind_of
  split_so None short = lt-leb (2 + count_of s) (length s) (omega (arith, counted, length-drop 2 s, ap length is_rest))
  split_so (Some p) h =
      let fits : 2 + count_of s ≤ length s = omega (arith, counted, length-drop 2 s, ap length is_rest, h) in
      record {
        whole = le-leb (2 + count_of s) (length s) fits;
        front_is = h.1 ∙ rw (counted, is_rest);
        rest_is = h.2 ∙ rw (counted, is_rest, drop-drop);
      }

-- ---- sections in a row

pub cut : (k : ℕ) (s : List ℕ) → whole_at s ≡ false → sections_of (suc k) s ≡ false
unfolding sections_of
cut k s e = rw e

pub more : (k : ℕ) (s : List ℕ) → whole_at s ≡ true → sections_of (suc k) s ≡ sections_of k (behind_of s)
unfolding sections_of
more k s e = rw e

both : (b c : Bool) → cond b c false ≡ true → (b ≡ true) × (c ≡ true)
both true c h = (refl, h)
both false c h = absurd (false≢true h)

pub first : (k : ℕ) (s : List ℕ) → sections_of (suc k) s ≡ true → (whole_at s ≡ true) × (sections_of k (behind_of s) ≡ true)
unfolding sections_of
first k s h = both (whole_at s) (sections_of k (behind_of s)) h
