-- A section that is written is read, and a section that is read was written.
--     with_count_..   of a section written in front of something: its count, that it is whole, its bytes, what stands behind it
--     written_so      a whole section of bytes is one that was written
-- Assumes nothing.
use mathlib.Core.Path.{◌≡◌, sym, ap, ◌∙◌}
use mathlib.Core.Bool.{true}
use mathlib.Core.List.{List, [], ◌∷◌, ◌++◌}
use Prim.Native.Nat.{ℕ, ◌+◌, ◌*◌, ◌/◌, ◌%◌, ◌<◌}
use native.Mathlib.Omega.{arith}
use borrow.Author.Tests.{le-leb}
use lib.ListN.{length, take, drop, get_or, length-append, length-drop, take-append-drop}
use lib.Seq.{take_at, drop_at, drop-drop, length-take-le}
use Rattle.job.specs.Sections.{count_of, whole_at, section_of, behind_of}
use Rattle.job.specs.Job.{with_count}
use Rattle.job.proofs.Wholes.{whole_long}

module _ (x rest : List ℕ) where
  pub with_count_count : count_of (with_count x ++ rest) ≡ length x
  with_count_count = omega arith

  pub with_count_whole : whole_at (with_count x ++ rest) ≡ true
  unfolding whole_at
  with_count_whole = le-leb (2 + count_of (with_count x ++ rest)) (length (with_count x ++ rest)) (omega (arith, with_count_count, length-append x rest))

  pub with_count_section : section_of (with_count x ++ rest) ≡ x
  unfolding section_of
  with_count_section = take_at x rest (count_of (with_count x ++ rest)) (sym with_count_count)

  pub with_count_behind : behind_of (with_count x ++ rest) ≡ rest
  unfolding behind_of
  with_count_behind = drop_at (with_count x) rest (2 + count_of (with_count x ++ rest)) (omega (arith, with_count_count))

-- the count of a whole section is its length
pub section_length : (s : List ℕ) → whole_at s ≡ true → length (section_of s) ≡ count_of s
unfolding section_of
section_length s w = length-take-le (count_of s) (drop 2 s) (rw (length-drop 2 s) (omega (arith, whole_long s w)))

pub behind_length : (s : List ℕ) → whole_at s ≡ true → 2 + length (section_of s) + length (behind_of s) ≡ length s
unfolding behind_of
behind_length s w = omega (arith, section_length s w, length-drop (2 + count_of s) s, whole_long s w)

-- what stands behind the two bytes of a count
parted : (h l : ℕ) (t : List ℕ) → section_of (h ∷ l ∷ t) ++ behind_of (h ∷ l ∷ t) ≡ t
unfolding section_of behind_of
parted h l t =
    let n = h * 256 + l in
    ap (λ (r : List ℕ). take n t ++ r) (sym (drop-drop n 2 (h ∷ l ∷ t))) ∙ take-append-drop n t

pub written_so : (s : List ℕ) → whole_at s ≡ true → get_or s 0 0 < 256 → get_or s 1 0 < 256 → s ≡ with_count (section_of s) ++ behind_of s
written_so [] w p q = absurd (omega (arith, whole_long [] w))
written_so (h ∷ []) w p q = absurd (omega (arith, whole_long (h ∷ []) w))
written_so (h ∷ l ∷ t) w p q =
    let s = h ∷ l ∷ t in
    let n = section_length s w in
    let high : length (section_of s) / 256 ≡ h = omega (arith, n, q) in
    let low : length (section_of s) % 256 ≡ l = omega (arith, n, q) in
    let both : section_of s ++ behind_of s ≡ t = parted h l t in
    sym (rw (high, low, both))
