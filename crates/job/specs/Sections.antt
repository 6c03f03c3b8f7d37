-- Sections: each stands behind its two-byte count, the high byte first (01, The desk's program). Assumes nothing.
use Rattle.std.specs.Prelude.{◌≡◌, ℕ, zero, suc, ◌+◌, ◌*◌, Bool, true, false, cond, List, eqb, leb, length, take, drop, get_or}

-- ---- the first section

abbrev pub count_of : List ℕ → ℕ
count_of s = get_or s 0 0 * 256 + get_or s 1 0

-- it is there in full
unfoldable pub whole_at : List ℕ → Bool
whole_at s = leb (2 + count_of s) (length s)

unfoldable pub section_of : List ℕ → List ℕ
section_of s = take (count_of s) (drop 2 s)

unfoldable pub behind_of : List ℕ → List ℕ
behind_of s = drop (2 + count_of s) s

-- s in two: the section at its front, in full, and what stands behind it
pub record Split (s front rest : List ℕ) : Type 0 where
  pub whole : whole_at s ≡ true
  pub front_is : front ≡ section_of s
  pub rest_is : rest ≡ behind_of s

-- ---- all of them

-- k sections in full, and nothing left over
unfoldable pub sections_of : ℕ → List ℕ → Bool
sections_of zero s = eqb (length s) 0
sections_of (suc k) s = cond (whole_at s) (sections_of k (behind_of s)) false
