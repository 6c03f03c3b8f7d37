-- The table of schemes: 1 to 7 name its rows, other numbers none; what holds of each row holds of what is named, so that it fits the
-- walks. Assumes nothing.
use mathlib.Core.Path.{◌≡◌, refl, sym, subst, ◌∙◌}
use mathlib.Core.Logic.{◌↔◌}
use mathlib.Core.List.{List, [], ◌∷◌}
use Prim.Native.Nat.{ℕ, zero, suc, ◌+◌, ◌≤◌, ◌<◌}
use native.Mathlib.Omega.{arith}
use lib.ListN.{length}
use Rattle.ciphers.specs.Ciphers.{block_of}
use Rattle.states.specs.Modes.{tail_of}
use Rattle.schemes.specs.declared.Scheme.{Scheme}
use Rattle.std.specs.Prelude.{Option, Some, None}
use Rattle.schemes.specs.Schemes.{scheme1, scheme2, scheme3, scheme4, scheme5, scheme6, scheme7, table, row, scheme_of, Under, Fits}

-- ---- what the numbers name

pub named_1 : scheme_of 1 ≡ Some scheme1
unfolding scheme_of
named_1 = refl

pub named_2 : scheme_of 2 ≡ Some scheme2
unfolding scheme_of
named_2 = refl

pub named_3 : scheme_of 3 ≡ Some scheme3
unfolding scheme_of
named_3 = refl

pub named_4 : scheme_of 4 ≡ Some scheme4
unfolding scheme_of
named_4 = refl

pub named_5 : scheme_of 5 ≡ Some scheme5
unfolding scheme_of
named_5 = refl

pub named_6 : scheme_of 6 ≡ Some scheme6
unfolding scheme_of
named_6 = refl

pub named_7 : scheme_of 7 ≡ Some scheme7
unfolding scheme_of
named_7 = refl

-- a row that is not there
no_row : (rows : List Scheme) (i : ℕ) → (row rows i ≡ None) ↔ (i < length rows → ⊥)
no_row [] i = (λ _ l. omega arith, λ _. refl)
no_row (s ∷ rows) zero = (λ e. absurd (cc), λ h. absurd (h (omega arith)))
no_row (s ∷ rows) (suc i) = let (to, from) = no_row rows i in (λ e l. to e (omega arith), λ h. from λ l. h (omega arith))

pub unnamed : (number : ℕ) → (scheme_of number ≡ None) ↔ (1 ≤ number → number ≤ 7 → ⊥)
unfolding scheme_of
unnamed zero = (λ _ l m. omega arith, λ _. refl)
unnamed (suc i) =
    let (to, from) = no_row table i in (λ e l m. to e (omega arith), λ h. from λ l. h (omega arith) (omega arith))

pub none_named : (number : ℕ) → (1 ≤ number → number ≤ 7 → ⊥) → scheme_of number ≡ None
none_named number = (unnamed number).1

-- ---- what holds of each row holds of whatever a number names

module _ (P : Scheme → Type 0) where
  -- of whatever is named, so that the number need not be looked at
  abbrev NamedSo : Option Scheme → Type 0
  NamedSo (Some s) = P s
  NamedSo None = Unit

  abbrev RowsSo : List Scheme → Type 0
  RowsSo [] = Unit
  RowsSo (s ∷ rows) = P s × RowsSo rows

  row_so : (rows : List Scheme) (i : ℕ) → RowsSo rows → NamedSo (row rows i)
  row_so [] i t = tt
  row_so (s ∷ rows) zero t = t.0
  row_so (s ∷ rows) (suc i) t = row_so rows i t.1

  all_so : (number : ℕ) → RowsSo table → NamedSo (scheme_of number)
  unfolding scheme_of
  all_so zero t = tt
  all_so (suc i) t = row_so table i t

  -- of the one that it does name
  pub of_named : (number : ℕ) (s : Scheme) → scheme_of number ≡ Some s → Under number P → P s
  of_named number s known u = subst NamedSo (sym u.1 ∙ known) u.2

  pub each_named : RowsSo table → (number : ℕ) (s : Scheme) → scheme_of number ≡ Some s → P s
  each_named rows number s e = subst NamedSo e (all_so number rows)

pub named_fits : (number : ℕ) (s : Scheme) → scheme_of number ≡ Some s → Fits s
named_fits =
    each_named Fits (
      fits scheme1 refl refl (omega arith) (omega arith),
      (
        fits scheme2 refl refl (omega arith) (omega arith),
        (
          fits scheme3 refl refl (omega arith) (omega arith),
          (
            fits scheme4 refl refl (omega arith) (omega arith),
            (
              fits scheme5 refl refl (omega arith) (omega arith),
              (
                fits scheme6 refl refl (omega arith) (omega arith),
                (fits scheme7 refl refl (omega arith) (omega arith), tt),
              ),
            ),
          ),
        ),
      ),
    )
  where
    fits : (s : Scheme) → s.key ≡ 16 → s.nonce + tail_of s.kind ≡ block_of s.cipher → s.header ≤ 16777216 → s.body ≤ 16777216 → Fits s
    fits s k n h b = record { key = k; nonce = n; header = h; body = b }
