-- A call by a number that names a scheme is the call under it; and what is told by what the checks answered. Assumes nothing.
use mathlib.Core.Path.{◌≡◌, refl, sym, ap, ◌∙◌}
use Prim.Native.Nat.{ℕ, zero, suc}
use native.Mathlib.Omega.{arith}
use mathlib.Core.List.{List}
use Rattle.schemes.specs.declared.Scheme.{Scheme}
use Rattle.std.specs.Prelude.{Option, Some}
use Rattle.schemes.specs.Schemes.{scheme_of}
use Rattle.sealing.specs.Calls.{Told, refused, passed, under, seal_under, open_under, seal_of, open_of}

-- ---- the calls by a number that names a scheme

pub known_under : (f : Scheme → Told) (room : List ℕ) {m : Option Scheme} {s : Scheme} → m ≡ Some s → under m f room ≡ f s
known_under f room = ap (λ (m : Option Scheme). under m f room)

-- what is told under the scheme that is named
pub by_name : (f : Scheme → Told) (room : List ℕ) {m : Option Scheme} {s : Scheme} {t t' : Told} → m ≡ Some s → t' ≡ f s → t ≡ t' → t ≡ under m f room
by_name f room named e h = h ∙ e ∙ sym (known_under f room named)

module _ (number : ℕ) (s : Scheme) (known : scheme_of number ≡ Some s) (key nonce header input room : List ℕ) where
  pub seal_known : seal_of number key nonce header input room ≡ seal_under s key nonce header input room
  unfolding seal_of
  seal_known = known_under (λ s. seal_under s key nonce header input room) room known

  pub open_known : open_of number key nonce header input room ≡ open_under s key nonce header input room
  unfolding open_of
  open_known = known_under (λ s. open_under s key nonce header input room) room known

-- ---- what is told behind the checks

-- where they answered 0, what comes behind them
pub all_passed : (k : ℕ) (t : Told) (room : List ℕ) → k ≡ 0 → passed k t room ≡ t
all_passed zero t room e = refl
all_passed (suc k) t room e = absurd (omega arith)

-- another number, itself
pub not_passed : (k : ℕ) (t : Told) (room : List ℕ) → (k ≡ 0 → ⊥) → passed k t room ≡ refused k room
not_passed zero t room h = absurd (h refl)
not_passed (suc k) t room h = refl
