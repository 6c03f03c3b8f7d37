-- The law of seal and open on keys: one of another length is refused before all else but the scheme. Assumes nothing.
use mathlib.Core.Path.{◌≡◌}
use mathlib.Core.Logic.{◌≢◌}
use mathlib.Core.List.{List}
use Prim.Native.Nat.{ℕ}
use lib.ListN.{length}
use borrow.Author.Tests.{ne_eqb}
use Rattle.schemes.specs.declared.Scheme.{Scheme}
use Rattle.schemes.specs.Checks.{check_of}
use Rattle.sealing.specs.Calls.{refused, seal_under, open_under}

module _ (s : Scheme) (key nonce header input room : List ℕ) (h : length key ≢ s.key) where
  pub seal_no_key : refused 2 room ≡ seal_under s key nonce header input room
  unfolding seal_under check_of
  seal_no_key = simp (ne_eqb (length key) s.key h)

  pub open_no_key : refused 2 room ≡ open_under s key nonce header input room
  unfolding open_under check_of
  open_no_key = simp (ne_eqb (length key) s.key h)
