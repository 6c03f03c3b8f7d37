-- What holds of both sides of a choice holds of the choice.
--     chosen   each side with what the choice then was
--     either   each side alone
-- Assumes nothing.
use mathlib.Core.Path.{◌≡◌, refl}
use mathlib.Core.Bool.{Bool, true, false, cond}

module _ {A : Type 0} (P : A → Type 0) where
  pub chosen : (b : Bool) (x y : A) → (b ≡ true → P x) → (b ≡ false → P y) → P (cond b x y)
  chosen true x y p q = p refl
  chosen false x y p q = q refl

  pub either : (b : Bool) (x y : A) → P x → P y → P (cond b x y)
  either b x y p q = chosen b x y (λ _. p) (λ _. q)
