-- The differences of two lists, collected by `|` from the front: 0 exactly where there are none.
--     or_none     a `|` is 0 exactly where both of its sides are
--     collected   all of them collected
--     not_same    lists that are not equally long are not the same
-- Assumes nothing.
use mathlib.Core.Path.{◌≡◌, refl, sym, ap, ◌∙◌}
use mathlib.Core.Bool.{Bool, true, false, cond, ◌&&◌}
use mathlib.Core.List.{List, [], ◌∷◌}
use Prim.Native.Nat.{ℕ, zero, suc}
use native.Mathlib.Omega.{arith}
use borrow.Author.Tests.{eqb-true, eqb-false, eq-eqb, ne_eqb}
use lib.Bits.{bit_or, bit_xor, or_zero_l, or_add_and, and_le_r, xor_self, xor_zero_r}
use lib.Dec.{eqb}
use lib.ListN.{length}
use Rattle.std.specs.List.{fold, zip}
use Rattle.cells.proofs.Xor.{xor_first}
use Rattle.modes.specs.Blocks.{same}
use Rattle.modes.proofs.Bytes.{same_eq}

-- ---- bits

pub or_none : (x y : ℕ) → eqb (bit_or x y) 0 ≡ (eqb x 0 && eqb y 0)
or_none zero y = ap (λ (z : ℕ). eqb z 0) (or_zero_l y)
or_none (suc x) y =
    ne_eqb (bit_or (suc x) y) 0 (λ e. omega (arith, or_add_and (suc x) y, and_le_r (suc x) y))
    ∙ ap (λ (t : Bool). t && eqb y 0) (sym (ne_eqb (suc x) 0 (λ e. omega arith)))

-- an exclusive or is 0 exactly where its sides are the same
xor_none : (x y : ℕ) → eqb (bit_xor x y) 0 ≡ eqb x y
xor_none x y = go (eqb x y) refl
  where
    go : (b : Bool) → eqb x y ≡ b → eqb (bit_xor x y) 0 ≡ eqb x y
    go true e = eq-eqb (bit_xor x y) 0 (ap (λ (z : ℕ). bit_xor z y) (eqb-true x y e) ∙ xor_self y) ∙ sym e
    go false e =
        ne_eqb (bit_xor x y) 0 (λ z. eqb-false x y e (sym (xor_zero_r x) ∙ ap (bit_xor x) (sym z) ∙ xor_first x y)) ∙ sym e

-- ---- lists

pub not_same : (a b : List ℕ) → (length a ≡ length b → ⊥) → false ≡ same a b
not_same a b h = go (same a b) refl
  where
    go : (t : Bool) → same a b ≡ t → false ≡ same a b
    go true e = absurd (h (ap length (same_eq a b e)))
    go false e = sym e

-- what a pair differs by, and what was collected before it
abbrev pub differing : ℕ → ℕ × ℕ → ℕ
differing d p = bit_or d (bit_xor p.0 p.1)

and_true : (p : Bool) → p ≡ (p && true)
and_true true = refl
and_true false = refl

and_cond : (p q r : Bool) → ((p && q) && r) ≡ (p && cond q r false)
and_cond true true r = refl
and_cond true false r = refl
and_cond false q r = refl

after : (d : ℕ) (a b : List ℕ) → length a ≡ length b → eqb (fold differing d (zip a b)) 0 ≡ (eqb d 0 && same a b)
unfolding same
after d [] [] e = and_true (eqb d 0)
after d [] (y ∷ b) e = absurd (omega arith)
after d (x ∷ a) [] e = absurd (omega arith)
after d (x ∷ a) (y ∷ b) e =
    after (bit_or d (bit_xor x y)) a b (omega arith)
    ∙ rw (or_none d (bit_xor x y), xor_none x y) (and_cond (eqb d 0) (eqb x y) (same a b))

pub collected : (a b : List ℕ) → length a ≡ length b → eqb (fold differing 0 (zip a b)) 0 ≡ same a b
collected a b e = after 0 a b e
