-- The places of blocks of n bytes, from the first one to the last one of l bytes, which begins at `last`. Assumes nothing.
use mathlib.Core.Path.{◌≡◌, ap, ◌∙◌}
use Prim.Native.Nat.{ℕ, suc, ◌+◌, ◌-◌, ◌*◌, ◌%◌, ◌≤◌, ◌<◌}
use native.Mathlib.Nat.{mul-le-mul, suc-mul, lt_of_mul-lt-mul_right, div-add-mod', mod-lt}
use native.Mathlib.Omega.{arith}
use Rattle.modes.specs.Blocks.{before_last}

-- a place, from which a whole block goes as far as the last one or less far
pub record Place (n l last at : ℕ) : Type 0 where
  pub blocks : ℕ
  pub is : at ≡ blocks * n
  pub inside : at ≤ last
  pub turn : at < last → at + n ≤ last

module _ (n l last : ℕ) (e : last ≡ before_last n l * n) where
  behind : (j : ℕ) → j ≤ before_last n l → j * n ≤ last
  behind j h =
      let m : j * n ≤ before_last n l * n = mul-le-mul h (omega arith) in
      omega arith

  place_at : (at j : ℕ) → at ≡ j * n → j ≤ before_last n l → Place n l last at
  place_at at j is h = record {
    blocks = j;
    is = is;
    inside = omega (arith, is, behind j h);
    turn = λ (m : at < last).
        let b : suc j ≤ before_last n l = lt_of_mul-lt-mul_right n (omega arith) in
        omega (arith, suc-mul j n, behind (suc j) b);
  }

  pub place_none : Place n l last 0
  place_none = place_at 0 0 (omega arith) (omega arith)

  pub place_more : {at : ℕ} → Place n l last at → at < last → Place n l last (at + n)
  place_more {at} p h =
      let b : suc p.blocks ≤ before_last n l = lt_of_mul-lt-mul_right n (omega (arith, p.is)) in
      place_at (at + n) (suc p.blocks) (omega (arith, p.is, suc-mul p.blocks n)) b

-- the last block is the rest of the division by which the blocks before it are counted
module _ (n l blocks : ℕ) (p : 0 < n) (e : blocks ≡ before_last n l) where
  divided : blocks * n + (l - 1) % n ≡ l - 1
  unfolding before_last
  divided = ap (λ (b : ℕ). b * n + (l - 1) % n) e ∙ div-add-mod' (l - 1) n

  pub last_inside : blocks * n ≤ l - 1
  last_inside = omega (arith, divided)

  pub last_short : l ≤ blocks * n + n
  last_short =
      let r : (l - 1) % n < n = mod-lt (l - 1) p in
      omega (arith, divided)
