-- What is loaded from the front of a part is its block, padded where the part is short of one. Assumes nothing.
use mathlib.Core.Path.{◌≡◌, refl, sym, ap, ◌∙◌}
use mathlib.Core.List.{List, ◌∷◌, ◌++◌}
use Prim.Native.Nat.{ℕ, suc, ◌+◌, ◌-◌, ◌<◌, ◌≤◌}
use native.Mathlib.Omega.{arith}
use lib.ListN.{length, take, set, replicate}
use lib.Seq.{take_all, take_at, length-take-le, set_at, take-append-add}
use Rattle.std.proofs.lemmas.List.{take-replicate}
use Rattle.modes.specs.Blocks.{pad}
use Rattle.modes.proofs.Bytes.{pad_long, pad_short}

-- a part with a whole block
pub load_full : (n : ℕ) (part zeros : List ℕ) → n ≤ length part → take n (take n part ++ zeros) ≡ pad n part
load_full n part zeros h = take_at (take n part) zeros n (length-take-le n part h) ∙ sym (pad_long n part h)

-- a part that is short of one
pub load_short
    : (n : ℕ) (part : List ℕ) → length part < n → n ≤ 16
    → take n (set (take (length part) part ++ replicate (16 - length part) 0) (length part) 128) ≡ pad n part
load_short n part h k =
    let z : 16 - length part ≡ suc (15 - length part) = omega arith in
    let e : n ≡ length part + suc (n - suc (length part)) = omega arith in
    let b : length part ≤ length part = omega arith in
    rw (take_all (length part) part b, z, set_at part 0 (replicate (15 - length part) 0) 128 (length part) refl)
    (ap (λ (j : ℕ). take j (part ++ 128 ∷ replicate (15 - length part) 0)) e
    ∙ take-append-add part (128 ∷ replicate (15 - length part) 0) (suc (n - suc (length part)))
    ∙ ap (λ (r : List ℕ). part ++ 128 ∷ r) (take-replicate (n - suc (length part)) (15 - length part) 0 (omega arith))
    ∙ sym (pad_short n part h))
