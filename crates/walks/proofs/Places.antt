-- Where the walks stand: what is lent, and what is loaded from its front. Assumes nothing.
use mathlib.Core.Path.{◌≡◌, ap, ◌∙◌, subst}
use mathlib.Core.List.{List, ◌++◌}
use Prim.Native.Nat.{ℕ, ◌-◌, ◌≤◌}
use lib.ListN.{length, take, drop, length-drop}
use Rattle.modes.specs.Blocks.{pad}
use Rattle.modes.proofs.Bytes.{pad_long}
use Rattle.blocks.proofs.Parts.{part_rest}

-- ---- `&l[at..]` or `&mut l[at..]`; and the whole of l, when that came back as ys

abbrev pub lent : ℕ → List ℕ → List ℕ
lent at l = take (length l - at) (drop at l)

abbrev pub after : ℕ → List ℕ → List ℕ → List ℕ
after at l ys = take at l ++ (ys ++ drop (length l - at) (drop at l))

pub lent_long : (at : ℕ) (l : List ℕ) → length (lent at l) ≡ length l - at
lent_long at l = ap length (part_rest at l) ∙ length-drop at l

-- ---- what was loaded from the front of a part; N is the block's size as the code has it

pub loaded : (N n : ℕ) (x part : List ℕ) → N ≡ n → take N x ≡ pad N part → take n x ≡ pad n part
loaded N n x part e h = subst (λ (m : ℕ). take m x ≡ pad m part) e h

pub loaded_full : (N n : ℕ) (x part : List ℕ) → N ≡ n → take N x ≡ pad N part → n ≤ length part → take n x ≡ take n part
loaded_full N n x part e h l = loaded N n x part e h ∙ pad_long n part l
