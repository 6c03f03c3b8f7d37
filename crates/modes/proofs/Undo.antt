-- Functions of blocks that are undone: how they are put together, adding a block and one after another; and that none takes two blocks to one.
-- Assumes nothing.
use mathlib.Core.Path.{◌≡◌, sym, ap, ◌∙◌}
use Prim.Native.Nat.{ℕ}
use mathlib.Core.List.{List}
use Rattle.cells.specs.Cells.{Block}
use Rattle.modes.specs.Blocks.{◌⊕◌}
use Rattle.modes.specs.Forkcipher.{Undo}
use Rattle.modes.proofs.Bytes.{xor_block, xor_undo, xor_swap}

pub undo_xor : {n : ℕ} {d : List ℕ} → Block n d → Undo n (λ x. x ⊕ d) (λ x. x ⊕ d)
undo_xor {n} {d} h =
    record {
      to = λ x b. xor_block n x d b h;
      fro = λ x b. xor_block n x d b h;
      there = λ x b. xor_undo x d (b.long ∙ sym h.long);
      again = λ x b. xor_undo x d (b.long ∙ sym h.long);
    }

pub undo_then : {n : ℕ} {f f' g g' : List ℕ → List ℕ} → Undo n f f' → Undo n g g' → Undo n (λ x. g (f x)) (λ x. f' (g' x))
undo_then {f = f} {f'} {g} {g'} p q =
    record {
      to = λ x b. q.to (f x) (p.to x b);
      fro = λ x b. p.fro (g' x) (q.fro x b);
      there = λ x b. ap f' (q.there (f x) (p.to x b)) ∙ p.there x b;
      again = λ x b. ap g (p.again (g' x) (q.fro x b)) ∙ q.again x b;
    }

pub undo_one : {n : ℕ} {f g : List ℕ → List ℕ} → Undo n f g → {x y : List ℕ} → Block n x → Block n y → f x ≡ f y → x ≡ y
undo_one {g = g} u {x} {y} hx hy e = sym (u.there x hx) ∙ ap g e ∙ u.there y hy

pub xor_cancel : {n : ℕ} {d x y : List ℕ} → Block n d → Block n x → Block n y → d ⊕ x ≡ d ⊕ y → x ≡ y
xor_cancel {d = d} {x} {y} hd hx hy q = undo_one (undo_xor hd) hx hy (xor_swap x d ∙ q ∙ xor_swap d y)
