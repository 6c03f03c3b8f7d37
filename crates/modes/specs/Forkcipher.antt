-- A forkcipher under one key (001, 3.1), a block call of it, and the laws that a mode asks of it. Assumes nothing.
use Rattle.cells.specs.Cells.{Block}
use Rattle.std.specs.Prelude.{◌≡◌, ℕ, List, [], ◌∷◌}

-- half h of a block under a tweak; from half h the input block, and the other half
pub record Fork : Type 0 where
  pub half : ℕ → List ℕ → List ℕ → List ℕ
  pub input : ℕ → List ℕ → List ℕ → List ℕ
  pub other : ℕ → List ℕ → List ℕ → List ℕ

-- ---- a block call: what it asks for, under which tweak, of which block

-- F^{T,0}(X), half 0 alone; F^{T,b}(X), both halves; F^{-1,T,0,i}(X), from half 0 the input alone; F^{-1,T,0,b}(X), and the other half
pub data Want : Type 0 where
  half0 both_halves input_back both_back : Want

pub record Call : Type 0 where
  pub want : Want
  pub tweak : List ℕ
  pub block : List ℕ

abbrev pub asks : Want → List ℕ → List ℕ → Call
asks want tweak x = record { want = want; tweak = tweak; block = x }

abbrev wanted : Fork → Want → List ℕ → List ℕ → List (List ℕ)
wanted F half0 tweak x = F.half 0 tweak x ∷ []
wanted F both_halves tweak x = F.half 0 tweak x ∷ F.half 1 tweak x ∷ []
wanted F input_back tweak x = F.input 0 tweak x ∷ []
wanted F both_back tweak x = F.input 0 tweak x ∷ F.other 0 tweak x ∷ []

-- what comes back
abbrev pub answers : Fork → Call → List (List ℕ)
answers F c = wanted F c.want c.tweak c.block

-- ---- the laws

-- f and g take blocks of n bytes to such blocks, and each undoes the other
pub record Undo (n : ℕ) (f g : List ℕ → List ℕ) : Type 0 where
  pub to : (x : List ℕ) → Block n x → Block n (f x)
  pub fro : (x : List ℕ) → Block n x → Block n (g x)
  pub there : (x : List ℕ) → Block n x → g (f x) ≡ x
  pub again : (x : List ℕ) → Block n x → f (g x) ≡ x

-- over blocks and tweaks of n bytes: half 0 and the input from it undo each other, half 1 and the input from it too, and the other half
-- from half 0 is half 1 of the input
pub record ForkLaws (n : ℕ) (F : Fork) : Type 0 where
  pub undo : (tweak : List ℕ) → Block n tweak → Undo n (F.half 0 tweak) (F.input 0 tweak)
  pub undo_second : (tweak : List ℕ) → Block n tweak → Undo n (F.half 1 tweak) (F.input 1 tweak)
  pub other_is : (tweak x : List ℕ) → Block n tweak → Block n x → F.other 0 tweak x ≡ F.half 1 tweak (F.input 0 tweak x)
