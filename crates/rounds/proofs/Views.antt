-- A part of each byte of a state, as the low nibbles: what the linear part of a round does to bytes it does to the parts. Assumes nothing.
use mathlib.Core.Path.{◌≡◌, refl, ap, ◌∙◌}
use Prim.Native.Nat.{ℕ, ◌+◌}
use mathlib.Core.List.{List, [], ◌∷◌}
use lib.ListN.{get_or}
use lib.Bits.{bit_xor, xor_mod, xor_shr}
use Rattle.cells.specs.Words.{near, far}
use Rattle.rounds.specs.State.{State, cell, four, row, sub_by, add_tweakey, shift_rows, unshift_rows, mix_columns, unmix_columns}
use Rattle.rounds.specs.Words.{add_below, linear_by, unlinear}

-- the part of an exclusive or is that of the parts
pub record View (v : ℕ → ℕ) : Type 0 where
  pub xor : (a b : ℕ) → v (bit_xor a b) ≡ bit_xor (v a) (v b)

pub whole_view : View (λ b. b)
whole_view = record { xor = λ a b. refl }

pub near_view : View near
near_view = record { xor = λ a b. xor_mod a b 4 }

pub far_view : View far
far_view = record { xor = λ a b. xor_shr a b 4 }

-- the parts of eight cells
abbrev pub view_row : (ℕ → ℕ) → List ℕ → List ℕ
view_row v t =
    v (get_or t 0 0) ∷ v (get_or t 1 0) ∷ v (get_or t 2 0) ∷ v (get_or t 3 0) ∷ v (get_or t 4 0) ∷ v (get_or t 5 0) ∷ v (get_or t 6 0) ∷ v (get_or t 7 0) ∷ []

module _ {v : ℕ → ℕ} (h : View v) where
  mix_view : (s : State) → sub_by v (mix_columns s) ≡ mix_columns (sub_by v s)
  mix_view s =
      let a : ℕ → ℕ = cell s 0 in
      let b : ℕ → ℕ = cell s 1 in
      let c : ℕ → ℕ = cell s 2 in
      let d : ℕ → ℕ = cell s 3 in
      λ i. four
      (row (λ j. (h.xor (bit_xor (a j) (c j)) (d j) ∙ ap (λ (x : ℕ). bit_xor x (v (d j))) (h.xor (a j) (c j))) i))
      (row (λ j. v (a j)))
      (row (λ j. h.xor (b j) (c j) i))
      (row (λ j. h.xor (a j) (c j) i))

  unmix_view : (s : State) → sub_by v (unmix_columns s) ≡ unmix_columns (sub_by v s)
  unmix_view s =
      let p : ℕ → ℕ = cell s 0 in
      let q : ℕ → ℕ = cell s 1 in
      let r : ℕ → ℕ = cell s 2 in
      let t : ℕ → ℕ = cell s 3 in
      λ i. four
      (row (λ j. v (q j)))
      (row (λ j. (h.xor (r j) (bit_xor (q j) (t j)) ∙ ap (bit_xor (v (r j))) (h.xor (q j) (t j))) i))
      (row (λ j. h.xor (q j) (t j) i))
      (row (λ j. h.xor (p j) (t j) i))

  add_view : (d : ℕ) (t : List ℕ) (s : State) → sub_by v (add_tweakey t (add_below d s)) ≡ add_tweakey (view_row v t) (add_below (v d) (sub_by v s))
  add_view d t s =
      λ i. four
      (row (λ j. h.xor (cell s 0 j) (get_or t j 0) i))
      (row (λ j. h.xor (cell s 1 j) (get_or t (4 + j) 0) i))
      (four (h.xor (cell s 2 0) d i) (v (cell s 2 1)) (v (cell s 2 2)) (v (cell s 2 3)))
      (row (λ j. v (cell s 3 j)))

  pub linear_view : (d : ℕ) (t : List ℕ) (s : State) → sub_by v (linear_by d t s) ≡ linear_by (v d) (view_row v t) (sub_by v s)
  unfolding linear_by
  linear_view d t s =
      mix_view (shift_rows (add_tweakey t (add_below d s))) ∙ ap (λ (x : State). mix_columns (shift_rows x)) (add_view d t s)

  pub unlinear_view : v 2 ≡ 2 → (t : List ℕ) (s : State) → sub_by v (unlinear t s) ≡ unlinear (view_row v t) (sub_by v s)
  unfolding unlinear
  unlinear_view e t s =
      add_view 2 t (unshift_rows (unmix_columns s))
      ∙ (λ i. add_below (e i) (add_tweakey (view_row v t) (unshift_rows (unmix_view s i))))
