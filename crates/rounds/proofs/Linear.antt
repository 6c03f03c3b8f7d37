-- The linear part of a round on words that hold complements. Forward, what a round adds turns row 2 over, and after the columns row 0 is
-- turned back. Back, the columns turn rows 2 and 3 over, and what a round adds turns them back. Assumes nothing.
use mathlib.Core.Path.{◌≡◌, ap, sym, ◌∙◌}
use Prim.Native.Nat.{ℕ, ◌+◌}
use mathlib.Core.List.{List}
use lib.ListN.{get_or}
use lib.Bits.{bit_xor, xor_comm, xor_zero_r}
use Rattle.cells.specs.Words.{lane, not8}
use Rattle.cells.proofs.Lanes.{lane_xor}
use Rattle.cells.proofs.Xor.{xor_assoc, xor_last}
use Rattle.rounds.specs.State.{State, cell, four, row, sub_by, add_tweakey, shift_rows, unshift_rows, mix_columns, unmix_columns}
use Rattle.rounds.specs.Words.{lanes, shown, added, add_below, linear_by, unlinear}

-- ---- complements

not_xor : (a b : ℕ) → not8 (bit_xor a b) ≡ bit_xor (not8 a) b
not_xor a b = xor_assoc a b 255 ∙ ap (bit_xor a) (xor_comm b 255) ∙ sym (xor_assoc a 255 b)

xor_not : (a b : ℕ) → bit_xor a (not8 b) ≡ not8 (bit_xor a b)
xor_not a b = sym (xor_assoc a b 255)

both_not : (a b : ℕ) → bit_xor (not8 a) (not8 b) ≡ bit_xor a b
both_not a b = xor_not (not8 a) b ∙ ap not8 (sym (not_xor a b)) ∙ xor_last (bit_xor a b) 255

outer_not : (a b c : ℕ) → bit_xor (bit_xor a b) c ≡ bit_xor (bit_xor (not8 a) b) (not8 c)
outer_not a b c = sym (both_not (bit_xor a b) c) ∙ ap (λ (x : ℕ). bit_xor x (not8 c)) (not_xor a b)

-- the top row turned over, the top two, all rows but row 2
abbrev pub top_not : State → State
top_not s = four (row (λ j. not8 (cell s 0 j))) (row (cell s 1)) (row (cell s 2)) (row (cell s 3))

abbrev upper_not : State → State
upper_not s = four (row (λ j. not8 (cell s 0 j))) (row (λ j. not8 (cell s 1 j))) (row (cell s 2)) (row (cell s 3))

abbrev others_not : State → State
others_not s = four (row (λ j. not8 (cell s 0 j))) (row (λ j. not8 (cell s 1 j))) (row (cell s 2)) (row (λ j. not8 (cell s 3 j)))

-- row 0 alone takes two of them, a and d, and there the complements cancel
mix_not : (s : State) → sub_by not8 (top_not (mix_columns s)) ≡ mix_columns (others_not s)
mix_not s =
    let a : ℕ → ℕ = cell s 0 in
    let b : ℕ → ℕ = cell s 1 in
    let c : ℕ → ℕ = cell s 2 in
    let d : ℕ → ℕ = cell s 3 in
    λ i. four
    (row (λ j. (xor_last (bit_xor (bit_xor (a j) (c j)) (d j)) 255 ∙ outer_not (a j) (c j) (d j)) i))
    (row (λ j. not8 (a j)))
    (row (λ j. not_xor (b j) (c j) i))
    (row (λ j. not_xor (a j) (c j) i))

unmix_not : (s : State) → unmix_columns (sub_by not8 s) ≡ upper_not (unmix_columns s)
unmix_not s =
    let p : ℕ → ℕ = cell s 0 in
    let q : ℕ → ℕ = cell s 1 in
    let r : ℕ → ℕ = cell s 2 in
    let t : ℕ → ℕ = cell s 3 in
    λ i. four
    (row (λ j. not8 (q j)))
    (row (λ j. (ap (bit_xor (not8 (r j))) (both_not (q j) (t j)) ∙ sym (not_xor (r j) (bit_xor (q j) (t j)))) i))
    (row (λ j. both_not (q j) (t j) i))
    (row (λ j. both_not (p j) (t j) i))

-- ---- what the code adds: t to the top rows, complements to row 2, that of d to its first cell, and e to row 3

abbrev pub added_to : ℕ → ℕ → List ℕ → State → State
added_to d e t s = added (row (λ j. get_or t j 0)) (row (λ j. get_or t (4 + j) 0)) (four (not8 d) 255 255 255) (four e e e e) s

added_others : (d : ℕ) (t : List ℕ) (s : State) → others_not (added_to d 0 t s) ≡ add_tweakey t (add_below d (sub_by not8 s))
added_others d t s =
    λ i. four
    (row (λ j. not_xor (cell s 0 j) (get_or t j 0) i))
    (row (λ j. not_xor (cell s 1 j) (get_or t (4 + j) 0) i))
    (four ((xor_not (cell s 2 0) d ∙ not_xor (cell s 2 0) d) i) (not8 (cell s 2 1)) (not8 (cell s 2 2)) (not8 (cell s 2 3)))
    (row (λ j. not8 (xor_zero_r (cell s 3 j) i)))

added_all : (d : ℕ) (t : List ℕ) (s : State) → sub_by not8 (added_to d 255 t s) ≡ add_below d (add_tweakey t (upper_not s))
added_all d t s =
    λ i. four
    (row (λ j. not_xor (cell s 0 j) (get_or t j 0) i))
    (row (λ j. not_xor (cell s 1 j) (get_or t (4 + j) 0) i))
    (four
    ((ap not8 (xor_not (cell s 2 0) d) ∙ xor_last (bit_xor (cell s 2 0) d) 255) i)
    (xor_last (cell s 2 1) 255 i)
    (xor_last (cell s 2 2) 255 i)
    (xor_last (cell s 2 3) 255 i))
    (row (λ j. xor_last (cell s 3 j) 255 i))

-- the word of row 0 turned over is its cells turned over
pub top_words
    : (m : List ℕ) → shown (four (bit_xor (get_or m 0 0) 0xffffffff) (get_or m 1 0) (get_or m 2 0) (get_or m 3 0)) ≡ sub_by not8 (top_not (lanes m))
top_words m =
    let at : ℕ → ℕ = λ k. get_or m k 0 in
    λ i. sub_by not8 (four (row (λ j. lane_xor (at 0) 0xffffffff j i)) (row (lane (at 1))) (row (lane (at 2))) (row (lane (at 3))))

pub linear_words
    : (d : ℕ) (t : List ℕ) (s : State) → sub_by not8 (top_not (mix_columns (shift_rows (added_to d 0 t s)))) ≡ linear_by d t (sub_by not8 s)
unfolding linear_by
linear_words d t s = mix_not (shift_rows (added_to d 0 t s)) ∙ ap (λ (x : State). mix_columns (shift_rows x)) (added_others d t s)

pub unlinear_words : (t : List ℕ) (s : State) → sub_by not8 (added_to 2 255 t (unshift_rows (unmix_columns s))) ≡ unlinear t (sub_by not8 s)
unfolding unlinear
unlinear_words t s =
    added_all 2 t (unshift_rows (unmix_columns s)) ∙ ap (λ (x : State). add_below 2 (add_tweakey t (unshift_rows x))) (sym (unmix_not s))
