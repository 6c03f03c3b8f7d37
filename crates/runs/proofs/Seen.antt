-- The kinds of cells that words hold, and what is seen of them: each byte whole, or its low nibble; and of two states of nibbles in one, the low
-- nibbles and the high ones. What the code does to words it does to what is seen. Assumes nothing.
use mathlib.Core.Path.{◌≡◌, refl, sym, ap, ◌∙◌}
use mathlib.Core.List.{List, [], ◌∷◌}
use Prim.Native.Nat.{ℕ, suc, ◌+◌, ◌*◌, ◌<◌}
use native.Mathlib.Omega.{arith}
use lib.ListN.{get_or}
use lib.Bits.{bit_xor, xor_zero_r}
use Rattle.cells.specs.Cells.{Width, Nibble, Byte, LowCells, size, table4, untable4, sub, unsub}
use Rattle.cells.specs.Words.{lane, not8, near, far, pair_of, sub_pair, unsub_pair, sub_cells, unsub_cells, seen, Each}
use Rattle.cells.proofs.Laws.{sub_law, unsub_law}
use Rattle.cells.proofs.Xor.{xor_last}
use Rattle.constants.specs.Constants.{constant_row}
use Rattle.schedule.specs.Schedule.{xor_row}
use Rattle.schedule.proofs.Low.{row_low}
use Rattle.rounds.specs.State.{State, cell, four, row, grid, sub_by, unround}
use Rattle.rounds.specs.Words.{shown, linear_by, linear, unlinear, pair_row, paired}
use Rattle.rounds.proofs.Views.{View, whole_view, near_view, far_view, view_row, linear_view, unlinear_view}
use Rattle.runs.specs.Runs.{Ran, Unran}
use Rattle.runs.proofs.Loops.{LowRows, Begun, begun_end, begun_more, Left, left_less, left_none, ran_as, unran_as, unround_linear}

-- v is what is seen of a byte, f and g are what the code makes of a byte forward and back
pub record Kind (w : Width) (v f g : ℕ → ℕ) : Type 0 where
  pub view : View v
  pub two : v 2 ≡ 2
  pub same : (x : ℕ) → x < size w → v x ≡ x
  pub forward : (b : ℕ) → v (f b) ≡ sub w (v b)
  pub backward : (b : ℕ) → v (g b) ≡ unsub w (v b)
  pub sub_seen : (b : ℕ) → sub w (v b) ≡ sub w b
  pub unsub_seen : (b : ℕ) → unsub w (v b) ≡ unsub w b

pub bytes : Kind Byte (λ b. b) (sub Byte) (unsub Byte)
bytes = record {
  view = whole_view;
  two = refl;
  same = λ x h. refl;
  forward = λ b. refl;
  backward = λ b. refl;
  sub_seen = λ b. refl;
  unsub_seen = λ b. refl;
}

again : (b : ℕ) → near (near b) ≡ near b
again b = omega arith

sub_near : (b : ℕ) → sub Nibble (near b) ≡ sub Nibble b
unfolding sub
sub_near b = ap (λ (x : ℕ). get_or table4 x 0) (again b)

unsub_near : (b : ℕ) → unsub Nibble (near b) ≡ unsub Nibble b
unfolding unsub
unsub_near b = ap (λ (x : ℕ). get_or untable4 x 0) (again b)

near_pair : (a b : ℕ) → a < 16 → near (pair_of a b) ≡ a
near_pair a b h = omega arith

far_pair : (a b : ℕ) → a < 16 → far (pair_of a b) ≡ b
far_pair a b h = omega arith

pub nibbles : Kind Nibble near sub_pair unsub_pair
unfolding sub_pair unsub_pair
nibbles = record {
  view = near_view;
  two = refl;
  same = λ x h. omega arith;
  forward = λ b. near_pair (sub Nibble (near b)) (sub Nibble (far b)) ((sub_law Nibble).low (near b) (omega arith));
  backward = λ b. near_pair (unsub Nibble (near b)) (unsub Nibble (far b)) ((unsub_law Nibble).low (near b) (omega arith));
  sub_seen = sub_near;
  unsub_seen = unsub_near;
}

far_forward : (b : ℕ) → far (sub_pair b) ≡ sub Nibble (far b)
unfolding sub_pair
far_forward b = far_pair (sub Nibble (near b)) (sub Nibble (far b)) ((sub_law Nibble).low (near b) (omega arith))

pub kind : (w : Width) → Kind w (seen w) (sub_cells w) (unsub_cells w)
kind Nibble = nibbles
kind Byte = bytes

-- ---- four words by a function on each byte

pub worked
    : {f : ℕ → ℕ} {x₀ x₁ x₂ x₃ : ℕ} (y : List ℕ)
    → Each f (get_or y 0 0) x₀ → Each f (get_or y 1 0) x₁ → Each f (get_or y 2 0) x₂ → Each f (get_or y 3 0) x₃
    → shown (x₀ ∷ x₁ ∷ x₂ ∷ x₃ ∷ []) ≡ sub_by f (shown y)
worked {f} {x₀} {x₁} {x₂} {x₃} y e₀ e₁ e₂ e₃ = λ i. four (line 0 e₀ i) (line 1 e₁ i) (line 2 e₂ i) (line 3 e₃ i) where
  line : (k : ℕ) {x : ℕ} → Each f (get_or y k 0) x → row (λ j. not8 (lane x j)) ≡ row (λ j. f (not8 (lane (get_or y k 0) j)))
  line k {x} e = λ i. four (byte 0 (omega arith) i) (byte 1 (omega arith) i) (byte 2 (omega arith) i) (byte 3 (omega arith) i) where
    byte : (j : ℕ) → j < 4 → not8 (lane x j) ≡ f (not8 (lane (get_or y k 0) j))
    byte j h = ap not8 (e.at j h) ∙ xor_last (f (not8 (lane (get_or y k 0) j))) 255

-- ---- what is seen of it

module _ {w : Width} {v f g : ℕ → ℕ} (k : Kind w v f g) where
  row_same : (t : List ℕ) → LowCells w t → view_row v t ≡ view_row (λ b. b) t
  row_same t low =
      let same : (j : ℕ) → v (get_or t j 0) ≡ get_or t j 0 = λ j. k.same (get_or t j 0) (low j) in
      λ i. same 0 i ∷ same 1 i ∷ same 2 i ∷ same 3 i ∷ same 4 i ∷ same 5 i ∷ same 6 i ∷ same 7 i ∷ []

  linear_same : (t : List ℕ) (s : State) → LowCells w t → sub_by v (linear t s) ≡ linear t (sub_by v s)
  unfolding linear_by
  linear_same t s low = linear_view k.view 2 t s ∙ λ i. linear_by (k.two i) (row_same t low i) (sub_by v s)

  unlinear_same : (t : List ℕ) (s : State) → LowCells w t → sub_by v (unlinear t s) ≡ unlinear t (sub_by v s)
  unfolding unlinear
  unlinear_same t s low = unlinear_view k.view k.two t s ∙ ap (λ (r : List ℕ). unlinear r (sub_by v s)) (row_same t low)

  -- a turn of a loop by the row r, which is that of round from + i
  module _ {m : ℕ} (keys : List (List ℕ)) (from i r : ℕ) (q : r ≡ from + i) (h : from + i < m) (x : State) where
    -- forward: the linear part of a round, and the cells of the next one
    module _ (y : State) (e : y ≡ linear (get_or keys r []) x) where
      part : LowRows w m keys → sub_by v y ≡ linear (get_or keys (from + i) []) (sub_by v x)
      part low =
          ap (sub_by v) (e ∙ ap (λ (l : ℕ). linear (get_or keys l []) x) q) ∙ linear_same (get_or keys (from + i) []) x (low (from + i) h)

      pub turn_forward
          : {x₀ z : State} → Begun w m keys from x₀ i (sub_by v x) → z ≡ sub_by f y → Begun w m keys from x₀ (i + 1) (sub_by v z)
      turn_forward b d = begun_more h b part (ap (sub_by v) d ∙ λ j. grid (λ a b. k.forward (cell y a b) j))

      -- behind the loop: x₀ came of s
      pub end_forward
          : {x₀ y₀ u : State} {count : ℕ} → i + 1 ≡ count → x₀ ≡ sub_by f y₀ → Begun w m keys from (sub_by v x₀) i (sub_by v x) → (s : State)
          → y₀ ≡ sub_by (λ b. b) s → u ≡ sub_by v y → Ran w m keys from count s u
      end_forward n d b s p o =
          ran_as
          (begun_end h b part s (ap (sub_by v) (d ∙ ap (sub_by f) p) ∙ λ j. grid (λ a b. (k.forward (cell s a b) ∙ k.sub_seen (cell s a b)) j)))
          n o

    -- back
    pub turn_back
        : {count j : ℕ} {s y z : State} → j ≡ suc i → Left w m keys from s count j (sub_by v x) → y ≡ unlinear (get_or keys r []) x → z ≡ sub_by g y
        → Left w m keys from s count i (sub_by v z)
    turn_back {y = y} p l e d =
        left_less p h l
        (λ low. ap (sub_by v) (e ∙ ap (λ (l : ℕ). unlinear (get_or keys l []) x) q) ∙ unlinear_same (get_or keys (from + i) []) x (low (from + i) h))
        (ap (sub_by v) d ∙ λ j. grid (λ a b. k.backward (cell y a b) j))

  pub end_back
      : {m : ℕ} {keys : List (List ℕ)} {from count : ℕ} {x₀ u : State} (x : State) → 0 < count → Left w m keys from (sub_by v x₀) count 0 (sub_by v x)
      → (s : State) → x₀ ≡ sub_by (λ b. b) s → u ≡ sub_by v x → Unran w m keys from count s u
  end_back {count = count} x h l s e o =
      unran_as
      (left_none count h l s (λ q r p low.
      ap (λ (z : State). unround w q r (sub_by v z)) e ∙ unround_linear w q r (sub_by v s)
      ∙ ap (sub_by (unsub w)) (sym (unlinear_same (xor_row (constant_row q) r) s (row_low w q r p low)))
      ∙ (λ i. grid (λ a b. k.unsub_seen (cell (unlinear (xor_row (constant_row q) r) s) a b) i))
      ∙ sym (unround_linear w q r s)))
      o

-- ---- two states of nibbles in one

-- a pair of cells, worked and seen
first_cell : (a b : ℕ) → near (sub_pair (pair_of (near a) (near b))) ≡ sub Nibble a
first_cell a b =
    nibbles.forward (pair_of (near a) (near b)) ∙ ap (sub Nibble) (near_pair (near a) (near b) (omega arith)) ∙ sub_near a

second_cell : (a b : ℕ) → far (sub_pair (pair_of (near a) (near b))) ≡ sub Nibble b
second_cell a b = far_forward (pair_of (near a) (near b)) ∙ ap (sub Nibble) (far_pair (near a) (near b) (omega arith)) ∙ sub_near b

-- where what is seen of two rows of nibbles in one is the row r, the linear part with both is seen as that with r
pair_linear
    : {v : ℕ → ℕ} → View v → v 34 ≡ 2 → (t u r : List ℕ) → ((j : ℕ) → v (bit_xor (get_or t j 0) (get_or u j 0 * 16)) ≡ get_or r j 0) → (s : State)
    → sub_by v (linear_by 34 (pair_row t u) s) ≡ linear r (sub_by v s)
unfolding linear_by
pair_linear {v} h two t u r e s =
    linear_view h 34 (pair_row t u) s ∙ λ i. linear_by (two i) (e 0 i ∷ e 1 i ∷ e 2 i ∷ e 3 i ∷ e 4 i ∷ e 5 i ∷ e 6 i ∷ e 7 i ∷ []) (sub_by v s)

-- two rows of nibbles in one, seen
module _ (t u : List ℕ) (p : LowCells Nibble t) (q : LowCells Nibble u) where
  near_cell : (j : ℕ) → near (bit_xor (get_or t j 0) (get_or u j 0 * 16)) ≡ get_or t j 0
  near_cell j =
      let a : near (get_or t j 0) ≡ get_or t j 0 = (let l = p j in omega arith) in
      let b : near (get_or u j 0 * 16) ≡ 0 = omega arith in
      near_view.xor (get_or t j 0) (get_or u j 0 * 16) ∙ (λ i. bit_xor (a i) (b i)) ∙ xor_zero_r (get_or t j 0)

  far_cell : (j : ℕ) → far (bit_xor (get_or t j 0) (get_or u j 0 * 16)) ≡ get_or u j 0
  far_cell j =
      let a : far (get_or t j 0) ≡ 0 = (let l = p j in omega arith) in
      let b : far (get_or u j 0 * 16) ≡ get_or u j 0 = omega arith in
      far_view.xor (get_or t j 0) (get_or u j 0 * 16) ∙ (λ i. bit_xor (a i) (b i))

  near_linear : (s : State) → sub_by near (linear_by 34 (pair_row t u) s) ≡ linear t (sub_by near s)
  near_linear = pair_linear near_view refl t u t near_cell

  far_linear : (s : State) → sub_by far (linear_by 34 (pair_row t u) s) ≡ linear u (sub_by far s)
  far_linear = pair_linear far_view refl t u u far_cell

-- both states after so many rounds, the second from `later` on
pub record BothBegun (m : ℕ) (keys : List (List ℕ)) (from later : ℕ) (x₀ : State) (i : ℕ) (x : State) : Type 0 where
  pub first : Begun Nibble m keys from (sub_by near x₀) i (sub_by near x)
  pub second : Begun Nibble m keys later (sub_by far x₀) i (sub_by far x)

module _ {m : ℕ} (keys : List (List ℕ)) (from later i r q : ℕ) (p : r ≡ from + i) (o : q ≡ later + i) (h : from + i < m) (l : later + i < m) (x y : State)
    (e : LowCells Nibble (get_or keys q []) → y ≡ linear_by 34 (pair_row (get_or keys r []) (get_or keys q [])) x) where
  both_part
      : LowRows Nibble m keys → (sub_by near y ≡ linear (get_or keys (from + i) []) (sub_by near x)) × (sub_by far y ≡ linear (get_or keys (later + i) []) (sub_by far x))
  both_part low =
      let t = get_or keys (from + i) [] in
      let u = get_or keys (later + i) [] in
      let a = low (from + i) h in
      let b = low (later + i) l in
      let d : y ≡ linear_by 34 (pair_row t u) x = rw (sym p, sym o) (e (rw o b)) in
      (ap (sub_by near) d ∙ near_linear t u a b x, ap (sub_by far) d ∙ far_linear t u a b x)

  pub turn_both : {x₀ z : State} → BothBegun m keys from later x₀ i x → z ≡ sub_by sub_pair y → BothBegun m keys from later x₀ (i + 1) z
  turn_both b d = record {
    first = begun_more h b.first (λ low. (both_part low).0) (ap (sub_by near) d ∙ λ j. grid (λ a b. nibbles.forward (cell y a b) j));
    second = begun_more l b.second (λ low. (both_part low).1) (ap (sub_by far) d ∙ λ j. grid (λ a b. far_forward (cell y a b) j));
  }

  -- behind the loop: x₀ came of s and t
  pub end_both
      : {x₀ y₀ u v : State} {count : ℕ} → i + 1 ≡ count → x₀ ≡ sub_by sub_pair y₀ → BothBegun m keys from later x₀ i x → (s t : State) → y₀ ≡ sub_by (λ b. b) (paired s t)
      → u ≡ sub_by near y → v ≡ sub_by far y → Ran Nibble m keys from count s u × Ran Nibble m keys later count t v
  end_both n d b s t c a z = (
    ran_as (begun_end h b.first (λ low. (both_part low).0) s (ap (sub_by near) (d ∙ ap (sub_by sub_pair) c) ∙ λ j. grid (λ a b. first_cell (cell s a b) (cell t a b) j)))
        n a,
    ran_as (begun_end l b.second (λ low. (both_part low).1) t (ap (sub_by far) (d ∙ ap (sub_by sub_pair) c) ∙ λ j. grid (λ a b. second_cell (cell s a b) (cell t a b) j)))
        n z,
  )
