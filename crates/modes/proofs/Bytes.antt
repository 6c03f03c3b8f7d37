-- What holds of bytes, blocks, padding, the test of two strings, and the exclusive or of blocks. Assumes nothing.
use mathlib.Core.Path.{◌≡◌, refl, sym, ap, ap₂, ◌∙◌}
use Prim.Native.Nat.{ℕ, zero, suc, ◌+◌, ◌-◌, ◌/◌, ◌≤◌, ◌<◌}
use native.Mathlib.Nat.{mod-lt}
use native.Mathlib.Omega.{arith}
use mathlib.Core.Bool.{Bool, true, false, false≢true, cond}
use mathlib.Core.List.{List, [], ◌∷◌, ◌++◌}
use lib.ListN.{length, get_or, take, drop, replicate, length-append, length-drop, length-replicate, take-append-drop}
use lib.Seq.{length-take-le, take_all, take-append-le, take-append_seam, drop-append_seam, take-append-add}
use lib.Dec.{T, eqb, eqb→eq, eqb_refl, lit<}
use lib.Bits.{bit_xor, xor_comm}
use Rattle.cells.specs.Cells.{Bytes, Byte, Block}
use Rattle.cells.proofs.Laws.{xor_low}
use Rattle.cells.proofs.Xor.{xor_last}
use Rattle.modes.specs.Blocks.{ten, pad, ◌⊕◌, be16, same}

-- ---- bytes

pub bytes_nil : Bytes []
bytes_nil = record { at = λ i. lit< tt }

pub bytes_cons : {x : ℕ} {xs : List ℕ} → x < 256 → Bytes xs → Bytes (x ∷ xs)
bytes_cons {x} {xs} h t = record { at = go }
  where
    go : (i : ℕ) → get_or (x ∷ xs) i 0 < 256
    go zero = h
    go (suc i) = t.at i

bytes_first : {x : ℕ} {xs : List ℕ} → Bytes (x ∷ xs) → x < 256
bytes_first h = h.at 0

bytes_tail : {x : ℕ} {xs : List ℕ} → Bytes (x ∷ xs) → Bytes xs
bytes_tail h = record { at = λ i. h.at (suc i) }

pub bytes_append : (a b : List ℕ) → Bytes a → Bytes b → Bytes (a ++ b)
bytes_append [] b ha hb = hb
bytes_append (x ∷ a) b ha hb = bytes_cons (bytes_first ha) (bytes_append a b (bytes_tail ha) hb)

pub bytes_take : (k : ℕ) (l : List ℕ) → Bytes l → Bytes (take k l)
bytes_take zero l h = bytes_nil
bytes_take (suc k) [] h = bytes_nil
bytes_take (suc k) (x ∷ l) h = bytes_cons (bytes_first h) (bytes_take k l (bytes_tail h))

pub bytes_drop : (k : ℕ) (l : List ℕ) → Bytes l → Bytes (drop k l)
bytes_drop zero l h = h
bytes_drop (suc k) [] h = h
bytes_drop (suc k) (x ∷ l) h = bytes_drop k l (bytes_tail h)

pub bytes_zeros : (k : ℕ) → Bytes (replicate k 0)
bytes_zeros zero = bytes_nil
bytes_zeros (suc k) = bytes_cons (lit< tt) (bytes_zeros k)

-- ---- blocks

pub block_take : (n : ℕ) (l : List ℕ) → n ≤ length l → Bytes l → Block n (take n l)
block_take n l h b = record { long = length-take-le n l h; bytes = bytes_take n l b }

pub block_drop : (k n : ℕ) (l : List ℕ) → length l ≡ k + n → Bytes l → Block n (drop k l)
block_drop k n l h b = record { long = simp length-drop (omega arith); bytes = bytes_drop k l b }

pub be16_block : (v : ℕ) → Block 2 (be16 v)
unfolding be16
be16_block v =
    record { long = refl; bytes = bytes_cons (mod-lt (v / 256) (lit< tt)) (bytes_cons (mod-lt v (lit< tt)) bytes_nil) }

pub block_zeros : (n : ℕ) → Block n (replicate n 0)
block_zeros n = record { long = length-replicate n 0; bytes = bytes_zeros n }

pub block_size : {i j : ℕ} {b : List ℕ} → Block i b → i ≡ j → Block j b
block_size h e = record { long = h.long ∙ e; bytes = h.bytes }

pub block_append : {i j : ℕ} {a b : List ℕ} → Block i a → Block j b → Block (i + j) (a ++ b)
block_append {a = a} {b = b} ha hb =
    record { long = length-append a b ∙ ap₂ ◌+◌ ha.long hb.long; bytes = bytes_append a b ha.bytes hb.bytes }

-- the first n of n + k bytes, and what follows them
pub block_head : (n k : ℕ) {b : List ℕ} → Block (n + k) b → Block n (take n b)
block_head n k {b} h = block_take n b (omega (arith, h.long)) h.bytes

pub block_rest : (n k : ℕ) {b : List ℕ} → Block (n + k) b → Block k (drop n b)
block_rest n k {b} h = block_drop n k b h.long h.bytes

-- ---- padding

pub pad_block : (n : ℕ) (x : List ℕ) → Bytes x → Block n (pad n x)
unfolding pad
pad_block n x b =
    block_take n (x ++ ten n)
    (simp (length-append, length-replicate) (omega arith))
    (bytes_append x (ten n) b (bytes_cons (lit< tt) (bytes_zeros n)))

pub length_pad : (n : ℕ) (x : List ℕ) → length (pad n x) ≡ n
unfolding pad
length_pad n x = length-take-le n (x ++ ten n) (simp (length-append, length-replicate) (omega arith))

-- a padded string is the string, and then as much of a one bit and zeros as there is room for: the laws below are this one
split : (n r : ℕ) (x : List ℕ) → length x ≡ r → r ≤ n → pad n x ≡ x ++ take (n - r) (ten n)
unfolding pad
split n r x e h =
    let k : n ≡ length x + (n - r) = omega arith in
    ap (λ (j : ℕ). take j (x ++ ten n)) k ∙ take-append-add x (ten n) (n - r)

pub take_pad : (n : ℕ) (x : List ℕ) → length x ≤ n → take (length x) (pad n x) ≡ x
take_pad n x h = ap (take (length x)) (split n (length x) x refl h) ∙ take-append_seam x (take (n - length x) (ten n))

pub pad_rest : (n : ℕ) (x : List ℕ) → length x ≤ n → drop (length x) (pad n x) ≡ take (n - length x) (ten n)
pad_rest n x h = ap (drop (length x)) (split n (length x) x refl h) ∙ drop-append_seam x (take (n - length x) (ten n))

-- where the tail of p is right, p is what its head is padded to
pub pad_judged : (n r : ℕ) (p : List ℕ) → length p ≡ n → r ≤ n → drop r p ≡ take (n - r) (ten n) → pad n (take r p) ≡ p
pad_judged n r p l h e =
    split n r (take r p) (length-take-le r p (omega arith)) h
    ∙ ap (λ (t : List ℕ). take r p ++ t) (sym e)
    ∙ take-append-drop r p

take_zeros : (k n : ℕ) → k ≤ n → take k (replicate n 0) ≡ replicate {A = ℕ} k 0
take_zeros zero n h = refl
take_zeros (suc k) zero h = absurd (omega arith)
take_zeros (suc k) (suc n) h = ap (λ (r : List ℕ). 0 ∷ r) (take_zeros k n (omega arith))

pub pad_short : (n : ℕ) (x : List ℕ) → length x < n → pad n x ≡ x ++ 128 ∷ replicate (n - suc (length x)) 0
pad_short n x h =
    let k : ℕ = n - suc (length x) in
    let e : n - length x ≡ suc k = omega arith in
    split n (length x) x refl (omega arith)
    ∙ ap (λ (j : ℕ). x ++ take j (ten n)) e
    ∙ ap (λ (r : List ℕ). x ++ 128 ∷ r) (take_zeros k n (omega arith))

pub pad_long : (n : ℕ) (x : List ℕ) → n ≤ length x → pad n x ≡ take n x
unfolding pad
pad_long n x h = take-append-le n x (ten n) h

pub pad_full : (n : ℕ) (x : List ℕ) → length x ≡ n → pad n x ≡ x
pad_full n x h = pad_long n x (omega arith) ∙ take_all n x (omega arith)

-- ---- the test of two strings

pick_yes : (b c : Bool) → T b → cond b c false ≡ c
pick_yes true c t = refl
pick_yes false c t = absurd t

pick_both : (b c : Bool) → cond b c false ≡ true → T b × (c ≡ true)
pick_both true c e = (tt, e)
pick_both false c e = absurd (false≢true e)

pub same_refl : (x : List ℕ) → same x x ≡ true
unfolding same
same_refl [] = refl
same_refl (x ∷ xs) = rw (same_refl xs) (pick_yes (eqb x x) true (eqb_refl x))

pub same_eq : (x y : List ℕ) → same x y ≡ true → x ≡ y
unfolding same
same_eq [] [] e = refl
same_eq [] (y ∷ ys) e = absurd (false≢true e)
same_eq (x ∷ xs) [] e = absurd (false≢true e)
same_eq (x ∷ xs) (y ∷ ys) e =
    let k : T (eqb x y) × (same xs ys ≡ true) = pick_both (eqb x y) (same xs ys) e in
    ap₂ (λ (a : ℕ) (t : List ℕ). a ∷ t) (eqb→eq x y k.0) (same_eq xs ys k.1)

-- ---- exclusive or

pub xor_length : (x y : List ℕ) → length x ≡ length y → length (x ⊕ y) ≡ length x
unfolding ◌⊕◌
xor_length [] y h = refl
xor_length (x ∷ xs) [] h = sym h
xor_length (x ∷ xs) (y ∷ ys) h = ap suc (xor_length xs ys (omega arith))

pub xor_bytes : (x y : List ℕ) → Bytes x → Bytes y → Bytes (x ⊕ y)
unfolding ◌⊕◌
xor_bytes [] y hx hy = hx
xor_bytes (x ∷ xs) [] hx hy = hy
xor_bytes (x ∷ xs) (y ∷ ys) hx hy =
    bytes_cons (xor_low Byte x y (bytes_first hx) (bytes_first hy)) (xor_bytes xs ys (bytes_tail hx) (bytes_tail hy))

pub xor_block : (n : ℕ) (x y : List ℕ) → Block n x → Block n y → Block n (x ⊕ y)
xor_block n x y hx hy =
    record { long = xor_length x y (cc) ∙ hx.long; bytes = xor_bytes x y hx.bytes hy.bytes }

pub xor_undo : (x y : List ℕ) → length x ≡ length y → x ⊕ y ⊕ y ≡ x
unfolding ◌⊕◌
xor_undo [] y h = refl
xor_undo (x ∷ xs) [] h = absurd (omega arith)
xor_undo (x ∷ xs) (y ∷ ys) h = ap₂ (λ (a : ℕ) (t : List ℕ). a ∷ t) (xor_last x y) (xor_undo xs ys (omega arith))

pub xor_swap : (x y : List ℕ) → x ⊕ y ≡ y ⊕ x
unfolding ◌⊕◌
xor_swap [] [] = refl
xor_swap [] (y ∷ ys) = refl
xor_swap (x ∷ xs) [] = refl
xor_swap (x ∷ xs) (y ∷ ys) = ap₂ (λ (a : ℕ) (t : List ℕ). a ∷ t) (xor_comm x y) (xor_swap xs ys)

pub get_d_xor : (a b : List ℕ) (i : ℕ) → i < length a → i < length b → get_or (a ⊕ b) i 0 ≡ bit_xor (get_or a i 0) (get_or b i 0)
unfolding ◌⊕◌
get_d_xor [] b i ha hb = absurd (omega arith)
get_d_xor (x ∷ a) [] i ha hb = absurd (omega arith)
get_d_xor (x ∷ a) (y ∷ b) zero ha hb = refl
get_d_xor (x ∷ a) (y ∷ b) (suc i) ha hb = get_d_xor a b i (omega arith) (omega arith)

pub take_xor : (n : ℕ) (a b : List ℕ) → take n (a ⊕ b) ≡ take n a ⊕ take n b
unfolding ◌⊕◌
take_xor zero a b = refl
take_xor (suc n) [] b = refl
take_xor (suc n) (x ∷ a) [] = refl
take_xor (suc n) (x ∷ a) (y ∷ b) = ap (λ (t : List ℕ). bit_xor x y ∷ t) (take_xor n a b)
