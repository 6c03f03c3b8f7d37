-- A record in a room: laid out and read back it is the same one. Assumes nothing.
use mathlib.Core.Path.{◌≡◌, refl, ap, ap₂, ◌∙◌, subst}
use mathlib.Core.List.{List, [], ◌∷◌, ◌++◌, append-nil}
use Prim.Native.Nat.{ℕ, suc, ◌%◌, ◌≤◌}
use native.Mathlib.Omega.{arith}
use lib.ListN.{length, get_or, set, take, drop, replicate, length-drop, drop_of_length-le}
use lib.Seq.{take-append_seam, take_all, take_at, drop_at}
use borrow.Rule.Slice.PartMut.{put_mid}
use Rattle.ciphers.specs.declared.Cipher.{Cipher}
use Rattle.ciphers.specs.declared.Cipher.TheVariants.{N64T192, N128T256}
use Rattle.ciphers.specs.Ciphers.{number_of, key_cells}
use Rattle.prepared.specs.Prepared.{unmoving, share_of, prepared_of, record_of}
use Rattle.prepared.proofs.Loops.{shares_long}
use Rattle.auraski.specs.Rooms.{laid_out, record_in}

module _ (c : ℕ) (share tweak : List ℕ) (e : length share ≡ 784) where
  -- read back
  pub read_back : length tweak ≡ 16 → record_in (laid_out c share tweak) ≡ record { cipher = c; share = share; tweak = tweak }
  unfolding laid_out record_in
  read_back f =
      let s : take 784 (share ++ tweak) ≡ share = subst (λ (k : ℕ). take k (share ++ tweak) ≡ share) e (take-append_seam share tweak) in
      let t : take 16 (drop 785 ((c ∷ share) ++ tweak)) ≡ tweak = ap (take 16) (drop_at (c ∷ share) tweak 785 (ap suc e)) ∙ take_all 16 tweak (omega (arith, f)) in
      λ i. record { cipher = c; share = s i; tweak = t i }

-- what a C caller is given for a key is that key's record (C-16)
pub given_record : (c : Cipher) (key : List ℕ) → record_in (laid_out (number_of c % 256) (share_of c key) unmoving) ≡ prepared_of c key
given_record N64T192 key = read_back 1 (share_of N64T192 key) unmoving (shares_long N64T192 (key_cells N64T192 key unmoving)) refl
given_record N128T256 key = read_back 2 (share_of N128T256 key) unmoving (shares_long N128T256 (key_cells N128T256 key unmoving)) refl

-- and where none is made, the fixed record is a room of zeros
pub no_record_laid : replicate 801 0 ≡ laid_out 0 (replicate 784 0) unmoving
unfolding laid_out
no_record_laid = refl

-- a number, a share and a moving part written to their places in a room
pub copied_out
    : {share tweak s t : List ℕ} (c : ℕ) (room : List ℕ) → s ≡ share → t ≡ tweak → length share ≡ 784 → length room ≡ 801
    → put_mid 785 16 (put_mid 1 784 (set room 0 c) s) t ≡ laid_out c share tweak
unfolding laid_out
copied_out c [] e f g h = absurd (omega arith)
copied_out {share} {tweak} c (x ∷ rest) e f g h =
    let behind = drop 784 rest in
    let few : length behind ≤ 16 = rw (length-drop 784 rest) (omega arith) in
    let none : drop 16 (drop 784 (share ++ behind)) ≡ [] = ap (drop 16) (drop_at share behind 784 g) ∙ drop_of_length-le behind few in
    rw (e, f)
    (ap₂ ◌++◌ (ap (λ (l : List ℕ). c ∷ l) (take_at share behind 784 g)) (ap (λ (l : List ℕ). tweak ++ l) none ∙ append-nil tweak))

-- the parts that are read of a room are those of the record that it holds
pub parts_in
    : (room : List ℕ) {n : ℕ} {share moving : List ℕ} → n ≡ get_or room 0 0 → share ≡ take 784 (drop 1 room) → moving ≡ take 16 (drop 785 room)
    → record_of n share moving ≡ record_in room
unfolding record_in
parts_in room a b c = λ i. record_of (a i) (b i) (c i)
