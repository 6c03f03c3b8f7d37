-- A run of PAEF cut into its blocks, over any forkcipher with its laws: a block before the last is sealed by its number alone, C_* takes the
-- last block and S, and the tag's bytes the last block. Assumes nothing.
use mathlib.Core.Path.{◌≡◌, refl, sym, ap, ◌∙◌, subst}
use Prim.Native.Nat.{ℕ, zero, suc, ◌+◌, ◌*◌, ◌≤◌, ◌<◌}
use native.Mathlib.Nat.{suc-mul}
use native.Mathlib.Omega.{arith}
use mathlib.Core.Bool.{false}
use mathlib.Core.List.{List}
use lib.ListN.{length, take, drop, length-drop}
use lib.Seq.{take_all, drop-drop}
use Rattle.cells.specs.Cells.{Bytes, Block}
use Rattle.modes.specs.Blocks.{◌⊕◌, before_last, full, pad}
use Rattle.modes.specs.Changes.{block_at, behind}
use Rattle.modes.specs.Forkcipher.{Fork, ForkLaws}
use Rattle.modes.specs.Lawful.{Lawful}
use Rattle.modes.specs.Mode.{Mode, end_block, end_tag, headed, seal_last, seal_run}
use Rattle.modes.specs.Paef.{Sum, paef_body, paef_tweak, sum_tweak, sum_half, paef}
use Rattle.modes.proofs.Bytes.{bytes_take, bytes_drop}
use Rattle.modes.proofs.PaefLaws.{SumOk, paef_lawful}
use Rattle.modes.proofs.Ends.{block_of_end, tag_of_end}
use Rattle.modes.proofs.Exact.{headed_ok}
use Rattle.modes.proofs.Cut.{after, after_ok, run_block, run_end, last_size, sized}

module _ (n ν : ℕ) (F : Fork) (L : ForkLaws n F) (e : ν + 2 ≡ n) (nonce : List ℕ) (hn : Block ν nonce) where
  abbrev P : Mode Sum
  P = paef n F nonce

  lawful : Lawful n P (SumOk n)
  lawful = paef_lawful n ν F L e nonce hn

  -- numbers go on by one
  number_after : (i : ℕ) (s : Sum) (b : List ℕ) → (after n P i s b).number ≡ s.number + i
  unfolding paef
  number_after zero s b = omega arith
  number_after (suc i) s b = number_after i (P.next s (take n b)) (drop n b) ∙ omega arith

  -- half h of a last block x, padded, whose number is v
  abbrev pub last_half : ℕ → ℕ → List ℕ → List ℕ
  last_half h v x = F.half h (paef_tweak nonce (paef_body (full n (length x))) v) (pad n x)

  module _ (s : Sum) (x : List ℕ) (hs : SumOk n s) (hx : Bytes x) (h : length x ≤ n) where
    end_block_lem : take n (seal_last n P s x) ≡ last_half 0 s.number x ⊕ s.sum
    unfolding end_block paef sum_half sum_tweak
    end_block_lem = block_of_end n P (SumOk n) lawful s x (length x) hs hx refl h

    end_tag_lem : drop n (seal_last n P s x) ≡ take (length x) (last_half 1 s.number x)
    unfolding end_tag paef sum_half sum_tweak
    end_tag_lem = tag_of_end n P (SumOk n) lawful s x (length x) hs hx refl h

  module _ (header : List ℕ) (hh : Bytes header) where
    abbrev pub begun : Sum
    begun = headed n P false header

    pub begun_ok : SumOk n begun
    begun_ok = headed_ok n P (SumOk n) lawful false header hh

    -- the run of a body that is not empty, m being the number of its last block
    module _ (b : List ℕ) (hb : Bytes b) (some : 0 < length b) (m : ℕ) (last : m ≡ before_last n (length b)) where
      abbrev run : List ℕ
      run = seal_run n P header b

      abbrev x : List ℕ
      x = block_at n m b

      pub middle : (i : ℕ) → i < m → block_at n i run ≡ F.half 0 (paef_tweak nonce 4 (begun.number + i)) (block_at n i b)
      unfolding paef sum_half sum_tweak
      middle i h =
          run_block n P (SumOk n) lawful header hh b hb some m last i h
          ∙ ap (λ (v : ℕ). F.half 0 (paef_tweak nonce 4 v) (block_at n i b)) (number_after i begun b)

      -- ---- the end

      abbrev s : Sum
      s = after n P m begun b

      pub last_ok : SumOk n s
      last_ok = after_ok n P (SumOk n) lawful m _ begun b begun_ok (sized n P (SumOk n) lawful header hh b hb some m last)

      pub last_bytes : Bytes x
      unfolding block_at
      last_bytes = bytes_take n _ (bytes_drop (m * n) b hb)

      tail : length (drop (m * n) b) ≤ n
      tail = let (r, e, h) = last_size n P (SumOk n) lawful header hh b hb some m last in simp length-drop (omega arith)

      x_is : drop (m * n) b ≡ x
      unfolding block_at
      x_is = sym (take_all n (drop (m * n) b) tail)

      short : length x ≤ n
      short = subst (λ (z : List ℕ). length z ≤ n) x_is tail

      end : drop (m * n) run ≡ seal_last n P s x
      end = run_end n P (SumOk n) lawful header hh b hb some m last ∙ ap (seal_last n P s) x_is

      pub c_star : block_at n m run ≡ last_half 0 (begun.number + m) x ⊕ s.sum
      unfolding block_at
      c_star = ap (take n) end ∙ end_block_lem s x last_ok last_bytes short ∙ ap (λ (v : ℕ). last_half 0 v x ⊕ s.sum) (number_after m begun b)

      pub tag_bytes : behind n m run ≡ take (length x) (last_half 1 (begun.number + m) x)
      unfolding behind
      tag_bytes =
          let e : suc m * n ≡ m * n + n = omega (arith, suc-mul m n) in
          ap (λ (k : ℕ). drop k run) e
          ∙ sym (drop-drop n (m * n) run)
          ∙ ap (drop n) end
          ∙ end_tag_lem s x last_ok last_bytes short
          ∙ ap (λ (v : ℕ). take (length x) (last_half 1 v x)) (number_after m begun b)
