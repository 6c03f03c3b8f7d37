-- The ways of a block through the cipher, there and back: the rounds before the fork, and a branch. Once over the cipher and the
-- branch, and so over the width and the half. Assumes nothing.
use mathlib.Core.Path.{◌≡◌, refl, sym, ap, ◌∙◌}
use mathlib.Core.List.{List}
use Prim.Native.Nat.{ℕ, ◌*◌, ◌/◌, ◌%◌}
use native.Mathlib.Omega.{arith}
use lib.ListN.{length}
use Rattle.cells.specs.Cells.{Width, Nibble, Byte, Words, Bytes, Block, LowCells}
use Rattle.cells.specs.Tabs.{tab}
use Rattle.cells.proofs.Tabs.{tab_low}
use Rattle.schedule.specs.declared.Tweakey.{Tweakey}
use Rattle.schedule.specs.Schedule.{advance}
use Rattle.schedule.proofs.Low.{advance_low}
use Rattle.rounds.specs.State.{State, cell}
use Rattle.rounds.proofs.Undo.{Cells}
use Rattle.runs.specs.Runs.{rounds, unrounds}
use Rattle.runs.proofs.Undo.{rounds_cells, unrounds_cells, unrounds_rounds, rounds_unrounds}
use Rattle.ciphers.specs.declared.Cipher.{Cipher}
use Rattle.ciphers.specs.Ciphers.{width_of, words_of, init_of, branch_of, load, unload, counted, pair}
use Rattle.ciphers.proofs.Laws.{append_low, load_cells, load_unload, unload_load, branch_branch, branch_cells}
use Rattle.forkskinny.specs.declared.Branch.{Branch}
use Rattle.forkskinny.specs.declared.Branch.TheVariants.{Near, Far}
use Rattle.forkskinny.specs.ForkSkinny.{start_of, enter, forked, branch, unbranch, unforked}

-- ---- cells make a block

-- eight pairs of nibbles and eight zeros, or sixteen cells
unload_bytes : (w : Width) (s : State) → Cells w s → Bytes (unload w s)
unfolding unload
unload_bytes Nibble s h = record {
  at =
      append_low Byte (tab (λ (k : ℕ). pair s (k / 2) (k % 2 * 2)) 0 8) (tab (λ (k : ℕ). 0) 0 8)
      (tab_low Byte (λ k. pair s (k / 2) (k % 2 * 2)) (λ k. omega arith) 8 0) (tab_low Byte (λ k. 0) (λ k. omega arith) 8 0);
}
unload_bytes Byte s h = record { at = tab_low Byte (λ k. cell s (k / 4) (k % 4)) (λ k. h.low (k / 4) (k % 4)) 16 0 }

pub unload_long : (w : Width) (s : State) → length (unload w s) ≡ 16
unfolding unload
unload_long Nibble s = refl
unload_long Byte s = refl

pub unload_counted : (w : Width) (s : State) → counted w (unload w s) ≡ unload w s
unfolding unload
unload_counted Nibble s = refl
unload_counted Byte s = refl

unload_block : (w : Width) (s : State) → Cells w s → Block 16 (unload w s)
unload_block w s h = record { long = unload_long w s; bytes = unload_bytes w s h }

-- ---- the branch constant, on the branch that has it

enter_enter : (w : Width) (b : Branch) (s : State) → Cells w s → enter w b (enter w b s) ≡ s
enter_enter w Near s h = refl
enter_enter w Far s h = branch_branch w s h

enter_cells : (w : Width) (b : Branch) (s : State) → Cells w s → Cells w (enter w b s)
enter_cells w Near s h = h
enter_cells w Far s h = branch_cells w s h

module _ (c : Cipher) where
  abbrev w : Width
  w = width_of c

  abbrev n : Words
  n = words_of c

  -- ---- the rounds before the fork

  -- what doesn't count of a block isn't read
  pub forked_counted : (t : Tweakey) (m : List ℕ) → Block 16 m → forked c t (counted w m) ≡ forked c t m
  unfolding forked
  forked_counted t m h =
      ap (rounds w n (init_of c) t)
      (ap (load w) (sym (unload_load w m h.long h.bytes)) ∙ load_unload w (load w m) (load_cells w m h.bytes))

  module _ (t : Tweakey) (k : LowCells w t.cells) where
    pub forked_cells : (m : List ℕ) → Block 16 m → Cells w (forked c t m)
    unfolding forked
    forked_cells m h = rounds_cells w n (init_of c) t _ k (load_cells w m h.bytes)

    pub unforked_block : (s : State) → Cells w s → Block 16 (unforked c t s)
    unfolding unforked
    unforked_block s h = unload_block w _ (unrounds_cells w n (init_of c) t s k h)

    pub unforked_forked : (m : List ℕ) → Block 16 m → unforked c t (forked c t m) ≡ counted w m
    unfolding forked unforked
    unforked_forked m h =
        ap (unload w) (unrounds_rounds w n (init_of c) t _ k (load_cells w m h.bytes)) ∙ unload_load w m h.long h.bytes

    pub forked_unforked : (s : State) → Cells w s → forked c t (unforked c t s) ≡ s
    unfolding forked unforked
    forked_unforked s h =
        ap (rounds w n (init_of c) t) (load_unload w _ (unrounds_cells w n (init_of c) t s k h))
        ∙ rounds_unrounds w n (init_of c) t s k h

    -- ---- a branch

    module _ (b : Branch) where
      -- the tweakey at its start
      abbrev u : Tweakey
      u = advance w n (start_of c b) t

      low : LowCells w u.cells
      low = advance_low w n (start_of c b) t k

      -- the states at its end, and back at its start
      end_cells : (s : State) → Cells w s → Cells w (rounds w n (branch_of c) u (enter w b s))
      end_cells s h = rounds_cells w n (branch_of c) u _ low (enter_cells w b s h)

      start_cells : (x : List ℕ) → Block 16 x → Cells w (unrounds w n (branch_of c) u (load w x))
      start_cells x h = unrounds_cells w n (branch_of c) u _ low (load_cells w x h.bytes)

      pub branch_block : (s : State) → Cells w s → Block 16 (branch c b t s)
      unfolding branch
      branch_block s h = unload_block w _ (end_cells s h)

      pub unbranch_cells : (x : List ℕ) → Block 16 x → Cells w (unbranch c b t x)
      unfolding unbranch
      unbranch_cells x h = enter_cells w b _ (start_cells x h)

      pub unbranch_branch : (s : State) → Cells w s → unbranch c b t (branch c b t s) ≡ s
      unfolding branch unbranch
      unbranch_branch s h =
          ap (λ (y : State). enter w b (unrounds w n (branch_of c) u y)) (load_unload w _ (end_cells s h))
          ∙ ap (enter w b) (unrounds_rounds w n (branch_of c) u _ low (enter_cells w b s h))
          ∙ enter_enter w b s h

      pub branch_unbranch : (x : List ℕ) → Block 16 x → branch c b t (unbranch c b t x) ≡ counted w x
      unfolding branch unbranch
      branch_unbranch x h =
          ap (λ (y : State). unload w (rounds w n (branch_of c) u y)) (enter_enter w b _ (start_cells x h))
          ∙ ap (unload w) (rounds_unrounds w n (branch_of c) u _ low (load_cells w x h.bytes))
          ∙ unload_load w x h.long h.bytes
