-- What one changed block moves (C-23), on the definition that the contract of seal cites. Two bodies are sealed under one scheme, key, nonce and
-- header within the rules: seal answers both with 0, so that they are within the limit, and writes two runs. Bodies and runs are cut into blocks
-- of n bytes, block i being `block_at n i`, from 0 on; the words are in modes' specs/Changes.antt. Assumes nothing.
use mathlib.Core.Path.{◌≡◌}
use Prim.Native.Nat.{ℕ, ◌*◌, ◌<◌}
use mathlib.Core.List.{List}
use lib.ListN.{length}
use Rattle.cells.specs.Cells.{Bytes}
use Rattle.ciphers.specs.Ciphers.{block_of}
use Rattle.modes.specs.Blocks.{before_last}
use Rattle.modes.specs.Changes.{AgreeTo, DifferAt, MovedAt}
use Rattle.states.specs.declared.Kind.TheVariants.{Paef}
use Rattle.schemes.specs.declared.Scheme.{Scheme}
use Rattle.sealing.specs.Calls.{Told, written, seal_of}
use Rattle.sealing.specs.Demands.{Admitted}
use Rattle.sealing.proofs.Moved.{written_moves, written_agrees}

module _ (number : ℕ) (s : Scheme) (key nonce header : List ℕ) (ok : Admitted number s key nonce header) (a b room room' : List ℕ) (ha : Bytes a)
    (hb : Bytes b) where
  abbrev n : ℕ
  n = block_of s.cipher

  -- the number of the last block
  abbrev m : ℕ
  m = before_last n (length a)

  abbrev t : Told
  t = seal_of number key nonce header a room

  abbrev u : Told
  u = seal_of number key nonce header b room'

  -- PAEF, schemes 1 and 2: two bodies of equal length that differ in exactly one block, not the last, give runs that differ in that block and in
  -- the block sealed from the body's last one, and agree in every other byte, the trailing tag bytes included
  pub paef_one_block : s.kind ≡ Paef → t.number ≡ 0 → u.number ≡ 0
      → (j : ℕ) → j < m → DifferAt n j a b → MovedAt n j m (written t) (written u)
  paef_one_block = written_moves number s key nonce header ok a b room room' ha hb

  -- SAEF, scheme 3, and every other scheme too: two bodies that agree in their first k blocks, both longer than k blocks, of equal length or not,
  -- give runs that agree in the first k blocks
  pub first_blocks : t.number ≡ 0 → u.number ≡ 0
      → (k : ℕ) → k * n < length a → k * n < length b → AgreeTo n k a b → AgreeTo n k (written t) (written u)
  first_blocks = written_agrees number s key nonce header ok a b room room' ha hb
