-- The tweakey schedule: words of sixteen cells one after the other in a room of three, how they go from round to round, and
-- what a round takes of them. "01" is the desk's document 01, "ForkSkinny, the cells"; "F.1" is appendix F.1 of the
-- Forkcipher paper. A tweakey of two words leaves the rest of the room as it is. Assumes nothing.
use Rattle.std.specs.Prelude.{◌≡◌, ℕ, zero, suc, ◌+◌, ◌<◌, List, [], ◌∷◌, ◌++◌, get_or, set}
use Rattle.std.specs.Int.Bits.{bit_xor}
use Rattle.cells.specs.Cells.{Width, Words, Two, Three, LowCells, step2, step3}
use Rattle.constants.specs.Constants.{constant, constant_row}
use Rattle.schedule.specs.declared.Tweakey.{Tweakey}

-- ---- what a round takes: the top two rows of every word, xored (01, Tweakey; F.1, figure 19)

-- cell k of every word, xored
abbrev pub key_cell : Words → List ℕ → ℕ → ℕ
key_cell Two t k = bit_xor (get_or t k 0) (get_or t (16 + k) 0)
key_cell Three t k = bit_xor (bit_xor (get_or t k 0) (get_or t (16 + k) 0)) (get_or t (32 + k) 0)

abbrev pub key_row : Words → List ℕ → List ℕ
key_row n t =
    key_cell n t 0 ∷ key_cell n t 1 ∷ key_cell n t 2 ∷ key_cell n t 3
    ∷ key_cell n t 4 ∷ key_cell n t 5 ∷ key_cell n t 6 ∷ key_cell n t 7 ∷ []

unfoldable pub round_key : Words → List ℕ → List ℕ
round_key n t = key_row n t

-- ---- from round to round (01, Tweakey; F.1)

-- the word at o permuted: new cell k is old cell 9,15,8,13,10,14,12,11,0,1,2,3,4,5,6,7
abbrev pub permuted : ℕ → List ℕ → List ℕ
permuted o t =
    get_or t (o + 9) 0 ∷ get_or t (o + 15) 0 ∷ get_or t (o + 8) 0 ∷ get_or t (o + 13) 0
    ∷ get_or t (o + 10) 0 ∷ get_or t (o + 14) 0 ∷ get_or t (o + 12) 0 ∷ get_or t (o + 11) 0
    ∷ get_or t (o + 0) 0 ∷ get_or t (o + 1) 0 ∷ get_or t (o + 2) 0 ∷ get_or t (o + 3) 0
    ∷ get_or t (o + 4) 0 ∷ get_or t (o + 5) 0 ∷ get_or t (o + 6) 0 ∷ get_or t (o + 7) 0 ∷ []

-- the word at o as it is
abbrev pub unmoved : ℕ → List ℕ → List ℕ
unmoved o t =
    get_or t (o + 0) 0 ∷ get_or t (o + 1) 0 ∷ get_or t (o + 2) 0 ∷ get_or t (o + 3) 0
    ∷ get_or t (o + 4) 0 ∷ get_or t (o + 5) 0 ∷ get_or t (o + 6) 0 ∷ get_or t (o + 7) 0
    ∷ get_or t (o + 8) 0 ∷ get_or t (o + 9) 0 ∷ get_or t (o + 10) 0 ∷ get_or t (o + 11) 0
    ∷ get_or t (o + 12) 0 ∷ get_or t (o + 13) 0 ∷ get_or t (o + 14) 0 ∷ get_or t (o + 15) 0 ∷ []

-- every word permuted
abbrev pub permuted_words : Words → List ℕ → List ℕ
permuted_words Two t = permuted 0 t ++ permuted 16 t ++ unmoved 32 t
permuted_words Three t = permuted 0 t ++ permuted 16 t ++ permuted 32 t

-- the m cells from o on, each stepped by f
unfoldable pub stepped : (ℕ → ℕ) → ℕ → ℕ → List ℕ → List ℕ
stepped f o zero t = t
stepped f o (suc m) t = set (stepped f o m t) (o + m) (f (get_or (stepped f o m t) (o + m) 0))

-- then the top two rows of word 2 and word 3 stepped
abbrev pub stepped_words : Width → Words → List ℕ → List ℕ
stepped_words w Two t = stepped (step2 w) 16 8 t
stepped_words w Three t = stepped (step3 w) 32 8 (stepped (step2 w) 16 8 t)

unfoldable pub next_cells : Width → Words → List ℕ → List ℕ
next_cells w n t = stepped_words w n (permuted_words n t)

abbrev pub next : Width → Words → Tweakey → Tweakey
next w n t = record { cells = next_cells w n t.cells; at = t.at + 1 }

-- the tweakey m rounds on: TKS of figure 4
unfoldable pub advance : Width → Words → ℕ → Tweakey → Tweakey
advance w n zero t = t
advance w n (suc m) t = next w n (advance w n m t)

-- ---- what the first m rounds from the tweakey t xor into the top two rows of the state: constant and key

-- eight cells of two rows, xored
abbrev pub xor_row : List ℕ → List ℕ → List ℕ
xor_row a b =
    bit_xor (get_or a 0 0) (get_or b 0 0) ∷ bit_xor (get_or a 1 0) (get_or b 1 0) ∷ bit_xor (get_or a 2 0) (get_or b 2 0) ∷ bit_xor (get_or a 3 0) (get_or b 3 0)
    ∷ bit_xor (get_or a 4 0) (get_or b 4 0) ∷ bit_xor (get_or a 5 0) (get_or b 5 0) ∷ bit_xor (get_or a 6 0) (get_or b 6 0) ∷ bit_xor (get_or a 7 0) (get_or b 7 0) ∷ []

-- laid out one after the other; the tweakey's cells are of the width
pub record RoundKeys (w : Width) (n : Words) (m : ℕ) (t : Tweakey) (keys : List (List ℕ)) : Type 0 where
  pub first : t.at ≡ 0
  pub low : LowCells w t.cells
  pub at : (i : ℕ) → i < m → get_or keys i [] ≡ xor_row (constant_row (constant i)) (round_key n (advance w n i t).cells)
