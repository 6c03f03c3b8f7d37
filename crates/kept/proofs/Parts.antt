-- The share that a key gives, and the word of a tweak, are the parts of the tweakey of both; what is then laid, and kept. Assumes nothing.
use mathlib.Core.Path.{◌≡◌, refl, ap, ◌∙◌}
use mathlib.Core.List.{List}
use Prim.Native.Nat.{ℕ, ◌+◌, ◌*◌, ◌<◌, ◌≤◌}
use native.Mathlib.Omega.{arith}
use lib.ListN.{length, get_or}
use Rattle.cells.specs.Cells.{Bytes, Nibble, Byte, Two, Three}
use Rattle.cells.proofs.Tabs.{agree}
use Rattle.schedule.specs.declared.Tweakey.{Tweakey}
use Rattle.schedule.specs.Schedule.{RoundKeys}
use Rattle.schedule.specs.Share.{share_cell, tweak_at, Parts}
use Rattle.ciphers.specs.declared.Cipher.{Cipher}
use Rattle.ciphers.specs.declared.Cipher.TheVariants.{N64T192, N128T256}
use Rattle.ciphers.specs.Ciphers.{width_of, words_of, key_cells, tweak_cells, tk}
use Rattle.ciphers.proofs.Laws.{tk_at, tk_low}
use Rattle.kept.specs.Kept.{TurnedTo}
use Rattle.prepared.specs.Prepared.{unmoving, key_in, Made}
use Rattle.prepared.proofs.Found.{key_block}
use Rattle.prepared.proofs.Loops.{shares_at}

-- the key's words do not depend on the tweak
key_words : (c : Cipher) (key a b : List ℕ) (k j : ℕ) → j < 16
    → share_cell (width_of c) (words_of c) (key_cells c key a) k j ≡ share_cell (width_of c) (words_of c) (key_cells c key b) k j
key_words N64T192 key a b k = agree (share_cell Nibble Three (key_cells N64T192 key a) k) (share_cell Nibble Three (key_cells N64T192 key b) k) 16 refl
key_words N128T256 key a b k = agree (share_cell Byte Two (key_cells N128T256 key a) k) (share_cell Byte Two (key_cells N128T256 key b) k) 16 refl

-- the last word is the tweak's
tweak_word : (c : Cipher) (key tweak : List ℕ) (j : ℕ) → j < 16 → get_or (key_cells c key tweak) (tweak_at (words_of c) + j) 0 ≡ get_or (tweak_cells c tweak) j 0
unfolding tweak_cells
tweak_word N64T192 key tweak = agree (λ j. get_or (key_cells N64T192 key tweak) (32 + j) 0) (λ j. get_or (tweak_cells N64T192 tweak) j 0) 16 refl
tweak_word N128T256 key tweak = agree (λ j. get_or (key_cells N128T256 key tweak) (16 + j) 0) (λ j. get_or (tweak_cells N128T256 tweak) j 0) 16 refl

pub parts : (c : Cipher) (share tweak : List ℕ) → Made c share → Bytes tweak
    → Parts (width_of c) (words_of c) (tk c (key_in c share) tweak) share (tweak_cells c tweak)
unfolding tk
parts c share tweak e b =
    let key = key_in c share in record {
      first = tk_at c key tweak;
      low = tk_low c key tweak (key_block c share).bytes b;
      key = λ k j p q.
          ap (λ (l : List ℕ). get_or l (16 * k + j) 0) e ∙ shares_at c (key_cells c key unmoving) k j p q ∙ key_words c key unmoving tweak k j q;
      word = tweak_word c key tweak;
    }

-- ---- what is kept

pub laid_anew
    : (c : Cipher) (share tweak : List ℕ) {keys : List (List ℕ)} (m : ℕ) → 0 < m → m ≤ 87 → Made c share → Bytes tweak → length tweak ≡ 16 → length keys ≡ 97
    → ((t : Tweakey) → Parts (width_of c) (words_of c) t share (tweak_cells c tweak) → RoundKeys (width_of c) (words_of c) m t keys)
    → TurnedTo c share tweak m (record { tweak = tweak; rounds = m }) keys
laid_anew c share tweak m some h e b w l laid = record {
  tweaked = refl;
  enough = omega arith;
  keeps = record {
    wide = w;
    most = h;
    long = l;
    keyed = laid (tk c (key_in c share) tweak) (parts c share tweak e b);
  };
}
