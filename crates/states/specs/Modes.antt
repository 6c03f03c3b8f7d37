-- The modes by name, over ForkSkinny, and what their blocks cost. Assumes nothing.
use Rattle.std.specs.Prelude.{ℕ, Bool, true, false, List, take, replicate}
use Rattle.ciphers.specs.declared.Cipher.{Cipher}
use Rattle.ciphers.specs.Ciphers.{block_of}
use Rattle.modes.specs.Forkcipher.{half0, both_halves}
use Rattle.modes.specs.Mode.{Mode}
use Rattle.modes.specs.Eevee.{Chain}
use Rattle.modes.specs.Jolteon.{jolteon}
use Rattle.modes.specs.Paef.{Sum, paef}
use Rattle.modes.specs.Rounds.{rounds_by}
use Rattle.modes.specs.Saef.{Mask, saef}
use Rattle.modes.specs.Umbreon.{umbreon}
use Rattle.states.specs.declared.Kind.{Kind}
use Rattle.states.specs.declared.Kind.TheVariants.{Paef, Saef, Umbreon, Jolteon}
use Rattle.states.specs.declared.Prices.{Prices}
use Rattle.states.specs.declared.State.{State}
use Rattle.states.specs.Skinny.{skinny, cost_of}

-- what a mode carries from block to block
abbrev pub Carried : Kind → Type 0
Carried Paef = Sum
Carried Saef = Mask
Carried Umbreon = Chain
Carried Jolteon = Chain

-- a mode, under a cipher, a key and a nonce
abbrev pub mode_of : (k : Kind) → Cipher → List ℕ → List ℕ → Mode (Carried k)
mode_of Paef c key nonce = paef (block_of c) (skinny c key) nonce
mode_of Saef c key nonce = saef (block_of c) (skinny c key) nonce
mode_of Umbreon c key nonce = umbreon (block_of c) (skinny c key) nonce
mode_of Jolteon c key nonce = jolteon (block_of c) (skinny c key) nonce

-- bytes of a tweak behind the nonce
abbrev pub tail_of : Kind → ℕ
tail_of Paef = 2
tail_of Saef = 1
tail_of Umbreon = 2
tail_of Jolteon = 2

-- does the last block of a run come before the leading bytes of the second (001, figure 5, enc 38, and figure 8, enc 34), or behind them (000,
-- figure 9, line 75)
abbrev pub block_first : Kind → Bool
block_first Paef = true
block_first Saef = true
block_first Umbreon = false
block_first Jolteon = false

-- has the mode a run for an empty header and an empty body: 001 works one padded block (figure 5, enc 14, and figure 8, enc 16), and 000 has none
-- (figure 9, lines 29 and 30)
abbrev pub takes_blank : Kind → Bool
takes_blank Paef = true
takes_blank Saef = true
takes_blank Umbreon = false
takes_blank Jolteon = false

-- the code's record before the header: what every mode carries there
abbrev pub beginning : State
beginning = record { mask = replicate 16 0; delta = replicate 16 0; number = 1; first = true }

-- what the code's record carries of a mode of the Eevee family
abbrev pub chain_of : ℕ → State → Chain
chain_of n s = record { link = take n s.mask; delta = take n s.delta; number = s.number }

-- what the code's record carries of it: of sixteen bytes the first n count
abbrev pub state_of : (k : Kind) → ℕ → State → Carried k
state_of Paef n s = record { sum = take n s.mask; number = s.number }
state_of Saef n s = record { delta = take n s.mask; first = s.first }
state_of Umbreon n s = chain_of n s
state_of Jolteon n s = chain_of n s

-- the rounds of a header block, of a body block that is not the last, and of the last one, by what they ask for
abbrev pub prices_of : Kind → Cipher → Prices
prices_of Paef c = record { head = cost_of c half0; block = cost_of c both_halves; last = cost_of c both_halves }
prices_of Saef c = record { head = cost_of c half0; block = cost_of c both_halves; last = cost_of c both_halves }
prices_of Umbreon c = record { head = cost_of c half0; block = cost_of c both_halves; last = cost_of c both_halves }
prices_of Jolteon c = record { head = cost_of c half0; block = cost_of c half0; last = cost_of c both_halves }

-- of a record, by the lengths of header and body
unfoldable pub rounds_of : Kind → Cipher → (header body : ℕ) → ℕ
rounds_of k c header body = let p = prices_of k c in rounds_by (block_of c) p.head p.block p.last header body
