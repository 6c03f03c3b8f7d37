-- The schemes: their ciphers, modes, sizes and limits (01, the desk's document 01, the table of schemes; C-14). Assumes nothing.
use Rattle.std.specs.Prelude.{◌≡◌, List, [], ◌∷◌, ℕ, zero, suc, ◌+◌, ◌≤◌, Option, Some, None}
use Rattle.ciphers.specs.declared.Cipher.TheVariants.{N64T192, N128T256}
use Rattle.ciphers.specs.Ciphers.{block_of}
use Rattle.states.specs.declared.Kind.TheVariants.{Paef, Saef, Umbreon, Jolteon}
use Rattle.states.specs.Modes.{tail_of}
use Rattle.schemes.specs.declared.Scheme.{Scheme}

-- PAEF numbers blocks in thirteen bits: a header and a body have at most 8,191 of them (01, What a caller is told, 3)
abbrev pub scheme1 : Scheme
scheme1 = record { cipher = N64T192; kind = Paef; key = 16; nonce = 6; header = 65528; body = 65528 }

abbrev pub scheme2 : Scheme
scheme2 = record { cipher = N128T256; kind = Paef; key = 16; nonce = 14; header = 131056; body = 131056 }

-- SAEF numbers none: at most 1,048,576 bytes (C-12)
abbrev pub scheme3 : Scheme
scheme3 = record { cipher = N128T256; kind = Saef; key = 16; nonce = 15; header = 1048576; body = 1048576 }

-- Umbreon and Jolteon (C-14) number in fourteen bits the header's blocks but the last, from 5 on, and in fifteen the body's but the last, from 2 on
-- (000, figure 9, lines 20 and 50): 16,380 and 32,767 blocks with the last
abbrev pub scheme4 : Scheme
scheme4 = record { cipher = N64T192; kind = Umbreon; key = 16; nonce = 6; header = 131040; body = 262136 }

abbrev pub scheme5 : Scheme
scheme5 = record { cipher = N64T192; kind = Jolteon; key = 16; nonce = 6; header = 131040; body = 262136 }

abbrev pub scheme6 : Scheme
scheme6 = record { cipher = N128T256; kind = Umbreon; key = 16; nonce = 14; header = 262080; body = 524272 }

abbrev pub scheme7 : Scheme
scheme7 = record { cipher = N128T256; kind = Jolteon; key = 16; nonce = 14; header = 262080; body = 524272 }

-- the schemes in the order of their numbers, which begin with 1
abbrev pub table : List Scheme
table =
    scheme1
    ∷ scheme2
    ∷ scheme3
    ∷ scheme4
    ∷ scheme5
    ∷ scheme6
    ∷ scheme7
    ∷ []

abbrev pub row : List Scheme → ℕ → Option Scheme
row [] i = None
row (s ∷ rows) zero = Some s
row (s ∷ rows) (suc i) = row rows i

-- the scheme that a number names
unfoldable pub scheme_of : ℕ → Option Scheme
scheme_of zero = None
scheme_of (suc i) = row table i

-- a number names a scheme, of which this holds
abbrev pub Under : ℕ → (Scheme → Type 0) → Type 0
Under number P = (s : Scheme) × (scheme_of number ≡ Some s) × P s

-- what the walks ask of a scheme: a key of sixteen bytes, a nonce that fills the tweak, limits within which the rounds are a number of 32 bits
pub record Fits (s : Scheme) : Type 0 where
  pub key : s.key ≡ 16
  pub nonce : s.nonce + tail_of s.kind ≡ block_of s.cipher
  pub header : s.header ≤ 16777216
  pub body : s.body ≤ 16777216
