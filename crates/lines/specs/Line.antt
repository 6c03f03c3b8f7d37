-- The one line that the desk's program prints (01, The desk's program): the answer number, the length, the output in lower-case
-- hex, or `-` where there is none. Texts are lists of ASCII codes. Assumes nothing.
use Rattle.std.specs.Prelude.{ℕ, zero, suc, ◌/◌, ◌%◌, cond, List, [], ◌∷◌, ◌++◌, ◌≡◌, ltb, length, drop}
use Rattle.io.specs.Digits.{hex_digit_ascii}

-- a number of at most k digits in decimal, with no zeros in front
unfoldable pub digits_of : ℕ → ℕ → List ℕ
digits_of zero n = []
digits_of (suc k) n = cond (ltb n 10) (hex_digit_ascii n ∷ []) (digits_of k (n / 10) ++ (hex_digit_ascii (n % 10) ∷ []))

-- a number of 64 bits has at most twenty digits
abbrev pub decimal_of : ℕ → List ℕ
decimal_of n = digits_of 20 n

-- two digits for each byte
unfoldable pub hex_of : List ℕ → List ℕ
hex_of [] = []
hex_of (b ∷ bs) = hex_digit_ascii (b / 16) ∷ hex_digit_ascii (b % 16) ∷ hex_of bs

-- a number and a space
abbrev pub field_of : ℕ → List ℕ
field_of n = decimal_of n ++ (32 ∷ [])

-- the output in hex, or `-`, and the line's end
unfoldable pub output_of : List ℕ → List ℕ
output_of [] = 45 ∷ 10 ∷ []
output_of (b ∷ bs) = hex_of (b ∷ bs) ++ (10 ∷ [])

abbrev pub line_of : ℕ → ℕ → List ℕ → List ℕ
line_of number l output = (field_of number ++ field_of l) ++ output_of output

-- what is said stands at the front of a text, r bytes of it, and the rest is as it was
abbrev pub Puts : List ℕ → ℕ → List ℕ → List ℕ → Type 0
Puts said r old new = (r ≡ length said) × (new ≡ said ++ drop r old)
