-- PAEF over a forkcipher under one key (001, figure 5; "enc" and "dec" cite the lines of its two functions, those marked with a
-- diamond and those without a mark). Assumes nothing.
use Rattle.std.specs.Prelude.{ℕ, ◌+◌, ◌*◌, Bool, true, false, List, ◌++◌, replicate}
use Rattle.modes.specs.Blocks.{◌⊕◌, be16}
use Rattle.modes.specs.Forkcipher.{Fork, Want, half0, both_halves, both_back, Call, asks}
use Rattle.modes.specs.Mode.{Mode}

-- S, and the number i of the next block
pub record Sum : Type 0 where
  pub sum : List ℕ
  pub number : ℕ

-- N, three bits of flag, thirteen of number (enc 6, 11, 15, 20, 28, 31); within a scheme's limits thirteen are enough, which is a theorem
-- (`paef_distinct` in proofs/PaefTweaks.antt)
unfoldable pub paef_tweak : List ℕ → ℕ → ℕ → List ℕ
paef_tweak nonce flag number = nonce ++ be16 (flag * 8192 + number)

-- the flag of the last header block: 001 full, 011 padded (enc 11 and 15)
unfoldable pub paef_head : Bool → ℕ
paef_head true = 1
paef_head false = 3

-- and of the last body block: 101 full, 111 padded (enc 28 and 31)
unfoldable pub paef_body : Bool → ℕ
paef_body true = 5
paef_body false = 7

module _ (n : ℕ) (F : Fork) (nonce : List ℕ) where
  -- T, for a block with a flag
  unfoldable pub sum_tweak : ℕ → Sum → List ℕ
  sum_tweak flag s = paef_tweak nonce flag s.number

  -- half h of a block, F^{T,h}(X); and back from half 0: F^{-1,T,0}(C)
  unfoldable pub sum_half : ℕ → ℕ → Sum → List ℕ → List ℕ
  sum_half h flag s x = F.half h (sum_tweak flag s) x

  unfoldable pub sum_input : ℕ → Sum → List ℕ → List ℕ
  sum_input flag s c = F.input 0 (sum_tweak flag s) c

  unfoldable pub sum_other : ℕ → Sum → List ℕ → List ℕ
  sum_other flag s c = F.other 0 (sum_tweak flag s) c

  -- the block call that a block with a flag asks for
  unfoldable pub sum_asks : Want → ℕ → Sum → List ℕ → Call
  sum_asks want flag s x = asks want (sum_tweak flag s) x

  -- S ⊕ F^{T,0}(A) (enc 8, 13, 17)
  unfoldable pub head_sum : ℕ → Sum → List ℕ → List ℕ
  head_sum flag s x = s.sum ⊕ sum_half 0 flag s x

  unfoldable pub paef : Mode Sum
  paef = record {
    -- enc 4 to 17: the numbers begin at 1 in the header, and again in the body
    start = record { sum = replicate n 0; number = 1 };
    head = λ s x. record { sum = head_sum 0 s x; number = s.number + 1 };
    head_last = λ noM full s x. record { sum = head_sum (paef_head full) s x; number = 1 };
    -- enc 20 to 22, flag 100
    out = λ s x. sum_half 0 4 s x;
    next = λ s x. record { sum = s.sum ⊕ sum_half 1 4 s x; number = s.number + 1 };
    -- enc 36 and 37
    fin = λ full s x. sum_half 0 (paef_body full) s x ⊕ s.sum;
    tag = λ full s x. sum_half 1 (paef_body full) s x;
    -- enc 34
    alone = λ s. s.sum;
    -- dec 20 to 22
    back = λ s c. sum_input 4 s c;
    back_next = λ s c. record { sum = s.sum ⊕ sum_other 4 s c; number = s.number + 1 };
    -- dec 37 and 38, with S added once
    unfin = λ full s c. sum_input (paef_body full) s (c ⊕ s.sum);
    untag = λ full s c. sum_other (paef_body full) s (c ⊕ s.sum);
    -- enc 38
    block_first = true;
    -- F^{T,0} (enc 8; 13 and 17; dec likewise)
    head_asks = λ s x. sum_asks half0 0 s x;
    head_last_asks = λ noM full s x. sum_asks half0 (paef_head full) s x;
    -- F^{T,b} (enc 21; 36)
    seal_asks = λ s x. sum_asks both_halves 4 s x;
    seal_last_asks = λ full s x. sum_asks both_halves (paef_body full) s x;
    -- F^{-1,T,0,b} (dec 21; 38)
    open_asks = λ s c. sum_asks both_back 4 s c;
    open_last_asks = λ full s c. sum_asks both_back (paef_body full) s (c ⊕ s.sum);
  }
