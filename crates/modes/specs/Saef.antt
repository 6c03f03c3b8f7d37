-- SAEF over a forkcipher under one key (001, figure 8; "enc" and "dec" cite the lines of its two functions). Assumes nothing.
use Rattle.std.specs.Prelude.{ℕ, ◌+◌, Bool, true, false, List, [], ◌∷◌, ◌++◌, length, replicate}
use Rattle.modes.specs.Blocks.{◌⊕◌}
use Rattle.modes.specs.Forkcipher.{Fork, Want, half0, both_halves, both_back, Call, asks}
use Rattle.modes.specs.Mode.{Mode}

-- Δ, and whether no block was worked yet
pub record Mask : Type 0 where
  pub delta : List ℕ
  pub first : Bool

-- the first block's T: N, 0000, 1 and the flag; every other's: zeros and the flag (enc 6, 10, 15, 19, 24)
unfoldable pub saef_tweak : List ℕ → Bool → ℕ → List ℕ
saef_tweak nonce true flag = nonce ++ ((8 + flag) ∷ [])
saef_tweak nonce false flag = replicate (length nonce) 0 ++ (flag ∷ [])

-- the flag of the last header block: noM, then 10 full, 11 padded (enc 13 and 17)
unfoldable pub saef_head : (noM full : Bool) → ℕ
saef_head false true = 2
saef_head false false = 3
saef_head true true = 6
saef_head true false = 7

-- and of the last body block: 100 full, 101 padded (enc 27 and 29)
unfoldable pub saef_body : Bool → ℕ
saef_body true = 4
saef_body false = 5

module _ (n : ℕ) (F : Fork) (nonce : List ℕ) where
  -- T, for a block with a flag
  unfoldable pub mask_tweak : ℕ → Mask → List ℕ
  mask_tweak flag s = saef_tweak nonce s.first flag

  -- half h of the masked block, F^{T,h}(X ⊕ Δ); and back from half 0: F^{-1,T,0}(C ⊕ Δ)
  unfoldable pub mask_half : ℕ → ℕ → Mask → List ℕ → List ℕ
  mask_half h flag s x = F.half h (mask_tweak flag s) (x ⊕ s.delta)

  unfoldable pub mask_input : ℕ → Mask → List ℕ → List ℕ
  mask_input flag s c = F.input 0 (mask_tweak flag s) (c ⊕ s.delta)

  unfoldable pub mask_other : ℕ → Mask → List ℕ → List ℕ
  mask_other flag s c = F.other 0 (mask_tweak flag s) (c ⊕ s.delta)

  -- the block call that a block with a flag asks for: of the masked block
  unfoldable pub mask_asks : Want → ℕ → Mask → List ℕ → Call
  mask_asks want flag s x = asks want (mask_tweak flag s) (x ⊕ s.delta)

  unfoldable pub saef : Mode Mask
  saef = record {
    -- enc 6 to 19
    start = record { delta = replicate n 0; first = true };
    head = λ s x. record { delta = mask_half 0 0 s x; first = false };
    head_last = λ noM full s x. record { delta = mask_half 0 (saef_head noM full) s x; first = false };
    -- enc 22 to 24, flag 001
    out = λ s x. mask_half 0 1 s x ⊕ s.delta;
    next = λ s x. record { delta = mask_half 1 1 s x; first = false };
    -- enc 33
    fin = λ full s x. mask_half 0 (saef_body full) s x ⊕ s.delta;
    tag = λ full s x. mask_half 1 (saef_body full) s x;
    -- enc 31
    alone = λ s. s.delta;
    -- dec 22 to 24
    back = λ s c. mask_input 1 s c ⊕ s.delta;
    back_next = λ s c. record { delta = mask_other 1 s c; first = false };
    -- dec 34
    unfin = λ full s c. mask_input (saef_body full) s c ⊕ s.delta;
    untag = λ full s c. mask_other (saef_body full) s c;
    -- enc 34
    block_first = true;
    -- F^{T,0} (enc 9; 14 and 18; dec likewise)
    head_asks = λ s x. mask_asks half0 0 s x;
    head_last_asks = λ noM full s x. mask_asks half0 (saef_head noM full) s x;
    -- F^{T,b} (enc 23; 33)
    seal_asks = λ s x. mask_asks both_halves 1 s x;
    seal_last_asks = λ full s x. mask_asks both_halves (saef_body full) s x;
    -- F^{-1,T,0,b} (dec 23; 34)
    open_asks = λ s c. mask_asks both_back 1 s c;
    open_last_asks = λ full s c. mask_asks both_back (saef_body full) s c;
  }
