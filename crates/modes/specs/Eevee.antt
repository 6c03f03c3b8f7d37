-- What Umbreon and Jolteon have in common, over a forkcipher under one key (000, the Eevee paper, figure 9, whose lines are cited; those with
-- no mark hold for the whole family): the tweaks, the header, the last block, and the order of a run. What each of them does with a body block
-- that is not the last is its own (Umbreon.antt, Jolteon.antt). Where |M| = |A| = 0 they have no run (lines 29 and 30), which the calls refuse;
-- here that case has a value like any other. Espeon, the third of the family, will share the header. Assumes nothing.
use Rattle.std.specs.Prelude.{ℕ, ◌+◌, ◌*◌, Bool, true, false, List, ◌++◌, replicate}
use Rattle.modes.specs.Blocks.{◌⊕◌, be16}
use Rattle.modes.specs.Forkcipher.{Fork, half0, both_halves, both_back, Call, asks}
use Rattle.modes.specs.Mode.{Mode}

-- T_A, or under Jolteon the sealed block before, which is T_A at first (line 45); Δ; and the number i of the next block
pub record Chain : Type 0 where
  pub link : List ℕ
  pub delta : List ℕ
  pub number : ℕ

-- pad: 1 for a last block that was not padded (lines 1 to 10), and noM: 1 for an empty body (lines 32 to 34)
unfoldable pub bit : Bool → ℕ
bit true = 1
bit false = 0

-- d = t - |N| - 2 = 14, for a tweak has two bytes behind the nonce. N ‖ ⟨v⟩_d ‖ 00 (lines 20 and 23), and N ‖ ⟨v⟩_{d+1} ‖ 1 (lines 50, 53,
-- 65, 66). Within a scheme's limits d bits are enough, which is a theorem (`eevee_distinct` in proofs/EeveeTweaks.antt).
unfoldable pub head_tweak : List ℕ → ℕ → List ℕ
head_tweak nonce v = nonce ++ be16 (v * 4)

unfoldable pub body_tweak : List ℕ → ℕ → List ℕ
body_tweak nonce v = nonce ++ be16 (v * 2 + 1)

-- the last header block's v (line 23)
unfoldable pub head_end : (noM full : Bool) → ℕ
head_end noM full = 2 * bit full + bit noM

-- the last block's mask: Δ ⊕ T_A, or Δ ⊕ C_m (lines 71 and 72)
unfoldable pub last_mask : Chain → List ℕ
last_mask s = s.delta ⊕ s.link

-- a body block that is not the last, sealed and opened, and the block call that it asks for: the mode's own lines
pub record Middle : Type 0 where
  pub out : Chain → List ℕ → List ℕ
  pub next : Chain → List ℕ → Chain
  pub back : Chain → List ℕ → List ℕ
  pub back_next : Chain → List ℕ → Chain
  pub seal_asks : Chain → List ℕ → Call
  pub open_asks : Chain → List ℕ → Call

module _ (n : ℕ) (F : Fork) (nonce : List ℕ) where
  -- F^{T,0}(A) ⊕ T_A (lines 21 and 24)
  unfoldable pub head_link : ℕ → Chain → List ℕ → List ℕ
  head_link v s x = F.half 0 (head_tweak nonce v) x ⊕ s.link

  -- half h of a body block, F^{T,h}(X); and back from half 0, F^{-1,T,0}(C): the input, and half 1
  unfoldable pub body_half : ℕ → ℕ → List ℕ → List ℕ
  body_half h v x = F.half h (body_tweak nonce v) x

  unfoldable pub body_input : ℕ → List ℕ → List ℕ
  body_input v c = F.input 0 (body_tweak nonce v) c

  unfoldable pub body_other : ℕ → List ℕ → List ℕ
  body_other v c = F.other 0 (body_tweak nonce v) c

  unfoldable pub eevee : Middle → Mode Chain
  eevee own = record {
    -- line 38; numbers begin at 1 in the header, and again in the body (lines 19 and 49)
    start = record { link = replicate n 0; delta = replicate n 0; number = 1 };
    -- lines 20 and 21
    head = λ s x. record { link = head_link (s.number + 4) s x; delta = s.delta; number = s.number + 1 };
    -- lines 23 and 24
    head_last = λ noM full s x. record { link = head_link (head_end noM full) s x; delta = s.delta; number = 1 };
    out = own.out;
    next = own.next;
    -- lines 65 and 66, 71 to 74: half 0 is the tag, and half 1 with the padded block on it makes C_*
    fin = λ full s x. body_half 0 (bit full) (x ⊕ last_mask s);
    tag = λ full s x. body_half 1 (bit full) (x ⊕ last_mask s) ⊕ x;
    -- line 43
    alone = λ s. s.link;
    back = own.back;
    back_next = own.back_next;
    -- lines 119, 120 and 125 to 128
    unfin = λ full s c. body_input (bit full) c ⊕ last_mask s;
    untag = λ full s c. body_input (bit full) c ⊕ last_mask s ⊕ body_other (bit full) c;
    -- line 75: C_*, and then the tag
    block_first = false;
    -- F^{T,0} (lines 21 and 24)
    head_asks = λ s x. asks half0 (head_tweak nonce (s.number + 4)) x;
    head_last_asks = λ noM full s x. asks half0 (head_tweak nonce (head_end noM full)) x;
    seal_asks = own.seal_asks;
    -- F^{T,b} (line 73)
    seal_last_asks = λ full s x. asks both_halves (body_tweak nonce (bit full)) (x ⊕ last_mask s);
    open_asks = own.open_asks;
    -- F^{-1,T,0,b} (line 127)
    open_last_asks = λ full s c. asks both_back (body_tweak nonce (bit full)) c;
  }
