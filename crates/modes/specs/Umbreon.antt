-- Umbreon over a forkcipher under one key (000, figure 9: the lines with a square, and those of Eevee.antt). Assumes nothing.
use Rattle.std.specs.Prelude.{ℕ, ◌+◌, List}
use Rattle.modes.specs.Blocks.{◌⊕◌}
use Rattle.modes.specs.Forkcipher.{Fork, both_halves, both_back, asks}
use Rattle.modes.specs.Mode.{Mode}
use Rattle.modes.specs.Eevee.{Chain, Middle, body_tweak, body_half, body_input, body_other, eevee}

module _ (n : ℕ) (F : Fork) (nonce : List ℕ) where
  unfoldable pub umbreon_own : Middle
  umbreon_own = record {
    -- lines 50 to 52: Δ takes the T_A that was used
    out = λ s x. body_half n F nonce 0 (s.number + 1) (x ⊕ s.link);
    next = λ s x. record {
      link = body_half n F nonce 1 (s.number + 1) (x ⊕ s.link);
      delta = s.delta ⊕ s.link;
      number = s.number + 1;
    };
    -- lines 104 to 106
    back = λ s c. body_input n F nonce (s.number + 1) c ⊕ s.link;
    back_next = λ s c. record {
      link = body_other n F nonce (s.number + 1) c;
      delta = s.delta ⊕ s.link;
      number = s.number + 1;
    };
    -- F^{T,b} (line 52), F^{-1,T,0,b} (line 106)
    seal_asks = λ s x. asks both_halves (body_tweak nonce (s.number + 1)) (x ⊕ s.link);
    open_asks = λ s c. asks both_back (body_tweak nonce (s.number + 1)) c;
  }

  unfoldable pub umbreon : Mode Chain
  umbreon = eevee n F nonce umbreon_own
