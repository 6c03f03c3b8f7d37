-- Jolteon over a forkcipher under one key (000, figure 9: the lines with a minus in a ring, and those of Eevee.antt). Assumes nothing.
use Rattle.std.specs.Prelude.{ℕ, ◌+◌, List}
use Rattle.modes.specs.Blocks.{◌⊕◌}
use Rattle.modes.specs.Forkcipher.{Fork, half0, input_back, asks}
use Rattle.modes.specs.Mode.{Mode}
use Rattle.modes.specs.Eevee.{Chain, Middle, body_tweak, body_half, body_input, eevee}

module _ (n : ℕ) (F : Fork) (nonce : List ℕ) where
  unfoldable pub jolteon_own : Middle
  jolteon_own = record {
    -- lines 53 to 55: Δ takes M_i ⊕ C_{i-1}
    out = λ s x. body_half n F nonce 0 (s.number + 1) x;
    next = λ s x. record {
      link = body_half n F nonce 0 (s.number + 1) x;
      delta = s.delta ⊕ x ⊕ s.link;
      number = s.number + 1;
    };
    -- lines 107 and 108, and Δ as in line 54, for the text has lost line 109
    back = λ s c. body_input n F nonce (s.number + 1) c;
    back_next = λ s c. record {
      link = c;
      delta = s.delta ⊕ body_input n F nonce (s.number + 1) c ⊕ s.link;
      number = s.number + 1;
    };
    -- F^{T,0} (line 55), F^{-1,T,0,i} (line 108)
    seal_asks = λ s x. asks half0 (body_tweak nonce (s.number + 1)) x;
    open_asks = λ s c. asks input_back (body_tweak nonce (s.number + 1)) c;
  }

  unfoldable pub jolteon : Mode Chain
  jolteon = eevee n F nonce jolteon_own
