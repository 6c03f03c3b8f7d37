-- A walk over a header, as its loop keeps it. Assumes nothing.
use mathlib.Core.Path.{◌≡◌, sym, ap, ◌∙◌, subst⁻¹}
use mathlib.Core.Bool.{Bool, true, false}
use mathlib.Core.List.{List}
use Prim.Native.Nat.{ℕ, ◌+◌, ◌≤◌, ◌<◌}
use native.Mathlib.Omega.{arith}
use lib.ListN.{length, drop, length-drop}
use Rattle.blocks.proofs.Parts.{part_rest}
use Rattle.ciphers.proofs.Laws.{block_some}
use Rattle.ciphers.specs.Ciphers.{block_of}
use Rattle.modes.specs.Mode.{Mode, walk, headed}
use Rattle.modes.proofs.Rest.{walk_last, walk_more, headed_skip, headed_none, headed_some}
use Rattle.states.specs.declared.Kind.{Kind}
use Rattle.states.specs.declared.State.{State}
use Rattle.states.specs.Modes.{Carried, beginning, state_of}
use Rattle.states.specs.Under.{KeyAndNonce, mode_at}
use Rattle.states.proofs.Starts.{start_is}
use Rattle.walks.specs.Walks.{HeadTurned, HeadEnded, HeadWalked, Headed}
use Rattle.walks.proofs.Answered.{reached_as}
use Rattle.walks.proofs.Places.{lent}

module _ (k : Kind) (u : KeyAndNonce) (empty : Bool) (header : List ℕ) where
  abbrev n : ℕ
  n = block_of u.cipher

  abbrev M : Mode (Carried k)
  M = mode_at k u

  -- walking the rest from here comes to what walking the header does; the blocks before were counted
  pub record Walked (s : State) (rest : List ℕ) : Type 0 where
    pub number : s.number + length rest ≤ length header + 1
    pub walking : walk n M empty (state_of k n s) rest ≡ walk n M empty M.start header

  pub walked_none : (s : State) → s ≡ beginning → Walked s header
  walked_none s b = record {
    number = omega (arith, ap (λ (t : State). t.number) b);
    walking =
        ap (λ (t : Carried k). walk n M empty t header)
        (ap (state_of k n) b ∙ start_is k u.cipher u.key u.nonce);
  }

  module _ {s : State} {rest : List ℕ} (w : Walked s rest) (N : ℕ) (size : N ≡ n) where
    pub walked_more : (s' : State) → N < length rest → HeadTurned k u s rest s' → Walked s' (lent N rest)
    walked_more s' h r =
        let lt : n < length rest = omega (arith, size, h) in
        let next : lent N rest ≡ drop n rest = part_rest N rest ∙ ap (λ (m : ℕ). drop m rest) size in
        record {
          number = omega (arith, w.number, r.number, block_some u.cipher, lt, ap length next, length-drop n rest);
          walking =
              ap (walk n M empty (state_of k n s')) next
              ∙ ap (λ (t : Carried k). walk n M empty t (drop n rest)) r.state
              ∙ sym (walk_more n M (block_some u.cipher) empty (state_of k n s) rest lt)
              ∙ w.walking;
        }

    pub walked_end : (r : State) → length rest ≤ N → HeadEnded k u empty s rest r → HeadWalked k u empty header r
    walked_end r h =
        reached_as (sym (walk_last n M (block_some u.cipher) empty (state_of k n s) rest (omega (arith, size, h))) ∙ w.walking)

  -- before a body an empty header leaves what a mode begins with; any other header is walked
  pub headed_start : (r : State) → empty ≡ false → length header ≡ 0 → r ≡ beginning → Headed k u empty header r
  headed_start r e h b = record {
    state =
        ap (state_of k n) b
        ∙ start_is k u.cipher u.key u.nonce
        ∙ sym (ap (λ (b : Bool). headed n M b header) e ∙ headed_skip n M header h);
    number = omega (arith, ap (λ (t : State). t.number) b);
  }

  pub headed_alone : (r : State) → empty ≡ true → HeadWalked k u empty header r → Headed k u empty header r
  headed_alone r e = subst⁻¹ (λ (b : Bool). HeadWalked k u b header r → Headed k u b header r) e (reached_as (sym (headed_none n M header)))

  pub headed_before : (r : State) → 0 < length header → HeadWalked k u empty header r → Headed k u empty header r
  headed_before r h = reached_as (sym (headed_some n M empty header h))
