-- A record from what its header leaves: an empty body, or the rest. N is the block's size as the code has it. Assumes nothing.
use mathlib.Core.Path.{◌≡◌, refl, sym, ap, ◌∙◌}
use mathlib.Core.Bool.{Bool, true, false, cond}
use mathlib.Core.List.{List, [], ◌++◌}
use Prim.Native.Nat.{ℕ, ◌+◌, ◌-◌}
use native.Mathlib.Omega.{arith}
use borrow.Author.Tests.{eq-eqb, ne_eqb}
use lib.Dec.{eqb}
use lib.ListN.{length, take, drop}
use lib.Seq.{length-take-le}
use Rattle.ciphers.specs.Ciphers.{block_of}
use Rattle.ciphers.proofs.Laws.{block_most}
use Rattle.modes.specs.Blocks.{none, same}
use Rattle.modes.specs.Mode.{Mode, Opened, headed, seal_rest, seal_run, open_rest, open_run}
use Rattle.states.specs.declared.Kind.{Kind}
use Rattle.states.specs.declared.State.{State}
use Rattle.states.specs.Modes.{Carried, state_of}
use Rattle.states.specs.Under.{KeyAndNonce, mode_at}
use Rattle.states.proofs.Starts.{alone_is}
use Rattle.walks.specs.Walks.{Put, OpenedTo, Headed, BodySealed, RunOpened}
use Rattle.walks.proofs.Answered.{put_as, opened_as}

module _ (k : Kind) (u : KeyAndNonce) (header : List ℕ) (s : State) (N : ℕ) (size : N ≡ block_of u.cipher) where
  abbrev n : ℕ
  n = block_of u.cipher

  abbrev M : Mode (Carried k)
  M = mode_at k u

  abbrev st : Carried k
  st = state_of k n s

  out_is : take N s.mask ≡ M.alone st
  out_is = ap (λ (m : ℕ). take m s.mask) size ∙ alone_is k u.cipher u.key u.nonce s

  module _ (body old new : List ℕ) (h : Headed k u (none (length body)) header s) where
    abbrev sealed : Bool → Carried k → List ℕ
    sealed empty t = cond empty (M.alone t) (seal_rest n M t body)

    sealed_is : (empty : Bool) → none (length body) ≡ empty → sealed empty st ≡ seal_run n M header body
    unfolding seal_run
    sealed_is empty e = (λ i. sealed (sym e i) (h.state i))

    pub seal_none : length body ≡ 0 → length s.mask ≡ 16 → new ≡ take N s.mask ++ drop N old
        → Put (seal_run n M header body) (length body + n) old new
    seal_none e long p =
        put_as (out_is ∙ sealed_is true (eq-eqb _ 0 e)) (omega (arith, size, e))
        (record { said = p; long = length-take-le N s.mask (omega (arith, size, long, block_most u.cipher)) })

    pub seal_some : (length body ≡ 0 → ⊥) → BodySealed k u s body old new → Put (seal_run n M header body) (length body + n) old new
    seal_some e = put_as (sealed_is false (ne_eqb _ 0 e)) refl

  module _ (run old new : List ℕ) (is : Bool) (h : Headed k u (eqb (length run) N) header s) where
    abbrev opened : Bool → Carried k → Opened
    opened empty t = cond empty (record { authentic = same run (M.alone t); body = [] }) (open_rest n M t run)

    opened_is : (empty : Bool) → eqb (length run) N ≡ empty → opened empty st ≡ open_run n M header run
    unfolding open_run
    opened_is empty e =
        (λ i. opened (sym e i) (h.state i))
        ∙ ap (λ (m : ℕ). opened (eqb (length run) m) (headed n M (eqb (length run) m) header)) size

    pub open_none : length run ≡ N → is ≡ same run (take N s.mask) → new ≡ old
        → OpenedTo (open_run n M header run) (length run - n) old is new
    open_none e said left =
        opened_as (opened_is true (eq-eqb _ N e)) (omega (arith, size, e))
        (record { authentic_is = said ∙ ap (same run) out_is; put = record { said = left; long = refl } })

    pub open_some : (length run ≡ N → ⊥) → RunOpened k u s run old is new → OpenedTo (open_run n M header run) (length run - n) old is new
    open_some e = opened_as (opened_is false (ne_eqb _ N e)) refl
