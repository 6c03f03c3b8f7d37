-- A body sealed, as its loop keeps it: a turn, and the last block. Assumes nothing.
use mathlib.Core.Path.{◌≡◌, refl, sym, ap, ◌∙◌, subst}
use mathlib.Core.Bool.{Bool}
use mathlib.Core.List.{List, ◌++◌}
use Prim.Native.Nat.{ℕ, ◌+◌, ◌*◌, ◌≤◌, ◌<◌}
use native.Mathlib.Omega.{arith}
use lib.ListN.{length, take}
use lib.Seq.{take-take}
use Rattle.ciphers.proofs.Laws.{block_some}
use Rattle.ciphers.specs.Ciphers.{block_of}
use Rattle.blocks.proofs.Parts.{part_rest}
use Rattle.modes.specs.Blocks.{before_last, full, pad}
use Rattle.modes.specs.Mode.{Mode, join, seal_last, seal_rest}
use Rattle.modes.proofs.Turn.{Sealing, seal_begin, seal_turn, seal_end}
use Rattle.states.specs.declared.Kind.{Kind}
use Rattle.states.specs.declared.State.{State}
use Rattle.states.specs.Modes.{Carried, block_first, state_of}
use Rattle.states.specs.Steps.{Paired}
use Rattle.states.specs.Under.{KeyAndNonce, mode_at}
use Rattle.states.proofs.Orders.{block_first_lem}
use Rattle.walks.specs.Walks.{Put, SealTurned, SealEnded, BodySealed}
use Rattle.walks.proofs.Answered.{put_as}
use Rattle.walks.proofs.Going.{Going, going_none, going_more}
use Rattle.walks.proofs.Places.{lent, after, lent_long}
use Rattle.walks.proofs.Writing.{writing_end}

module _ (k : Kind) (u : KeyAndNonce) where
  abbrev n : ℕ
  n = block_of u.cipher

  abbrev M : Mode (Carried k)
  M = mode_at k u

  -- ---- the last block, and as many bytes of the second, joined in the mode's order
  module _ (N : ℕ) (f ahead : Bool) (s : State) (part x first second old new : List ℕ)
      (size : N ≡ n) (e : f ≡ full n (length part)) (ld : take n x ≡ pad n part) (p : Paired k n (M.fin f) (M.tag f) s x first second)
      (short : length part ≤ n) (is : ahead ≡ block_first k)
      (put : Put (join ahead (take N first) (take (length part) second)) (length part + N) old new) where
    abbrev st : Carried k
    st = state_of k n s

    abbrev F : Bool
    F = full n (length part)

    block_is : take N first ≡ M.fin F st (pad n part)
    block_is = ap (λ (m : ℕ). take m first) size ∙ p.first_is ∙ (λ i. M.fin (e i) st (ld i))

    tag_is : take (length part) second ≡ take (length part) (M.tag F st (pad n part))
    tag_is =
        sym (take-take (length part) n second short)
        ∙ ap (take (length part)) (p.second_is ∙ (λ i. M.tag (e i) st (ld i)))

    last_is : join ahead (take N first) (take (length part) second) ≡ seal_last n M st part
    unfolding seal_last
    last_is = λ i. join ((is ∙ sym (block_first_lem k u.cipher u.key u.nonce)) i) (block_is i) (tag_is i)

    pub seal_ended : SealEnded k u s part old new
    seal_ended = put_as last_is (ap (λ (m : ℕ). length part + m) size) put

  -- ---- the loop, as far as the last block; N is n as the code has it
  module _ (body room₀ : List ℕ) (s₀ : State) (last : ℕ) where
    abbrev all : List ℕ
    all = seal_rest n M (state_of k n s₀) body

    -- what holds of what is laid down: with the rest sealed behind it, it is what the body is sealed to
    abbrev pub Seals : State → ℕ → List ℕ → Type 0
    Seals s at done = Sealing n M (state_of k n s) body at done all

    abbrev pub SealGoing : State → ℕ → List ℕ → Type 0
    SealGoing = Going n (length body) last Seals room₀

    module _ (N : ℕ) (size : N ≡ n) (is : last ≡ before_last N (length body) * N) where
      last_at : last ≡ before_last n (length body) * n
      last_at = is ∙ (λ i. before_last (size i) (length body) * size i)

      pub sealing_none : s₀.number ≤ 1 → SealGoing s₀ 0 room₀
      sealing_none = going_none n (length body) last last_at Seals room₀ s₀ (seal_begin n M (block_some u.cipher) (state_of k n s₀) body)

      module _ (before : last < length body) (fits : length body + n ≤ length room₀) {s : State} {at : ℕ} {room : List ℕ} (g : SealGoing s at room)
          (ys : List ℕ) where
        abbrev here : Carried k
        here = state_of k n s

        pub sealing_more : (s' : State) → at < last → SealTurned k u s (lent at body) (lent at room) s' ys
            → SealGoing s' (at + N) (after at room ys)
        sealing_more s' h t =
            let lt : at + n < length body = omega (arith, g.place.turn h, before) in
            subst (λ (m : ℕ). SealGoing s' (at + m) (after at room ys)) (sym size)
            (going_more n (length body) last last_at Seals g t (block_some u.cipher) h (omega (arith, before, fits))
            (λ done sealing.
            seal_turn n M (block_some u.cipher) here (state_of k n s') body at done all (take n (lent at body)) _ sealing lt
            (ap (take n) (part_rest at body)) refl t.reached.state))

      module _ {s : State} {room : List ℕ} where
        pub sealing_stop : {at : ℕ} → SealGoing s at room → last ≤ at → SealGoing s last room
        sealing_stop g h = subst (λ (m : ℕ). SealGoing s m room) (omega (arith, g.place.inside, h)) g

        -- the last block was put into the rest
        pub sealing_end : (ys : List ℕ) → last < length body → length body ≤ last + N → length body + n ≤ length room₀ → SealGoing s last room
            → SealEnded k u s (lent last body) (lent last room) ys → BodySealed k u s₀ body room₀ (after last room ys)
        sealing_end ys before h fits g t =
            let sum : last + (length (lent last body) + n) ≡ length body + n = omega (arith, lent_long last body, before) in
            put_as refl sum
            (writing_end g.writing t (omega (arith, sum, fits)) all
            (λ done sealing.
            ap (λ (t : List ℕ). done ++ seal_last n M (state_of k n s) t) (part_rest last body)
            ∙ seal_end n M (block_some u.cipher) (state_of k n s) body last done all sealing (omega (arith, size, h))))
