-- Opening a run, from what the callees ensure.
--     open_ended   the last block, and the leading bytes of the second
--     OpenGoing    the loop's invariant: how it begins, and what a turn and the end do to it
-- Assumes nothing.
use mathlib.Core.Path.{◌≡◌, refl, sym, ap, ap₂, ◌∙◌, subst, subst⁻¹}
use mathlib.Core.Bool.{Bool, not, cond, ◌&&◌}
use mathlib.Core.List.{List, ◌∷◌, ◌++◌}
use Prim.Native.Nat.{ℕ, zero, suc, ◌+◌, ◌-◌, ◌*◌, ◌≤◌, ◌<◌}
use native.Mathlib.Omega.{arith}
use lib.ListN.{length, take, drop, replicate}
use lib.Seq.{length-take-le, take-take, take-add, drop_at}
use Rattle.ciphers.proofs.Laws.{block_some, block_most}
use Rattle.ciphers.specs.Ciphers.{block_of}
use Rattle.modes.specs.Blocks.{before_last, full, ten, pad, same}
use Rattle.modes.specs.Mode.{Mode, Opened, before, judge, end_tag, end_block, open_last, open_rest}
use Rattle.modes.proofs.Turn.{Opening, open_begin, open_turn, open_end}
use Rattle.states.specs.declared.Kind.{Kind}
use Rattle.states.specs.declared.State.{State}
use Rattle.states.specs.Modes.{Carried, block_first, state_of}
use Rattle.states.specs.Steps.{Paired}
use Rattle.states.specs.Under.{KeyAndNonce, mode_at}
use Rattle.states.proofs.Orders.{block_first_lem}
use Rattle.blocks.proofs.Parts.{part_rest}
use Rattle.walks.specs.Walks.{Openable, OpenTurned, OpenEnded, RunOpened}
use Rattle.walks.proofs.Answered.{put_as, opened_as}
use Rattle.walks.proofs.Going.{Going, going_none, going_more}
use Rattle.walks.proofs.Joined.{block_there, tag_there}
use Rattle.walks.proofs.Places.{lent, after, lent_long}
use Rattle.walks.proofs.Writing.{writing_end}

-- ---- the parts that are compared

-- the bytes behind r of n bytes
behind : (r n : ℕ) (l : List ℕ) → r ≤ n → n ≤ length l → drop r (take n l) ≡ take (n - r) (drop r l)
behind r n l h k =
    let e : n ≡ r + (n - r) = omega arith in
    ap (λ (j : ℕ). drop r (take j l)) e
    ∙ ap (drop r) (take-add r (n - r) l)
    ∙ drop_at (take r l) (take (n - r) (drop r l)) r (length-take-le r l (omega arith))

-- the front of a one bit and zeros, however many zeros follow
zeros_front : (j m n : ℕ) → j ≤ m → j ≤ n → take j (replicate m 0) ≡ take {A = ℕ} j (replicate n 0)
zeros_front zero m n hm hn = refl
zeros_front (suc j) zero n hm hn = absurd (omega arith)
zeros_front (suc j) (suc m) zero hm hn = absurd (omega arith)
zeros_front (suc j) (suc m) (suc n) hm hn = ap (λ (t : List ℕ). 0 ∷ t) (zeros_front j m n (omega arith) (omega arith))

ten_front : (j m n : ℕ) → j ≤ suc m → j ≤ suc n → take j (ten m) ≡ take j (ten n)
ten_front zero m n hm hn = refl
ten_front (suc j) m n hm hn = ap (λ (t : List ℕ). 128 ∷ t) (zeros_front j m n (omega arith) (omega arith))

-- ---- a block, and the end

-- what the end of a run opens to, where the mode opens it to n bytes of `first` and of `second`
module _ {St : Type 0} (n : ℕ) (M : Mode St) (st : St) (part first second : List ℕ) where
  abbrev r : ℕ
  r = length part - n

  -- `ahead` says whether the block comes first
  open_is : (ahead : Bool) → ahead ≡ M.block_first → take n first ≡ M.unfin (full n r) st (end_block ahead n r part)
      → take n second ≡ M.untag (full n r) st (end_block ahead n r part)
      → open_last n M st part ≡ judge n r (take n first) (take n second) (end_tag ahead n r part)
  unfolding open_last
  open_is ahead e ef es =
      let f = full n r in
      ap (λ (b : Bool). judge n r (M.unfin f st (end_block b n r part)) (M.untag f st (end_block b n r part)) (end_tag b n r part)) (sym e)
      ∙ ap₂ (λ (x y : List ℕ). judge n r x y (end_tag ahead n r part)) (sym ef) (sym es)

  judge_is : (tag : List ℕ) → r ≤ n → n ≤ 16 → length first ≡ 16
      → judge n r (take n first) (take n second) tag
      ≡ record {
        authentic = same (take r second) tag && same (take (n - r) (drop r first)) (take (n - r) (ten 15));
        body = take r first;
      }
  unfolding judge
  judge_is tag h k l =
      let b = behind r n first h (omega arith) in
      let t = ten_front (n - r) n 15 (omega arith) (omega arith) in
      rw (take-take r n first h, take-take r n second h, b, t)

-- the end of a run, opened into a rest: its block begins at `at`, the leading bytes of the second at `from`; m is the n of the code
module _ (k : Kind) (u : KeyAndNonce) (s : State) (part rest₀ : List ℕ) where
  abbrev n : ℕ
  n = block_of u.cipher

  abbrev M : Mode (Carried k)
  M = mode_at k u

  abbrev st : Carried k
  st = state_of k n s

  module _ (f ahead : Bool) (at from : ℕ) (x first second : List ℕ) (is : Bool) (rest : List ℕ) where
    abbrev Ends : ℕ → Type 0
    Ends m =
        let r = length part - m in
        f ≡ full m r → ahead ≡ block_first k → at ≡ cond (not ahead) r 0 → from ≡ cond ahead m 0 → take m x ≡ pad m (lent at part)
        → Paired k n (M.unfin f) (M.untag f) s x first second → rest ≡ take r first ++ drop r rest₀
        → is ≡ (same (take r second) (take (from + r - from) (drop from part)) && same (take (m - r) (drop r first)) (take (m - r) (ten 15)))
        → n ≤ length part → length part ≤ n + n → OpenEnded k u s part rest₀ is rest

    ended_at : Ends n
    ended_at ef eo ea et ex p er ei h g =
        let r = length part - n in
        let long : length part ≡ r + n = omega arith in
        let e : take n x ≡ end_block ahead n r part = ex ∙ block_there n r part long ahead at ea in
        let o =
        open_is n M st part first second ahead (eo ∙ sym (block_first_lem k u.cipher u.key u.nonce))
        (p.first_is ∙ ap₂ (λ (b : Bool) (y : List ℕ). M.unfin b st y) ef e)
        (p.second_is ∙ ap₂ (λ (b : Bool) (y : List ℕ). M.untag b st y) ef e)
        ∙ judge_is n M st part first second (end_tag ahead n r part) (omega arith) (block_most u.cipher) p.first_long in
        opened_as (sym o) refl
        (record {
          authentic_is =
              ei
              ∙ ap (λ (t : List ℕ). same (take r second) t && same (take (n - r) (drop r first)) (take (n - r) (ten 15)))
              (tag_there n r part long ahead from et);
          put = record { said = er; long = length-take-le r first (omega (arith, p.first_long, block_most u.cipher)) };
        })

    pub open_ended : (m : ℕ) → m ≡ n → Ends m
    open_ended m em = subst⁻¹ Ends em ended_at

-- ---- the loop

-- what holds of what is laid down: in front of what the rest opens to, it is what the run opens to
abbrev pub Opens : (k : Kind) (u : KeyAndNonce) (run : List ℕ) (start s : State) (at : ℕ) (done : List ℕ) → Type 0
Opens k u run start s at done =
    let n = block_of u.cipher in
    let M = mode_at k u in
    Opening n M (state_of k n s) run at done (open_rest n M (state_of k n start) run)

-- as far as the last block; N is the block's size as the code has it
module _ (k : Kind) (u : KeyAndNonce) (run : List ℕ) (start : State) (room₀ : List ℕ) (last : ℕ) where
  abbrev size : ℕ
  size = block_of u.cipher

  abbrev mode : Mode (Carried k)
  mode = mode_at k u

  abbrev all : Opened
  all = open_rest size mode (state_of k size start) run

  abbrev pub OpenGoing : State → ℕ → List ℕ → Type 0
  OpenGoing = Going size (length run - size) last (Opens k u run start) room₀

  module _ (N : ℕ) (e : N ≡ size) (place : last ≡ before_last N (length run - N) * N) where
    last_at : last ≡ before_last size (length run - size) * size
    last_at = place ∙ (λ i. before_last (e i) (length run - e i) * e i)

    pub opening_none : start.number ≤ 1 → OpenGoing start 0 room₀
    opening_none =
        going_none size (length run - size) last last_at (Opens k u run start) room₀ start
        (open_begin size mode (block_some u.cipher) (state_of k size start) run)

    module _ (more : last + N < length run) (may : Openable size run room₀) (s : State) where
      abbrev here : Carried k
      here = state_of k size s

      pub opening_more : {at : ℕ} {room : List ℕ} (ys : List ℕ) (s' : State) → OpenGoing s at room → at < last
          → OpenTurned k u s (lent at run) (lent at room) s' ys → OpenGoing s' (at + N) (after at room ys)
      opening_more {at} {room} ys s' g h t =
          let lt : at + size + size < length run = omega (arith, g.place.turn h, more, e) in
          subst (λ (m : ℕ). OpenGoing s' (at + m) (after at room ys)) (sym e)
          (going_more size (length run - size) last last_at (Opens k u run start) g t (block_some u.cipher) h (omega (arith, more, e, may.fits))
          (λ done o.
          open_turn size mode (block_some u.cipher) here (state_of k size s') run at done all (take size (lent at run)) _ o lt
          (ap (take size) (part_rest at run)) refl t.reached.state))

      pub opening_stop : {at : ℕ} {room : List ℕ} → OpenGoing s at room → last ≤ at → OpenGoing s last room
      opening_stop {room = room} g h = subst (λ (m : ℕ). OpenGoing s m room) (omega (arith, g.place.inside, h)) g

      module _ (short : length run ≤ last + N + N) {room : List ℕ} (g : OpenGoing s last room) (is : Bool) (ys : List ℕ) where
        all_is : (done : List ℕ) → Opening size mode here run last done all → before done (open_last size mode here (lent last run)) ≡ all
        all_is done o =
            ap (λ (t : List ℕ). before done (open_last size mode here t)) (part_rest last run)
            ∙ open_end size mode (block_some u.cipher) here run last done all o (omega (arith, short, e))

        -- the last block was put into the rest
        pub opening_end : OpenEnded k u s (lent last run) (lent last room) is ys → RunOpened k u start run room₀ is (after last room ys)
        opening_end t =
            let p = lent_long last run in
            record {
              authentic_is = t.authentic_is ∙ ap (λ (o : Opened). o.authentic) (all_is g.writing.done g.writing.holds);
              put =
                  put_as refl (omega (arith, e, more))
                  (writing_end g.writing t.put (omega (arith, e, more, may.fits)) all.body (λ done o. ap (λ (p : Opened). p.body) (all_is done o)));
            }
