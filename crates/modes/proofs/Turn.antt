-- One turn of a loop that seals a body or opens a run block by block, and its end: the loop's invariant. `at` is
-- how far the loop is in its input, `done` what it has laid down, `all` what it comes to. Assumes nothing.
use mathlib.Core.Path.{◌≡◌, refl, sym, ap, ap₂, ◌∙◌}
use Prim.Native.Nat.{ℕ, zero, ◌+◌, ◌≤◌, ◌<◌}
use native.Mathlib.Omega.{arith}
use mathlib.Core.List.{List, [], ◌++◌, append_assoc}
use lib.ListN.{length, take, drop, length-drop}
use lib.Seq.{drop-drop}
use Rattle.modes.specs.Mode.{Mode, Opened, before, seal_last, seal_rest, open_last, open_rest}
use Rattle.modes.proofs.Rest.{seal_rest_last, seal_rest_more, open_rest_last, open_rest_more}

module _ {St : Type 0} (n : ℕ) (M : Mode St) where
  -- what has been laid down, and the rest sealed from here, are `all`
  unfoldable pub Sealing : St → List ℕ → ℕ → List ℕ → List ℕ → Type 0
  Sealing s body at done all = done ++ seal_rest n M s (drop at body) ≡ all

  -- what has been opened, in front of what the rest opens to, is `all`
  unfoldable pub Opening : St → List ℕ → ℕ → List ℕ → Opened → Type 0
  Opening s run at done all = before done (open_rest n M s (drop at run)) ≡ all

module _ {St : Type 0} (n : ℕ) (M : Mode St) (p : zero < n) where
  -- ---- sealing: y is what the block x is sealed to, s' the state after it

  pub seal_begin : (s : St) (body : List ℕ) → Sealing n M s body 0 [] (seal_rest n M s body)
  unfolding Sealing
  seal_begin s body = refl

  pub seal_turn : (s s' : St) (body : List ℕ) (at : ℕ) (done all x y : List ℕ) → Sealing n M s body at done all → at + n < length body
      → x ≡ take n (drop at body) → y ≡ M.out s x → s' ≡ M.next s x → Sealing n M s' body (at + n) (done ++ y) all
  unfolding Sealing
  seal_turn s s' body at done all x y e h ex ey es =
      append_assoc done y (seal_rest n M s' (drop (at + n) body))
      ∙ ap₂ (λ (z : List ℕ) (u : St). done ++ (z ++ seal_rest n M u (drop (at + n) body))) ey es
      ∙ ap₂ (λ (z d : List ℕ). done ++ (M.out s z ++ seal_rest n M (M.next s z) d)) ex (sym (drop-drop n at body))
      ∙ ap (λ (r : List ℕ). done ++ r) (sym (seal_rest_more n M p s (drop at body) (simp length-drop (omega arith))))
      ∙ e

  pub seal_end : (s : St) (body : List ℕ) (at : ℕ) (done all : List ℕ) → Sealing n M s body at done all → length body ≤ at + n
      → done ++ seal_last n M s (drop at body) ≡ all
  unfolding Sealing
  seal_end s body at done all e h =
      ap (λ (r : List ℕ). done ++ r) (sym (seal_rest_last n M p s (drop at body) (simp length-drop (omega arith)))) ∙ e

  -- ---- opening: y is what the block x opens to, s' the state after it

  pub open_begin : (s : St) (run : List ℕ) → Opening n M s run 0 [] (open_rest n M s run)
  unfolding Opening
  open_begin s run = refl

  pub open_turn : (s s' : St) (run : List ℕ) (at : ℕ) (done : List ℕ) (all : Opened) (x y : List ℕ) → Opening n M s run at done all
      → at + n + n < length run → x ≡ take n (drop at run) → y ≡ M.back s x → s' ≡ M.back_next s x
      → Opening n M s' run (at + n) (done ++ y) all
  unfolding Opening
  open_turn s s' run at done all x y e h ex ey es =
      let o : Opened = open_rest n M s' (drop (at + n) run) in
      ap (λ (b : List ℕ). record { authentic = o.authentic; body = b }) (append_assoc done y o.body)
      ∙ ap₂ (λ (z : List ℕ) (u : St). before done (before z (open_rest n M u (drop (at + n) run)))) ey es
      ∙ ap₂ (λ (z d : List ℕ). before done (before (M.back s z) (open_rest n M (M.back_next s z) d))) ex (sym (drop-drop n at run))
      ∙ ap (before done) (sym (open_rest_more n M p s (drop at run) (simp length-drop (omega arith))))
      ∙ e

  pub open_end : (s : St) (run : List ℕ) (at : ℕ) (done : List ℕ) (all : Opened) → Opening n M s run at done all → length run ≤ at + n + n
      → before done (open_last n M s (drop at run)) ≡ all
  unfolding Opening
  open_end s run at done all e h =
      ap (before done) (sym (open_rest_last n M p s (drop at run) (simp length-drop (omega arith)))) ∙ e
