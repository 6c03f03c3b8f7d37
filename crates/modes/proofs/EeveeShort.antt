-- Modes of the family differ in the blocks before the last alone: where a body has at most one block, all of them seal it to the same run, and
-- they open such a run to the same, with the same block calls. Assumes nothing.
use mathlib.Core.Path.{◌≡◌, refl, ap}
use Prim.Native.Nat.{ℕ, zero, suc, ◌+◌, ◌-◌, ◌≤◌, ◌<◌}
use native.Mathlib.Omega.{arith}
use mathlib.Core.Bool.{Bool, not, ◌&&◌, cond}
use mathlib.Core.List.{List, [], ◌++◌}
use lib.Dec.{eqb}
use lib.ListN.{length, drop}
use Rattle.modes.specs.Blocks.{before_last, none, same}
use Rattle.modes.specs.Forkcipher.{Fork}
use Rattle.modes.specs.Mode.{walk_from, walk, headed, seal_last, seal_from, seal_rest, seal_run, open_last, open_from, open_rest, open_run}
use Rattle.modes.specs.Rounds.{calls_from, head_calls, body_calls, run_calls, seal_calls, open_calls}
use Rattle.modes.specs.Eevee.{Chain, Middle, eevee}
use Rattle.modes.proofs.Rest.{before_last_none}

module _ (n : ℕ) (p : zero < n) (F : Fork) (nonce : List ℕ) (own other : Middle) where
  walk_same : (m : ℕ) (noM : Bool) (s : Chain) (a : List ℕ) → walk_from n (eevee n F nonce own) m noM s a ≡ walk_from n (eevee n F nonce other) m noM s a
  unfolding walk_from eevee
  walk_same zero noM s a = refl
  walk_same (suc m) noM s a = walk_same m noM _ (drop n a)

  headed_same : (noM : Bool) (a : List ℕ) → headed n (eevee n F nonce own) noM a ≡ headed n (eevee n F nonce other) noM a
  unfolding headed walk eevee
  headed_same noM a =
      let start : Chain = (eevee n F nonce own).start in
      ap (λ (s : Chain). cond (not noM && none (length a)) start s) (walk_same (before_last n (length a)) noM start a)

  seal_last_same : (s : Chain) (b : List ℕ) → length b ≤ n → seal_rest n (eevee n F nonce own) s b ≡ seal_rest n (eevee n F nonce other) s b
  unfolding seal_rest seal_from seal_last eevee
  seal_last_same s b h = rw (before_last_none n (length b) p h)

  open_last_same : (s : Chain) (c : List ℕ) → length c ≤ n + n → open_rest n (eevee n F nonce own) s c ≡ open_rest n (eevee n F nonce other) s c
  unfolding open_rest open_from open_last eevee
  open_last_same s c h = rw (before_last_none n (length c - n) p (omega arith))

  pub short_seal_same : (header body : List ℕ) → length body ≤ n
      → seal_run n (eevee n F nonce own) header body ≡ seal_run n (eevee n F nonce other) header body
  unfolding seal_run eevee
  short_seal_same header body h =
      let noM = none (length body) in
      (λ i. cond noM (headed_same noM header i).link (seal_last_same (headed_same noM header i) body h i))

  pub short_open_same : (header run : List ℕ) → length run ≤ n + n
      → open_run n (eevee n F nonce own) header run ≡ open_run n (eevee n F nonce other) header run
  unfolding open_run eevee
  short_open_same header run h =
      let noM = eqb (length run) n in
      (λ i. cond noM (record { authentic = same run (headed_same noM header i).link; body = [] }) (open_last_same (headed_same noM header i) run h i))

  -- ---- the block calls

  body_calls_same : (s : Chain) (b : List ℕ) → length b ≤ n → body_calls n (eevee n F nonce own) s b ≡ body_calls n (eevee n F nonce other) s b
  unfolding body_calls calls_from eevee
  body_calls_same s b h = rw (before_last_none n (length b) p h)

  run_calls_same : (s : Chain) (c : List ℕ) → length c ≤ n + n → run_calls n (eevee n F nonce own) s c ≡ run_calls n (eevee n F nonce other) s c
  unfolding run_calls calls_from eevee
  run_calls_same s c h = rw (before_last_none n (length c - n) p (omega arith))

  pub short_seal_calls : (header body : List ℕ) → length body ≤ n
      → seal_calls n (eevee n F nonce own) header body ≡ seal_calls n (eevee n F nonce other) header body
  unfolding seal_calls head_calls eevee
  short_seal_calls header body h =
      let noM = none (length body) in
      (λ i. head_calls n (eevee n F nonce own) noM header ++ cond noM [] (body_calls_same (headed_same noM header i) body h i))

  pub short_open_calls : (header run : List ℕ) → length run ≤ n + n
      → open_calls n (eevee n F nonce own) header run ≡ open_calls n (eevee n F nonce other) header run
  unfolding open_calls head_calls eevee
  short_open_calls header run h =
      let noM = eqb (length run) n in
      (λ i. head_calls n (eevee n F nonce own) noM header ++ cond noM [] (run_calls_same (headed_same noM header i) run h i))
