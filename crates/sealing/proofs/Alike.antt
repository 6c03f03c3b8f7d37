-- Two schemes that differ in that one has Umbreon and the other Jolteon answer alike in everything where the body has at most one block.
-- Assumes nothing.
use mathlib.Core.Path.{◌≡◌}
use Prim.Native.Nat.{ℕ, ◌+◌, ◌-◌, ◌≤◌}
use mathlib.Core.List.{List}
use lib.ListN.{length}
use Rattle.ciphers.specs.declared.Cipher.{Cipher}
use Rattle.ciphers.specs.Ciphers.{block_of}
use Rattle.ciphers.proofs.Laws.{block_some}
use Rattle.modes.specs.Jolteon.{jolteon_own, jolteon}
use Rattle.modes.specs.Rounds.{total}
use Rattle.modes.specs.Umbreon.{umbreon_own, umbreon}
use Rattle.modes.proofs.EeveeShort.{short_seal_same, short_open_same, short_seal_calls, short_open_calls}
use Rattle.states.specs.declared.Kind.TheVariants.{Umbreon, Jolteon}
use Rattle.states.specs.Skinny.{skinny, cost_of}
use Rattle.schemes.specs.declared.Scheme.{Scheme}
use Rattle.schemes.specs.Checks.{blank, check_of, seal_check, open_check}
use Rattle.sealing.specs.Calls.{done, judged, passed, seal_under, open_under}

module _ (c : Cipher) (ν h b : ℕ) (key nonce header room : List ℕ) where
  abbrev n : ℕ
  n = block_of c

  abbrev umbreon_by : Scheme
  umbreon_by = record { cipher = c; kind = Umbreon; key = 16; nonce = ν; header = h; body = b }

  abbrev jolteon_by : Scheme
  jolteon_by = record { cipher = c; kind = Jolteon; key = 16; nonce = ν; header = h; body = b }

  pub seal_alike : (body : List ℕ) → length body ≤ n → seal_under umbreon_by key nonce header body room ≡ seal_under jolteon_by key nonce header body room
  unfolding seal_under check_of blank umbreon jolteon
  seal_alike body l =
      let F = skinny c key in
      let run = short_seal_same n (block_some c) F nonce (umbreon_own n F nonce) (jolteon_own n F nonce) header body l in
      let calls = short_seal_calls n (block_some c) F nonce (umbreon_own n F nonce) (jolteon_own n F nonce) header body l in
      let check = seal_check umbreon_by (length key) (length nonce) (length header) (length body) (length room) in
      (λ i. passed check (done (total (cost_of c) (calls i)) (length body + n) (run i) room) room)

  pub open_alike : (run : List ℕ) → length run ≤ n + n → open_under umbreon_by key nonce header run room ≡ open_under jolteon_by key nonce header run room
  unfolding open_under check_of blank umbreon jolteon
  open_alike run l =
      let F = skinny c key in
      let body = short_open_same n (block_some c) F nonce (umbreon_own n F nonce) (jolteon_own n F nonce) header run l in
      let calls = short_open_calls n (block_some c) F nonce (umbreon_own n F nonce) (jolteon_own n F nonce) header run l in
      let check = open_check umbreon_by (length key) (length nonce) (length header) (length run) (length room) in
      (λ i. passed check (judged (total (cost_of c) (calls i)) (body i) (length run - n) room) room)
