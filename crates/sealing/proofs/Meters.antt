-- C-14, records from the meter people: what schemes 4 to 7 answer, on the definitions that the contracts cite.
--     seal_4 .. open_7              demand 2: the published modes, but for header and body both empty, which is 10 (`says_10`, Numbers.antt)
--     seal_as_sibling, open_as_..   bodies of at most one block: Umbreon and Jolteon answer alike, so that a record of one opens under the other
--     seal_rounds_4 .. _7           the rounds, by the lengths alone
-- Demand 3 is Demands.antt, for every scheme of the table; that within the limits no two blocks of a record have one tweak, crates/schemes
-- (proofs/Tweaks.antt). Assumes nothing.
use mathlib.Core.Path.{◌≡◌, refl, ◌∙◌}
use Prim.Native.Nat.{ℕ, ◌+◌, ◌-◌, ◌*◌, ◌≤◌, ◌<◌}
use mathlib.Core.Logic.{inl}
use mathlib.Core.Bool.{true, false, cond}
use mathlib.Core.List.{List}
use lib.ListN.{length}
use Rattle.ciphers.specs.declared.Cipher.TheVariants.{N64T192, N128T256}
use Rattle.forkskinny.specs.Calls.{wants, fork_rounds}
use Rattle.modes.specs.Blocks.{none, before_last}
use Rattle.modes.specs.Jolteon.{jolteon}
use Rattle.modes.specs.Mode.{seal_run, open_run}
use Rattle.modes.specs.Rounds.{blocks}
use Rattle.modes.specs.Umbreon.{umbreon}
use Rattle.states.specs.Skinny.{skinny}
use Rattle.schemes.specs.Schemes.{scheme4, scheme5, scheme6, scheme7, scheme_of}
use Rattle.schemes.proofs.Passed.{not_blank}
use Rattle.schemes.proofs.Table.{named_4, named_5, named_6, named_7}
use Rattle.sealing.specs.Calls.{done, judged, seal_rounds, open_rounds, seal_of, open_of}
use Rattle.sealing.specs.Demands.{Admitted}
use Rattle.sealing.specs.Numbers.{Worked}
use Rattle.sealing.proofs.Admitted.{seal_admitted, open_admitted}
use Rattle.sealing.proofs.Alike.{seal_alike, open_alike}
use Rattle.sealing.proofs.Counted.{by_lengths, flat_some}

-- ---- demand 2: what is computed is Umbreon and Jolteon over ForkSkinny as published

module _ (key nonce header body room : List ℕ) (some : 0 < length header + length body) where
  pub seal_4 : Admitted 4 scheme4 key nonce header → length body ≤ 262136 → length body + 8 ≤ length room
      → seal_of 4 key nonce header body room
      ≡ done (seal_rounds scheme4 key nonce header body) (length body + 8) (seal_run 8 (umbreon 8 (skinny N64T192 key) nonce) header body) room
  seal_4 ok b = seal_admitted 4 scheme4 key nonce header ok body room b (not_blank scheme4 (length header) (length body) some)

  pub seal_5 : Admitted 5 scheme5 key nonce header → length body ≤ 262136 → length body + 8 ≤ length room
      → seal_of 5 key nonce header body room
      ≡ done (seal_rounds scheme5 key nonce header body) (length body + 8) (seal_run 8 (jolteon 8 (skinny N64T192 key) nonce) header body) room
  seal_5 ok b = seal_admitted 5 scheme5 key nonce header ok body room b (not_blank scheme5 (length header) (length body) some)

  pub seal_6 : Admitted 6 scheme6 key nonce header → length body ≤ 524272 → length body + 16 ≤ length room
      → seal_of 6 key nonce header body room
      ≡ done (seal_rounds scheme6 key nonce header body) (length body + 16) (seal_run 16 (umbreon 16 (skinny N128T256 key) nonce) header body) room
  seal_6 ok b = seal_admitted 6 scheme6 key nonce header ok body room b (not_blank scheme6 (length header) (length body) some)

  pub seal_7 : Admitted 7 scheme7 key nonce header → length body ≤ 524272 → length body + 16 ≤ length room
      → seal_of 7 key nonce header body room
      ≡ done (seal_rounds scheme7 key nonce header body) (length body + 16) (seal_run 16 (jolteon 16 (skinny N128T256 key) nonce) header body) room
  seal_7 ok b = seal_admitted 7 scheme7 key nonce header ok body room b (not_blank scheme7 (length header) (length body) some)

module _ (key nonce header run room : List ℕ) where
  pub open_4 : Admitted 4 scheme4 key nonce header → 8 ≤ length run → length run ≤ 262144 → 0 < length header + (length run - 8)
      → length run ≤ length room + 8
      → open_of 4 key nonce header run room
      ≡ judged (open_rounds scheme4 key nonce header run) (open_run 8 (umbreon 8 (skinny N64T192 key) nonce) header run) (length run - 8) room
  open_4 ok l b some = open_admitted 4 scheme4 key nonce header ok run room l b (not_blank scheme4 (length header) (length run - 8) some)

  pub open_5 : Admitted 5 scheme5 key nonce header → 8 ≤ length run → length run ≤ 262144 → 0 < length header + (length run - 8)
      → length run ≤ length room + 8
      → open_of 5 key nonce header run room
      ≡ judged (open_rounds scheme5 key nonce header run) (open_run 8 (jolteon 8 (skinny N64T192 key) nonce) header run) (length run - 8) room
  open_5 ok l b some = open_admitted 5 scheme5 key nonce header ok run room l b (not_blank scheme5 (length header) (length run - 8) some)

  pub open_6 : Admitted 6 scheme6 key nonce header → 16 ≤ length run → length run ≤ 524288 → 0 < length header + (length run - 16)
      → length run ≤ length room + 16
      → open_of 6 key nonce header run room
      ≡ judged (open_rounds scheme6 key nonce header run) (open_run 16 (umbreon 16 (skinny N128T256 key) nonce) header run) (length run - 16) room
  open_6 ok l b some = open_admitted 6 scheme6 key nonce header ok run room l b (not_blank scheme6 (length header) (length run - 16) some)

  pub open_7 : Admitted 7 scheme7 key nonce header → 16 ≤ length run → length run ≤ 524288 → 0 < length header + (length run - 16)
      → length run ≤ length room + 16
      → open_of 7 key nonce header run room
      ≡ judged (open_rounds scheme7 key nonce header run) (open_run 16 (jolteon 16 (skinny N128T256 key) nonce) header run) (length run - 16) room
  open_7 ok l b some = open_admitted 7 scheme7 key nonce header ok run room l b (not_blank scheme7 (length header) (length run - 16) some)

-- ---- bodies of at most one block: schemes 4 and 5, and 6 and 7, answer alike in everything

module _ (key nonce header : List ℕ) where
  pub seal_as_sibling : (body room : List ℕ)
      → (length body ≤ 8 → seal_of 4 key nonce header body room ≡ seal_of 5 key nonce header body room)
      × (length body ≤ 16 → seal_of 6 key nonce header body room ≡ seal_of 7 key nonce header body room)
  unfolding seal_of scheme_of
  seal_as_sibling body room = (
    seal_alike N64T192 6 131040 262136 key nonce header room body,
    seal_alike N128T256 14 262080 524272 key nonce header room body,
  )

  pub open_as_sibling : (run room : List ℕ)
      → (length run ≤ 16 → open_of 4 key nonce header run room ≡ open_of 5 key nonce header run room)
      × (length run ≤ 32 → open_of 6 key nonce header run room ≡ open_of 7 key nonce header run room)
  unfolding open_of scheme_of
  open_as_sibling run room = (
    open_alike N64T192 6 131040 262136 key nonce header room run,
    open_alike N128T256 14 262080 524272 key nonce header room run,
  )

-- ---- rounds: so much for each block of the header, none where it is empty; Umbreon so much for each block of the body, Jolteon for each but the last
-- what a header's costs, and for the last what Umbreon's does

module _ (key nonce header : List ℕ) where
  module _ (body room : List ℕ) where
    pub seal_rounds_4 : (seal_of 4 key nonce header body room).number ≡ 0
        → (seal_of 4 key nonce header body room).rounds ≡ blocks 8 (length header) * 40 + blocks 8 (length body) * 63
    unfolding fork_rounds wants
    seal_rounds_4 e = by_lengths 4 scheme4 named_4 refl key nonce header body room false (inl e) ∙ flat_some 8 40 63 (length header) (length body)

    pub seal_rounds_5 : (seal_of 5 key nonce header body room).number ≡ 0
        → (seal_of 5 key nonce header body room).rounds ≡ blocks 8 (length header) * 40 + cond (none (length body)) 0 (before_last 8 (length body) * 40 + 63)
    unfolding fork_rounds wants
    seal_rounds_5 e = by_lengths 5 scheme5 named_5 refl key nonce header body room false (inl e)

    pub seal_rounds_6 : (seal_of 6 key nonce header body room).number ≡ 0
        → (seal_of 6 key nonce header body room).rounds ≡ blocks 16 (length header) * 48 + blocks 16 (length body) * 75
    unfolding fork_rounds wants
    seal_rounds_6 e = by_lengths 6 scheme6 named_6 refl key nonce header body room false (inl e) ∙ flat_some 16 48 75 (length header) (length body)

    pub seal_rounds_7 : (seal_of 7 key nonce header body room).number ≡ 0
        → (seal_of 7 key nonce header body room).rounds ≡ blocks 16 (length header) * 48 + cond (none (length body)) 0 (before_last 16 (length body) * 48 + 75)
    unfolding fork_rounds wants
    seal_rounds_7 e = by_lengths 7 scheme7 named_7 refl key nonce header body room false (inl e)

  -- a run is a block longer than its body
  module _ (run room : List ℕ) where
    pub open_rounds_4 : Worked (open_of 4 key nonce header run room).number
        → (open_of 4 key nonce header run room).rounds
        ≡ blocks 8 (length header) * 40 + blocks 8 (length run - 8) * 63
    unfolding fork_rounds wants
    open_rounds_4 w = by_lengths 4 scheme4 named_4 refl key nonce header run room true w ∙ flat_some 8 40 63 (length header) (length run - 8)

    pub open_rounds_5 : Worked (open_of 5 key nonce header run room).number
        → (open_of 5 key nonce header run room).rounds
        ≡ blocks 8 (length header) * 40 + cond (none (length run - 8)) 0 (before_last 8 (length run - 8) * 40 + 63)
    unfolding fork_rounds wants
    open_rounds_5 w = by_lengths 5 scheme5 named_5 refl key nonce header run room true w

    pub open_rounds_6 : Worked (open_of 6 key nonce header run room).number
        → (open_of 6 key nonce header run room).rounds
        ≡ blocks 16 (length header) * 48 + blocks 16 (length run - 16) * 75
    unfolding fork_rounds wants
    open_rounds_6 w = by_lengths 6 scheme6 named_6 refl key nonce header run room true w ∙ flat_some 16 48 75 (length header) (length run - 16)

    pub open_rounds_7 : Worked (open_of 7 key nonce header run room).number
        → (open_of 7 key nonce header run room).rounds
        ≡ blocks 16 (length header) * 48 + cond (none (length run - 16)) 0 (before_last 16 (length run - 16) * 48 + 75)
    unfolding fork_rounds wants
    open_rounds_7 w = by_lengths 7 scheme7 named_7 refl key nonce header run room true w
