-- Opening is exact, under any scheme of the table: its mode obeys the laws, so a run opens to the body that seals to it, and to no
-- other, and is refused where no body seals to it. Assumes nothing.
use mathlib.Core.Path.{◌≡◌, refl, sym, ap, ◌∙◌}
use Prim.Native.Nat.{ℕ, ◌+◌, ◌-◌, ◌≤◌}
use native.Mathlib.Omega.{arith}
use mathlib.Core.Logic.{◌↔◌}
use mathlib.Core.Bool.{Bool, true, false, cond}
use mathlib.Core.List.{List, ◌++◌}
use lib.ListN.{length, take, drop}
use lib.Seq.{take_at}
use Rattle.cells.specs.Cells.{Bytes, Block}
use Rattle.ciphers.specs.declared.Cipher.{Cipher}
use Rattle.ciphers.specs.Ciphers.{block_of}
use Rattle.modes.specs.Mode.{Mode}
use Rattle.modes.specs.Lawful.{Lawful}
use Rattle.modes.proofs.Exact.{seal_run_block, seal_open, exact, unique, refused_iff}
use Rattle.modes.proofs.PaefLaws.{SumOk, paef_lawful}
use Rattle.modes.proofs.EeveeLaws.{ChainOk, umbreon_lawful, jolteon_lawful}
use Rattle.modes.proofs.SaefLaws.{MaskOk, saef_lawful}
use Rattle.states.specs.declared.Kind.{Kind}
use Rattle.states.specs.declared.Kind.TheVariants.{Paef, Saef, Umbreon, Jolteon}
use Rattle.states.specs.Modes.{Carried, mode_of, tail_of, rounds_of}
use Rattle.states.specs.Skinny.{skinny}
use Rattle.states.proofs.Laws.{skinny_laws}
use Rattle.schemes.specs.declared.Scheme.{Scheme}
use Rattle.schemes.specs.Checks.{blank}
use Rattle.schemes.proofs.Table.{named_fits}
use Rattle.sealing.specs.Calls.{Told, written, done, forged, judged, sealed, opened, seal_rounds, open_rounds, seal_of, open_of}
use Rattle.sealing.specs.Demands.{Admitted, SealsTo}
use Rattle.sealing.proofs.Admitted.{seal_admitted, open_admitted, sealed_fits, opened_fits}
use Rattle.sealing.proofs.Sums.{seal_sum, open_sum}

-- ---- the modes obey the laws

-- what holds of the states of a mode
abbrev pub OkOf : (k : Kind) → ℕ → Carried k → Type 0
OkOf Paef n = SumOk n
OkOf Saef n = MaskOk n
OkOf Umbreon n = ChainOk n
OkOf Jolteon n = ChainOk n

-- the nonce and the bytes behind it fill the tweak
mode_lawful : (k : Kind) (c : Cipher) (key nonce : List ℕ) (ν : ℕ) → ν + tail_of k ≡ block_of c → Bytes key → Block ν nonce
    → Lawful (block_of c) (mode_of k c key nonce) (OkOf k (block_of c))
mode_lawful Paef c key nonce ν e hk hn = paef_lawful (block_of c) ν (skinny c key) (skinny_laws c key hk) e nonce hn
mode_lawful Saef c key nonce ν e hk hn = saef_lawful (block_of c) ν (skinny c key) (skinny_laws c key hk) e nonce hn
mode_lawful Umbreon c key nonce ν e hk hn = umbreon_lawful (block_of c) ν (skinny c key) (skinny_laws c key hk) e nonce hn
mode_lawful Jolteon c key nonce ν e hk hn = jolteon_lawful (block_of c) ν (skinny c key) (skinny_laws c key hk) e nonce hn

module _ (number : ℕ) (s : Scheme) (key nonce header : List ℕ) (ok : Admitted number s key nonce header) where
  abbrev n : ℕ
  n = block_of s.cipher

  abbrev M : Mode (Carried s.kind)
  M = mode_of s.kind s.cipher key nonce

  abbrev Ok : Carried s.kind → Type 0
  Ok = OkOf s.kind n

  pub lawful : Lawful n M Ok
  lawful =
      mode_lawful s.kind s.cipher key nonce s.nonce (named_fits number s ok.named).nonce ok.key_fits.bytes ok.nonce_fits

  sealed_block : (body : List ℕ) → Bytes body → Block (length body + n) (sealed s key nonce header body)
  sealed_block body b = seal_run_block n M Ok lawful header ok.header_bytes body b

  pub sealed_long : (body : List ℕ) → Bytes body → length (sealed s key nonce header body) ≡ length body + n
  sealed_long body b = (sealed_block body b).long

  -- ---- what seal writes

  -- where it answers with 0, the run
  pub seal_written : (body room : List ℕ) → Bytes body → (seal_of number key nonce header body room).number ≡ 0
      → written (seal_of number key nonce header body room) ≡ sealed s key nonce header body
  seal_written body room b e =
      let (h, m, r) = sealed_fits number s key nonce header ok body room e in
      ap written (seal_admitted number s key nonce header ok body room h m r)
      ∙ take_at (sealed s key nonce header body) (drop (length body + n) room) (length body + n) (sealed_long body b)

  module _ (body run : List ℕ) where
    pub long : SealsTo s key nonce header body run → length run ≡ length body + n
    long t = sym (ap length t.published) ∙ sealed_long body t.body_bytes

    -- a body that seals to a run is sealed to it
    pub seal_writes : (room : List ℕ) → SealsTo s key nonce header body run → length body + n ≤ length room
        → seal_of number key nonce header body room ≡ done (seal_rounds s key nonce header body) (length run) run room
    seal_writes room t r =
        seal_admitted number s key nonce header ok body room t.body_fits t.some r ∙ (λ i. done (seal_rounds s key nonce header body) (sym (long t) i) (t.published i) room)

    -- and to no other: 0 tells that body and room were within the limits, the length is the run's, and the front of the room is the run
    pub seal_wrote : (room : List ℕ) → Bytes body
        → seal_of number key nonce header body room ≡ done (seal_rounds s key nonce header body) (length run) run room
        → SealsTo s key nonce header body run
    seal_wrote room b e =
        let (h, m, r) = sealed_fits number s key nonce header ok body room (ap (λ (u : Told). u.number) e) in
        let y : List ℕ = sealed s key nonce header body in
        let k : ℕ = seal_rounds s key nonce header body in
        let d : done k (length body + n) y room ≡ done k (length run) run room = sym (seal_admitted number s key nonce header ok body room h m r) ∙ e in
        let l : length y ≡ length run = sealed_long body b ∙ ap (λ (u : Told). u.length) d in
        record {
          body_bytes = b;
          body_fits = h;
          some = m;
          published =
              sym (take_at y (drop (length body + n) room) (length run) l)
              ∙ ap (λ (u : Told). take (length run) u.room) d
              ∙ take_at run (drop (length run) room) (length run) refl;
        }

  -- ---- the demand

  module _ (run room : List ℕ) (hr : Bytes run) (enough : length run ≤ length room + n) where
    pub body_returned : (body : List ℕ) → SealsTo s key nonce header body run
        → open_of number key nonce header run room ≡ done (open_rounds s key nonce header run) (length body) body room
    body_returned body t =
        let l : length run ≡ length body + n = long body run t in
        let m : length run - n ≡ length body = omega arith in
        let o : opened s key nonce header run ≡ record { authentic = true; body = body }
        = (exact n M Ok lawful header ok.header_bytes run body hr (omega arith)).1 (t.body_bytes, t.published) in
        open_admitted number s key nonce header ok run room (omega arith) (omega (arith, t.body_fits)) (ap (blank s (length header)) m ∙ t.some) enough
        ∙ (λ i. judged (open_rounds s key nonce header run) (o i) (m i) room)

    pub opens_iff : ((open_of number key nonce header run room).number ≡ 0) ↔ ((body : List ℕ) × SealsTo s key nonce header body run)
    opens_iff = (
      λ e. let (l, most, m, a) = opened_fits number s key nonce header ok run room e in
          let q = seal_open n M Ok lawful header ok.header_bytes run hr l a in (
            (opened s key nonce header run).body,
            record {
              body_bytes = q.0.bytes;
              body_fits = omega (arith, q.0.long);
              some = ap (blank s (length header)) q.0.long ∙ m;
              published = q.1;
            },
          ),
      λ t. ap (λ (u : Told). u.number) (body_returned t.0 t.1),
    )

    pub one_body : (a b : List ℕ) → SealsTo s key nonce header a run → SealsTo s key nonce header b run → a ≡ b
    one_body a b t u =
        unique n M Ok lawful header ok.header_bytes a b t.body_bytes u.body_bytes (t.published ∙ sym u.published)

    pub none_forged : ((body : List ℕ) → SealsTo s key nonce header body run → ⊥) → n ≤ length run → length run ≤ s.body + n
        → blank s (length header) (length run - n) ≡ false
        → open_of number key nonce header run room ≡ forged (open_rounds s key nonce header run) (length run - n) room
    none_forged none l h m =
        let a : (opened s key nonce header run).authentic ≡ false
        = (refused_iff n M Ok lawful header ok.header_bytes run hr l).1
        (λ b hb e.
        let k : length b ≡ length run - n = omega (arith, sealed_long b hb, ap length e) in
        none b (record { body_bytes = hb; body_fits = omega arith; some = ap (blank s (length header)) k ∙ m; published = e })) in
        let k : ℕ = open_rounds s key nonce header run in
        open_admitted number s key nonce header ok run room l h m enough
        ∙ ap (λ (b : Bool). cond b (done k (length run - n) (opened s key nonce header run).body room) (forged k (length run - n) room)) a

  -- what seal wrote, opened
  pub sealed_opens : (body room room' : List ℕ) → Bytes body → length body ≤ s.body → blank s (length header) (length body) ≡ false
      → length body + n ≤ length room → length body ≤ length room'
      → let t = seal_of number key nonce header body room in
      (t.number ≡ 0) × (open_of number key nonce header (take t.length t.room) room' ≡ done t.rounds (length body) body room')
  sealed_opens body room room' b h some r r' =
      let run : List ℕ = sealed s key nonce header body in
      let l : length run ≡ length body + n = sealed_long body b in
      let e = seal_admitted number s key nonce header ok body room h some r in
      let m : length run - n ≡ length body = omega arith in
      let same_rounds : open_rounds s key nonce header run ≡ seal_rounds s key nonce header body
      = open_sum s key nonce header run (omega arith)
      ∙ ap (rounds_of s.kind s.cipher (length header)) m
      ∙ sym (seal_sum s key nonce header body) in
      let front : take (length body + n) (run ++ drop (length body + n) room) ≡ run = take_at run (drop (length body + n) room) (length body + n) l in (
        ap (λ (u : Told). u.number) e,
        ap (λ (u : Told). open_of number key nonce header (take u.length u.room) room') e
            ∙ ap (λ (c : List ℕ). open_of number key nonce header c room') front
            ∙ body_returned run room' (sealed_block body b).bytes (omega arith) body
            (record { body_bytes = b; body_fits = h; some = some; published = refl })
            ∙ ap (λ (k : ℕ). done k (length body) body room') (same_rounds ∙ ap (λ (u : Told). u.rounds) (sym e)),
      )
