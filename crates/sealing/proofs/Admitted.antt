-- What the calls answer where key, nonce and header are admitted, and the lengths too: no check applies, or the last of them. Assumes nothing.
use mathlib.Core.Path.{◌≡◌, refl, ap, ◌∙◌}
use Prim.Native.Nat.{ℕ, ◌+◌, ◌-◌, ◌≤◌}
use native.Mathlib.Omega.{arith}
use mathlib.Core.Bool.{true, false}
use mathlib.Core.List.{List}
use lib.Dec.{ltb}
use lib.ListN.{length}
use borrow.Author.Tests.{ltb-false, le-ltb}
use Rattle.ciphers.specs.Ciphers.{block_of}
use Rattle.schemes.specs.declared.Scheme.{Scheme}
use Rattle.schemes.specs.Checks.{blank, Fitting}
use Rattle.schemes.proofs.Passed.{Passed, blank_is, check_10, check_pass, check_passed, check_long}
use Rattle.schemes.proofs.Table.{of_named}
use Rattle.sealing.specs.Calls.{refused, done, judged, passed, sealed, opened, seal_rounds, open_rounds, seal_under, open_under, seal_of, open_of}
use Rattle.sealing.specs.Demands.{Admitted}
use Rattle.sealing.proofs.Numbers.{says_0}
use Rattle.sealing.proofs.Known.{seal_known, open_known}

module _ (number : ℕ) (s : Scheme) (key nonce header : List ℕ) (ok : Admitted number s key nonce header) where
  abbrev n : ℕ
  n = block_of s.cipher

  fits : Fitting s (length key) (length nonce) (length header)
  fits = record { key_fits = ok.key_fits.long; nonce_fits = ok.nonce_fits.long; header_fits = ok.header_fits }

  -- what is left to the body and the room
  admits : (body more room : ℕ) → body ≤ s.body → blank s (length header) body ≡ false → body + more ≤ room
      → Passed s (length key) (length nonce) (length header) body more room
  admits body more room b m r = record { fit = fits; body_fits = b; room_fits = r; some = m }

  pub seal_admitted : (body room : List ℕ) → length body ≤ s.body → blank s (length header) (length body) ≡ false → length body + n ≤ length room
      → seal_of number key nonce header body room ≡ done (seal_rounds s key nonce header body) (length body + n) (sealed s key nonce header body) room
  unfolding seal_under
  seal_admitted body room b m r =
      seal_known number s ok.named key nonce header body room
      ∙ ap (λ (k : ℕ). passed k (done (seal_rounds s key nonce header body) (length body + n) (sealed s key nonce header body) room) room)
      (check_pass s _ _ _ _ _ _ _ (admits (length body) n (length room) b m r) refl)

  pub open_admitted : (run room : List ℕ) → n ≤ length run → length run ≤ s.body + n → blank s (length header) (length run - n) ≡ false
      → length run ≤ length room + n
      → open_of number key nonce header run room ≡ judged (open_rounds s key nonce header run) (opened s key nonce header run) (length run - n) room
  unfolding open_under
  open_admitted run room l b m r =
      open_known number s ok.named key nonce header run room
      ∙ ap (λ (k : ℕ). passed k (judged (open_rounds s key nonce header run) (opened s key nonce header run) (length run - n) room) room)
      (check_pass s _ _ _ _ _ _ _ (admits (length run - n) 0 (length room) (omega arith) m (omega arith)) (le-ltb (length run) n l))

  -- a header and a body that are both empty, under a mode that has no run for them
  pub open_blank : (run room : List ℕ) → n ≤ length run → blank s (length header) (length run - n) ≡ true
      → open_of number key nonce header run room ≡ refused 10 room
  unfolding open_under
  open_blank run room l m =
      let (_, _, none) = (blank_is s (length header) (length run - n)).0 m in
      let ten = (check_10 s (length key) (length nonce) (length header) (length run - n) (ltb (length run) n) 0 (length room)).1
      (fits, (omega arith, (le-ltb (length run) n l, (omega arith, m)))) in
      open_known number s ok.named key nonce header run room
      ∙ ap (λ (k : ℕ). passed k (judged (open_rounds s key nonce header run) (opened s key nonce header run) (length run - n) room) room) ten

  -- ---- the other way round: 0 is told only where no check applied

  pub sealed_fits : (body room : List ℕ) → (seal_of number key nonce header body room).number ≡ 0
      → (length body ≤ s.body) × (blank s (length header) (length body) ≡ false) × (length body + n ≤ length room)
  sealed_fits body room e =
      let (c, _) = of_named _ number s ok.named ((says_0 false number key nonce header body room).0 e) in
      let p = check_passed s _ _ _ _ _ _ _ c in
      (p.body_fits, p.some, p.room_fits)

  pub opened_fits : (run room : List ℕ) → (open_of number key nonce header run room).number ≡ 0
      → (n ≤ length run) × (length run ≤ s.body + n) × (blank s (length header) (length run - n) ≡ false)
      × ((opened s key nonce header run).authentic ≡ true)
  opened_fits run room e =
      let (c, a) = of_named _ number s ok.named ((says_0 true number key nonce header run room).0 e) in (
        ltb-false (length run) n (check_long s _ _ _ _ _ _ _ c),
        omega (arith, (check_passed s _ _ _ _ _ _ _ c).body_fits),
        (check_passed s _ _ _ _ _ _ _ c).some,
        a refl,
      )
