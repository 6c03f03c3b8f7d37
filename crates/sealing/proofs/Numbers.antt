-- C-11, which length was wrong: what each number says, exactly, of a seal and of an open (`opens`; the words are those of
-- specs/Numbers.antt and of the schemes). So a maker can go by the number: 2 is the key's length and nothing else, 7 the nonce's, 3 the
-- header's, 8 the body's, and all that is looked at before was right. What a call gives with 0 is in Demands.antt. Assumes nothing.
use mathlib.Core.Path.{◌≡◌, refl}
use Prim.Native.Nat.{ℕ, ◌+◌, ◌≤◌, ◌<◌}
use native.Mathlib.Omega.{arith}
use mathlib.Core.Logic.Iff
use mathlib.Core.Logic.{◌↔◌}
use mathlib.Core.Bool.{Bool, true, false}
use mathlib.Core.List.{List}
use lib.Dec.{eqb}
use lib.ListN.{length}
use Rattle.ciphers.specs.Ciphers.{block_of}
use Rattle.states.specs.Modes.{takes_blank}
use Rattle.schemes.specs.declared.Scheme.{Scheme}
use Rattle.schemes.specs.Checks.{body_in, more_in, checked, Fitting}
use Rattle.schemes.specs.Schemes.{Under}
use Rattle.schemes.proofs.Passed.{blank_is, check_2, check_7, check_3, check_8, check_4, check_5, check_10, check_plain}
use Rattle.schemes.proofs.Table.{unnamed}
use Rattle.sealing.specs.Calls.{opened}
use Rattle.sealing.specs.Numbers.{answered}
use Rattle.sealing.proofs.Said.{after_check, after_0, after_6, short_is, long_is, short_fits, not_short, forged_is, not_forged, said, said_1}

module _ (opens : Bool) (scheme : ℕ) (key nonce header input room : List ℕ) where
  abbrev number : ℕ
  number = (answered opens scheme key nonce header input room).number

  -- the lengths that fit, up to the header's
  abbrev Fit : Scheme → Type 0
  Fit s = Fitting s (length key) (length nonce) (length header)

  -- what the checks answer
  abbrev check : Scheme → ℕ
  check s = checked opens s (length key) (length nonce) (length header) (length input) (length room)

  abbrev authentic : Scheme → Bool
  authentic s = (opened s key nonce header input).authentic

  -- a number of the checks, by what they say of the lengths
  by_check : (k : ℕ) → eqb 0 k ≡ false → eqb 1 k ≡ false → eqb 6 k ≡ false → (Q : Scheme → Type 0)
      → ((s : Scheme) → (check s ≡ k) ↔ Q s) → (number ≡ k) ↔ Under scheme Q
  by_check k not_0 not-1 not_6 Q f =
      said key nonce header input room opens scheme k not-1 Q λ s. Iff.trans (after_check _ _ k not_0 not_6) (f s)

  -- 1: no scheme has this number
  pub says_1 : (number ≡ 1) ↔ (1 ≤ scheme → scheme ≤ 7 → ⊥)
  says_1 = Iff.trans (said_1 key nonce header input room opens scheme) (unnamed scheme)

  -- 2: a known scheme, and a key of another length
  pub says_2 : (number ≡ 2) ↔ Under scheme (λ s. length key ≡ s.key → ⊥)
  says_2 = by_check 2 refl refl refl _ λ s. check_2 s _ _ _ _ _ _ _

  -- 7: a known scheme, a key that fits, and a nonce of another length
  pub says_7 : (number ≡ 7) ↔ Under scheme (λ s. (length key ≡ s.key) × (length nonce ≡ s.nonce → ⊥))
  says_7 = by_check 7 refl refl refl _ λ s. check_7 s _ _ _ _ _ _ _

  -- 3: a known scheme, a key and a nonce that fit, and a header above the limit
  pub says_3 : (number ≡ 3) ↔ Under scheme (λ s. (length key ≡ s.key) × (length nonce ≡ s.nonce) × (s.header < length header))
  says_3 = by_check 3 refl refl refl _ λ s. check_3 s _ _ _ _ _ _ _

  -- 8: a known scheme, a key, a nonce and a header that fit, and a body above the limit
  pub says_8 : (number ≡ 8) ↔ Under scheme (λ s. Fit s × (s.body < body_in opens s (length input)))
  says_8 = by_check 8 refl refl refl _ λ s. check_8 s _ _ _ _ _ _ _

  -- 4: a known scheme, a key, a nonce and a header that fit, and an open of a run shorter than a block
  pub says_4 : (number ≡ 4) ↔ Under scheme (λ s. Fit s × (opens ≡ true) × (length input < block_of s.cipher))
  says_4 =
      by_check 4 refl refl refl _ λ s.
      let (to, from) = check_4 s _ _ _ _ _ _ _ in
      let short = short_is s (length input) opens in (
        λ e. let (f, (_, h)) = to e in let (o, l) = short.0 h in (f, o, l),
        λ t. let h = short.1 (t.1, t.2) in from (t.0, (short_fits s (length input) opens h, h)),
      )

  -- 5: a known scheme, a key, a nonce, a header and a body that fit, and a room shorter than the output
  pub says_5 : (number ≡ 5) ↔ Under scheme (λ s.
      Fit s × (body_in opens s (length input) ≤ s.body) × (length room < body_in opens s (length input) + more_in opens s))
  says_5 =
      by_check 5 refl refl refl _ λ s.
      let (to, from) = check_5 s _ _ _ _ _ _ _ in (
        λ e. let (f, (b, (_, r))) = to e in (f, b, r),
        λ t. from (t.0, (t.1, (not_short s (length input) opens (length room) t.2, t.2))),
      )

  -- 10: a known scheme, a key, a nonce and a header that fit, a run of a block at least, a room that holds the output, a mode that has no run
  -- for an empty header and an empty body, and both of them empty
  pub says_10 : (number ≡ 10) ↔ Under scheme (λ s.
      Fit s
      × (opens ≡ true → block_of s.cipher ≤ length input)
      × (body_in opens s (length input) + more_in opens s ≤ length room)
      × (takes_blank s.kind ≡ false)
      × (length header ≡ 0)
      × (body_in opens s (length input) ≡ 0))
  says_10 =
      by_check 10 refl refl refl _ λ s.
      let (to, from) = check_10 s _ _ _ _ _ _ _ in
      let long = long_is s (length input) opens in
      let none = blank_is s (length header) (body_in opens s (length input)) in (
        λ e. let (f, (_, (l, (r, b)))) = to e in let (k, h, i) = none.0 b in (f, long.0 l, r, k, h, i),
        λ t. from (t.0, (omega (arith, t.5), (long.1 t.1, (t.2, none.1 (t.3, t.4, t.5))))),
      )

  -- 6: a known scheme, no check applies, and an open of a run that is not authentic
  pub says_6 : (number ≡ 6) ↔ Under scheme (λ s. (check s ≡ 0) × (opens ≡ true) × (authentic s ≡ false))
  says_6 =
      said key nonce header input room opens scheme 6 refl _ λ s.
      let forged = forged_is opens (authentic s) in
      let (to, from) = after_6 (check s) _ (check_plain s _ _ _ _ _ _ _).not_6 in
      (λ e. let (c, h) = to e in let (o, a) = forged.0 h in (c, o, a), λ t. from (t.0, forged.1 (t.1, t.2)))

  -- 0: a known scheme, no check applies, and the run of an open is authentic
  pub says_0 : (number ≡ 0) ↔ Under scheme (λ s. (check s ≡ 0) × (opens ≡ true → authentic s ≡ true))
  says_0 =
      said key nonce header input room opens scheme 0 refl _ λ s.
      Iff.trans (after_0 (check s) _) (Iff.and Iff.rfl (not_forged opens (authentic s)))
