-- What a call that was worked tells of its rounds: the sum over its list of block calls, and the formula of the lengths of header and body.
-- Assumes nothing.
use mathlib.Core.Path.{◌≡◌, refl, sym, ap, ◌∙◌}
use Prim.Native.Nat.{ℕ, ◌+◌, ◌-◌, ◌*◌}
use mathlib.Core.Logic.{⊎_elim}
use mathlib.Core.Bool.{Bool, true, false, ◌&&◌, cond, true≢false}
use mathlib.Core.List.{List}
use lib.ListN.{length}
use borrow.Author.Tests.{ltb-false}
use Rattle.cells.proofs.Choice.{either}
use Rattle.ciphers.specs.Ciphers.{block_of}
use Rattle.modes.specs.Blocks.{none, before_last}
use Rattle.modes.specs.Rounds.{blocks, head_blocks, rounds_by}
use Rattle.modes.proofs.Rounds.{flat}
use Rattle.states.specs.Modes.{takes_blank, prices_of, rounds_of}
use Rattle.schemes.specs.declared.Scheme.{Scheme}
use Rattle.std.specs.Prelude.{Some}
use Rattle.schemes.specs.Schemes.{scheme_of, Under}
use Rattle.schemes.specs.Checks.{blank, body_in, checked}
use Rattle.schemes.proofs.Passed.{check_long, check_passed}
use Rattle.schemes.proofs.Table.{of_named}
use Rattle.sealing.specs.Calls.{Told, done, forged, opened, seal_rounds, open_rounds, seal_under, open_under}
use Rattle.sealing.specs.Numbers.{answered, Worked}
use Rattle.sealing.proofs.Numbers.{says_0, says_6}
use Rattle.sealing.proofs.Known.{all_passed, seal_known, open_known}
use Rattle.sealing.proofs.Sums.{seal_sum, open_sum}

module _ (scheme : ℕ) (key nonce header input room : List ℕ) where
  abbrev check : (opens : Bool) → Scheme → ℕ
  check opens s = checked opens s (length key) (length nonce) (length header) (length input) (length room)

  abbrev told : (opens : Bool) → Told
  told opens = answered opens scheme key nonce header input room

  -- no check applied
  pub worked_check : (opens : Bool) → Worked (told opens).number → Under scheme (λ s. check opens s ≡ 0)
  worked_check opens =
      ⊎_elim
      (λ e. let (s, known, (c, _)) = (says_0 opens scheme key nonce header input room).0 e in (s, known, c))
      (λ e. let (s, known, (c, _, _)) = (says_6 opens scheme key nonce header input room).0 e in (s, known, c))

  -- ---- under a scheme

  module _ (s : Scheme) (known : scheme_of scheme ≡ Some s) where
    pub seal_told : check false s ≡ 0 → (told false).rounds ≡ seal_rounds s key nonce header input
    unfolding seal_under
    seal_told c = ap (λ (t : Told). t.rounds) (seal_known scheme s known key nonce header input room ∙ all_passed _ _ room c)

    pub open_told : check true s ≡ 0 → (told true).rounds ≡ open_rounds s key nonce header input
    unfolding open_under
    open_told c =
        let k = open_rounds s key nonce header input in
        let l = length input - block_of s.cipher in
        let o = opened s key nonce header input in
        ap (λ (t : Told). t.rounds) (open_known scheme s known key nonce header input room ∙ all_passed _ _ room c)
        ∙ either (λ (t : Told). t.rounds ≡ k) o.authentic (done k l o.body room) (forged k l room) refl refl

    told_rounds : (opens : Bool) → check opens s ≡ 0 → (told opens).rounds ≡ rounds_of s.kind s.cipher (length header) (body_in opens s (length input))
    told_rounds false c = seal_told c ∙ seal_sum s key nonce header input
    told_rounds true c = open_told c ∙ open_sum s key nonce header input (ltb-false _ _ (check_long s _ _ _ _ _ _ _ c))

  -- ---- by its number

  pub worked_rounds : (opens : Bool) → Worked (told opens).number
      → Under scheme (λ s. (told opens).rounds ≡ rounds_of s.kind s.cipher (length header) (body_in opens s (length input)))
  worked_rounds opens w = let (s, known, c) = worked_check opens w in (s, known, told_rounds s known opens c)

-- two calls under one scheme, whose headers have one length, and whose bodies do
pub same_rounds : (scheme : ℕ) (opens opens' : Bool) (key nonce header input room key' nonce' header' input' room' : List ℕ)
    → Worked (answered opens scheme key nonce header input room).number
    → Worked (answered opens' scheme key' nonce' header' input' room').number
    → length header ≡ length header'
    → ((s : Scheme) → scheme_of scheme ≡ Some s → body_in opens s (length input) ≡ body_in opens' s (length input'))
    → (answered opens scheme key nonce header input room).rounds ≡ (answered opens' scheme key' nonce' header' input' room').rounds
same_rounds scheme opens opens' key nonce header input room key' nonce' header' input' room' w w' h b =
    let (s, known, r) = worked_rounds scheme key nonce header input room opens w in
    let r' = of_named _ scheme s known (worked_rounds scheme key' nonce' header' input' room' opens' w') in
    r ∙ (λ i. rounds_of s.kind s.cipher (h i) (b s known i)) ∙ sym r'

-- ---- under a mode that has no run for an empty header and an empty body

-- where not both are empty, the header's blocks are all there are
heads : (t b h : Bool) (x y : ℕ) → t ≡ false → cond t false (cond b h false) ≡ false → cond (b && h) x y ≡ y
heads true b h x y e n = absurd (true≢false e)
heads false true true x y e n = absurd (true≢false n)
heads false true false x y e n = refl
heads false false h x y e n = refl

pub by_lengths : (scheme : ℕ) (s : Scheme) → scheme_of scheme ≡ Some s → takes_blank s.kind ≡ false → (key nonce header input room : List ℕ) (opens : Bool)
    → Worked (answered opens scheme key nonce header input room).number
    → let n = block_of s.cipher in
    let p = prices_of s.kind s.cipher in
    let body = body_in opens s (length input) in
    (answered opens scheme key nonce header input room).rounds
    ≡ blocks n (length header) * p.head + cond (none body) 0 (before_last n body * p.block + p.last)
unfolding rounds_of rounds_by head_blocks blank
by_lengths scheme s known none-there key nonce header input room opens w =
    let body = body_in opens s (length input) in
    let passed = check_passed s _ _ _ _ _ _ _ (of_named _ scheme s known (worked_check scheme key nonce header input room opens w)) in
    let p = prices_of s.kind s.cipher in
    let n = block_of s.cipher in
    of_named _ scheme s known (worked_rounds scheme key nonce header input room opens w)
    ∙ ap (λ (k : ℕ). k * p.head + cond (none body) 0 (before_last n body * p.block + p.last))
    (heads (takes_blank s.kind) (none body) (none (length header)) 1 (blocks n (length header)) none-there passed.some)

-- the last block costs what the others do
pub flat_some : (n one both header body : ℕ)
    → blocks n header * one + cond (none body) 0 (before_last n body * both + both) ≡ blocks n header * one + blocks n body * both
unfolding blocks
flat_some n one both header body = ap (λ (k : ℕ). blocks n header * one + k) (flat (none body) (before_last n body) both)
