-- The comparison's entry points: any two results that a contract allows are one, the number returned and all that is written, the rounds
-- too. Assumes nothing.
use mathlib.Core.Path.{◌≡◌, sym, ap, ◌∙◌}
use Prim.Native.Nat.{ℕ}
use mathlib.Core.List.{List}
use Rattle.forkskinny.specs.Calls.{ForkTold, UnforkTold, fork_of, unfork_of}
use Rattle.sealing.specs.Calls.{Told, seal_of, open_of}
use Rattle.meter.specs.Entries.{fork_told, unfork_told, call_told}

module _ (r r' k k' : ℕ) (a a' b b' : List ℕ) where
  pub same_fork_metered : (cipher : ℕ) (key tweak block : List ℕ) (want : ℕ)
      → fork_told r a b k ≡ fork_of cipher key tweak block want → fork_told r' a' b' k' ≡ fork_of cipher key tweak block want
      → (r ≡ r') × (a ≡ a') × (b ≡ b') × (k ≡ k')
  same_fork_metered cipher key tweak block want p q =
      let e = p ∙ sym q in
      (ap (λ (f : ForkTold). f.number) e, ap (λ (f : ForkTold). f.half0) e, ap (λ (f : ForkTold). f.half1) e, ap (λ (f : ForkTold). f.rounds) e)

  pub same_unfork_metered : (cipher : ℕ) (key tweak block : List ℕ) (from want : ℕ)
      → unfork_told r a b k ≡ unfork_of cipher key tweak block from want → unfork_told r' a' b' k' ≡ unfork_of cipher key tweak block from want
      → (r ≡ r') × (a ≡ a') × (b ≡ b') × (k ≡ k')
  same_unfork_metered cipher key tweak block from want p q =
      let e = p ∙ sym q in
      (ap (λ (f : UnforkTold). f.number) e, ap (λ (f : UnforkTold). f.input) e, ap (λ (f : UnforkTold). f.other) e, ap (λ (f : UnforkTold). f.rounds) e)

module _ (r r' l l' k k' : ℕ) (out out' : List ℕ) where
  same_told : (t : Told) → call_told r l out k ≡ t → call_told r' l' out' k' ≡ t → (r ≡ r') × (l ≡ l') × (out ≡ out') × (k ≡ k')
  same_told t p q =
      let e = p ∙ sym q in
      (ap (λ (u : Told). u.number) e, ap (λ (u : Told). u.length) e, ap (λ (u : Told). u.room) e, ap (λ (u : Told). u.rounds) e)

  pub same_seal_metered : (scheme : ℕ) (key nonce header body room : List ℕ)
      → call_told r l out k ≡ seal_of scheme key nonce header body room → call_told r' l' out' k' ≡ seal_of scheme key nonce header body room
      → (r ≡ r') × (l ≡ l') × (out ≡ out') × (k ≡ k')
  same_seal_metered scheme key nonce header body room = same_told (seal_of scheme key nonce header body room)

  pub same_open_metered : (scheme : ℕ) (key nonce header run room : List ℕ)
      → call_told r l out k ≡ open_of scheme key nonce header run room → call_told r' l' out' k' ≡ open_of scheme key nonce header run room
      → (r ≡ r') × (l ≡ l') × (out ≡ out') × (k ≡ k')
  same_open_metered scheme key nonce header run room = same_told (open_of scheme key nonce header run room)
