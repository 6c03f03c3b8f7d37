-- The entry points for C: any two results that a contract allows are one, the number returned and all that is written. Assumes nothing.
use mathlib.Core.Path.{◌≡◌, sym, ap, ◌∙◌}
use Prim.Native.Nat.{ℕ}
use mathlib.Core.List.{List}
use Rattle.prepared.specs.Prepared.{prepare_of}
use Rattle.forkskinny.specs.Calls.{fork_of, unfork_of, fork_with, unfork_with}
use Rattle.sealing.specs.Budget.{Budget, budget_of}
use Rattle.sealing.specs.Calls.{seal_of, open_of, seal_with, open_with}
use Rattle.auraski.specs.Entries.{Blocks, blocks, halves_in, back_in, Answered, answered, answer_in, counted}
use Rattle.auraski.specs.Rooms.{record_in, Prepares, prepared, prepared_in}

-- the number, and both blocks
module _ (r r' : ℕ) (a a' b b' : List ℕ) where
  same_blocks : (t : Blocks) → blocks r a b ≡ t → blocks r' a' b' ≡ t → (r ≡ r') × (a ≡ a') × (b ≡ b')
  same_blocks t p q =
      let e = p ∙ sym q in
      (ap (λ (u : Blocks). u.number) e, ap (λ (u : Blocks). u.first) e, ap (λ (u : Blocks). u.second) e)

  pub same_fork_for_c : (cipher : ℕ) (key tweak block : List ℕ) (want : ℕ)
      → blocks r a b ≡ halves_in (fork_of cipher key tweak block want) → blocks r' a' b' ≡ halves_in (fork_of cipher key tweak block want)
      → (r ≡ r') × (a ≡ a') × (b ≡ b')
  same_fork_for_c cipher key tweak block want = same_blocks (halves_in (fork_of cipher key tweak block want))

  pub same_unfork_for_c : (cipher : ℕ) (key tweak block : List ℕ) (from want : ℕ)
      → blocks r a b ≡ back_in (unfork_of cipher key tweak block from want) → blocks r' a' b' ≡ back_in (unfork_of cipher key tweak block from want)
      → (r ≡ r') × (a ≡ a') × (b ≡ b')
  same_unfork_for_c cipher key tweak block from want = same_blocks (back_in (unfork_of cipher key tweak block from want))

  -- with a prepared key: the room that holds it in place of the key
  pub same_fork_prepared_for_c : (cipher : ℕ) (key tweak block : List ℕ) (want : ℕ)
      → blocks r a b ≡ halves_in (fork_with cipher (record_in key) tweak block want) → blocks r' a' b' ≡ halves_in (fork_with cipher (record_in key) tweak block want)
      → (r ≡ r') × (a ≡ a') × (b ≡ b')
  same_fork_prepared_for_c cipher key tweak block want = same_blocks (halves_in (fork_with cipher (record_in key) tweak block want))

  pub same_unfork_prepared_for_c : (cipher : ℕ) (key tweak block : List ℕ) (from want : ℕ)
      → blocks r a b ≡ back_in (unfork_with cipher (record_in key) tweak block from want)
      → blocks r' a' b' ≡ back_in (unfork_with cipher (record_in key) tweak block from want) → (r ≡ r') × (a ≡ a') × (b ≡ b')
  same_unfork_prepared_for_c cipher key tweak block from want = same_blocks (back_in (unfork_with cipher (record_in key) tweak block from want))

-- the number, the length and the room
module _ (r r' l l' : ℕ) (out out' : List ℕ) where
  same_answered : (t : Answered) → answered r l out ≡ t → answered r' l' out' ≡ t → (r ≡ r') × (l ≡ l') × (out ≡ out')
  same_answered t p q =
      let e = p ∙ sym q in
      (ap (λ (u : Answered). u.number) e, ap (λ (u : Answered). u.length) e, ap (λ (u : Answered). u.room) e)

  pub same_seal_for_c : (scheme : ℕ) (key nonce header body room : List ℕ)
      → answered r l out ≡ answer_in (seal_of scheme key nonce header body room)
      → answered r' l' out' ≡ answer_in (seal_of scheme key nonce header body room) → (r ≡ r') × (l ≡ l') × (out ≡ out')
  same_seal_for_c scheme key nonce header body room = same_answered (answer_in (seal_of scheme key nonce header body room))

  pub same_open_for_c : (scheme : ℕ) (key nonce header run room : List ℕ)
      → answered r l out ≡ answer_in (open_of scheme key nonce header run room)
      → answered r' l' out' ≡ answer_in (open_of scheme key nonce header run room) → (r ≡ r') × (l ≡ l') × (out ≡ out')
  same_open_for_c scheme key nonce header run room = same_answered (answer_in (open_of scheme key nonce header run room))

  pub same_seal_prepared_for_c : (scheme : ℕ) (key nonce header body room : List ℕ)
      → answered r l out ≡ answer_in (seal_with scheme (record_in key) nonce header body room)
      → answered r' l' out' ≡ answer_in (seal_with scheme (record_in key) nonce header body room) → (r ≡ r') × (l ≡ l') × (out ≡ out')
  same_seal_prepared_for_c scheme key nonce header body room = same_answered (answer_in (seal_with scheme (record_in key) nonce header body room))

  pub same_open_prepared_for_c : (scheme : ℕ) (key nonce header run room : List ℕ)
      → answered r l out ≡ answer_in (open_with scheme (record_in key) nonce header run room)
      → answered r' l' out' ≡ answer_in (open_with scheme (record_in key) nonce header run room) → (r ≡ r') × (l ≡ l') × (out ≡ out')
  same_open_prepared_for_c scheme key nonce header run room = same_answered (answer_in (open_with scheme (record_in key) nonce header run room))

-- the number and the record
pub same_prepare_for_c : (r r' : ℕ) (room room' : List ℕ) (cipher : ℕ) (key : List ℕ)
    → prepared r room ≡ prepared_in (prepare_of cipher key) → prepared r' room' ≡ prepared_in (prepare_of cipher key) → (r ≡ r') × (room ≡ room')
same_prepare_for_c r r' room room' cipher key p q =
    let e = p ∙ sym q in
    (ap (λ (u : Prepares). u.number) e, ap (λ (u : Prepares). u.room) e)

-- the number and the rounds
pub same_rounds_for_c : (r r' k k' : ℕ) (scheme header body : ℕ)
    → counted r k ≡ budget_of scheme header body → counted r' k' ≡ budget_of scheme header body → (r ≡ r') × (k ≡ k')
same_rounds_for_c r r' k k' scheme header body p q =
    let e = p ∙ sym q in
    (ap (λ (b : Budget). b.number) e, ap (λ (b : Budget). b.rounds) e)
