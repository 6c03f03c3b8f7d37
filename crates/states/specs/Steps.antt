-- What the steps answer, in the words of a mode. Assumes nothing.
use Rattle.std.specs.Prelude.{◌≡◌, ℕ, ◌+◌, ◌≤◌, Bool, List, length, take}
use Rattle.ciphers.specs.Ciphers.{block_of}
use Rattle.states.specs.declared.Kind.{Kind}
use Rattle.states.specs.declared.Pair.{Pair}
use Rattle.states.specs.declared.State.{State}
use Rattle.states.specs.declared.Step.{Step}
use Rattle.states.specs.Modes.{Carried, tail_of, state_of}
use Rattle.states.specs.Under.{KeyAndNonce, mode_at}

-- a block that is not the last goes to f of it, and the state to g of it
pub record Stepped (k : Kind) (n : ℕ) (f : Carried k → List ℕ → List ℕ) (g : Carried k → List ℕ → Carried k) (s : State) (x out : List ℕ)
    (next : State) : Type 0 where
  pub out_is : take n out ≡ f (state_of k n s) (take n x)
  pub next_is : state_of k n next ≡ g (state_of k n s) (take n x)
  pub long : length out ≡ 16
  pub number : next.number ≤ s.number + 1

-- a block goes to f of it and g of it
pub record Paired (k : Kind) (n : ℕ) (f g : Carried k → List ℕ → List ℕ) (s : State) (x first second : List ℕ) : Type 0 where
  pub first_is : take n first ≡ f (state_of k n s) (take n x)
  pub second_is : take n second ≡ g (state_of k n s) (take n x)
  pub first_long : length first ≡ 16
  pub second_long : length second ≡ 16

-- a state: what a mode carries there, and a bound of its number
pub record Reached (k : Kind) (n : ℕ) (to : Carried k) (most : ℕ) (r : State) : Type 0 where
  pub state : state_of k n r ≡ to
  pub number : r.number ≤ most

-- ---- the steps of a mode, under a key and a nonce

-- what each asks: the nonce fills the tweak, and the state's number can be counted on
pub record Steppable (k : Kind) (u : KeyAndNonce) (s : State) : Type 0 where
  pub fills : length u.nonce + tail_of k ≡ block_of u.cipher
  pub number : s.number ≤ 4294967296

-- what each answers of a state and a block: a header's block that is not the last, and the last one
abbrev pub HeadStep : (k : Kind) (u : KeyAndNonce) (s : State) (x : List ℕ) → State → Type 0
HeadStep k u s x =
    let n = block_of u.cipher in
    Reached k n ((mode_at k u).head (state_of k n s) (take n x)) (s.number + 1)

abbrev pub HeadEnd : (k : Kind) (u : KeyAndNonce) (empty full : Bool) (s : State) (x : List ℕ) → State → Type 0
HeadEnd k u empty full s x =
    let n = block_of u.cipher in
    Reached k n ((mode_at k u).head_last empty full (state_of k n s) (take n x)) 1

-- a body's block that is not the last, sealed and opened
abbrev pub SealStep : (k : Kind) (u : KeyAndNonce) (s : State) (x : List ℕ) → Step → Type 0
SealStep k u s x r = Stepped k (block_of u.cipher) (mode_at k u).out (mode_at k u).next s x r.out r.next

abbrev pub OpenStep : (k : Kind) (u : KeyAndNonce) (s : State) (x : List ℕ) → Step → Type 0
OpenStep k u s x r = Stepped k (block_of u.cipher) (mode_at k u).back (mode_at k u).back_next s x r.out r.next

-- the last one, sealed and opened
abbrev pub SealEnd : (k : Kind) (u : KeyAndNonce) (full : Bool) (s : State) (x : List ℕ) → Pair → Type 0
SealEnd k u full s x r = Paired k (block_of u.cipher) ((mode_at k u).fin full) ((mode_at k u).tag full) s x r.first r.second

abbrev pub OpenEnd : (k : Kind) (u : KeyAndNonce) (full : Bool) (s : State) (x : List ℕ) → Pair → Type 0
OpenEnd k u full s x r = Paired k (block_of u.cipher) ((mode_at k u).unfin full) ((mode_at k u).untag full) s x r.first r.second
