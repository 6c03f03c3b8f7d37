-- What the walks ask of their callers and what they answer, in the words of a mode. Assumes nothing.
use Rattle.std.specs.Prelude.{◌≡◌, Bool, List, ◌++◌, ℕ, ◌+◌, ◌-◌, ◌≤◌, length, take, drop}
use Rattle.ciphers.specs.declared.Cipher.{Cipher}
use Rattle.ciphers.specs.Ciphers.{block_of}
use Rattle.modes.specs.Blocks.{full, pad}
use Rattle.modes.specs.Mode.{Mode, Opened, walk, headed, seal_last, seal_rest, seal_run, open_last, open_rest, open_run}
use Rattle.states.specs.declared.Kind.{Kind}
use Rattle.states.specs.declared.State.{State}
use Rattle.states.specs.Modes.{Carried, mode_of, tail_of, state_of}
use Rattle.states.specs.Steps.{Reached}
use Rattle.states.specs.Under.{KeyAndNonce, mode_at}

-- ---- asked

-- of a walk: the nonce fills the tweak, and the blocks of what is walked can be counted
pub record Walkable (c : Cipher) (k : Kind) (nonce walked : List ℕ) : Type 0 where
  pub fills : length nonce + tail_of k ≡ block_of c
  pub few : length walked ≤ 4294967295

-- of a run of blocks of n bytes: a block at least, and room for what it opens to
pub record Openable (n : ℕ) (run room : List ℕ) : Type 0 where
  pub block : n ≤ length run
  pub fits : length run ≤ length room + n

-- ---- answered

-- l bytes at the front of a room, the rest unchanged
pub record Put (out : List ℕ) (l : ℕ) (old new : List ℕ) : Type 0 where
  pub said : new ≡ out ++ drop l old
  pub long : length out ≡ l

-- what a run opens to: whether it is authentic, and its l bytes at the front of a room
pub record OpenedTo (o : Opened) (l : ℕ) (old : List ℕ) (authentic : Bool) (new : List ℕ) : Type 0 where
  pub authentic_is : authentic ≡ o.authentic
  pub put : Put o.body l old new

-- a block that is not the last, worked from the front of a part into a rest: to f of it, and the state to g of it
pub record Turned (k : Kind) (n : ℕ) (f : Carried k → List ℕ → List ℕ) (g : Carried k → List ℕ → Carried k) (s : State) (part old : List ℕ)
    (next : State) (new : List ℕ) : Type 0 where
  pub reached : Reached k n (g (state_of k n s) (take n part)) (s.number + 1) next
  pub put : Put (f (state_of k n s) (take n part)) n old new

-- ---- by a mode, under a key and a nonce
module _ (k : Kind) (u : KeyAndNonce) where
  abbrev n : ℕ
  n = block_of u.cipher

  abbrev M : Mode (Carried k)
  M = mode_at k u

  -- a header: a block that is not the last, the last one, all of them, and what it leaves
  abbrev pub HeadTurned : (s : State) (part : List ℕ) → State → Type 0
  HeadTurned s part = Reached k n (M.head (state_of k n s) (take n part)) (s.number + 1)

  abbrev pub HeadEnded : (empty : Bool) (s : State) (part : List ℕ) → State → Type 0
  HeadEnded empty s part = Reached k n (M.head_last empty (full n (length part)) (state_of k n s) (pad n part)) 1

  abbrev pub HeadWalked : (empty : Bool) (header : List ℕ) → State → Type 0
  HeadWalked empty header = Reached k n (walk n M empty M.start header) 1

  abbrev pub Headed : (empty : Bool) (header : List ℕ) → State → Type 0
  Headed empty header = Reached k n (headed n M empty header) 1

  -- a body: a block that is not the last, the last one, all of them
  abbrev pub SealTurned : (s : State) (part old : List ℕ) → State → List ℕ → Type 0
  SealTurned = Turned k n M.out M.next

  abbrev pub SealEnded : (s : State) (part old : List ℕ) → List ℕ → Type 0
  SealEnded s part = Put (seal_last n M (state_of k n s) part) (length part + n)

  abbrev pub BodySealed : (start : State) (body old : List ℕ) → List ℕ → Type 0
  BodySealed start body = Put (seal_rest n M (state_of k n start) body) (length body + n)

  -- a run, likewise
  abbrev pub OpenTurned : (s : State) (part old : List ℕ) → State → List ℕ → Type 0
  OpenTurned = Turned k n M.back M.back_next

  abbrev pub OpenEnded : (s : State) (part old : List ℕ) → Bool → List ℕ → Type 0
  OpenEnded s part = OpenedTo (open_last n M (state_of k n s) part) (length part - n)

  abbrev pub RunOpened : (start : State) (run old : List ℕ) → Bool → List ℕ → Type 0
  RunOpened start run = OpenedTo (open_rest n M (state_of k n start) run) (length run - n)

-- ---- of a record: sealed, and opened
module _ (c : Cipher) (k : Kind) (key nonce : List ℕ) where
  abbrev pub RecordSealed : (header body old : List ℕ) → List ℕ → Type 0
  RecordSealed header body = Put (seal_run (block_of c) (mode_of k c key nonce) header body) (length body + block_of c)

  abbrev pub RecordOpened : (header run old : List ℕ) → Bool → List ℕ → Type 0
  RecordOpened header run = OpenedTo (open_run (block_of c) (mode_of k c key nonce) header run) (length run - block_of c)
