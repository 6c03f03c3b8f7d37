-- The block calls that a rule makes, and the rounds that they run (C-13): the list, the sum, the formula. What each block asks for stands
-- with its lines (the last fields of each mode). That a rule looks at no other call is proofs/Only.antt, and EeveeOnly.antt; that the sum is
-- the formula, proofs/Rounds.antt. Assumes nothing.
use Rattle.std.specs.Prelude.{ℕ, zero, suc, ◌+◌, ◌-◌, ◌*◌, Bool, not, ◌&&◌, cond, List, [], ◌∷◌, ◌++◌, eqb, length, take, drop}
use Rattle.modes.specs.Blocks.{before_last, full, none, pad}
use Rattle.modes.specs.Forkcipher.{Want, Call}
use Rattle.modes.specs.Mode.{Mode, end_block, headed}

-- ---- the list: a call for each block, in the order of the rule, along the very walks of Mode.antt

-- m blocks of a string and then what is left of it, from a state on: `step` is the state after a block
module _ {St : Type 0} (n : ℕ) (step : St → List ℕ → St) (more last : St → List ℕ → Call) where
  unfoldable pub calls_from : ℕ → St → List ℕ → List Call
  calls_from zero s x = last s x ∷ []
  calls_from (suc m) s x = more s (take n x) ∷ calls_from m (step s (take n x)) (drop n x)

module _ {St : Type 0} (n : ℕ) (M : Mode St) where
  -- of a header, as `headed` walks it
  unfoldable pub head_calls : Bool → List ℕ → List Call
  head_calls noM a =
      cond (not noM && none (length a)) []
      (calls_from n M.head M.head_asks (λ s x. M.head_last_asks noM (full n (length x)) s (pad n x)) (before_last n (length a)) M.start a)

  -- of a body, as `seal_rest` seals it
  unfoldable pub body_calls : St → List ℕ → List Call
  body_calls s b =
      calls_from n M.next M.seal_asks (λ s x. M.seal_last_asks (full n (length x)) s (pad n x)) (before_last n (length b)) s b

  -- of a run, as `open_rest` opens it
  unfoldable pub run_calls : St → List ℕ → List Call
  run_calls s c =
      calls_from n M.back_next M.open_asks
      (λ s x. M.open_last_asks (full n (length x - n)) s (end_block M.block_first n (length x - n) x))
      (before_last n (length c - n)) s c

  -- of a record that is sealed (`seal_run`), and of one that is opened (`open_run`): an empty body has no calls of its own
  unfoldable pub seal_calls : (header body : List ℕ) → List Call
  seal_calls header body =
      let noM = none (length body) in
      head_calls noM header ++ cond noM [] (body_calls (headed n M noM header) body)

  unfoldable pub open_calls : (header run : List ℕ) → List Call
  open_calls header c =
      let noM = eqb (length c) n in
      head_calls noM header ++ cond noM [] (run_calls (headed n M noM header) c)

-- ---- the sum: `cost` says how many rounds a call runs, by what it asks for

unfoldable pub total : (cost : Want → ℕ) → List Call → ℕ
total cost [] = 0
total cost (c ∷ cs) = cost c.want + total cost cs

-- ---- the formula, of the lengths of header and body alone

-- the blocks of l bytes: those before the last, and the last
unfoldable pub blocks : ℕ → ℕ → ℕ
blocks n l = cond (none l) 0 (before_last n l + 1)

-- those of a header: one, padded, where header and body are empty
unfoldable pub head_blocks : ℕ → (header body : ℕ) → ℕ
head_blocks n header body = cond (none body && none header) 1 (blocks n header)

-- where a header block costs h, a body block that is not the last b, and the last one l
unfoldable pub rounds_by : (n h b l : ℕ) → (header body : ℕ) → ℕ
rounds_by n h b l header body = head_blocks n header body * h + cond (none body) 0 (before_last n body * b + l)
