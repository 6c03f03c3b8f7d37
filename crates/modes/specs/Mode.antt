-- What the modes have in common (001, figures 5 and 8, whose lines are cited in this order; the modes of 000 fit too). A header is walked
-- block by block. Each block of a body but the last is sealed to a block; the last one, padded, to a block and as many leading bytes of a
-- second block as it had bytes itself. An empty body is sealed to one block. Assumes nothing.
use Rattle.std.specs.Prelude.{ℕ, zero, suc, ◌-◌, Bool, true, false, not, ◌&&◌, cond, List, [], ◌++◌, eqb, length, take, drop}
use Rattle.modes.specs.Blocks.{before_last, full, none, ten, pad, same}
use Rattle.modes.specs.Forkcipher.{Call}

-- A mode under one key and nonce. St is what it carries from block to block; every block has n bytes. noM says that the body is
-- empty, and `full` of a last block that it was not padded.
pub record Mode (St : Type 0) : Type 0 where
  -- the header: before it; after a block that is not the last; after the last one, padded
  pub start : St
  pub head : St → List ℕ → St
  pub head_last : (noM full : Bool) → St → List ℕ → St
  -- sealing a block that is not the last: what it is sealed to, and the state after it
  pub out : St → List ℕ → List ℕ
  pub next : St → List ℕ → St
  -- sealing the last one, padded: the block that it is sealed to, and the block of which leading bytes are given
  pub fin : (full : Bool) → St → List ℕ → List ℕ
  pub tag : (full : Bool) → St → List ℕ → List ℕ
  -- what an empty body is sealed to
  pub alone : St → List ℕ
  -- opening, in the same order: the block that was sealed, and the state after it; the last one, and the second block
  pub back : St → List ℕ → List ℕ
  pub back_next : St → List ℕ → St
  pub unfin : (full : Bool) → St → List ℕ → List ℕ
  pub untag : (full : Bool) → St → List ℕ → List ℕ
  -- does the last block come before those leading bytes (PAEF, SAEF), or behind them
  pub block_first : Bool
  -- the one block call that each of these is worked with: a header block, the last one; a body block sealed, the last one; a block opened,
  -- the last one. That a mode looks at no other is a theorem (proofs/Only.antt).
  pub head_asks : St → List ℕ → Call
  pub head_last_asks : (noM full : Bool) → St → List ℕ → Call
  pub seal_asks : St → List ℕ → Call
  pub seal_last_asks : (full : Bool) → St → List ℕ → Call
  pub open_asks : St → List ℕ → Call
  pub open_last_asks : (full : Bool) → St → List ℕ → Call

-- ---- the end of a run: a block of n bytes, and r leading bytes of a second (section 2, csplit; enc 38 and 34)

unfoldable pub join : Bool → List ℕ → List ℕ → List ℕ
join true block tag = block ++ tag
join false block tag = tag ++ block

unfoldable pub end_block : Bool → ℕ → ℕ → List ℕ → List ℕ
end_block true n r c = take n c
end_block false n r c = drop r c

unfoldable pub end_tag : Bool → ℕ → ℕ → List ℕ → List ℕ
end_tag true n r c = drop n c
end_tag false n r c = take r c

-- what a run opens to: a body, and whether the run is authentic; where it is not, nobody is told that body
pub record Opened : Type 0 where
  pub authentic : Bool
  pub body : List ℕ

-- a block in front of what was opened
abbrev pub before : List ℕ → Opened → Opened
before p o = record { authentic = o.authentic; body = p ++ o.body }

-- p is the last block as it was padded, r its bytes: T' = T, and P = 10..0 (dec 39 to 42, and 35 to 38)
unfoldable pub judge : (n r : ℕ) → (p second tag : List ℕ) → Opened
judge n r p second tag = record {
  authentic = same (take r second) tag && same (drop r p) (take (n - r) (ten n));
  body = take r p;
}

module _ {St : Type 0} (n : ℕ) (M : Mode St) where
  -- ---- the header: m blocks, and then the last one (enc 5 to 17, and 7 to 19)

  unfoldable pub walk_from : ℕ → Bool → St → List ℕ → St
  walk_from zero noM s a = M.head_last noM (full n (length a)) s (pad n a)
  walk_from (suc m) noM s a = walk_from m noM (M.head s (take n a)) (drop n a)

  unfoldable pub walk : Bool → St → List ℕ → St
  walk noM s a = walk_from (before_last n (length a)) noM s a

  -- "Do nothing if A = ε, M ≠ ε" (enc 18, and 20); where both are empty, one padded empty block (enc 14, and 16)
  unfoldable pub headed : Bool → List ℕ → St
  headed noM a = cond (not noM && none (length a)) M.start (walk noM M.start a)

  -- ---- sealing: the last block (enc 27 to 38, and 26 to 34), m blocks and the last (enc 19 to 26, and 21 to 25), what is left of a
  -- body, a whole body

  unfoldable pub seal_last : St → List ℕ → List ℕ
  seal_last s x =
      let f = full n (length x) in
      join M.block_first (M.fin f s (pad n x)) (take (length x) (M.tag f s (pad n x)))

  unfoldable pub seal_from : ℕ → St → List ℕ → List ℕ
  seal_from zero s b = seal_last s b
  seal_from (suc m) s b = M.out s (take n b) ++ seal_from m (M.next s (take n b)) (drop n b)

  unfoldable pub seal_rest : St → List ℕ → List ℕ
  seal_rest s b = seal_from (before_last n (length b)) s b

  unfoldable pub seal_run : List ℕ → List ℕ → List ℕ
  seal_run header body =
      let noM = none (length body) in
      let s = headed noM header in
      cond noM (M.alone s) (seal_rest s body)

  -- ---- opening, in the same order (dec 27 to 42, and 26 to 38; dec 19 to 26, and 21 to 25); r is |T|, the bytes of the last block

  unfoldable pub open_last : St → List ℕ → Opened
  open_last s c =
      let r = length c - n in
      let x = end_block M.block_first n r c in
      judge n r (M.unfin (full n r) s x) (M.untag (full n r) s x) (end_tag M.block_first n r c)

  unfoldable pub open_from : ℕ → St → List ℕ → Opened
  open_from zero s c = open_last s c
  open_from (suc m) s c = before (M.back s (take n c)) (open_from m (M.back_next s (take n c)) (drop n c))

  unfoldable pub open_rest : St → List ℕ → Opened
  open_rest s c = open_from (before_last n (length c - n)) s c

  -- a run of one block has an empty body (dec 34 and 35, and 31 and 32); a shorter one never comes here
  unfoldable pub open_run : List ℕ → List ℕ → Opened
  open_run header c =
      let noM = eqb (length c) n in
      let s = headed noM header in
      cond noM (record { authentic = same c (M.alone s); body = [] }) (open_rest s c)
