-- What is asked of a mode, so that opening is exact: its states stay good (Ok), sealing a block is undone by opening it, and
-- opening finds the state and the second block that sealing had. Assumes nothing.
use Rattle.std.specs.Prelude.{◌≡◌, ℕ, ◌<◌, Bool, List}
use Rattle.cells.specs.Cells.{Block}
use Rattle.modes.specs.Forkcipher.{Undo}
use Rattle.modes.specs.Mode.{Mode}

pub record Lawful {St : Type 0} (n : ℕ) (M : Mode St) (Ok : St → Type 0) : Type 0 where
  pub positive : 0 < n
  pub start_ok : Ok M.start
  pub head_ok : (s : St) (x : List ℕ) → Ok s → Block n x → Ok (M.head s x)
  pub last_ok : (noM f : Bool) (s : St) (x : List ℕ) → Ok s → Block n x → Ok (M.head_last noM f s x)
  pub next_ok : (s : St) (x : List ℕ) → Ok s → Block n x → Ok (M.next s x)
  pub undo : (s : St) → Ok s → Undo n (M.out s) (M.back s)
  pub undo_fin : (f : Bool) (s : St) → Ok s → Undo n (M.fin f s) (M.unfin f s)
  pub tag_block : (f : Bool) (s : St) (x : List ℕ) → Ok s → Block n x → Block n (M.tag f s x)
  pub alone_block : (s : St) → Ok s → Block n (M.alone s)
  pub next_is : (s : St) (c : List ℕ) → Ok s → Block n c → M.back_next s c ≡ M.next s (M.back s c)
  pub tag_is : (f : Bool) (s : St) (c : List ℕ) → Ok s → Block n c → M.untag f s c ≡ M.tag f s (M.unfin f s c)
