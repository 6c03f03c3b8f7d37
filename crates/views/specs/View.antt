-- The part of a room that an answer speaks of: of that length where the number is 0, else the empty part (01, What a caller is
-- told). Assumes nothing.
use Rattle.std.specs.Prelude.{ℕ, not, cond, List, [], eqb, ltb, length, take}

unfoldable pub view_of : ℕ → ℕ → List ℕ → List ℕ
view_of number l room = cond (not (eqb number 0)) [] (cond (ltb (length room) l) [] (take l room))
