-- What holds of the tweaks of a record under every mode that numbers its blocks in the two bytes behind the nonce: such a tweak tells its number,
-- and a walk has as many tweaks as blocks. Assumes nothing.
use mathlib.Core.Path.{◌≡◌, refl, sym, ap, ◌∙◌}
use Prim.Native.Nat.{ℕ, zero, suc, ◌-◌, ◌*◌, ◌/◌, ◌%◌, ◌<◌}
use native.Mathlib.Nat.{div-lt_iff_lt-mul}
use native.Mathlib.Omega.{arith}
use mathlib.Core.List.{List, [], ◌∷◌, ◌++◌}
use lib.ListN.{length, take, drop, get_or}
use lib.Seq.{drop_at}
use Rattle.modes.specs.Blocks.{before_last, be16}
use Rattle.modes.specs.Forkcipher.{Call}
use Rattle.modes.specs.Rounds.{calls_from}
use Rattle.modes.specs.Tweaks.{tweaks}

same_bytes : (v w : ℕ) → v < 65536 → w < 65536 → v / 256 % 256 ≡ w / 256 % 256 → v % 256 ≡ w % 256 → v ≡ w
same_bytes v w hv hw high low = omega arith

pub same_number : (nonce : List ℕ) (v w : ℕ) → v < 65536 → w < 65536 → nonce ++ be16 v ≡ nonce ++ be16 w → v ≡ w
unfolding be16
same_number nonce v w hv hw e =
    let l = length nonce in
    let tail : be16 v ≡ be16 w = sym (drop_at nonce (be16 v) l refl) ∙ ap (drop l) e ∙ drop_at nonce (be16 w) l refl in
    same_bytes v w hv hw (ap (λ (b : List ℕ). get_or b 0 0) tail) (ap (λ (b : List ℕ). get_or b 1 0) tail)

-- of at most k blocks, fewer stand before the last
pub before_few : (k n l : ℕ) → zero < n → l - 1 < k * n → before_last n l < k
unfolding before_last
before_few k n l p h = (div-lt_iff_lt-mul {k = n} {x = l - 1} {y = k} p).1 h

pub tweaks_append : (cs ds : List Call) → tweaks (cs ++ ds) ≡ tweaks cs ++ tweaks ds
unfolding tweaks
tweaks_append [] ds = refl
tweaks_append (c ∷ cs) ds = ap (λ (ts : List (List ℕ)). c.tweak ∷ ts) (tweaks_append cs ds)

pub calls_long : {St : Type 0} (n : ℕ) (step : St → List ℕ → St) (more last : St → List ℕ → Call) (m : ℕ) (s : St) (x : List ℕ)
    → length (tweaks (calls_from n step more last m s x)) ≡ suc m
unfolding calls_from tweaks
calls_long n step more last zero s x = refl
calls_long n step more last (suc m) s x = ap suc (calls_long n step more last m (step s (take n x)) (drop n x))
