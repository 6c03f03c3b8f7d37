-- What a walk answers, said of what is equal. Assumes nothing.
use mathlib.Core.Path.{◌≡◌, sym, ap, ◌∙◌}
use mathlib.Core.Bool.{Bool}
use mathlib.Core.List.{List, ◌++◌}
use Prim.Native.Nat.{ℕ}
use lib.ListN.{length, drop}
use Rattle.modes.specs.Mode.{Opened}
use Rattle.states.specs.declared.Kind.{Kind}
use Rattle.states.specs.declared.State.{State}
use Rattle.states.specs.Modes.{Carried}
use Rattle.states.specs.Steps.{Reached}
use Rattle.walks.specs.Walks.{Put, OpenedTo}

pub reached_as : {k : Kind} {n : ℕ} {t u : Carried k} {most : ℕ} {r : State} → t ≡ u → Reached k n t most r → Reached k n u most r
reached_as e r = record { state = r.state ∙ e; number = r.number }

pub put_as : {x y : List ℕ} {l m : ℕ} {old new : List ℕ} → x ≡ y → l ≡ m → Put x l old new → Put y m old new
put_as {old = old} e f p = record { said = p.said ∙ (λ i. e i ++ drop (f i) old); long = sym (ap length e) ∙ p.long ∙ f }

pub opened_as : {o p : Opened} {l m : ℕ} {old new : List ℕ} {is : Bool} → o ≡ p → l ≡ m → OpenedTo o l old is new → OpenedTo p m old is new
opened_as e f a =
    record {
      authentic_is = a.authentic_is ∙ ap (λ (o : Opened). o.authentic) e;
      put = put_as (ap (λ (o : Opened). o.body) e) f a.put;
    }
