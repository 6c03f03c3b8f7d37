-- `sealing::calls::with` meets its contract: under the scheme that the number names an admitted record stands for its key, and any other
-- for none. Assumes nothing.
use mathlib.Core.Path.{sym, ap, ◌∙◌}
use mathlib.Core.List.{List}
use Prim.Native.Nat.{ℕ}
use Rattle.prepared.proofs.Admitted.{key_if, made_if}
use Rattle.prepared.specs.Prepared.{key_of}
use Rattle.schemes.proofs.Table.{named_fits}
use Rattle.sealing.proofs.Known.{by_name}
use Rattle.sealing.proofs.Keys.{no_record_lem}
use Rattle.sealing.proofs.calls.with.Goals as goal

pub returns-then-not-is_admitted : goal.returns-then-not-is_admitted
returns-then-not-is_admitted g c =
    let a = c.args in
    let s = c.in_ok-s.s in
    let named = sym c.scheme_of.ensures ∙ c.in_ok-s.ensures.ok_part in
    rw named
    (g.met.C.Call.no_key s (key_of s.cipher a.key.now) a.nonce.now a.header.now a.input.now a.room.now
    (no_record_lem s a.key.now (named_fits _ _ named) (sym c.is_admitted.ensures ∙ c.if-not-is_admitted.true)))

pub run-requires : goal.run-requires
run-requires g c =
    let s = c.in_ok-s.s in
    (named_fits _ _ (sym c.scheme_of.ensures ∙ c.in_ok-s.ensures.ok_part), made_if s.cipher c.args.key.now (sym c.is_admitted.ensures ∙ c.if-not-is_admitted.false))

pub returns : goal.returns
returns g c =
    let a = c.args in
    let s = c.in_ok-s.s in
    let named = sym c.scheme_of.ensures ∙ c.in_ok-s.ensures.ok_part in
    by_name _ _ named
    (ap (λ (x : List ℕ). g.C.Call.tells s x a.nonce.now a.header.now a.input.now a.room.now)
    (sym (key_if s.cipher a.key.now (sym c.is_admitted.ensures ∙ c.if-not-is_admitted.false))))
    c.run.ensures
