-- `sealing::calls::by_key` meets its contract: under the scheme that the number names, a key of its length is the one that the share is made of.
-- Assumes nothing.
use mathlib.Core.Path.{sym, ap, ◌∙◌}
use mathlib.Core.List.{List}
use Prim.Native.Nat.{ℕ}
use native.Mathlib.Omega.{arith}
use Rattle.schemes.proofs.Table.{named_fits}
use Rattle.sealing.proofs.Keys.{share_made}
use Rattle.sealing.proofs.Known.{by_name}
use Rattle.sealing.proofs.calls.by_key.Goals as goal

pub front-requires : goal.front-requires
front-requires g c =
    let fits = named_fits _ _ (sym c.scheme_of.ensures ∙ c.in_ok-s.ensures.ok_part) in
    (omega arith, omega (arith, c.if-key-s.false, fits.key))

pub run-requires : goal.run-requires
run-requires g c =
    let fits = named_fits _ _ (sym c.scheme_of.ensures ∙ c.in_ok-s.ensures.ok_part) in
    let made = share_made c.in_ok-s.s.cipher c.args.key.now (c.if-key-s.false ∙ fits.key) (λ k. (c.type_inv.key k).fits) c.front.ensures c.share_of-share.ensures in
    (fits, made.1)

pub returns : goal.returns
returns g c =
    let a = c.args in
    let s = c.in_ok-s.s in
    let named = sym c.scheme_of.ensures ∙ c.in_ok-s.ensures.ok_part in
    let fits = named_fits _ _ named in
    let made = share_made s.cipher a.key.now (c.if-key-s.false ∙ fits.key) (λ k. (c.type_inv.key k).fits) c.front.ensures c.share_of-share.ensures in
    by_name _ _ named
    (ap (λ (x : List ℕ). g.C.Call.tells s x a.nonce.now a.header.now a.input.now a.room.now) made.0)
    c.run.ensures
