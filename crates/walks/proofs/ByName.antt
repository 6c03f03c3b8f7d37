-- What is told of a walk or a record under a mode's name, said of the name that was asked for. Assumes nothing.
use mathlib.Core.Path.{◌≡◌, subst, subst⁻¹}
use mathlib.Core.Bool.{Bool}
use mathlib.Core.List.{List}
use Prim.Native.Nat.{ℕ}
use Rattle.ciphers.specs.declared.Cipher.{Cipher}
use Rattle.states.specs.declared.Kind.{Kind}
use Rattle.states.specs.declared.State.{State}
use Rattle.states.specs.Under.{KeyAndNonce}
use Rattle.walks.specs.Walks.{Headed, BodySealed, RunOpened, RecordSealed, RecordOpened}

module _ {k l : Kind} {u v : KeyAndNonce} (is : k ≡ l) (e : u ≡ v) where
  named : (P : Kind → KeyAndNonce → Type 0) → P l u → P k v
  named P t = subst⁻¹ (λ (k : Kind). P k v) is (subst (P l) e t)

  -- of a walk, under the key that was set to work
  pub headed_by : (empty : Bool) (header : List ℕ) (s : State) → Headed l u empty header s → Headed k v empty header s
  headed_by empty header s = named (λ (k : Kind) (u : KeyAndNonce). Headed k u empty header s)

  pub body_by : (start : State) (body old new : List ℕ) → BodySealed l u start body old new → BodySealed k v start body old new
  body_by start body old new = named (λ (k : Kind) (u : KeyAndNonce). BodySealed k u start body old new)

  pub run_by : (start : State) (run old new : List ℕ) (authentic : Bool) → RunOpened l u start run old authentic new → RunOpened k v start run old authentic new
  run_by start run old new authentic = named (λ (k : Kind) (u : KeyAndNonce). RunOpened k u start run old authentic new)

-- of a record, under a cipher, a key and a nonce
module _ (c : Cipher) (key nonce : List ℕ) {u : KeyAndNonce} (e : u ≡ record { cipher = c; key = key; nonce = nonce }) (header : List ℕ) where
  pub sealed_by : (k l : Kind) → k ≡ l → (body old new : List ℕ) → RecordSealed u.cipher l u.key u.nonce header body old new
      → RecordSealed c k key nonce header body old new
  sealed_by k l is body old new = named is e (λ (k : Kind) (v : KeyAndNonce). RecordSealed v.cipher k v.key v.nonce header body old new)

  pub opened_by : (k l : Kind) → k ≡ l → (run old new : List ℕ) (authentic : Bool)
      → RecordOpened u.cipher l u.key u.nonce header run old authentic new → RecordOpened c k key nonce header run old authentic new
  opened_by k l is run old new authentic = named is e (λ (k : Kind) (v : KeyAndNonce). RecordOpened v.cipher k v.key v.nonce header run old authentic new)
