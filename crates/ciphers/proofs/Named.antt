-- What a call answers: under what a number names, or where it names nothing. Assumes nothing.
use Rattle.std.proofs.Common.{◌≡◌, ℕ, Bool, true, false, cond, eqb, Result, Ok, Err, refl, ap, ◌∙◌}
use Rattle.std.specs.Result.{IsErrAnd}
use Rattle.std.proofs.lemmas.Result.{err_from_is_err_and}
use Rattle.refusals.specs.declared.Refusal.{Refusal}
use Rattle.refusals.specs.declared.Refusal.TheVariants.{Unknown}
use Rattle.ciphers.specs.declared.Cipher.{Cipher}
use Rattle.ciphers.specs.declared.Cipher.TheVariants.{N64T192, N128T256}
use Rattle.ciphers.specs.Ciphers.{under_cipher, cipher_named}

-- what is told: of a refusal, or of what was found
abbrev pub told_by : {X A : Type 0} → (Refusal → A) → (X → A) → Result X Refusal → A
told_by told f (Ok x) = f x
told_by told f (Err r) = told r

module _ {A : Type 0} (told : Refusal → A) (f : Cipher → A) where
  by_name : (p q : Bool)
      → cond p (f N64T192) (cond q (f N128T256) (told Unknown)) ≡ told_by told f (cond p (Ok N64T192) (cond q (Ok N128T256) (Err Unknown)))
  by_name true q = refl
  by_name false true = refl
  by_name false false = refl

  pub under_names : (number : ℕ) → under_cipher number f (told Unknown) ≡ told_by told f (cipher_named number)
  under_names number = by_name (eqb number 1) (eqb number 2)

-- a refusal that is handed on is the one that it was
pub handed_on : {T : Type 0} (result : Result T Refusal) (r : Refusal) → IsErrAnd result (λ x. x ≡ r) → result ≡ Err r
handed_on result r h = let p = err_from_is_err_and result h in p.1 ∙ ap Err p.2
