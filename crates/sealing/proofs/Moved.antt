-- What one changed block moves, under the schemes' modes: what holds of any lawful mode, and of PAEF over any forkcipher, said of these.
-- Assumes nothing.
use mathlib.Core.Path.{◌≡◌, sym, ap, subst₂}
use Prim.Native.Nat.{ℕ, ◌+◌, ◌*◌, ◌<◌}
use mathlib.Core.Bool.{Bool, true, false, false≢true}
use mathlib.Core.List.{List}
use lib.ListN.{length}
use Rattle.cells.specs.Cells.{Bytes, Block}
use Rattle.ciphers.specs.declared.Cipher.{Cipher}
use Rattle.ciphers.specs.Ciphers.{block_of}
use Rattle.modes.specs.Blocks.{before_last}
use Rattle.modes.specs.Changes.{AgreeTo, DifferAt, MovedAt}
use Rattle.modes.specs.Mode.{seal_run}
use Rattle.modes.proofs.Fronts.{front_stays}
use Rattle.modes.proofs.PaefChanges.{paef_moves}
use Rattle.states.specs.declared.Kind.{Kind}
use Rattle.states.specs.declared.Kind.TheVariants.{Paef, Saef, Umbreon, Jolteon}
use Rattle.states.specs.Modes.{mode_of, tail_of}
use Rattle.states.specs.Skinny.{skinny}
use Rattle.states.proofs.Laws.{skinny_laws}
use Rattle.schemes.specs.declared.Scheme.{Scheme}
use Rattle.schemes.proofs.Table.{named_fits}
use Rattle.sealing.specs.Calls.{Told, written, sealed, seal_of}
use Rattle.sealing.specs.Demands.{Admitted}
use Rattle.sealing.proofs.Exactly.{OkOf, lawful, seal_written}

abbrev is_paef : Kind → Bool
is_paef Paef = true
is_paef Saef = false
is_paef Umbreon = false
is_paef Jolteon = false

-- a mode that is PAEF
module _ (c : Cipher) (key nonce header : List ℕ) (ν : ℕ) (hk : Bytes key) (hn : Block ν nonce) (hh : Bytes header) where
  abbrev run : Kind → List ℕ → List ℕ
  run k body = seal_run (block_of c) (mode_of k c key nonce) header body

  mode_moves : (k : Kind) → ν + tail_of k ≡ block_of c → is_paef k ≡ true → (j : ℕ) (a b : List ℕ) → Bytes a → Bytes b → DifferAt (block_of c) j a b
      → j < before_last (block_of c) (length a) → MovedAt (block_of c) j (before_last (block_of c) (length a)) (run k a) (run k b)
  mode_moves Paef e q = paef_moves (block_of c) ν (skinny c key) (skinny_laws c key hk) e nonce hn header hh
  mode_moves Saef e q = absurd (false≢true q)
  mode_moves Umbreon e q = absurd (false≢true q)
  mode_moves Jolteon e q = absurd (false≢true q)

module _ (number : ℕ) (s : Scheme) (key nonce header : List ℕ) (ok : Admitted number s key nonce header) (a b room room' : List ℕ) (ha : Bytes a)
    (hb : Bytes b) where
  abbrev n : ℕ
  n = block_of s.cipher

  abbrev t : Told
  t = seal_of number key nonce header a room

  abbrev u : Told
  u = seal_of number key nonce header b room'

  -- what is shown of the runs by the rule holds of what seal wrote
  of_written : t.number ≡ 0 → u.number ≡ 0 → (P : List ℕ → List ℕ → Type 0) → P (sealed s key nonce header a) (sealed s key nonce header b)
      → P (written t) (written u)
  of_written ea eb P =
      subst₂ P (sym (seal_written number s key nonce header ok a room ha ea)) (sym (seal_written number s key nonce header ok b room' hb eb))

  pub written_moves : s.kind ≡ Paef → t.number ≡ 0 → u.number ≡ 0 → (j : ℕ) → j < before_last n (length a) → DifferAt n j a b
      → MovedAt n j (before_last n (length a)) (written t) (written u)
  written_moves q ea eb j h d =
      of_written ea eb (MovedAt n j (before_last n (length a)))
      (mode_moves s.cipher key nonce header s.nonce ok.key_fits.bytes ok.nonce_fits ok.header_bytes s.kind
      (named_fits number s ok.named).nonce (ap is_paef q) j a b ha hb d h)

  pub written_agrees : t.number ≡ 0 → u.number ≡ 0 → (k : ℕ) → k * n < length a → k * n < length b → AgreeTo n k a b
      → AgreeTo n k (written t) (written u)
  written_agrees ea eb k la lb e =
      of_written ea eb (AgreeTo n k)
      (front_stays n (mode_of s.kind s.cipher key nonce) (OkOf s.kind n) (lawful number s key nonce header ok) header ok.header_bytes
      k a b ha hb la lb e)
