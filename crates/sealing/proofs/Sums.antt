-- Under any scheme, the sum over the block calls of the mode's rule is the formula of the lengths. Assumes nothing.
use mathlib.Core.Path.{◌≡◌, refl}
use Prim.Native.Nat.{ℕ, ◌-◌, ◌≤◌}
use mathlib.Core.List.{List}
use lib.ListN.{length}
use Rattle.ciphers.specs.declared.Cipher.{Cipher}
use Rattle.ciphers.specs.declared.Cipher.TheVariants.{N64T192, N128T256}
use Rattle.ciphers.specs.Ciphers.{block_of}
use Rattle.ciphers.proofs.Laws.{block_some}
use Rattle.forkskinny.specs.Calls.{wants, fork_rounds, unfork_rounds}
use Rattle.modes.specs.Forkcipher.{half0, both_halves, input_back, both_back}
use Rattle.modes.proofs.Rounds.{Priced, seal_total, open_total, paef_priced, saef_priced, umbreon_priced, jolteon_priced}
use Rattle.states.specs.declared.Kind.{Kind}
use Rattle.states.specs.declared.Kind.TheVariants.{Paef, Saef, Umbreon, Jolteon}
use Rattle.states.specs.Modes.{mode_of, prices_of, rounds_of}
use Rattle.states.specs.Skinny.{skinny, cost_of}
use Rattle.schemes.specs.declared.Scheme.{Scheme}
use Rattle.sealing.specs.Calls.{seal_rounds, open_rounds}

back_as_forth : (c : Cipher) → cost_of c both_back ≡ cost_of c both_halves
unfolding fork_rounds unfork_rounds wants
back_as_forth N64T192 = refl
back_as_forth N128T256 = refl

input_as_half : (c : Cipher) → cost_of c input_back ≡ cost_of c half0
unfolding fork_rounds unfork_rounds wants
input_as_half N64T192 = refl
input_as_half N128T256 = refl

-- the blocks of a mode cost what they ask for
mode_priced : (k : Kind) (c : Cipher) (key nonce : List ℕ)
    → Priced (cost_of c) (mode_of k c key nonce) (prices_of k c).head (prices_of k c).block (prices_of k c).last
mode_priced Paef c key nonce = paef_priced (block_of c) (skinny c key) nonce (cost_of c) (back_as_forth c)
mode_priced Saef c key nonce = saef_priced (block_of c) (skinny c key) nonce (cost_of c) (back_as_forth c)
mode_priced Umbreon c key nonce = umbreon_priced (block_of c) (skinny c key) nonce (cost_of c) (back_as_forth c)
mode_priced Jolteon c key nonce = jolteon_priced (block_of c) (skinny c key) nonce (cost_of c) (back_as_forth c) (input_as_half c)

module _ (s : Scheme) (key nonce header : List ℕ) where
  abbrev n : ℕ
  n = block_of s.cipher

  pub seal_sum : (body : List ℕ) → seal_rounds s key nonce header body ≡ rounds_of s.kind s.cipher (length header) (length body)
  unfolding rounds_of
  seal_sum = seal_total n (mode_priced s.kind s.cipher key nonce) (block_some s.cipher) header

  pub open_sum : (run : List ℕ) → n ≤ length run
      → open_rounds s key nonce header run ≡ rounds_of s.kind s.cipher (length header) (length run - n)
  unfolding rounds_of
  open_sum = open_total n (mode_priced s.kind s.cipher key nonce) (block_some s.cipher) header
