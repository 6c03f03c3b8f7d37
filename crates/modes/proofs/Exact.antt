-- Opening is exact, once for every mode that obeys the laws: a run opens to the body that seals to it, and to no other, and is
-- refused where no body seals to it. Assumes nothing.
use mathlib.Core.Path.{◌≡◌, refl, sym, ap, ap₂, ◌∙◌, subst}
use Prim.Native.Nat.{ℕ, zero, suc, ◌+◌, ◌-◌, ◌*◌, ◌≤◌, ◌<◌}
use native.Mathlib.Nat.{suc-mul}
use native.Mathlib.Omega.{arith}
use native.Mathlib.Decide.{dec_lt}
use mathlib.Core.Logic.{◌↔◌}
use mathlib.Core.Bool.{Bool, true, false, false≢true}
use mathlib.Core.List.{List, [], ◌∷◌, ◌++◌}
use lib.ListN.{length, take, drop, take-append-drop}
use lib.Seq.{take_at, drop_at}
use Rattle.cells.specs.Cells.{Bytes, Block}
use Rattle.modes.specs.Blocks.{before_last, full, pad, same}
use Rattle.modes.specs.Mode.{Mode, Opened, before, walk_from, walk, headed}
use Rattle.modes.specs.Mode.{seal_from, seal_rest, seal_run, open_from, open_rest, open_run}
use Rattle.modes.specs.Lawful.{Lawful}
use Rattle.modes.proofs.Bytes.{bytes_nil, block_size, block_append, block_head, block_rest, pad_block, same_refl, same_eq}
use Rattle.modes.proofs.Rest.{before_last_cut, walk_last, headed_skip, headed_none, headed_some}
use Rattle.modes.proofs.Rest.{seal_run_empty, seal_run_rest, open_run_empty, open_run_rest}
use Rattle.modes.proofs.Ends.{seal_last_block, open_seal_last, seal_open_last}

module _ {St : Type 0} (n : ℕ) (M : Mode St) (Ok : St → Type 0) (L : Lawful n M Ok) where
  pos : zero < n
  pos = L.positive

  -- m + 1 blocks and r bytes are a block, and m blocks and r bytes
  grow : (m r : ℕ) → suc m * n + r ≡ n + (m * n + r)
  grow m r = omega (arith, suc-mul m n)

  -- l bytes, which are not none, are whole blocks and a last one of r
  cut : (l : ℕ) → zero < l → (r : ℕ) × (l ≡ before_last n l * n + r) × (zero < r) × (r ≤ n)
  cut l k = before_last_cut n l pos k

  -- ---- the header

  walk_from_ok : (m : ℕ) (noM : Bool) (s : St) (a : List ℕ) (r : ℕ) → Ok s → Block (m * n + r) a → Ok (walk_from n M m noM s a)
  unfolding walk_from
  walk_from_ok zero noM s a r ok h = L.last_ok noM (full n (length a)) s (pad n a) ok (pad_block n a h.bytes)
  walk_from_ok (suc m) noM s a r ok h =
      let h' : Block (n + (m * n + r)) a = block_size h (grow m r) in
      let x : Block n (take n a) = block_head n (m * n + r) h' in
      walk_from_ok m noM (M.head s (take n a)) (drop n a) r (L.head_ok s (take n a) ok x) (block_rest n (m * n + r) h')

  walk_ok : (noM : Bool) (s : St) (a : List ℕ) → Ok s → Bytes a → Ok (walk n M noM s a)
  unfolding walk
  walk_ok noM s [] ok h =
      subst Ok (sym (walk_last n M pos noM s [] (omega arith))) (L.last_ok noM (full n 0) s (pad n []) ok (pad_block n [] h))
  walk_ok noM s (x ∷ xs) ok h =
      let a : List ℕ = x ∷ xs in
      let w = cut (length a) (omega arith) in
      walk_from_ok (before_last n (length a)) noM s a w.0 ok (record { long = w.1; bytes = h })

  pub headed_ok : (noM : Bool) (a : List ℕ) → Bytes a → Ok (headed n M noM a)
  headed_ok true a h = rw (headed_none n M a) (walk_ok true M.start a L.start_ok h)
  headed_ok false [] h = rw (headed_skip n M [] refl) L.start_ok
  headed_ok false (x ∷ xs) h = rw (headed_some n M false (x ∷ xs) (omega arith)) (walk_ok false M.start (x ∷ xs) L.start_ok h)

  -- ---- m blocks and the last

  seal_from_block : (m : ℕ) (s : St) (b : List ℕ) (r : ℕ) → Ok s → Block (m * n + r) b → r ≤ n → Block (m * n + r + n) (seal_from n M m s b)
  unfolding seal_from
  seal_from_block zero s b r ok h k =
      block_size (seal_last_block n M Ok L s b ok h.bytes (omega (arith, h.long))) (omega (arith, h.long))
  seal_from_block (suc m) s b r ok h k =
      let h' : Block (n + (m * n + r)) b = block_size h (grow m r) in
      let x : Block n (take n b) = block_head n (m * n + r) h' in
      block_size
      (block_append ((L.undo s ok).to (take n b) x)
      (seal_from_block m (M.next s (take n b)) (drop n b) r (L.next_ok s (take n b) ok x) (block_rest n (m * n + r) h') k))
      (omega (arith, suc-mul m n))

  open_seal_from : (m : ℕ) (s : St) (b : List ℕ) (r : ℕ) → Ok s → Block (m * n + r) b → r ≤ n
      → open_from n M m s (seal_from n M m s b) ≡ record { authentic = true; body = b }
  unfolding open_from seal_from
  open_seal_from zero s b r ok h k = open_seal_last n M Ok L s b ok h.bytes (omega (arith, h.long))
  open_seal_from (suc m) s b r ok h k =
      let h' : Block (n + (m * n + r)) b = block_size h (grow m r) in
      let x : List ℕ = take n b in
      let xb : Block n x = block_head n (m * n + r) h' in
      let y : List ℕ = M.out s x in
      let yb : Block n y = (L.undo s ok).to x xb in
      let ly : length y ≡ n = yb.long in
      let t : List ℕ = seal_from n M m (M.next s x) (drop n b) in
      let ex : M.back s y ≡ x = (L.undo s ok).there x xb in
      let es : M.back_next s y ≡ M.next s x = L.next_is s y ok yb ∙ ap (M.next s) ex in
      ap₂ (λ (z c : List ℕ). before (M.back s z) (open_from n M m (M.back_next s z) c)) (take_at y t n ly) (drop_at y t n ly)
      ∙ ap₂ (λ (z : List ℕ) (u : St). before z (open_from n M m u t)) ex es
      ∙ ap (before x) (open_seal_from m (M.next s x) (drop n b) r (L.next_ok s x ok xb) (block_rest n (m * n + r) h') k)
      ∙ ap (λ (z : List ℕ). record { authentic = true; body = z }) (take-append-drop n b)

  seal_open_from : (m : ℕ) (s : St) (c : List ℕ) (r : ℕ) → Ok s → Block (m * n + r + n) c → r ≤ n → (open_from n M m s c).authentic ≡ true
      → Block (m * n + r) (open_from n M m s c).body × (seal_from n M m s (open_from n M m s c).body ≡ c)
  unfolding open_from seal_from
  seal_open_from zero s c r ok h k e =
      let q = seal_open_last n M Ok L s c r ok (block_size h (omega arith)) k e in
      (block_size q.0 (omega arith), q.1)
  seal_open_from (suc m) s c r ok h k e =
      let h' : Block (n + (m * n + r + n)) c = block_size h (omega (arith, suc-mul m n)) in
      let y : List ℕ = take n c in
      let yb : Block n y = block_head n (m * n + r + n) h' in
      let x : List ℕ = M.back s y in
      let xb : Block n x = (L.undo s ok).fro y yb in
      let u : St = M.back_next s y in
      let eu : u ≡ M.next s x = L.next_is s y ok yb in
      let t : List ℕ = (open_from n M m u (drop n c)).body in
      let q : Block (m * n + r) t × (seal_from n M m u t ≡ drop n c)
      = seal_open_from m u (drop n c) r (subst Ok (sym eu) (L.next_ok s x ok xb)) (block_rest n (m * n + r + n) h') k e in (
        block_size (block_append xb q.0) (sym (grow m r)),
        ap₂ (λ (z d : List ℕ). M.out s z ++ seal_from n M m (M.next s z) d) (take_at x t n xb.long) (drop_at x t n xb.long)
            ∙ ap₂ (λ (z : List ℕ) (v : St). z ++ seal_from n M m v t) ((L.undo s ok).again y yb) (sym eu)
            ∙ ap (λ (z : List ℕ). y ++ z) q.1
            ∙ take-append-drop n c,
      )

  -- ---- what is left of a body, and is not empty

  seal_rest_block : (s : St) (b : List ℕ) → Ok s → Bytes b → zero < length b → Block (length b + n) (seal_rest n M s b)
  unfolding seal_rest
  seal_rest_block s b ok h k =
      let w = cut (length b) k in
      block_size
      (seal_from_block (before_last n (length b)) s b w.0 ok (record { long = w.1; bytes = h }) w.3)
      (ap (λ (l : ℕ). l + n) (sym w.1))

  open_seal_rest : (s : St) (b : List ℕ) → Ok s → Bytes b → zero < length b
      → open_rest n M s (seal_rest n M s b) ≡ record { authentic = true; body = b }
  unfolding open_rest seal_rest
  open_seal_rest s b ok h k =
      let w = cut (length b) k in
      let c : List ℕ = seal_rest n M s b in
      let len : length c - n ≡ length b = omega (arith, (seal_rest_block s b ok h k).long) in
      ap (λ (l : ℕ). open_from n M (before_last n l) s c) len
      ∙ open_seal_from (before_last n (length b)) s b w.0 ok (record { long = w.1; bytes = h }) w.3

  seal_open_rest : (s : St) (c : List ℕ) → Ok s → Bytes c → n < length c → (open_rest n M s c).authentic ≡ true
      → Block (length c - n) (open_rest n M s c).body × (seal_rest n M s (open_rest n M s c).body ≡ c)
  unfolding open_rest seal_rest
  seal_open_rest s c ok h k e =
      let l : ℕ = length c - n in
      let w = cut l (omega arith) in
      let b : List ℕ = (open_from n M (before_last n l) s c).body in
      let q : Block (before_last n l * n + w.0) b × (seal_from n M (before_last n l) s b ≡ c)
      = seal_open_from (before_last n l) s c w.0 ok (record { long = omega (arith, w.1); bytes = h }) w.3 e in
      let len : length b ≡ l = q.0.long ∙ sym w.1 in (
        record { long = len; bytes = q.0.bytes },
        ap (λ (j : ℕ). seal_from n M (before_last n j) s b) len ∙ q.1,
      )

  -- ---- whole runs

  module _ (header : List ℕ) (hh : Bytes header) where
    pub seal_run_block : (b : List ℕ) → Bytes b → Block (length b + n) (seal_run n M header b)
    seal_run_block [] h =
        let a : Block n (M.alone (headed n M true header)) = L.alone_block _ (headed_ok true header hh) in
        rw (seal_run_empty n M header [] refl) (block_size a (omega arith))
    seal_run_block (x ∷ xs) h =
        rw (seal_run_rest n M header (x ∷ xs) (omega arith))
        (seal_rest_block (headed n M false header) (x ∷ xs) (headed_ok false header hh) h (omega arith))

    -- sealed, and opened again
    pub open_seal : (b : List ℕ) → Bytes b → open_run n M header (seal_run n M header b) ≡ record { authentic = true; body = b }
    open_seal [] h =
        let a : List ℕ = M.alone (headed n M true header) in
        let e : seal_run n M header [] ≡ a = seal_run_empty n M header [] refl in
        ap (open_run n M header) e
        ∙ open_run_empty n M header a (L.alone_block _ (headed_ok true header hh)).long
        ∙ rw (same_refl a)
    open_seal (x ∷ xs) h =
        let b : List ℕ = x ∷ xs in
        let s : St = headed n M false header in
        let k : zero < length b = omega arith in
        let ok : Ok s = headed_ok false header hh in
        ap (open_run n M header) (seal_run_rest n M header b k)
        ∙ open_run_rest n M header (seal_rest n M s b) (omega (arith, (seal_rest_block s b ok h k).long))
        ∙ open_seal_rest s b ok h k

    -- what is opened is what was sealed
    abbrev Sealed : List ℕ → Opened → Type 0
    Sealed c o = Block (length c - n) o.body × (seal_run n M header o.body ≡ c)

    pub seal_open : (c : List ℕ) → Bytes c → n ≤ length c → (open_run n M header c).authentic ≡ true
        → Block (length c - n) (open_run n M header c).body × (seal_run n M header (open_run n M header c).body ≡ c)
    seal_open c h j e = elim (dec_lt n (length c)) [ yes k ↦ more k | no k ↦ equal (omega arith) ]
      where
        equal : length c ≡ n → Sealed c (open_run n M header c)
        equal k =
            let o = open_run_empty n M header c k in
            let q : same c (M.alone (headed n M true header)) ≡ true = ap (λ (z : Opened). z.authentic) (sym o) ∙ e in
            rw o (record { long = omega arith; bytes = bytes_nil }, seal_run_empty n M header [] refl ∙ sym (same_eq _ _ q))

        more : n < length c → Sealed c (open_run n M header c)
        more k =
            let s : St = headed n M false header in
            let o : open_run n M header c ≡ open_rest n M s c = open_run_rest n M header c k in
            let b : List ℕ = (open_rest n M s c).body in
            let q : Block (length c - n) b × (seal_rest n M s b ≡ c)
            = seal_open_rest s c (headed_ok false header hh) h k (ap (λ (z : Opened). z.authentic) (sym o) ∙ e) in
            rw o (q.0, seal_run_rest n M header b (omega (arith, q.0.long)) ∙ q.1)

    -- a run opens to a body exactly if that body seals to it
    pub exact : (c b : List ℕ) → Bytes c → n ≤ length c
        → (open_run n M header c ≡ record { authentic = true; body = b }) ↔ (Bytes b × (seal_run n M header b ≡ c))
    exact c b h j = (
      λ e. let q : Sealed c (record { authentic = true; body = b })
          = subst (Sealed c) e (seal_open c h j (ap (λ (z : Opened). z.authentic) e)) in
          (q.0.bytes, q.1),
      λ k. ap (open_run n M header) (sym k.1) ∙ open_seal b k.0,
    )

    -- no two bodies seal to one run
    pub unique : (a b : List ℕ) → Bytes a → Bytes b → seal_run n M header a ≡ seal_run n M header b → a ≡ b
    unique a b ha hb e = ap (λ (z : Opened). z.body) (sym (open_seal a ha) ∙ ap (open_run n M header) e ∙ open_seal b hb)

    -- a run is refused exactly if no body seals to it
    pub refused_iff : (c : List ℕ) → Bytes c → n ≤ length c
        → ((open_run n M header c).authentic ≡ false) ↔ ((b : List ℕ) → Bytes b → seal_run n M header b ≡ c → ⊥)
    refused_iff c h j = (
      λ e b k s. false≢true (sym e ∙ ap (λ (z : Opened). z.authentic) ((exact c b h j).1 (k, s))),
      λ k. go k (open_run n M header c).authentic refl,
    )
      where
        go : ((b : List ℕ) → Bytes b → seal_run n M header b ≡ c → ⊥) → (a : Bool) → (open_run n M header c).authentic ≡ a
            → (open_run n M header c).authentic ≡ false
        go k true e = let q = seal_open c h j e in absurd (k (open_run n M header c).body q.0.bytes q.1)
        go k false e = e
