-- A mode looks at no block call but those that specs/Rounds.antt lists: two forkciphers that answer the listed calls alike seal alike and
-- open alike, whatever they answer to any other call.
--     Heeds                  one mode over two forkciphers: each of its lines is the same where they answer the line's call alike
--     seal_only, open_only   for every such mode
--     paef-.., saef-..       for PAEF and SAEF
-- Assumes nothing.
use mathlib.Core.Path.{◌≡◌, refl, ap, ◌∙◌}
use Prim.Native.Nat.{ℕ, zero, suc, ◌+◌, ◌-◌}
use mathlib.Core.Bool.{Bool, true, false, not, ◌&&◌, cond}
use mathlib.Core.List.{List, [], ◌∷◌, ◌++◌}
use lib.Dec.{eqb}
use lib.ListN.{length, take, drop, get_or}
use Rattle.modes.specs.Blocks.{before_last, full, none, pad, same, ◌⊕◌}
use Rattle.modes.specs.Forkcipher.{Fork, Call, answers}
use Rattle.modes.specs.Mode.{Mode, join, end_block, end_tag, before, judge, walk_from, walk, headed}
use Rattle.modes.specs.Mode.{seal_last, seal_from, seal_rest, seal_run, open_last, open_from, open_rest, open_run}
use Rattle.modes.specs.Paef.{sum_half, sum_input, sum_other, sum_tweak, sum_asks, head_sum, paef}
use Rattle.modes.specs.Saef.{mask_half, mask_input, mask_other, mask_tweak, mask_asks, saef}
use Rattle.modes.specs.Rounds.{calls_from, head_calls, body_calls, run_calls, seal_calls, open_calls}

-- two forkciphers answer a call alike
abbrev pub Agree : Fork → Fork → Call → Type 0
Agree F G c = answers F c ≡ answers G c

-- and each call of a list
pub data Alike (F G : Fork) : List Call → Type 0 where
  nothing : Alike F G []
  also : {c : Call} {cs : List Call} → Agree F G c → Alike F G cs → Alike F G (c ∷ cs)

-- M over F and N over G are one mode: what it does at a block is the same where F and G answer alike the call that it says it asks
pub record Heeds {St : Type 0} (F G : Fork) (M N : Mode St) : Type 0 where
  pub start : M.start ≡ N.start
  pub head : (s : St) (x : List ℕ) → Agree F G (M.head_asks s x) → M.head s x ≡ N.head s x
  pub head_last : (noM full : Bool) (s : St) (x : List ℕ) → Agree F G (M.head_last_asks noM full s x)
      → M.head_last noM full s x ≡ N.head_last noM full s x
  pub out : (s : St) (x : List ℕ) → Agree F G (M.seal_asks s x) → M.out s x ≡ N.out s x
  pub next : (s : St) (x : List ℕ) → Agree F G (M.seal_asks s x) → M.next s x ≡ N.next s x
  pub fin : (full : Bool) (s : St) (x : List ℕ) → Agree F G (M.seal_last_asks full s x) → M.fin full s x ≡ N.fin full s x
  pub tag : (full : Bool) (s : St) (x : List ℕ) → Agree F G (M.seal_last_asks full s x) → M.tag full s x ≡ N.tag full s x
  pub alone : (s : St) → M.alone s ≡ N.alone s
  pub back : (s : St) (x : List ℕ) → Agree F G (M.open_asks s x) → M.back s x ≡ N.back s x
  pub back_next : (s : St) (x : List ℕ) → Agree F G (M.open_asks s x) → M.back_next s x ≡ N.back_next s x
  pub unfin : (full : Bool) (s : St) (x : List ℕ) → Agree F G (M.open_last_asks full s x) → M.unfin full s x ≡ N.unfin full s x
  pub untag : (full : Bool) (s : St) (x : List ℕ) → Agree F G (M.open_last_asks full s x) → M.untag full s x ≡ N.untag full s x
  pub block_first : M.block_first ≡ N.block_first

-- ---- the parts of a list

module _ {F G : Fork} where
  alike_first : {c : Call} {cs : List Call} → Alike F G (c ∷ cs) → Agree F G c
  alike_first (also e r) = e

  alike_rest : {c : Call} {cs : List Call} → Alike F G (c ∷ cs) → Alike F G cs
  alike_rest (also e r) = r

  alike_split : (cs ds : List Call) → Alike F G (cs ++ ds) → Alike F G cs × Alike F G ds
  alike_split [] ds e = (nothing, e)
  alike_split (c ∷ cs) ds e = let (l, r) = alike_split cs ds (alike_rest e) in (also (alike_first e) l, r)

  -- a choice whose first side has no calls, and whose second has cs
  chosen_only : {A : Type 0} {x x' y y' : A} {cs : List Call} (b : Bool) → x ≡ x' → (Alike F G cs → y ≡ y')
      → Alike F G (cond b [] cs) → cond b x y ≡ cond b x' y'
  chosen_only true p q e = p
  chosen_only false p q e = q e

module _ {St : Type 0} {F G : Fork} {M N : Mode St} (n : ℕ) (H : Heeds F G M N) where
  -- ---- the header

  walk_only : (m : ℕ) (noM : Bool) (s : St) (a : List ℕ)
      → Alike F G (calls_from n M.head M.head_asks (λ s x. M.head_last_asks noM (full n (length x)) s (pad n x)) m s a)
      → walk_from n M m noM s a ≡ walk_from n N m noM s a
  unfolding calls_from walk_from
  walk_only zero noM s a e = H.head_last noM _ s _ (alike_first e)
  walk_only (suc m) noM s a e =
      walk_only m noM _ (drop n a) (alike_rest e)
      ∙ ap (λ (t : St). walk_from n N m noM t (drop n a)) (H.head s (take n a) (alike_first e))

  headed_only : (noM : Bool) (a : List ℕ) → Alike F G (head_calls n M noM a) → headed n M noM a ≡ headed n N noM a
  unfolding head_calls headed walk
  headed_only noM a =
      let m = before_last n (length a) in
      chosen_only (not noM && none (length a)) H.start
      (λ e. walk_only m noM M.start a e ∙ ap (λ (s : St). walk_from n N m noM s a) H.start)

  -- ---- sealing

  body_only : (m : ℕ) (s : St) (b : List ℕ)
      → Alike F G (calls_from n M.next M.seal_asks (λ s x. M.seal_last_asks (full n (length x)) s (pad n x)) m s b)
      → seal_from n M m s b ≡ seal_from n N m s b
  unfolding calls_from seal_from seal_last
  body_only zero s b e =
      let a = alike_first e in
      (λ i. join (H.block_first i) (H.fin _ s _ a i) (take (length b) (H.tag _ s _ a i)))
  body_only (suc m) s b e =
      let x = take n b in
      let rest = body_only m _ (drop n b) (alike_rest e) in
      (λ i. H.out s x (alike_first e) i ++ rest i)
      ∙ ap (λ (t : St). N.out s x ++ seal_from n N m t (drop n b)) (H.next s x (alike_first e))

  pub seal_only : (header body : List ℕ) → Alike F G (seal_calls n M header body) → seal_run n M header body ≡ seal_run n N header body
  unfolding seal_calls body_calls seal_run seal_rest
  seal_only header body e =
      let noM = none (length body) in
      let (l, r) = alike_split (head_calls n M noM header) _ e in
      let s = headed_only noM header l in
      chosen_only noM (H.alone _ ∙ ap N.alone s)
      (λ d. body_only (before_last n (length body)) _ body d ∙ ap (λ (t : St). seal_rest n N t body) s) r

  -- ---- opening

  run_only : (m : ℕ) (s : St) (c : List ℕ)
      → Alike F G (calls_from n M.back_next M.open_asks
      (λ s x. M.open_last_asks (full n (length x - n)) s (end_block M.block_first n (length x - n) x)) m s c)
      → open_from n M m s c ≡ open_from n N m s c
  unfolding calls_from open_from open_last
  run_only zero s c e =
      let a = alike_first e in
      let r = length c - n in
      let f = full n r in
      (λ i. judge n r (H.unfin f s _ a i) (H.untag f s _ a i) (end_tag M.block_first n r c))
      ∙ ap (λ (o : Bool). judge n r (N.unfin f s (end_block o n r c)) (N.untag f s (end_block o n r c)) (end_tag o n r c)) H.block_first
  run_only (suc m) s c e =
      let x = take n c in
      let rest = run_only m _ (drop n c) (alike_rest e) in
      (λ i. before (H.back s x (alike_first e) i) (rest i))
      ∙ ap (λ (t : St). before (N.back s x) (open_from n N m t (drop n c))) (H.back_next s x (alike_first e))

  pub open_only : (header run : List ℕ) → Alike F G (open_calls n M header run) → open_run n M header run ≡ open_run n N header run
  unfolding open_calls run_calls open_run open_rest
  open_only header run e =
      let noM = eqb (length run) n in
      let (l, r) = alike_split (head_calls n M noM header) _ e in
      let s = headed_only noM header l in
      chosen_only noM (ap (λ (x : List ℕ). record { authentic = same run x; body = [] }) (H.alone _ ∙ ap N.alone s))
      (λ d. run_only (before_last n (length run - n)) _ run d ∙ ap (λ (t : St). open_rest n N t run) s) r

-- ---- PAEF and SAEF

-- equal lists of answers have equal entries
pub answer : (i : ℕ) {l k : List (List ℕ)} → l ≡ k → get_or l i [] ≡ get_or k i []
answer i e = ap (λ (l : List (List ℕ)). get_or l i []) e

module _ (n : ℕ) (F G : Fork) (nonce : List ℕ) where
  paef_heeds : Heeds F G (paef n F nonce) (paef n G nonce)
  unfolding paef head_sum sum_half sum_input sum_other sum_tweak sum_asks
  paef_heeds = record {
    start = refl;
    head = λ s x e. ap (λ (y : List ℕ). record { sum = s.sum ⊕ y; number = s.number + 1 }) (answer 0 e);
    head_last = λ noM full s x e. ap (λ (y : List ℕ). record { sum = s.sum ⊕ y; number = 1 }) (answer 0 e);
    out = λ s x e. answer 0 e;
    next = λ s x e. ap (λ (y : List ℕ). record { sum = s.sum ⊕ y; number = s.number + 1 }) (answer 1 e);
    fin = λ full s x e. ap (λ (y : List ℕ). y ⊕ s.sum) (answer 0 e);
    tag = λ full s x e. answer 1 e;
    alone = λ s. refl;
    back = λ s x e. answer 0 e;
    back_next = λ s x e. ap (λ (y : List ℕ). record { sum = s.sum ⊕ y; number = s.number + 1 }) (answer 1 e);
    unfin = λ full s x e. answer 0 e;
    untag = λ full s x e. answer 1 e;
    block_first = refl;
  }

  saef_heeds : Heeds F G (saef n F nonce) (saef n G nonce)
  unfolding saef mask_half mask_input mask_other mask_tweak mask_asks
  saef_heeds = record {
    start = refl;
    head = λ s x e. ap (λ (y : List ℕ). record { delta = y; first = false }) (answer 0 e);
    head_last = λ noM full s x e. ap (λ (y : List ℕ). record { delta = y; first = false }) (answer 0 e);
    out = λ s x e. ap (λ (y : List ℕ). y ⊕ s.delta) (answer 0 e);
    next = λ s x e. ap (λ (y : List ℕ). record { delta = y; first = false }) (answer 1 e);
    fin = λ full s x e. ap (λ (y : List ℕ). y ⊕ s.delta) (answer 0 e);
    tag = λ full s x e. answer 1 e;
    alone = λ s. refl;
    back = λ s x e. ap (λ (y : List ℕ). y ⊕ s.delta) (answer 0 e);
    back_next = λ s x e. ap (λ (y : List ℕ). record { delta = y; first = false }) (answer 1 e);
    unfin = λ full s x e. ap (λ (y : List ℕ). y ⊕ s.delta) (answer 0 e);
    untag = λ full s x e. answer 1 e;
    block_first = refl;
  }

  pub paef_seal_only : (header body : List ℕ) → Alike F G (seal_calls n (paef n F nonce) header body)
      → seal_run n (paef n F nonce) header body ≡ seal_run n (paef n G nonce) header body
  paef_seal_only = seal_only n paef_heeds

  pub paef_open_only : (header run : List ℕ) → Alike F G (open_calls n (paef n F nonce) header run)
      → open_run n (paef n F nonce) header run ≡ open_run n (paef n G nonce) header run
  paef_open_only = open_only n paef_heeds

  pub saef_seal_only : (header body : List ℕ) → Alike F G (seal_calls n (saef n F nonce) header body)
      → seal_run n (saef n F nonce) header body ≡ seal_run n (saef n G nonce) header body
  saef_seal_only = seal_only n saef_heeds

  pub saef_open_only : (header run : List ℕ) → Alike F G (open_calls n (saef n F nonce) header run)
      → open_run n (saef n F nonce) header run ≡ open_run n (saef n G nonce) header run
  saef_open_only = open_only n saef_heeds
