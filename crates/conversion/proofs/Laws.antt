-- The loop of the change-over: a turn takes the change-over of the first i nodes to that of the first i + 1.
use mathlib.Core.Path.{◌≡◌, refl, sym, ap, ◌∙◌, subst}
use mathlib.Core.List.{List, [], ◌∷◌, ◌++◌, append_assoc}
use Prim.Native.Nat.{ℕ, zero, suc, ◌+◌, ◌*◌, ◌≤◌, ◌<◌}
use native.Mathlib.Omega.{arith}
use lib.ListN.{length, get_or, set, take, drop, replicate, length-append, replicate-append-replicate}
use lib.Seq.{take-add, drop-drop, get_or-drop, sets-eq, set_at, append_snoc}
use Rattle.pool.specs.Pool as Four
use Rattle.packed.specs.Pool as Two
use Rattle.packed.specs.Pack.{packed_content, packed_from, converted}
use Rattle.packed.proofs.Theory.Pack.{length_from, front-converted, converted_remaining, converted_beyond, length-converted}
use Rattle.conversion.specs.Promises.{node_packed}

-- one node more
from_end : (c : ℕ) (ws : List ℕ) (i : ℕ) → packed_from (suc c) ws i ≡ packed_from c ws i ++ (Four.refcount ws (i + c) ∷ packed_content ws (i + c) ∷ [])
unfolding packed_from
from_end zero ws i = (let e : i ≡ i + 0 = omega arith in ap (λ (k : ℕ). Four.refcount ws k ∷ packed_content ws k ∷ []) e)
from_end (suc c) ws i =
    let e : suc i + c ≡ i + suc c = omega arith in
    ap (λ (l : List ℕ). Four.refcount ws i ∷ packed_content ws i ∷ l) (from_end c ws (suc i) ∙ ap (λ (k : ℕ). packed_from c ws (suc i) ++ (Four.refcount ws k ∷ packed_content ws k ∷ [])) e)

-- a node whose words are the same has the same second word
same-content : (vs ws : List ℕ) (i : ℕ) → Four.refcount vs i ≡ Four.refcount ws i → Four.left vs i ≡ Four.left ws i → Four.right vs i ≡ Four.right ws i → Four.value vs i ≡ Four.value ws i
    → packed_content vs i ≡ packed_content ws i
unfolding packed_content
same-content vs ws i a b c d = rw (a, b, c, d)

-- four zeros stored from word k on, and two words
zeroed : (l : List ℕ) (k : ℕ) → k + 4 ≤ length l → set (set (set (set l k 0) (k + 1) 0) (k + 2) 0) (k + 3) 0 ≡ take k l ++ (0 ∷ 0 ∷ 0 ∷ 0 ∷ []) ++ drop (k + 4) l
zeroed l k h =
    let a : k + 1 ≡ suc k = omega arith in
    let b : k + 2 ≡ suc (suc k) = omega arith in
    let c : k + 3 ≡ suc (suc (suc k)) = omega arith in
    rw (a, b, c) (sets-eq (0 ∷ 0 ∷ 0 ∷ 0 ∷ []) l k h)

stored : (xs ys : List ℕ) (k a b : ℕ) → length xs ≡ k → set (set (xs ++ (0 ∷ 0 ∷ ys)) k a) (k + 1) b ≡ xs ++ (a ∷ b ∷ ys)
stored xs ys k a b e =
    let l : length (xs ++ (a ∷ [])) ≡ k + 1 = length-append xs (a ∷ []) ∙ ap (λ (n : ℕ). n + 1) e in
    ap (λ (l : List ℕ). set l (k + 1) b) (set_at xs 0 (0 ∷ ys) a k e ∙ sym (append_snoc xs a (0 ∷ ys))) ∙ set_at (xs ++ (a ∷ [])) 0 ys b (k + 1) l ∙ append_snoc xs a (b ∷ ys)

module _ (ws : List ℕ) (i : ℕ) (room : 4 * i + 4 ≤ length ws) where
  abbrev vs : List ℕ
  vs = converted i ws

  -- node i is as it was
  same : (k : ℕ) → get_or vs (4 * i + k) 0 ≡ get_or ws (4 * i + k) 0
  same k = sym (get_or-drop (4 * i) vs k 0) ∙ ap (λ (l : List ℕ). get_or l k 0) (converted_beyond i ws) ∙ get_or-drop (4 * i) ws k 0

  same-refcount : Four.refcount vs i ≡ Four.refcount ws i
  unfolding Four.refcount
  same-refcount = (let e : 4 * i + 0 ≡ 4 * i = omega arith in subst (λ (k : ℕ). get_or vs k 0 ≡ get_or ws k 0) e (same 0))

  same_second : packed_content vs i ≡ packed_content ws i
  unfolding Four.left Four.right Four.value
  same_second = same-content vs ws i same-refcount (same 1) (same 2) (same 3)

  -- the words before it, and those after it
  before : take (4 * i) vs ≡ packed_from i ws 0 ++ replicate (2 * i) 0
  before =
      let e : 4 * i ≡ 2 * i + 2 * i = omega arith in
      ap (λ (k : ℕ). take k vs) e ∙ take-add (2 * i) (2 * i) vs ∙ ap (λ (l : List ℕ). l ++ take (2 * i) (drop (2 * i) vs)) (front-converted i ws) ∙ ap (λ (l : List ℕ). packed_from i ws 0 ++ l) (converted_remaining i ws)

  after : drop (4 * i + 4) vs ≡ drop (4 * suc i) ws
  after =
      let e : 4 * i + 4 ≡ 4 * suc i = omega arith in
      sym (drop-drop 4 (4 * i) vs) ∙ ap (drop 4) (converted_beyond i ws) ∙ drop-drop 4 (4 * i) ws ∙ ap (λ (k : ℕ). drop k ws) e

  abbrev rest : List ℕ
  rest = drop (4 * suc i) ws

  zeros : ◌++◌ {A = ℕ} (replicate (2 * i) 0) (0 ∷ 0 ∷ 0 ∷ 0 ∷ []) ≡ 0 ∷ 0 ∷ replicate (2 * suc i) 0
  zeros =
      let e : 2 * i + 4 ≡ suc (suc (2 * suc i)) = omega arith in
      replicate-append-replicate (2 * i) 4 0 ∙ ap (λ (k : ℕ). replicate k 0) e

  -- node i is zero
  emptied : Four.set_node vs i 0 0 0 0 ≡ packed_from i ws 0 ++ (0 ∷ 0 ∷ (replicate (2 * suc i) 0 ++ rest))
  unfolding Four.set_node
  emptied =
      zeroed vs (4 * i) (omega (arith, length-converted i ws (omega arith))) ∙
      ap (λ (l : List ℕ). l ++ (0 ∷ 0 ∷ 0 ∷ 0 ∷ []) ++ drop (4 * i + 4) vs) before ∙
      ap (λ (l : List ℕ). packed_from i ws 0 ++ replicate (2 * i) 0 ++ (0 ∷ 0 ∷ 0 ∷ 0 ∷ []) ++ l) after ∙
      ap (λ (l : List ℕ). l ++ rest) (append_assoc (packed_from i ws 0) (replicate (2 * i) 0) (0 ∷ 0 ∷ 0 ∷ 0 ∷ []) ∙ ap (λ (l : List ℕ). packed_from i ws 0 ++ l) zeros) ∙
      append_assoc (packed_from i ws 0) (0 ∷ 0 ∷ replicate (2 * suc i) 0) rest

  pub packed_next : node_packed vs i ≡ converted (suc i) ws
  unfolding node_packed Two.set_node converted
  packed_next =
      let e : 0 + i ≡ i = omega arith in
      ap (λ (l : List ℕ). set (set l (2 * i) (Four.refcount vs i)) (2 * i + 1) (packed_content vs i)) emptied ∙
      stored (packed_from i ws 0) (replicate (2 * suc i) 0 ++ rest) (2 * i) (Four.refcount vs i) (packed_content vs i) (length_from ws i 0) ∙
      ap (λ (a : ℕ). packed_from i ws 0 ++ (a ∷ packed_content vs i ∷ (replicate (2 * suc i) 0 ++ rest))) same-refcount ∙
      ap (λ (b : ℕ). packed_from i ws 0 ++ (Four.refcount ws i ∷ b ∷ (replicate (2 * suc i) 0 ++ rest))) same_second ∙
      sym (append_assoc (packed_from i ws 0) (Four.refcount ws i ∷ packed_content ws i ∷ []) (replicate (2 * suc i) 0 ++ rest)) ∙
      ap (λ (l : List ℕ). l ++ (replicate (2 * suc i) 0 ++ rest)) (sym (from_end i ws 0 ∙ ap (λ (k : ℕ). packed_from i ws 0 ++ (Four.refcount ws k ∷ packed_content ws k ∷ [])) e))

-- ---- the loop, over plain variables

pub none_packed : (ws : List ℕ) → ws ≡ converted 0 ws
unfolding converted packed_from
none_packed ws = refl

pub one_packed : (N i : ℕ) (ws vs vs' : List ℕ) → 4 * N ≤ length ws → i < N → vs ≡ converted i ws → vs' ≡ node_packed vs i → vs' ≡ converted (i + 1) ws
one_packed N i ws vs vs' room b e f =
    let next : suc i ≡ i + 1 = omega arith in
    f ∙ ap (λ (l : List ℕ). node_packed l i) e ∙ packed_next ws i (omega arith) ∙ ap (λ (k : ℕ). converted k ws) next

pub all_packed : (N i : ℕ) (ws vs : List ℕ) → i ≤ N → N ≤ i → vs ≡ converted i ws → vs ≡ converted N ws
all_packed N i ws vs a b e = (let same : i ≡ N = omega arith in e ∙ ap (λ (k : ℕ). converted k ws) same)
