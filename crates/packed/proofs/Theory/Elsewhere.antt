-- The same nodes in another slice: the words past the nodes, and how many there are, may be others.
use Rattle.std.specs.Prelude.{◌≡◌, List, ℕ, ◌+◌, ◌*◌, ◌<◌, length, get_or, drop}
use Rattle.std.proofs.Common.{sym, ◌∙◌, arith}
use Rattle.pool.specs.Theory.Elsewhere.{SameNodes, nodes-same}
use Rattle.packed.specs.Pool.{refcount, content}
use Rattle.packed.proofs.Theory.Unpacks.{Unpacks, left-same, right-same}

-- of two words
pub unpacks_elsewhere : {N : ℕ} {tail ws₂ ws₄ : List ℕ} (tail' ws₂' : List ℕ) → ((i : ℕ) → i < 2 * N → get_or ws₂' i 0 ≡ get_or ws₂ i 0) → length ws₂' ≡ 2 * N + length tail' → drop (2 * N) ws₂' ≡ tail'
    → Unpacks N tail ws₂ ws₄ → Unpacks N tail' ws₂' ws₄
unpacks_elsewhere {N} {tail} {ws₂} {ws₄} tail' ws₂' same long past U = record {
  room = U.room;
  long = long;
  past = past;
  counts = λ i b. first i b ∙ U.counts i b;
  inner = λ i b p o. (let m = U.inner i b p o in (left-same ws₂ ws₂' i (second i b) ∙ m.0, right-same ws₂ ws₂' i (second i b) ∙ m.1));
  leaf = λ i b p e. second i b ∙ U.leaf i b p e;
  free = λ i b e. second i b ∙ U.free i b e;
}
  where
    first : (i : ℕ) → i < N → refcount ws₂' i ≡ refcount ws₂ i
    first i b = unfold refcount in same (2 * i) (omega arith)

    second : (i : ℕ) → i < N → content ws₂' i ≡ content ws₂ i
    second i b = unfold content in same (2 * i + 1) (omega arith)

-- of four words
pub unpacks_nodes : {N : ℕ} {tail ws₂ ws₄ ws₄' : List ℕ} → SameNodes N ws₄ ws₄' → Unpacks N tail ws₂ ws₄ → Unpacks N tail ws₂ ws₄'
unpacks_nodes S U = record {
  room = S.room;
  long = U.long;
  past = U.past;
  counts = λ i b. U.counts i b ∙ sym (nodes-same S i b).same-refcount;
  inner = λ i b p o.
      let T = nodes-same S i b in
      let m = U.inner i b (omega (arith, T.same-refcount)) (λ e. o (T.content.same_left ∙ e)) in
      (m.0 ∙ sym T.content.same_left, m.1 ∙ sym T.content.same-right);
  leaf = λ i b p e. (let T = nodes-same S i b in U.leaf i b (omega (arith, T.same-refcount)) (sym T.content.same_left ∙ e) ∙ sym T.content.same-value);
  free = λ i b e. (let T = nodes-same S i b in U.free i b (sym T.same-refcount ∙ e) ∙ sym T.content.same_left);
}
