-- A live pool has what Links asks: its links are nodes or none, and a walk from a live root, and a write, meet nodes only.
use Rattle.std.specs.Prelude.{◌≡◌, refl, List, [], ◌∷◌, ℕ, zero, suc, ◌+◌, ◌*◌, ◌≤◌, ◌<◌, ◌^◌, length}
use Rattle.std.proofs.Common.{sym, ap, inl, inr, arith}
use Rattle.std.proofs.Math.Decide.{ℕ_discrete}
use Rattle.words.specs.Basics.{none, count}
use Rattle.words.specs.Chains.{chain_start, chain_next}
use Rattle.words.specs.Counting.{δ_other, δ₀_zero, count_nil, count_cons}
use Rattle.sizes.specs.Sizes.{bit}
use Rattle.pool.specs.Pool.{refcount, left, right, child, first_shared, rest}
use Rattle.pool.specs.Links.{Link, LinksIn, PathIn, WriteIn}
use Rattle.pool.specs.Theory.Invariant.{Links, links-right}
use Rattle.pool.specs.Theory.Operations.{Live, root_covers, live_perm}
use Rattle.pool.specs.Theory.Walk.{Covers, covers_child}
use Rattle.pool.specs.Theory.Write.{live-write_in}

-- of a node in use
used_links : (N : ℕ) (level size : ℕ → ℕ) (l s a b : ℕ) → Links N level size l s a b → Link N a × Link N b
unfolding Links
used_links N level size zero s a b k = (inr k.1, inr k.2)
used_links N level size (suc l) s a b k =
    (inl k.0.inside, elim (ℕ_discrete b none) [ yes e ↦ inr e | no e ↦ inl (links-right N level size l s a b k e).0 ])

module _ (N H n : ℕ) (small : N ≤ none) (cover : n ≤ 2 ^ H) {level size : ℕ → ℕ} {ws : List ℕ} {free : ℕ} {fs E : List ℕ} (L : Live N H n level size ws free fs E) where
  node-links : (i : ℕ) → i < N → Link N (left ws i) × Link N (right ws i)
  node-links i b = elim (ℕ_discrete (refcount ws i) 0) [
    | yes e ↦ (chain_next N (left ws) free i fs (omega (arith, L.inv.listed i b, δ₀_zero (refcount ws i) e)) L.inv.chain, inl (omega (arith, (L.inv.cleared i b e).0)))
    | no e ↦ used_links N level size (level i) (size i) (left ws i) (right ws i) (L.inv.shape i b (omega arith))
  ]

  pub live-links : LinksIn N ws
  live-links = record { room = L.inv.room; lefts = λ i b. (node-links i b).0; rights = λ i b. (node-links i b).1 }

  pub live_free : Link N free
  live_free = chain_start N (left ws) free fs L.inv.chain

  covers_path : (l x i : ℕ) → Covers N level size ws l x i → PathIn N ws l i x
  covers_path zero x i K = K.inside
  covers_path (suc l) x i K = (K.inside, covers_path l x (child ws i (bit l x)) (covers_child small L.inv l x i K))

  pub live_path : (e x : ℕ) → 0 < count e E → x < n → PathIn N ws H e x
  live_path e x p b = covers_path H x e (root_covers N H n small cover L e x p b)

-- ---- a write

-- the other elements of a list
take_out : (e : ℕ) (E : List ℕ) → 0 < count e E → (E' : List ℕ) × ((i : ℕ) → count i E ≡ count i (e ∷ E')) × (length E ≡ suc (length E'))
take_out e [] p = absurd (omega (arith, count_nil e))
take_out e (d ∷ E) p = elim (ℕ_discrete e d) [
  | yes q ↦ (E, (λ i. ap (λ c. count i (c ∷ E)) (sym q)), refl)
  | no q ↦ (let r = take_out e E (omega (arith, count_cons e d E, δ_other e d q)) in
      (d ∷ r.0, (λ i. omega (arith, count_cons i d E, r.1 i, count_cons i e r.0, count_cons i e (d ∷ r.0), count_cons i d r.0)), ap suc r.2))
]

-- with enough free nodes, a write to a live frame's tree meets nodes only
pub live-writes : (N H n : ℕ) → N ≤ none → n ≤ 2 ^ H → {level size : ℕ → ℕ} {ws : List ℕ} {free : ℕ} {fs E : List ℕ} → Live N H n level size ws free fs E
    → (k e x : ℕ) → k ≡ length fs → length E + N * 2 + 4 < 2 ^ 32 → 0 < count e E → x < n → rest H ws e x ≤ k → WriteIn N H ws free x (first_shared H ws e e x)
live-writes N H n small cover {level} {size} {ws} {free} {fs} {E} L k e x c few p b enough =
    let r = take_out e E p in
    live-write_in N H n small cover level size ws free k fs r.0 e x 0 (live_perm N H n small cover (e ∷ r.0) r.1 L) b c enough (omega (arith, r.2))
