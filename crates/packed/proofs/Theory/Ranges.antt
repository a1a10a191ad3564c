-- A pool of two-word nodes that unpacks to a live pool has what Links asks: a walk from a live root, and a write, meet nodes only.
use Rattle.std.specs.Prelude.{◌≡◌, List, ◌∷◌, ℕ, zero, suc, ◌+◌, ◌-◌, ◌*◌, ◌≤◌, ◌<◌, ◌^◌, length}
use Rattle.std.proofs.Common.{sym, subst, inl, inr, arith}
use Rattle.words.specs.Basics.{none, count}
use Rattle.words.specs.Counting.{δ_same, count_cons}
use Rattle.sizes.specs.Sizes.{bit}
use Rattle.pool.specs.Pool as Four
use Rattle.pool.specs.Theory.Invariant.{Invariant}
use Rattle.pool.specs.Theory.Operations.{Live, root_covers}
use Rattle.pool.specs.Theory.Walk.{Covers, covers_child}
use Rattle.packed.specs.Links.{PathIn, CopyIn, WriteIn}
use Rattle.packed.specs.Pool.{path_node, first_shared}
use Rattle.packed.proofs.Theory.Reads.{covers_same, unpacks_first}
use Rattle.packed.proofs.Theory.Unpacks.{Unpacks}
use Rattle.packed.proofs.Theory.Writes.{Copying, Ends, at_head, next-same, old_sibling, old_child, kept_link, step_copying, step_unpacks, ends, start_copying}

-- ---- a walk

covers_path : {N H : ℕ} → N ≤ 16384 → {level size : ℕ → ℕ} {tail ws₂ ws₄ : List ℕ} {free : ℕ} {fs E : List ℕ} → Invariant N H level size ws₄ free fs none E → Unpacks N tail ws₂ ws₄
    → (l x i : ℕ) → Covers N level size ws₄ l x i → PathIn N ws₂ l i x
covers_path most R U zero x i K = K.inside
covers_path {N} most {ws₂ = ws₂} {ws₄} R U (suc l) x i K =
    (K.inside, subst (λ j. PathIn N ws₂ l j x) (sym (covers_same most R U l x i K (bit l x))) (covers_path most R U l x (Four.child ws₄ i (bit l x)) (covers_child (omega arith) R l x i K)))

pub unpacks_path : (N H n : ℕ) → N ≤ 16384 → n ≤ 2 ^ H → {level size : ℕ → ℕ} {tail ws₂ ws₄ : List ℕ} {free : ℕ} {fs E : List ℕ} → Live N H n level size ws₄ free fs E → Unpacks N tail ws₂ ws₄
    → (e x : ℕ) → 0 < count e E → x < n → PathIn N ws₂ H e x
unpacks_path N H n most cover L U e x p b = covers_path most L.inv U H x e (root_covers N H n (omega arith) cover L e x p b)

-- ---- a write

-- the new path takes and copies nodes only
path_in : (N H : ℕ) (most : N ≤ 16384) (level size : ℕ → ℕ) (ws₀ : List ℕ) (free₀ : ℕ) (fs₀ E : List ℕ) (R₀ : Invariant N H level size ws₀ free₀ fs₀ none E) (few : length E + N * 2 + 2 < 2 ^ 32)
    (tail : List ℕ) (x l : ℕ) (ws₂ ws : List ℕ) (a : ℕ) (fs : List ℕ) (old : ℕ) → Copying N level size ws₀ x l ws a fs old → Unpacks N tail ws₂ ws → CopyIn N l ws₂ a old x
unfolding CopyIn
path_in N H most level size ws₀ free₀ fs₀ E R₀ few tail x zero ws₂ ws a fs old A U = (at_head N H most level size ws₀ free₀ fs₀ E R₀ few tail x 0 ws a fs old A).1.chain.1
path_in N H most level size ws₀ free₀ fs₀ E R₀ few tail x (suc l) ws₂ ws a fs old A U =
    let c = at_head N H most level size ws₀ free₀ fs₀ E R₀ few tail x (suc l) ws a fs old A in
    let B = c.1 in
    rw (
      next-same N H most level size ws₀ free₀ fs₀ E R₀ few tail x l ws₂ ws a c.0 old B U,
      old_sibling N H most level size ws₀ free₀ fs₀ E R₀ few tail x l ws₂ ws a c.0 old B U,
      old_child N H most level size ws₀ free₀ fs₀ E R₀ few tail x l ws₂ ws a c.0 old B U,
    ) (
      B.chain.1,
      A.covers.inside,
      kept_link N H most level size ws₀ free₀ fs₀ E R₀ few tail x l ws₂ ws a c.0 old B U,
      path_in N H most level size ws₀ free₀ fs₀ E R₀ few tail x l (path_node ws₂ a (bit l x) (Four.left ws a) (Four.sibling ws old (bit l x)))
          (Four.path_node ws a (bit l x) (Four.left ws a) (Four.sibling ws old (bit l x))) (Four.left ws a) c.0 (Four.child ws old (bit l x))
          (step_copying N H most level size ws₀ free₀ fs₀ E R₀ few tail x l ws₂ ws a c.0 old B U) (step_unpacks N H most level size ws₀ free₀ fs₀ E R₀ few tail x l ws₂ ws a c.0 old B U),
    )

module _ (N H n : ℕ) (most : N ≤ 16384) (cover : n ≤ 2 ^ H) {level size : ℕ → ℕ} {tail ws₂ ws₄ : List ℕ} {free : ℕ} {fs E : List ℕ} (L : Live N H n level size ws₄ free fs E) (U : Unpacks N tail ws₂ ws₄) where
  ends_in : length E + N * 2 + 2 < 2 ^ 32 → (k x : ℕ) → k ≡ length fs → (p : ℕ × ℕ × ℕ) → p.0 ≤ k → Ends N H level size ws₄ x p → WriteIn N H ws₂ free x p
  ends_in few k x c p enough (inl w) = record {
    within = omega (arith, w.0);
    node = w.1.inside;
    above = λ a b. absurd (omega (arith, w.0));
    copies = λ a. absurd (omega (arith, w.0));
  }
  ends_in few k x c p enough (inr (m, S)) = record {
    within = omega (arith, S.many, S.low);
    node = S.node.inside;
    above = λ a b. (S.above (omega (arith, S.many))).inside;
    copies = λ a.
        let e : p.0 - 1 ≡ m = omega (arith, S.many) in
        subst (λ l. CopyIn N l ws₂ free p.1 x) (sym e)
        (path_in N H most level size ws₄ free fs E L.inv few tail x m ws₂ ws₄ free fs p.1 (start_copying N H n most cover L U m x p.1 S.node (omega (arith, S.many))) U);
  }

  write_in : length E + N * 2 + 2 < 2 ^ 32 → (k e x : ℕ) → k ≡ length fs → 0 < count e E → x < n → Four.rest H ws₄ e x ≤ k → WriteIn N H ws₂ free x (first_shared H ws₂ e e x)
  unfolding Four.rest
  write_in few k e x c p b enough = rw (unpacks_first N H n most cover L U e x p b) (ends_in few k x c (Four.first_shared H ws₄ e e x) enough (ends N H n most cover L U e x p b))

  -- with enough free nodes, a write to a live frame's tree meets nodes only
  pub unpacks_writes : (k e x : ℕ) → k ≡ length fs → length E + N * 2 + 4 < 2 ^ 32 → 0 < count e E → x < n → Four.rest H ws₄ e x ≤ k → WriteIn N H ws₂ free x (first_shared H ws₂ e e x)
  unpacks_writes k e x c few p b enough = write_in (omega arith) k e x c p b enough

-- the frame that writes first among the roots
pub unpacks_write_in : (N H n : ℕ) → N ≤ 16384 → n ≤ 2 ^ H → {level size : ℕ → ℕ} {tail ws₂ ws₄ : List ℕ} {free : ℕ} {fs : List ℕ} (k root : ℕ) (E : List ℕ) (x : ℕ)
    → Live N H n level size ws₄ free fs (root ∷ E) → Unpacks N tail ws₂ ws₄ → x < n → k ≡ length fs → Four.rest H ws₄ root x ≤ k → length E + N * 2 + 4 < 2 ^ 32
    → WriteIn N H ws₂ free x (first_shared H ws₂ root root x)
unpacks_write_in N H n most cover k root E x L U b c enough few = write_in N H n most cover L U (omega arith) k root x c (omega (arith, count_cons root root E, δ_same root)) b enough
