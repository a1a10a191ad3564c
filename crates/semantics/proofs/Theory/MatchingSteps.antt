-- R-8: a step in both layouts. The two cores are the same but for their pools, of which the one unpacks to the other; the step gives the same answer, and
-- cores that are so again.
use Rattle.std.specs.Prelude.{◌≡◌, Bool, true, false, cond, not, List, [], ◌∷◌, ◌++◌, ℕ, suc, ◌≤◌, ◌<◌, eqb, ltb, length, Ok}
use Rattle.std.proofs.Math.Path.{refl, ap, subst}
use Rattle.std.proofs.Common.{sym, ◌∙◌, arith, eqb-true}
use Rattle.std.proofs.Math.Logic.{inl, inr}
use mathlib.Core.List.Memᴰ.{head as here}
use mathlib.Core.List.Memᴰ.{tail as there}
use mathlib.Core.List.Permᴰ
use mathlib.Core.List.{Memᴰ as In, Permᴰ}
use Rattle.std.proofs.Math.ListN.{length-map}
use Rattle.std.proofs.lemmas.Bool.{eqb-false}
use Rattle.words.specs.Lists.{In-perm, perm_length}
use Rattle.words.specs.Tests.{decided, lt_of, not-false, ge_of}
use Rattle.sizes.specs.Sizes.{height}
use Rattle.frames.specs.declared.Frame.{Frame as FrameRecord}
use Rattle.frames.specs.declared.Returned.TheVariants.{Continued}
use Rattle.frames.specs.Frames.{frame_at}
use Rattle.frames.specs.Deques.{size, bottom}
use Rattle.frames.specs.Steps.{ends_too}
use Rattle.frames.specs.Widths.{max_places}
use Rattle.model.specs.declared.Step.{Step}
use Rattle.model.specs.declared.Step.TheVariants.{Spawn, Return, Steal, Sync, Read, Write, Fold}
use Rattle.model.specs.History.{History}
use Rattle.model.specs.Machine.{Frame, Machine, live, deque, has_child}
use Rattle.model.proofs.Theory.Effects.{there_is_worker, live_at_lem}
use Rattle.model.proofs.Theory.FrameTree.{FrameTree}
use Rattle.pool.specs.Pool as Four
use Rattle.packed.specs.Pool as Two
use Rattle.packed.proofs.Theory.Unpacks.{Unpacks}
use Rattle.soundness.specs.Layout.{four_words, two_words}
use Rattle.semantics.specs.declared.Refusal.{Refusal}
use Rattle.semantics.specs.declared.Refusal.TheVariants.{NoSplitter, PoolFull}
use Rattle.semantics.specs.declared.Done.TheVariants.{Value}
use Rattle.semantics.specs.Core.{Core, StepResult, acting_in, popped, end_at, upward, returned, end_bottom, return_on, spawn_on, steal_on, sync_on, read_on, write_on, fold_on, judged, acting_tests, tests_of, step_on}
use Rattle.semantics.proofs.Theory.Relation.{Trees, TreeLaws, parent_place, roots_of, Relates, Links}
use Rattle.semantics.proofs.Theory.Places.{tree_of, recorded, live_few, acting-place, acting-frame, acting_record}
use Rattle.semantics.proofs.Theory.RelationFacts.{trees_perm, parent_count}
use Rattle.semantics.proofs.Theory.Refusals.{size_same}
use Rattle.semantics.proofs.Theory.SimReturn.{ends_by}
use Rattle.semantics.proofs.Theory.FourPools.{LiveTrees, four_pools}
use Rattle.semantics.proofs.Theory.TwoPools.{reads, spawn_unpacks, return_unpacks, rest_unpacks, write_unpacks}
use Rattle.semantics.proofs.Theory.SoundSteps.{Carried}
use Rattle.semantics.proofs.Theory.Elsewhere.{with_pool}

abbrev pub result_with : StepResult → List ℕ → StepResult
result_with d ws = record { core = with_pool d.core ws; answer = d.answer }

-- d₂ is d₄ but for the pool, which unpacks to that of d₄
pub record Alike (N : ℕ) (tail : List ℕ) (d₂ d₄ : StepResult) : Type 0 where
  pub pool : List ℕ
  pub same : d₂ ≡ result_with d₄ pool
  pub unpacks : Unpacks N tail pool d₄.core.pool

-- an element of a list, with the others after it
front : {A : Type 0} {x : A} (l : List A) → In x l → (l' : List A) × Permᴰ l (x ∷ l')
front (y ∷ l) (here e) = (l, Permᴰ.cons (sym e) (Permᴰ.refl l))
front (y ∷ l) (there m) = (let r = front l m in (y ∷ r.0, Permᴰ.trans (Permᴰ.cons refl r.1) (Permᴰ.swap refl refl)))
front {A = A} [] x'' = elim x'' [ ]

module _ (N n : ℕ) (most : N ≤ 16384) (some : 1 ≤ n) where
  abbrev P : Trees
  P = four_pools.LiveTrees N n

  -- the trees, one frame's in front
  record Front (c : Core) (root : ℕ) : Type 0 where
    history : History
    others : List (ℕ × History)
    few : length others < max_places
    trees : LiveTrees N n c.pool c.head.numbers.free_node c.head.free_count ((root, history) ∷ others)

  front_of : (M : Machine) (c : Core) (r : Relates four_words P M c) (g : Frame) → In g (live M) → Front c (frame_at c.frames (r.at g.name)).root
  unfolding four_pools
  front_of M c r g m =
      let f = front (live M) m in
      record {
        history = g.history;
        others = roots_of c.frames r.at f.0;
        few = omega (arith, length-map f.0 (tree_of c.frames r.at), perm_length f.1, live_few four_words r, r.formed.few);
        trees = trees_perm four_words c.frames r.at (four_pools.live_laws N n most some) f.1 r.trees;
      }

  -- ---- the end of a frame

  module _ (c : Core) (nodes : c.head.numbers.nodes ≡ N) (levels : c.head.height ≡ height n) (tail ws : List ℕ) (U : Unpacks N tail ws c.pool) where
    end_alike : (p : ℕ) → Front c (frame_at c.frames p).root → (ws' : List ℕ) × (end_at two_words (with_pool c ws) p ≡ with_pool (end_at four_words c p) ws') × Unpacks N tail ws' (end_at four_words c p).pool
    unfolding end_at
    end_alike p F =
        let root = (frame_at c.frames p).root in
        let free = c.head.numbers.free_node in
        let k = c.head.free_count in
        let R : Unpacks N tail (Two.release c.head.numbers.nodes c.head.height ws free k root).0 (Four.release c.head.height c.pool free k root).0
        × ((Two.release c.head.numbers.nodes c.head.height ws free k root).1 ≡ (Four.release c.head.height c.pool free k root).1)
        × ((Two.release c.head.numbers.nodes c.head.height ws free k root).2 ≡ (Four.release c.head.height c.pool free k root).2) =
        rw (nodes, levels) (return_unpacks N n most (root, F.history) F.others F.trees U) in
        ((Two.release c.head.numbers.nodes c.head.height ws free k root).0, rw (R.1, R.2) refl, R.0)

  -- ---- and so on upward

  abbrev Rising : ℕ → Core → ℕ → Type 0
  Rising d c q =
      c.head.numbers.nodes ≡ N → c.head.height ≡ height n → (w : ℕ) (tail ws : List ℕ) → Unpacks N tail ws c.pool → Alike N tail (upward two_words d (with_pool c ws) w q) (upward four_words d c w q)

  end_nodes : (c : Core) (p : ℕ) → c.head.numbers.nodes ≡ N → (end_at four_words c p).head.numbers.nodes ≡ N
  unfolding end_at
  end_nodes c p e = e

  end_levels : (c : Core) (p : ℕ) → c.head.height ≡ height n → (end_at four_words c p).head.height ≡ height n
  unfolding end_at
  end_levels c p h = h

  stop : (c : Core) (q : ℕ) → Rising 0 c q
  unfolding upward
  stop c q e h w tail ws U = record { pool = ws; same = refl; unpacks = U }

  turn : (M : Machine) (c : Core) (r : Relates four_words P M c) → TreeLaws four_words c.head.numbers.nodes M.splitters P → FrameTree M → (g : Frame) → In g (live M)
      → (ends_too (frame_at c.frames (r.at g.name)) ≡ true → Rising (length g.name) (end_at four_words c (r.at g.name)) (parent_place r.at g.name))
      → Rising (suc (length g.name)) c (r.at g.name)
  unfolding upward
  turn M c r laws tree g m next e h w tail ws U =
      let p = r.at g.name in
      let E = end_alike c e h tail ws U p (front_of M c r g m) in
      elim (decided (ends_too (frame_at c.frames p))) [
        | inl t ↦ rw t
            (subst (λ (x : Core). Alike N tail (upward two_words (length g.name) x w (frame_at c.frames p).parent) (upward four_words (length g.name) (end_at four_words c p) w (frame_at c.frames p).parent)) (sym E.1)
            (rw (recorded four_words r g m).1.parent (next t (end_nodes c p e) (end_levels c p h) w tail E.0 E.2)))
        | inr t ↦ rw t (record { pool = ws; same = refl; unpacks = U })
      ]

  -- ---- a step of a worker that has a frame

  module _ (M : Machine) (c : Core) (r : Relates four_words P M c) (laws : TreeLaws four_words c.head.numbers.nodes M.splitters P) (tree : FrameTree M) (K : Links c.frames r.at (live M))
      (nodes : c.head.numbers.nodes ≡ N) (levels : c.head.height ≡ height n) (tail ws : List ℕ) (U : Unpacks N tail ws c.pool) (w : ℕ) where
    -- the bottom frame of w, and the others
    acting-front : 0 < size c.deques w → Front c (acting_in c w).root
    acting-front busy = by_deque (deque M w) refl
      where
        by_deque : (l : List Frame) → deque M w ≡ l → Front c (acting_in c w).root
        by_deque [] z = absurd (omega (arith, busy, size_same four_words r w, ap length z))
        by_deque (q ∷ d) z =
            let lt = there_is_worker M w (omega (arith, ap length z)) in
            subst (λ (f : FrameRecord). Front c f.root) (sym (acting-frame four_words r w q d lt z)) (front_of M c r q (In-perm (Permᴰ.symm (live_at_lem M w (q ∷ d) lt z)) (here refl)))

    spawn_alike : 0 < size c.deques w → Alike N tail (spawn_on two_words (with_pool c ws) w) (spawn_on four_words c w)
    unfolding spawn_on
    spawn_alike busy = (let F = acting-front busy in record { pool = Two.retain ws (acting_in c w).root; same = refl; unpacks = spawn_unpacks N n most ((acting_in c w).root, F.history) F.others F.few F.trees U })

    read_alike : (x : ℕ) → x < n → 0 < size c.deques w → Alike N tail (read_on two_words (with_pool c ws) w x) (read_on four_words c w x)
    unfolding read_on
    read_alike x b busy =
        let F = acting-front busy in
        let e : Two.read_at c.head.height ws (acting_in c w).root x ≡ Four.read_at c.head.height c.pool (acting_in c w).root x = rw levels (reads N n most F.trees U ((acting_in c w).root, F.history) (here refl) x b) in
        record { pool = ws; same = ap (λ (v : ℕ). record { core = with_pool c ws; answer = Ok (Value v) }) e; unpacks = U }

    rest-same : (x : ℕ) → x < n → 0 < size c.deques w → Two.rest c.head.height ws (acting_in c w).root x ≡ Four.rest c.head.height c.pool (acting_in c w).root x
    rest-same x b busy = (let F = acting-front busy in rw levels (rest_unpacks N n most ((acting_in c w).root, F.history) F.others x b F.trees U))

    write_alike : (x v : ℕ) → x < n → 0 < size c.deques w → Four.rest c.head.height c.pool (acting_in c w).root x ≤ c.head.free_count → Alike N tail (write_on two_words (with_pool c ws) w x v) (write_on four_words c w x v)
    unfolding write_on
    write_alike x v b busy enough =
        let F = acting-front busy in
        let root = (acting_in c w).root in
        let free = c.head.numbers.free_node in
        let k = c.head.free_count in
        let less : Two.rest (height n) ws root x ≤ k = subst (λ (t : ℕ). Two.rest t ws root x ≤ k) levels (omega (arith, rest-same x b busy, enough)) in
        let p₂ = Two.write c.head.height ws free k root x v in
        let p₄ = Four.write c.head.height c.pool free k root x v in
        let R : Unpacks N tail p₂.0 p₄.0 × (p₂.1 ≡ p₄.1) × (p₂.2 ≡ p₄.2) × (p₂.3 ≡ p₄.3) = rw levels (write_unpacks N n most (root, F.history) F.others x v F.few b less F.trees U) in
        record { pool = p₂.0; same = rw (R.1, R.2, R.3) refl; unpacks = R.0 }

    -- ---- a return

    risen : 0 < size c.deques w → (acting_in c w).outstanding ≡ 0 → Rising (acting_in c w).depth (end_at four_words (popped c w) (bottom c.deques w)) (acting_in c w).parent
    risen busy free = by_deque (deque M w) refl
      where
        by_deque : (l : List Frame) → deque M w ≡ l → Rising (acting_in c w).depth (end_at four_words (popped c w) (bottom c.deques w)) (acting_in c w).parent
        by_deque [] z = absurd (omega (arith, busy, size_same four_words r w, ap length z))
        by_deque (q ∷ d) z =
            let lt = there_is_worker M w (omega (arith, ap length z)) in
            let own = acting_record four_words r w q d lt z in
            let is = acting-frame four_words r w q d lt z in
            let childless : has_child q.name (live M) ≡ false =
            elim (decided (has_child q.name (live M))) [
              | inl t ↦ absurd (parent_count q.name (live M) t (sym own.outstanding ∙ sym (ap (λ (f : FrameRecord). f.outstanding) is) ∙ free))
              | inr t ↦ t
            ] in
            rw (is, acting-place four_words r w q d lt z, own.depth, own.parent) (ends_by four_words P Rising stop turn M c r laws tree K w q d lt z childless)

    ended_alike : 0 < size c.deques w → (acting_in c w).outstanding ≡ 0 → Alike N tail (end_bottom two_words (with_pool c ws) w) (end_bottom four_words c w)
    unfolding end_bottom
    ended_alike busy free =
        let f = acting_in c w in
        let p = bottom c.deques w in
        let F = acting-front busy in
        let E = end_alike (popped c w) nodes levels tail ws U p (record { history = F.history; others = F.others; few = F.few; trees = F.trees }) in
        let c₄ = end_at four_words (popped c w) p in
        let R = risen busy free (end_nodes (popped c w) p nodes) (end_levels (popped c w) p levels) w tail E.0 E.2 in
        subst (λ (x : Core). Alike N tail (cond (eqb (size x.deques w) 0) (upward two_words f.depth x w f.parent) (returned x Continued)) (end_bottom four_words c w)) (sym E.1)
        (elim (decided (eqb (size c₄.deques w) 0)) [
          | inl t ↦ rw t R
          | inr t ↦ rw t (record { pool = E.0; same = refl; unpacks = E.2 })
        ])

    return_alike : 0 < size c.deques w → Alike N tail (return_on two_words (with_pool c ws) w) (return_on four_words c w)
    unfolding return_on
    return_alike busy = elim (decided (eqb (acting_in c w).outstanding 0)) [
      | inl t ↦ rw t (ended_alike busy (eqb-true (acting_in c w).outstanding 0 t))
      | inr t ↦ rw t (record { pool = ws; same = refl; unpacks = U })
    ]

-- ---- a step, refused or accepted

-- no test refuses
abbrev Passed : List (Bool × Refusal) → Type 0
Passed [] = Unit {0}
Passed (t ∷ ts) = (t.0 ≡ false) × Passed ts

module _ (N : ℕ) (tail : List ℕ) (c : Core) (ws : List ℕ) (U : Unpacks N tail ws c.pool) where
  judged_alike : (ts : List (Bool × Refusal)) (d₂ d₄ : StepResult) → (Passed ts → Alike N tail d₂ d₄) → Alike N tail (judged ts (with_pool c ws) d₂) (judged ts c d₄)
  judged_alike [] d₂ d₄ h = h tt
  judged_alike (t ∷ ts) d₂ d₄ h = elim (decided t.0) [
    | inl e ↦ rw e (record { pool = ws; same = refl; unpacks = U })
    | inr e ↦ rw e (judged_alike ts d₂ d₄ (λ p. h (e, p)))
  ]

module _ (M : Machine) (c : Core) (K : Carried four_words four_pools M c) (tail ws : List ℕ) (U : Unpacks c.head.numbers.nodes tail ws c.pool) where
  abbrev nodes : ℕ
  nodes = c.head.numbers.nodes

  few : nodes ≤ 16384
  few = K.related.numbers.nodes_le

  some : 1 ≤ M.splitters
  some = K.related.numbers.splitters_positive

  laws : TreeLaws four_words nodes M.splitters (four_pools.LiveTrees nodes M.splitters)
  laws = four_pools.live_laws nodes M.splitters few some

  -- the worker's deque is not empty, and the splitter is one
  busy : (w : ℕ) → eqb (size c.deques w) 0 ≡ false → 0 < size c.deques w
  busy w e = (let o = eqb-false (size c.deques w) 0 e in omega (arith, o))

  inside : (x : ℕ) → not (ltb x c.head.numbers.splitters) ≡ false → x < M.splitters
  inside x e = subst (λ (n : ℕ). x < n) K.related.numbers.splitters (lt_of (not-false (ltb x c.head.numbers.splitters) e))

  writes : (w x v : ℕ) → 0 < size c.deques w → x < M.splitters
      → Alike nodes tail (judged ((ltb c.head.free_count (Two.rest c.head.height ws (acting_in c w).root x), PoolFull) ∷ []) (with_pool c ws) (write_on two_words (with_pool c ws) w x v))
      (judged ((ltb c.head.free_count (Four.rest c.head.height c.pool (acting_in c w).root x), PoolFull) ∷ []) c (write_on four_words c w x v))
  writes w x v b i =
      rw (rest-same nodes M.splitters few some M c K.related laws K.tree K.links refl K.related.numbers.height_is tail ws U w x i b)
      (judged_alike nodes tail c ws U ((ltb c.head.free_count (Four.rest c.head.height c.pool (acting_in c w).root x), PoolFull) ∷ []) (write_on two_words (with_pool c ws) w x v) (write_on four_words c w x v)
      (λ p. write_alike nodes M.splitters few some M c K.related laws K.tree K.links refl K.related.numbers.height_is tail ws U w x v i b (ge_of p.0)))

  pub step_alike : (st : Step) → Alike c.head.numbers.nodes tail (step_on two_words (with_pool c ws) st) (step_on four_words c st)
  unfolding step_on steal_on sync_on fold_on
  step_alike (Spawn w) =
      judged_alike nodes tail c ws U (tests_of four_words c (Spawn w)) (spawn_on two_words (with_pool c ws) w) (spawn_on four_words c w)
      (λ p. spawn_alike nodes M.splitters few some M c K.related laws K.tree K.links refl K.related.numbers.height_is tail ws U w (busy w p.1.1.0))
  step_alike (Return w) =
      judged_alike nodes tail c ws U (tests_of four_words c (Return w)) (return_on two_words (with_pool c ws) w) (return_on four_words c w)
      (λ p. return_alike nodes M.splitters few some M c K.related laws K.tree K.links refl K.related.numbers.height_is tail ws U w (busy w p.1.1.0))
  step_alike (Steal w v) = judged_alike nodes tail c ws U (tests_of four_words c (Steal w v)) (steal_on (with_pool c ws) w v) (steal_on c w v) (λ p. record { pool = ws; same = refl; unpacks = U })
  step_alike (Sync w) = judged_alike nodes tail c ws U (tests_of four_words c (Sync w)) (sync_on (with_pool c ws) w) (sync_on c w) (λ p. record { pool = ws; same = refl; unpacks = U })
  step_alike (Fold w i v) = judged_alike nodes tail c ws U (tests_of four_words c (Fold w i v)) (fold_on (with_pool c ws) w i v) (fold_on c w i v) (λ p. record { pool = ws; same = refl; unpacks = U })
  step_alike (Read w x) =
      judged_alike nodes tail c ws U (tests_of four_words c (Read w x)) (read_on two_words (with_pool c ws) w x) (read_on four_words c w x)
      (λ p. read_alike nodes M.splitters few some M c K.related laws K.tree K.links refl K.related.numbers.height_is tail ws U w x (inside x p.1.1.1.0) (busy w p.1.1.0))
  step_alike (Write w x v) =
      judged_alike nodes tail c ws U (acting_tests c w ++ (not (ltb x c.head.numbers.splitters), NoSplitter) ∷ []) _ _ (λ p. writes w x v (busy w p.1.1.0) (inside x p.1.1.1.0))
