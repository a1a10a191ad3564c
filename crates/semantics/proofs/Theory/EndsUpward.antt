-- In a sound core the ends upward find what they need: `Ready.upward`.
use Rattle.std.specs.Prelude.{◌≡◌, refl, true, false, List, [], ◌∷◌, ℕ, suc, ◌*◌, ◌≤◌, ◌<◌, length}
use Rattle.std.proofs.Common.{sym, ap, ◌∙◌, subst, inl, inr, arith}
use mathlib.Core.List.Memᴰ.{map as In-map}
use mathlib.Core.List.{Memᴰ as In}
use Rattle.words.specs.Tests.{decided}
use Rattle.pool.specs.Theory.Sharing.{root_of_lem}
use Rattle.frames.specs.declared.Frame.{Frame as FrameRecord}
use Rattle.frames.specs.Frames.{frame_at}
use Rattle.frames.specs.Deques.{size, bottom}
use Rattle.frames.specs.Steps.{ends_too}
use Rattle.frames.specs.Ranges.{ParentOf, ParentCounts}
use Rattle.model.specs.Machine.{Name, Frame, Machine, live, deque, has_child}
use Rattle.model.proofs.Theory.Children.{In-hasChild}
use Rattle.model.proofs.Theory.Effects.{there_is_worker}
use Rattle.model.proofs.Theory.FrameTree.{FrameTree}
use Rattle.semantics.specs.Core.{Core, acting_in, popped, end_at}
use Rattle.semantics.specs.Ranges.{EndsAt, EndsUpward}
use Rattle.semantics.proofs.Theory.Relation.{Trees, TreeLaws, parent_place, roots_of, Recorded, Relates, Links}
use Rattle.semantics.proofs.Theory.Places.{tree_of, recorded, placed_inside, placed_apart, acting-place, acting-frame, acting_record}
use Rattle.semantics.proofs.Theory.RelationFacts.{parent_count}
use Rattle.semantics.proofs.Theory.SimReturn.{ends_by}
use Rattle.semantics.proofs.Theory.Refusals.{size_same}
use Rattle.soundness.specs.Layout.{two_words}
use Rattle.semantics.proofs.Theory.TwoPools.{two_pools}

module _ (N n : ℕ) (most : N ≤ 16384) (some : 1 ≤ n) where
  abbrev P : Trees
  P = two_pools.LiveTrees N n

  -- ---- one frame

  module _ (M : Machine) (c : Core) (r : Relates two_words P M c) (tree : FrameTree M) (e : c.head.numbers.nodes ≡ N) (g : Frame) (m : In g (live M)) where
    abbrev F : FrameRecord
    F = frame_at c.frames (r.at g.name)

    R : (s : ℕ) × Recorded c.frames r.at (live M) s g
    R = recorded two_words r g m

    parent_of : (k : ℕ) (p : Name) → g.name ≡ k ∷ p → (h : Frame) × In h (live M) × (h.name ≡ p)
    parent_of k p z = tree.rooted g m k p z

    parent_at : ParentOf c.frames (r.at g.name) F
    parent_at = by_name g.name refl
      where
        by_name : (z : Name) → g.name ≡ z → ParentOf c.frames (r.at g.name) F
        by_name [] z = inr (R.1.depth ∙ ap length z, R.1.parent ∙ ap (parent_place r.at) z)
        by_name (k ∷ p) z =
            let h = parent_of k p z in
            let up : F.parent ≡ r.at h.0.name = R.1.parent ∙ ap (parent_place r.at) z ∙ ap r.at (sym h.2) in
            inl (
              omega (arith, R.1.depth, ap length z),
              subst (λ (x : ℕ). x < length c.frames) (sym up) (placed_inside two_words r h.0 h.1),
              λ y. placed_apart two_words r h.0 g h.1 m (λ x. omega (arith, ap length x, ap length z, ap length h.2)) (sym up ∙ y),
            )

    parent_counts : ParentCounts c.frames F
    parent_counts b = by_name g.name refl
      where
        by_name : (z : Name) → g.name ≡ z → 0 < (frame_at c.frames F.parent).outstanding
        by_name [] z = absurd (omega (arith, b, r.formed.few, R.1.parent, ap (parent_place r.at) z))
        by_name (k ∷ p) z =
            let h = parent_of k p z in
            let up : F.parent ≡ r.at h.0.name = R.1.parent ∙ ap (parent_place r.at) z ∙ ap r.at (sym h.2) in
            let child = In-hasChild k h.0.name m (z ∙ ap (λ (x : Name). k ∷ x) (sym h.2)) in
            subst (λ (x : ℕ). 0 < (frame_at c.frames x).outstanding) (sym up)
            (omega (arith, (recorded two_words r h.0 h.1).1.outstanding, parent_count h.0.name (live M) child))

    can_end : EndsAt c (r.at g.name)
    can_end = record {
      room = subst (λ (x : ℕ). 2 * x ≤ length c.pool) (sym e) (two_pools.live_room r.trees);
      root = subst (λ (x : ℕ). F.root < x) (sym e) (two_pools.live_root r.trees F.root (root_of_lem (tree_of c.frames r.at g) (roots_of c.frames r.at (live M)) (In-map (tree_of c.frames r.at) m)));
      frame = record { within = R.1.inside; up = refl; parent = parent_at; counts = parent_counts };
    }

  -- ---- and so on upward

  abbrev Rising : ℕ → Core → ℕ → Type 0
  Rising d c q = c.head.numbers.nodes ≡ N → EndsUpward d c q

  same_nodes : (c : Core) (p : ℕ) → c.head.numbers.nodes ≡ N → (end_at two_words c p).head.numbers.nodes ≡ N
  unfolding end_at
  same_nodes c p z = z

  turn : (M : Machine) (c : Core) (r : Relates two_words P M c) → TreeLaws two_words c.head.numbers.nodes M.splitters P → FrameTree M → (g : Frame) → In g (live M)
      → (ends_too (frame_at c.frames (r.at g.name)) ≡ true → Rising (length g.name) (end_at two_words c (r.at g.name)) (parent_place r.at g.name))
      → Rising (suc (length g.name)) c (r.at g.name)
  turn M c r laws tree g m next e =
      let W = (recorded two_words r g m).1 in
      (W.inside, λ t. (can_end M c r tree e g m, W.depth, subst (λ (z : ℕ). EndsUpward (length g.name) (end_at two_words c (r.at g.name)) z) (sym W.parent) (next t (same_nodes c (r.at g.name) e))))

  -- ---- after the end of worker w's bottom frame

  module _ (M : Machine) (c : Core) (r : Relates two_words P M c) (laws : TreeLaws two_words c.head.numbers.nodes M.splitters P) (tree : FrameTree M) (K : Links c.frames r.at (live M)) (e : c.head.numbers.nodes ≡ N)
      (w : ℕ) (busy : 0 < size c.deques w) (free : (acting_in c w).outstanding ≡ 0) where
    by_deque : (l : List Frame) → deque M w ≡ l → EndsUpward (acting_in c w).depth (end_at two_words (popped c w) (bottom c.deques w)) (acting_in c w).parent
    by_deque [] z = absurd (omega (arith, busy, size_same two_words r w, ap length z))
    by_deque (q ∷ d) z =
        let lt = there_is_worker M w (omega (arith, ap length z)) in
        let own = acting_record two_words r w q d lt z in
        let is = acting-frame two_words r w q d lt z in
        let childless : has_child q.name (live M) ≡ false =
        elim (decided (has_child q.name (live M))) [
          | inl t ↦ absurd (parent_count q.name (live M) t (sym own.outstanding ∙ sym (ap (λ (f : FrameRecord). f.outstanding) is) ∙ free))
          | inr t ↦ t
        ] in
        rw (is, acting-place two_words r w q d lt z, own.depth, own.parent) (ends_by two_words P Rising (λ x y u. tt) turn M c r laws tree K w q d lt z childless (same_nodes (popped c w) (r.at q.name) e))

    pub ends_upward : EndsUpward (acting_in c w).depth (end_at two_words (popped c w) (bottom c.deques w)) (acting_in c w).parent
    ends_upward = by_deque (deque M w) refl
