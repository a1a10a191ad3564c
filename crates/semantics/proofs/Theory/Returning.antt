-- What a return answers, and the words beyond the nodes.
use Rattle.std.specs.Prelude.{◌≡◌, refl, true, false, length, eqb, Ok}
use Rattle.std.proofs.Common.{sym, ◌∙◌, eq-eqb, ne_eqb}
use Rattle.std.proofs.Math.Path.{ap, subst}
use Rattle.std.proofs.Math.Logic.{inl, inr}
use mathlib.Core.List.Memᴰ.{head as here}
use mathlib.Core.List.Memᴰ.{tail as there}
use mathlib.Core.List.{Memᴰ as In}
use mathlib.Core.List.Permᴰ
use mathlib.Core.List.{List, ◌∷◌, Permᴰ}
use Prim.Native.Nat.{ℕ, zero, suc, ◌≤◌, ◌<◌}
use Rattle.words.specs.Tests.{decided}
use Rattle.sizes.specs.Sizes.{height}
use Rattle.frames.specs.declared.Frame.{Frame as FrameRecord}
use Rattle.frames.specs.declared.Returned.{Returned}
use Rattle.frames.specs.declared.Returned.TheVariants.{Continued, Finished, Waiting}
use Rattle.frames.specs.Frames.{frame_at}
use Rattle.frames.specs.Deques.{size, bottom, pop}
use Rattle.frames.specs.Steps.{ends_too, went_on}
use Rattle.model.specs.Machine.{Frame, Machine, live, deque, has_child}
use Rattle.model.proofs.Theory.FrameTree.{FrameTree}
use Rattle.semantics.specs.declared.Done.TheVariants.{Ended}
use Rattle.semantics.specs.Core.{Core, table_of, acting_in, upward, end_at, popped, end_bottom, return_on}
use Rattle.semantics.proofs.Theory.Relation.{Trees, TreeLaws, parent_place, child_count, root_of, roots_of, Relates, Links}
use Rattle.semantics.proofs.Theory.Places.{tree_of, childless_count, recorded, acting-place, acting-frame, acting_record}
use Rattle.semantics.proofs.Theory.RelationFacts.{trees_perm, parent_count, bottom-lives}
use Rattle.semantics.proofs.Theory.SimReturn.{ends_by}
use Rattle.semantics.proofs.Theory.Pools.{Beyond}
use Rattle.soundness.specs.Layout.{Layout}
use Rattle.semantics.proofs.Theory.Pools.{PoolLaws}

module _ (layout : Layout) where
  -- ---- a return is accepted, with an outcome

  upward-answers : (d : ℕ) (c : Core) (w q : ℕ) → (o : Returned) × ((upward layout d c w q).answer ≡ Ok (Ended o))
  unfolding upward
  upward-answers zero c w q = (Finished, refl)
  upward-answers (suc d) c w q =
      elim (decided (ends_too (frame_at c.frames q))) [
        | inl e ↦ rw e (upward-answers d (end_at layout c q) w (frame_at c.frames q).parent)
        | inr e ↦ rw e (went_on (table_of c) q, refl)
      ]

  bottom-answers : (c : Core) (w : ℕ) → (o : Returned) × ((end_bottom layout c w).answer ≡ Ok (Ended o))
  unfolding end_bottom
  bottom-answers c w =
      let c' : Core = end_at layout (popped c w) (bottom c.deques w) in
      elim (decided (eqb (size c'.deques w) 0)) [
        | inl e ↦ rw e (upward-answers (acting_in c w).depth c' w (acting_in c w).parent)
        | inr e ↦ rw e (Continued, refl)
      ]

  pub return_answers : (c : Core) (w : ℕ) → (o : Returned) × ((return_on layout c w).answer ≡ Ok (Ended o))
  unfolding return_on
  return_answers c w =
      elim (decided (eqb (acting_in c w).outstanding 0)) [
        | inl e ↦ rw e (bottom-answers c w)
        | inr e ↦ rw e (Waiting, refl)
      ]

-- ---- one live frame in front

pub front : {f : Frame} {L : List Frame} → In f L → (R : List Frame) × Permᴰ L (f ∷ R)
front {f} (here {x = y} {xs = l} e) = (l, Permᴰ.cons (sym e) (Permᴰ.refl l))
front {f} (there {x = y} {xs = l} m) = let r = front m in (y ∷ r.0, Permᴰ.trans (Permᴰ.cons refl r.1) (Permᴰ.swap refl refl))

module _ (layout : Layout) (pools : PoolLaws layout) where
  -- ---- the words beyond the nodes, of a pool of live trees

  module _ (N n : ℕ) (most : N ≤ 16384) (some : 1 ≤ n) where
    abbrev P : Trees
    P = pools.LiveTrees N n

    end_beyond : (M : Machine) (c : Core) (r : Relates layout P M c) → c.head.numbers.nodes ≡ N → c.head.height ≡ height n → (g : Frame) → In g (live M) → Beyond layout N c.pool (end_at layout c (r.at g.name)).pool
    unfolding end_at
    end_beyond M c r z e g m =
        let R = front m in
        let t : P c.pool c.head.numbers.free_node c.head.free_count (roots_of c.frames r.at (g ∷ R.0)) = trees_perm layout c.frames r.at (pools.live_laws N n most some) R.1 r.trees in
        subst (λ (k : ℕ). Beyond layout N c.pool (layout.release k c.head.height c.pool c.head.numbers.free_node c.head.free_count (root_of c.frames r.at g)).0) (sym z)
        (subst (λ (h : ℕ). Beyond layout N c.pool (layout.release N h c.pool c.head.numbers.free_node c.head.free_count (root_of c.frames r.at g)).0) (sym e)
        (pools.return_beyond N n most some c.pool c.head.numbers.free_node c.head.free_count (tree_of c.frames r.at g) (roots_of c.frames r.at R.0) t))

    abbrev Rest : ℕ → Core → ℕ → Type 0
    Rest d c q = c.head.numbers.nodes ≡ N → c.head.height ≡ height n → (w : ℕ) → Beyond layout N c.pool (upward layout d c w q).core.pool

    stop : (c : Core) (q : ℕ) → Rest 0 c q
    unfolding upward
    stop c q z e w = (refl, refl)

    turn : (M : Machine) (c : Core) (r : Relates layout P M c) → TreeLaws layout c.head.numbers.nodes M.splitters P → FrameTree M → (g : Frame) → In g (live M)
        → (ends_too (frame_at c.frames (r.at g.name)) ≡ true → Rest (length g.name) (end_at layout c (r.at g.name)) (parent_place r.at g.name))
        → Rest (suc (length g.name)) c (r.at g.name)
    unfolding upward end_at
    turn M c r laws tree g m next k e w =
        let F = frame_at c.frames (r.at g.name) in
        elim (decided (ends_too F)) [
          | inl t ↦ (let x = end_beyond M c r k e g m in let y = next t k e w in rw t (subst (λ (z : ℕ). Beyond layout N c.pool (upward layout (length g.name) (end_at layout c (r.at g.name)) w z).core.pool) (sym (recorded layout r g m).1.parent) (y.0 ∙ x.0, y.1 ∙ x.1)))
          | inr t ↦ rw t (refl, refl)
        ]

    module _ (M : Machine) (c : Core) (r : Relates layout P M c) (laws : TreeLaws layout c.head.numbers.nodes M.splitters P) (tree : FrameTree M) (K : Links c.frames r.at (live M)) (z : c.head.numbers.nodes ≡ N) (e : c.head.height ≡ height n)
        (w : ℕ) (q : Frame) (d : List Frame) (lt : w < length M.deques) (at : deque M w ≡ q ∷ d) where
      abbrev c₁ : Core
      c₁ = end_at layout (popped c w) (r.at q.name)

      first_beyond : Beyond layout N c.pool c₁.pool
      unfolding end_at
      first_beyond = end_beyond M c r z e q (bottom-lives layout r w q d at)

      ends_beyond : has_child q.name (live M) ≡ false → Beyond layout N c.pool (end_bottom layout c w).core.pool
      unfolding end_bottom end_at
      ends_beyond h =
          let own = acting_record layout r w q d lt at in
          elim (decided (eqb (size (pop c.deques w) w) 0)) [
            | inl t ↦ (let y = ends_by layout P Rest stop turn M c r laws tree K w q d lt at h z e w in
                rw (t, acting-place layout r w q d lt at, own.depth)
                (subst (λ (p : ℕ). Beyond layout N c.pool (upward layout (length q.name) c₁ w p).core.pool) (sym own.parent) (y.0 ∙ first_beyond.0, y.1 ∙ first_beyond.1)))
            | inr t ↦ rw (t, acting-place layout r w q d lt at) first_beyond
          ]

      pub return_keeps_beyond : Beyond layout N c.pool (return_on layout c w).core.pool
      unfolding return_on
      return_keeps_beyond =
          let own = acting_record layout r w q d lt at in
          let is : (acting_in c w).outstanding ≡ child_count q.name (live M) = ap (λ (f : FrameRecord). f.outstanding) (acting-frame layout r w q d lt at) ∙ own.outstanding in
          elim (decided (has_child q.name (live M))) [
            | inl h ↦ rw (ne_eqb (acting_in c w).outstanding 0 (λ y. parent_count q.name (live M) h (sym is ∙ y))) (refl, refl)
            | inr h ↦ rw (eq-eqb (acting_in c w).outstanding 0 (is ∙ childless_count q.name (live M) h)) (ends_beyond h)
          ]
