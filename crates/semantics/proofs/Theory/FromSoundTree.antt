-- The frames of a sound state, as the plain machine has them: a tree of frames, deques of the right shape.
use Rattle.std.specs.Prelude.{◌≡◌, refl, ◌≢◌, Bool, true, cond, length}
use Rattle.std.proofs.Common.{sym, ap₂, ◌∙◌, arith}
use Rattle.std.proofs.Math.Path.{ap, subst}
use mathlib.Core.List.Memᴰ
use mathlib.Core.List.Memᴰ.{head as here}
use mathlib.Core.List.Memᴰ.{map as In-map}
use mathlib.Core.List.Memᴰ.{of_map as In-unmap}
use mathlib.Core.List.Memᴰ.{tail as there}
use mathlib.Core.List.{Memᴰ as In}
use mathlib.Core.List.{List, [], ◌∷◌, map, nil≢cons, tail-eq_of_cons-eq}
use Prim.Native.Nat.{ℕ, zero, suc, ◌+◌, ◌≤◌, ◌<◌}
use Rattle.words.specs.Basics.{count}
use Rattle.words.specs.Counting.{δ_same, count_cons, how_many-some}
use Rattle.frames.specs.declared.Frame.{Frame as FrameRecord}
use Rattle.frames.specs.Frames.{frame_at}
use Rattle.frames.specs.Deques.{size, place, deque_list, places_to}
use Rattle.soundness.specs.Soundness.{children}
use Rattle.soundness.specs.Soundness.{is_child as isChildAt}
use Rattle.pool.specs.Theory.Sharing.{roots_of as treeRoots}
use Rattle.model.specs.Machine.{Name, Frame, has_child}
use Rattle.model.proofs.Theory.LiveRun.{Owns, Disjoint}
use Rattle.model.proofs.Theory.FrameTree.{Rooted as RootedFrames}
use Rattle.model.proofs.Theory.DequeShape.{Linked, OnlyChild, nothing, DequeShape}
use Rattle.model.proofs.Theory.Children.{In-hasChild}
use Rattle.semantics.proofs.Theory.Relation.{child_count, places_of, roots_of}
use Rattle.soundness.proofs.Theory.Sentences.{Lives, FramesFacts, child_at_lem}
use Rattle.semantics.specs.SoundMachine.{name_of, place_of, frame_of, frames_of}
use Rattle.semantics.proofs.Theory.FromSoundNames.{Rooted, owns-same, name_main, name_child, place_name, name_injective, small_name, child_name, name_of_child, child_test}
use Rattle.semantics.proofs.Theory.FromSoundPlaces.{In-count, total}
use Rattle.soundness.specs.Layout.{Layout}

-- every place of the list is a live frame's
abbrev pub AllLive : List FrameRecord → List ℕ → Type 0
AllLive fs L = (p : ℕ) → In p L → (p < length fs) × Lives fs p

-- every live frame's place is in the list
abbrev pub AllThere : List FrameRecord → List ℕ → Type 0
AllThere fs L = (p : ℕ) → p < length fs → Lives fs p → In p L

module _ (layout : Layout) where
  module _ (n : ℕ) (fs : List FrameRecord) (ws : List ℕ) (R : Rooted fs) where
    -- ---- a list of live places

    pub places_frames : (L : List ℕ) → AllLive fs L → places_of (place_of R.main) (frames_of layout n fs ws L) ≡ L
    places_frames [] h = refl
    places_frames (p ∷ L) h = (let l = h p (here refl) in ap₂ ◌∷◌ (place_name fs R p l.0 l.1) (places_frames L (λ q m. h q (there m))))

    pub roots_frames : (L : List ℕ) → AllLive fs L → treeRoots (roots_of fs (place_of R.main) (frames_of layout n fs ws L)) ≡ map (λ p. (frame_at fs p).root) L
    roots_frames [] h = refl
    roots_frames (p ∷ L) h = (let l = h p (here refl) in ap₂ ◌∷◌ (ap (λ q. (frame_at fs q).root) (place_name fs R p l.0 l.1)) (roots_frames L (λ q m. h q (there m))))

    pub children-frames : (L : List ℕ) → AllLive fs L → (p : ℕ) → p < length fs → Lives fs p → child_count (name_of fs p) (frames_of layout n fs ws L) ≡ total (λ q. cond (isChildAt fs p q) 1 0) L
    children-frames [] h p b l = refl
    children-frames (q ∷ L) h p b l =
        let k = h q (here refl) in
        ap₂ ◌+◌ (ap (λ (t : Bool). cond t 1 0) (child_test fs R p q b k.0 l k.1)) (children-frames L (λ r m. h r (there m)) p b l)

    pub disjoint_frames : (L : List ℕ) → AllLive fs L → ((p : ℕ) → p < length fs → count p L ≤ 1) → Disjoint (frames_of layout n fs ws L)
    disjoint_frames [] h o = tt
    disjoint_frames (p ∷ L) h o = (
      (λ g m r a b.
          let x = In-unmap (frame_of layout n fs ws) L m in
          let k = h p (here refl) in
          let j = h x.0 (there x.1) in
          let e = owns-same (length fs) (name_of fs p) (name_of fs x.0) r (small_name fs R p k.0 k.1) (small_name fs R x.0 j.0 j.1) a (subst (λ f. Owns f r) (sym x.2) b) in
          let i = In-count L (Memᴰ.cast (name_injective fs R p x.0 k.0 j.0 k.1 j.1 e) x.1) in
          omega (arith, o p k.0, count_cons p p L, δ_same p)),
      disjoint_frames L (λ q m. h q (there m)) (λ q b. omega (arith, o q b, count_cons q p L)),
    )

    -- ---- the list of all live places

    module _ (L : List ℕ) (all_live : AllLive fs L) (All-there : AllThere fs L) where
      pub rooted_frames : RootedFrames (frames_of layout n fs ws L)
      rooted_frames f m k r e =
          let x = In-unmap (frame_of layout n fs ws) L m in
          let l = all_live x.0 x.1 in
          let d : name_of fs x.0 ≡ k ∷ r = ap (λ (g : Frame). g.name) x.2 ∙ e in
          let z : (frame_at fs x.0).depth ≢ 0 = (λ z. nil≢cons (sym (name_main fs x.0 z) ∙ d)) in
          let h = R.deep x.0 l.0 l.1 z in (
            frame_of layout n fs ws (frame_at fs x.0).parent,
            In-map (frame_of layout n fs ws) (All-there (frame_at fs x.0).parent h.0 h.1),
            tail-eq_of_cons-eq (sym (name_child fs R x.0 l.0 l.1 z) ∙ d),
          )

      -- "suspended with a live child"
      pub waits_frames : (p : ℕ) → p < length fs → 0 < children fs p → has_child (name_of fs p) (frames_of layout n fs ws L) ≡ true
      waits_frames p b c =
          let q = how_many-some (length fs) (isChildAt fs p) c in
          let k = child_at_lem fs p q.0 q.2 in
          In-hasChild (suc q.0) (name_of fs p) (In-map (frame_of layout n fs ws) (All-there q.0 q.1 k.0)) (name_of_child fs R p q.0 b q.1 k.0 k.1)

      -- ---- a deque

      module _ {workers first : ℕ} {ds : List ℕ} (F : FramesFacts workers first ds fs) (w : ℕ) (b : w < 8) where
        linked-frames : (m : ℕ) → m ≤ size ds w → Linked (frames_of layout n fs ws (places_to m ds w))
        unfolding places_to
        linked-frames zero h = tt
        linked-frames (suc zero) h = tt
        linked-frames (suc (suc m)) h =
            let c = F.hold_live_lem w b (suc m) (omega arith) in
            let p = F.hold_live_lem w b m (omega arith) in
            ((suc (place ds w (suc m)), name_of_child fs R (place ds w m) (place ds w (suc m)) p.0 c.0 c.1 (F.child_of_above w b m (omega arith))), linked-frames (suc m) (omega arith))

        -- the children of the frame at place k + 1 of the deque, if there is one
        only_frames : (m : ℕ) (P : Name → Type 0) → m ≤ size ds w → (m < size ds w → P (name_of fs (place ds w m))) → OnlyChild (frames_of layout n fs ws L) P (frames_of layout n fs ws (places_to m ds w))
        unfolding places_to
        only_frames zero P h t = tt
        only_frames (suc zero) P h t = tt
        only_frames (suc (suc m)) P h t = (
          (λ c i k e.
              let x = In-unmap (frame_of layout n fs ws) L i in
              let l = all_live x.0 x.1 in
              let g = F.hold_live_lem w b (suc m) (omega arith) in
              let d : name_of fs x.0 ≡ k ∷ name_of fs (place ds w (suc m)) = ap (λ (f : Frame). f.name) x.2 ∙ e in
              let o = F.only_below w b m (omega arith) x.0 l.0 l.1 (child_name fs R (place ds w (suc m)) x.0 k g.0 l.0 g.1 l.1 d) in
              subst P (ap (name_of fs) (sym o.1) ∙ ap (λ (f : Frame). f.name) x.2) (t o.0)),
          only_frames (suc m) (λ r. r ≡ name_of fs (place ds w (suc m))) (omega arith) (λ _. refl),
        )

        pub shape_frames : DequeShape (frames_of layout n fs ws L) (frames_of layout n fs ws (deque_list ds w))
        unfolding deque_list
        shape_frames = (linked-frames (size ds w) (omega arith), only_frames (size ds w) nothing (omega arith) (λ h. omega arith))
