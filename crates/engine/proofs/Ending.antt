-- A return's ways out, and the turns of its ends upward, over plain variables.
use Rattle.std.specs.Prelude.{Ok}
use mathlib.Core.Path.{◌≡◌, refl, sym, ap, ◌∙◌, subst}
use mathlib.Core.Logic.{◌≢◌, inl, inr}
use mathlib.Core.Bool.{true, false, cond}
use mathlib.Core.List.{List}
use Prim.Native.Nat.{ℕ, suc, ◌-◌, ◌≤◌, ◌<◌}
use native.Mathlib.Omega.{arith}
use lib.Dec.{eqb}
use lib.ListN.{length}
use borrow.Author.Tests.{eq-eqb, ne_eqb}
use Rattle.words.specs.Basics.{none}
use Rattle.reducers.specs.Reducers.{view_words}
use Rattle.packed.specs.Pool.{release}
use Rattle.packed.specs.Links.{Released}
use Rattle.frames.specs.Widths.{max_workers, max_places}
use Rattle.frames.specs.declared.Frame.{Frame}
use Rattle.frames.specs.declared.Returned.{Returned}
use Rattle.frames.specs.declared.Returned.TheVariants.{Finished, Waiting}
use Rattle.frames.specs.Frames.{frame_at}
use Rattle.frames.specs.Deques.{size, bottom, pop}
use Rattle.frames.specs.Steps.{Table, end_frame, ends_too}
use Rattle.frames.proofs.Theory.Ends.{length_end}
use Rattle.frames.specs.Promises.{Waits, GoesOn}
use Rattle.model.specs.declared.Step.TheVariants.{Return}
use Rattle.semantics.specs.declared.Done.TheVariants.{Ended}
use Rattle.semantics.specs.Core.{Core, StepResult, step_result, with_table, with_free_nodes, with_free_place, acting_tests, returned, end_at, upward, end_bottom, return_on, step_on}
use Rattle.semantics.specs.Ranges.{EndsUpward}
use Rattle.engine.specs.Promises.{tested}
use Rattle.engine.specs.Run.{EndsFrom, ends_from}
use Rattle.engine.proofs.Steps.{kind_on, acting_passed}
use Rattle.soundness.specs.Layout.{two_words}

-- ---- one end, of the frame at place p in the core c, whose record is f

module _ (c : Core) (p : ℕ) (f : Frame) (e : f ≡ frame_at c.frames p) where
  pub end_done : (ts : List ℕ) (fs : List Frame) (ws : List ℕ) (node count : ℕ) → Released (release c.head.numbers.nodes c.head.height c.pool c.head.numbers.free_node c.head.free_count f.root) ws node count
      → fs ≡ end_frame c.frames c.head.numbers.free_place p → ts ≡ cond (eqb f.parent none) (view_words f.view) c.totals
      → ◌≡◌ {A = Core} (record { head = with_free_nodes (with_free_place c.head p) node count; totals = ts; deques = c.deques; frames = fs; pool = ws }) (end_at two_words c p)
  unfolding end_at
  end_done ts fs ws node count er ef et = rw (er.0, er.1, er.2, ef, et, e)

-- the totals stay if that frame has a parent
pub totals_stay : (c : Core) (p : ℕ) (f : Frame) → f ≡ frame_at c.frames p → (frame_at c.frames p).parent ≢ none → c.totals ≡ cond (eqb f.parent none) (view_words f.view) c.totals
totals_stay c p f e m = rw (ne_eqb f.parent none (λ y. m (sym (ap (λ (g : Frame). g.parent) e) ∙ y)))

-- ---- the ends from there, up to the core a: its parent is at place q

module _ (c : Core) (w n p : ℕ) (r : EndsFrom c w n p) where
  module _ (a : Core) (ea : a ≡ end_at two_words c p) where
    module _ (q : ℕ) (eq : q ≡ (frame_at c.frames p).parent) (z : n ≡ 1) where
      alone : size c.deques w ≡ 0
      alone = omega (arith, z, r.has)

      alone_after : size a.deques w ≡ 0
      unfolding end_at
      alone_after = ap (λ (b : Core). size b.deques w) ea ∙ alone

      ends_is : ends_from c w p ≡ upward two_words (frame_at c.frames p).depth a w q
      ends_is = rw (eq-eqb (size c.deques w) 0 alone, ea, eq)

      -- Main has ended
      pub finishes : q ≡ none → returned a Finished ≡ ends_from c w p
      unfolding upward
      finishes m =
          let flat : (frame_at c.frames p).depth ≡ 0 = elim r.can_end.frame.parent [ inl y ↦ absurd (omega (arith, m, eq, y.1, r.few_places)) | inr y ↦ y.0 ] in
          rw (ends_is, flat)

      module _ (m : q ≢ none) where
        deep : 0 < (frame_at c.frames p).depth
        deep = elim r.can_end.frame.parent [ inl y ↦ y.0 | inr y ↦ absurd (m (eq ∙ y.1)) ]

        depth_is : (frame_at c.frames p).depth ≡ suc ((frame_at c.frames p).depth - 1)
        depth_is = omega (arith, deep)

        -- what is known of the parent
        rises : EndsUpward (suc ((frame_at c.frames p).depth - 1)) a q
        rises =
            subst (λ (d : ℕ). EndsUpward d a q) depth_is
            (subst (λ (b : Core). EndsUpward (frame_at c.frames p).depth b q) (sym ea) (subst (λ (x : ℕ). EndsUpward (frame_at c.frames p).depth (end_at two_words c p) x) (sym eq) r.upward))

        pub parent_asks : q < length a.frames
        parent_asks = rises.0

        pub go_asks : (w < max_workers) × (q < length a.frames) × (size a.deques w ≡ 0)
        go_asks = (r.worker, parent_asks, alone_after)

        -- the parent ends too
        module _ (t : ends_too (frame_at a.frames q) ≡ true) where
          pub next_from : EndsFrom a w 1 q
          unfolding end_at
          next_from =
              let x = rises.1 t in
              record {
                worker = r.worker;
                has = sym (ap suc alone_after);
                alone = λ _. refl;
                few_places = subst (λ (k : ℕ). k ≤ max_places) (sym (ap (λ (b : Core). length b.frames) ea ∙ length_end c.frames c.head.numbers.free_place p)) r.few_places;
                can_end = x.0;
                upward = subst (λ (d : ℕ). EndsUpward d (end_at two_words a q) (frame_at a.frames q).parent) (sym x.1) x.2;
              }

          pub next_same : ends_from a w q ≡ ends_from c w p
          unfolding upward
          next_same = rw (ends_is, depth_is, t, eq-eqb (size a.deques w) 0 alone_after, (rises.1 t).1)

          -- and is nearer to Main
          pub nearer : (frame_at a.frames q).depth < (frame_at c.frames p).depth
          nearer = omega (arith, (rises.1 t).1, deep)

        -- it resumes, or the worker is idle
        pub stops : (ds : List ℕ) (fs : List Frame) (s : Returned) → ends_too (frame_at a.frames q) ≡ false → GoesOn a.deques a.frames w q ds fs s
            → returned (record a { deques = ds; frames = fs }) s ≡ ends_from c w p
        unfolding upward
        stops ds fs s t g = rw (ends_is, depth_is, t, ← g.after a.head.numbers.free_place, ← g.outcome a.head.numbers.free_place)

-- ---- the return

module _ (c : Core) (w : ℕ) (e : tested (acting_tests c w) ≡ Ok tt) (p k : ℕ) (ep : p ≡ bottom c.deques w) (ek : k ≡ (frame_at c.frames p).outstanding) where
  outstanding_is : (frame_at c.frames (bottom c.deques w)).outstanding ≡ k
  outstanding_is = sym (ek ∙ ap (λ (q : ℕ). (frame_at c.frames q).outstanding) ep)

  pub return_waits : (ds : List ℕ) (fs : List Frame) → k ≢ 0 → Waits c.deques c.frames w ds fs → step_result c.head c.totals ds fs c.pool (Ok (Ended Waiting)) ≡ step_on two_words c (Return w)
  unfolding return_on
  return_waits ds fs z y =
      let acts : step_result c.head c.totals ds fs c.pool (Ok (Ended Waiting)) ≡ kind_on c (Return w) =
      rw (ne_eqb (frame_at c.frames (bottom c.deques w)).outstanding 0 (λ x. z (sym outstanding_is ∙ x))) (ap (λ (t : Table). returned (with_table c t) Waiting) (y c.head.numbers.free_place)) in
      acts ∙ acting_passed c (Return w) w refl e

  pub return_ends : (ds : List ℕ) → k ≡ 0 → ds ≡ pop c.deques w → (d : StepResult) → d ≡ ends_from (record c { deques = ds }) w p → d ≡ step_on two_words c (Return w)
  unfolding return_on end_bottom end_at
  return_ends ds z u d ed =
      let same : ends_from (record c { deques = ds }) w p ≡ kind_on c (Return w) = rw (eq-eqb (frame_at c.frames (bottom c.deques w)).outstanding 0 (outstanding_is ∙ z), u, ep) in
      ed ∙ same ∙ acting_passed c (Return w) w refl e
