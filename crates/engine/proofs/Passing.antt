-- What the tests of a step and a ready core give to the calls after them.
use Rattle.std.specs.Prelude.{Ok}
use mathlib.Core.Path.{◌≡◌, refl, sym, ap, ◌∙◌, subst}
use mathlib.Core.Logic.{inl, inr}
use mathlib.Core.Bool.{Bool, true, false, not, ◌||◌}
use mathlib.Core.List.{List, [], ◌∷◌}
use Prim.Native.Nat.{ℕ, zero, suc, ◌-◌, ◌≤◌, ◌<◌}
use native.Mathlib.Omega.{arith}
use lib.Dec.{eqb, ltb}
use lib.ListN.{length}
use borrow.Author.Tests.{eqb-true}
use Rattle.words.specs.Basics.{none}
use Rattle.words.specs.Tests.{neither, not-false, lt_of, ge_of}
use Rattle.packed.specs.Pool.{first_shared, rest}
use Rattle.packed.specs.Links.{PathIn, IsShared, IsAlone, WriteIn}
use Rattle.packed.specs.declared.found.Shared.{Shared}
use Rattle.frames.specs.Widths.{max_workers, max_places, deque_places}
use Rattle.frames.specs.declared.Frame.{Frame}
use Rattle.frames.specs.Frames.{frame_at}
use Rattle.frames.specs.Deques.{size, bottom, top, pop}
use Rattle.frames.proofs.Theory.Sizes.{size-pop}
use Rattle.frames.specs.Ranges.{Acts, ParentOf, ParentCounts}
use Rattle.semantics.specs.declared.Refusal.{Refusal}
use Rattle.semantics.specs.declared.Refusal.TheVariants.{NoWorker, MainReturned, ThiefBusy, NoVictim}
use Rattle.semantics.specs.Core.{Core, steal_tests, all_idle, popped, end_at}
use Rattle.semantics.specs.Ranges.{EndsUpward, Ready}
use Rattle.engine.specs.declared.refusals.Acting.{Acting}
use Rattle.engine.specs.Promises.{tested}
use Rattle.engine.specs.Run.{IsActing, EndsFrom}
use Rattle.engine.proofs.Steps.{ok_not_err}
use Rattle.soundness.specs.Layout.{two_words}

-- what a sound core says of the frame at place p that worker w executes, its n-th
record ActsAt (c : Core) (w n p : ℕ) : Type 0 where
  pub worker : w < max_workers
  pub has : n ≡ size c.deques w
  pub busy : 0 < n
  pub most : n ≤ deque_places
  pub acting : p ≡ bottom c.deques w
  pub within : p < length c.frames
  pub room : c.head.numbers.free_place < length c.frames → n < deque_places
  pub root : (frame_at c.frames p).root < c.head.numbers.nodes
  pub parent : ParentOf c.frames p (frame_at c.frames p)
  pub counts : ParentCounts c.frames (frame_at c.frames p)
  pub upward : (frame_at c.frames p).outstanding ≡ 0 → EndsUpward (frame_at c.frames p).depth (end_at two_words (popped c w) p) (frame_at c.frames p).parent
  pub path : (x : ℕ) → x < c.head.numbers.splitters → PathIn c.head.numbers.nodes c.pool c.head.height (frame_at c.frames p).root x
  pub writes : (x : ℕ) → x < c.head.numbers.splitters → rest c.head.height c.pool (frame_at c.frames p).root x ≤ c.head.free_count
      → WriteIn c.head.numbers.nodes c.head.height c.pool c.head.numbers.free_node x (first_shared c.head.height c.pool (frame_at c.frames p).root (frame_at c.frames p).root x)

-- the frame that worker w executes, which refusals 8, 9 and 10 let pass, in a ready core
acts_at : (c : Core) (w : ℕ) (at : Acting) → Ready c → IsActing c w (Ok at) → ActsAt c w at.count at.place
unfolding bottom
acts_at c w at r ok =
    let a = ok.2 in
    let w8 : w < max_workers = omega (arith, ok.0, r.workers_le) in
    let some : 0 < size c.deques w = omega (arith, a.has, a.busy) in
    record {
      worker = w8;
      has = a.has;
      busy = a.busy;
      most = omega (arith, a.has, r.sizes w w8);
      acting = a.acting;
      within = subst (λ (k : ℕ). k < length c.frames) (sym a.acting) (r.held w (size c.deques w - 1) w8 (omega arith));
      room = λ h. omega (arith, a.has, r.room w w8 h);
      root = subst (λ (q : ℕ). (frame_at c.frames q).root < c.head.numbers.nodes) (sym a.acting) (r.root w w8 some);
      parent = subst (λ (q : ℕ). ParentOf c.frames q (frame_at c.frames q)) (sym a.acting) (r.parent w w8 some);
      counts = subst (λ (q : ℕ). ParentCounts c.frames (frame_at c.frames q)) (sym a.acting) (r.counts w w8 some);
      upward = λ z. subst (λ (q : ℕ). (frame_at c.frames q).outstanding ≡ 0 → EndsUpward (frame_at c.frames q).depth (end_at two_words (popped c w) q) (frame_at c.frames q).parent) (sym a.acting) (r.upward w w8 some) z;
      path = λ x lx. subst (λ (q : ℕ). PathIn c.head.numbers.nodes c.pool c.head.height (frame_at c.frames q).root x) (sym a.acting) (r.path w x w8 some lx);
      writes = λ x lx.
          subst (λ (q : ℕ). rest c.head.height c.pool (frame_at c.frames q).root x ≤ c.head.free_count →
          WriteIn c.head.numbers.nodes c.head.height c.pool c.head.numbers.free_node x (first_shared c.head.height c.pool (frame_at c.frames q).root (frame_at c.frames q).root x))
          (sym a.acting) (r.writes w x w8 some lx);
    }

just_one : (n : ℕ) → 0 < n → (1 < n → ⊥) → n ≡ 1
just_one zero l f = absurd (omega (arith, l))
just_one (suc zero) l f = refl
just_one (suc (suc k)) l f = absurd (f (omega arith))

module _ (c : Core) (w : ℕ) (at : Acting) (r : Ready c) (ok : IsActing c w (Ok at)) where
  abbrev n : ℕ
  n = at.count

  abbrev p : ℕ
  p = at.place

  a : ActsAt c w n p
  a = acts_at c w at r ok

  pub within : at.place < length c.frames
  within = a.within

  module _ (f : Frame) (ef : f ≡ frame_at c.frames p) where
    pub acts : Acts c.deques c.frames w at.count at.place f
    acts = record { long_deques = r.long_deques; worker = a.worker; has = a.has; some = a.busy; most = a.most; acting = a.acting; within = a.within; is = ef }

    pub spawn_asks : (c.head.numbers.free_place ≡ none → ⊥) → Acts c.deques c.frames w at.count at.place f × (at.count < deque_places) × (length c.frames ≤ max_places) × (c.head.numbers.free_place < length c.frames)
    spawn_asks o =
        let l : c.head.numbers.free_place < length c.frames = elim r.free_place_lem [ inl q ↦ q | inr q ↦ absurd (o q) ] in
        (acts, a.room l, r.few_places, l)

    -- Main has no frame above it
    top_alone : (frame_at c.frames p).parent ≡ none → n ≡ 1
    top_alone e = just_one n a.busy (λ l. r.below w a.worker (omega (arith, l, a.has)) (ap (λ (x : ℕ). (frame_at c.frames x).parent) (sym a.acting) ∙ e))

    -- once it has left its deque
    pub ends_asks : (ds : List ℕ) → ds ≡ pop c.deques w → f.outstanding ≡ 0 → EndsFrom (record c { deques = ds }) w at.count at.place
    unfolding end_at
    ends_asks ds e z =
        subst (λ (es : List ℕ). EndsFrom (record c { deques = es }) w n p) (sym e)
        (record {
          worker = a.worker;
          has = omega (arith, a.has, a.busy, size-pop c.deques w r.long_deques a.worker);
          alone = top_alone;
          few_places = r.few_places;
          can_end = record {
            room = r.pool_room;
            root = a.root;
            frame = record { within = a.within; up = refl; parent = a.parent; counts = a.counts };
          };
          upward = a.upward (sym (ap (λ (g : Frame). g.outstanding) ef) ∙ z);
        })

  -- ---- a write

  module _ (root : ℕ) (er : root ≡ (frame_at c.frames p).root) (x : ℕ) (l : x < c.head.numbers.splitters) where
    -- it meets nodes only
    writes_in : (first_shared c.head.height c.pool root root x).0 ≤ c.head.free_count
        → WriteIn c.head.numbers.nodes c.head.height c.pool c.head.numbers.free_node x (first_shared c.head.height c.pool root root x)
    unfolding rest
    writes_in enough =
        subst (λ (i : ℕ). rest c.head.height c.pool i x ≤ c.head.free_count → WriteIn c.head.numbers.nodes c.head.height c.pool c.head.numbers.free_node x (first_shared c.head.height c.pool i i x))
        (sym er) (a.writes x l) enough

    -- of the leaf, no node being shared
    pub leaf_asks : {leaf : ℕ} → IsAlone leaf (first_shared c.head.height c.pool root root x) → leaf < c.head.numbers.nodes
    leaf_asks e = omega (arith, e.found, (writes_in (omega (arith, e.rest))).node)

    pub write_asks : {s : Shared} → IsShared c.head.height s (first_shared c.head.height c.pool root root x) → s.level < c.head.free_count
        → (c.head.height ≤ 32) × (s.level < c.head.free_count)
        × IsShared c.head.height s (first_shared c.head.height c.pool root root x)
        × WriteIn c.head.numbers.nodes c.head.height c.pool c.head.numbers.free_node x (first_shared c.head.height c.pool root root x)
    write_asks e enough = (omega (arith, r.low), enough, e, writes_in (omega (arith, e.rest)))

-- ---- a steal: the thief is idle, and the victim has two frames

pass_four : (a b d e : Bool) (q r s t : Refusal) → Ok tt ≡ tested ((a, q) ∷ (b, r) ∷ (d, s) ∷ (e, t) ∷ []) → (a ≡ false) × (d ≡ false) × (e ≡ false)
pass_four true b d e q r s t u = absurd (ok_not_err u)
pass_four false true d e q r s t u = absurd (ok_not_err u)
pass_four false false true e q r s t u = absurd (ok_not_err u)
pass_four false false false true q r s t u = absurd (ok_not_err u)
pass_four false false false false q r s t u = (refl, refl, refl)

module _ (c : Core) (w v : ℕ) (ready : Ready c) (pass : Ok tt ≡ tested (steal_tests c w v)) where
  pub steal_asks : (w < max_workers) × (v < max_workers) × (size c.deques w ≡ 0) × (2 ≤ size c.deques v) × (size c.deques v ≤ deque_places)
  steal_asks =
      let n = c.head.numbers.workers in
      let t = pass_four (not (ltb w n)) (all_idle c) (not (eqb (size c.deques w) 0)) (not (ltb v n) || ltb (size c.deques v) 2) NoWorker MainReturned ThiefBusy NoVictim pass in
      let d = neither (not (ltb v n)) (ltb (size c.deques v) 2) t.2 in
      let lw : w < n = lt_of (not-false (ltb w n) t.0) in
      let lv : v < n = lt_of (not-false (ltb v n) d.0) in
      let w8 : w < max_workers = omega (arith, ready.workers_le) in
      let v8 : v < max_workers = omega (arith, ready.workers_le) in
      (w8, v8, eqb-true (size c.deques w) 0 (not-false (eqb (size c.deques w) 0) t.1), ge_of d.1, ready.sizes v v8)

  pub top_asks : (p : ℕ) → p ≡ top c.deques v → p < length c.frames
  unfolding top
  top_asks p e = subst (λ (k : ℕ). k < length c.frames) (sym e) (ready.held v 0 steal_asks.1 (omega (arith, steal_asks.3)))
