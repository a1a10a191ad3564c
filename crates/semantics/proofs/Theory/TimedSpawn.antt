-- R-7: a spawn costs 1. "A child's clock begins at its parent's after the spawn."
use Rattle.std.specs.Prelude.{◌≡◌, ◌≢◌, Bool, false, List, ℕ, suc, ◌*◌, ◌<◌, length, set}
use Rattle.std.proofs.Common.{sym, ap, ◌∙◌, subst, inl, inr, arith}
use mathlib.Core.List.Memᴰ
use mathlib.Core.List.Memᴰ.{cases_cons as In-cons}
use mathlib.Core.List.Memᴰ.{eq_of_singleton as In-one}
use mathlib.Core.List.Memᴰ.{map as In-map}
use mathlib.Core.List.{Memᴰ as In}
use Rattle.model.specs.Machine.{Name, Frame, Machine, live}
use Rattle.model.specs.Steps.{spawn, child}
use Rattle.model.specs.Clocks.{Clock, Clocks, clocks_moved}
use Rattle.model.specs.Clocks.{ticked as plainTicked}
use Rattle.model.proofs.Theory.Effects.{Acts}
use Rattle.model.proofs.Theory.FrameTree.{FrameTree}
use Rattle.model.proofs.Theory.ViewNames.{to_acted, child_acted, child_new}
use Rattle.model.proofs.Theory.PostOrder.{InPostOrder, post_nodup}
use Rattle.model.proofs.Theory.SettleClocks.{clock_names}
use Rattle.model.proofs.Theory.ClockNames.{clock_names-moved, in_moved}
use Rattle.semantics.specs.Core.{Core}
use Rattle.semantics.specs.Timing.{own_clock, child_clock, ticked, begun, Timing, costing}
use Rattle.semantics.proofs.Theory.Relation.{Trees, Relates, SamePlaces}
use Rattle.semantics.proofs.Theory.Places.{placed_inside, placed_apart}
use Rattle.semantics.proofs.Theory.ClockWords.{own_at, own_else, child_own, child_at_lem, child_else, own_child, long_set}
use Rattle.semantics.proofs.Theory.Timed.{Held, Timed, clock_kept}
use Rattle.semantics.proofs.Theory.TimedActions.{spent, lives, inside, apart, own_words}
use Rattle.soundness.specs.Layout.{Layout}

module _ (layout : Layout) where
  -- the words after a spawn of the frame at p, with the child at g
  module _ (ks : List ℕ) (n : ℕ) (long : length ks ≡ 2 * n) (p g : ℕ) (p_inside : p < n) (g_inside : g < n) where
    -- the parent's clock after it, which is the child's
    abbrev v : ℕ
    v = suc (own_clock ks p)

    abbrev with_own : List ℕ
    with_own = set (ticked ks p) (2 * g) v

    long_ticked : length (ticked ks p) ≡ 2 * n
    long_ticked = long_set ks n long (2 * p) v

    long_own : length with_own ≡ 2 * n
    long_own = long_set (ticked ks p) n long_ticked (2 * g) v

    long_begun : length (begun ks p g) ≡ 2 * n
    long_begun = long_set with_own n long_own (suc (2 * g)) 0

    child-words : (own_clock (begun ks p g) g ≡ v) × (child_clock (begun ks p g) g ≡ 0)
    child-words = (own_child with_own n long_own g 0 g ∙ own_at (ticked ks p) n long_ticked g v g_inside, child_at_lem with_own n long_own g 0 g_inside)

    -- at y, which is not the child's place
    beside : (y : ℕ) → y ≢ g → (own_clock (begun ks p g) y ≡ own_clock (ticked ks p) y) × (child_clock (begun ks p g) y ≡ child_clock ks y)
    beside y d = (
      own_child with_own n long_own g 0 y ∙ own_else (ticked ks p) n long_ticked g v y d,
      child_else with_own n long_own g 0 y d ∙ child_own (ticked ks p) n long_ticked g v y ∙ child_own ks n long p v y,
    )

    parent_words : p ≢ g → (own_clock (begun ks p g) p ≡ v) × (child_clock (begun ks p g) p ≡ child_clock ks p)
    parent_words d = let z = beside p d in (z.0 ∙ own_at ks n long p v p_inside, z.1)

    other_words : (y : ℕ) → y ≢ p → y ≢ g → (own_clock (begun ks p g) y ≡ own_clock ks y) × (child_clock (begun ks p g) y ≡ child_clock ks y)
    other_words y a b = let z = beside y b in (z.0 ∙ own_else ks n long p v y a, z.1)

  module _ {P P' : Trees} {M M' : Machine} {c c' : Core} (r : Relates layout P M c) (r' : Relates layout P' M' c') (S : SamePlaces layout r r') (same_length : length c'.frames ≡ length c.frames) (tree : FrameTree M) (C : Clocks) (t : Timing)
      (H : Timed layout r C t) (w : ℕ) (x : Acts M w spawn) (busy : Bool) (after : InPostOrder (live M') (clock_names (clocks_moved x.actor spawn busy C.clocks))) where
    abbrev q : Frame
    q = x.actor

    -- the child's name
    abbrev n' : Name
    n' = (child q).name

    abbrev p : ℕ
    p = r.at q.name

    abbrev g : ℕ
    g = c.head.numbers.free_place

    abbrev n : ℕ
    n = length c.frames

    abbrev ks : List ℕ
    ks = t.clocks

    abbrev ns : List Name
    ns = clock_names C.clocks

    abbrev cs' : List Clock
    cs' = clocks_moved q spawn busy C.clocks

    new : In n' ns → ⊥
    new = child_new M w spawn ns x tree H.ordered.names

    -- the frame of that name
    frame_of_lem : (m : Name) → In m (clock_names cs') → (f : Frame) × In f (live M') × (f.name ≡ m)
    frame_of_lem m i = after.names.alive m i

    child-frame : (f : Frame) × In f (live M') × (f.name ≡ n')
    child-frame = frame_of_lem n' (subst (λ (l : List Name). In n' l) (sym (clock_names-moved q spawn busy C.clocks)) (child_acted q ns (H.ordered.names.all q (lives layout r C t H w spawn x busy))))

    child-place : r'.at n' ≡ g
    child-place =
        let f = child-frame in
        ap r'.at (sym f.2) ∙ S.fresh f.0 f.1 (λ h m e. new (Memᴰ.cast (sym (e ∙ f.2)) (H.ordered.names.all h m)))

    g_inside : g < n
    g_inside = let f = child-frame in omega (arith, placed_inside layout r' f.0 f.1, same_length, ap r'.at f.2, child-place)

    -- no other frame is there
    not_there : (k : Clock) → In k C.clocks → r.at k.name ≢ g
    not_there k m e =
        let i = In-map (λ (u : Clock). u.name) m in
        let f = child-frame in
        let h = frame_of_lem k.name (subst (λ (l : List Name). In k.name l) (sym (clock_names-moved q spawn busy C.clocks)) (to_acted q spawn ns k.name i)) in
        placed_apart layout r' h.0 f.0 h.1 f.1 (λ d. new (Memᴰ.cast (sym (sym h.2 ∙ d ∙ f.2)) i)) (ap r'.at h.2 ∙ clock_kept layout r C t H r' S k m ∙ e ∙ sym child-place ∙ ap r'.at (sym f.2))

    -- the words of each clock
    abbrev Right : Clock → Type 0
    Right u = (own_clock (begun ks p g) (r'.at u.name) ≡ u.clock) × (child_clock (begun ks p g) (r'.at u.name) ≡ u.latest)

    at_place : (u : Clock) (y : ℕ) → r'.at u.name ≡ y → (own_clock (begun ks p g) y ≡ u.clock) × (child_clock (begun ks p g) y ≡ u.latest) → Right u
    at_place u y e z = (ap (own_clock (begun ks p g)) e ∙ z.0, ap (child_clock (begun ks p g)) e ∙ z.1)

    p_inside : p < n
    p_inside = inside layout r C t H w spawn x busy

    L : length ks ≡ 2 * n
    L = H.held.long

    -- of the clock k of q
    module _ (k : Clock) (m : In k C.clocks) (e : k.name ≡ q.name) where
      mine : (own_clock ks p ≡ k.clock) × (child_clock ks p ≡ k.latest)
      mine = own_words layout r C t H w spawn x busy k m e

      child-right : Right (record { name = n'; clock = suc k.clock; latest = 0; waits = false })
      child-right = let z = child-words ks n L p g p_inside g_inside in at_place (record { name = n'; clock = suc k.clock; latest = 0; waits = false }) g child-place (z.0 ∙ ap suc mine.0, z.1)

      parent_right : Right (plainTicked k)
      parent_right =
          let z = parent_words ks n L p g p_inside g_inside (λ d. not_there k m (ap r.at e ∙ d)) in
          at_place (plainTicked k) p (clock_kept layout r C t H r' S k m ∙ ap r.at e) (z.0 ∙ ap suc mine.0, z.1 ∙ mine.1)

    right : (u : Clock) → In u cs' → Right u
    right u i = elim (in_moved q spawn busy C.clocks (post_nodup ns H.ordered.post) u i) [
      | inl o ↦ (let z = other_words ks n L p g p_inside g_inside (r.at u.name) (apart layout r C t H w spawn x busy u o.0 o.1) (not_there u o.0) in
          at_place u (r.at u.name) (clock_kept layout r C t H r' S u o.0) (z.0 ∙ H.held.own u o.0, z.1 ∙ H.held.children u o.0))
      | inr o ↦ elim (In-cons o.3) [
        | inl e ↦ subst Right (sym e) (child-right o.0 o.1 o.2)
        | inr j ↦ subst Right (sym (In-one j)) (parent_right o.0 o.1 o.2)
      ]
    ]

    pub held_begun : Held r'.at (length c'.frames) (spent C cs') (costing t (begun ks p g))
    held_begun = record {
      own = λ u i. (right u i).0;
      children = λ u i. (right u i).1;
      long = omega (arith, long_begun ks n L p g p_inside g_inside, same_length);
      work = omega (arith, H.held.work);
      span = H.held.span;
    }
