-- R-7: the relation between the clocks beside the plain machine and the clock words beside the engine's run: a frame's two words, at its place, are its
-- own clock and the latest of its ended children's; work and span are the same.
use Rattle.std.specs.Prelude.{◌≡◌, ℕ, ◌*◌, length}
use Rattle.std.proofs.Common.{sym, ap, ◌∙◌, subst, arith}
use mathlib.Core.List.Memᴰ.{map as In-map}
use mathlib.Core.List.{Memᴰ as In}
use Rattle.model.specs.Machine.{Name, Frame, Machine, live}
use Rattle.model.specs.Clocks.{Clock, Clocks}
use Rattle.model.proofs.Theory.PostOrder.{InPostOrder}
use Rattle.model.proofs.Theory.SettleClocks.{clock_names}
use Rattle.model.proofs.Theory.AtSync.{AtSync}
use Rattle.semantics.specs.Core.{Core}
use Rattle.semantics.specs.Timing.{own_clock, child_clock, Timing}
use Rattle.semantics.proofs.Theory.Relation.{Trees, Relates, SamePlaces}
use Rattle.soundness.specs.Layout.{Layout}

-- `at` gives the frames' places in a table of n
pub record Held (at : Name → ℕ) (n : ℕ) (C : Clocks) (t : Timing) : Type 0 where
  pub own : (k : Clock) → In k C.clocks → own_clock t.clocks (at k.name) ≡ k.clock
  pub children : (k : Clock) → In k C.clocks → child_clock t.clocks (at k.name) ≡ k.latest
  pub long : length t.clocks ≡ 2 * n
  pub work : t.work ≡ C.work
  pub span : t.span ≡ C.span

module _ (layout : Layout) where
  pub record Timed {P : Trees} {M : Machine} {c : Core} (r : Relates layout P M c) (C : Clocks) (t : Timing) : Type 0 where
    pub ordered : InPostOrder (live M) (clock_names C.clocks)
    pub at_sync : AtSync M C.clocks
    pub held : Held r.at (length c.frames) C t
    -- 0 before Main's return
    pub quiet : (f : Frame) → In f (live M) → C.span ≡ 0

-- the same clocks and words, said otherwise
pub held_of : (at : Name → ℕ) (n : ℕ) {C C' : Clocks} {t t' : Timing} → C' ≡ C → t' ≡ t → Held at n C t → Held at n C' t'
held_of at n {C} {C'} {t} {t'} e d H = subst (λ (Z : Clocks). Held at n Z t') (sym e) (subst (Held at n C) (sym d) H)

-- the clocks' frames stand at the same places
pub held_as : (at at' : Name → ℕ) (n n' : ℕ) (C : Clocks) (t : Timing) → ((k : Clock) → In k C.clocks → at' k.name ≡ at k.name) → n' ≡ n → Held at n C t → Held at' n' C t
held_as at at' n n' C t same e H = record {
  own = λ k m. ap (own_clock t.clocks) (same k m) ∙ H.own k m;
  children = λ k m. ap (child_clock t.clocks) (same k m) ∙ H.children k m;
  long = omega (arith, H.long, e);
  work = H.work;
  span = H.span;
}

module _ (layout : Layout) where
  module _ {P : Trees} {M : Machine} {c : Core} (r : Relates layout P M c) (C : Clocks) (t : Timing) (H : Timed layout r C t) where
    -- each clock's frame lives
    pub clock_frame : (k : Clock) → In k C.clocks → (f : Frame) × In f (live M) × (f.name ≡ k.name)
    clock_frame k m = H.ordered.names.alive k.name (In-map (λ (u : Clock). u.name) m)

    -- it keeps its place
    pub clock_kept : {P' : Trees} {M' : Machine} {c' : Core} (r' : Relates layout P' M' c') → SamePlaces layout r r' → (k : Clock) → In k C.clocks → r'.at k.name ≡ r.at k.name
    clock_kept r' S k m = let f = clock_frame k m in ap r'.at (sym f.2) ∙ S.kept f.0 f.1 ∙ ap r.at f.2
