-- R-7: the ends of a return, one after the other, beside clock words that are still those before it.
use Rattle.std.specs.Prelude.{◌≡◌, refl, ◌≢◌, true, false, cond, ℕ, suc, ◌+◌, ◌<◌, max, length}
use Rattle.std.proofs.Common.{sym, ap, ◌∙◌, subst, inl, inr, arith}
use mathlib.Core.List.Memᴰ.{append_cases as In-cases}
use mathlib.Core.List.Memᴰ.{append_left as In-left}
use mathlib.Core.List.Memᴰ.{append_right as In-right}
use mathlib.Core.List.Memᴰ.{head as here}
use mathlib.Core.List.Memᴰ.{tail as there}
use mathlib.Core.List.{Memᴰ as In}
use mathlib.Core.List.Permᴰ
use mathlib.Core.List.{List, [], ◌∷◌, Permᴰ}
use Rattle.words.specs.Basics.{joined}
use Rattle.words.specs.Tests.{decided}
use Rattle.words.specs.Lists.{In-perm}
use Rattle.words.specs.Counting.{hit, miss}
use Rattle.model.specs.Machine.{Name, Frame, Machine, live, is_child, has_frame}
use Rattle.model.specs.Clocks.{Clock, Final, final_clock, settle}
use Rattle.model.proofs.Theory.FrameTree.{FrameTree}
use Rattle.model.proofs.Theory.Outcomes.{Above}
use Rattle.model.proofs.Theory.PostOrder.{InPostOrder, post_left}
use Rattle.model.proofs.Theory.Siblings.{of_child}
use Rattle.model.proofs.Theory.SettleClocks.{clock_names, clock_names_settled, heard-child, heard_other}
use Rattle.model.proofs.Theory.AtSync.{AtSync}
use Rattle.semantics.specs.Timing.{own_clock, child_clock}
use Rattle.semantics.proofs.Theory.Relation.{child_count}
use Rattle.semantics.proofs.Theory.Places.{child_count_perm}
use Rattle.semantics.proofs.Theory.ClocksLeft.{OneEnds}

-- before the end of g: M and the clocks cs are left of M₀, perhaps after ends below g; the words ks are those of M₀. Only g may have heard an end
pub record Standing (M₀ : Machine) (at : Name → ℕ) (ks : List ℕ) (g : Frame) (M : Machine) (cs : List Clock) : Type 0 where
  pub tree : FrameTree M
  pub ordered : InPostOrder (live M) (clock_names cs)
  pub at_sync : AtSync M cs
  pub running : (f : Frame) → In f (joined M.deques) → In f (joined M₀.deques)
  pub waiting : (f : Frame) → In f M.suspended → In f M₀.suspended
  -- the children of the frames above g are as before
  pub counts : (p : Name) → length p < length g.name → child_count p (live M₀) ≡ child_count p (live M)
  pub own : (k : Clock) → In k cs → own_clock ks (at k.name) ≡ k.clock
  pub children : (k : Clock) → In k cs → k.name ≢ g.name → child_clock ks (at k.name) ≡ k.latest

-- after the end, at the time e, of a frame of this name, which lived in M₀: only its parent has heard an end that the words do not have
pub record Rising (M₀ : Machine) (at : Name → ℕ) (ks : List ℕ) (n : Name) (e : ℕ) (M : Machine) (cs : List Clock) : Type 0 where
  pub lived : (f : Frame) × In f (live M₀) × (f.name ≡ n)
  pub above : Above (live M) n
  pub tree : FrameTree M
  pub ordered : InPostOrder (live M) (clock_names cs)
  pub at_sync : AtSync M cs
  pub running : (f : Frame) → In f (joined M.deques) → In f (joined M₀.deques)
  pub waiting : (f : Frame) → In f M.suspended → In f M₀.suspended
  pub counts : (p : Name) → suc (length p) < length n → child_count p (live M₀) ≡ child_count p (live M)
  pub one_less : (p : Name) → is_child p n ≡ true → child_count p (live M₀) ≡ suc (child_count p (live M))
  pub own : (k : Clock) → In k cs → own_clock ks (at k.name) ≡ k.clock
  pub children : (k : Clock) → In k cs → is_child k.name n ≡ false → child_clock ks (at k.name) ≡ k.latest
  pub parent : (k : Clock) → In k cs → is_child k.name n ≡ true → max (child_clock ks (at k.name)) e ≡ k.latest

-- g leaves M, and M' is left
pub record Departs (g : Frame) (M M' : Machine) : Type 0 where
  pub before : Permᴰ (live M) (g ∷ live M')
  pub tree : FrameTree M'
  pub above : Above (live M') g.name
  pub running : (f : Frame) → In f (joined M'.deques) → In f (joined M.deques)
  pub waiting : (f : Frame) → In f M'.suspended → In f M.suspended
  -- a frame that waits at its sync stays
  pub at_sync : (f : Frame) → In f M.suspended → f.returning ≡ false → In f M'.suspended

module _ (M₀ : Machine) (at : Name → ℕ) (ks : List ℕ) (g : Frame) (M M' : Machine) (cs : List Clock) (S : Standing M₀ at ks g M cs) (D : Departs g M M') (X : OneEnds (live M') g cs) where
  abbrev e : ℕ
  e = final_clock X.clock

  abbrev cs' : List Clock
  cs' = (settle (live M') [] cs).0

  abbrev final : List Final
  final = (g.name, e) ∷ []

  lives : In g (live M)
  lives = In-perm (Permᴰ.symm D.before) (here refl)

  old : (f : Frame) → In f (live M) → In f (live M₀)
  old f m = elim (In-cases M.suspended m) [ inl i ↦ In-left (joined M₀.deques) (S.waiting f i) | inr i ↦ In-right M₀.suspended (S.running f i) ]

  counts_with : (p : Name) → child_count p (live M) ≡ cond (is_child p g.name) 1 0 + child_count p (live M')
  counts_with p = child_count_perm p D.before

  -- a frame has one child less, its name being shorter
  one_less_after : (p : Name) → is_child p g.name ≡ true → child_count p (live M₀) ≡ suc (child_count p (live M'))
  one_less_after p t =
      let j = of_child p g.name t in
      omega (arith, S.counts p (omega (arith, ap length j.1)), counts_with p, hit t)

  counts_after : (p : Name) → suc (length p) < length g.name → child_count p (live M₀) ≡ child_count p (live M')
  counts_after p b = elim (decided (is_child p g.name)) [
    | inl t ↦ absurd (omega (arith, b, ap length (of_child p g.name t).1))
    | inr t ↦ omega (arith, S.counts p (omega (arith, b)), counts_with p, miss t)
  ]

  ordered_after : InPostOrder (live M') (clock_names cs')
  ordered_after = subst (InPostOrder (live M')) (sym (clock_names_settled (λ n. has_frame n (live M')) [] cs))
      (post_left (live M') (clock_names cs) D.tree.rooted (λ f m. S.ordered.names.all f (In-perm (Permᴰ.symm D.before) (there m))) S.ordered.post)

  -- a clock that is left has its name, its own clock and whether it waits
  at_sync-after : AtSync M' cs'
  at_sync-after = record {
    suspended = λ u m t.
        let x = X.left u m in
        let f = S.at_sync.suspended x.0 x.1 (ap (λ (k : Clock). k.waits) (sym x.3) ∙ t) in
        (f.0, D.at_sync f.0 f.1 f.3, f.2 ∙ ap (λ (k : Clock). k.name) (sym x.3), f.3);
    waits = λ u m f i z b.
        let x = X.left u m in
        ap (λ (k : Clock). k.waits) x.3 ∙ S.at_sync.waits x.0 x.1 f (D.waiting f i) (z ∙ ap (λ (k : Clock). k.name) x.3) b;
  }

  own_after : (u : Clock) → In u cs' → own_clock ks (at u.name) ≡ u.clock
  own_after u m = let x = X.left u m in ap (λ (k : Clock). own_clock ks (at k.name)) x.3 ∙ S.own x.0 x.1 ∙ ap (λ (k : Clock). k.clock) (sym x.3)

  -- the child word of the clock that u was
  word_after : (u : Clock) (m : In u cs') → child_clock ks (at u.name) ≡ (X.left u m).0.latest
  word_after u m = let x = X.left u m in ap (λ (k : Clock). child_clock ks (at k.name)) x.3 ∙ S.children x.0 x.1 x.2

  children-after : (u : Clock) → In u cs' → is_child u.name g.name ≡ false → child_clock ks (at u.name) ≡ u.latest
  children-after u m t =
      let x = X.left u m in
      let d : is_child x.0.name g.name ≡ false = ap (λ (k : Clock). is_child k.name g.name) (sym x.3) ∙ t in
      word_after u m ∙ ap (λ (k : Clock). k.latest) (sym (x.3 ∙ heard_other g.name e x.0 d))

  parent_after : (u : Clock) → In u cs' → is_child u.name g.name ≡ true → max (child_clock ks (at u.name)) e ≡ u.latest
  parent_after u m t =
      let x = X.left u m in
      let d : is_child x.0.name g.name ≡ true = ap (λ (k : Clock). is_child k.name g.name) (sym x.3) ∙ t in
      ap (λ (l : ℕ). max l e) (word_after u m) ∙ ap (λ (k : Clock). k.latest) (sym (x.3 ∙ heard-child g.name e x.0 d))

  pub rising : Rising M₀ at ks g.name e M' cs'
  rising = record {
    lived = (g, old g lives, refl);
    above = D.above;
    tree = D.tree;
    ordered = ordered_after;
    at_sync = at_sync-after;
    running = λ f m. S.running f (D.running f m);
    waiting = λ f m. S.waiting f (D.waiting f m);
    counts = counts_after;
    one_less = one_less_after;
    own = own_after;
    children = children-after;
    parent = parent_after;
  }
