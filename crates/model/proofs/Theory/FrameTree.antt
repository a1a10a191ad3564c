-- Every live frame but Main has a live parent, and no two live frames own a name.
use Rattle.std.specs.Prelude.{◌≡◌, refl, ◌≢◌, ◌⊎◌, false, ℕ}
use Rattle.std.proofs.Common.{sym, ap, ◌∙◌, subst, inl, inr}
use mathlib.Core.List.Memᴰ.{append_cases as In-cases}
use mathlib.Core.List.Memᴰ.{append_left as In-left}
use mathlib.Core.List.Memᴰ.{append_right as In-right}
use mathlib.Core.List.Memᴰ.{cases_cons as In-cons}
use mathlib.Core.List.Memᴰ.{eq_of_singleton as In-one}
use mathlib.Core.List.Memᴰ.{head as here}
use mathlib.Core.List.Memᴰ.{not-nil as not-in-nil}
use mathlib.Core.List.Memᴰ.{tail as there}
use mathlib.Core.List.{Memᴰ as In}
use mathlib.Core.List.Permᴰ
use mathlib.Core.List.{List, [], ◌∷◌, ◌++◌, nil≢cons, tail-eq_of_cons-eq, Permᴰ}
use Rattle.words.specs.Tests.{true≢false}
use Rattle.words.specs.Lists.{In-perm}
use Rattle.model.specs.declared.Step.{Step}
use Rattle.model.specs.Machine.{Name, Frame, Machine, live, start, has_child}
use Rattle.model.specs.Steps.{Action, spawn, return, sync, read, write, fold, Turn, after_spawn, after_turn, step}
use Rattle.model.proofs.Theory.LiveRun.{successors, successor, Ends, Disjoint, disjoint_perm, disjoint_acted}
use Rattle.model.proofs.Theory.Children.{In-hasChild}
use Rattle.model.proofs.Theory.Effects.{Passes, live-start}
use Rattle.model.proofs.Theory.RunSteps.{live_kept, step_kept}

-- every frame but Main has its parent in the list
abbrev pub Rooted : List Frame → Type 0
Rooted L = (f : Frame) → In f L → (k : ℕ) (p : Name) → f.name ≡ k ∷ p → (g : Frame) × In g L × (g.name ≡ p)

pub rooted_perm : {L L' : List Frame} → Permᴰ L L' → Rooted L → Rooted L'
rooted_perm p r f m k q e = let x = r f (In-perm (Permᴰ.symm p) m) k q e in (x.0, In-perm p x.1, x.2)

-- ---- a step of q

module _ (q : Frame) (a : Action) (R : List Frame) (rooted : Rooted (q ∷ R)) where
  -- a frame is there after the step, under its name
  stays : (g : Frame) → In g (q ∷ R) → (h : Frame) × In h (successors q a ++ R) × (h.name ≡ g.name)
  stays g m = let h = successor q a in elim (In-cons m) [ inl d ↦ (h.frame, In-left R h.new, h.named ∙ ap (λ z. z.name) (sym d)) | inr i ↦ (g, In-right (successors q a) i, refl) ]

  parent_stays : (f : Frame) → In f (q ∷ R) → (k : ℕ) (p : Name) → f.name ≡ k ∷ p → (h : Frame) × In h (successors q a ++ R) × (h.name ≡ p)
  parent_stays f m k p e =
      let x = rooted f m k p e in
      let y = stays x.0 x.1 in
      (y.0, y.1, y.2 ∙ x.2)

new_parent : (q : Frame) (a : Action) (R : List Frame) (f : Frame) → In f (successors q a) → (k : ℕ) (p : Name) → f.name ≡ k ∷ p
    → ((h : Frame) × In h (successors q a ++ R) × (h.name ≡ p)) ⊎ (q.name ≡ k ∷ p)
new_parent q spawn R f (here d) k p e = inl (after_spawn q, there (here refl), tail-eq_of_cons-eq (ap (λ z. z.name) (sym d) ∙ e))
new_parent q spawn R f (there (here d)) k p e = inr (ap (λ z. z.name) (sym d) ∙ e)
new_parent q return R f (here d) k p e = inr (ap (λ z. z.name) (sym d) ∙ e)
new_parent q sync R f (here d) k p e = inr (ap (λ z. z.name) (sym d) ∙ e)
new_parent q (read x) R f (here d) k p e = inr (ap (λ z. z.name) (sym d) ∙ e)
new_parent q (fold x y) R f (here d) k p e = inr (ap (λ z. z.name) (sym d) ∙ e)
new_parent q (write x v) R f (here d) k p e = inr (ap (λ z. z.name) (sym d) ∙ e)
new_parent q spawn R f (there (there x11)) k p e = elim x11 [ ]
new_parent q return R f (there x7) k p e = elim x7 [ ]
new_parent q sync R f (there x8) k p e = elim x8 [ ]
new_parent q (read x) R f (there x10) k p e = elim x10 [ ]
new_parent q (write x v) R f (there x11) k p e = elim x11 [ ]
new_parent q (fold x y) R f (there x12) k p e = elim x12 [ ]

rooted_acted : (q : Frame) (a : Action) (R : List Frame) → Rooted (q ∷ R) → Rooted (successors q a ++ R)
rooted_acted q a R r f m k p e =
    elim (In-cases (successors q a) m) [
      | inl i ↦ elim (new_parent q a R f i k p e) [ inl x ↦ x | inr eq ↦ parent_stays q a R r q (here refl) k p eq ]
      | inr i ↦ parent_stays q a R r f (there i) k p e
    ]

-- a frame without a live child is no parent
pub rooted_without : (q : Frame) (R : List Frame) → has_child q.name (q ∷ R) ≡ false → Rooted (q ∷ R) → Rooted R
rooted_without q R e r f m k p n =
    let x = r f (there m) k p n in
    elim (In-cons x.1) [ inl d ↦ absurd (true≢false (sym (In-hasChild k q.name (there {x = q} m) (n ∙ ap (λ z. k ∷ z) (sym x.2 ∙ ap (λ z. z.name) d))) ∙ e)) | inr i ↦ (x.0, i, x.2) ]

-- nor is a frame that ends
pub rooted_dropped : (q : Frame) (R : List Frame) → Ends q R → Rooted (q ∷ R) → Rooted R
rooted_dropped q R e r = rooted_without q R e.1 r

-- ---- the machine keeps it

-- the live frames are a tree with Main at its root, and no two of them own a name
pub record FrameTree (M : Machine) : Type 0 where
  pub disjoint : Disjoint (live M)
  pub rooted : Rooted (live M)

pub tree_turn : (M : Machine) (t : Turn) → Passes M t → FrameTree M → FrameTree (after_turn M t)
tree_turn M t h i = record {
  disjoint = live_kept Disjoint M (λ L L'. disjoint_perm) (λ q a R p ok c. disjoint_acted q a R c) (λ q R e c. c.1) t h i.disjoint;
  rooted = live_kept Rooted M (λ L L'. rooted_perm) (λ q a R p ok r. rooted_acted q a R r) rooted_dropped t h i.rooted;
}

pub tree-step : (M : Machine) (s : Step) → FrameTree M → FrameTree (step M s)
tree-step M = step_kept FrameTree M (tree_turn M)

pub tree-start : (w : ℕ) (vs : List ℕ) (nodes places : ℕ) → FrameTree (start w vs nodes places)
tree-start w vs nodes places = record {
  disjoint = subst Disjoint (sym (live-start w vs nodes places)) ((λ g m r o o'. not-in-nil m), tt);
  rooted = subst Rooted (sym (live-start w vs nodes places)) (λ f m k p e. absurd (nil≢cons (ap (λ z. z.name) (sym (In-one m)) ∙ e)));
}

-- ---- so names are unique, and Main lives while a frame does

pub names_apart : (f g : Frame) (L : List Frame) → Disjoint (f ∷ L) → In g L → f.name ≢ g.name
names_apart f g L c m e = c.0 g m f.name (inl refl) (inl e)

pub main-lives : (L : List Frame) → Rooted L → (r : Name) (f : Frame) → In f L → f.name ≡ r → (m : Frame) × In m L × (m.name ≡ [])
main-lives L rooted [] f m e = (f, m, e)
main-lives L rooted (k ∷ p) f m e = let x = rooted f m k p e in main-lives L rooted p x.0 x.1 x.2
