-- The links between siblings, where no frame begins and none ends.
use Rattle.std.specs.Prelude.{◌≡◌, refl, ◌&&◌, List, ℕ, length, eqb}
use Rattle.std.proofs.Common.{sym, ap, ap₂, ◌∙◌, subst}
use mathlib.Core.List.{Memᴰ as In}
use Rattle.frames.specs.declared.Frame.{Frame as FrameRecord}
use Rattle.frames.specs.Frames.{frame_at}
use Rattle.frames.specs.Siblings.{younger, Children}
use Rattle.frames.proofs.Theory.Relinked.{children-same}
use Rattle.model.specs.Machine.{Name, Frame, Machine, live}
use Rattle.semantics.specs.Core.{Core}
use Rattle.semantics.proofs.Theory.Relation.{Trees, Relates, Links, TotalsKept, Keeps}
use Rattle.soundness.specs.Layout.{Layout}

-- each frame of L' has the name of one of L
abbrev pub NamedIn : List Frame → List Frame → Type 0
NamedIn L L' = (f : Frame) → In f L' → (g : Frame) × In g L × (g.name ≡ f.name)

-- tables of one length, and no record's live, parent or younger word differs
module _ (fs gs : List FrameRecord) (same_length : length gs ≡ length fs) (same_live : (p : ℕ) → (frame_at gs p).live ≡ (frame_at fs p).live) (same_parent : (p : ℕ) → (frame_at gs p).parent ≡ (frame_at fs p).parent)
    (same-link : (p : ℕ) → younger gs p ≡ younger fs p) where
  pub children_kept : {q : ℕ} {cs : List ℕ} → Children fs q cs → Children gs q cs
  children_kept {q} {cs} C = children-same same_length (λ p b. (ap₂ (λ (x y : ℕ). eqb x 1 && eqb y q) (same_live p) (same_parent p), λ t. same-link p)) C

  pub links_kept : (at at' : Name → ℕ) (L L' : List Frame) → ((n : Name) → at' n ≡ at n) → NamedIn L L' → Links fs at L → Links gs at' L'
  links_kept at at' L L' places from K = record {
    children = λ f m.
        let x = from f m in
        let y = K.children x.0 x.1 in
        (y.0, children_kept (subst (λ (p : ℕ). Children fs p y.0) (ap at x.2 ∙ sym (places f.name)) y.1));
    main-link = λ f m e.
        let x = from f m in
        same-link (at' f.name) ∙ ap (younger fs) (places f.name ∙ ap at (sym x.2)) ∙ K.main-link x.0 x.1 (x.2 ∙ e);
  }

module _ (layout : Layout) where
  pub keeps_links : {P : Trees} {M M' : Machine} {c c' : Core} {r : Relates layout P M c} {r' : Relates layout P M' c'} → Keeps layout r r' → Links c.frames r.at (live M) → Links c'.frames r'.at (live M')
  keeps_links {M = M} {M' = M'} {c = c} {c' = c'} {r = r} {r' = r'} K = links_kept c.frames c'.frames K.same_length K.live K.parent K.link r.at r'.at (live M) (live M') K.places K.from

pub totals_kept : {ts : List ℕ} {L L' : List Frame} → NamedIn L L' → TotalsKept ts L → TotalsKept ts L'
totals_kept n K = record { long = K.long; zero = λ f m e. K.zero (n f m).0 (n f m).1 ((n f m).2 ∙ e) }

module _ (layout : Layout) where
  -- nothing changes
  pub keeps_same : {P : Trees} {M : Machine} {c : Core} (r : Relates layout P M c) → Keeps layout r r
  keeps_same r = record { same_length = refl; places = λ n. refl; live = λ p. refl; parent = λ p. refl; view = λ p. refl; link = λ p. refl; from = λ f m. (f, m, refl); to = λ f m. (f, m, refl); totals = refl }
