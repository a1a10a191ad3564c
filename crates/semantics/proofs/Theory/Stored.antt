-- One live frame's record is stored anew, but for its suspension, its tree and whether it is returning; the frame keeps its name, the other frames stay.
use Rattle.std.specs.Prelude.{◌≡◌, refl, ◌≢◌, ℕ, ◌<◌, length}
use Rattle.std.proofs.Common.{sym, ap, ◌∙◌, inl, inr, arith}
use mathlib.Core.List.Memᴰ.{cases_cons as In-cons}
use mathlib.Core.List.Memᴰ.{head as here}
use mathlib.Core.List.Memᴰ.{tail as there}
use mathlib.Core.List.{Memᴰ as In}
use mathlib.Core.List.Permᴰ
use mathlib.Core.List.{List, ◌∷◌, Permᴰ}
use Rattle.std.proofs.Math.Decide.{ℕ_discrete}
use Rattle.words.specs.Counting.{count}
use Rattle.words.specs.Lists.{In-perm}
use Rattle.frames.specs.declared.Frame.{Frame as FrameRecord}
use Rattle.frames.specs.Frames.{frame_at, free_record}
use Rattle.frames.specs.Siblings.{younger}
use Rattle.model.specs.Machine.{Name, Frame, Machine, live}
use Rattle.semantics.specs.Core.{Core}
use Rattle.semantics.proofs.Theory.Relation.{Trees, bit, child_count, places_of, root_of, roots_of, Recorded, TotalsKept, Relates, Keeps}
use Rattle.semantics.proofs.Theory.Places.{count_perm, child_count_perm, PlacedOnce, recorded_kept, placed_taken}
use Rattle.semantics.proofs.Theory.RelationFacts.{roots_same, stored, recorded_stored, places_apart}
use Rattle.semantics.proofs.Theory.LinksKept.{NamedIn, totals_kept}
use Rattle.soundness.specs.Layout.{Layout}

module _ (layout : Layout) where
  -- what is known then: q became q', the others are R; the record has suspension s and root t
  pub record Carried {P : Trees} {M : Machine} {c : Core} (r : Relates layout P M c) (M' : Machine) (fs' : List FrameRecord) (q q' : Frame) (R : List Frame) (s t : ℕ) : Type 0 where
    pub own_record : (u : ℕ) → Recorded c.frames r.at (live M) u q → Recorded fs' r.at (live M') s q'
    pub other_record : (u : ℕ) (f : Frame) → In f R → Recorded c.frames r.at (live M) u f → Recorded fs' r.at (live M') u f
    pub own_root : root_of fs' r.at q' ≡ t
    pub other_root : (f : Frame) → In f R → root_of fs' r.at f ≡ root_of c.frames r.at f
    pub other_roots : roots_of fs' r.at R ≡ roots_of c.frames r.at R
    pub once : PlacedOnce (length fs') r.at r.gs (live M')
    pub vacant : (p : ℕ) → p < length fs' → 0 < count p r.gs → (n : ℕ) × (frame_at fs' p ≡ free_record n)
    pub totals : TotalsKept c.totals (live M')
    -- what Keeps asks for
    pub same_length : length fs' ≡ length c.frames
    pub same_live : (p : ℕ) → (frame_at fs' p).live ≡ (frame_at c.frames p).live
    pub same_parent : (p : ℕ) → (frame_at fs' p).parent ≡ (frame_at c.frames p).parent
    pub same_view : (p : ℕ) → (frame_at fs' p).view ≡ (frame_at c.frames p).view
    pub same-link : (p : ℕ) → younger fs' p ≡ younger c.frames p
    pub from : NamedIn (live M) (live M')
    pub to : NamedIn (live M') (live M)

  module _ {P : Trees} {M : Machine} {c : Core} (r : Relates layout P M c) (M' : Machine) (fs' : List FrameRecord) (q q' : Frame) (R : List Frame) (s t b : ℕ) (named : q'.name ≡ q.name) (mark : b ≡ bit q'.returning)
      (long : length fs' ≡ length c.frames) (before : Permᴰ (live M) (q ∷ R)) (after : Permᴰ (q' ∷ R) (live M'))
      (at_q : frame_at fs' (r.at q.name) ≡ stored (frame_at c.frames (r.at q.name)) s t b)
      (elsewhere : (p : ℕ) → p ≢ r.at q.name → frame_at fs' p ≡ frame_at c.frames p) where
    apart : (f : Frame) → In f R → frame_at fs' (r.at f.name) ≡ frame_at c.frames (r.at f.name)
    apart f m = elsewhere (r.at f.name) (places_apart layout r before f m)

    same-children : (p : Name) → child_count p (live M) ≡ child_count p (live M')
    same-children p =
        child_count_perm p before
        ∙ ap (λ (z : Name). child_count p (record { name = z; values = q.values; history = q.history; spawned = q.spawned; returning = q.returning } ∷ R)) (sym named)
        ∙ child_count_perm p after

    same_places : (p : ℕ) → count p (places_of r.at (live M)) ≡ count p (places_of r.at (live M'))
    same_places p =
        count_perm p (Permᴰ.map (λ (f : Frame). r.at f.name) before)
        ∙ ap (λ (z : Name). count p (r.at z ∷ places_of r.at R)) (sym named)
        ∙ count_perm p (Permᴰ.map (λ (f : Frame). r.at f.name) after)

    still_free : (p : ℕ) → p < length fs' → 0 < count p r.gs → (n : ℕ) × (frame_at fs' p ≡ free_record n)
    still_free p h g =
        let x = r.vacant p (omega (arith, long, h)) g in
        (x.0, elsewhere p (λ e. omega (arith, g, ap (λ (z : ℕ). count z r.gs) e, placed_taken layout r q (In-perm (Permᴰ.symm before) (here refl)))) ∙ x.1)

    same_word : {A : Type 0} (word : FrameRecord → A) → ((F : FrameRecord) → word (stored F s t b) ≡ word F) → (p : ℕ) → word (frame_at fs' p) ≡ word (frame_at c.frames p)
    same_word word h p = elim (ℕ_discrete p (r.at q.name)) [
      | yes e ↦ ap (λ (z : ℕ). word (frame_at fs' z)) e ∙ ap word at_q ∙ h (frame_at c.frames (r.at q.name)) ∙ ap (λ (z : ℕ). word (frame_at c.frames z)) (sym e)
      | no e ↦ ap word (elsewhere p e)
    ]

    named_in : NamedIn (live M) (live M')
    named_in f m = elim (In-cons (In-perm (Permᴰ.symm after) m)) [
      | inl e ↦ (q, In-perm (Permᴰ.symm before) (here refl), sym named ∙ ap (λ (z : Frame). z.name) (sym e))
      | inr i ↦ (f, In-perm (Permᴰ.symm before) (there i), refl)
    ]

    named_back : NamedIn (live M') (live M)
    named_back f m = elim (In-cons (In-perm before m)) [
      | inl e ↦ (q', In-perm after (here refl), named ∙ ap (λ (z : Frame). z.name) (sym e))
      | inr i ↦ (f, In-perm after (there i), refl)
    ]

    pub carried : Carried r M' fs' q q' R s t
    carried = record {
      own_record = λ u k. recorded_stored fs' (live M') s t b q' long named mark at_q (same-children q.name) k;
      other_record = λ u f m k. recorded_kept c.frames fs' r.at r.at (live M) (live M') u f long refl (apart f m) refl (sym (same-children f.name)) k;
      own_root = ap (λ (z : Name). (frame_at fs' (r.at z)).root) named ∙ ap (λ (z : FrameRecord). z.root) at_q;
      other_root = λ f m. ap (λ (z : FrameRecord). z.root) (apart f m);
      other_roots = roots_same c.frames fs' r.at R (λ f m. ap (λ (z : FrameRecord). z.root) (apart f m));
      once = λ p h. omega (arith, r.once p (omega (arith, long, h)), same_places p);
      vacant = still_free;
      totals = totals_kept named_in r.totals;
      same_length = long;
      same_live = same_word (λ (F : FrameRecord). F.live) (λ F. refl);
      same_parent = same_word (λ (F : FrameRecord). F.parent) (λ F. refl);
      same_view = same_word (λ (F : FrameRecord). F.view) (λ F. refl);
      same-link = same_word (λ (F : FrameRecord). F.younger) (λ F. refl);
      from = named_in;
      to = named_back;
    }

  -- the relation afterwards has the frames at the same places, in the frames fs'
  pub keeps_stored : {P : Trees} {M : Machine} {c : Core} (r : Relates layout P M c) {M' : Machine} {c' : Core} (r' : Relates layout P M' c') {q q' : Frame} {R : List Frame} {s t : ℕ} → ((n : Name) → r'.at n ≡ r.at n) → c'.totals ≡ c.totals
      → Carried r M' c'.frames q q' R s t → Keeps layout r r'
  keeps_stored r r' e t C = record { same_length = C.same_length; places = e; live = C.same_live; parent = C.same_parent; view = C.same_view; link = C.same-link; from = C.from; to = C.to; totals = t }
