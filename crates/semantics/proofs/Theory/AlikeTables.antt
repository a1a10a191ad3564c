-- Only views and links of live frames are stored: the relation stays.
use Rattle.std.specs.Prelude.{◌≡◌, refl, ◌≢◌, List, ℕ}
use Rattle.std.proofs.Common.{sym, ap, ◌∙◌, subst, arith}
use Rattle.sizes.specs.Sizes.{height}
use Rattle.frames.specs.declared.Frame.{Frame as FrameRecord}
use Rattle.frames.specs.Frames.{frame_at, free_record}
use Rattle.frames.proofs.Theory.Alike.{Alike, formed_alike}
use Rattle.model.specs.Machine.{Name, Frame, Machine, live}
use Rattle.semantics.specs.Core.{Core}
use Rattle.semantics.proofs.Theory.Relation.{Trees, root_of, Recorded, Relates}
use Rattle.semantics.proofs.Theory.Places.{same_numbers}
use Rattle.semantics.proofs.Theory.RelationFacts.{roots_same}
use Rattle.soundness.specs.Layout.{Layout}

-- the core with another frame table
abbrev pub with_frame_table : Core → List FrameRecord → Core
with_frame_table c fs = record { head = c.head; totals = c.totals; deques = c.deques; frames = fs; pool = c.pool }

pub recorded_alike : {fs fs' : List FrameRecord} {at : Name → ℕ} {L : List Frame} {s : ℕ} {f : Frame} → Alike fs fs' → Recorded fs at L s f → Recorded fs' at L s f
recorded_alike {at = at} {f = f} a R =
    let S = a.same (at f.name) in
    record {
      inside = omega (arith, a.same_length, R.inside);
      live = S.live ∙ R.live;
      parent = S.parent ∙ R.parent;
      depth = S.depth ∙ R.depth;
      outstanding = S.outstanding ∙ R.outstanding;
      suspended = S.suspended ∙ R.suspended;
      returning = S.returning ∙ R.returning;
    }

module _ (layout : Layout) where
  module _ {P : Trees} {M : Machine} {c : Core} (r : Relates layout P M c) (fs' : List FrameRecord) (a : Alike c.frames fs') where
    pub same_root : (f : Frame) → root_of fs' r.at f ≡ root_of c.frames r.at f
    same_root f = (a.same (r.at f.name)).root

    pub not_live : (p n : ℕ) → frame_at c.frames p ≡ free_record n → (frame_at c.frames p).live ≢ 1
    not_live p n e l = omega (arith, l, ap (λ (F : FrameRecord). F.live) e)

    abbrev pub relates_alike : Relates layout P M (with_frame_table c fs')
    relates_alike = record {
      at = r.at;
      gs = r.gs;
      numbers = same_numbers M c (with_frame_table c fs') M.deques M.suspended refl r.numbers refl refl refl refl refl a.same_length;
      formed = formed_alike r.formed a;
      deques = r.deques;
      running = λ f m. recorded_alike a (r.running f m);
      waiting = λ f m. recorded_alike a (r.waiting f m);
      once = λ p b. r.once p (omega (arith, a.same_length, b));
      vacant = λ p b h. let x = r.vacant p (omega (arith, a.same_length, b)) h in (x.0, a.rest p (not_live p x.0 x.1) ∙ x.1);
      totals = r.totals;
      trees = subst (P c.pool c.head.numbers.free_node c.head.free_count) (sym (roots_same c.frames fs' r.at (live M) (λ f m. same_root f))) r.trees;
      values = λ f m x b. ap (λ (z : ℕ). layout.read (height M.splitters) c.pool z x) (same_root f) ∙ r.values f m x b;
    }
