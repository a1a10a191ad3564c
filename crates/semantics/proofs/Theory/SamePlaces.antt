-- R-7: where the frames stand after each kind of step.
use Rattle.std.specs.Prelude.{◌≡◌, refl, ℕ}
use Rattle.std.proofs.Common.{ap, ◌∙◌, subst, inl, inr}
use mathlib.Core.List.{Memᴰ as In}
use Rattle.model.specs.Machine.{Name, Frame, Machine, live}
use Rattle.semantics.specs.Core.{Core}
use Rattle.semantics.proofs.Theory.Relation.{Trees, Relates, Keeps, SamePlaces}
use Rattle.semantics.proofs.Theory.LinksKept.{NamedIn}
use Rattle.semantics.proofs.Theory.SimSpawn.{Spawns}
use Rattle.semantics.proofs.Theory.SimFold.{Folds}
use Rattle.semantics.proofs.Theory.EndsInTurn.{EndsInTurn, stops, ends_then}
use Rattle.semantics.proofs.Theory.ViewedTurns.{turns_named}
use Rattle.soundness.specs.Layout.{Layout}

module _ (layout : Layout) where
  module _ {P : Trees} {M M' : Machine} {c c' : Core} {r : Relates layout P M c} {r' : Relates layout P M' c'} where
    -- no frame is new
    none_new : NamedIn (live M) (live M') → ((n : Name) → r'.at n ≡ r.at n) → SamePlaces layout r r'
    none_new from same = record { kept = λ f m. same f.name; fresh = λ f m new. let g = from f m in absurd (new g.0 g.1 g.2) }

    pub keeps_places : Keeps layout r r' → SamePlaces layout r r'
    keeps_places K = none_new K.from K.places

    pub folds_places : {q : Frame} {i x : ℕ} → Folds layout r r' q i x → SamePlaces layout r r'
    folds_places F = none_new (λ f m. (f, subst (λ (N : Machine). In f (live N)) F.same_machine m, refl)) F.places_kept

    pub spawns_places : {q : Frame} → Spawns layout r r' q → SamePlaces layout r r'
    spawns_places S = record {
      kept = S.places_kept;
      fresh = λ f m new. elim (S.from f m) [ inl e ↦ ap r'.at e ∙ S.child-place | inr g ↦ absurd (new g.0 g.1 g.2) ];
    }

  in_turn_places : {P : Trees} {M M' : Machine} {c c' : Core} {r : Relates layout P M c} {r' : Relates layout P M' c'} → EndsInTurn layout r r' → (n : Name) → r'.at n ≡ r.at n
  in_turn_places (stops K) n = K.places n
  in_turn_places (ends_then g R tree h E T) n = in_turn_places T n ∙ E.places n

  pub turns_places : {P : Trees} {M M' : Machine} {c c' : Core} {r : Relates layout P M c} {r' : Relates layout P M' c'} → EndsInTurn layout r r' → SamePlaces layout r r'
  turns_places T = none_new (turns_named layout T) (in_turn_places T)
