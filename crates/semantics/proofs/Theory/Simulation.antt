-- One step of the engine is one step of the plain machine.
use Rattle.std.specs.Prelude.{◌≡◌, ◌⊎◌, Bool, List, [], ◌∷◌, ℕ, suc, ◌-◌}
use Rattle.std.proofs.Math.Path.{refl}
use Rattle.std.proofs.Common.{sym, ap, ◌∙◌, subst, inl, inr, arith}
use Rattle.words.specs.Tests.{decided}
use Rattle.model.specs.declared.Step.{Step}
use Rattle.model.specs.declared.Step.TheVariants.{Spawn, Return, Steal, Sync, Read, Write, Fold}
use Rattle.model.specs.Machine.{Machine, live, free_nodes}
use Rattle.model.specs.Steps.{spawn, return, sync, read, write, fold, acting, stealing, turn_of, refusal, after_turn, step, turn_answer, answer}
use Rattle.model.specs.Views.{Views, views_after}
use Rattle.model.proofs.Theory.ViewNames.{views_refused}
use Rattle.model.proofs.Theory.Effects.{Passes, acts}
use Rattle.model.proofs.Theory.RunSteps.{Accepted, Refused, accepted_or_refused}
use Rattle.model.proofs.Theory.FrameTree.{FrameTree}
use Rattle.model.proofs.Theory.DequeShape.{DequeInvariant}
use Rattle.model.proofs.Theory.FreshMarks.{MarkInvariant}
use Rattle.model.proofs.Theory.Bounds.{Bounded}
use Rattle.semantics.specs.declared.Refusal.{Refusal}
use Rattle.semantics.specs.Answers.{answer_words}
use Rattle.semantics.specs.Core.{Core, StepResult, judged, spawn_on, steal_on, sync_on, read_on, write_on, step_on, done_by, tests_of, fold_on}
use Rattle.semantics.proofs.Theory.Relation.{Trees, TreeLaws, Relates, Links, Keeps, SamePlaces}
use Rattle.semantics.proofs.Theory.SamePlaces.{keeps_places, spawns_places, turns_places, folds_places}
use Rattle.semantics.proofs.Theory.SimSpawn.{sim_spawn}
use Rattle.semantics.proofs.Theory.SimReturn.{sim_return}
use Rattle.semantics.proofs.Theory.SimRead.{sim_read}
use Rattle.semantics.proofs.Theory.SimWrite.{sim_write}
use Rattle.semantics.proofs.Theory.SimSteal.{sim_steal}
use Rattle.semantics.proofs.Theory.SimSync.{sim_sync}
use Rattle.semantics.proofs.Theory.SimFold.{fold-links, sim_fold}
use Rattle.semantics.proofs.Theory.LinksKept.{keeps_links, keeps_same}
use Rattle.semantics.proofs.Theory.LinksSpawn.{links-spawn}
use Rattle.semantics.proofs.Theory.EndsInTurn.{turns_links}
use Rattle.semantics.proofs.Theory.Viewed.{Viewed}
use Rattle.semantics.proofs.Theory.ViewsAfter.{views_spawn, views_fold, views_sync, views_read, views_write, views_steal, views_return}
use Rattle.semantics.proofs.Theory.ViewedKept.{viewed_keeps}
use Rattle.semantics.proofs.Theory.ViewedFold.{viewed_fold}
use Rattle.semantics.proofs.Theory.ViewedSpawn.{viewed_spawn}
use Rattle.semantics.proofs.Theory.ViewedTurns.{turns_viewed}
use Rattle.semantics.proofs.Theory.NumbersKept.{NumbersKept, returns_kept}
use Rattle.semantics.proofs.Theory.RelationFacts.{bottom-lives}
use Rattle.semantics.proofs.Theory.Refusals.{SameRoom, enough, step-judged, refused_alike}
use Rattle.soundness.specs.Layout.{Layout}

module _ (layout : Layout) where
  -- ---- what no step changes

  done_kept : (c : Core) (st : Step) → NumbersKept c (done_by layout c st).core
  unfolding spawn_on steal_on sync_on read_on write_on fold_on
  done_kept c (Spawn w) = record { workers = refl; splitters = refl; nodes = refl; height = refl }
  done_kept c (Return w) = returns_kept layout c w
  done_kept c (Steal w v) = record { workers = refl; splitters = refl; nodes = refl; height = refl }
  done_kept c (Sync w) = record { workers = refl; splitters = refl; nodes = refl; height = refl }
  done_kept c (Read w x) = record { workers = refl; splitters = refl; nodes = refl; height = refl }
  done_kept c (Write w x v) = record { workers = refl; splitters = refl; nodes = refl; height = refl }
  done_kept c (Fold w i x) = record { workers = refl; splitters = refl; nodes = refl; height = refl }

judged_kept : (ts : List (Bool × Refusal)) (c : Core) (d : StepResult) → NumbersKept c d.core → NumbersKept c (judged ts c d).core
judged_kept [] c d k = k
judged_kept (t ∷ ts) c d k = elim (decided t.0) [
  | inl s ↦ rw s (record { workers = refl; splitters = refl; nodes = refl; height = refl })
  | inr s ↦ rw s (judged_kept ts c d k)
]

module _ (layout : Layout) where
  pub numbers_kept : (c : Core) (st : Step) → NumbersKept c (step_on layout c st).core
  numbers_kept c st = rw (step-judged layout c st) (judged_kept (tests_of layout c st) c (done_by layout c st) (done_kept layout c st))

  -- ---- a step

  -- the answer words are the plain machine's, but for the free nodes that an accepted write answers: those are the engine's own
  pub record SameAnswers (M : Machine) (c : Core) (st : Step) : Type 0 where
    pub first : (answer_words (step_on layout c st).answer).0 ≡ (answer M st).0
    -- so both are, once the engine's number of free nodes is the plain machine's
    pub both : (step_on layout c st).core.head.free_count ≡ free_nodes (step M st) → answer_words (step_on layout c st).answer ≡ answer M st
    pub unless_written : (answer_words (step_on layout c st).answer ≡ answer M st)
        ⊎ ((w : ℕ) × (x : ℕ) × (v : ℕ) × (st ≡ Write w x v) × (refusal M st ≡ 0) × (answer_words (step_on layout c st).answer ≡ (106, (step_on layout c st).core.head.free_count)))

  -- R-5: from r to r' the links and the views beside the machine are carried on; W' are the views after the step, of W before it. R-7: the frames keep their places
  pub record CarriesOn {P : Trees} {M M' : Machine} {c c' : Core} (r : Relates layout P M c) (r' : Relates layout P M' c') (W' : Views → Views) : Type 0 where
    pub links : Links c.frames r.at (live M) → Links c'.frames r'.at (live M')
    pub viewed : (W : Views) → Viewed layout r W → Viewed layout r' (W' W)
    pub places : SamePlaces layout r r'

  pub record Simulates {P : Trees} {M : Machine} {c : Core} (r : Relates layout P M c) (st : Step) : Type 0 where
    pub related : Relates layout P (step M st) (step_on layout c st).core
    pub follows : CarriesOn r related (λ W. views_after M W st)
    pub answers : SameAnswers M c st

  abbrev pub SimulatesTurn : {P : Trees} {M : Machine} {c : Core} → Relates layout P M c → Step → Type 0
  SimulatesTurn {P} {M} {c} r st =
      (r' : Relates layout P (after_turn M (turn_of st)) (done_by layout c st).core) × CarriesOn r r' (λ W. views_after M W st) × (answer_words (done_by layout c st).answer ≡ turn_answer M (turn_of st))

  same-answers : (M : Machine) (c : Core) (st : Step) → answer_words (step_on layout c st).answer ≡ answer M st → SameAnswers M c st
  same-answers M c st e = record { first = ap (λ (z : ℕ × ℕ). z.0) e; both = λ k. e; unless_written = inl e }

  -- where no frame begins, ends or folds, the views are as they were
  carries_same : {P : Trees} {M M' : Machine} {c c' : Core} (r : Relates layout P M c) (r' : Relates layout P M' c') (W' : Views → Views) → Keeps layout r r' → ((W : Views) → Viewed layout r W → W' W ≡ W) → CarriesOn r r' W'
  carries_same r r' W' K e = record { links = keeps_links layout K; viewed = λ W H. subst (Viewed layout r') (sym (e W H)) (viewed_keeps layout K W H); places = keeps_places layout K }

  -- the same machine and core, said otherwise
  moved : {P : Trees} {M : Machine} {c : Core} (r : Relates layout P M c) (W' : Views → Views) {M₁ M₂ : Machine} {c₁ c₂ : Core} → M₂ ≡ M₁ → c₂ ≡ c₁ → (r' : Relates layout P M₁ c₁) × CarriesOn r r' W' → (r'' : Relates layout P M₂ c₂) × CarriesOn r r'' W'
  moved {P} r W' {M₁} {M₂} {c₁} {c₂} m e x =
      subst (λ (N : Machine). (r'' : Relates layout P N c₂) × CarriesOn r r'' W') (sym m) (subst (λ (d : Core). (r'' : Relates layout P M₁ d) × CarriesOn r r'' W') (sym e) x)

  module _ (P : Trees) (M : Machine) (c : Core) (r : Relates layout P M c) (K : Links c.frames r.at (live M)) (laws : TreeLaws layout c.head.numbers.nodes M.splitters P) (tree : FrameTree M) (shape : DequeInvariant M)
      (marks : MarkInvariant (live M)) (bounds : Bounded M.splitters M.places (live M)) where
    -- an accepted step but a write
    simulated : (st : Step) → Accepted M st → step_on layout c st ≡ done_by layout c st → SimulatesTurn r st → Simulates r st
    simulated st a e s =
        let x : (r' : Relates layout P (step M st) (step_on layout c st).core) × CarriesOn r r' (λ W. views_after M W st) = moved r (λ W. views_after M W st) a.after (ap (λ (o : StepResult). o.core) e) (s.0, s.1) in
        record {
          related = x.0;
          follows = x.1;
          answers = same-answers M c st (rw (a.answered, e) s.2);
        }

    write-answer : (w x v : ℕ) → Passes M (acting w (write x v)) → turn_answer M (acting w (write x v)) ≡ (106, free_nodes (after_turn M (acting w (write x v))))
    write-answer w x v h = rw (acts M w (write x v) h).at

    written : (w x v : ℕ) → SameRoom layout M c (Write w x v) → Accepted M (Write w x v) → step_on layout c (Write w x v) ≡ write_on layout c w x v → Simulates r (Write w x v)
    written w x v same a e =
        let s = sim_write layout P M c w x v laws marks bounds a.passes r (enough layout r w x v same a.passes) in
        let on : CarriesOn r s.0 (λ W. views_after M W (Write w x v)) = carries_same r s.0 (λ W. views_after M W (Write w x v)) s.1 (λ W H. views_write M W H.ordered.names w x v a.passes) in
        let y : (r' : Relates layout P (step M (Write w x v)) (step_on layout c (Write w x v)).core) × CarriesOn r r' (λ W. views_after M W (Write w x v)) = moved r (λ W. views_after M W (Write w x v)) a.after (ap (λ (o : StepResult). o.core) e) (s.0, on) in
        let told : answer M (Write w x v) ≡ (106, free_nodes (step M (Write w x v))) =
        a.answered ∙ write-answer w x v a.passes ∙ ap (λ (N : Machine). (106, free_nodes N)) (sym a.after) in
        let own : answer_words (step_on layout c (Write w x v)).answer ≡ (106, (step_on layout c (Write w x v)).core.head.free_count) = rw e s.2 in
        record {
          related = y.0;
          follows = y.1;
          answers = record {
            first = ap (λ (z : ℕ × ℕ). z.0) own ∙ sym (ap (λ (z : ℕ × ℕ). z.0) told);
            both = λ k. own ∙ ap (λ (z : ℕ). (106, z)) k ∙ sym told;
            unless_written = inr (w, x, v, refl, a.zero_refusal, own);
          };
        }

    turn_spawn : (w : ℕ) → Passes M (acting w spawn) → SimulatesTurn r (Spawn w)
    turn_spawn w h =
        let s = sim_spawn layout P M c w laws tree h r in (
          s.0,
          record {
            links = links-spawn layout r s.0 tree (acts M w spawn h).actor s.1;
            viewed = λ W H. subst (Viewed layout s.0) (sym (views_spawn M W H.ordered.names w h)) (viewed_spawn layout r s.0 tree (acts M w spawn h).actor s.1 W H);
            places = spawns_places layout s.1;
          },
          s.2,
        )

    turn_return : (w : ℕ) → Passes M (acting w return) → SimulatesTurn r (Return w)
    turn_return w h =
        let s = sim_return layout P M c w laws tree h r K in
        (s.0, record { links = turns_links layout s.1; viewed = λ W H. subst (Viewed layout s.0) (sym (views_return M W w h)) (turns_viewed layout s.1 K W H); places = turns_places layout s.1 }, s.2)

    turn_steal : (w v : ℕ) → Passes M (stealing w v) → SimulatesTurn r (Steal w v)
    turn_steal w v h = let s = sim_steal layout P M c w v laws h r in (s.0, carries_same r s.0 (λ W. views_after M W (Steal w v)) s.1 (λ W H. views_steal M W H.ordered.names w v h), s.2)

    turn_sync : (w : ℕ) → Passes M (acting w sync) → SimulatesTurn r (Sync w)
    turn_sync w h = let s = sim_sync layout P M c w laws h r in (s.0, carries_same r s.0 (λ W. views_after M W (Sync w)) s.1 (λ W H. views_sync M W H.ordered.names w h), s.2)

    turn_read : (w x : ℕ) → Passes M (acting w (read x)) → SimulatesTurn r (Read w x)
    turn_read w x h = let s = sim_read layout P M c w x h r in (s.0, carries_same r s.0 (λ W. views_after M W (Read w x)) s.1 (λ W H. views_read M W H.ordered.names w x h), s.2)

    turn_fold : (w i x : ℕ) → Passes M (acting w (fold i x)) → SimulatesTurn r (Fold w i x)
    turn_fold w i x h =
        let s = sim_fold layout P M c w i x h r in (
          s.0,
          record {
            links = fold-links layout s.1;
            viewed = λ W H. subst (Viewed layout s.0) (sym (views_fold M W H.ordered.names w i x h)) (viewed_fold layout r s.0 (acts M w (fold i x) h).actor i x s.1 (bottom-lives layout r w (acts M w (fold i x) h).actor (acts M w (fold i x) h).above (acts M w (fold i x) h).at) W H);
            places = folds_places layout s.1;
          },
          s.2,
        )

    accepts : (st : Step) → SameRoom layout M c st → Accepted M st → step_on layout c st ≡ done_by layout c st → Simulates r st
    accepts (Spawn w) same a e = simulated (Spawn w) a e (turn_spawn w a.passes)
    accepts (Return w) same a e = simulated (Return w) a e (turn_return w a.passes)
    accepts (Steal w v) same a e = simulated (Steal w v) a e (turn_steal w v a.passes)
    accepts (Sync w) same a e = simulated (Sync w) a e (turn_sync w a.passes)
    accepts (Read w x) same a e = simulated (Read w x) a e (turn_read w x a.passes)
    accepts (Write w x v) same a e = written w x v same a e
    accepts (Fold w i x) same a e = simulated (Fold w i x) a e (turn_fold w i x a.passes)

    refuses : (st : Step) → SameRoom layout M c st → Refused M st → (k : ℕ) → refusal M st ≡ suc k → Simulates r st
    refuses st same f k e =
        let o = (refused_alike layout r tree shape st same).1 k e in
        let y : (r' : Relates layout P (step M st) (step_on layout c st).core) × CarriesOn r r' (λ W. views_after M W st) =
        moved r (λ W. views_after M W st) f.after (ap (λ (x : StepResult). x.core) o.1) (r, carries_same r r (λ W. views_after M W st) (keeps_same layout r) (λ W H. views_refused M W st f)) in
        record {
          related = y.0;
          follows = y.1;
          answers = same-answers M c st (rw (f.answered, o.1) (ap (λ (z : ℕ). (z, 0)) (o.2 ∙ sym e)));
        }

    pub simulates : (st : Step) → SameRoom layout M c st → Simulates r st
    simulates st same = elim (accepted_or_refused M st) [
      | inl a ↦ accepts st same a ((refused_alike layout r tree shape st same).0 a.zero_refusal)
      | inr f ↦ refuses st same f (refusal M st - 1) (omega (arith, f.some-refusal))
    ]
