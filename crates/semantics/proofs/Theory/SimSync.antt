-- A sync: "with no live child the bottom frame passes, outcome 0. Else it is suspended, its worker goes idle, outcome 1".
use Rattle.std.specs.Prelude.{◌≡◌, refl, true, false, List, ◌∷◌, ℕ, ◌<◌, length}
use Rattle.std.proofs.Common.{sym, ◌∙◌, subst}
use Rattle.std.proofs.Math.Logic.{inl, inr}
use Rattle.words.specs.Tests.{decided}
use Rattle.frames.specs.declared.Synced.TheVariants.{Passed, Suspended}
use Rattle.frames.specs.Frames.{frame_at}
use Rattle.frames.specs.Steps.{sync as syncTable, synced}
use Rattle.frames.specs.Steps.{suspend as suspendTable}
use Rattle.frames.proofs.Theory.Summary.{sync_passes as passes, sync_waits as waits}
use Rattle.model.specs.Machine.{Frame, Machine, live, deque, has_child}
use Rattle.model.specs.Steps.{sync, acting, after_turn, turn_answer}
use Rattle.model.proofs.Theory.Effects.{Passes, acts}
use Rattle.semantics.specs.Answers.{answer_words}
use Rattle.semantics.specs.Core.{Core, table_of, sync_on}
use Rattle.semantics.proofs.Theory.Relation.{Trees, TreeLaws, places_of, Recorded, Relates, Keeps}
use Rattle.semantics.proofs.Theory.Places.{childless_count, acting-deque, acting_record}
use Rattle.semantics.proofs.Theory.LinksKept.{keeps_same}
use Rattle.semantics.proofs.Theory.RelationFacts.{parent_count, stored}
use Rattle.semantics.proofs.Theory.Suspended.{record_waiting, suspends, suspends_keeps}
use Rattle.soundness.specs.Layout.{Layout}

module _ (layout : Layout) where
  module _ (P : Trees) (M : Machine) (c : Core) (w : ℕ) (q : Frame) (d : List Frame) (lt : w < length M.deques) (e : deque M w ≡ q ∷ d) (r : Relates layout P M c) where
    own : Recorded c.frames r.at (live M) 0 q
    own = acting_record layout r w q d lt e

    -- with a live child
    waiting : has_child q.name (live M) ≡ true → (syncTable (table_of c) w ≡ suspendTable (table_of c) w (record_waiting layout r w q d lt e q.returning)) × (synced (table_of c) w ≡ Suspended)
    waiting h =
        let F = frame_at c.frames (r.at q.name) in
        let x = waits (table_of c) w (r.at q.name) (places_of r.at d) (acting-deque layout r w q d lt e) (λ z. parent_count q.name (live M) h (sym own.outstanding ∙ z)) in
        (subst (λ (k : ℕ). syncTable (table_of c) w ≡ suspendTable (table_of c) w (stored F 1 F.root k)) own.returning x.0, x.1)

    passed : has_child q.name (live M) ≡ false → (syncTable (table_of c) w ≡ table_of c) × (synced (table_of c) w ≡ Passed)
    passed h = passes (table_of c) w (r.at q.name) (places_of r.at d) (acting-deque layout r w q d lt e) (own.outstanding ∙ childless_count q.name (live M) h)

  pub sim_sync : (P : Trees) (M : Machine) (c : Core) (w : ℕ) → TreeLaws layout c.head.numbers.nodes M.splitters P → Passes M (acting w sync) → (r : Relates layout P M c)
      → (r' : Relates layout P (after_turn M (acting w sync)) (sync_on c w).core) × Keeps layout r r' × (answer_words (sync_on c w).answer ≡ turn_answer M (acting w sync))
  unfolding sync_on
  sim_sync P M c w laws pass r =
      let a = acts M w sync pass in
      let q = a.actor in
      let d = a.above in
      rw a.at
      (elim (decided (has_child q.name (live M))) [
        | inl h ↦ (let x = waiting P M c w q d a.worker a.at r h in rw (h, x.1, x.0) (suspends layout r w q d a.worker a.at q.returning laws, suspends_keeps layout r w q d a.worker a.at q.returning laws, refl))
        | inr h ↦ (let x = passed P M c w q d a.worker a.at r h in rw (h, x.0, x.1) (r, keeps_same layout r, refl))
      ])
