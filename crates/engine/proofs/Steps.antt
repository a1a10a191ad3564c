-- A step's ways out, over plain variables: refused by a test, or done.
use Rattle.std.specs.Prelude.{⊤, Result, Err, Ok}
use Rattle.std.specs.Result.{IsErrAnd}
use Rattle.std.proofs.lemmas.Result.{err_from_is_err_and}
use mathlib.Core.Path.{◌≡◌, refl, sym, ap, ◌∙◌, subst}
use mathlib.Core.Logic.{inl, inr}
use mathlib.Core.Bool.{Bool, true, false}
use mathlib.Core.List.{List, [], ◌∷◌, ◌++◌}
use Prim.Native.Nat.{ℕ, suc, ◌≤◌, ◌<◌}
use native.Mathlib.Omega.{arith}
use lib.Dec.{ltb}
use borrow.Author.Tests.{eq-eqb, ne_eqb, lt-ltb, le-ltb}
use Rattle.words.specs.Basics.{none, plus}
use Rattle.words.specs.Tests.{decided, true≢false}
use Rattle.packed.specs.Pool.{read_at, retain, set_value, first_shared, rest, write_from, write}
use Rattle.packed.specs.Links.{IsShared, IsAlone, Wrote}
use Rattle.packed.specs.declared.found.Shared.{Shared}
use Rattle.reducers.specs.Reducers.{fold_view}
use Rattle.frames.proofs.Theory.Records.{root_kept}
use Rattle.frames.specs.declared.Frame.{Frame}
use Rattle.frames.specs.declared.Synced.{Synced}
use Rattle.frames.specs.Frames.{frame_at, set_frame, with_root, with_view}
use Rattle.frames.specs.Deques.{bottom, top}
use Rattle.frames.specs.Steps.{spawn, steal, fold}
use Rattle.frames.specs.Promises.{table, IsSync}
use Rattle.model.specs.Steps.{reducers}
use Rattle.model.specs.declared.Step.{Step}
use Rattle.model.specs.declared.Step.TheVariants.{Spawn, Steal, Sync, Read, Write, Fold}
use Rattle.semantics.specs.declared.Done.TheVariants.{Spawned, Stolen, Waited, Value, Written, Folded}
use Rattle.semantics.specs.declared.Refusal.{Refusal}
use Rattle.semantics.specs.declared.Refusal.TheVariants.{FramesFull, NoSplitter, PoolFull, NoReducer}
use Rattle.semantics.specs.Answers.{Answer}
use Rattle.semantics.specs.Core.{Core, StepResult, step_result, with_free_place, with_free_nodes, judged, acting_tests, kind_tests, tests_of, spawn_on, steal_on, sync_on, read_on, write_on, fold_on, done_by, step_on, steal_tests}
use Rattle.engine.specs.Promises.{tested}
use Rattle.soundness.specs.Layout.{two_words}

-- ---- tests

-- a refused step changes nothing
abbrev pub refused : Core → Refusal → StepResult
refused c r = record { core = c; answer = Err r }

-- a step of worker w's bottom frame, once refusals 8, 9 and 10 are tested: those of the kind, then the step
abbrev pub kind_on : Core → Step → StepResult
kind_on c st = judged (kind_tests two_words c st) c (done_by two_words c st)

abbrev is_ok : Result ⊤ Refusal → Bool
is_ok (Ok u) = true
is_ok (Err r) = false

pub ok_not_err : {r : Refusal} → ◌≡◌ {A = Result ⊤ Refusal} (Ok tt) (Err r) → ⊥
ok_not_err e = true≢false (ap is_ok e)

abbrev error_or : Refusal → Result ⊤ Refusal → Refusal
error_or d (Ok u) = d
error_or d (Err r) = r

-- one that refuses ends the judgement; tests that pass leave it to the others
pub refused_by : (ts us : List (Bool × Refusal)) (c : Core) (d : StepResult) (r : Refusal) → tested ts ≡ Err r → refused c r ≡ judged (ts ++ us) c d
refused_by [] us c d r e = absurd (ok_not_err e)
refused_by (t ∷ ts) us c d r e = elim (decided t.0) [ inl b ↦ rw b (ap (refused c) (sym (ap (error_or r) (rw b at e)))) | inr b ↦ rw b (refused_by ts us c d r (rw b at e)) ]

pub passed : (ts us : List (Bool × Refusal)) (c : Core) (d : StepResult) → tested ts ≡ Ok tt → judged us c d ≡ judged (ts ++ us) c d
passed [] us c d e = refl
passed (t ∷ ts) us c d e = elim (decided t.0) [ inl b ↦ absurd (ok_not_err (sym (rw b at e))) | inr b ↦ rw b (passed ts us c d (rw b at e)) ]

-- a step of worker w's bottom frame: refused by 8, 9 or 10, or left to its kind
module _ (c : Core) (st : Step) (w : ℕ) (t : tests_of two_words c st ≡ acting_tests c w ++ kind_tests two_words c st) where
  pub acting_refused : (r : Refusal) → tested (acting_tests c w) ≡ Err r → refused c r ≡ step_on two_words c st
  unfolding step_on
  acting_refused r e = subst (λ us. refused c r ≡ judged us c (done_by two_words c st)) (sym t) (refused_by (acting_tests c w) (kind_tests two_words c st) c (done_by two_words c st) r e)

  -- as it comes out of a `?`
  pub acting_out : (a : Answer) (r : Refusal) → IsErrAnd a (λ y. y ≡ r) → tested (acting_tests c w) ≡ Err r → ◌≡◌ {A = StepResult} (record { core = c; answer = a }) (step_on two_words c st)
  acting_out a r i e = let p = err_from_is_err_and a i in rw (p.1, p.2) (acting_refused r e)

  pub acting_passed : tested (acting_tests c w) ≡ Ok tt → kind_on c st ≡ step_on two_words c st
  unfolding step_on
  acting_passed e = subst (λ us. kind_on c st ≡ judged us c (done_by two_words c st)) (sym t) (passed (acting_tests c w) (kind_tests two_words c st) c (done_by two_words c st) e)

-- ---- the kinds

module _ (c : Core) (w : ℕ) (e : tested (acting_tests c w) ≡ Ok tt) where
  -- refused by a test of the kind
  pub spawn_full : c.head.numbers.free_place ≡ none → refused c FramesFull ≡ step_on two_words c (Spawn w)
  spawn_full z = let k : refused c FramesFull ≡ kind_on c (Spawn w) = rw (eq-eqb c.head.numbers.free_place none z) in k ∙ acting_passed c (Spawn w) w refl e

  module _ (x : ℕ) where
    pub read_none : c.head.numbers.splitters ≤ x → refused c NoSplitter ≡ step_on two_words c (Read w x)
    read_none l = let k : refused c NoSplitter ≡ kind_on c (Read w x) = rw (le-ltb x c.head.numbers.splitters l) in k ∙ acting_passed c (Read w x) w refl e

    pub write_none : (v : ℕ) → c.head.numbers.splitters ≤ x → refused c NoSplitter ≡ step_on two_words c (Write w x v)
    write_none v l = let k : refused c NoSplitter ≡ kind_on c (Write w x v) = rw (le-ltb x c.head.numbers.splitters l) in k ∙ acting_passed c (Write w x v) w refl e

    pub fold_none : (v : ℕ) → reducers ≤ x → refused c NoReducer ≡ step_on two_words c (Fold w x v)
    fold_none v l = let k : refused c NoReducer ≡ kind_on c (Fold w x v) = rw (le-ltb x reducers l) in k ∙ acting_passed c (Fold w x v) w refl e

  -- done
  module _ (p : ℕ) (f : Frame) (ep : p ≡ bottom c.deques w) (ef : f ≡ frame_at c.frames p) where
    pub spawn_done : (c.head.numbers.free_place ≡ none → ⊥) → (ds : List ℕ) (fs : List Frame) (ws : List ℕ) (place : ℕ) → ws ≡ retain c.pool f.root
        → table ds fs place ≡ spawn (table c.deques c.frames c.head.numbers.free_place) w
        → step_result (with_free_place c.head place) c.totals ds fs ws (Ok (Spawned (plus f.depth 1))) ≡ step_on two_words c (Spawn w)
    unfolding spawn_on
    spawn_done n ds fs ws place ew et =
        let k : step_result (with_free_place c.head place) c.totals ds fs ws (Ok (Spawned (plus f.depth 1))) ≡ kind_on c (Spawn w) = rw (ne_eqb c.head.numbers.free_place none n, ew, ← et, ← ep, ← ef) in
        k ∙ acting_passed c (Spawn w) w refl e

  pub sync_done : (ds : List ℕ) (fs : List Frame) (s : Synced) → IsSync c.deques c.frames w ds fs s → step_result c.head c.totals ds fs c.pool (Ok (Waited s)) ≡ step_on two_words c (Sync w)
  unfolding sync_on
  sync_done ds fs s y =
      let k : step_result c.head c.totals ds fs c.pool (Ok (Waited s)) ≡ kind_on c (Sync w) = rw (y.outcome c.head.numbers.free_place, ← y.after c.head.numbers.free_place) in
      k ∙ acting_passed c (Sync w) w refl e

  module _ (p root x : ℕ) (ep : p ≡ bottom c.deques w) (er : root ≡ (frame_at c.frames p).root) (l : x < c.head.numbers.splitters) where
    pub read_done : (y : ℕ) → y ≡ read_at c.head.height c.pool root x → step_result c.head c.totals c.deques c.frames c.pool (Ok (Value y)) ≡ step_on two_words c (Read w x)
    unfolding read_on
    read_done y u =
        let k : step_result c.head c.totals c.deques c.frames c.pool (Ok (Value y)) ≡ kind_on c (Read w x) = rw (lt-ltb x c.head.numbers.splitters l, u, er, ep) in
        k ∙ acting_passed c (Read w x) w refl e

    -- the test for 16, by the rest of the path
    room_is : {i : ℕ} → (first_shared c.head.height c.pool root root x).0 ≡ i → ltb c.head.free_count (rest c.head.height c.pool (frame_at c.frames (bottom c.deques w)).root x) ≡ ltb c.head.free_count i
    unfolding rest
    room_is d = rw (← ep, ← er) (ap (ltb c.head.free_count) d)

    module _ (s : Shared) (y : IsShared c.head.height s (first_shared c.head.height c.pool root root x)) (v : ℕ) where
      pub write_full : c.head.free_count ≤ s.level → refused c PoolFull ≡ step_on two_words c (Write w x v)
      write_full f =
          let k : refused c PoolFull ≡ kind_on c (Write w x v) = rw (lt-ltb x c.head.numbers.splitters l, room_is y.rest, lt-ltb c.head.free_count (suc s.level) (omega arith)) in
          k ∙ acting_passed c (Write w x v) w refl e

      pub write_done : s.level < c.head.free_count → (fs : List Frame) (ws : List ℕ) (first count new : ℕ)
          → Wrote (write c.head.height c.pool c.head.numbers.free_node c.head.free_count root x v) ws first count new
          → fs ≡ set_frame c.frames p (with_root (frame_at c.frames p) new)
          → step_result (with_free_nodes c.head first count) c.totals c.deques fs ws (Ok (Written count)) ≡ step_on two_words c (Write w x v)
      unfolding write_on
      write_done f fs ws first count new ew es =
          let k : step_result (with_free_nodes c.head first count) c.totals c.deques fs ws (Ok (Written count)) ≡ kind_on c (Write w x v) =
          rw (lt-ltb x c.head.numbers.splitters l, room_is y.rest, le-ltb c.head.free_count (suc s.level) f) (rw (es, ew.0, ew.1, ew.2, ew.3, er, ep)) in
          k ∙ acting_passed c (Write w x v) w refl e

    -- no node is shared: the leaf's value alone is stored
    module _ (leaf : ℕ) (y : IsAlone leaf (first_shared c.head.height c.pool root root x)) (v : ℕ) where
      leaf_write : write c.head.height c.pool c.head.numbers.free_node c.head.free_count root x v ≡ (set_value c.pool leaf v, c.head.numbers.free_node, c.head.free_count, root)
      unfolding write write_from
      leaf_write = rw (y.rest, y.found)

      pub write_leaf : (ws : List ℕ) → ws ≡ set_value c.pool leaf v → step_result c.head c.totals c.deques c.frames ws (Ok (Written c.head.free_count)) ≡ step_on two_words c (Write w x v)
      unfolding write_on
      write_leaf ws ew =
          let P = leaf_write in
          let k : step_result c.head c.totals c.deques c.frames ws (Ok (Written c.head.free_count)) ≡ kind_on c (Write w x v) =
          rw (lt-ltb x c.head.numbers.splitters l, room_is y.rest, le-ltb c.head.free_count 0 (omega arith), ← ep, ← er, P, ew)
          (ap (λ (gs : List Frame). step_result c.head c.totals c.deques gs (set_value c.pool leaf v) (Ok (Written c.head.free_count))) (sym (ap (λ (q : ℕ). set_frame c.frames p (with_root (frame_at c.frames p) q)) er ∙ root_kept c.frames p))) in
          k ∙ acting_passed c (Write w x v) w refl e

  pub fold_done : (p x v : ℕ) → p ≡ bottom c.deques w → x < reducers → (fs : List Frame) → fs ≡ set_frame c.frames p (with_view (frame_at c.frames p) (fold_view (frame_at c.frames p).view x v))
      → step_result c.head c.totals c.deques fs c.pool (Ok Folded) ≡ step_on two_words c (Fold w x v)
  unfolding fold_on fold
  fold_done p x v ep l fs es =
      let k : step_result c.head c.totals c.deques fs c.pool (Ok Folded) ≡ kind_on c (Fold w x v) = rw (lt-ltb x reducers l, es, ep) in
      k ∙ acting_passed c (Fold w x v) w refl e

-- ---- a steal

nothing_more : (ts : List (Bool × Refusal)) → ts ++ [] ≡ ts
nothing_more [] = refl
nothing_more (t ∷ ts) = ap (λ us. t ∷ us) (nothing_more ts)

module _ (c : Core) (w v : ℕ) where
  judged_all : (d : StepResult) → judged (steal_tests c w v ++ []) c d ≡ judged (steal_tests c w v) c d
  judged_all d = ap (λ us. judged us c d) (nothing_more (steal_tests c w v))

  pub steal_refused : (r : Refusal) → Err r ≡ tested (steal_tests c w v) → refused c r ≡ step_on two_words c (Steal w v)
  unfolding step_on
  steal_refused r e = refused_by (steal_tests c w v) [] c (steal_on c w v) r (sym e) ∙ judged_all (steal_on c w v)

  pub steal_out : (a : Answer) (r : Refusal) → IsErrAnd a (λ y. y ≡ r) → Err r ≡ tested (steal_tests c w v) → ◌≡◌ {A = StepResult} (record { core = c; answer = a }) (step_on two_words c (Steal w v))
  steal_out a r i e = let p = err_from_is_err_and a i in rw (p.1, p.2) (steal_refused r e)

  pub steal_done : Ok tt ≡ tested (steal_tests c w v) → (ds : List ℕ) (p : ℕ) (f : Frame) → p ≡ top c.deques v → f ≡ frame_at c.frames p
      → ((gs : List Frame) (free : ℕ) → table ds gs free ≡ steal (table c.deques gs free) w v)
      → step_result c.head c.totals ds c.frames c.pool (Ok (Stolen f.depth)) ≡ step_on two_words c (Steal w v)
  unfolding step_on steal_on
  steal_done e ds p f ep ef et =
      let acts : step_result c.head c.totals ds c.frames c.pool (Ok (Stolen f.depth)) ≡ steal_on c w v = rw (← et c.frames c.head.numbers.free_place, ← ep, ← ef) in
      acts ∙ passed (steal_tests c w v) [] c (steal_on c w v) (sym e) ∙ judged_all (steal_on c w v)
