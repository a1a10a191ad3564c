-- The relation that a run from a start keeps, and demands 2 and 3 of document 01 over the entries.
use Rattle.std.specs.Prelude.{◌≡◌, true, false, ◌↔◌, ℕ, suc, ◌+◌, ◌≤◌, ◌<◌, leb, ltb, None, Some}
use Rattle.std.proofs.Math.Path.{refl, ap, ap₂, subst}
use Rattle.std.proofs.Common.{sym, ◌∙◌, arith, le-leb}
use mathlib.Core.List.{Memᴰ as In}
use mathlib.Core.List.{List, [], ◌∷◌, ◌++◌, map, append-nil, append_assoc, cons≢nil}
use Rattle.std.proofs.Math.ListN.{length}
use Rattle.semantics.proofs.Theory.Pools.{SameNodes}
use Rattle.words.specs.Tests.{ltb_same}
use Rattle.sizes.specs.Sizes.{height}
use Rattle.pool.specs.Theory.InUse.{histories_of}
use Rattle.model.specs.declared.Step.{Step}
use Rattle.model.specs.declared.Step.TheVariants.{Spawn, Return, Steal, Sync, Read, Write, Fold}
use Rattle.model.specs.Record.{Decoded, record_of}
use Rattle.model.specs.History.{nodes_in_use}
use Rattle.model.specs.Machine.{Name, Frame, Machine, live, deque, histories, in_use, start}
use Rattle.model.specs.Machine.{free_nodes as plainFree}
use Rattle.model.specs.Steps.{write_event, written, after_write, step, answer}
use Rattle.model.specs.Run.{Entry, run, trace, answers, Returned, IsFrame, steps_of, reads_of, one_worker_steps}
use Rattle.model.specs.Views.{Views, views_at_start, views_after, run_views, main_folds}
use Rattle.model.specs.Views.{totals_of as plainTotals}
use Rattle.model.specs.Demand3.{Demand3 as PlainDemand3, one_worker_of, trace_of as plainTrace}
use Rattle.model.proofs.Theory.Effects.{live_at_lem, live_with, there_is_worker}
use Rattle.model.proofs.Theory.Effects.{rest as plainRest}
use Rattle.model.proofs.Theory.Histories.{in_use_perm}
use Rattle.model.proofs.Theory.RunSteps.{sizes_step}
use Rattle.model.proofs.Theory.FrameTree.{tree-start}
use Rattle.model.proofs.Theory.Invariant.{Invariant, invariant_start, invariant_step, invariant_run}
use Rattle.model.proofs.Theory.SecondWrite.{second_write}
use Rattle.model.proofs.Theory.MainEnds.{returned_ends}
use Rattle.model.proofs.Theory.Totals.{totals_are, totals_same}
use Rattle.model.proofs.Theory.Demand3Proof.{demand3 as plain-demand3}
use Rattle.semantics.specs.Answers.{answer_words}
use Rattle.frames.specs.declared.Frame.{Frame as FrameRecord}
use Rattle.semantics.specs.Core.{Core, acting_in, step_on}
use Rattle.semantics.specs.Entries.{State, StartResult, fits, is_sound, numbers_of, totals_of, chain_free, record_on, whole_nodes}
use Rattle.semantics.specs.Calls.{Start, start_result, HostCall, outside, StateAndPool, after_start, after_call, Exchange, exchanges_of, records_in, answers_in, rest_in, pools_at, core_in, Past, Run, Call, call, begun, run_after, run_of, trace_from}
use Rattle.semantics.specs.Demands.{Plain, plain_after, views_by, plain_answer, from_start, answers_by, machine_by, plain_start, plain_begun, run_from, Demand2, plain_now, Counted, RestIsCounted, WritesAgain, StartWords, AllCallWords, trace_of, MainReturned, call_of, one_by_one, one_worker_calls, all_accepted, AllFree, total_words, OneWorker, Demand3}
use Rattle.semantics.specs.Promises.{Fits}
use Rattle.semantics.proofs.Theory.Relation.{Trees, TreeLaws, Relates, Links, SamePlaces, root_of, roots_of}
use Rattle.semantics.proofs.Theory.RelationFacts.{trees_perm}
use Rattle.semantics.proofs.Theory.Places.{acting-frame}
use Rattle.semantics.proofs.Theory.Refusals.{SameRoom}
use Rattle.semantics.proofs.Theory.SimWrite.{fresh}
use Rattle.semantics.proofs.Theory.FromSoundRelates.{map-append}
use Rattle.semantics.proofs.Theory.Simulation.{simulates, numbers_kept}
use Rattle.semantics.proofs.Theory.ToSound.{all_free}
use Rattle.semantics.proofs.Theory.Fitting.{true_fits}
use Rattle.semantics.proofs.Theory.SoundSteps.{Carried, is_sound_lem, own_rest}
use Rattle.semantics.proofs.Theory.Elsewhere.{with_pool, SameReads, relates_in}
use Rattle.semantics.proofs.Theory.NumberWords.{totals_in_lem}
use Rattle.semantics.proofs.Theory.Starts.{Fit, alone_fit, fit_started, started_fit}
use Rattle.semantics.proofs.Theory.StartRelates.{first_core, start_relates}
use Rattle.semantics.proofs.Theory.Viewed.{Viewed}
use Rattle.semantics.proofs.Theory.ViewedStart.{start-links, viewed_start}
use Rattle.semantics.proofs.Theory.TotalWords.{view_totals}
use Rattle.semantics.proofs.Theory.Runs.{Laws, KeptBy, Fed, core-counted, outside_long, call_follows}
use Rattle.semantics.proofs.Theory.AllWords.{started_words}
use Rattle.semantics.proofs.Theory.WholeRuns.{RunKept, kept_begun, kept_calls, fed_calls, fed_sound, answers_by_lem}
use Rattle.semantics.proofs.Theory.ValidRecords.{valids, trace-same, machine_plain, views_plain, returned_plain, valids_valid, answers_plain, all-accepted}
use Rattle.soundness.specs.Layout.{Layout}
use Rattle.semantics.proofs.Theory.Pools.{PoolLaws}

module _ (layout : Layout) (pools : PoolLaws layout) where
  -- the relation, with the links and the views beside it; R-7: of the places in r₀
  abbrev WithViews : {Q : Trees} {M : Machine} {d : Core} → Relates layout Q M d → ℕ → ℕ → Plain → Core → Type 0
  WithViews r₀ N n P c = (r : Relates layout (pools.GoodTrees N n) P.machine c) × Links c.frames r.at (live P.machine) × Viewed layout r P.views × SamePlaces layout r₀ r

  -- the core is that of a run from a start which the plain machine, with its views, has followed
  pub record Follows (P : Plain) (c : Core) : Type 0 where
    pub related : Relates layout (pools.GoodTrees P.machine.nodes P.machine.splitters) P.machine c
    pub links : Links c.frames related.at (live P.machine)
    pub viewed : Viewed layout related P.views
    pub inv : Invariant P.machine
    pub nodes : c.head.numbers.nodes ≡ P.machine.nodes

histories_are : (fs : List FrameRecord) (at : Name → ℕ) (L : List Frame) → histories_of (roots_of fs at L) ≡ histories L
histories_are fs at [] = refl
histories_are fs at (f ∷ L) = ap (λ z. f.history ∷ z) (histories_are fs at L)

module _ (layout : Layout) (pools : PoolLaws layout) where
  -- the free nodes are the nodes less those in use
  same_free : (P : Plain) (c : Core) → Follows layout pools P c → c.head.free_count ≡ plainFree P.machine
  same_free P c F =
      let M = P.machine in
      let r = F.related in
      omega (arith, pools.good_free M.nodes M.splitters (omega (arith, F.nodes, r.numbers.nodes_le)) r.numbers.splitters_positive r.trees, ap (nodes_in_use M.splitters) (histories_are c.frames r.at (live M)))

  -- what relates in a run from a start relates as a live pool, with the frames in the same places
  live_relates : {N n : ℕ} {M : Machine} {c : Core} → Relates layout (pools.GoodTrees N n) M c → Relates layout (pools.LiveTrees N n) M c
  live_relates r = record {
    at = r.at;
    gs = r.gs;
    numbers = r.numbers;
    formed = r.formed;
    deques = r.deques;
    running = r.running;
    waiting = r.waiting;
    once = r.once;
    vacant = r.vacant;
    totals = r.totals;
    trees = pools.good_live r.trees;
    values = r.values;
  }

  pub carried : (P : Plain) (c : Core) → Follows layout pools P c → Carried layout pools P.machine c
  unfolding live_relates
  carried P c F =
      let M = P.machine in
      let r : (r : Relates layout (pools.LiveTrees c.head.numbers.nodes M.splitters) M c) × Links c.frames r.at (live M) =
      subst (λ N. (r : Relates layout (pools.LiveTrees N M.splitters) M c) × Links c.frames r.at (live M)) (sym F.nodes) (live_relates F.related, F.links) in
      record {
        related = r.0;
        links = r.1;
        tree = F.inv.tree;
        deques = F.inv.deques;
        marks = F.inv.marks;
        bounds = F.inv.bounds;
        same_free = same_free P c F;
      }

  -- the rest of the path has as many nodes as the write adds to those in use
  counted-rest : (P : Plain) (c : Core) → Follows layout pools P c → (w x v : ℕ) (q : Frame) (d : List Frame) → w < length P.machine.deques → deque P.machine w ≡ q ∷ d → x < P.machine.splitters
      → Counted P.machine c.head.free_count (layout.rest c.head.height c.pool (acting_in c w).root x) (after_write P.machine w q d x v)
  counted-rest P c F w x v q d lt e b =
      let M = P.machine in
      let r = F.related in
      let n = M.splitters in
      let few : M.nodes ≤ 16384 = omega (arith, F.nodes, r.numbers.nodes_le) in
      let others = d ++ plainRest M w in
      let before = live_at_lem M w (q ∷ d) lt e in
      let G : pools.GoodTrees M.nodes n c.pool c.head.numbers.free_node c.head.free_count (roots_of c.frames r.at (q ∷ others)) =
      trees_perm layout c.frames r.at (pools.good_laws M.nodes n few r.numbers.splitters_positive) before r.trees in
      let unmarked = fresh layout (pools.GoodTrees M.nodes n) M c w x v q d lt e r F.inv.marks in
      let g = pools.good_rest M.nodes n few r.numbers.splitters_positive (write_event q x) b (cons≢nil, unmarked) G in
      let others_are = histories_are c.frames r.at others in
      let after : nodes_in_use n ((write_event q x ∷ q.history) ∷ histories_of (roots_of c.frames r.at others)) ≡ in_use n (live (after_write M w q d x v)) =
      ap (λ z. nodes_in_use n ((write_event q x ∷ q.history) ∷ z)) others_are ∙ sym (in_use_perm n (live_with M w (written q x v ∷ d) lt)) in
      let now : nodes_in_use n (q.history ∷ histories_of (roots_of c.frames r.at others)) ≡ in_use n (live M) = ap (λ z. nodes_in_use n (q.history ∷ z)) others_are ∙ sym (in_use_perm n before) in
      let own : layout.rest c.head.height c.pool (acting_in c w).root x ≡ layout.rest (height n) c.pool (root_of c.frames r.at q) x =
      ap₂ (λ (t : ℕ) (f : FrameRecord). layout.rest t c.pool f.root x) r.numbers.height_is (acting-frame layout r w q d lt e) in
      record {
        same_count = sym after ∙ g.0 ∙ ap₂ ◌+◌ now (sym own);
        same_16 = ap (ltb c.head.free_count) own ∙ ltb_same g.1 ∙ ap (ltb M.nodes) after;
      }

  counted_room : (P : Plain) (c : Core) → Follows layout pools P c → (st : Step) → SameRoom layout P.machine c st
  counted_room P c F (Spawn w) = tt
  counted_room P c F (Return w) = tt
  counted_room P c F (Steal w v) = tt
  counted_room P c F (Sync w) = tt
  counted_room P c F (Read w x) = tt
  counted_room P c F (Write w x v) = λ q d lt e b. (counted-rest P c F w x v q d lt e b).same_16
  counted_room P c F (Fold w i x) = tt

-- what a step keeps
abbrev pub stepped : Plain → Step → Plain
stepped P st = record { machine = step P.machine st; views = views_after P.machine P.views st }

module _ (L L' : Layout) (pools : PoolLaws L) (pools' : PoolLaws L') where
  -- another pool, of this or of the other layout, in which the frames read the same
  pub follows_in : (P : Plain) (c : Core) (ws' : List ℕ) (F : Follows L pools P c) → let M = P.machine in let Fs = roots_of c.frames F.related.at (live M) in
      pools'.GoodTrees M.nodes M.splitters ws' c.head.numbers.free_node c.head.free_count Fs → SameReads L L' M.splitters c.pool ws' Fs → Follows L' pools' P (with_pool c ws')
  unfolding relates_in
  follows_in P c ws' F T S =
      let E = F.viewed in
      record {
        related = relates_in L L' ws' F.related T S;
        links = F.links;
        viewed = record { ordered = E.ordered; views = E.views; siblings = E.siblings; none_yet = E.none_yet; totals = E.totals };
        inv = F.inv;
        nodes = F.nodes;
      }

module _ (layout : Layout) (pools : PoolLaws layout) where
  -- it is answered as the plain machine answers; R-7: and the frames keep their places
  pub record FollowsOn (P : Plain) (c : Core) (st : Step) (F : Follows layout pools P c) : Type 0 where
    pub next : Follows layout pools (stepped P st) (step_on layout c st).core
    pub alike : answer_words (step_on layout c st).answer ≡ answer P.machine st
    pub places : SamePlaces layout F.related next.related

  pub follows_step : (P : Plain) (c : Core) (st : Step) (F : Follows layout pools P c) → FollowsOn P c st F
  follows_step P c st F =
      let M = P.machine in
      let r = F.related in
      let laws = pools.good_laws M.nodes M.splitters (omega (arith, F.nodes, r.numbers.nodes_le)) r.numbers.splitters_positive in
      let S = simulates layout (pools.GoodTrees M.nodes M.splitters) M c r F.links (subst (λ N. TreeLaws layout N M.splitters (pools.GoodTrees M.nodes M.splitters)) (sym F.nodes) laws) F.inv.tree F.inv.deques F.inv.marks
      F.inv.bounds st (counted_room layout pools P c F st) in
      let z = sizes_step M st in
      let P' = stepped P st in
      let c' = (step_on layout c st).core in
      let t : WithViews layout pools r P'.machine.nodes P'.machine.splitters P' c' =
      subst (λ N. WithViews layout pools r N P'.machine.splitters P' c') (sym z.nodes) (subst (λ n. WithViews layout pools r M.nodes n P' c') (sym z.splitters) (S.related, S.follows.links F.links, S.follows.viewed P.views F.viewed, S.follows.places)) in
      let F' : Follows layout pools P' c' = record { related = t.0; links = t.1; viewed = t.2; inv = invariant_step M st F.inv; nodes = (numbers_kept layout c st).nodes ∙ F.nodes ∙ sym z.nodes } in
      record { next = F'; alike = S.answers.both (same_free layout pools P' c' F'); places = t.3 }

  -- the same nodes in another pool
  pub follows_elsewhere : (P : Plain) (c : Core) (ws' : List ℕ) → Follows layout pools P c → SameNodes layout c.head.numbers.nodes c.pool ws' → Follows layout pools P (with_pool c ws')
  follows_elsewhere P c ws' F S =
      let M = P.machine in
      let T = pools.good_trees M.nodes M.splitters (omega (arith, F.nodes, F.related.numbers.nodes_le)) c.pool ws' _ _ _ F.related.trees (subst (λ N. SameNodes layout N c.pool ws') F.nodes S) in
      follows_in layout layout pools pools P c ws' F T.0 T.1

  pub laws : Laws layout pools from_start (Follows layout pools)
  laws = record { carried = carried layout pools; keeps = keeps; alike = alike; elsewhere = follows_elsewhere }
    where
      keeps : (P : Plain) (c : Core) (d : Decoded) → Follows layout pools P c → Follows layout pools (record { machine = plain_after P.machine d; views = views_by P d }) (record_on layout c d).core
      keeps P c (Some st) F = (follows_step P c st F).next
      keeps P c None F = F

      alike : (P : Plain) (c : Core) (d : Decoded) → Follows layout pools P c → answer_words (record_on layout c d).answer ≡ plain_answer P.machine d
      alike P c (Some st) F = (follows_step P c st F).alike
      alike P c None F = refl

  pub start_follows : (b : Start) → Fit layout b.workers b.values b.parts.frames b.pool → Follows layout pools (plain_begun layout b) (first_core layout b.workers b.values b.parts.frames b.pool)
  start_follows b F = record {
    related = start_relates layout pools b.workers b.values b.parts.frames b.pool F;
    links = start-links layout pools b.workers b.values b.parts.frames b.pool F;
    viewed = viewed_start layout pools b.workers b.values b.parts.frames b.pool F;
    inv = invariant_start b.workers b.values (whole_nodes layout b.pool) (length b.parts.frames) F.enough F.places_positive;
    nodes = refl;
  }

  begins : (b : Start) → Fits b.parts → Fit layout b.workers b.values b.parts.frames b.pool → KeptBy (Follows layout pools) (after_start layout b) (plain_begun layout b)
  begins b L F = record {
    core = first_core layout b.workers b.values b.parts.frames b.pool;
    held = ap (λ (o : StartResult). record { state = o.state; pool = o.pool }) (fit_started layout b.parts b.workers b.values b.pool L F);
    follows = start_follows b F;
  }

module _ (layout : Layout) where
  -- ---- demand 2, for every accepted start and every list of calls

  -- the plain machine that has followed a run, with its views
  abbrev followed : Start → List Call → Plain
  followed b calls = let p : Past = (run_from layout b calls).past in machine_by from_start (plain_begun layout b) (records_in p.exchanges) p.pools

module _ (layout : Layout) (pools : PoolLaws layout) where
  -- the run from an accepted start
  pub run_kept : (b : Start) (calls : List Call) → (start_result layout b).result ≡ 0 → StartWords b → AllCallWords calls → RunKept layout pools from_start (Follows layout pools) (laws layout pools) (plain_begun layout b) (whole_nodes layout b.pool) (run_from layout b calls)
  run_kept b calls e w All-words =
      let A = started_fit layout b.parts b.workers b.values b.pool e in
      let K = begins layout pools b A.lengths A.fit in
      let N = whole_nodes layout b.pool in
      kept_calls layout pools from_start (Follows layout pools) (laws layout pools) (plain_begun layout b) N calls (begun (after_start layout b)) All-words
      (kept_begun layout pools from_start (Follows layout pools) (laws layout pools) (plain_begun layout b) N (after_start layout b) K (started_words layout pools b e w.0 w.1) (ap (λ (g : StateAndPool). (numbers_of g.state).nodes) K.held ∙ K.follows.nodes))

  pub demand2 : (b : Start) (calls : List Call) → (start_result layout b).result ≡ 0 → StartWords b → AllCallWords calls → Demand2 layout b calls
  demand2 b calls e w All-words = answers_by_lem layout pools from_start (Follows layout pools) (laws layout pools) (plain_begun layout b) (whole_nodes layout b.pool) (run_from layout b calls) (run_kept b calls e w All-words)

  -- R-2: whether a write lacks nodes, by the rest of its path and by the count
  pub rest_is_counted : (b : Start) (calls : List Call) → (start_result layout b).result ≡ 0 → StartWords b → AllCallWords calls → (run_from layout b calls).stateless ≡ false → RestIsCounted layout b calls
  rest_is_counted b calls e w All-words standing u x v q d at below =
      let E = ((run_kept b calls e w All-words).standing standing).0.fed.kept in
      let c = E.core in
      let M = plain_now layout b calls in
      let P = followed layout b calls in
      let C = carried layout pools P c E.follows in
      let G = counted-rest layout pools P c E.follows u x v q d (there_is_worker M u (omega (arith, ap length at))) at below in
      let rest_is : layout.rest c.head.height c.pool (acting_in c u).root x ≡ rest_in layout (core_in layout (run_from layout b calls).now) (Some (Write u x v)) =
      own_rest layout pools M c C u x v ∙ sym (ap (λ (h : StateAndPool). rest_in layout (core_in layout h) (Some (Write u x v))) E.held ∙ ap (λ (d : Core). rest_in layout d (Some (Write u x v))) (core-counted layout pools C)) in
      let free_is : c.head.free_count ≡ chain_free layout (run_from layout b calls).now.state (run_from layout b calls).now.pool = sym (is_sound_lem layout pools C).1 ∙ sym (ap (λ (h : StateAndPool). chain_free layout h.state h.pool) E.held) in
      subst (λ (k : ℕ). Counted M k (rest_in layout (core_in layout (run_from layout b calls).now) (Some (Write u x v))) (after_write M u q d x v)) free_is
      (subst (λ (k : ℕ). Counted M c.head.free_count k (after_write M u q d x v)) rest_is G)

  pub writes_again : (b : Start) (calls : List Call) → (start_result layout b).result ≡ 0 → StartWords b → AllCallWords calls → WritesAgain layout b calls
  writes_again b calls e w All-words u x v v' h =
      let R = run_kept b calls e w All-words in
      let p = (run_from layout b calls).past in
      let F = (started_fit layout b.parts b.workers b.values b.pool e).fit in
      second_write (plain_now layout b calls) u x v v'
      (subst Invariant (sym (machine_plain (records_in p.exchanges) p.pools (plain_begun layout b) R.long))
      (invariant_run (plain_start layout b) (valids (records_in p.exchanges)) (invariant_start b.workers b.values (whole_nodes layout b.pool) (length b.parts.frames) F.enough F.places_positive))) h

  -- after steps and tapes alone, whatever they hand in
  pub started_fed : (b : Start) (ks : List HostCall) → (start_result layout b).result ≡ 0 → let r = run_from layout b (map call ks) in Fed from_start (Follows layout pools) (plain_begun layout b) r.now r.past.exchanges r.past.pools
  started_fed b ks e =
      let A = started_fit layout b.parts b.workers b.values b.pool e in
      fed_calls layout pools from_start (Follows layout pools) (laws layout pools) (plain_begun layout b) (whole_nodes layout b.pool) ks (begun (after_start layout b)) (record { long = refl; kept = begins layout pools b A.lengths A.fit; same = refl })

  pub plain_sound : (b : Start) (ks : List HostCall) → (start_result layout b).result ≡ 0 → is_sound layout (run_from layout b (map call ks)).now.state (run_from layout b (map call ks)).now.pool ≡ true
  plain_sound b ks e = fed_sound layout pools from_start (Follows layout pools) (laws layout pools) (plain_begun layout b) (whole_nodes layout b.pool) (started_fed b ks e)

-- ---- demand 3

-- the fields of a step's record
record Fields (s : Step) (work : List ℕ) : Type 0 where
  kind : ℕ
  worker : ℕ
  field : ℕ
  value : ℕ
  call : call_of s work ≡ outside kind worker field value work
  decoded : record_of kind worker field value ≡ Some s

fields : (s : Step) (work : List ℕ) → Fields s work
unfolding record_of
fields (Spawn w) work = record { kind = 1; worker = w; field = 0; value = 0; call = refl; decoded = refl }
fields (Return w) work = record { kind = 2; worker = w; field = 0; value = 0; call = refl; decoded = refl }
fields (Steal w v) work = record { kind = 3; worker = w; field = v; value = 0; call = refl; decoded = refl }
fields (Sync w) work = record { kind = 4; worker = w; field = 0; value = 0; call = refl; decoded = refl }
fields (Read w x) work = record { kind = 5; worker = w; field = x; value = 0; call = refl; decoded = refl }
fields (Write w x v) work = record { kind = 6; worker = w; field = x; value = v; call = refl; decoded = refl }
fields (Fold w i x) work = record { kind = 7; worker = w; field = i; value = x; call = refl; decoded = refl }

module _ (layout : Layout) (pools : PoolLaws layout) where
  -- with a long enough work slice the step is fed
  fed_one : (P : Plain) (h : StateAndPool) (s : Step) (work : List ℕ) → KeptBy (Follows layout pools) h P → P.machine.nodes ≤ length work → records_in (exchanges_of layout h (call_of s work)) ≡ Some s ∷ []
  fed_one P h s work K long =
      let c = K.core in
      let q = fields s work in
      let room : leb c.head.numbers.nodes (length work) ≡ true = le-leb c.head.numbers.nodes (length work) (omega (arith, K.follows.nodes, long)) in
      ap₂ (λ (g : StateAndPool) (k : HostCall). records_in (exchanges_of layout g k)) K.held q.call
      ∙ ap (λ (p : StateAndPool × List Exchange). records_in p.1) (outside_long layout pools (carried layout pools P c K.follows) q.kind q.worker q.field q.value work room)
      ∙ ap (λ (d : Decoded). d ∷ []) q.decoded

  -- a run with these steps has fed them after what it had
  all_fed : (works : ℕ → List ℕ) (ss : List Step) (P : Plain) (r : Run) (i : ℕ) → KeptBy (Follows layout pools) r.now P → ((j : ℕ) → P.machine.nodes ≤ length (works j))
      → records_in (run_of layout r (map call (one_by_one works i ss))).past.exchanges ≡ records_in r.past.exchanges ++ map Some ss
  all_fed works [] P r i K long = sym (append-nil (records_in r.past.exchanges))
  all_fed works (s ∷ ss) P r i K long =
      let h = r.now in
      let k = call_of s (works i) in
      let e = fed_one P h s (works i) K (long i) in
      let A = call_follows layout pools from_start (Follows layout pools) (laws layout pools) P h k K in
      let K₁ : KeptBy (Follows layout pools) (after_call layout h k) (stepped P s) = subst (λ z. KeptBy (Follows layout pools) (after_call layout h k) (machine_by from_start P z (pools_at layout (core_in layout h) z))) e A.fed.kept in
      let done : records_in (r.past.exchanges ++ exchanges_of layout h k) ≡ records_in r.past.exchanges ++ (Some s ∷ []) =
      map-append (λ (t : Exchange). t.0) r.past.exchanges (exchanges_of layout h k) ∙ ap (λ z. records_in r.past.exchanges ++ z) e in
      all_fed works ss (stepped P s) (run_after layout r (call k)) (suc i) K₁ (λ j. subst (λ q. q ≤ length (works j)) (sym (sizes_step P.machine s).nodes) (long j))
      ∙ ap (λ z. z ++ map Some ss) done
      ∙ append_assoc (records_in r.past.exchanges) (Some s ∷ []) (map Some ss)

  -- a run in this layout that has followed the plain machine of a start with N nodes and these places, and in which Main has returned; and a start of one worker
  -- with the same values, as many nodes and as many places
  module _ (workers : ℕ) (values : List ℕ) (N places : ℕ) (r : Run)
      (R : RunKept layout pools from_start (Follows layout pools) (laws layout pools) (record { machine = start workers values N places; views = views_at_start }) N r)
      (returned : In (102, 3) (answers_in r.past.exchanges)) (parts : State) (ws : List ℕ) (works : ℕ → List ℕ) (parts_fit : fits parts ≡ true)
      (fit₁ : Fit layout 1 values parts.frames ws) (same_places : length parts.frames ≡ places) (as_many : whole_nodes layout ws ≡ N) (long : (j : ℕ) → N ≤ length (works j)) where
    abbrev P : Plain
    P = record { machine = start workers values N places; views = views_at_start }

    -- what the run has fed, and what its frames did
    abbrev ds : List Decoded
    ds = records_in r.past.exchanges

    abbrev trace₀ : List Entry
    trace₀ = trace_from (start workers values N places) r.past.exchanges

    -- the plain machine that has followed it
    abbrev last : Plain
    last = machine_by from_start P ds r.past.pools

    b₁ : Start
    b₁ = record { parts = parts; workers = 1; values = values; pool = ws }

    calls₁ : List Call
    calls₁ = one_worker_calls trace₀ works

    -- the one-worker run
    K₁ : KeptBy (Follows layout pools) (after_start layout b₁) (plain_begun layout b₁)
    unfolding b₁
    K₁ = begins layout pools (record { parts = parts; workers = 1; values = values; pool = ws }) (true_fits parts parts_fit) fit₁

    R₁ : Fed from_start (Follows layout pools) (plain_begun layout b₁) (run_from layout b₁ calls₁).now (run_from layout b₁ calls₁).past.exchanges (run_from layout b₁ calls₁).past.pools
    unfolding calls₁
    R₁ = fed_calls layout pools from_start (Follows layout pools) (laws layout pools) (plain_begun layout b₁) (whole_nodes layout b₁.pool) (one_by_one works 0 (one_worker_steps trace₀)) (begun (after_start layout b₁)) (record { long = refl; kept = K₁; same = refl })

    -- on the plain machine
    ss : List Step
    ss = valids ds

    plain_returned : Returned (start workers values N places) ss
    unfolding ss
    plain_returned = returned_plain ds r.past.pools P R.long (subst (λ z. In (102, 3) z) R.same returned)

    D : PlainDemand3 workers values N places ss
    D = plain-demand3 workers values N places ss plain_returned

    trace_is : trace₀ ≡ plainTrace workers values N places ss
    unfolding ss
    trace_is = trace-same P r.past.exchanges r.past.pools R.long R.same

    -- the steps of the one-worker run
    ones : List Step
    ones = one_worker_steps trace₀

    ones_are : ones ≡ one_worker_of workers values N places ss
    unfolding ones
    ones_are = ap one_worker_steps trace_is

    start_is : plain_start layout b₁ ≡ start 1 values N places
    unfolding b₁
    start_is = ap₂ (λ (n k : ℕ). start 1 values n k) as_many same_places

    fed : records_in (run_from layout b₁ calls₁).past.exchanges ≡ map Some ones
    unfolding ones calls₁ b₁
    fed = all_fed works (one_worker_steps trace₀) (plain_begun layout b₁) (begun (after_start layout b₁)) 0 K₁ (λ j. subst (λ q. q ≤ length (works j)) (sym as_many) (long j))

    steps₁_are : valids (records_in (run_from layout b₁ calls₁).past.exchanges) ≡ one_worker_of workers values N places ss
    steps₁_are = ap valids fed ∙ valids_valid ones ∙ ones_are

    trace₁_is : trace_of layout b₁ calls₁ ≡ plainTrace 1 values N places (one_worker_of workers values N places ss)
    trace₁_is = trace-same (plain_begun layout b₁) (run_from layout b₁ calls₁).past.exchanges (run_from layout b₁ calls₁).past.pools R₁.long R₁.same ∙ ap₂ trace start_is steps₁_are

    answers₁_are : answers_in (run_from layout b₁ calls₁).past.exchanges ≡ answers (start 1 values N places) (one_worker_of workers values N places ss)
    answers₁_are =
        let ks = (run_from layout b₁ calls₁).past.pools in
        R₁.same ∙ ap (λ z. answers_by from_start (plain_begun layout b₁) z ks) fed ∙ answers_plain ones ks (plain_begun layout b₁) (R₁.long ∙ ap length fed) ∙ ap₂ answers start_is ones_are

    over : live last.machine ≡ []
    unfolding ss
    over = ap live (machine_plain ds r.past.pools P R.long) ∙ returned_ends (start workers values N places) ss (tree-start workers values N places) plain_returned

    over₁ : live (followed layout b₁ calls₁).machine ≡ []
    over₁ =
        ap live (machine_plain (records_in (run_from layout b₁ calls₁).past.exchanges) (run_from layout b₁ calls₁).past.pools (plain_begun layout b₁) R₁.long)
        ∙ ap₂ (λ M z. live (run M z)) start_is steps₁_are
        ∙ returned_ends (start 1 values N places) (one_worker_of workers values N places ss) (tree-start 1 values N places) D.returns

    free_at_end_lem : (h : StateAndPool) (Q : Plain) → KeptBy (Follows layout pools) h Q → live Q.machine ≡ [] → AllFree layout h
    free_at_end_lem h Q E e = subst (AllFree layout) (sym E.held) (all_free layout pools Q.machine E.core (carried layout pools Q E.core E.follows).related e)

    -- R-5: "Once Main has returned, each total is .."
    totals_at_end : (h : StateAndPool) (Q : Plain) → KeptBy (Follows layout pools) h Q → live Q.machine ≡ [] → totals_of h.state ≡ total_words Q.views.totals
    totals_at_end h Q E e = ap (λ (g : StateAndPool). totals_of g.state) E.held ∙ totals_in_lem E.core.head.numbers E.core.totals E.follows.related.totals.long ∙ E.follows.viewed.totals e ∙ view_totals Q.views.totals

    folds_are : plainTotals workers values N places ss ≡ main_folds trace₀
    folds_are = totals_are workers values N places ss plain_returned ∙ ap main_folds (sym trace_is)

    last-folds : last.views.totals ≡ main_folds trace₀
    unfolding ss
    last-folds = ap (λ (W : Views). W.totals) (views_plain ds r.past.pools P R.long) ∙ folds_are

    last₁_folds : (followed layout b₁ calls₁).views.totals ≡ main_folds trace₀
    last₁_folds =
        ap (λ (W : Views). W.totals) (views_plain (records_in (run_from layout b₁ calls₁).past.exchanges) (run_from layout b₁ calls₁).past.pools (plain_begun layout b₁) R₁.long)
        ∙ ap₂ (λ (M : Machine) (z : List Step). (run_views M views_at_start z).totals) start_is steps₁_are
        ∙ sym (totals_same workers values N places ss plain_returned)
        ∙ folds_are

    pub one_worker : OneWorker layout trace₀ r (record { parts = parts; workers = 1; values = values; pool = ws }) (one_worker_calls trace₀ works)
    unfolding ones calls₁ b₁
    one_worker = record {
      starts = ap (λ (o : StartResult). o.result) (fit_started layout parts 1 values ws (true_fits parts parts_fit) fit₁);
      all_entered = fed;
      none_refused = subst all_accepted (sym answers₁_are) (all-accepted (start 1 values N places) (one_worker_of workers values N places ss) D.none_refused);
      same-frames = λ p. subst (λ z. IsFrame z p ↔ IsFrame trace₀ p) (sym trace₁_is) (subst (λ z. IsFrame (plainTrace 1 values N places (one_worker_of workers values N places ss)) p ↔ IsFrame z p) (sym trace_is) (D.same-frames p));
      same_steps = λ p. ap (steps_of p) trace₁_is ∙ D.same_steps p ∙ ap (steps_of p) (sym trace_is);
      same_reads = λ p. ap (reads_of p) trace₁_is ∙ D.same_reads p ∙ ap (reads_of p) (sym trace_is);
      all_free = λ e. free_at_end_lem r.now last (R.standing e).0.fed.kept over;
      all_free_alone = free_at_end_lem (run_from layout b₁ calls₁).now (followed layout b₁ calls₁) R₁.kept over₁;
      totals = λ e. totals_at_end r.now last (R.standing e).0.fed.kept over ∙ ap total_words last-folds;
      totals_alone = totals_at_end (run_from layout b₁ calls₁).now (followed layout b₁ calls₁) R₁.kept over₁ ∙ ap total_words last₁_folds;
    }

  pub demand3 : (b : Start) (calls : List Call) (parts : State) (ws : List ℕ) (works : ℕ → List ℕ) → (start_result layout b).result ≡ 0 → StartWords b → AllCallWords calls → MainReturned layout b calls → fits parts ≡ true
      → length parts.frames ≡ length b.parts.frames → whole_nodes layout ws ≡ whole_nodes layout b.pool → ((j : ℕ) → whole_nodes layout b.pool ≤ length (works j)) → Demand3 layout b calls parts ws works
  demand3 b calls parts ws works taken words All-words returned parts_fit same_places as_many long =
      one_worker b.workers b.values (whole_nodes layout b.pool) (length b.parts.frames) (run_from layout b calls) (run_kept layout pools b calls taken words All-words) returned parts ws works parts_fit
      (alone_fit layout layout parts.frames ws same_places as_many (started_fit layout b.parts b.workers b.values b.pool taken).fit) same_places as_many long
