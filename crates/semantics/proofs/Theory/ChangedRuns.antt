-- R-9: runs with a change-over: the relation that a run from a start keeps goes over to the new layout, so demands 2 and 3 hold of such runs too.
use Rattle.std.specs.Prelude.{◌≡◌, refl, true, false, List, ℕ, ◌≤◌, length}
use Rattle.std.proofs.Common.{sym, ap, ◌∙◌, subst, inl, inr, arith, le-ltb}
use Rattle.words.specs.Tests.{decided, true≢false}
use Rattle.words.specs.Below.{Words}
use Rattle.sizes.specs.Sizes.{height}
use Rattle.packed.specs.Pack.{converted}
use Rattle.packed.proofs.Theory.Unpacks.{Unpacks}
use Rattle.packed.proofs.Theory.Pack.{behind, pack_unpacks, words-converted}
use Rattle.model.specs.Machine.{live}
use Rattle.soundness.specs.Layout.{four_words, two_words}
use Rattle.semantics.specs.Core.{Core}
use Rattle.semantics.specs.Entries.{State, fits, numbers_of, state_of, is_sound, whole_nodes}
use Rattle.semantics.specs.Calls.{Start, start_result, StateAndPool, Run, Call}
use Rattle.semantics.specs.Demands.{Plain, from_start, plain_begun, run_from, StartWords, AllCallWords}
use Rattle.semantics.specs.Convert.{ConvertResult, change_over, changed_over, changed_run}
use Rattle.semantics.specs.ConvertDemands.{ChangedDemand2, ChangedReturned, ChangedDemand3}
use Rattle.semantics.proofs.Theory.Relation.{roots_of}
use Rattle.semantics.proofs.Theory.FourPools.{GoodTrees, good_live, live_room, four_pools}
use Rattle.semantics.proofs.Theory.TwoPools.{reads, two_pools, good_unpacking}
use Rattle.semantics.proofs.Theory.Fitting.{fits_true}
use Rattle.semantics.proofs.Theory.Starts.{alone_fit, started_fit}
use Rattle.semantics.proofs.Theory.Elsewhere.{with_pool}
use Rattle.semantics.proofs.Theory.Runs.{core-fits}
use Rattle.semantics.proofs.Theory.WholeRuns.{absent, RunKept, kept_calls, fed_sound, answers_by_lem}
use Rattle.semantics.proofs.Theory.StartedRuns.{Follows, carried, follows_in, laws, run_kept, one_worker}
use Rattle.semantics.proofs.Theory.Converts.{convert_taken, not_taken, convert_checks}

-- ---- the relation goes over

module _ (P : Plain) (c : Core) (F : Follows four_words four_pools P c) where
  abbrev N : ℕ
  N = P.machine.nodes

  abbrev n : ℕ
  n = P.machine.splitters

  abbrev new : List ℕ
  new = converted c.head.numbers.nodes c.pool

  most : N ≤ 16384
  most = omega (arith, F.nodes, F.related.numbers.nodes_le)

  good : GoodTrees N n c.pool c.head.numbers.free_node c.head.free_count (roots_of c.frames F.related.at (live P.machine))
  unfolding four_pools
  good = F.related.trees

  unpacks : Unpacks N (behind N c.pool) new c.pool
  unpacks =
      subst (λ k. Unpacks N (behind N c.pool) (converted k c.pool) c.pool) (sym F.nodes)
      (let T = good_live good in pack_unpacks N (height n) n most T.live (live_room T))

  pub follows_changed : Follows two_words two_pools P (with_pool c new)
  follows_changed =
      follows_in four_words two_words four_pools two_pools P c new F (good_unpacking (record { tail = behind N c.pool; ws₄ = c.pool; unpacks = unpacks; trees = good })) (reads N n most (good_live good) unpacks)

-- ---- a run, changed over

module _ (b : Start) (before : List Call) (work : List ℕ) (taken : (start_result four_words b).result ≡ 0) (words : StartWords b) (All-words : AllCallWords before) where
  abbrev P₀ : Plain
  P₀ = plain_begun four_words b

  abbrev N₀ : ℕ
  N₀ = whole_nodes four_words b.pool

  abbrev r : Run
  r = run_from four_words b before

  R : RunKept four_words four_pools from_start (Follows four_words four_pools) (laws four_words four_pools) P₀ N₀ r
  R = run_kept four_words four_pools b before taken words All-words

  -- a run that has a state can be changed over
  pub changed_taken : r.stateless ≡ false → N₀ ≤ length work → (change_over r.now work).result ≡ 0
  changed_taken e room =
      let B = (R.standing e).0 in
      let K = B.fed.kept in
      let s = r.now.state in
      let f : fits s ≡ true = ap (λ (h : StateAndPool). fits h.state) K.held ∙ fits_true (state_of K.core) (core-fits four_words four_pools (carried four_words four_pools _ K.core K.follows)) in
      let q : is_sound four_words s r.now.pool ≡ true = fed_sound four_words four_pools from_start (Follows four_words four_pools) (laws four_words four_pools) P₀ N₀ B.fed in
      convert_checks s r.now.pool work ∙ rw (f, le-ltb (length work) (numbers_of s).nodes (omega (arith, B.nodes, room)), q) refl

  module _ (accepted : (change_over r.now work).result ≡ 0) where
    has_state : r.stateless ≡ false
    has_state = elim (decided r.stateless) [ inl e ↦ absurd (not_taken r.now work (convert_taken r.now.state r.now.pool work accepted) (R.none e)) | inr e ↦ e ]

    pool_is : (change_over r.now work).pool ≡ converted (numbers_of r.now.state).nodes r.now.pool
    pool_is = ap (λ (o : ConvertResult). o.pool) (convert_taken r.now.state r.now.pool work accepted).is

    abbrev changed : StateAndPool → StateAndPool
    changed h = record { state = h.state; pool = converted (numbers_of h.state).nodes h.pool }

    pub changed_kept : RunKept two_words two_pools from_start (Follows two_words two_pools) (laws two_words two_pools) P₀ N₀ (changed_over r work)
    changed_kept =
        let B = (R.standing has_state).0 in
        let K = B.fed.kept in
        let held = ap (λ (ws : List ℕ). record { state = r.now.state; pool = ws }) pool_is ∙ ap changed K.held in
        let W = subst Words (sym pool_is) (words-converted (numbers_of r.now.state).nodes r.now.pool B.words.pool) in
        record {
          long = R.long;
          same = R.same;
          standing = λ e. (
            record {
              fed = record { long = R.long; kept = record { core = with_pool K.core (converted K.core.head.numbers.nodes K.core.pool); held = held; follows = follows_changed _ K.core K.follows }; same = R.same };
              words = record { numbers = B.words.numbers; deques = B.words.deques; frames = B.words.frames; pool = W };
              nodes = B.nodes;
            },
            (refl, refl),
          );
          none = λ e. absurd (true≢false (sym e ∙ has_state));
          images = λ i. absent refl;
          places = R.places;
        }

-- ---- demands 2 and 3

module _ (b : Start) (before : List Call) (work : List ℕ) (after : List Call) (taken : (start_result four_words b).result ≡ 0) (words : StartWords b) (All-words : AllCallWords before)
    (accepted : (change_over (run_from four_words b before).now work).result ≡ 0) (words-after : AllCallWords after) where
  run_changed : RunKept two_words two_pools from_start (Follows two_words two_pools) (laws two_words two_pools) (plain_begun four_words b) (whole_nodes four_words b.pool) (changed_run b before work after)
  run_changed =
      kept_calls two_words two_pools from_start (Follows two_words two_pools) (laws two_words two_pools) (plain_begun four_words b) (whole_nodes four_words b.pool) after (changed_over (run_from four_words b before) work) words-after
      (changed_kept b before work taken words All-words accepted)

  pub changed_demand2 : ChangedDemand2 b before work after
  changed_demand2 = answers_by_lem two_words two_pools from_start (Follows two_words two_pools) (laws two_words two_pools) (plain_begun four_words b) (whole_nodes four_words b.pool) (changed_run b before work after) run_changed

  pub changed_demand3 : ChangedReturned b before work after → (parts : State) (ws : List ℕ) (works : ℕ → List ℕ) → fits parts ≡ true → length parts.frames ≡ length b.parts.frames
      → whole_nodes two_words ws ≡ whole_nodes four_words b.pool → ((j : ℕ) → whole_nodes four_words b.pool ≤ length (works j)) → ChangedDemand3 b before work after parts ws works
  changed_demand3 returned parts ws works parts_fit same_places as_many long =
      one_worker two_words two_pools b.workers b.values (whole_nodes four_words b.pool) (length b.parts.frames) (changed_run b before work after) run_changed returned parts ws works parts_fit
      (alone_fit four_words two_words parts.frames ws same_places as_many (started_fit four_words b.parts b.workers b.values b.pool taken).fit) same_places as_many long
