-- Runs with saves and readings among their calls, over any relation `Follows P c` that each record keeps: each call keeps that what the
-- run has behind it was answered as the specification says and has led to its state, and the same of each image that is kept.
use Rattle.std.proofs.Math.Path.{◌≡◌, ap, subst}
use Rattle.std.specs.Prelude.{refl, Bool, true, false, List, [], ◌∷◌, ◌++◌, map, ℕ, zero, suc, ◌*◌, ◌≤◌, length, take, eqb}
use Rattle.std.proofs.Common.{sym, ◌∙◌, arith, append-nil, eqb-true, eq-eqb}
use Rattle.words.specs.Tests.{true≢false}
use Rattle.words.specs.Below.{Words}
use Rattle.frames.specs.Widths.{deque_words}
use Rattle.soundness.specs.Numbers.{number_count}
use Rattle.image.specs.Image.{image_check, wrong_length}
use Rattle.semantics.specs.Core.{Core}
use Rattle.semantics.specs.Entries.{State, numbers_of, state_of, is_sound, chain_free}
use Rattle.semantics.specs.Images.{saved_image, saved_bytes, load_on}
use Rattle.semantics.specs.Calls.{PoolAt, HostCall, StateAndPool, after_call, Exchange, exchanges_of, records_in, answers_in, pools_at, core_in, Past, Saved, Run, Call, call, save, load, image_at, past_after, save_result, into_table, load_result, images_after, run_after, run_of, begun}
use Rattle.semantics.specs.Demands.{Plain, Specification, answers_by, machine_by, Answers, StateWords, HostWords, CallWords, AllCallWords}
use Rattle.semantics.specs.Promises.{Fits}
use Rattle.semantics.proofs.Theory.Pools.{Beyond}
use Rattle.semantics.proofs.Theory.SoundSteps.{Carried, is_sound_lem}
use Rattle.semantics.proofs.Theory.Elsewhere.{with_pool}
use Rattle.semantics.proofs.Theory.AllWords.{call_words}
use Rattle.semantics.proofs.Theory.Lengths.{call_fits, call_places}
use Rattle.semantics.proofs.Theory.Images.{Refuses, refused_calls, refused_save, accepted_save, sound_room, LoadTaken, load_taken, load_leaves-none, load_fits, load_places, SaysCore, saved_says, loaded_state, loaded_nodes, loaded_words, loaded_beyond}
use Rattle.semantics.proofs.Theory.Runs.{state_and_pool, Laws, KeptBy, Fed, core-fits, beyond_then, fed_then, call_follows}
use Rattle.soundness.specs.Layout.{Layout}
use Rattle.semantics.proofs.Theory.Pools.{PoolLaws}

-- ---- the parts of words keep their lengths, if those that are lent for readings have them

abbrev pub PartsFit : List Call → Type 0
PartsFit [] = Unit {0}
PartsFit (call k ∷ cs) = PartsFit cs
PartsFit (save work target ∷ cs) = PartsFit cs
PartsFit (load i ns ds ws work ∷ cs) = (length ns ≡ number_count) × (length ds ≡ deque_words) × PartsFit cs

module _ (layout : Layout) (pools : PoolLaws layout) where
  pub calls_fit : (cs : List Call) (r : Run) → PartsFit cs → Fits r.now.state → Fits (run_of layout r cs).now.state
  calls_fit [] r p F = F
  calls_fit (call k ∷ cs) r p F = calls_fit cs (run_after layout r (call k)) p (call_fits layout pools r.now k F)
  calls_fit (save work target ∷ cs) r p F = calls_fit cs (run_after layout r (save work target)) p F
  calls_fit (load i ns ds ws work ∷ cs) r p F =
      calls_fit cs (run_after layout r (load i ns ds ws work)) p.2 (load_fits layout pools (into_table r ns ds) ws work (image_at r.images i).bytes (record { numbers = p.0; deques = p.1 }))

  -- ---- what each call keeps

  module _ (S : Specification) (Follows : Plain → Core → Type 0) (L : Laws layout pools S Follows) (P : Plain) (N : ℕ) where
    -- the past p has led to the state and pool h
    pub record Behind (p : Past) (h : StateAndPool) : Type 0 where
      pub fed : Fed S Follows P h p.exchanges p.pools
      pub words : StateWords h.state h.pool
      pub nodes : (numbers_of h.state).nodes ≡ N

    -- an image that was saved, or none
    pub data ImageKept (v : Saved) : Type 0 where
      absent : v.bytes ≡ [] → ImageKept v
      present : (h : StateAndPool) → Behind v.past h → v.bytes ≡ saved_image layout h.state h.pool → ImageKept v

    pub record RunKept (r : Run) : Type 0 where
      pub long : length r.past.pools ≡ length (records_in r.past.exchanges)
      pub same : answers_in r.past.exchanges ≡ answers_by S P (records_in r.past.exchanges) r.past.pools
      pub standing : r.stateless ≡ false → Behind r.past r.now × Beyond layout N r.lent r.now.pool
      pub none : r.stateless ≡ true → Refuses layout r.now
      pub images : (i : ℕ) → ImageKept (image_at r.images i)
      pub places : length r.now.state.frames ≡ P.machine.places

    -- ---- a step or a tape

    -- of a run that has a state
    call_standing : (r : Run) (k : HostCall) → HostWords k → RunKept r → r.stateless ≡ false → Behind (past_after layout r.now r.past k) (after_call layout r.now k) × Beyond layout N r.lent (after_call layout r.now k).pool
    call_standing r k w K e =
        let B = (K.standing e).0 in
        let ks = pools_at layout (core_in layout r.now) (records_in (exchanges_of layout r.now k)) in
        let A = call_follows layout pools S Follows L (machine_by S P (records_in r.past.exchanges) r.past.pools) r.now k B.fed.kept in (
          record {
            fed = fed_then layout pools S Follows L P r.now (after_call layout r.now k) r.past.exchanges (exchanges_of layout r.now k) r.past.pools ks B.fed A.fed;
            words = call_words layout pools r.now k B.words w;
            nodes = A.nodes ∙ B.nodes;
          },
          beyond_then layout N r.lent r.now.pool (after_call layout r.now k).pool (K.standing e).1 (subst (λ n. Beyond layout n r.now.pool (after_call layout r.now k).pool) B.nodes A.beyond),
        )

    -- of a run that has none: nothing is done
    same_past : (r : Run) (k : HostCall) → Refuses layout r.now → past_after layout r.now r.past k ≡ r.past
    same_past r k R =
        ap (λ (es : List Exchange). record { exchanges = r.past.exchanges ++ es; pools = r.past.pools ++ pools_at layout (core_in layout r.now) (records_in es) }) (refused_calls layout r.now k R).1
        ∙ (λ i. record { exchanges = append-nil r.past.exchanges i; pools = append-nil r.past.pools i })

    kept_call : (r : Run) (k : HostCall) → HostWords k → RunKept r → RunKept (run_after layout r (call k))
    kept_call r k w K = go r.stateless refl
      where
        go : (b : Bool) → r.stateless ≡ b → RunKept (run_after layout r (call k))
        go false e =
            let B = call_standing r k w K e in
            record { long = B.0.fed.long; same = B.0.fed.same; standing = λ q. B; none = λ q. absurd (true≢false (sym q ∙ e)); images = K.images; places = call_places layout pools r.now k ∙ K.places }
        go true e =
            let R = K.none e in
            let p = sym (same_past r k R) in
            record {
              long = subst (λ (q : Past). length q.pools ≡ length (records_in q.exchanges)) p K.long;
              same = subst (λ (q : Past). answers_in q.exchanges ≡ answers_by S P (records_in q.exchanges) q.pools) p K.same;
              standing = λ q. absurd (true≢false (sym e ∙ q));
              none = λ q. subst (Refuses layout) (sym (refused_calls layout r.now k R).0) R;
              images = K.images;
              places = call_places layout pools r.now k ∙ K.places;
            }

    -- ---- a save

    image_added : (vs : List Saved) (v : Saved) → ((i : ℕ) → ImageKept (image_at vs i)) → ImageKept v → (i : ℕ) → ImageKept (image_at (vs ++ (v ∷ [])) i)
    image_added [] v K k zero = k
    image_added [] v K k (suc i) = absent refl
    image_added (u ∷ vs) v K k zero = K 0
    image_added (u ∷ vs) v K k (suc i) = image_added vs v (λ j. K (suc j)) k i

    -- what an accepted save has written
    abbrev new_image : Run → List ℕ → List ℕ → Saved
    new_image r work target = record { bytes = take (saved_bytes layout r.now.state) (save_result layout r.now work target).target; past = r.past }

    written : (r : Run) (work target : List ℕ) → RunKept r → (save_result layout r.now work target).result ≡ 0 → (b : Bool) → r.stateless ≡ b → ImageKept (new_image r work target)
    written r work target K z false e = present r.now (K.standing e).0 (accepted_save layout pools r.now work target z).image
    written r work target K z true e = absurd (true≢false (sym (eq-eqb (save_result layout r.now work target).result 0 z) ∙ refused_save layout r.now work target (K.none e)))

    kept_save : (r : Run) (work target : List ℕ) → RunKept r → RunKept (run_after layout r (save work target))
    kept_save r work target K = record { long = K.long; same = K.same; standing = K.standing; none = K.none; images = go (eqb (save_result layout r.now work target).result 0) refl; places = K.places }
      where
        go : (b : Bool) → eqb (save_result layout r.now work target).result 0 ≡ b → (i : ℕ) → ImageKept (image_at (images_after layout r work target) i)
        go false e i = rw e (K.images i)
        go true e i = rw e (image_added r.images (new_image r work target) K.images (written r work target K (eqb-true (save_result layout r.now work target).result 0 e) r.stateless refl) i)

    -- ---- a reading

    abbrev after_load : State → List ℕ → List ℕ → List ℕ → StateAndPool
    after_load s ws work image = record { state = (load_on layout s ws work image).state; pool = (load_on layout s ws work image).pool }

    -- of an image that was saved: the run goes on from there
    module _ (v : Saved) (h : StateAndPool) (B : Behind v.past h) (is : v.bytes ≡ saved_image layout h.state h.pool) (s : State) (ws work : List ℕ) (w : Words ws) (T : LoadTaken layout s ws work v.bytes) where
      c : Core
      c = B.fed.kept.core

      held : h ≡ state_and_pool c
      unfolding c
      held = B.fed.kept.held

      carries : Carried layout pools (machine_by S P (records_in v.past.exchanges) v.past.pools).machine c
      unfolding c
      carries = L.carried _ B.fed.kept.core B.fed.kept.follows

      core-words : StateWords (state_of c) c.pool
      core-words = subst (λ (g : StateAndPool). StateWords g.state g.pool) held B.words

      room : layout.words * c.head.numbers.nodes ≤ length c.pool
      room = sound_room layout (state_of c) c.pool (is_sound_lem layout pools carries).0

      says : SaysCore layout pools v.bytes c
      says = subst (λ (b : List ℕ). SaysCore layout pools b c) (sym (is ∙ ap (λ (g : StateAndPool). saved_image layout g.state g.pool) held)) (saved_says layout pools c core-words (core-fits layout pools carries) (is_sound_lem layout pools carries).0)

      nodes : c.head.numbers.nodes ≡ N
      nodes = sym (ap (λ (g : StateAndPool). (numbers_of g.state).nodes) held) ∙ B.nodes

      pool' : List ℕ
      pool' = (load_on layout s ws work v.bytes).pool

      -- the state is the core's, in the other pool
      goes_on_lem : after_load s ws work v.bytes ≡ state_and_pool (with_pool c pool')
      unfolding pool'
      goes_on_lem = ap (λ (t : State). record { state = t; pool = (load_on layout s ws work v.bytes).pool }) (loaded_state layout pools v.bytes c says room s ws work T)

      loaded : Behind v.past (after_load s ws work v.bytes) × Beyond layout N ws (load_on layout s ws work v.bytes).pool
      unfolding pool' c
      loaded = (
        record {
          fed = record {
            long = B.fed.long;
            kept = record {
              core = with_pool c pool';
              held = goes_on_lem;
              follows = L.elsewhere _ B.fed.kept.core (load_on layout s ws work v.bytes).pool B.fed.kept.follows (loaded_nodes layout pools v.bytes c says room s ws work T);
            };
            same = B.fed.same;
          };
          words = subst (λ (t : State). StateWords t (load_on layout s ws work v.bytes).pool) (sym (loaded_state layout pools v.bytes c says room s ws work T))
              (record { numbers = core-words.numbers; deques = core-words.deques; frames = core-words.frames; pool = loaded_words layout pools v.bytes c says room s ws work T core-words.pool w });
          nodes = ap (λ (t : State). (numbers_of t).nodes) (loaded_state layout pools v.bytes c says room s ws work T) ∙ nodes;
        },
        subst (λ n. Beyond layout n ws (load_on layout s ws work v.bytes).pool) nodes (loaded_beyond layout pools v.bytes c says room s ws work T),
      )

    -- an image without bytes is refused
    no_bytes : (s : State) (ws work : List ℕ) → LoadTaken layout s ws work [] → ⊥
    unfolding image_check wrong_length
    no_bytes s ws work T = let e = T.good in let z : ◌≡◌ {A = ℕ} 0 1 = cc in omega (arith, z)

    load_kept : (v : Saved) → ImageKept v → (s : State) (ws work : List ℕ) → Words ws → LoadTaken layout s ws work v.bytes
        → Behind v.past (after_load s ws work v.bytes) × Beyond layout N ws (load_on layout s ws work v.bytes).pool
    load_kept v (absent e) s ws work w T = absurd (no_bytes s ws work (subst (LoadTaken layout s ws work) e T))
    load_kept v (present h B is) s ws work w T = loaded v h B is s ws work w T

    kept_load : (r : Run) (i : ℕ) (ns ds ws work : List ℕ) → Words ws → RunKept r → RunKept (run_after layout r (load i ns ds ws work))
    kept_load r i ns ds ws work w K = go (eqb (load_result layout r i ns ds ws work).result 0) refl
      where
        go : (b : Bool) → eqb (load_result layout r i ns ds ws work).result 0 ≡ b → RunKept (run_after layout r (load i ns ds ws work))
        go true e =
            let B = load_kept (image_at r.images i) (K.images i) (into_table r ns ds) ws work w (load_taken layout (into_table r ns ds) ws work (image_at r.images i).bytes (eqb-true (load_result layout r i ns ds ws work).result 0 e)) in
            rw e (record { long = B.0.fed.long; same = B.0.fed.same; standing = λ q. B; none = λ q. absurd (true≢false (sym q)); images = K.images; places = load_places layout pools (into_table r ns ds) ws work (image_at r.images i).bytes ∙ K.places })
        go false e = rw e (record { long = K.long; same = K.same; standing = λ q. absurd (true≢false q); none = λ q. load_leaves-none layout (into_table r ns ds) ws work (image_at r.images i).bytes e; images = K.images; places = load_places layout pools (into_table r ns ds) ws work (image_at r.images i).bytes ∙ K.places })

    -- ---- any call, and calls

    pub kept_after : (r : Run) (c : Call) → CallWords c → RunKept r → RunKept (run_after layout r c)
    kept_after r (call k) w K = kept_call r k w K
    kept_after r (save work target) w K = kept_save r work target K
    kept_after r (load i ns ds ws work) w K = kept_load r i ns ds ws work w K

    pub kept_calls : (cs : List Call) (r : Run) → AllCallWords cs → RunKept r → RunKept (run_of layout r cs)
    kept_calls [] r w K = K
    kept_calls (c ∷ cs) r w K = kept_calls cs (run_after layout r c) w.1 (kept_after r c w.0 K)

    pub kept_begun : (h : StateAndPool) → KeptBy Follows h P → StateWords h.state h.pool → (numbers_of h.state).nodes ≡ N → RunKept (begun h)
    kept_begun h K w e = record {
      long = refl;
      same = refl;
      standing = λ q. (record { fed = record { long = refl; kept = K; same = refl }; words = w; nodes = e }, (refl, refl));
      none = λ q. absurd (true≢false (sym q));
      images = λ i. absent refl;
      places = ap (λ (g : StateAndPool). length g.state.frames) K.held ∙ sym (L.carried P K.core K.follows).related.numbers.table;
    }

    -- steps and tapes alone, whatever they hand in
    pub fed_calls : (ks : List HostCall) (r : Run) → Fed S Follows P r.now r.past.exchanges r.past.pools
        → let r' = run_of layout r (map call ks) in Fed S Follows P r'.now r'.past.exchanges r'.past.pools
    fed_calls [] r F = F
    fed_calls (k ∷ ks) r F =
        let A = call_follows layout pools S Follows L (machine_by S P (records_in r.past.exchanges) r.past.pools) r.now k F.kept in
        fed_calls ks (run_after layout r (call k)) (fed_then layout pools S Follows L P r.now (after_call layout r.now k) r.past.exchanges (exchanges_of layout r.now k) r.past.pools (pools_at layout (core_in layout r.now) (records_in (exchanges_of layout r.now k))) F A.fed)

    pub fed_sound : {h : StateAndPool} {es : List Exchange} {ks : List PoolAt} → Fed S Follows P h es ks → is_sound layout h.state h.pool ≡ true
    fed_sound F = let E = F.kept in ap (λ (q : StateAndPool). is_sound layout q.state q.pool) E.held ∙ (is_sound_lem layout pools (L.carried _ E.core E.follows)).0

    pub answers_by_lem : (r : Run) → RunKept r → Answers layout S P N r
    answers_by_lem r K = record {
      same-answers = K.same;
      same_free = λ e. (let E = (K.standing e).0.fed.kept in let C = L.carried _ E.core E.follows in ap (λ (q : StateAndPool). chain_free layout q.state q.pool) E.held ∙ (is_sound_lem layout pools C).1 ∙ C.same_free);
      still_sound = λ e. fed_sound (K.standing e).0.fed;
      same_length = λ e. (K.standing e).1.0;
      beyond = λ e. (K.standing e).1.1;
      same_places = K.places;
    }
