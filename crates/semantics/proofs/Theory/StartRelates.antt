-- The state and pool of an accepted start relate to the plain machine's start.
use Rattle.std.specs.Prelude.{◌≡◌, refl, cond, length, replicate, eqb}
use Rattle.std.proofs.Math.Path.{sym, ap, subst}
use Rattle.std.proofs.Common.{◌∙◌, inl, arith}
use mathlib.Core.List.Memᴰ.{eq_of_singleton as In-one}
use mathlib.Core.List.Memᴰ.{not-nil as not-in-nil}
use mathlib.Core.List.{Memᴰ as In}
use mathlib.Core.List.{List, [], ◌∷◌}
use Prim.Native.Nat.{ℕ, zero, suc, ◌+◌, ◌-◌, ◌*◌, ◌≤◌, ◌<◌}
use Rattle.std.proofs.Math.Decide.{ℕ_discrete}
use Rattle.std.proofs.Math.ListN.{get_or, length-replicate, get_or-replicate}
use Rattle.words.specs.Basics.{none, count}
use Rattle.words.specs.Lists.{joined_empty}
use Rattle.words.specs.Counting.{δ_same, δ_other, count_nil, count_cons, range, count-range_in, count-range_out}
use Rattle.sizes.specs.Sizes.{height, tree_nodes}
use Rattle.semantics.proofs.Theory.Pools.{Started}
use Rattle.frames.specs.declared.Frame.{Frame as FrameRecord}
use Rattle.frames.specs.Widths.{deque_words}
use Rattle.frames.specs.Frames.{frame_at, main_frame, init_frames}
use Rattle.frames.specs.Deques.{init_deques, deque_list}
use Rattle.frames.proofs.Theory.Start.{length_init, init_main, init_free_lem, init_places_lem, init_shaped, init_first, init_others}
use Rattle.model.specs.Machine.{Frame, live, deque, main, start}
use Rattle.model.proofs.Theory.Effects.{live-start}
use Rattle.model.proofs.Theory.RunSteps.{sizes_start}
use Rattle.semantics.specs.Core.{Core}
use Rattle.semantics.specs.Entries.{first_state, core_of, whole_nodes}
use Rattle.soundness.specs.Numbers.{total_count}
use Rattle.semantics.proofs.Theory.Relation.{Recorded, Relates, places_of, roots_of}
use Rattle.semantics.proofs.Theory.Starts.{Fit}
use Rattle.soundness.specs.Layout.{Layout}
use Rattle.semantics.proofs.Theory.Pools.{PoolLaws}

module _ (layout : Layout) where
  -- the core that an accepted start hands out, over the lent table
  abbrev pub first_core : ℕ → List ℕ → List FrameRecord → List ℕ → Core
  first_core workers vs lent ws =
      core_of (first_state workers (length vs) (whole_nodes layout ws) (layout.start ws (length vs) (whole_nodes layout ws) vs).1 lent) (layout.start ws (length vs) (whole_nodes layout ws) vs).0 (whole_nodes layout ws - tree_nodes (length vs))

module _ (layout : Layout) (pools : PoolLaws layout) where
  get_d_none : {A : Type 0} (n w : ℕ) → get_or (replicate {A = List A} n []) w [] ≡ []
  get_d_none zero w = refl
  get_d_none (suc n) zero = refl
  get_d_none (suc n) (suc w) = get_d_none n w

  module _ (workers : ℕ) (vs : List ℕ) (lent : List FrameRecord) (ws : List ℕ) (F : Fit layout workers vs lent ws) where
    N : ℕ
    N = whole_nodes layout ws

    n : ℕ
    n = length vs

    fs : List FrameRecord
    fs = init_frames lent

    long : length fs ≡ length lent
    unfolding fs
    long = length_init lent

    main_at_lem : frame_at fs 0 ≡ main_frame 0
    unfolding fs
    main_at_lem = init_main lent F.places_positive F.places_le

    room : layout.words * N ≤ length ws
    unfolding N
    room = pools.whole (length ws)

    recorded : (f : Frame) → f ≡ main vs → Recorded fs (λ _. 0) (live (start workers vs N (length lent))) 0 f
    recorded f e = subst (λ g. Recorded fs (λ _. 0) (live (start workers vs N (length lent))) 0 g) (sym e) (subst (λ L. Recorded fs (λ _. 0) L 0 (main vs)) (sym (live-start workers vs N (length lent)))
        (record {
          inside = omega (arith, long, F.places_positive);
          live = ap (λ r. r.live) main_at_lem;
          parent = ap (λ r. r.parent) main_at_lem;
          depth = ap (λ r. r.depth) main_at_lem;
          outstanding = ap (λ r. r.outstanding) main_at_lem;
          suspended = ap (λ r. r.suspended) main_at_lem;
          returning = ap (λ r. r.returning) main_at_lem;
        }))

    pub start_relates : Relates layout (pools.GoodTrees (whole_nodes layout ws) (length vs)) (start workers vs (whole_nodes layout ws) (length lent)) (first_core layout workers vs lent ws)
    unfolding N n fs
    start_relates = record {
      at = λ _. 0;
      gs = range (length lent - 1) 1;
      numbers = record {
        workers = sym (sizes_start workers vs N (length lent) F.workers_positive);
        workers_positive = omega (arith, sizes_start workers vs N (length lent) F.workers_positive, F.workers_positive);
        workers_le = omega (arith, sizes_start workers vs N (length lent) F.workers_positive, F.workers_le);
        splitters = refl;
        splitters_positive = F.values_positive;
        splitters_le = F.values_le;
        height_is = refl;
        enough = F.enough;
        nodes_le = F.nodes_le;
        places = refl;
        places_positive = F.places_positive;
        table = sym long;
      };
      formed = record { shaped = init_shaped; few = omega (arith, long, F.places_le); places = init_places_lem lent F.places_positive F.places_le };
      deques = deque_at;
      running = λ f m. recorded f (In-one (subst (λ L. In f L) (ap (λ z. main vs ∷ z) (joined_empty (workers - 1))) m));
      waiting = λ f m. absurd (not-in-nil m);
      once = λ p b. subst (λ L. count p (range (length lent - 1) 1) + count p (places_of (λ _. 0) L) ≡ 1) (sym (live-start workers vs N (length lent))) (once_at p (omega (arith, long, b)));
      vacant = λ p b c. (cond (eqb p (length lent - 1)) none (suc p), init_free_lem lent F.places_positive F.places_le p (not_first p c) (omega (arith, long, b)));
      totals = record { long = length-replicate {A = ℕ} total_count 0; zero = λ f m e i b. get_or-replicate total_count i 0 0 b };
      trees = subst (λ L. pools.GoodTrees N n words first free_count (roots_of fs (λ _. 0) L)) (sym (live-start workers vs N (length lent)))
          (subst (λ (r : ℕ). pools.GoodTrees N n words first free_count ((r, []) ∷ [])) (sym root_is) started.0);
      values = λ f m x b. (let e : f ≡ main vs = In-one (subst (λ L. In f L) (live-start workers vs N (length lent)) m) in
          ap (λ (r : ℕ). layout.read (height n) words r x) root_is ∙ started.2 x b ∙ ap (λ g. get_or g.values x 0) (sym e));
    }
      where
        words : List ℕ
        words = (layout.start ws n N vs).0

        first : ℕ
        first = (layout.start ws n N vs).1

        free_count : ℕ
        free_count = N - tree_nodes n

        started : Started layout N n (pools.GoodTrees N n) ws vs (layout.start ws n N vs)
        started = pools.good_start N n F.nodes_le F.values_positive ws vs F.enough room

        root_is : (frame_at fs 0).root ≡ 0
        root_is = ap (λ r. r.root) main_at_lem

        not_first : (p : ℕ) → 0 < count p (range (length lent - 1) 1) → 1 ≤ p
        not_first p c = elim (ℕ_discrete p 0) [ yes e ↦ absurd (omega (arith, count-range_out (length lent - 1) 1 p (inl (omega arith)))) | no e ↦ omega arith ]

        deque_at : (w : ℕ) → w < 8 → deque_list (init_deques (replicate deque_words 0)) w ≡ places_of (λ _. 0) (deque (start workers vs N (length lent)) w)
        deque_at zero b = init_first
        deque_at (suc w) b = init_others (suc w) (omega arith) b ∙ sym (ap (places_of (λ _. 0)) (get_d_none (workers - 1) w))

        once_at : (p : ℕ) → p < length lent → count p (range (length lent - 1) 1) + count p (0 ∷ []) ≡ 1
        once_at p b = elim (ℕ_discrete p 0) [
          | yes e ↦ omega (arith, count-range_out (length lent - 1) 1 p (inl (omega arith)), count_cons p 0 [], count_nil p, ap (λ q. Rattle.words.specs.Basics.δ q 0) e, δ_same 0)
          | no e ↦ omega (arith, count-range_in (length lent - 1) 1 p (omega arith) (omega arith), count_cons p 0 [], count_nil p, δ_other p 0 e)
        ]
