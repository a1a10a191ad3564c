-- A steal moves the victim's top frame to the thief: only the deques change.
use Rattle.std.specs.Prelude.{◌≡◌, ℕ, ◌<◌, length, get_or, set}
use Rattle.std.proofs.Math.Path.{refl, ap}
use Rattle.std.proofs.Common.{sym, ◌∙◌, subst, inl, inr, arith, length-set, get_or-set_same, get_or-set_other}
use mathlib.Core.List.Memᴰ.{append_left as In-left}
use mathlib.Core.List.Memᴰ.{append_right as In-right}
use mathlib.Core.List.Memᴰ.{head as here}
use mathlib.Core.List.{Memᴰ as In}
use mathlib.Core.List.Permᴰ
use mathlib.Core.List.{List, [], ◌∷◌, cons≢nil, head-eq_of_cons-eq}
use Rattle.std.proofs.Math.Decide.{ℕ_discrete}
use Rattle.std.proofs.lemmas.List.{length-map}
use Rattle.words.specs.Basics.{joined}
use Rattle.words.specs.Lists.{In-perm}
use Rattle.frames.specs.Frames.{frame_at}
use Rattle.frames.specs.Deques.{top as topPlace, deque_list}
use Rattle.frames.specs.Steps.{steal}
use Rattle.frames.proofs.Theory.Lists.{front, last, list_length, list_top}
use Rattle.frames.proofs.Theory.Summary.{Stolen, steal_does}
use Rattle.model.specs.Machine.{Name, Frame, Machine, live, deque, top, below_top}
use Rattle.model.specs.Steps.{stealing, after_steal, after_turn, turn_answer, stolen_depth}
use Rattle.model.proofs.Theory.Effects.{Passes, Steals, steals, below_top-top, there_is_worker}
use Rattle.model.proofs.Theory.RunSteps.{sizes_turn}
use Rattle.semantics.specs.Answers.{answer_words}
use Rattle.semantics.specs.Core.{Core, table_of, steal_on}
use Rattle.semantics.proofs.Theory.Relation.{Trees, TreeLaws, places_of, Recorded, Relates, Keeps}
use Rattle.semantics.proofs.Theory.Places.{count_perm, child_count_perm, in_deque_lem, recorded_kept, same_numbers}
use Rattle.semantics.proofs.Theory.LinksKept.{totals_kept}
use Rattle.semantics.proofs.Theory.RelationFacts.{trees_perm, in_set, lists_with, workers_le}
use Rattle.soundness.specs.Layout.{Layout}

-- ---- a list's last element

module _ (at : Name → ℕ) where
  last_places : (d : List Frame) → last (places_of at d) ≡ places_of at (top d)
  last_places [] = refl
  last_places (f ∷ []) = refl
  last_places (f ∷ g ∷ d) = last_places (g ∷ d)

  front_places : (d : List Frame) → front (places_of at d) ≡ places_of at (below_top d)
  front_places [] = refl
  front_places (f ∷ []) = refl
  front_places (f ∷ g ∷ d) = ap (λ (z : List ℕ). at f.name ∷ z) (front_places (g ∷ d))

in_top : {f : Frame} (d : List Frame) → In f (top d) → In f d
in_top {f} d m = subst (λ (z : List Frame). In f z) (below_top-top d) (In-right (below_top d) m)

in_below : {f : Frame} (d : List Frame) → In f (below_top d) → In f d
in_below {f} d m = subst (λ (z : List Frame). In f z) (below_top-top d) (In-left (top d) m)

module _ (layout : Layout) where
  module _ (P : Trees) (M : Machine) (c : Core) (w v : ℕ) (s : Steals M w v) (r : Relates layout P M c) where
    abbrev next : Machine
    next = after_steal M w v

    victim : v < length M.deques
    victim = there_is_worker M v (omega (arith, s.two))

    victim_list : deque_list c.deques v ≡ places_of r.at (deque M v)
    victim_list = r.deques v (workers_le layout r victim)

    moved : Stolen (table_of c) (steal (table_of c) w v) w v r.gs
    moved =
        steal_does (table_of c) w v r.gs r.formed (workers_le layout r s.worker) (workers_le layout r victim)
        (r.deques w (workers_le layout r s.worker) ∙ ap (places_of r.at) s.idle)
        (omega (arith, s.two, ap length victim_list, length-map (deque M v) (λ (f : Frame). r.at f.name)))

    lists : (u : ℕ) → u < 8 → deque_list (steal (table_of c) w v).deques u ≡ places_of r.at (deque next u)
    lists =
        lists_with r.at (steal (table_of c) w v).deques (set M.deques v (below_top (deque M v))) w (top (deque M v)) (rw (length-set M.deques v (below_top (deque M v))) s.worker)
        (moved.thief ∙ ap last victim_list ∙ last_places r.at (deque M v))
        (λ u h n. elim (ℕ_discrete u v) [
          | yes z ↦ ap (deque_list (steal (table_of c) w v).deques) z ∙ moved.victim ∙ ap front victim_list ∙ front_places r.at (deque M v)
              ∙ ap (places_of r.at) (sym (ap (λ (y : ℕ). get_or (set M.deques v (below_top (deque M v))) y []) z ∙ get_or-set_same M.deques v (below_top (deque M v)) [] victim))
          | no z ↦ moved.deques u h n z ∙ r.deques u h ∙ ap (places_of r.at) (sym (get_or-set_other M.deques v u (below_top (deque M v)) [] z))
        ])

    still_runs : (f : Frame) → In f (joined next.deques) → In f (joined M.deques)
    still_runs f m = elim (in_set (set M.deques v (below_top (deque M v))) w (top (deque M v)) m) [
      | inl i ↦ in_deque_lem M.deques v (in_top (deque M v) i)
      | inr i ↦ elim (in_set M.deques v (below_top (deque M v)) i) [ inl j ↦ in_deque_lem M.deques v (in_below (deque M v) j) | inr j ↦ j ]
    ]

    stays : (u : ℕ) (f : Frame) → Recorded c.frames r.at (live M) u f → Recorded c.frames r.at (live next) u f
    stays u f k = recorded_kept c.frames c.frames r.at r.at (live M) (live next) u f refl refl refl refl (sym (child_count_perm f.name s.same-frames)) k

    related : TreeLaws layout c.head.numbers.nodes M.splitters P → Relates layout P next (steal_on c w v).core
    unfolding steal_on
    related laws = record {
      at = r.at;
      gs = r.gs;
      numbers = same_numbers M c (steal_on c w v).core next.deques M.suspended (sizes_turn M (stealing w v)).workers r.numbers refl refl refl refl refl refl;
      formed = record { shaped = moved.formed.shaped; few = r.formed.few; places = r.formed.places };
      deques = lists;
      running = λ f m. stays 0 f (r.running f (still_runs f m));
      waiting = λ f m. stays 1 f (r.waiting f m);
      once = λ p h. omega (arith, r.once p h, count_perm p (Permᴰ.map (λ (f : Frame). r.at f.name) s.same-frames));
      vacant = r.vacant;
      totals = totals_kept (λ f m. (f, In-perm (Permᴰ.symm s.same-frames) m, refl)) r.totals;
      trees = trees_perm layout c.frames r.at laws s.same-frames r.trees;
      values = λ f m x h. r.values f (In-perm (Permᴰ.symm s.same-frames) m) x h;
    }

    related_keeps : (laws : TreeLaws layout c.head.numbers.nodes M.splitters P) → Keeps layout r (related laws)
    unfolding steal_on related
    related_keeps laws = record {
      same_length = refl;
      places = λ n. refl;
      live = λ p. refl;
      parent = λ p. refl;
      view = λ p. refl;
      link = λ p. refl;
      from = λ f m. (f, In-perm (Permᴰ.symm s.same-frames) m, refl);
      to = λ f m. (f, In-perm s.same-frames m, refl);
      totals = refl;
    }

    -- the top frame's record has its depth
    top_list : topPlace c.deques v ∷ [] ≡ places_of r.at (top (deque M v))
    top_list =
        sym (list_top c.deques v (omega (arith, s.two, list_length c.deques v, ap length victim_list, length-map (deque M v) (λ (f : Frame). r.at f.name))))
        ∙ ap last victim_list ∙ last_places r.at (deque M v)

    top-depth : (t : List Frame) → top (deque M v) ≡ t → (frame_at c.frames (topPlace c.deques v)).depth ≡ stolen_depth t
    top-depth [] z = absurd (cons≢nil (top_list ∙ ap (places_of r.at) z))
    top-depth (f ∷ t) z =
        ap (λ (p : ℕ). (frame_at c.frames p).depth) (head-eq_of_cons-eq (top_list ∙ ap (places_of r.at) z))
        ∙ (r.running f (in_deque_lem M.deques v (in_top (deque M v) (subst (λ (y : List Frame). In f y) (sym z) (here refl))))).depth

  pub sim_steal : (P : Trees) (M : Machine) (c : Core) (w v : ℕ) → TreeLaws layout c.head.numbers.nodes M.splitters P → Passes M (stealing w v) → (r : Relates layout P M c)
      → (r' : Relates layout P (after_turn M (stealing w v)) (steal_on c w v).core) × Keeps layout r r' × (answer_words (steal_on c w v).answer ≡ turn_answer M (stealing w v))
  unfolding steal_on
  sim_steal P M c w v laws h r = let s = steals M w v h in (related P M c w v s r laws, related_keeps P M c w v s r laws, ap (λ (z : ℕ). (103, z)) (top-depth P M c w v s r (top (deque M v)) refl))
