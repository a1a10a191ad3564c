-- All live frames' trees visited: the stamps tell the nodes reached and their levels, the links counted are the holders.
use Rattle.std.specs.Prelude.{◌≡◌, refl, Bool, true, false, cond, ◌&&◌, List, [], ◌∷◌, ◌++◌, ltb, leb, length, get_or}
use Rattle.std.proofs.Common.{sym, ap, ◌∙◌, arith, le-leb, leb-true}
use Rattle.std.proofs.Math.Logic.{inl, inr}
use Prim.Native.Nat.{ℕ, zero, suc, ◌+◌, ◌-◌, ◌*◌, ◌≤◌, ◌<◌, min}
use Rattle.std.proofs.Math.Decide.{ℕ_discrete}
use Rattle.words.specs.Basics.{sum, all, count}
use Rattle.words.specs.Counting.{δ_le, count_nil, count_cons, count-append, sum_cong, sum_zero, all_at, all_of, how_many-some}
use Rattle.words.specs.Tallies.{same_tests, how_many_one, how_many_unique, how_many_pos, some_at, some_of, and_of}
use Rattle.words.specs.Tests.{decided, both, lt_of, ltb_of, ge_of, true≢false}
use Rattle.sizes.specs.Sizes.{height}
use Rattle.sizes.specs.Heights.{height_covers, height_le}
use Rattle.sizes.specs.Leaves.{leaves, leaves-top}
use Rattle.frames.specs.declared.Frame.{Frame}
use Rattle.frames.specs.Widths.{max_places}
use Rattle.frames.specs.Frames.{frame_at}
use Rattle.soundness.specs.PackedTrees.{tree_at, trees_at, nodes_on, reached_on, is_on, levels_of, is_reached, is_inner, holders}
use Rattle.soundness.specs.Soundness.{lives, roots_below, live_roots}
use Rattle.pool_check.specs.Algorithm.{mark, links, visit_place, visit_places}
use Rattle.pool_check.specs.Theory.Kept.{places_keeps}
use Rattle.pool_check.specs.Theory.Shape.{Fits}
use Rattle.pool_check.specs.Theory.Places.{root_at, count_roots}
use Rattle.packed_check.specs.TwoWords.{two}
use Rattle.pool_check.specs.Theory.Ways.{place-live, place_free_lem}
use Rattle.packed_check.specs.Theory.Shape.{tree, tree_is, nodes_is, nodes-above}
use Rattle.packed_check.specs.Theory.Stamps.{level_of, on, on_zero, on_one, on_le, on_back, inner, link_to, links_to}
use Rattle.packed_check.specs.Theory.Visit.{Adds, Settled, tally, visit_shows}
use Rattle.packed_check.specs.Theory.Succeeds.{Honest, visit_succeeds}

-- ---- lists of roots

trees_append : (n N : ℕ) (ws rs ss : List ℕ) → trees_at n N ws (rs ++ ss) ≡ trees_at n N ws rs && trees_at n N ws ss
trees_append n N ws [] ss = refl
trees_append n N ws (r ∷ rs) ss = elim (decided (tree_at n N ws (height n) 0 r)) [ inl e ↦ rw e (trees_append n N ws rs ss) | inr e ↦ rw e ]

count-reached : (n : ℕ) (ws rs ss : List ℕ) (j x : ℕ) → count x (reached_on n ws (rs ++ ss) j) ≡ count x (reached_on n ws rs j) + count x (reached_on n ws ss j)
count-reached n ws [] ss j x = omega (arith, count_nil x)
count-reached n ws (r ∷ rs) ss j x =
    omega (arith, count-append x (nodes_on n ws j (height n) 0 r) (reached_on n ws (rs ++ ss) j), count-append x (nodes_on n ws j (height n) 0 r) (reached_on n ws rs j), count-reached n ws rs ss j x)

count_one : (n : ℕ) (ws : List ℕ) (r j x : ℕ) → count x (reached_on n ws (r ∷ []) j) ≡ count x (nodes_on n ws j (height n) 0 r)
count_one n ws r j x = omega (arith, count-append x (nodes_on n ws j (height n) 0 r) [], count_nil x)

all-leaves : (n : ℕ) → n ≡ leaves n (height n) 0
all-leaves n = sym (leaves-top n (height n) (height_covers n))

-- no node is reached on a level above the roots'
reached_within : (n : ℕ) (ws rs : List ℕ) (j x : ℕ) → 0 < count x (reached_on n ws rs j) → j < suc (height n)
reached_within n ws [] j x p = absurd (omega (arith, count_nil x))
reached_within n ws (r ∷ rs) j x p = elim (decided (ltb j (suc (height n)))) [
  | inl e ↦ lt_of e
  | inr e ↦ (
      let h : suc (height n) ≤ j = ge_of e in
      let z : nodes_on n ws j (height n) 0 r ≡ [] = sym (nodes_is n ws j (height n) 0 n r (all-leaves n)) ∙ nodes-above ws j (height n) n r (omega arith) in
      reached_within n ws rs j x (omega (arith, count-append x (nodes_on n ws j (height n) 0 r) (reached_on n ws rs j), ap (count x) z, count_nil x)))
]

-- ---- what visits of the trees of roots rs make of w

pub record AddsAll (n N : ℕ) (ws rs w w' : List ℕ) : Type 0 where
  pub levels : (j x : ℕ) → x < N → on w' j x ≡ min 1 (on w j x + count x (reached_on n ws rs j))
  pub counts : (x : ℕ) → x < N → links w' x + links_to N ws w x ≡ links w x + count x rs + links_to N ws w' x

adds_nil : (n N : ℕ) (ws w : List ℕ) → AddsAll n N ws [] w w
adds_nil n N ws w = record { levels = λ j x b. omega (arith, count_nil x, on_le w j x); counts = λ x b. omega (arith, count_nil x) }

adds_append : (n N : ℕ) (ws rs ss w w' w'' : List ℕ) → AddsAll n N ws rs w w' → AddsAll n N ws ss w' w'' → AddsAll n N ws (rs ++ ss) w w''
adds_append n N ws rs ss w w' w'' p q = record {
  levels = λ j x b. omega (arith, p.levels j x b, q.levels j x b, count-reached n ws rs ss j x);
  counts = λ x b. omega (arith, p.counts x b, q.counts x b, count-append x rs ss);
}

adds_root : (n N : ℕ) (ws : List ℕ) (r : ℕ) (w w' : List ℕ) → Adds N ws r (tally ws (height n) n r) w w' → AddsAll n N ws (r ∷ []) w w'
adds_root n N ws r w w' p = record {
  levels = λ j x b. omega (arith, p.levels j x b, count_one n ws r j x, ap (count x) (nodes_is n ws j (height n) 0 n r (all-leaves n)));
  counts = λ x b. omega (arith, p.counts x b, count_cons x r [], count_nil x);
}

-- what the visits of the trees of roots rs show, if they succeed
record Shown (n N : ℕ) (ws rs w w' : List ℕ) : Type 0 where
  trees : trees_at n N ws rs ≡ true
  adds : AddsAll n N ws rs w w'
  settled : Settled n N ws (suc (height n)) w'

shown_append : (n N : ℕ) (ws rs ss w w' w'' : List ℕ) → Shown n N ws rs w w' → Shown n N ws ss w' w'' → Shown n N ws (rs ++ ss) w w''
shown_append n N ws rs ss w w' w'' p q = record {
  trees = rw (trees_append n N ws rs ss, p.trees) q.trees;
  adds = adds_append n N ws rs ss w w' w'' p.adds q.adds;
  settled = q.settled;
}

-- ---- the places

module _ (n N : ℕ) (fs : List Frame) (ws : List ℕ) where
  -- one place, and those below c
  abbrev place : ℕ → List ℕ → List ℕ × Bool
  place = visit_place two n (height n) N fs ws

  abbrev places : ℕ → List ℕ → List ℕ × Bool
  places = visit_places two n (height n) N fs ws

  all_fit : Fits n (height n) n
  all_fit = record { some = omega arith; most = omega arith; covered = height_covers n }

  root_tree : (r : ℕ) → tree N ws (height n) n r ≡ tree_at n N ws (height n) 0 r
  root_tree r = tree_is n N ws (height n) 0 n r (all-leaves n)

  module _ (small : n ≤ 256) (few : N ≤ 16384) where
    level : height n ≤ 8
    level = height_le n 8 (omega arith)

    -- ---- visits that succeed

    place_shows : (p : ℕ) (w : List ℕ) → N ≤ length w → ((x : ℕ) → x < N → links w x < max_places + links_to N ws w x) → Settled n N ws (suc (height n)) w
        → (place p w).1 ≡ true → Shown n N ws (root_at fs p) w (place p w).0
    place_shows p w r h S = elim (decided (lives fs p)) [
      | inl e ↦
          rw (place-live two n (height n) N fs ws p w e, e) (λ t.
          let root = (frame_at fs p).root in
          let v = visit_shows n N ws small few (height n) n root w all_fit level r (λ x b. omega (arith, h x b, δ_le x root)) S t in
          record {
            trees = rw (← root_tree root, v.0);
            adds = adds_root n N ws root w _ v.1.adds;
            settled = v.1.settled;
          })
      | inr e ↦ rw (place_free_lem two n (height n) N fs ws p w e, e) (λ t. record { trees = refl; adds = adds_nil n N ws w; settled = S })
    ]

    places_shows : (c : ℕ) (w : List ℕ) → c ≤ max_places → N ≤ length w → ((x : ℕ) → x < N → get_or w x 0 ≡ 0) → (places c w).1 ≡ true → Shown n N ws (roots_below fs c) w (places c w).0
    unfolding visit_places roots_below
    places_shows zero w m r z t = record { trees = refl; adds = adds_nil n N ws w; settled = λ x l' k' b f lt one e. absurd (omega (arith, z x b)) }
    places_shows (suc c) w m r z t = elim (decided (places c w).1) [
      | inl e ↦ (
          let w₁ = (places c w).0 in
          let P = places_shows c w (omega arith) r z e in
          let room : (x : ℕ) → x < N → links w₁ x < max_places + links_to N ws w₁ x = λ x b. omega (arith, P.adds.counts x b, z x b, count_roots fs c x) in
          rw e (shown_append n N ws (roots_below fs c) (root_at fs c) w w₁ _ P (place_shows c w₁ (omega (arith, (places_keeps two n N fs ws c w).size)) room P.settled (rw e at t))))
      | inr e ↦ absurd (true≢false (sym (rw e at t)))
    ]

    -- ---- visits of trees in which no node is reached on two levels, as On tells them

    module _ (On : ℕ → ℕ → Type 0) (one : (x j j' : ℕ) → x < N → On j x → On j' x → j ≡ j') where
      -- the nodes reached from roots rs
      abbrev OnAll : List ℕ → Type 0
      OnAll rs = (j x : ℕ) → 0 < count x (reached_on n ws rs j) → On j x

      place_succeeds : (p : ℕ) (w : List ℕ) → N ≤ length w → Honest n N ws On w → trees_at n N ws (root_at fs p) ≡ true → OnAll (root_at fs p) → ((place p w).1 ≡ true) × Honest n N ws On (place p w).0
      place_succeeds p w r H = elim (decided (lives fs p)) [
        | inl e ↦
            rw (place-live two n (height n) N fs ws p w e, e) (λ t O.
            let root = (frame_at fs p).root in
            visit_succeeds n N ws small few On one (height n) n root w all_fit level r H (root_tree root ∙ (both (tree_at n N ws (height n) 0 root) true t).0)
            (λ j x b. O j x (omega (arith, count_one n ws root j x, ap (count x) (nodes_is n ws j (height n) 0 n root (all-leaves n))))))
        | inr e ↦ rw (place_free_lem two n (height n) N fs ws p w e, e) (λ t O. (refl, H))
      ]

      places_succeeds : (c : ℕ) (w : List ℕ) → N ≤ length w → Honest n N ws On w → trees_at n N ws (roots_below fs c) ≡ true → OnAll (roots_below fs c) → ((places c w).1 ≡ true) × Honest n N ws On (places c w).0
      unfolding visit_places roots_below
      places_succeeds zero w r H t O = (refl, H)
      places_succeeds (suc c) w r H t O =
          let q = both (trees_at n N ws (roots_below fs c)) (trees_at n N ws (root_at fs c)) (sym (trees_append n N ws (roots_below fs c) (root_at fs c)) ∙ t) in
          let P = places_succeeds c w r H q.0 (λ j x b. O j x (omega (arith, count-reached n ws (roots_below fs c) (root_at fs c) j x))) in
          rw P.0 (place_succeeds c (places c w).0 (omega (arith, (places_keeps two n N fs ws c w).size)) P.1 q.1 (λ j x b. O j x (omega (arith, count-reached n ws (roots_below fs c) (root_at fs c) j x))))

-- ---- all of them, from a work slice of zeros

-- the marks are the nodes reached from the roots rs, each on one level, and the links counted are the holders
pub record Tallied (n N : ℕ) (ws rs w : List ℕ) : Type 0 where
  pub one_level : (x : ℕ) → x < N → levels_of n ws rs x ≤ 1
  pub marks : (x : ℕ) → x < N → mark w x ≡ cond (is_reached n ws rs x) 1 0
  pub counts : (x : ℕ) → x < N → links w x ≡ holders n N ws rs x

module _ (n : ℕ) (ws rs : List ℕ) where
  on_test : (x j : ℕ) → 0 < count x (reached_on n ws rs j) → is_on n ws rs x j ≡ true
  unfolding is_on
  on_test x j p = ltb_of p

  on_fact : (x j : ℕ) → is_on n ws rs x j ≡ true → 0 < count x (reached_on n ws rs j)
  unfolding is_on
  on_fact x j t = lt_of t

-- a number that is 1 just where a test holds
flag : (m : ℕ) (b : Bool) → m ≤ 1 → (m ≡ 1 → b ≡ true) → (b ≡ true → m ≡ 1) → m ≡ cond b 1 0
flag m b h f g = elim (decided b) [ inl e ↦ rw e (g e) | inr e ↦ rw e (elim (ℕ_discrete m 0) [ yes z ↦ z | no z ↦ absurd (true≢false (sym (f (omega arith)) ∙ e)) ]) ]

module _ (n N : ℕ) (ws rs w w' : List ℕ) (zeros : (x : ℕ) → x < N → get_or w x 0 ≡ 0) (p : AddsAll n N ws rs w w') where
  -- a node is reached on level j if and only if its stamp has that level
  by_stamp : (x j : ℕ) → x < N → on w' j x ≡ min 1 (count x (reached_on n ws rs j))
  by_stamp x j b = omega (arith, p.levels j x b, on_zero w j x (omega (arith, zeros x b)))

  stamp_on : (x : ℕ) → x < N → mark w' x ≡ 1 → 0 < count x (reached_on n ws rs (level_of w' x))
  stamp_on x b m = omega (arith, by_stamp x (level_of w' x) b, on_one w' (level_of w' x) x m refl)

  on_stamp : (x j : ℕ) → x < N → is_on n ws rs x j ≡ true → (mark w' x ≡ 1) × (level_of w' x ≡ j)
  on_stamp x j b t = on_back w' j x (omega (arith, by_stamp x j b, on_fact n ws rs x j t))

  level_one : (x : ℕ) → x < N → levels_of n ws rs x ≤ 1
  level_one x b = elim (ℕ_discrete (levels_of n ws rs x) 0) [
    | yes e ↦ omega arith
    | no e ↦ (
        let s = how_many-some (suc (height n)) (is_on n ws rs x) (omega arith) in
        let e' : levels_of n ws rs x ≡ 1 = how_many_one (suc (height n)) s.0 (is_on n ws rs x) s.1 s.2 (λ j h t. sym (on_stamp x j b t).1 ∙ (on_stamp x s.0 b s.2).1) in
        omega arith)
  ]

  all_marks : (x : ℕ) → x < N → mark w' x ≡ cond (is_reached n ws rs x) 1 0
  all_marks x b = flag (mark w' x) (is_reached n ws rs x) (omega arith)
      (λ m. let c = stamp_on x b m in
      let more : 0 < levels_of n ws rs x = how_many_pos (suc (height n)) (level_of w' x) (is_on n ws rs x) (reached_within n ws rs (level_of w' x) x c) (on_test n ws rs x (level_of w' x) c) in
      ltb_of more)
      (λ t. let s = how_many-some (suc (height n)) (is_on n ws rs x) (lt_of t) in (on_stamp x s.0 b s.2).0)

  all-inner : (x : ℕ) → x < N → inner w' x ≡ cond (is_inner n ws rs x) 1 0
  all-inner x b = flag (inner w' x) (is_inner n ws rs x) (omega arith)
      (λ m. let c = stamp_on x b (omega arith) in
      let j : ℕ = level_of w' x - 1 in
      let ej : suc j ≡ level_of w' x = omega arith in
      some_of (height n) (λ k. is_on n ws rs x (suc k)) j (omega (arith, reached_within n ws rs (level_of w' x) x c)) (rw ej (on_test n ws rs x (level_of w' x) c)))
      (λ t. let s = some_at (height n) (λ k. is_on n ws rs x (suc k)) t in let q = on_stamp x (suc s.0) b s.2 in omega (arith, q.1))

  none_before : (x : ℕ) → links_to N ws w x ≡ 0
  none_before x = sum_zero N (λ j. inner w j * link_to ws x j) (λ j b. rw (zeros j b) (omega arith))

  inner-links : (x : ℕ) → links_to N ws w' x ≡ sum N (λ j. cond (is_inner n ws rs j) (link_to ws x j) 0)
  inner-links x = sum_cong N (λ j. inner w' j * link_to ws x j) (λ j. cond (is_inner n ws rs j) (link_to ws x j) 0) (λ j b. times (is_inner n ws rs j) (link_to ws x j) (all-inner j b))
    where
      times : {m : ℕ} (c : Bool) (y : ℕ) → m ≡ cond c 1 0 → m * y ≡ cond c y 0
      times true y e = rw e (omega arith)
      times false y e = rw e (omega arith)

  tallied : Tallied n N ws rs w'
  tallied = record { one_level = level_one; marks = all_marks; counts = λ x b. omega (arith, p.counts x b, zeros x b, none_before x, inner-links x) }

-- "no node is reached on two levels"
abbrev pub on_one_level : ℕ → ℕ → List ℕ → List ℕ → Bool
on_one_level n N ws rs = all N (λ i. leb (levels_of n ws rs i) 1)

module _ (n N : ℕ) (fs : List Frame) (ws w : List ℕ) (table : length fs ≤ max_places) (small : n ≤ 256) (few : N ≤ 16384) (r : N ≤ length w) (z : (x : ℕ) → x < N → get_or w x 0 ≡ 0) where
  shows : (visit_places two n (height n) N fs ws (length fs) w).1 ≡ true → Shown n N ws (live_roots fs) w (visit_places two n (height n) N fs ws (length fs) w).0
  shows t = places_shows n N fs ws small few (length fs) w table r z t

  pub places_tallied : (visit_places two n (height n) N fs ws (length fs) w).1 ≡ true → Tallied n N ws (live_roots fs) (visit_places two n (height n) N fs ws (length fs) w).0
  places_tallied t = tallied n N ws (live_roots fs) w (visit_places two n (height n) N fs ws (length fs) w).0 z (shows t).adds

  succeeds : trees_at n N ws (live_roots fs) ≡ true → on_one_level n N ws (live_roots fs) ≡ true → (visit_places two n (height n) N fs ws (length fs) w).1 ≡ true
  succeeds t o = (places_succeeds n N fs ws small few On one (length fs) w r (λ x b m. absurd (omega (arith, z x b))) t (λ j x b. b)).0
    where
      On : ℕ → ℕ → Type 0
      On j x = 0 < count x (reached_on n ws (live_roots fs) j)

      one : (x j j' : ℕ) → x < N → On j x → On j' x → j ≡ j'
      one x j j' b p q =
          how_many_unique (suc (height n)) j j' (is_on n ws (live_roots fs) x) (leb-true (levels_of n ws (live_roots fs) x) 1 (all_at N (λ i. leb (levels_of n ws (live_roots fs) i) 1) o x b))
          (reached_within n ws (live_roots fs) j x p) (reached_within n ws (live_roots fs) j' x q) (on_test n ws (live_roots fs) x j p) (on_test n ws (live_roots fs) x j' q)

  -- the visits succeed if and only if they are of trees, in which no node is reached on two levels
  pub places_tree : (visit_places two n (height n) N fs ws (length fs) w).1 ≡ trees_at n N ws (live_roots fs) && on_one_level n N ws (live_roots fs)
  places_tree = same_tests _ _
      (λ e. and_of (shows e).trees (all_of N (λ i. leb (levels_of n ws (live_roots fs) i) 1) (λ x b. le-leb (levels_of n ws (live_roots fs) x) 1 ((places_tallied e).one_level x b))))
      (λ e. let p = both (trees_at n N ws (live_roots fs)) (on_one_level n N ws (live_roots fs)) e in succeeds p.0 p.1)
