-- All live frames' trees visited: the marks are the nodes reached, the links counted are the holders of document 01.
use Rattle.std.specs.Prelude.{◌≡◌, refl, Bool, true, cond, ◌&&◌, List, [], ◌∷◌, ◌++◌, ltb, length, get_or}
use Rattle.std.proofs.Common.{sym, ◌∙◌, arith}
use Rattle.std.proofs.Math.Logic.{inl, inr}
use Prim.Native.Nat.{ℕ, zero, suc, ◌+◌, ◌*◌, ◌≤◌, ◌<◌, min}
use Rattle.words.specs.Basics.{sum, count}
use Rattle.words.specs.Counting.{δ_le, count_nil, count_cons, count-append, sum_cong, sum_zero}
use Rattle.words.specs.Tests.{decided, both, ltb_of, true≢false}
use Rattle.sizes.specs.Sizes.{height}
use Rattle.sizes.specs.Heights.{height_covers, height_le}
use Rattle.sizes.specs.Leaves.{leaves, leaves-top}
use Rattle.frames.specs.declared.Frame.{Frame}
use Rattle.frames.specs.Widths.{max_places}
use Rattle.frames.specs.Frames.{frame_at}
use Rattle.soundness.specs.Soundness.{lives, roots_below, live_roots}
use Rattle.soundness.specs.Trees.{tree_at, trees_at, nodes_at, reached, is_reached, holders}
use Rattle.pool_check.specs.Algorithm.{mark, links, visit_place, visit_places}
use Rattle.pool_check.specs.FourWords.{four}
use Rattle.pool_check.specs.Theory.Ways.{place-live, place_free_lem}
use Rattle.pool_check.specs.Theory.Kept.{places_keeps}
use Rattle.pool_check.specs.Theory.Shape.{tree, tree_is, nodes_is, Fits}
use Rattle.pool_check.specs.Theory.Stamps.{link_to, links_to}
use Rattle.pool_check.specs.Theory.Visit.{Adds, Settled, visit_shows}
use Rattle.pool_check.specs.Theory.Succeeds.{Honest, visit_succeeds}

-- ---- lists of roots

trees_append : (n N : ℕ) (ws rs ss : List ℕ) → trees_at n N ws (rs ++ ss) ≡ trees_at n N ws rs && trees_at n N ws ss
trees_append n N ws [] ss = refl
trees_append n N ws (r ∷ rs) ss = elim (decided (tree_at n N ws (height n) 0 r)) [ inl e ↦ rw e (trees_append n N ws rs ss) | inr e ↦ rw e ]

count-reached : (n : ℕ) (ws rs ss : List ℕ) (x : ℕ) → count x (reached n ws (rs ++ ss)) ≡ count x (reached n ws rs) + count x (reached n ws ss)
count-reached n ws [] ss x = omega (arith, count_nil x)
count-reached n ws (r ∷ rs) ss x =
    omega (arith, count-append x (nodes_at n ws (height n) 0 r) (reached n ws (rs ++ ss)), count-append x (nodes_at n ws (height n) 0 r) (reached n ws rs), count-reached n ws rs ss x)

-- the root of the frame at place p, if it lives
abbrev pub root_at : List Frame → ℕ → List ℕ
root_at fs p = cond (lives fs p) ((frame_at fs p).root ∷ []) []

count_root : (fs : List Frame) (p x : ℕ) → count x (root_at fs p) ≤ 1
count_root fs p x = elim (decided (lives fs p)) [
  | inl e ↦ rw e (omega (arith, count_cons x (frame_at fs p).root [], count_nil x, δ_le x (frame_at fs p).root))
  | inr e ↦ rw e (omega (arith, count_nil x))
]

pub count_roots : (fs : List Frame) (c x : ℕ) → count x (roots_below fs c) ≤ c
unfolding roots_below
count_roots fs zero x = omega (arith, count_nil x)
count_roots fs (suc c) x = omega (arith, count_roots fs c x, count-append x (roots_below fs c) (root_at fs c), count_root fs c x)

-- ---- what visits of the trees of roots rs make of w

pub record AddsAll (n N : ℕ) (ws rs w w' : List ℕ) : Type 0 where
  pub marks : (x : ℕ) → x < N → mark w' x ≡ min 1 (mark w x + count x (reached n ws rs))
  pub counts : (x : ℕ) → x < N → links w' x + links_to N ws w x ≡ links w x + count x rs + links_to N ws w' x

adds_nil : (n N : ℕ) (ws w : List ℕ) → AddsAll n N ws [] w w
adds_nil n N ws w = record { marks = λ x b. omega (arith, count_nil x); counts = λ x b. omega (arith, count_nil x) }

adds_append : (n N : ℕ) (ws rs ss w w' w'' : List ℕ) → AddsAll n N ws rs w w' → AddsAll n N ws ss w' w'' → AddsAll n N ws (rs ++ ss) w w''
adds_append n N ws rs ss w w' w'' p q = record {
  marks = λ x b. omega (arith, p.marks x b, q.marks x b, count-reached n ws rs ss x);
  counts = λ x b. omega (arith, p.counts x b, q.counts x b, count-append x rs ss);
}

adds_root : (n N : ℕ) (ws : List ℕ) (r : ℕ) (w w' : List ℕ) → Adds N ws r (nodes_at n ws (height n) 0 r) w w' → AddsAll n N ws (r ∷ []) w w'
adds_root n N ws r w w' p = record {
  marks = λ x b. omega (arith, p.marks x b, count-append x (nodes_at n ws (height n) 0 r) [], count_nil x);
  counts = λ x b. omega (arith, p.counts x b, count_cons x r [], count_nil x);
}

-- what the visits of the trees of roots rs show, if they succeed
record Shown (n N : ℕ) (ws rs w w' : List ℕ) : Type 0 where
  trees : trees_at n N ws rs ≡ true
  adds : AddsAll n N ws rs w w'
  settled : Settled n N ws (suc (height n)) w'

shown_append : (n N : ℕ) (ws rs ss w w' w'' : List ℕ) → Shown n N ws rs w w' → Shown n N ws ss w' w'' → Shown n N ws (rs ++ ss) w w''
shown_append n N ws rs ss w w' w'' p q = record {
  trees = rw (trees_append n N ws rs ss, p.trees) q.trees;
  adds = adds_append n N ws rs ss w w' w'' p.adds q.adds;
  settled = q.settled;
}

-- ---- the places

module _ (n N : ℕ) (fs : List Frame) (ws : List ℕ) where
  -- one place, and those below c
  abbrev place : ℕ → List ℕ → List ℕ × Bool
  place = visit_place four n (height n) N fs ws

  abbrev places : ℕ → List ℕ → List ℕ × Bool
  places = visit_places four n (height n) N fs ws

  all-leaves : n ≡ leaves n (height n) 0
  all-leaves = sym (leaves-top n (height n) (height_covers n))

  all_fit : Fits n (height n) n
  all_fit = record { some = omega arith; most = omega arith; covered = height_covers n }

  root_tree : (r : ℕ) → tree N ws (height n) n r ≡ tree_at n N ws (height n) 0 r
  root_tree r = tree_is n N ws (height n) 0 n r all-leaves

  module _ (small : n ≤ 256) (few : N ≤ 16384) where
    level : height n ≤ 8
    level = height_le n 8 (omega arith)

    -- ---- visits that succeed

    place_shows : (p : ℕ) (w : List ℕ) → N ≤ length w → ((x : ℕ) → x < N → links w x < max_places + links_to N ws w x) → Settled n N ws (suc (height n)) w
        → (place p w).1 ≡ true → Shown n N ws (root_at fs p) w (place p w).0
    place_shows p w r h S = elim (decided (lives fs p)) [
      | inl e ↦
          rw (place-live four n (height n) N fs ws p w e, e) (λ t.
          let root = (frame_at fs p).root in
          let v = visit_shows n N ws small few (height n) n root w all_fit level r (λ x b. omega (arith, h x b, δ_le x root)) S t in
          record {
            trees = rw (← root_tree root, v.0);
            adds = adds_root n N ws root w _ (rw (nodes_is n ws (height n) 0 n root all-leaves) at v.1.adds);
            settled = v.1.settled;
          })
      | inr e ↦ rw (place_free_lem four n (height n) N fs ws p w e, e) (λ t. record { trees = refl; adds = adds_nil n N ws w; settled = S })
    ]

    places_shows : (c : ℕ) (w : List ℕ) → c ≤ max_places → N ≤ length w → ((x : ℕ) → x < N → get_or w x 0 ≡ 0) → (places c w).1 ≡ true → Shown n N ws (roots_below fs c) w (places c w).0
    unfolding visit_places roots_below
    places_shows zero w m r z t = record { trees = refl; adds = adds_nil n N ws w; settled = λ x l' k' b f lt one e. absurd (omega (arith, z x b)) }
    places_shows (suc c) w m r z t = elim (decided (places c w).1) [
      | inl e ↦ (
          let w₁ = (places c w).0 in
          let P = places_shows c w (omega arith) r z e in
          let room : (x : ℕ) → x < N → links w₁ x < max_places + links_to N ws w₁ x = λ x b. omega (arith, P.adds.counts x b, z x b, count_roots fs c x) in
          rw e (shown_append n N ws (roots_below fs c) (root_at fs c) w w₁ _ P (place_shows c w₁ (omega (arith, (places_keeps four n N fs ws c w).size)) room P.settled (rw e at t))))
      | inr e ↦ absurd (true≢false (sym (rw e at t)))
    ]

    -- ---- visits of trees

    place_succeeds : (p : ℕ) (w : List ℕ) → N ≤ length w → Honest n N ws w → trees_at n N ws (root_at fs p) ≡ true → ((place p w).1 ≡ true) × Honest n N ws (place p w).0
    place_succeeds p w r H = elim (decided (lives fs p)) [
      | inl e ↦
          rw (place-live four n (height n) N fs ws p w e, e) (λ t.
          let root = (frame_at fs p).root in
          visit_succeeds n N ws small few (height n) n root w all_fit level r H (root_tree root ∙ (both (tree_at n N ws (height n) 0 root) true t).0))
      | inr e ↦ rw (place_free_lem four n (height n) N fs ws p w e, e) (λ t. (refl, H))
    ]

    places_succeeds : (c : ℕ) (w : List ℕ) → N ≤ length w → Honest n N ws w → trees_at n N ws (roots_below fs c) ≡ true → ((places c w).1 ≡ true) × Honest n N ws (places c w).0
    unfolding visit_places roots_below
    places_succeeds zero w r H t = (refl, H)
    places_succeeds (suc c) w r H t =
        let q = both (trees_at n N ws (roots_below fs c)) (trees_at n N ws (root_at fs c)) (sym (trees_append n N ws (roots_below fs c) (root_at fs c)) ∙ t) in
        let P = places_succeeds c w r H q.0 in
        rw P.0 (place_succeeds c (places c w).0 (omega (arith, (places_keeps four n N fs ws c w).size)) P.1 q.1)

-- ---- all of them, from a work slice of zeros

-- the marks are the nodes reached from the roots rs, the links counted are the holders
pub record Tallied (n N : ℕ) (ws rs w : List ℕ) : Type 0 where
  pub marks : (x : ℕ) → x < N → mark w x ≡ min 1 (count x (reached n ws rs))
  pub counts : (x : ℕ) → x < N → links w x ≡ holders n N ws rs x

module _ (n N : ℕ) (ws rs w w' : List ℕ) (zeros : (x : ℕ) → x < N → get_or w x 0 ≡ 0) (p : AddsAll n N ws rs w w') where
  all_marks : (x : ℕ) → x < N → mark w' x ≡ min 1 (count x (reached n ws rs))
  all_marks x b = omega (arith, p.marks x b, zeros x b)

  none_before : (x : ℕ) → links_to N ws w x ≡ 0
  none_before x = sum_zero N (λ j. mark w j * link_to ws x j) (λ j b. rw (zeros j b) (omega arith))

  reached-links : (x : ℕ) → links_to N ws w' x ≡ sum N (λ j. cond (is_reached n ws rs j) (link_to ws x j) 0)
  reached-links x = sum_cong N (λ j. mark w' j * link_to ws x j) (λ j. cond (is_reached n ws rs j) (link_to ws x j) 0) (λ j b. times (count j (reached n ws rs)) (link_to ws x j) (all_marks j b))
    where
      times : {m : ℕ} (c y : ℕ) → m ≡ min 1 c → m * y ≡ cond (ltb 0 c) y 0
      times zero y e = rw e (omega arith)
      times {m} (suc c) y e =
          let one : m ≡ 1 = omega arith in
          let pos : 0 < suc c = omega arith in
          rw (one, ltb_of pos) (omega arith)

  tallied : Tallied n N ws rs w'
  tallied = record { marks = all_marks; counts = λ x b. omega (arith, p.counts x b, zeros x b, none_before x, reached-links x) }

module _ (n N : ℕ) (fs : List Frame) (ws w : List ℕ) (table : length fs ≤ max_places) (small : n ≤ 256) (few : N ≤ 16384) (r : N ≤ length w) (z : (x : ℕ) → x < N → get_or w x 0 ≡ 0) where
  succeeds : trees_at n N ws (live_roots fs) ≡ true → (visit_places four n (height n) N fs ws (length fs) w).1 ≡ true
  succeeds t = (places_succeeds n N fs ws small few (length fs) w r (λ x b m. absurd (omega (arith, z x b))) t).0

  shows : (visit_places four n (height n) N fs ws (length fs) w).1 ≡ true → Shown n N ws (live_roots fs) w (visit_places four n (height n) N fs ws (length fs) w).0
  shows t = places_shows n N fs ws small few (length fs) w table r z t

  -- the visits succeed if and only if they are of trees
  pub places_tree : (visit_places four n (height n) N fs ws (length fs) w).1 ≡ trees_at n N ws (live_roots fs)
  places_tree = elim (decided (visit_places four n (height n) N fs ws (length fs) w).1) [
    | inl e ↦ e ∙ sym (shows e).trees
    | inr e ↦ elim (decided (trees_at n N ws (live_roots fs))) [ inl t ↦ succeeds t ∙ sym t | inr t ↦ e ∙ sym t ]
  ]

  pub places_tallied : trees_at n N ws (live_roots fs) ≡ true → Tallied n N ws (live_roots fs) (visit_places four n (height n) N fs ws (length fs) w).0
  places_tallied t = tallied n N ws (live_roots fs) w (visit_places four n (height n) N fs ws (length fs) w).0 z (shows (succeeds t)).adds
