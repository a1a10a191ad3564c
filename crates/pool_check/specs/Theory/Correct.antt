-- The check's answer is the definition's, and the check leaves the length and the words from N on.
use Rattle.std.specs.Prelude.{◌≡◌, refl, Bool, true, false, cond, ◌||◌, ◌&&◌, List, ℕ, ◌+◌, ◌-◌, ◌*◌, ◌≤◌, ◌<◌, min, eqb, leb, ltb, length, get_or, None, Some}
use Rattle.std.proofs.Common.{sym, ap, ◌∙◌, inl, inr, arith, leb-true, eqb-true, eq-eqb, ne_eqb}
use Rattle.std.proofs.Math.Bool.{or-false}
use Rattle.words.specs.Basics.{count, all, how_many, below}
use Rattle.words.specs.Counting.{sum_cong, sum_add, sum_const, all_at, all_of}
use Rattle.words.specs.Loops.{count-sum}
use Rattle.words.specs.Tests.{decided, both, lt_of, ge_of, true≢false}
use Rattle.sizes.specs.Sizes.{height}
use Rattle.pool.specs.Pool.{refcount}
use Rattle.frames.specs.declared.Frame.{Frame}
use Rattle.frames.specs.Widths.{max_places}
use Rattle.soundness.specs.Soundness.{live_roots, cleared}
use Rattle.soundness.specs.Trees.{trees_at, reached, is_reached, holders, free_nodes, node_sound}
use Rattle.soundness.specs.Layout.{four_words, pool_sound}
use Rattle.pool_check.specs.Answer.{in_bounds, pool_checked}
use Rattle.pool_check.specs.Algorithm.{mark, links, fresh, visit_places, node_right, unvisited, chain_from, settle, run_check}
use Rattle.pool_check.specs.FourWords.{bare, four}
use Rattle.pool_check.specs.Theory.Ways.{settle_off, settle_on, run_out, run_off, run_on_lem}
use Rattle.pool_check.specs.Theory.Kept.{run_work}
use Rattle.pool_check.specs.Theory.Cleared.{clear_keeps, clear_zeros}
use Rattle.pool_check.specs.Theory.Places.{places_tree, Tallied, places_tallied}
use Rattle.pool_check.specs.Theory.FreeList.{unvisited_le, chain_sound, chain_complete, chained, chained-length, vacants}

-- ---- one node: its count of positions, its holders, its places on the chain; its mark, its links counted, its reference count;
-- is it bare?

module _ (cnt hold chain m lk rc : ℕ) (is_bare : Bool) (em : m ≡ min 1 cnt) (el : lk ≡ hold) where
  abbrev counts : Bool
  counts = eqb rc (cond (eqb m 1) lk 0)

  abbrev sound : Bool
  sound = (ltb 0 cnt && (eqb rc hold && eqb chain 0)) || (eqb cnt 0 && ((eqb rc 0 && is_bare) && eqb chain 1))

  node-sound : counts ≡ true → chain ≡ 1 - m → (0 < chain → is_bare ≡ true) → sound ≡ true
  node-sound h e z = elim (decided (ltb 0 cnt)) [
    | inl p ↦ (
        let q : 0 < cnt = lt_of p in
        let r : eqb rc lk ≡ true = rw (eq-eqb m 1 (omega arith)) at h in
        rw (p, eq-eqb rc hold (eqb-true rc lk r ∙ el), eq-eqb chain 0 (omega arith)))
    | inr p ↦ (
        let q : cnt ≤ 0 = ge_of p in
        let r : eqb rc 0 ≡ true = rw (ne_eqb m 1 (omega arith)) at h in
        rw (p, eq-eqb cnt 0 (omega arith), r, z (omega arith), eq-eqb chain 1 (omega arith)))
  ]

  node-right : sound ≡ true → (counts ≡ true) × (chain ≡ 1 - m) × (0 < chain → is_bare ≡ true)
  node-right h = elim (decided (ltb 0 cnt)) [
    | inl p ↦ (
        let q : 0 < cnt = lt_of p in
        let s = both (eqb rc hold) (eqb chain 0) (sym (or-false _) ∙ (rw (p, ne_eqb cnt 0 (omega arith)) at h)) in
        let e : chain ≡ 0 = eqb-true chain 0 s.1 in
        (rw (eq-eqb m 1 (omega arith), eq-eqb rc lk (eqb-true rc hold s.0 ∙ sym el)), omega arith, λ o. absurd (omega arith)))
    | inr p ↦ (
        let q : cnt ≤ 0 = ge_of p in
        let s = both (eqb rc 0 && is_bare) (eqb chain 1) (rw (p, eq-eqb cnt 0 (omega arith)) at h) in
        let r = both (eqb rc 0) is_bare s.0 in
        (rw (ne_eqb m 1 (omega arith)) r.0, omega (arith, eqb-true chain 1 s.1), λ _. r.1))
  ]

-- ---- after the trees

module _ (n N : ℕ) (ws rs w : List ℕ) (few : N ≤ 16384) (tally : Tallied n N ws rs w) (t : trees_at n N ws rs ≡ true) (first : ℕ) where
  abbrev chain : List ℕ
  chain = free_nodes N ws first

  -- node i, by the definition and by the algorithm
  sound_at : (i : ℕ) → i < N → node_right four ws w i ≡ true → count i chain ≡ fresh w i → (0 < count i chain → bare ws i ≡ true) → node_sound n N ws first rs i ≡ true
  unfolding node_right
  sound_at i b = node-sound (count i (reached n ws rs)) (holders n N ws rs i) (count i chain) (mark w i) (links w i) (refcount ws i) (bare ws i) (tally.marks i b) (tally.counts i b)

  right_at : (i : ℕ) → i < N → node_sound n N ws first rs i ≡ true → (node_right four ws w i ≡ true) × (count i chain ≡ fresh w i) × (0 < count i chain → bare ws i ≡ true)
  unfolding node_right
  right_at i b = node-right (count i (reached n ws rs)) (holders n N ws rs i) (count i chain) (mark w i) (links w i) (refcount ws i) (bare ws i) (tally.marks i b) (tally.counts i b)

  settle-sound : all N (node_right four ws w) ≡ true → chain_from four N ws w (unvisited N w) first ≡ true → (pool_sound four_words n N ws first rs ≡ true) × (length chain ≡ unvisited N w)
  unfolding pool_sound
  settle-sound a f =
      let C = chained N ws w chain (chain_sound N ws w few (unvisited N w) N first (unvisited_le N w) f) in (
        rw (t, C.within) (all_of N (node_sound n N ws first rs) (λ i b. sound_at i b (all_at N (node_right four ws w) a i b) (C.once i b) (C.empty i b))),
        chained-length N ws w chain C,
      )

  settle_complete : pool_sound four_words n N ws first rs ≡ true → (all N (node_right four ws w) ≡ true) × (chain_from four N ws w (unvisited N w) first ≡ true)
  unfolding pool_sound
  settle_complete s =
      let p = both (below N chain) (all N (node_sound n N ws first rs)) (both (trees_at n N ws rs) _ s).1 in
      let nodes : (i : ℕ) → i < N → (node_right four ws w i ≡ true) × (count i chain ≡ fresh w i) × (0 < count i chain → bare ws i ≡ true) = λ i b. right_at i b (all_at N (node_sound n N ws first rs) p.1 i b) in (
        all_of N (node_right four ws w) (λ i b. (nodes i b).0),
        chain_complete N ws w few (unvisited N w) N first (unvisited_le N w)
            (vacants N ws w chain (record { within = p.0; once = λ i b. (nodes i b).1; empty = λ i b. (nodes i b).2 })),
      )

  settle-answer : settle four N ws first w ≡ cond (pool_sound four_words n N ws first rs) (Some (length chain)) None
  settle-answer = elim (decided (pool_sound four_words n N ws first rs)) [
    | inl s ↦ (
        let p = settle_complete s in
        rw (s, settle_on four N ws first w p.0, p.1) (ap Some (sym (settle-sound p.0 p.1).1)))
    | inr s ↦ elim (decided (all N (node_right four ws w))) [
      | inl a ↦ elim (decided (chain_from four N ws w (unvisited N w) first)) [
        | inl b ↦ absurd (true≢false (sym (settle-sound a b).0 ∙ s))
        | inr b ↦ rw (s, settle_on four N ws first w a, b)
      ]
      | inr a ↦ rw (s, settle_off four N ws first w a)
    ]
  ]

-- ---- the whole

no_trees : (n N : ℕ) (ws rs : List ℕ) (first : ℕ) → trees_at n N ws rs ≡ false → pool_sound four_words n N ws first rs ≡ false
unfolding pool_sound
no_trees n N ws rs first t = rw t

pub run-answer : (n N first : ℕ) (fs : List Frame) (ws w : List ℕ) → length fs ≤ max_places → (N ≤ length w → (x : ℕ) → x < N → get_or w x 0 ≡ 0) → (run_check four n N first fs ws w).1 ≡ pool_checked four_words n N first fs ws w
unfolding pool_checked
run-answer n N first fs ws w table zeros = elim (decided (in_bounds four_words n N ws w)) [
  | inl e ↦ (
      let p = both (leb n 256) _ e in
      let q = both (leb N 16384) _ p.1 in
      let small : n ≤ 256 = leb-true n 256 p.0 in
      let few : N ≤ 16384 = leb-true N 16384 q.0 in
      let long : N ≤ length w = leb-true N (length w) (both (leb (4 * N) (length ws)) _ q.1).1 in
      let is : (visit_places four n (height n) N fs ws (length fs) w).1 ≡ trees_at n N ws (live_roots fs) = places_tree n N fs ws w table small few long (zeros long) in
      elim (decided (trees_at n N ws (live_roots fs))) [
        | inl t ↦ rw (e, run_on_lem four n N first fs ws w e (is ∙ t))
            (settle-answer n N ws (live_roots fs) (visit_places four n (height n) N fs ws (length fs) w).0 few (places_tallied n N fs ws w table small few long (zeros long) t) t first)
        | inr t ↦ rw (e, run_off four n N first fs ws w e (is ∙ t), no_trees n N ws (live_roots fs) first t)
      ])
  | inr e ↦ rw (run_out four n N first fs ws w e, e)
]

-- ---- from any work slice

pub check-answer : (n N first : ℕ) (fs : List Frame) (ws w : List ℕ) → length fs ≤ max_places → (run_check four n N first fs ws (cleared N w)).1 ≡ pool_checked four_words n N first fs ws w
unfolding pool_checked
check-answer n N first fs ws w table = run-answer n N first fs ws (cleared N w) table (λ h x b. clear_zeros N w x (omega (arith, (clear_keeps N w).size)) b) ∙ rw (clear_keeps N w).size

pub check_work : (n N first : ℕ) (fs : List Frame) (ws w : List ℕ) → cleared N (run_check four n N first fs ws (cleared N w)).0 ≡ cleared N w
check_work = run_work four

-- ---- the free nodes and the nodes reached are all nodes

pub free_reached : (n N : ℕ) (ws : List ℕ) (first : ℕ) (rs : List ℕ) → pool_sound four_words n N ws first rs ≡ true → length (free_nodes N ws first) + how_many N (is_reached n ws rs) ≡ N
unfolding pool_sound
free_reached n N ws first rs s =
    let p = both (below N (free_nodes N ws first)) (all N (node_sound n N ws first rs)) (both (trees_at n N ws rs) _ s).1 in
    omega (
      arith,
      count-sum N (free_nodes N ws first) p.0,
      sum_add N (λ i. count i (free_nodes N ws first)) (λ i. cond (is_reached n ws rs i) 1 0),
      sum_cong N (λ i. count i (free_nodes N ws first) + cond (is_reached n ws rs i) 1 0) (λ i. 1) (λ i b. one i (all_at N (node_sound n N ws first rs) p.1 i b)),
      sum_const N 1,
    )
  where
    counted : (c : ℕ) → ◌≡◌ {A = ℕ} (cond (ltb 0 c) 1 0) (min 1 c)
    counted c = elim (decided (ltb 0 c)) [
      | inl e ↦ (let q : 0 < c = lt_of e in rw e (omega arith))
      | inr e ↦ (let q : c ≤ 0 = ge_of e in rw e (omega arith))
    ]

    one : (i : ℕ) → node_sound n N ws first rs i ≡ true → count i (free_nodes N ws first) + cond (is_reached n ws rs i) 1 0 ≡ 1
    one i h =
        let c = count i (reached n ws rs) in
        omega (arith, counted c, (node-right c (holders n N ws rs i) (count i (free_nodes N ws first)) (min 1 c) (holders n N ws rs i) (refcount ws i) (bare ws i) refl refl h).1)
