-- The nodes in use are as many as the model says: the distinct triples of level, group and last write over the live frames.
use Rattle.std.specs.Prelude.{◌≡◌, refl, List, [], ◌∷◌, map, cond, ℕ, suc, ◌+◌, ◌*◌, ◌≤◌, ◌<◌, ◌^◌, ◌/◌, length, eqb}
use Rattle.std.proofs.Math.Path.{sym, ap, subst}
use Rattle.std.proofs.Common.{◌∙◌, arith, pow_pos, eq-eqb, ne_eqb}
use mathlib.Core.List.Memᴰ.{eq_of_singleton}
use mathlib.Core.List.Memᴰ.{head as here}
use mathlib.Core.List.Memᴰ.{not-nil as not-in-nil}
use mathlib.Core.List.{Memᴰ as In}
use mathlib.Core.List.Memᴰ
use Rattle.std.proofs.Math.Decide.{ℕ_discrete}
use Rattle.std.proofs.Math.Nat.{div-mul-le_self, mul-div_cancel}
use Rattle.std.proofs.Math.ListN.{length-map}
use Rattle.words.specs.Basics.{none, sum, distinct}
use Rattle.words.specs.Counting.{when, when_zero, when_pos, sum_cong}
use Rattle.words.specs.NoDup.{NoDup, length_eq, nodup_map, collect, length-collect, In-collect, collect_In, nodup_collect, dedup, In-dedup, dedup_In, nodup_dedup, length-dedup}
use Rattle.sizes.specs.Heights.{height_covers}
use Rattle.sizes.specs.Sizes.{height, width}
use Rattle.sizes.specs.Widths.{width_in, in_width}
use Rattle.model.specs.History.{Mark, History, last_write, nodes_in_use}
use Rattle.pool.specs.Pool.{refcount}
use Rattle.pool.specs.Theory.FreeCount.{nodes_used, free_count}
use Rattle.pool.specs.Theory.Operations.{Live}
use Rattle.pool.specs.Theory.Reached.{reached_in_use}
use Rattle.pool.specs.Theory.Sharing.{Frame, roots_of, root_of_lem, Share, stamp_from}
use Rattle.pool.specs.Theory.Walk.{walk}

abbrev pub histories_of : List Frame → List History
histories_of Fs = map (λ (F : Frame). F.1) Fs

abbrev Triple : Type 0
Triple = ℕ × ℕ × Mark

-- ---- the nodes in use, as a list

abbrev if_used : List ℕ → ℕ → List ℕ
if_used ws i = cond (eqb (refcount ws i) 0) [] (i ∷ [])

if_used_free : (ws : List ℕ) (i : ℕ) → refcount ws i ≡ 0 → if_used ws i ≡ []
if_used_free ws i e = rw (eq-eqb (refcount ws i) 0 e)

if_used_used : (ws : List ℕ) (i : ℕ) → 0 < refcount ws i → if_used ws i ≡ i ∷ []
if_used_used ws i p = rw (ne_eqb (refcount ws i) 0 (omega arith))

used : List ℕ → ℕ → List ℕ
used ws N = collect N (if_used ws)

if_used_In : (ws : List ℕ) (i j : ℕ) → In j (if_used ws i) → (j ≡ i) × (0 < refcount ws i)
if_used_In ws i j m = elim (ℕ_discrete (refcount ws i) 0) [
  | yes e ↦ absurd (not-in-nil (rw (if_used_free ws i e) at m))
  | no e ↦ (eq_of_singleton (rw (if_used_used ws i (omega arith)) at m), omega arith)
]

used_In : (ws : List ℕ) (N i : ℕ) → In i (used ws N) → (i < N) × (0 < refcount ws i)
unfolding used
used_In ws N i m =
    let r = collect_In N (if_used ws) m in
    let q = if_used_In ws r.0 i r.2 in
    (omega (arith, r.1, q.0), subst (λ k. 0 < refcount ws k) (sym q.0) q.1)

In-used : (ws : List ℕ) (N i : ℕ) → i < N → 0 < refcount ws i → In i (used ws N)
unfolding used
In-used ws N i b p = In-collect N (if_used ws) i b (rw (if_used_used ws i p) (here refl))

nodup_used : (ws : List ℕ) (N : ℕ) → NoDup (used ws N)
unfolding used
nodup_used ws N = nodup_collect N (if_used ws) (λ i b. one i) (λ i j a p q. sym (if_used_In ws i a p).0 ∙ (if_used_In ws j a q).0)
  where
    one : (i : ℕ) → NoDup (if_used ws i)
    one i = elim (ℕ_discrete (refcount ws i) 0) [ yes e ↦ rw (if_used_free ws i e) tt | no e ↦ rw (if_used_used ws i (omega arith)) ((λ m. not-in-nil m), tt) ]

length_used : (ws : List ℕ) (N : ℕ) → length (used ws N) ≡ nodes_used N ws
unfolding used nodes_used
length_used ws N = length-collect N (if_used ws) ∙ sum_cong N (λ i. length (if_used ws i)) (λ i. when (refcount ws i) 1) (λ i b. elim (ℕ_discrete (refcount ws i) 0) [
  | yes e ↦ ap length (if_used_free ws i e) ∙ sym (when_zero (refcount ws i) 1 e)
  | no e ↦ ap length (if_used_used ws i (omega arith)) ∙ sym (when_pos (refcount ws i) 1 (omega arith))
])

-- ---- the triples of the model, as a list

triples_at : List History → ℕ → ℕ → List Triple
triples_at hs l g = map (λ (m : Mark). (l, g, m)) (dedup (map (last_write l g) hs))

triples : ℕ → ℕ → List History → List Triple
triples H n hs = collect (suc H) (λ l. collect (width n l) (triples_at hs l))

triples_at_In : (hs : List History) (l g : ℕ) (c : Triple) → In c (triples_at hs l g) → (h : History) × In h hs × (c ≡ (l, g, last_write l g h))
unfolding triples_at
triples_at_In hs l g c m =
    let r = Memᴰ.of_map (λ (m : Mark). (l, g, m)) (dedup (map (last_write l g) hs)) m in
    let s = Memᴰ.of_map (last_write l g) hs (dedup_In (map (last_write l g) hs) r.0 r.1) in
    (s.0, s.1, sym r.2 ∙ ap (λ (m : Mark). (l, g, m)) (sym s.2))

In-triplesAt : (hs : List History) (l g : ℕ) (h : History) → In h hs → In (l, g, last_write l g h) (triples_at hs l g)
unfolding triples_at
In-triplesAt hs l g h m = Memᴰ.map (λ (m : Mark). (l, g, m)) (In-dedup (map (last_write l g) hs) (last_write l g h) (Memᴰ.map (last_write l g) m))

nodup_triples_at : (hs : List History) (l g : ℕ) → NoDup (triples_at hs l g)
unfolding triples_at
nodup_triples_at hs l g = nodup_map (λ (m : Mark). (l, g, m)) (dedup (map (last_write l g) hs)) (λ a b _ _ e. ap (λ (c : Triple). c.2) e) (nodup_dedup (map (last_write l g) hs))

nodup_triples : (H n : ℕ) (hs : List History) → NoDup (triples H n hs)
unfolding triples
nodup_triples H n hs =
    nodup_collect (suc H) (λ l. collect (width n l) (triples_at hs l))
    (λ l _. nodup_collect (width n l) (triples_at hs l) (λ g _. nodup_triples_at hs l g)
    (λ g g' c p q. ap (λ (c : Triple). c.1) (sym (triples_at_In hs l g c p).2 ∙ (triples_at_In hs l g' c q).2)))
    (λ l l' c p q. ap (λ (c : Triple). c.0) (sym (at l c p) ∙ at l' c q))
  where
    at : (l : ℕ) (c : Triple) → In c (collect (width n l) (triples_at hs l)) → c ≡ (l, c.1, c.2)
    at l c p =
        let r = collect_In (width n l) (triples_at hs l) p in
        let e = (triples_at_In hs l r.0 c r.2).2 in
        ap (λ (d : Triple). (d.0, c.1, c.2)) e

length_triples : (n : ℕ) (hs : List History) → length (triples (height n) n hs) ≡ nodes_in_use n hs
unfolding triples triples_at nodes_in_use
length_triples n hs =
    length-collect (suc (height n)) (λ l. collect (width n l) (triples_at hs l))
    ∙ sum_cong (suc (height n)) (λ l. length (collect (width n l) (triples_at hs l))) (λ l. sum (width n l) (λ g. distinct (map (last_write l g) hs)))
    (λ l _. length-collect (width n l) (triples_at hs l)
    ∙ sum_cong (width n l) (λ g. length (triples_at hs l g)) (λ g. distinct (map (last_write l g) hs))
    (λ g _. length-map (dedup (map (last_write l g) hs)) (λ (m : Mark). (l, g, m)) ∙ length-dedup (map (last_write l g) hs)))

-- ---- a node in use for each triple

module _ (N H n : ℕ) (small : N ≤ none) (cover : n ≤ 2 ^ H) {level size : ℕ → ℕ} {ws : List ℕ} {free : ℕ} {fs : List ℕ} {Fs : List Frame}
    (L : Live N H n level size ws free fs (roots_of Fs)) (S : Share N H n level ws Fs) where
  triple : ℕ → Triple
  triple i = (level i, S.group i, S.stamp i)

  used_triple : (i : ℕ) → i < N → 0 < refcount ws i → In (triple i) (triples H n (histories_of Fs))
  unfolding triple triples
  used_triple i b p =
      let r = stamp_from N H n small cover L S i b p in
      let k = level i in
      let g = r.2 / 2 ^ level i in
      let in_level : g < width n k = width_in n k g (omega (arith, div-mul-le_self r.2 (2 ^ level i), r.3)) in
      In-collect (suc H) (λ l. collect (width n l) (triples_at (histories_of Fs) l)) k (omega (arith, r.4))
      (In-collect (width n k) (triples_at (histories_of Fs) k) g in_level
      (subst (λ (c : Triple). In c (triples_at (histories_of Fs) k g)) (λ j. (level i, sym r.5 j, sym r.6 j))
      (In-triplesAt (histories_of Fs) k g r.0.1 (Memᴰ.map (λ (F : Frame). F.1) r.1))))

  -- the node of a live frame on the way to the group's first splitter
  triple_node : (F : Frame) → In F Fs → (l g : ℕ) → l ≤ H → g < width n l → (i : ℕ) × (i < N) × (0 < refcount ws i) × (◌≡◌ {A = Triple} (l, g, last_write l g F.1) (triple i))
  unfolding triple
  triple_node F m l g h b =
      let by : g * 2 ^ l < n = in_width n l g b in
      let e : g * 2 ^ l / 2 ^ l ≡ g = mul-div_cancel g (pow_pos l) in
      let K = reached_in_use N H n small cover L l F.0 (g * 2 ^ l) h (root_of_lem F Fs m) by in
      let s = S.stamped F m l (g * 2 ^ l) h by in
      (walk l H ws F.0 (g * 2 ^ l), K.inside, K.in_use, λ j. (sym K.at_level j, sym (s.1 ∙ e) j, sym (s.0 ∙ ap (λ q. last_write l q F.1) e) j))

  triple_used : (c : Triple) → In c (triples H n (histories_of Fs)) → (i : ℕ) × (i < N) × (0 < refcount ws i) × (c ≡ triple i)
  unfolding triples
  triple_used c m =
      let a = collect_In (suc H) (λ l. collect (width n l) (triples_at (histories_of Fs) l)) m in
      let b = collect_In (width n a.0) (triples_at (histories_of Fs) a.0) a.2 in
      let d = triples_at_In (histories_of Fs) a.0 b.0 c b.2 in
      let F = Memᴰ.of_map (λ (F : Frame). F.1) Fs d.1 in
      let r = triple_node F.0 F.1 a.0 b.0 (omega (arith, a.1)) b.1 in
      (r.0, r.1, r.2, subst (λ (h : History). c ≡ (a.0, b.0, last_write a.0 b.0 h)) (sym F.2) d.2 ∙ r.3)

  -- as many triples as nodes in use
  triples_used : length (triples H n (histories_of Fs)) + length fs ≡ N
  unfolding triple
  triples_used =
      let U = used ws N in
      let T = triples H n (histories_of Fs) in
      let e = length_eq T (map triple U) (nodup_triples H n (histories_of Fs))
      (nodup_map triple U (λ a b p q r. (let ua = used_In ws N a p in let ub = used_In ws N b q in
      S.injective a b ua.0 ub.0 ua.1 ub.1 (ap (λ (c : Triple). c.0) r) (ap (λ (c : Triple). c.1) r) (ap (λ (c : Triple). c.2) r))) (nodup_used ws N))
      (λ c. (
        (λ m. (let r = triple_used c m in subst (λ (q : Triple). In q (map triple U)) (sym r.3) (Memᴰ.map triple (In-used ws N r.0 r.1 r.2)))),
        (λ m. (let r = Memᴰ.of_map triple U m in let u = used_In ws N r.0 r.1 in subst (λ (q : Triple). In q T) r.2 (used_triple r.0 u.0 u.1))),
      )) in
      omega (arith, e, length-map U triple, length_used ws N, free_count L.inv)

-- document 01: "its free nodes are the pool's less those in use"
pub free_nodes_lem : (N n : ℕ) → N ≤ none → {level size : ℕ → ℕ} {ws : List ℕ} {free : ℕ} {fs : List ℕ} {Fs : List Frame}
    → Live N (height n) n level size ws free fs (roots_of Fs) → Share N (height n) n level ws Fs → nodes_in_use n (histories_of Fs) + length fs ≡ N
free_nodes_lem N n small {Fs = Fs} L S = omega (arith, triples_used N (height n) n small (height_covers n) L S, length_triples n (histories_of Fs))
