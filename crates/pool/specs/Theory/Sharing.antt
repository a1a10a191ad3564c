-- Sharing: two live frames have the same node at two places if and only if level and group are equal and the last writes are.
use Rattle.std.specs.Prelude.{◌≡◌, refl, ◌≢◌, ◌⊎◌, ◌↔◌, List, [], ◌∷◌, map, ℕ, ◌≤◌, ◌<◌, ◌^◌, ◌/◌}
use Rattle.std.proofs.Common.{sym, ap, ◌∙◌, subst, inl, inr, arith, eq-eqb, ne_eqb}
use mathlib.Core.List.Memᴰ.{cases_cons as In-cons}
use mathlib.Core.List.Memᴰ.{head as here}
use mathlib.Core.List.Memᴰ.{not-nil as not-in-nil}
use mathlib.Core.List.Memᴰ.{tail as there}
use mathlib.Core.List.{Memᴰ as In}
use mathlib.Core.List.Memᴰ
use Rattle.std.proofs.Math.Decide.{ℕ_discrete}
use Rattle.words.specs.Basics.{none, δ, count}
use Rattle.words.specs.Counting.{δ_same, δ_other, δ_eq, count_nil, count_cons}
use Rattle.sizes.specs.Bits.{Agree, Differ, agree_differ, agree_group, differ_group}
use Rattle.model.specs.History.{Mark, Event, History, last_write}
use Rattle.pool.specs.Pool.{refcount}
use Rattle.pool.specs.Theory.Operations.{Live, Spawned, Returned}
use Rattle.pool.specs.Theory.Reached.{ReachedAt, in_use_reached, reached_in_use}
use Rattle.pool.specs.Theory.Walk.{walk, walk_agree, Covers}
use Rattle.pool.specs.Theory.Write.{Written}

-- a frame: its root and its history
abbrev pub Frame : Type 0
Frame = ℕ × History

abbrev pub roots_of : List Frame → List ℕ
roots_of Fs = map (λ (F : Frame). F.0) Fs

pub root_of_lem : (F : Frame) (Fs : List Frame) → In F Fs → 0 < count F.0 (roots_of Fs)
root_of_lem F [] m = absurd (not-in-nil m)
root_of_lem F (G ∷ Gs) m = elim (In-cons m) [
  | inl e ↦ omega (arith, count_cons F.0 G.0 (roots_of Gs), ap (λ (q : Frame). δ F.0 q.0) e, δ_same F.0)
  | inr q ↦ omega (arith, count_cons F.0 G.0 (roots_of Gs), root_of_lem F Gs q)
]

pub frame_of_lem : (e : ℕ) (Fs : List Frame) → 0 < count e (roots_of Fs) → (F : Frame) × In F Fs × (e ≡ F.0)
frame_of_lem e [] q = absurd (omega (arith, count_nil e))
frame_of_lem e (G ∷ Gs) q = elim (ℕ_discrete e G.0) [
  | yes r ↦ (G, here refl, r)
  | no r ↦ (let w = frame_of_lem e Gs (omega (arith, count_cons e G.0 (roots_of Gs), δ_other e G.0 r)) in (w.0, there w.1, w.2))
]

-- ---- the last write

pub last_write_hit : (k g : ℕ) (e : Event) (h : History) → e.splitter / 2 ^ k ≡ g → last_write k g (e ∷ h) ≡ e.mark
last_write_hit k g e h q = rw (eq-eqb (e.splitter / 2 ^ k) g q)

pub last_write_miss : (k g : ℕ) (e : Event) (h : History) → e.splitter / 2 ^ k ≢ g → last_write k g (e ∷ h) ≡ last_write k g h
last_write_miss k g e h q = rw (ne_eqb (e.splitter / 2 ^ k) g q)

-- it is the start or an event of the history
pub last_write_from : (k g : ℕ) (h : History) → (last_write k g h ≡ []) ⊎ ((e : Event) × In e h × (last_write k g h ≡ e.mark))
last_write_from k g [] = inl refl
last_write_from k g (e ∷ h) = elim (ℕ_discrete (e.splitter / 2 ^ k) g) [
  | yes q ↦ inr (e, here refl, last_write_hit k g e h q)
  | no q ↦ elim (last_write_from k g h) [
    | inl p ↦ inl (last_write_miss k g e h q ∙ p)
    | inr p ↦ inr (p.0, there p.1, last_write_miss k g e h q ∙ p.2)
  ]
]

-- a mark that no live frame's history has
abbrev pub Fresh : Mark → List Frame → Type 0
Fresh m Fs = (m ≢ []) × ((F : Frame) → In F Fs → (e : Event) → In e F.1 → e.mark ≢ m)

-- ---- each node in use has the mark of the write that made it, and its group

pub record Share (N H n : ℕ) (level : ℕ → ℕ) (ws : List ℕ) (Fs : List Frame) : Type 0 where
  pub stamp : ℕ → Mark
  pub group : ℕ → ℕ
  pub stamped : (F : Frame) → In F Fs → (k y : ℕ) → k ≤ H → y < n → (stamp (walk k H ws F.0 y) ≡ last_write k (y / 2 ^ k) F.1) × (group (walk k H ws F.0 y) ≡ y / 2 ^ k)
  pub injective : (i j : ℕ) → i < N → j < N → 0 < refcount ws i → 0 < refcount ws j → level i ≡ level j → group i ≡ group j → stamp i ≡ stamp j → i ≡ j

module _ (N H n : ℕ) (small : N ≤ none) (cover : n ≤ 2 ^ H) {level size : ℕ → ℕ} {ws : List ℕ} {free : ℕ} {fs : List ℕ} {Fs : List Frame}
    (L : Live N H n level size ws free fs (roots_of Fs)) (S : Share N H n level ws Fs) where
  -- what it says
  pub same-node : (F G : Frame) → In F Fs → In G Fs → (k y k' y' : ℕ) → k ≤ H → y < n → k' ≤ H → y' < n
      → (walk k H ws F.0 y ≡ walk k' H ws G.0 y') ↔ ((k ≡ k') × (y / 2 ^ k ≡ y' / 2 ^ k') × (last_write k (y / 2 ^ k) F.1 ≡ last_write k' (y' / 2 ^ k') G.1))
  same-node F G mF mG k y k' y' hk hy hk' hy' = (
    (λ e. (sym KF.at_level ∙ ap level e ∙ KG.at_level, sym a.1 ∙ ap S.group e ∙ b.1, sym a.0 ∙ ap S.stamp e ∙ b.0)),
    (λ e. S.injective _ _ KF.inside KG.inside KF.in_use KG.in_use (KF.at_level ∙ e.0 ∙ sym KG.at_level) (a.1 ∙ e.1 ∙ sym b.1) (a.0 ∙ e.2 ∙ sym b.0)),
  )
    where
      KF : Covers N level size ws k y (walk k H ws F.0 y)
      KF = reached_in_use N H n small cover L k F.0 y hk (root_of_lem F Fs mF) hy

      KG : Covers N level size ws k' y' (walk k' H ws G.0 y')
      KG = reached_in_use N H n small cover L k' G.0 y' hk' (root_of_lem G Fs mG) hy'

      a : (S.stamp (walk k H ws F.0 y) ≡ last_write k (y / 2 ^ k) F.1) × (S.group (walk k H ws F.0 y) ≡ y / 2 ^ k)
      a = S.stamped F mF k y hk hy

      b : (S.stamp (walk k' H ws G.0 y') ≡ last_write k' (y' / 2 ^ k') G.1) × (S.group (walk k' H ws G.0 y') ≡ y' / 2 ^ k')
      b = S.stamped G mG k' y' hk' hy'

  -- the frame, the splitter and the last write of a node in use
  pub stamp_from : (i : ℕ) → i < N → 0 < refcount ws i → (F : Frame) × In F Fs × (y : ℕ) × (y < n) × (level i ≤ H) × (S.group i ≡ y / 2 ^ level i) × (S.stamp i ≡ last_write (level i) (y / 2 ^ level i) F.1)
  stamp_from i b p =
      let r = in_use_reached N H n small cover L i b p in
      let F = frame_of_lem r.root Fs r.live in
      let e : walk (level i) H ws F.0.0 r.splitter ≡ i = ap (λ q. walk (level i) H ws q r.splitter) (sym F.2) ∙ r.found in
      let l = S.stamped F.0 F.1 (level i) r.splitter r.lower r.bound in
      (F.0, F.1, r.splitter, r.bound, r.lower, ap S.group (sym e) ∙ l.1, ap S.stamp (sym e) ∙ l.0)

  -- a fresh mark is no node's
  stamp_old : (m : Mark) → Fresh m Fs → (i : ℕ) → i < N → 0 < refcount ws i → S.stamp i ≢ m
  stamp_old m f i b p q =
      let r = stamp_from i b p in
      elim (last_write_from (level i) (r.2 / 2 ^ level i) r.0.1) [
        | inl z ↦ f.0 (sym q ∙ r.6 ∙ z)
        | inr w ↦ f.1 r.0 r.1 w.0 w.1 (sym w.2 ∙ sym r.6 ∙ q)
      ]

-- ---- spawn, return and write keep it

module _ (N H n : ℕ) (small : N ≤ none) (cover : n ≤ 2 ^ H) where
  pub share_spawn : {level size : ℕ → ℕ} {ws : List ℕ} {free : ℕ} {fs : List ℕ} {Fs : List Frame} {ws' : List ℕ} (F : Frame) → In F Fs → Live N H n level size ws free fs (roots_of Fs) → Share N H n level ws Fs
      → Spawned N H n level size ws free fs (roots_of Fs) F.0 ws' → Share N H n level ws' (F ∷ Fs)
  share_spawn {level} {size} {ws} {free} {fs} {Fs} {ws'} F m L S P = record {
    stamp = S.stamp;
    group = S.group;
    stamped = λ G g k y h b. (let i = or G (In-cons g) in rw ((P.same G.0 (root_of_lem G Fs i)).nodes k y h b) (S.stamped G i k y h b));
    injective = λ i j bi bj pi pj. S.injective i j bi bj (used i bi pi) (used j bj pj);
  }
    where
      or : (G : Frame) → (G ≡ F) ⊎ In G Fs → In G Fs
      or G (inl e) = Memᴰ.cast e m
      or G (inr g) = g

      root : (e : ℕ) → 0 < count e (F.0 ∷ roots_of Fs) → 0 < count e (roots_of Fs)
      root e p = elim (ℕ_discrete e F.0) [
        | yes q ↦ subst (λ r. 0 < count r (roots_of Fs)) (sym q) (root_of_lem F Fs m)
        | no q ↦ omega (arith, count_cons e F.0 (roots_of Fs), δ_other e F.0 q)
      ]

      used : (i : ℕ) → i < N → 0 < refcount ws' i → 0 < refcount ws i
      used i b p =
          let r = in_use_reached N H n small cover P.live i b p in
          let q = root r.root r.live in
          subst (λ w. 0 < refcount ws w) (sym ((P.same r.root q).nodes (level i) r.splitter r.lower r.bound) ∙ r.found)
          (reached_in_use N H n small cover L (level i) r.root r.splitter r.lower q r.bound).in_use

  pub share_return : {level size : ℕ → ℕ} {ws : List ℕ} {p : List ℕ × ℕ × ℕ} (F : Frame) (Fs : List Frame) → Share N H n level ws (F ∷ Fs)
      → Returned N H n level size ws (roots_of Fs) p → Share N H n level p.0 Fs
  share_return F Fs S P = record {
    stamp = S.stamp;
    group = S.group;
    stamped = λ G g k y h b. rw ((P.same G.0 (root_of_lem G Fs g)).nodes k y h b) (S.stamped G (there g) k y h b);
    injective = λ i j bi bj pi pj. S.injective i j bi bj (omega (arith, P.lowered i bi)) (omega (arith, P.lowered j bj));
  }

-- one of two, by a decision
pick : {A P : Type 0} → Dec P → A → A → A
pick (yes e) a b = a
pick (no e) a b = b

pick_yes : {A P : Type 0} (d : Dec P) (a b : A) → P → pick d a b ≡ a
unfolding pick
pick_yes (yes e) a b q = refl
pick_yes (no e) a b q = absurd (e q)

pick_no : {A P : Type 0} (d : Dec P) (a b : A) → (P → ⊥) → pick d a b ≡ b
unfolding pick
pick_no (yes e) a b q = absurd (q e)
pick_no (no e) a b q = refl

module _ (N H n : ℕ) (small : N ≤ none) (cover : n ≤ 2 ^ H) {level size : ℕ → ℕ} {ws : List ℕ} {free : ℕ} {fs : List ℕ} (old : ℕ) (h : History) (Fs : List Frame) (ev : Event) {v : ℕ} {p : List ℕ × ℕ × ℕ × ℕ}
    (fresh : Fresh ev.mark ((old, h) ∷ Fs))
    (L : Live N H n level size ws free fs (roots_of ((old, h) ∷ Fs))) (S : Share N H n level ws ((old, h) ∷ Fs)) (bx : ev.splitter < n)
    (W : Written N H n level size ws (roots_of Fs) old ev.splitter v p) where
  -- the node of level k on the path after the write, altered or new
  abbrev path : ℕ → ℕ
  path k = walk k H p.0 p.3 ev.splitter

  path_level : (k : ℕ) → k ≤ H → W.level' (path k) ≡ k
  path_level k a = (reached_in_use N H n small cover W.live k p.3 ev.splitter a (omega (arith, count_cons p.3 p.3 (roots_of Fs), δ_same p.3)) bx).at_level

  -- the labels after the write: the nodes of the path have the write's
  stamp' : ℕ → Mark
  stamp' i = pick (ℕ_discrete i (path (W.level' i))) ev.mark (S.stamp i)

  group' : ℕ → ℕ
  group' i = pick (ℕ_discrete i (path (W.level' i))) (ev.splitter / 2 ^ W.level' i) (S.group i)

  label_new : (i : ℕ) → i ≡ path (W.level' i) → (stamp' i ≡ ev.mark) × (group' i ≡ ev.splitter / 2 ^ W.level' i)
  unfolding stamp' group'
  label_new i z = (pick_yes (ℕ_discrete i (path (W.level' i))) ev.mark (S.stamp i) z, pick_yes (ℕ_discrete i (path (W.level' i))) (ev.splitter / 2 ^ W.level' i) (S.group i) z)

  label_old : (i : ℕ) → i ≢ path (W.level' i) → (stamp' i ≡ S.stamp i) × (group' i ≡ S.group i)
  unfolding stamp' group'
  label_old i z = (pick_no (ℕ_discrete i (path (W.level' i))) ev.mark (S.stamp i) z, pick_no (ℕ_discrete i (path (W.level' i))) (ev.splitter / 2 ^ W.level' i) (S.group i) z)

  -- the nodes of the trees before, but for the path
  stamped_old : (F : Frame) → In F ((old, h) ∷ Fs) → (k y : ℕ) → k ≤ H → y < n → (count F.0 (roots_of Fs) ≡ 0 → Agree k H ev.splitter y → ⊥)
      → (stamp' (walk k H ws F.0 y) ≡ last_write k (y / 2 ^ k) F.1) × (group' (walk k H ws F.0 y) ≡ y / 2 ^ k)
  stamped_old F m k y a b o =
      let r = root_of_lem F ((old, h) ∷ Fs) m in
      let K = reached_in_use N H n small cover L k F.0 y a r b in
      let l : W.level' (walk k H ws F.0 y) ≡ k = (W.labels _ K.inside K.in_use).0 ∙ K.at_level in
      let q = label_old (walk k H ws F.0 y) (λ e. (let t = W.own k F.0 y a b r (e ∙ ap path l) in o t.0 t.1)) in
      let s = S.stamped F m k y a b in (q.0 ∙ s.0, q.1 ∙ s.1)

  -- the tree of the frame that writes
  stamped_new : (k y : ℕ) → k ≤ H → y < n → (stamp' (walk k H p.0 p.3 y) ≡ last_write k (y / 2 ^ k) (ev ∷ h)) × (group' (walk k H p.0 p.3 y) ≡ y / 2 ^ k)
  stamped_new k y a b = go (agree_differ k H ev.splitter y)
    where
      go : Agree k H ev.splitter y ⊎ Differ k H ev.splitter y → (stamp' (walk k H p.0 p.3 y) ≡ last_write k (y / 2 ^ k) (ev ∷ h)) × (group' (walk k H p.0 p.3 y) ≡ y / 2 ^ k)
      go (inl g) =
          let l = path_level k a in
          let q = label_new (path k) (ap path (sym l)) in
          let e = agree_group k H ev.splitter y a (omega arith) (omega arith) g in
          rw (← walk_agree k H p.0 p.3 ev.splitter y g) (q.0 ∙ sym (last_write_hit k (y / 2 ^ k) ev h e), q.1 ∙ ap (λ i. ev.splitter / 2 ^ i) l ∙ e)
      go (inr d) =
          let q = stamped_old (old, h) (here refl) k y a b (λ _ g. d.3 (g d.0 d.1 d.2)) in
          rw (W.old_nodes k y a b d) (q.0 ∙ sym (last_write_miss k (y / 2 ^ k) ev h (differ_group k H ev.splitter y d)), q.1)

  -- a node in use that is not on the path was in use
  was_used : (i : ℕ) → i < N → 0 < refcount p.0 i → i ≢ path (W.level' i) → 0 < refcount ws i
  was_used i b u o = at (in_use_reached N H n small cover W.live i b u)
    where
      was : (e y : ℕ) → 0 < count e (roots_of ((old, h) ∷ Fs)) → y < n → W.level' i ≤ H → walk (W.level' i) H ws e y ≡ i → 0 < refcount ws i
      was e y q c k r = subst (λ w. 0 < refcount ws w) r (reached_in_use N H n small cover L (W.level' i) e y k q c).in_use

      at : ReachedAt H n p.0 (p.3 ∷ roots_of Fs) (W.level' i) i → 0 < refcount ws i
      at r = elim (ℕ_discrete (count r.root (roots_of Fs)) 0) [
        | no c ↦ was r.root r.splitter (omega (arith, count_cons r.root old (roots_of Fs))) r.bound r.lower
            (sym ((W.same r.root (omega arith)).nodes (W.level' i) r.splitter r.lower r.bound) ∙ r.found)
        | yes c ↦ self (agree_differ (W.level' i) H ev.splitter r.splitter) (δ_eq r.root p.3 (omega (arith, r.live, count_cons r.root p.3 (roots_of Fs))))
      ]
        where
          self : Agree (W.level' i) H ev.splitter r.splitter ⊎ Differ (W.level' i) H ev.splitter r.splitter → r.root ≡ p.3 → 0 < refcount ws i
          self (inl g) e = absurd (o (sym (walk_agree (W.level' i) H p.0 p.3 ev.splitter r.splitter g ∙ ap (λ q. walk (W.level' i) H p.0 q r.splitter) (sym e) ∙ r.found)))
          self (inr d) e = was old r.splitter (root_of_lem (old, h) ((old, h) ∷ Fs) (here refl)) r.bound r.lower
              (sym (W.old_nodes (W.level' i) r.splitter r.lower r.bound d) ∙ ap (λ q. walk (W.level' i) H p.0 q r.splitter) (sym e) ∙ r.found)

  pub share_write : Share N H n W.level' p.0 ((p.3, ev ∷ h) ∷ Fs)
  share_write = record { stamp = stamp'; group = group'; stamped = st; injective = ij }
    where
      st : (F : Frame) → In F ((p.3, ev ∷ h) ∷ Fs) → (k y : ℕ) → k ≤ H → y < n → (stamp' (walk k H p.0 F.0 y) ≡ last_write k (y / 2 ^ k) F.1) × (group' (walk k H p.0 F.0 y) ≡ y / 2 ^ k)
      st F m k y a b = elim (In-cons m) [
        | inl e ↦ subst (λ (q : Frame). (stamp' (walk k H p.0 q.0 y) ≡ last_write k (y / 2 ^ k) q.1) × (group' (walk k H p.0 q.0 y) ≡ y / 2 ^ k)) (sym e) (stamped_new k y a b)
        | inr g ↦ rw ((W.same F.0 (root_of_lem F Fs g)).nodes k y a b) (stamped_old F (there g) k y a b (λ z _. omega (arith, root_of_lem F Fs g)))
      ]

      -- a node of the path and one that is not have different marks
      apart : (i j : ℕ) → i ≡ path (W.level' i) → j ≢ path (W.level' j) → j < N → 0 < refcount p.0 j → stamp' i ≡ stamp' j → ⊥
      apart i j z o b u e = stamp_old N H n small cover L S ev.mark fresh j b (was_used j b u o) (sym (label_old j o).0 ∙ sym e ∙ (label_new i z).0)

      ij : (i j : ℕ) → i < N → j < N → 0 < refcount p.0 i → 0 < refcount p.0 j → W.level' i ≡ W.level' j → group' i ≡ group' j → stamp' i ≡ stamp' j → i ≡ j
      ij i j bi bj ui uj el eg es = elim (ℕ_discrete i (path (W.level' i))) [
        | yes zi ↦ elim (ℕ_discrete j (path (W.level' j))) [
          | yes zj ↦ zi ∙ ap path el ∙ sym zj
          | no zj ↦ absurd (apart i j zi zj bj uj es)
        ]
        | no zi ↦ elim (ℕ_discrete j (path (W.level' j))) [
          | yes zj ↦ absurd (apart j i zj zi bi ui (sym es))
          | no zj ↦ (let vi = was_used i bi ui zi in let vj = was_used j bj uj zj in
              let ai = W.labels i bi vi in let aj = W.labels j bj vj in let oi = label_old i zi in let oj = label_old j zj in
              S.injective i j bi bj vi vj (sym ai.0 ∙ el ∙ aj.0) (sym oi.1 ∙ eg ∙ oj.1) (sym oi.0 ∙ es ∙ oj.0))
        ]
      ]
