-- The places of a sound state's live frames: each once, in a deque or waiting.
use Rattle.std.specs.Prelude.{◌≡◌, refl, Bool, true, false, ◌&&◌, List, [], ◌∷◌, map, length, eqb}
use Rattle.std.proofs.Common.{sym, ap₂, ◌∙◌, inl, inr, eqb-true, eq-eqb, ne_eqb}
use Rattle.std.proofs.Math.Path.{ap, subst}
use Rattle.std.proofs.Math.Bool.{cond}
use mathlib.Core.List.Memᴰ.{cases_cons as In-cons}
use mathlib.Core.List.Memᴰ.{head as here}
use mathlib.Core.List.Memᴰ.{not-nil as not-in-nil}
use mathlib.Core.List.Memᴰ.{tail as there}
use mathlib.Core.List.{Memᴰ as In}
use Prim.Native.Nat.{ℕ, zero, suc, ◌+◌, ◌≤◌, ◌<◌}
use native.Mathlib.Omega.{arith}
use Rattle.std.proofs.Math.Decide.{ℕ_discrete, dec_lt}
use Rattle.words.specs.Basics.{sum, joined, below, δ, count}
use Rattle.words.specs.Tests.{decided, both, ltb_of}
use Rattle.words.specs.Counting.{δ_same, δ_other, count_nil, count_cons, count-append, sum_cong, sum_pos, sum_first, hit, miss, range, when, when_zero, when_pos}
use Rattle.words.specs.Tallies.{and_of}
pub use Rattle.words.specs.Tallies.{total, total-sum}
use Rattle.frames.specs.declared.Frame.{Frame as FrameRecord}
use Rattle.frames.specs.Frames.{frame_at}
use Rattle.frames.specs.Deques.{size, place, deque_list, places_to}
use Rattle.frames.proofs.Theory.Lists.{list_empty}
use Rattle.soundness.specs.Soundness.{lives, is_child, children, in_deques, roots_below, live_roots}
use Rattle.soundness.proofs.Theory.FreeLists.{once_short}
use Rattle.soundness.proofs.Theory.Sentences.{Lives, stands, stands_is, FramesFacts}
use Rattle.semantics.specs.SoundMachine.{waiting_below, waiting_places, running_places, live_places}

-- ---- membership counted

pub In-count : {p : ℕ} (L : List ℕ) → In p L → 0 < count p L
In-count [] m = absurd (not-in-nil m)
In-count {p} (x ∷ L) m = elim (In-cons m) [
  | inl e ↦ omega (arith, count_cons p x L, ap (δ p) e, δ_same p)
  | inr k ↦ omega (arith, count_cons p x L, In-count L k)
]

pub count_In : (p : ℕ) (L : List ℕ) → 0 < count p L → In p L
count_In p [] h = absurd (omega (arith, count_nil p))
count_In p (x ∷ L) h = elim (ℕ_discrete p x) [ yes e ↦ here e | no e ↦ there (count_In p L (omega (arith, count_cons p x L, δ_other p x e))) ]

pub below_of : (N : ℕ) (L : List ℕ) → ((p : ℕ) → In p L → p < N) → below N L ≡ true
below_of N [] h = refl
below_of N (x ∷ L) h = and_of (ltb_of (h x (here refl))) (below_of N L (λ p m. h p (there m)))

-- ---- deques

pub places_to_in : (n : ℕ) (ds : List ℕ) (w p : ℕ) → In p (places_to n ds w) → (k : ℕ) × (k < n) × (p ≡ place ds w k)
unfolding places_to
places_to_in zero ds w p m = absurd (not-in-nil m)
places_to_in (suc n) ds w p m = elim (In-cons m) [
  | inl e ↦ (n, omega arith, e)
  | inr k ↦ (let r = places_to_in n ds w p k in (r.0, omega (arith, r.1), r.2))
]

joined-range : (f : ℕ → List ℕ) (c a p : ℕ) → count p (joined (map f (range c a))) ≡ sum c (λ k. count p (f (a + k)))
unfolding range
joined-range f zero a p = count_nil p
joined-range f (suc c) a p =
    let z : a + 0 ≡ a = omega arith in
    omega (
      arith,
      count-append p (f a) (joined (map f (range c (suc a)))),
      joined-range f c (suc a) p,
      sum_first c (λ k. count p (f (a + k))),
      ap (λ q. count p (f q)) z,
      sum_cong c (λ k. count p (f (suc a + k))) (λ k. count p (f (a + suc k))) (λ k b. (let e : suc a + k ≡ a + suc k = omega arith in ap (λ q. count p (f q)) e)),
    )

-- ---- the frames that wait

abbrev wait_test : List ℕ → List FrameRecord → ℕ → Bool
wait_test ds fs p = lives fs p && eqb (in_deques ds p) 0

count_pick : (t : Bool) (p c : ℕ) → count p (cond t (c ∷ []) []) ≡ cond t (δ p c) 0
count_pick true p c = omega (arith, count_cons p c [], count_nil p)
count_pick false p c = count_nil p

cond_zero : (t : Bool) (x : ℕ) → x ≡ 0 → cond t x 0 ≡ 0
cond_zero true x e = e
cond_zero false x e = refl

module _ (ds : List ℕ) (fs : List FrameRecord) where
  waiting-above : (c p : ℕ) → c ≤ p → count p (waiting_below ds fs c) ≡ 0
  unfolding waiting_below
  waiting-above zero p h = count_nil p
  waiting-above (suc c) p h =
      omega (
        arith,
        count-append p (waiting_below ds fs c) (cond (wait_test ds fs c) (c ∷ []) []),
        waiting-above c p (omega arith),
        count_pick (wait_test ds fs c) p c,
        cond_zero (wait_test ds fs c) (δ p c) (δ_other p c (λ e. omega arith)),
      )

  waiting_is : (c p : ℕ) → p < c → count p (waiting_below ds fs c) ≡ cond (wait_test ds fs p) 1 0
  unfolding waiting_below
  waiting_is zero p h = absurd (omega arith)
  waiting_is (suc c) p h = elim (ℕ_discrete p c) [
    | yes e ↦ omega (
      arith,
      count-append p (waiting_below ds fs c) (cond (wait_test ds fs c) (c ∷ []) []),
      waiting-above c p (omega arith),
      count_pick (wait_test ds fs c) p c,
      ap {B = ℕ} (λ (q : ℕ). cond (wait_test ds fs c) q 0) (ap (δ p) (sym e) ∙ δ_same p),
      ap {B = ℕ} (λ (q : ℕ). cond (wait_test ds fs q) 1 0) e,
    )
    | no e ↦ omega (
      arith,
      count-append p (waiting_below ds fs c) (cond (wait_test ds fs c) (c ∷ []) []),
      waiting_is c p (omega arith),
      count_pick (wait_test ds fs c) p c,
      cond_zero (wait_test ds fs c) (δ p c) (δ_other p c e),
    )
  ]

  pub waiting_of : (p : ℕ) → In p (waiting_places ds fs) → (p < length fs) × Lives fs p × (stands ds p ≡ 0)
  waiting_of p m = elim (dec_lt p (length fs)) [
    | yes b ↦ (elim (decided (wait_test ds fs p)) [
      | inl t ↦ (let r = both (lives fs p) (eqb (in_deques ds p) 0) t in (b, eqb-true (frame_at fs p).live 1 r.0, sym (stands_is ds p) ∙ eqb-true (in_deques ds p) 0 r.1))
      | inr t ↦ absurd (omega (arith, In-count (waiting_places ds fs) m, waiting_is (length fs) p b, miss t))
    ])
    | no b ↦ absurd (omega (arith, In-count (waiting_places ds fs) m, waiting-above (length fs) p (omega arith)))
  ]

  pub of_waiting : (p : ℕ) → p < length fs → Lives fs p → stands ds p ≡ 0 → count p (waiting_places ds fs) ≡ 1
  of_waiting p b l z =
      waiting_is (length fs) p b ∙ hit (and_of (eq-eqb (frame_at fs p).live 1 l) (eq-eqb (in_deques ds p) 0 (stands_is ds p ∙ z)))

-- ---- all live frames

sum_more : (f : ℕ → ℕ) (n m : ℕ) → n ≤ m → ((j : ℕ) → n ≤ j → j < m → f j ≡ 0) → sum n f ≡ sum m f
sum_more f n zero h z = (let e : n ≡ 0 = omega arith in ap (λ k. sum k f) e)
sum_more f n (suc m) h z = elim (ℕ_discrete n (suc m)) [
  | yes e ↦ ap (λ k. sum k f) e
  | no e ↦ omega (arith, sum_more f n m (omega arith) (λ j a b. z j a (omega arith)), z m (omega arith) (omega arith))
]

count_map : (i : ℕ) (h : ℕ → ℕ) (L : List ℕ) → count i (map h L) ≡ total (λ p. δ i (h p)) L
count_map i h [] = count_nil i
count_map i h (x ∷ L) = omega (arith, count_cons i (h x) (map h L), count_map i h L)

pub roots_below_lem : (i c : ℕ) (fs : List FrameRecord) → count i (roots_below fs c) ≡ sum c (λ p. cond (lives fs p) (δ i (frame_at fs p).root) 0)
unfolding roots_below
roots_below_lem i zero fs = count_nil i
roots_below_lem i (suc c) fs = count-append i (roots_below fs c) (cond (lives fs c) ((frame_at fs c).root ∷ []) []) ∙ ap₂ ◌+◌ (roots_below_lem i c fs) (count_pick (lives fs c) i (frame_at fs c).root)

module _ {workers first : ℕ} {ds : List ℕ} {fs : List FrameRecord} (F : FramesFacts workers first ds fs) (few : workers ≤ 8) where
  running_count : (p : ℕ) → count p (joined (running_places workers ds)) ≡ stands ds p
  running_count p =
      joined-range (deque_list ds) workers 0 p
      ∙ sum_cong workers (λ k. count p (deque_list ds (0 + k))) (λ w. count p (deque_list ds w)) (λ w b. (let e : 0 + w ≡ w = omega arith in ap (λ q. count p (deque_list ds q)) e))
      ∙ sum_more (λ w. count p (deque_list ds w)) workers 8 few (λ w a b. ap (count p) (list_empty ds w (F.absent w b a)) ∙ count_nil p)

  pub deque-live : (w p : ℕ) → w < 8 → In p (deque_list ds w) → (p < length fs) × Lives fs p
  unfolding deque_list
  deque-live w p b m =
      let r = places_to_in (size ds w) ds w p m in
      let h = F.hold_live_lem w b r.0 r.1 in
      (omega (arith, r.2, h.0), subst (Lives fs) (sym r.2) h.1)

  running_live : (p : ℕ) → 0 < stands ds p → (p < length fs) × Lives fs p
  running_live p h = (let r = sum_pos 8 (λ w. count p (deque_list ds w)) h in deque-live r.0 p r.1 (count_In p (deque_list ds r.0) r.2))

  pub running_of : (p : ℕ) → In p (joined (running_places workers ds)) → (p < length fs) × Lives fs p × (0 < stands ds p)
  running_of p m =
      let h : 0 < stands ds p = omega (arith, In-count (joined (running_places workers ds)) m, running_count p) in
      let r = running_live p h in
      (r.0, r.1, h)

  live-count : (p : ℕ) → count p (live_places workers ds fs) ≡ count p (waiting_places ds fs) + stands ds p
  live-count p = count-append p (waiting_places ds fs) (joined (running_places workers ds)) ∙ ap (λ s. count p (waiting_places ds fs) + s) (running_count p)

  pub live_of : (p : ℕ) → In p (live_places workers ds fs) → (p < length fs) × Lives fs p
  live_of p m = elim (ℕ_discrete (stands ds p) 0) [
    | yes e ↦ (let r = waiting_of ds fs p (count_In p (waiting_places ds fs) (omega (arith, In-count (live_places workers ds fs) m, live-count p))) in (r.0, r.1))
    | no e ↦ running_live p (omega arith)
  ]

  pub live_one : (p : ℕ) → p < length fs → Lives fs p → count p (live_places workers ds fs) ≡ 1
  live_one p b l = elim (F.placed p b l) [
    | inl r ↦ (elim (ℕ_discrete (count p (waiting_places ds fs)) 0) [
      | yes z ↦ omega (arith, live-count p, r.0)
      | no z ↦ absurd (omega (arith, (waiting_of ds fs p (count_In p (waiting_places ds fs) (omega arith))).2, r.0))
    ])
    | inr r ↦ omega (arith, live-count p, r.0, of_waiting ds fs p b l r.0)
  ]

  pub of_live : (p : ℕ) → p < length fs → Lives fs p → In p (live_places workers ds fs)
  of_live p b l = count_In p (live_places workers ds fs) (omega (arith, live_one p b l))

  pub live-none : (p : ℕ) → (Lives fs p → ⊥) → count p (live_places workers ds fs) ≡ 0
  live-none p h = elim (ℕ_discrete (count p (live_places workers ds fs)) 0) [ yes z ↦ z | no z ↦ absurd (h (live_of p (count_In p (live_places workers ds fs) (omega arith))).1) ]

  pub live_once : (p : ℕ) → p < length fs → count p (live_places workers ds fs) ≤ 1
  live_once p b = elim (ℕ_discrete (frame_at fs p).live 1) [ yes l ↦ omega (arith, live_one p b l) | no l ↦ omega (arith, live-none p l) ]

  pub live_below : below (length fs) (live_places workers ds fs) ≡ true
  live_below = below_of (length fs) (live_places workers ds fs) (λ p m. (live_of p m).0)

  pub live_short : length (live_places workers ds fs) ≤ length fs
  live_short = once_short (λ p. p) (length fs) (live_places workers ds fs) live_below live_once

  -- a sum over the live places
  live-total : (g : ℕ → ℕ) → total g (live_places workers ds fs) ≡ sum (length fs) (λ p. cond (lives fs p) (g p) 0)
  live-total g =
      total-sum (length fs) g (live_places workers ds fs) live_below live_once
      ∙ sum_cong (length fs) (λ p. when (count p (live_places workers ds fs)) (g p)) (λ p. cond (lives fs p) (g p) 0) (λ p b. elim (ℕ_discrete (frame_at fs p).live 1) [
        | yes l ↦ when_pos (count p (live_places workers ds fs)) (g p) (omega (arith, live_one p b l)) ∙ sym (rw (eq-eqb (frame_at fs p).live 1 l))
        | no l ↦ when_zero (count p (live_places workers ds fs)) (g p) (live-none p l) ∙ sym (rw (ne_eqb (frame_at fs p).live 1 l))
      ])

  pub live_roots_lem : (i : ℕ) → count i (live_roots fs) ≡ count i (map (λ p. (frame_at fs p).root) (live_places workers ds fs))
  live_roots_lem i =
      roots_below_lem i (length fs) fs ∙ sym (count_map i (λ p. (frame_at fs p).root) (live_places workers ds fs) ∙ live-total (λ p. δ i (frame_at fs p).root))

  pub live-children : (p : ℕ) → total (λ q. cond (is_child fs p q) 1 0) (live_places workers ds fs) ≡ children fs p
  live-children p =
      live-total (λ q. cond (is_child fs p q) 1 0)
      ∙ sum_cong (length fs) (λ q. cond (lives fs q) (cond (is_child fs p q) 1 0) 0) (λ q. cond (is_child fs p q) 1 0) (λ q b. twice (lives fs q) (eqb (frame_at fs q).parent p))
    where
      twice : (a b : Bool) → ◌≡◌ {A = ℕ} (cond a (cond (a && b) 1 0) 0) (cond (a && b) 1 0)
      twice true b = refl
      twice false b = refl
