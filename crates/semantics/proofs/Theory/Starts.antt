-- When a start is accepted, and what it leaves otherwise.
use Rattle.std.specs.Prelude.{◌≡◌, false, ◌||◌, ◌⊎◌, List, ℕ, ◌≤◌, ◌<◌, length, eqb}
use Rattle.std.proofs.Math.Path.{refl}
use Rattle.std.proofs.Common.{ap}
use Rattle.std.proofs.Math.Logic.{inl, inr}
use native.Mathlib.Omega.{arith}
use Rattle.std.proofs.Math.Dec.{ltb}
use borrow.Author.Tests.{ltb-false, eqb-false, le-ltb, ne_eqb}
use Rattle.words.specs.Tests.{decided, neither}
use Rattle.sizes.specs.Sizes.{tree_nodes}
use Rattle.frames.specs.Widths.{max_places}
use Rattle.frames.specs.declared.Frame.{Frame}
use Rattle.semantics.specs.declared.Refusal.{Refusal}
use Rattle.semantics.specs.declared.Refusal.TheVariants.{Values, Workers, Places, Nodes}
use Rattle.semantics.specs.Answers.{refusal_number}
use Rattle.semantics.specs.Entries.{State, fits, StartResult, start_refused, start_accepted, start_with, start_on, whole_nodes}
use Rattle.semantics.specs.Promises.{Fits}
use Rattle.semantics.proofs.Theory.Fitting.{fits_true, true_fits}
use Rattle.soundness.specs.Layout.{Layout}

module _ (layout : Layout) where
  -- the conditions that refusals 1, 2, 21 and 3 test
  pub record Fit (workers : ℕ) (vs : List ℕ) (fs : List Frame) (ws : List ℕ) : Type 0 where
    pub values_positive : 1 ≤ length vs
    pub values_le : length vs ≤ 256
    pub workers_positive : 1 ≤ workers
    pub workers_le : workers ≤ 8
    pub places_positive : 1 ≤ length fs
    pub places_le : length fs ≤ max_places
    pub enough : tree_nodes (length vs) ≤ whole_nodes layout ws
    pub nodes_le : whole_nodes layout ws ≤ 16384

-- with one worker, as many places and as many whole nodes; R-9: of whatever layouts
pub alone_fit : (L L' : Layout) {workers : ℕ} {vs : List ℕ} {fs : List Frame} {ws : List ℕ} (fs' : List Frame) (ws' : List ℕ) → length fs' ≡ length fs → whole_nodes L' ws' ≡ whole_nodes L ws → Fit L workers vs fs ws → Fit L' 1 vs fs' ws'
alone_fit L L' fs' ws' same_places as_many F =
    record { values_positive = F.values_positive; values_le = F.values_le; workers_positive = omega arith; workers_le = omega arith; places_positive = omega (arith, F.places_positive, same_places); places_le = omega (arith, F.places_le, same_places); enough = omega (arith, F.enough, as_many); nodes_le = omega (arith, F.nodes_le, as_many) }

pub in_range : (x m : ℕ) → eqb x 0 || ltb m x ≡ false → (1 ≤ x) × (x ≤ m)
in_range x m e =
    let b = neither (eqb x 0) (ltb m x) e in
    (pos x (eqb-false x 0 b.0), ltb-false m x b.1)
  where
    pos : (x : ℕ) → (x ≡ 0 → ⊥) → 1 ≤ x
    pos x h = omega arith

range_in : (x m : ℕ) → 1 ≤ x → x ≤ m → eqb x 0 || ltb m x ≡ false
range_in x m a b = rw (ne_eqb x 0 (λ e. omega arith), le-ltb m x b)

module _ (layout : Layout) where
  pub fit_started : (s : State) (workers : ℕ) (vs ws : List ℕ) → Fits s → Fit layout workers vs s.frames ws → start_on layout s workers vs ws ≡ start_accepted layout workers vs s.frames ws
  unfolding start_on start_with
  fit_started s workers vs ws L F =
      rw (fits_true s L, range_in (length vs) 256 F.values_positive F.values_le, range_in workers 8 F.workers_positive F.workers_le, range_in (length s.frames) max_places F.places_positive F.places_le, le-ltb (whole_nodes layout ws) (tree_nodes (length vs)) F.enough, le-ltb 16384 (whole_nodes layout ws) F.nodes_le)

-- ---- what a start does, in cases

-- refused by 1, 2, 21 or 3
pub record Refuses (fs : List Frame) (ws : List ℕ) (o : StartResult) : Type 0 where
  pub refusal : Refusal
  pub result : o ≡ start_refused refusal fs ws
  pub positive : 0 < refusal_number refusal
  pub low : refusal_number refusal < 99

module _ (layout : Layout) where
  -- accepted
  pub record Accepts (s : State) (workers : ℕ) (vs ws : List ℕ) (o : StartResult) : Type 0 where
    pub lengths : Fits s
    pub fit : Fit layout workers vs s.frames ws
    pub result : o ≡ start_accepted layout workers vs s.frames ws

  abbrev Cases : State → ℕ → List ℕ → List ℕ → StartResult → Type 0
  Cases s workers vs ws o = (o ≡ record { state = s; pool = ws; result = 99 }) ⊎ (Refuses s.frames ws o ⊎ Accepts s workers vs ws o)

  pub with_cases : (s : State) (workers : ℕ) (vs ws : List ℕ) → Fits s → Refuses s.frames ws (start_with layout workers vs s.frames ws) ⊎ Accepts s workers vs ws (start_with layout workers vs s.frames ws)
  unfolding start_with
  with_cases s workers vs ws L = elim (decided (eqb (length vs) 0 || ltb 256 (length vs))) [
    | inl a ↦ rw a (inl (record { refusal = Values; result = refl; positive = omega arith; low = omega arith }))
    | inr a ↦ elim (decided (eqb workers 0 || ltb 8 workers)) [
      | inl b ↦ rw (a, b) (inl (record { refusal = Workers; result = refl; positive = omega arith; low = omega arith }))
      | inr b ↦ elim (decided (eqb (length s.frames) 0 || ltb max_places (length s.frames))) [
        | inl t ↦ rw (a, b, t) (inl (record { refusal = Places; result = refl; positive = omega arith; low = omega arith }))
        | inr t ↦ elim (decided (ltb (whole_nodes layout ws) (tree_nodes (length vs)) || ltb 16384 (whole_nodes layout ws))) [
          | inl d ↦ rw (a, b, t, d) (inl (record { refusal = Nodes; result = refl; positive = omega arith; low = omega arith }))
          | inr d ↦
              let x = in_range (length vs) 256 a in
              let y = in_range workers 8 b in
              let p = in_range (length s.frames) max_places t in
              let z = neither (ltb (whole_nodes layout ws) (tree_nodes (length vs))) (ltb 16384 (whole_nodes layout ws)) d in
              let F : Fit layout workers vs s.frames ws = record { values_positive = x.0; values_le = x.1; workers_positive = y.0; workers_le = y.1; places_positive = p.0; places_le = p.1; enough = ltb-false (whole_nodes layout ws) (tree_nodes (length vs)) z.0; nodes_le = ltb-false 16384 (whole_nodes layout ws) z.1 } in
              rw (a, b, t, d) (inr (record { lengths = L; fit = F; result = refl }))
        ]
      ]
    ]
  ]

  pub start_cases : (s : State) (workers : ℕ) (vs ws : List ℕ) → Cases s workers vs ws (start_on layout s workers vs ws)
  unfolding start_on
  start_cases s workers vs ws = elim (decided (fits s)) [ inl e ↦ rw e (inr (with_cases s workers vs ws (true_fits s e))) | inr e ↦ rw e (inl refl) ]

  pub started_fit : (s : State) (workers : ℕ) (vs ws : List ℕ) → (start_on layout s workers vs ws).result ≡ 0 → Accepts s workers vs ws (start_on layout s workers vs ws)
  started_fit s workers vs ws e = elim (start_cases s workers vs ws) [
    | inl r ↦ absurd (omega (arith, e, ap (λ (o : StartResult). o.result) r))
    | inr (inl R) ↦ absurd (omega (arith, e, ap (λ (o : StartResult). o.result) R.result, R.positive))
    | inr (inr A) ↦ A
  ]
