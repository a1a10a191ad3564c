-- The links between siblings after a relink, and after those of a spawn and an end; all else stays.
use Rattle.std.specs.Prelude.{◌≡◌, refl, ◌⊎◌, true, false, cond, List, eqb, length}
use Rattle.std.proofs.Common.{sym, ◌∙◌, eqb-true}
use Rattle.std.proofs.Math.Path.{ap}
use Rattle.std.proofs.Math.Logic.{inl, inr}
use Prim.Native.Nat.{ℕ, zero, suc, ◌+◌, ◌≤◌, ◌<◌}
use native.Mathlib.Omega.{arith}
use Rattle.std.proofs.Math.Decide.{ℕ_discrete, dec_lt}
use Rattle.words.specs.Basics.{none}
use Rattle.words.specs.Tests.{decided, true≢false, both}
use Rattle.frames.specs.declared.Frame.{Frame}
use Rattle.frames.specs.Frames.{frame_at, set_frame, with_younger}
use Rattle.frames.specs.Siblings.{live_child, younger, names, relink_from, relink, only_child}
use Rattle.frames.specs.Steps.{link_child, unlink}
use Rattle.frames.proofs.Theory.Records.{length-set_frame, frame-set-same, frame-set_other, frame_past}
use Rattle.frames.proofs.Theory.Alike.{Alike, frame_but, alike_refl, alike_set}

-- a child that names
pub names-live : (fs : List Frame) (q x c : ℕ) → names fs q x c ≡ true → (frame_at fs c).live ≡ 1
names-live fs q x c t =
    let child = (both (live_child fs q c) (eqb (younger fs c) x) t).0 in
    eqb-true (frame_at fs c).live 1 (both (eqb (frame_at fs c).live 1) (eqb (frame_at fs c).parent q) child).0

module _ (fs : List Frame) (q x y : ℕ) where
  -- the record of the child that names
  abbrev renamed : ℕ → Frame
  renamed c = with_younger (frame_at fs c) y

  -- one of the n places from c on is stored to, or none of them names x
  abbrev Found : ℕ → ℕ → Type 0
  Found n c =
      ((d : ℕ) × (c ≤ d) × (d < c + n) × (names fs q x d ≡ true) × (relink_from n fs q x y c ≡ set_frame fs d (renamed d)))
      ⊎ (((d : ℕ) → c ≤ d → d < c + n → names fs q x d ≡ false) × (relink_from n fs q x y c ≡ fs))

  found : (n c : ℕ) → Found n c
  unfolding relink_from
  found zero c = inr ((λ d a b. absurd (omega arith)), refl)
  found (suc n) c = elim (decided (names fs q x c)) [
    | inl e ↦ inl (c, omega arith, omega arith, e, rw e)
    | inr e ↦ elim (found n (suc c)) [
      | inl r ↦ inl (r.0, omega (arith, r.1), omega (arith, r.2), r.3, rw e r.4)
      | inr r ↦ inr ((λ d a b. elim (ℕ_discrete d c) [ yes z ↦ ap (names fs q x) z ∙ e | no z ↦ r.0 d (omega arith) (omega arith) ]), rw e r.1)
    ]
  ]

  pub length-relink : length (relink fs q x y) ≡ length fs
  length-relink = elim (found (length fs) 0) [
    | inl r ↦ ap length r.4 ∙ length-set_frame fs r.0 (renamed r.0)
    | inr r ↦ ap length r.1
  ]

  -- the record of another one stays
  pub relink-none : (p : ℕ) → names fs q x p ≡ false → frame_at (relink fs q x y) p ≡ frame_at fs p
  relink-none p n = elim (found (length fs) 0) [
    | inl r ↦ ap (λ (gs : List Frame). frame_at gs p) r.4 ∙ frame-set_other fs r.0 p (renamed r.0) (λ e. true≢false (sym r.3 ∙ ap (names fs q x) (sym e) ∙ n))
    | inr r ↦ ap (λ (gs : List Frame). frame_at gs p) r.1
  ]

  pub relink_alike : Alike fs (relink fs q x y)
  relink_alike = elim (found (length fs) 0) [
    | inl r ↦ rw r.4 (alike_set fs r.0 (renamed r.0) (omega (arith, r.2)) (names-live fs q x r.0 r.3) (frame_but (frame_at fs r.0) (frame_at fs r.0).view y))
    | inr r ↦ rw r.1 (alike_refl fs)
  ]

  -- the views stay
  pub relink_view : (p : ℕ) → (frame_at (relink fs q x y) p).view ≡ (frame_at fs p).view
  relink_view p = elim (found (length fs) 0) [
    | inl r ↦ elim (ℕ_discrete p r.0) [
      | yes e ↦ rw (r.4, e, frame-set-same fs r.0 (renamed r.0) (omega (arith, r.2)))
      | no e ↦ rw (r.4, frame-set_other fs r.0 p (renamed r.0) e)
    ]
    | inr r ↦ rw r.1
  ]

  -- where one child at most names x
  module _ (once : (c d : ℕ) → c < length fs → d < length fs → names fs q x c ≡ true → names fs q x d ≡ true → c ≡ d) where
    relink-some : (p : ℕ) → p < length fs → names fs q x p ≡ true → frame_at (relink fs q x y) p ≡ renamed p
    relink-some p b t = elim (found (length fs) 0) [
      | inl r ↦ (let e : p ≡ r.0 = once p r.0 b (omega (arith, r.2)) t r.3 in rw (r.4, e) (frame-set-same fs r.0 (renamed r.0) (omega (arith, r.2))))
      | inr r ↦ absurd (true≢false (sym t ∙ r.0 p (omega arith) (omega arith)))
    ]

    -- past the table no frame lives
    names_within : (p : ℕ) → names fs q x p ≡ true → p < length fs
    names_within p t = elim (dec_lt p (length fs)) [
      | yes b ↦ b
      | no b ↦ absurd (omega (arith, names-live fs q x p t, ap (λ (f : Frame). f.live) (frame_past fs p (omega arith))))
    ]

    pub relink_record : (p : ℕ) → frame_at (relink fs q x y) p ≡ cond (names fs q x p) (renamed p) (frame_at fs p)
    relink_record p = elim (decided (names fs q x p)) [
      | inl t ↦ relink-some p (names_within p t) t ∙ sym (rw t)
      | inr t ↦ relink-none p t ∙ sym (rw t)
    ]

-- ---- a spawn and an end

-- the youngest child names the new one
pub link_alike : (fs : List Frame) (p g : ℕ) → Alike fs (link_child fs p g)
link_alike fs p g = elim (decided (eqb (frame_at fs p).outstanding 0)) [
  | inl e ↦ rw e (alike_refl fs)
  | inr e ↦ rw e (relink_alike fs p none g)
]

pub link_view : (fs : List Frame) (p g : ℕ) → (q : ℕ) → (frame_at (link_child fs p g) q).view ≡ (frame_at fs q).view
link_view fs p g q = elim (decided (eqb (frame_at fs p).outstanding 0)) [
  | inl e ↦ rw e
  | inr e ↦ rw e (relink_view fs p none g q)
]

pub length-link : (fs : List Frame) (p g : ℕ) → length (link_child fs p g) ≡ length fs
length-link fs p g = elim (decided (eqb (frame_at fs p).outstanding 0)) [
  | inl e ↦ rw e
  | inr e ↦ rw e (length-relink fs p none g)
]

-- an elder sibling names the next younger one
pub unlink_alike : (fs : List Frame) (p : ℕ) (gs : List Frame) → Alike gs (unlink fs p gs)
unlink_alike fs p gs = elim (decided (only_child fs p)) [
  | inl e ↦ rw e (alike_refl gs)
  | inr e ↦ rw e (relink_alike gs (frame_at fs p).parent p (frame_at fs p).younger)
]

pub length-unlink : (fs : List Frame) (p : ℕ) (gs : List Frame) → length (unlink fs p gs) ≡ length gs
length-unlink fs p gs = elim (decided (only_child fs p)) [
  | inl e ↦ rw e
  | inr e ↦ rw e (length-relink gs (frame_at fs p).parent p (frame_at fs p).younger)
]
