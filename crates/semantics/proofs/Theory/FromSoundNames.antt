-- The names that a sound state's frames are given: no two frames have the same one, or a name to come in common.
use Rattle.std.specs.Prelude.{◌≡◌, refl, ◌≢◌, ◌⊎◌, false, length}
use Rattle.std.proofs.Common.{sym, ap, ◌∙◌, subst, inl, inr}
use mathlib.Core.List.{List, [], ◌∷◌, nil≢cons, tail-eq_of_cons-eq}
use Prim.Native.Nat.{ℕ, zero, suc, ◌≤◌, ◌<◌}
use native.Mathlib.Omega.{arith}
use Rattle.std.proofs.Math.Decide.{ℕ_discrete}
use Rattle.words.specs.Basics.{none}
use Rattle.words.specs.Tests.{decided, true≢false}
use Rattle.words.specs.Distinct.{same_refl, same_differ}
use Rattle.frames.specs.Widths.{max_places}
use Rattle.frames.specs.declared.Frame.{Frame as FrameRecord}
use Rattle.frames.specs.Frames.{frame_at}
use Rattle.soundness.specs.Soundness.{is_child as isChildAt}
use Rattle.model.specs.Machine.{Name, is_child}
use Rattle.model.proofs.Theory.Names.{below, owns}
use Rattle.semantics.proofs.Theory.Relation.{parent_place}
use Rattle.soundness.proofs.Theory.Sentences.{Lives, NoFrame, HasParent, OnlyMain, FramesFacts, child_at_lem, at_child}
use Rattle.semantics.specs.SoundMachine.{name_from, name_of, place_of}

-- ---- families of names

-- no number of it is above n
abbrev pub Small : ℕ → Name → Type 0
Small n [] = Unit {0}
Small n (k ∷ r) = (k ≤ n) × Small n r

small_not_below : (n : ℕ) (p r : Name) → Small n r → below p n r → ⊥
small_not_below n p [] s b = b
small_not_below n p (k ∷ r) s (inl h) = omega (arith, h.1)
small_not_below n p (k ∷ r) s (inr h) = small_not_below n p r s.1 h.1

small_cast : (n : ℕ) {p q : Name} → p ≡ q → Small n q → Small n p
small_cast n e s = subst (Small n) (sym e) s

-- frames with small names that own a name in common have the same name
pub owns-same : (n : ℕ) (p q r : Name) → Small n p → Small n q → owns p n r → owns q n r → p ≡ q
owns-same n p q [] sp sq (inl e) (inl f) = sym e ∙ f
owns-same n p q [] sp sq (inl e) (inr f) = absurd f
owns-same n p q [] sp sq (inr e) f = absurd e
owns-same n p q (k ∷ r) sp sq (inl e) (inl f) = sym e ∙ f
owns-same n p q (k ∷ r) sp sq (inl e) (inr b) = absurd (small_not_below n q (k ∷ r) (small_cast n e sp) b)
owns-same n p q (k ∷ r) sp sq (inr b) (inl f) = absurd (small_not_below n p (k ∷ r) (small_cast n f sq) b)
owns-same n p q (k ∷ r) sp sq (inr (inl b)) (inr (inl c)) = sym b.0 ∙ c.0
owns-same n p q (k ∷ r) sp sq (inr (inl b)) (inr (inr c)) = absurd (small_not_below n q r (small_cast n b.0 sp) c.1)
owns-same n p q (k ∷ r) sp sq (inr (inr b)) (inr (inl c)) = absurd (small_not_below n p r (small_cast n c.0 sq) b.1)
owns-same n p q (k ∷ r) sp sq (inr (inr b)) (inr (inr c)) = owns-same n p q r sp sq (inr b.1) (inr c.1)

-- ---- what of the facts names depend on

pub record Rooted (fs : List FrameRecord) : Type 0 where
  pub few : length fs ≤ max_places
  pub main : ℕ
  -- a live frame of depth 0 is at place main, with parent none
  pub flat : (p : ℕ) → p < length fs → Lives fs p → (frame_at fs p).depth ≡ 0 → (p ≡ main) × ((frame_at fs p).parent ≡ none)
  pub deep : (p : ℕ) → p < length fs → Lives fs p → (frame_at fs p).depth ≢ 0 → HasParent fs p

pub rooted_facts : {workers first : ℕ} {ds : List ℕ} {fs : List FrameRecord} → length fs ≤ max_places → FramesFacts workers first ds fs → Rooted fs
rooted_facts {ds = ds} {fs = fs} few F = go F.one_main_lem
  where
    go : NoFrame ds fs ⊎ OnlyMain fs → Rooted fs
    go (inl h) = record { few = few; main = 0; flat = λ p b l d. absurd (h.0 p b l); deep = F.parents }
    go (inr m) = record { few = few; main = m.main; flat = λ p b l d. (let e = m.only p b l d in (e, ap (λ q. (frame_at fs q).parent) e ∙ m.orphan)); deep = F.parents }

length_from : (d : ℕ) (fs : List FrameRecord) (p : ℕ) → length (name_from d fs p) ≡ d
unfolding name_from
length_from zero fs p = refl
length_from (suc d) fs p = ap suc (length_from d fs (frame_at fs p).parent)

pub length_name : (fs : List FrameRecord) (p : ℕ) → length (name_of fs p) ≡ (frame_at fs p).depth
length_name fs p = length_from (frame_at fs p).depth fs p

pub name_main : (fs : List FrameRecord) (p : ℕ) → (frame_at fs p).depth ≡ 0 → name_of fs p ≡ []
unfolding name_from
name_main fs p e = ap (λ d. name_from d fs p) e

name_suc : (fs : List FrameRecord) (p d : ℕ) → (frame_at fs p).depth ≡ suc d → name_of fs p ≡ suc p ∷ name_from d fs (frame_at fs p).parent
unfolding name_from
name_suc fs p d e = ap (λ d. name_from d fs p) e

module _ (fs : List FrameRecord) (R : Rooted fs) where
  pub name_child : (p : ℕ) → p < length fs → Lives fs p → (frame_at fs p).depth ≢ 0 → name_of fs p ≡ suc p ∷ name_of fs (frame_at fs p).parent
  name_child p b l d = name_suc fs p (frame_at fs (frame_at fs p).parent).depth (R.deep p b l d).2

  -- a frame with a parent among the places is not Main
  pub not_main : (p q : ℕ) → p < length fs → Lives fs p → (frame_at fs p).parent ≡ q → q < length fs → (frame_at fs p).depth ≢ 0
  not_main p q b l e c z = omega (arith, (R.flat p b l z).1, e, R.few)

  pub place_name : (p : ℕ) → p < length fs → Lives fs p → place_of R.main (name_of fs p) ≡ p
  place_name p b l = elim (ℕ_discrete (frame_at fs p).depth 0) [
    | yes z ↦ ap (place_of R.main) (name_main fs p z) ∙ sym (R.flat p b l z).0
    | no z ↦ ap (place_of R.main) (name_child p b l z) ∙ omega arith
  ]

  pub name_injective : (p q : ℕ) → p < length fs → q < length fs → Lives fs p → Lives fs q → name_of fs p ≡ name_of fs q → p ≡ q
  name_injective p q b c l m e = sym (place_name p b l) ∙ ap (place_of R.main) e ∙ place_name q c m

  pub parent_name : (p : ℕ) → p < length fs → Lives fs p → (frame_at fs p).parent ≡ parent_place (place_of R.main) (name_of fs p)
  parent_name p b l = elim (ℕ_discrete (frame_at fs p).depth 0) [
    | yes z ↦ (R.flat p b l z).1 ∙ ap (parent_place (place_of R.main)) (sym (name_main fs p z))
    | no z ↦
        (let h = R.deep p b l z in
        sym (place_name (frame_at fs p).parent h.0 h.1) ∙ ap (parent_place (place_of R.main)) (sym (name_child p b l z)))
  ]

  small_from : (d p : ℕ) → p < length fs → Lives fs p → (frame_at fs p).depth ≡ d → Small (length fs) (name_from d fs p)
  unfolding name_from
  small_from zero p b l e = tt
  small_from (suc d) p b l e = (let h = R.deep p b l (λ z. omega arith) in (omega arith, small_from d (frame_at fs p).parent h.0 h.1 (omega (arith, h.2))))

  pub small_name : (p : ℕ) → p < length fs → Lives fs p → Small (length fs) (name_of fs p)
  small_name p b l = small_from (frame_at fs p).depth p b l refl

  -- q's name is a child's name of p's just where q is a child of p
  pub child_name : (p q k : ℕ) → p < length fs → q < length fs → Lives fs p → Lives fs q → name_of fs q ≡ k ∷ name_of fs p → (frame_at fs q).parent ≡ p
  child_name p q k b c l m e = elim (ℕ_discrete (frame_at fs q).depth 0) [
    | yes z ↦ absurd (nil≢cons (sym (name_main fs q z) ∙ e))
    | no z ↦
        (let h = R.deep q c m z in
        name_injective (frame_at fs q).parent p h.0 b h.1 l (tail-eq_of_cons-eq (sym (name_child q c m z) ∙ e)))
  ]

  pub name_of_child : (p q : ℕ) → p < length fs → q < length fs → Lives fs q → (frame_at fs q).parent ≡ p → name_of fs q ≡ suc q ∷ name_of fs p
  name_of_child p q b c m e = name_child q c m (not_main q p c m e b) ∙ ap (λ r. suc q ∷ name_of fs r) e

  pub child_test : (p q : ℕ) → p < length fs → q < length fs → Lives fs p → Lives fs q → is_child (name_of fs p) (name_of fs q) ≡ isChildAt fs p q
  child_test p q b c l m = elim (decided (isChildAt fs p q)) [
    | inl t ↦ ap (is_child (name_of fs p)) (name_of_child p q b c m (child_at_lem fs p q t).1) ∙ same_refl (name_of fs p) ∙ sym t
    | inr t ↦ go t (name_of fs q) refl ∙ sym t
  ]
    where
      go : isChildAt fs p q ≡ false → (r : Name) → name_of fs q ≡ r → is_child (name_of fs p) r ≡ false
      go t [] e = refl
      go t (k ∷ r) e = same_differ (λ (d : r ≡ name_of fs p). true≢false (sym (at_child fs p q m (child_name p q k b c l m (e ∙ ap (λ z. k ∷ z) d))) ∙ t))
