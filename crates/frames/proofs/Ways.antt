-- The ways out of the functions over the table, over plain variables.
use mathlib.Core.Path.{◌≡◌, refl, sym, ap, ◌∙◌, subst}
use mathlib.Core.Bool.{Bool, true, false, cond, ◌&&◌}
use mathlib.Core.Logic.{◌≢◌, inl, inr}
use mathlib.Core.List.{List}
use Prim.Native.Nat.{ℕ, zero, suc, ◌+◌, ◌-◌, ◌≤◌, ◌<◌}
use native.Mathlib.Omega.{arith}
use native.Mathlib.Decide.{ℕ_discrete}
use lib.ListN.{length, get_or, set, replicate, get_or-replicate}
use lib.Seq.{get_or-set_same, get_or-set_other}
use lib.Dec.{eqb, ltb}
use borrow.Author.Tests.{eq-eqb, ne_eqb, ltb-true, ltb-false}
use Rattle.words.specs.Basics.{none, plus, minus}
use Rattle.words.specs.Tests.{decided}
use Rattle.reducers.specs.Reducers.{join_view}
use Rattle.frames.specs.declared.Frame.{Frame}
use Rattle.frames.specs.declared.Returned.TheVariants.{Idle, Resumed}
use Rattle.frames.specs.declared.Synced.TheVariants.{Passed, Suspended}
use Rattle.frames.specs.Widths.{max_places}
use Rattle.frames.specs.Frames.{frame_at, set_frame, without_child, with_suspended, with_view, with_younger, after_spawn, child_of, free_record}
use Rattle.frames.specs.Siblings.{names, relink_from, relink, eldest_to, eldest, first_from, only_child, next_after, join_at}
use Rattle.frames.specs.Deques.{bottom, push, pop}
use Rattle.frames.specs.Steps.{link_child, add_child, spawn, remove_frame, end_frame, resumes, go_on, went_on, sync, synced}
use Rattle.frames.specs.Ranges.{ParentOf, EndsIn}
use Rattle.frames.specs.Promises.{table, GoesOn, IsSync}
use Rattle.frames.proofs.Theory.Records.{frame-set_other, frame-set_again, frame-set_swap, frame_past}
use Rattle.frames.proofs.Theory.Links.{link_alike, link_view}
use Rattle.frames.proofs.Theory.Ends.{end_last, end_joins, only_unlink, only_next, sibling-unlink, sibling-next}
use Rattle.frames.proofs.Theory.EndRecords.{removed_is, removed_parent}
use Rattle.frames.proofs.Theory.Order.{first_step}

-- ---- ends

-- a frame that can end and has a parent, at place q: it is at another place, and has a live child
pub parent_in : {fs : List Frame} {p q : ℕ} → EndsIn fs p q → q ≢ none → (q < length fs) × (q ≢ p) × (0 < (frame_at fs q).outstanding)
parent_in {fs} {p} {q} r n = go r.parent
  where
    go : ParentOf fs p (frame_at fs p) → (q < length fs) × (q ≢ p) × (0 < (frame_at fs q).outstanding)
    go (inl a) = (subst (λ z. z < length fs) (sym r.up) a.1, (λ z. a.2 (sym r.up ∙ z)), subst (λ z. 0 < (frame_at fs z).outstanding) (sym r.up) (r.counts a.1))
    go (inr b) = absurd (n (r.up ∙ b.1))

has_siblings : (fs : List Frame) (p q : ℕ) → q ≡ (frame_at fs p).parent → (frame_at fs q).outstanding ≢ 1 → only_child fs p ≡ false
has_siblings fs p q eq z = ne_eqb _ 1 (λ y. z (ap (λ (i : ℕ). (frame_at fs i).outstanding) eq ∙ y))

-- the next one in the order, of a frame that has siblings
pub sibling_after : (fs : List Frame) (p q : ℕ) (f : Frame) (n : ℕ) → q ≡ (frame_at fs p).parent → (frame_at fs q).outstanding ≢ 1 → f ≡ frame_at fs p
    → n ≡ cond (eqb f.younger none) q (first_from (length fs) fs f.younger) → n ≡ next_after fs p
sibling_after fs p q f n eq z ef en = en ∙ rw (sibling-next fs p (has_siblings fs p q eq z), ef, eq)

-- q is the parent of the frame at place p, whose place is free afterwards, with the record g
module _ (fs : List Frame) (free p q : ℕ) (eq : q ≡ (frame_at fs p).parent) (g : Frame) (eg : g ≡ free_record free) where
  -- Main
  pub ended_main : (fs₁ : List Frame) → q ≡ none → fs₁ ≡ set_frame fs p g → fs₁ ≡ end_frame fs free p
  unfolding remove_frame
  ended_main fs₁ n e₁ = rw (e₁, eg, end_last fs free p (sym eq ∙ n), ← eq, eq-eqb q none n)

  -- the table without it: its parent, at another place, has a live child less
  module _ (fs₁ fs₂ : List Frame) (m : q ≢ none) (d : q ≢ p) (e₁ : fs₁ ≡ set_frame fs p g) (e₂ : fs₂ ≡ set_frame fs₁ q (without_child (frame_at fs₁ q))) where
    removed : fs₂ ≡ remove_frame fs free p
    unfolding remove_frame
    removed = rw (e₂, e₁, frame-set_other fs p q g d, eg, ← eq, ne_eqb q none m)

    pub ended_sibling : (f : Frame) (fs₃ fs₄ : List Frame) (n : ℕ) → f ≡ frame_at fs p → (frame_at fs q).outstanding ≢ 1
        → n ≡ next_after fs p → fs₃ ≡ relink fs₂ q p f.younger → fs₄ ≡ join_at fs₃ n f.view → fs₄ ≡ end_frame fs free p
    ended_sibling f fs₃ fs₄ n ef z en e₃ e₄ =
        let o : only_child fs p ≡ false = has_siblings fs p q eq z in
        e₄ ∙ rw (end_joins fs free p (λ e. m (eq ∙ e)), sibling-unlink fs p o (remove_frame fs free p), e₃, removed, en, ef, eq)

-- an only child: its parent's record is stored, then its own place is free
module _ (fs : List Frame) (free p q : ℕ) (eq : q ≡ (frame_at fs p).parent) (b : p < length fs) (bq : q < length fs) (m : q ≢ none) (d : q ≢ p) (o : (frame_at fs q).outstanding ≡ 1) where
  -- the parent's record without the child, and with the view that it then has
  abbrev left : Frame
  left = without_child (frame_at fs q)

  abbrev joined : Frame
  joined = with_view left (join_view (frame_at fs p).view left.view)

  end_alone_is : set_frame (set_frame fs p (free_record free)) q joined ≡ end_frame fs free p
  end_alone_is =
      let gs : List Frame = remove_frame fs free p in
      let only : only_child fs p ≡ true = eq-eqb _ 1 (ap (λ (i : ℕ). (frame_at fs i).outstanding) (sym eq) ∙ o) in
      let is : gs ≡ set_frame (set_frame fs p (free_record free)) q left = removed_is fs free p b q (sym eq) m bq d in
      let parent : frame_at gs q ≡ left = removed_parent fs free p b q (sym eq) m bq d in
      let stored : join_at gs q (frame_at fs p).view ≡ set_frame (set_frame fs p (free_record free)) q joined = rw (parent, is) (frame-set_again _ q left joined) in
      sym stored ∙ sym (end_joins fs free p (λ e. m (eq ∙ e)) ∙ rw (only_unlink fs p only gs, only_next fs p only, ← eq))

  pub ended_alone : (f g h k j : Frame) (fs₁ fs₂ : List Frame) → f ≡ frame_at fs p → g ≡ frame_at fs q → h ≡ without_child g → k ≡ with_view h (join_view f.view h.view) → fs₁ ≡ set_frame fs q k
      → j ≡ free_record free → fs₂ ≡ set_frame fs₁ p j → fs₂ ≡ end_frame fs free p
  ended_alone f g h k j fs₁ fs₂ ef eg eh ek e₁ ej e₂ = e₂ ∙ rw (e₁, ek, eh, eg, ef, ej) (frame-set_swap fs q p joined (free_record free) d) ∙ end_alone_is

-- ---- after the last end

module _ (ds : List ℕ) (fs : List Frame) (w q : ℕ) (g : Frame) (eg : g ≡ frame_at fs q) where
  pub stays_idle : resumes g ≡ false → GoesOn ds fs w q ds fs Idle
  unfolding go_on went_on
  stays_idle n = record { after = λ free. rw (← eg, n); outcome = λ free. rw (← eg, n) }

  pub resumed : resumes g ≡ true → (h : Frame) (ds' : List ℕ) (fs' : List Frame) → h ≡ with_suspended g 0 → fs' ≡ set_frame fs q h → ds' ≡ push ds w q → GoesOn ds fs w q ds' fs' Resumed
  unfolding go_on went_on
  resumed t h ds' fs' eh e₁ e₂ = record { after = λ free. rw (e₁, e₂, eh, ← eg, t); outcome = λ free. rw (← eg, t) }

-- ---- a return that waits, and a sync

module _ (ds : List ℕ) (fs : List Frame) (w p : ℕ) (ep : p ≡ bottom ds w) (f : Frame) (ef : f ≡ frame_at fs p) where
  pub passes : f.outstanding ≡ 0 → IsSync ds fs w ds fs Passed
  unfolding sync synced
  passes z = let t = eq-eqb f.outstanding 0 z in record { after = λ free. rw (← ep, ← ef, t); outcome = λ free. rw (← ep, ← ef, t) }

  pub waits : (h : Frame) (ds' : List ℕ) (fs' : List Frame) → f.outstanding ≢ 0 → h ≡ with_suspended f 1 → fs' ≡ set_frame fs p h → ds' ≡ pop ds w → IsSync ds fs w ds' fs' Suspended
  unfolding sync synced
  waits h ds' fs' z eh e₁ e₂ =
      let t = ne_eqb f.outstanding 0 z in
      record { after = λ free. rw (e₂, e₁, eh, ← ep, ← ef, t); outcome = λ free. rw (← ep, ← ef, t) }

-- ---- a spawn

table_eq : {ds ds' : List ℕ} {fs fs' : List Frame} {free free' : ℕ} → ds ≡ ds' → fs ≡ fs' → free ≡ free' → table ds fs free ≡ table ds' fs' free'
table_eq a b c = rw (a, b, c)

-- the child of the frame at place p is the same, whatever links changed
child-same : (fs : List Frame) (p g : ℕ) → child_of (frame_at fs p) p ≡ child_of (frame_at (link_child fs p g) p) p
child-same fs p g =
    let same = (link_alike fs p g).same p in
    rw (same.depth, same.root, link_view fs p g p)

pub spawned : (ds ds' : List ℕ) (fs fs₁ fs₂ fs₃ : List Frame) (free p w : ℕ) (f g h j k : Frame) → p ≡ bottom ds w → f ≡ frame_at fs p → h ≡ frame_at fs free → fs₁ ≡ link_child fs p free
    → g ≡ frame_at fs₁ p → j ≡ after_spawn g → fs₂ ≡ set_frame fs₁ p j → k ≡ child_of f p → fs₃ ≡ set_frame fs₂ free k → ds' ≡ push ds w free
    → table ds' fs₃ h.parent ≡ spawn (table ds fs free) w
unfolding spawn add_child
spawned ds ds' fs fs₁ fs₂ fs₃ free p w f g h j k ep ef eh e₁ eg ej e₂ ek e₃ e₄ =
    let child : k ≡ child_of (frame_at (link_child fs p free) p) p = ek ∙ rw ef (child-same fs p free) in
    let next : h.parent ≡ (frame_at (link_child fs p free) free).parent = ap (λ (x : Frame). x.parent) eh ∙ sym ((link_alike fs p free).same free).parent in
    rw (← ep) (table_eq e₄ (rw (e₃, e₂, ej, eg, e₁, child)) next)

-- ---- siblings

relink-step : (n m : ℕ) (fs : List Frame) (q x y c : ℕ) → n ≡ suc m → relink_from n fs q x y c ≡ cond (names fs q x c) (set_frame fs c (with_younger (frame_at fs c) y)) (relink_from m fs q x y (suc c))
unfolding relink_from
relink-step n m fs q x y c e = ap (λ (k : ℕ). relink_from k fs q x y c) e

-- f is the record at c; the places from c on are left
module _ (fs : List Frame) (q x y c : ℕ) (f : Frame) (ef : f ≡ frame_at fs c) (b : c < length fs) where
  abbrev test : Frame → Bool
  test g = (eqb g.live 1 && eqb g.parent q) && eqb g.younger x

  pub relink_found : (g : Frame) (gs : List Frame) → test f ≡ true → g ≡ with_younger f y → gs ≡ set_frame fs c g → gs ≡ relink_from (length fs - c) fs q x y c
  relink_found g gs t eg e =
      let k : names fs q x c ≡ true = ap test (sym ef) ∙ t in
      let h : g ≡ with_younger (frame_at fs c) y = eg ∙ ap (λ (u : Frame). with_younger u y) ef in
      e ∙ ap (set_frame fs c) h ∙ sym (relink-step (length fs - c) (length fs - suc c) fs q x y c (omega arith) ∙ rw k)

  pub relink_turn : test f ≡ false → relink_from (length fs - (c + 1)) fs q x y (c + 1) ≡ relink_from (length fs - c) fs q x y c
  relink_turn t =
      let k : names fs q x c ≡ false = ap test (sym ef) ∙ t in
      let one : c + 1 ≡ suc c = omega arith in
      ap (λ (d : ℕ). relink_from (length fs - d) fs q x y d) one ∙ sym (relink-step (length fs - c) (length fs - suc c) fs q x y c (omega arith) ∙ rw k)

pub relink_end : (fs : List Frame) (q x y c : ℕ) → length fs ≤ c → fs ≡ relink_from (length fs - c) fs q x y c
unfolding relink_from
relink_end fs q x y c h = let e : length fs - c ≡ 0 = omega arith in sym (ap (λ (m : ℕ). relink_from m fs q x y c) e)

pub ruleset relinking = (relink_found, relink_turn, relink_end)

-- the word of each place that a table may have: the sum over the first c places
abbrev pub Summed : List Frame → ℕ → List ℕ → Type 0
Summed fs c es = (q : ℕ) → q < max_places → get_or es q 0 ≡ eldest_to c fs q

pub summed_begin : (fs : List Frame) (es : List ℕ) → es ≡ replicate max_places none → Summed fs 0 es
unfolding eldest_to
summed_begin fs es e q b = ap (λ (ws : List ℕ). get_or ws q 0) e ∙ get_or-replicate max_places q none 0 b

-- the record f at place c, if a frame lives in it, is added to the word of its parent's place
abbrev added : List ℕ → ℕ → Frame → List ℕ
added es c f = cond (eqb f.live 1) (set es f.parent (minus (plus (get_or es f.parent 0) c) f.younger)) es

added_at : (es : List ℕ) (c : ℕ) (f : Frame) (q e : ℕ) → q < length es → get_or es q 0 ≡ e → get_or (added es c f) q 0 ≡ cond (eqb f.live 1 && eqb f.parent q) (minus (plus e c) f.younger) e
added_at es c f q e b d = elim (decided (eqb f.live 1)) [
  | inl t ↦ elim (ℕ_discrete q f.parent) [
    | yes k ↦ rw (t, eq-eqb f.parent q (sym k), ← k) (get_or-set_same es q (minus (plus (get_or es q 0) c) f.younger) 0 b ∙ ap (λ (x : ℕ). minus (plus x c) f.younger) d)
    | no k ↦ rw (t, ne_eqb f.parent q (λ z. k (sym z))) (get_or-set_other es f.parent q (minus (plus (get_or es f.parent 0) c) f.younger) 0 k ∙ d)
  ]
  | inr t ↦ rw t d
]

pub summed_turn : (fs : List Frame) (es gs : List ℕ) (c : ℕ) (f : Frame) → f ≡ frame_at fs c → length es ≡ max_places → gs ≡ added es c f → Summed fs c es → Summed fs (c + 1) gs
unfolding eldest_to
summed_turn fs es gs c f ef long k s q b =
    let one : c + 1 ≡ suc c = omega arith in
    rw one (ap (λ (ws : List ℕ). get_or ws q 0) (k ∙ ap (added es c) ef) ∙ added_at es c (frame_at fs c) q (eldest_to c fs q) (omega arith) (s q b))

-- past the table there are no children
pub has_children : (fs : List Frame) (p : ℕ) (f : Frame) → f ≡ frame_at fs p → f.outstanding ≢ 0 → p < length fs
has_children fs p f ef n = elim (decided (ltb p (length fs))) [
  | inl t ↦ ltb-true p (length fs) t
  | inr t ↦ absurd (n (ap (λ (g : Frame). g.outstanding) (ef ∙ frame_past fs p (ltb-false p (length fs) t))))
]

-- down to the eldest child
module _ (fs : List Frame) (p left : ℕ) (f : Frame) (ef : f ≡ frame_at fs p) (b : 0 < left) where
  some_left : left ≡ suc (left - 1)
  some_left = omega arith

  pub first_turn : f.outstanding ≢ 0 → first_from (left - 1) fs (eldest fs p) ≡ first_from left fs p
  first_turn n = sym (ap (λ (k : ℕ). first_from k fs p) some_left ∙ first_step (left - 1) fs p (λ z. n (ap (λ (g : Frame). g.outstanding) ef ∙ z)))

  pub first_found : f.outstanding ≡ 0 → p ≡ first_from left fs p
  unfolding first_from
  first_found z = sym (ap (λ (k : ℕ). first_from k fs p) some_left ∙ rw (eq-eqb (frame_at fs p).outstanding 0 (sym (ap (λ (g : Frame). g.outstanding) ef) ∙ z)))

pub first_end : (fs : List Frame) (p left : ℕ) → left ≤ 0 → p ≡ first_from left fs p
unfolding first_from
first_end fs p zero h = refl
first_end fs p (suc left) h = absurd (omega arith)
