-- R-7: the clocks where one frame ends: its own is gone, and its parent's has heard it.
use Rattle.std.specs.Prelude.{◌≡◌, refl, ◌≢◌, true, false}
use Rattle.std.proofs.Common.{sym, ap, ◌∙◌, subst, inl, inr}
use mathlib.Core.List.Memᴰ
use mathlib.Core.List.Memᴰ.{append_cases as In-cases}
use mathlib.Core.List.Memᴰ.{append_left as In-left}
use mathlib.Core.List.Memᴰ.{append_right as In-right}
use mathlib.Core.List.Memᴰ.{cases_cons as In-cons}
use mathlib.Core.List.Memᴰ.{head as here}
use mathlib.Core.List.Memᴰ.{map as In-map}
use mathlib.Core.List.Memᴰ.{tail as there}
use mathlib.Core.List.{Memᴰ as In}
use mathlib.Core.List.{List, [], ◌∷◌, ◌++◌, map, map-append, Permᴰ}
use Rattle.words.specs.Tests.{decided}
use Rattle.words.specs.Lists.{In-perm}
use Rattle.model.specs.Machine.{Name, Frame, is_child, has_frame}
use Rattle.model.specs.Clocks.{Clock, Final, heard, final_clock, settle}
use Rattle.model.proofs.Theory.Under.{under_same}
use Rattle.model.proofs.Theory.LiveRun.{Disjoint, disjoint_perm}
use Rattle.model.proofs.Theory.FrameTree.{names_apart}
use Rattle.model.proofs.Theory.MainEnds.{In-hasFrame, has_frame_In}
use Rattle.model.proofs.Theory.PostOrder.{PostOrder, InPostOrder, until_in, post_suffix, post_after}
use Rattle.model.proofs.Theory.Siblings.{of_child}
use Rattle.model.proofs.Theory.NextView.{later_apart}
use Rattle.model.proofs.Theory.SettleClocks.{clock_names, clock_at, settle_one, heard_other}

-- ---- the clock of a name, and those before and after it

pub record ClockOf (cs : List Clock) (n : Name) : Type 0 where
  pub before : List Clock
  pub clock : Clock
  pub after : List Clock
  pub parts : cs ≡ before ++ (clock ∷ after)
  pub named : clock.name ≡ n
  pub names : clock_names cs ≡ clock_names before ++ (n ∷ clock_names after)
  pub before_apart : (u : Clock) → In u before → u.name ≢ n
  pub after_apart : (u : Clock) → In u after → u.name ≢ n

pub clock_of : (cs : List Clock) (n : Name) → PostOrder (clock_names cs) → In n (clock_names cs) → ClockOf cs n
clock_of cs n post m = record {
  before = us;
  clock = k;
  after = vs;
  parts = x.3;
  named = x.4;
  names = names;
  before_apart = λ u i d. x.5 (Memᴰ.cast (sym d) (In-map (λ (z : Clock). z.name) i));
  after_apart = λ u i d. post_after (clock_names us) (clock_names vs) n (subst PostOrder names post) (Memᴰ.cast (sym d) (In-map (λ (z : Clock). z.name) i));
}
  where
    x : (us : List Clock) × (k : Clock) × (vs : List Clock) × (cs ≡ us ++ (k ∷ vs)) × (k.name ≡ n) × (In n (clock_names us) → ⊥)
    x = clock_at cs n m

    us : List Clock
    us = x.0

    k : Clock
    k = x.1

    vs : List Clock
    vs = x.2

    names : clock_names cs ≡ clock_names us ++ (n ∷ clock_names vs)
    names = ap clock_names x.3 ∙ map-append (λ (u : Clock). u.name) us (k ∷ vs) ∙ ap (λ (y : Name). clock_names us ++ (y ∷ clock_names vs)) x.4

module _ (cs : List Clock) (n : Name) (K : ClockOf cs n) where
  pub clock_there : In K.clock cs
  clock_there = subst (λ (l : List Clock). In K.clock l) (sym K.parts) (In-right K.before (here refl))

  pub before_there : (u : Clock) → In u K.before → In u cs
  before_there u m = subst (λ (l : List Clock). In u l) (sym K.parts) (In-left (K.clock ∷ K.after) m)

  pub after_there : (u : Clock) → In u K.after → In u cs
  after_there u m = subst (λ (l : List Clock). In u l) (sym K.parts) (In-right K.before (there m))

-- ---- it is gone

-- of the clocks cs only g's is gone, the frames R being left
pub record OneEnds (R : List Frame) (g : Frame) (cs : List Clock) : Type 0 where
  pub clock : Clock
  pub there_was : In clock cs
  pub named : clock.name ≡ g.name
  pub ended : (settle R [] cs).1 ≡ (g.name, final_clock clock) ∷ []
  pub left : (u : Clock) → In u (settle R [] cs).0 → (k : Clock) × In k cs × (k.name ≢ g.name) × (u ≡ heard ((g.name, final_clock clock) ∷ []) k)

module _ (L R : List Frame) (g : Frame) (perm : Permᴰ L (g ∷ R)) (disjoint : Disjoint L) (cs : List Clock) (o : InPostOrder L (clock_names cs)) (K : ClockOf cs g.name) where
  abbrev us : List Clock
  us = K.before

  abbrev k : Clock
  k = K.clock

  abbrev vs : List Clock
  vs = K.after

  abbrev final : List Final
  final = (k.name, final_clock k) ∷ []

  is_gone : has_frame g.name R ≡ false
  is_gone = elim (decided (has_frame g.name R)) [
    | inl t ↦ (let f = has_frame_In g.name R t in absurd (names_apart g f.0 R (disjoint_perm perm disjoint) f.1 (sym f.2)))
    | inr t ↦ t
  ]

  is_left : (u : Clock) → In u cs → u.name ≢ g.name → has_frame u.name R ≡ true
  is_left u m d =
      let f = o.names.alive u.name (In-map (λ (z : Clock). z.name) m) in
      elim (In-cons (In-perm perm f.1)) [ inl e ↦ absurd (d (sym f.2 ∙ ap (λ (z : Frame). z.name) e)) | inr i ↦ In-hasFrame u.name R f.0 i f.2 ]

  settled : settle R [] cs ≡ (us ++ map (heard final) vs, final)
  settled =
      ap (settle R []) K.parts
      ∙ settle_one (λ n. has_frame n R) us vs k (λ u m. is_left u (before_there cs g.name K u m) (K.before_apart u m)) (ap (λ (n : Name). has_frame n R) K.named ∙ is_gone)
      (λ u m. is_left u (after_there cs g.name K u m) (K.after_apart u m))

  -- its parent stands after it
  no_parent : (u : Clock) → In u us → is_child u.name k.name ≡ false
  no_parent u m =
      let xs = clock_names us in
      let ys = g.name ∷ clock_names vs in
      let post : PostOrder (xs ++ ys) = subst PostOrder K.names o.post in
      elim (decided (is_child u.name k.name)) [
        | inl t ↦ (let j = of_child u.name k.name t in
            let i = until_in u.name (clock_names vs) ((post_suffix xs ys post).0.to_parent j.0 u.name (sym K.named ∙ j.1)) in
            absurd (later_apart xs ys post u.name u.name (In-map (λ (z : Clock). z.name) m) (there i) (under_same u.name)))
        | inr t ↦ t
      ]

  from : (u : Clock) → In u (us ++ map (heard final) vs) → (c : Clock) × In c cs × (c.name ≢ g.name) × (u ≡ heard final c)
  from u m = elim (In-cases us m) [
    | inl i ↦ (u, before_there cs g.name K u i, K.before_apart u i, sym (heard_other k.name (final_clock k) u (no_parent u i)))
    | inr i ↦ (let x = Memᴰ.of_map (heard final) vs i in (x.0, after_there cs g.name K x.0 x.1, K.after_apart x.0 x.1, sym x.2))
  ]

  pub one_ends : OneEnds R g cs
  one_ends = record {
    clock = k;
    there_was = clock_there cs g.name K;
    named = K.named;
    ended = ap (λ z. z.1) settled ∙ ap (λ (n : Name). (n, final_clock k) ∷ []) K.named;
    left = λ u m.
        let x = from u (subst (λ (l : List Clock). In u l) (ap (λ z. z.0) settled) m) in
        (x.0, x.1, x.2, x.3 ∙ ap (λ (n : Name). heard ((n, final_clock k) ∷ []) x.0) K.named);
  }
