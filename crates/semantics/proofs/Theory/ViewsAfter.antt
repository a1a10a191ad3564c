-- R-5: the views after each kind of accepted step. Only a spawn, a fold and a frame's end alter them.
use Rattle.std.specs.Prelude.{◌≡◌, refl, ◌≢◌, ◌⊎◌, ℕ}
use Rattle.std.proofs.Common.{sym, ap, ◌∙◌, subst, inl, inr}
use mathlib.Core.List.Memᴰ
use mathlib.Core.List.Memᴰ.{append_cases as In-cases}
use mathlib.Core.List.Memᴰ.{cases_cons as In-cons}
use mathlib.Core.List.Memᴰ.{head as here}
use mathlib.Core.List.Memᴰ.{map as In-map}
use mathlib.Core.List.Memᴰ.{not-nil as not-in-nil}
use mathlib.Core.List.Memᴰ.{tail as there}
use mathlib.Core.List.{Memᴰ as In}
use mathlib.Core.List.Permᴰ
use mathlib.Core.List.{List, [], ◌∷◌, ◌++◌, Permᴰ}
use Rattle.words.specs.Basics.{same}
use Rattle.words.specs.Tests.{decided}
use Rattle.words.specs.Distinct.{same_eq, same_ne}
use Rattle.words.specs.Lists.{In-perm}
use Rattle.words.specs.NoDup.{NoDup}
use Rattle.model.specs.declared.Step.{Step}
use Rattle.model.specs.declared.Step.TheVariants.{Spawn, Return, Steal, Sync, Read, Write, Fold}
use Rattle.model.specs.Machine.{Name, Frame, Machine, live, has_frame}
use Rattle.model.specs.Steps.{Action, spawn, return, sync, read, write, fold, acting, stealing, turn_of, after_action, after_turn}
use Rattle.model.specs.Views.{View, Views, became, views_acted, bottom_views, join_ended, views_after}
use Rattle.model.proofs.Theory.LiveRun.{successors}
use Rattle.model.proofs.Theory.Effects.{Passes, rest, other_action, action_live, Acts, acts, steals}
use Rattle.model.proofs.Theory.RunSteps.{accepted_at}
use Rattle.model.proofs.Theory.MainEnds.{In-hasFrame}
use Rattle.model.proofs.Theory.ViewNames.{view_names, names_acted, views_accepted, view_names_acted, NamesOf, acted_alive}
use Rattle.model.proofs.Theory.JoinViews.{AllStay, join_none}

-- ---- the views after a step of q

-- one that is not q's, or what became of q's
pub in_views_acted : (q : Frame) (a : Action) (vs : List View) → NoDup (view_names vs) → (v : View) → In v (views_acted q a vs)
    → (In v vs × (v.name ≢ q.name)) ⊎ ((u : View) × In u vs × (u.name ≡ q.name) × In v (became q a u))
in_views_acted q a [] d v m = absurd (not-in-nil m)
in_views_acted q a (x ∷ vs) d v m =
    elim (decided (same x.name q.name)) [
      | inl t ↦ (let e = same_eq x.name q.name t in elim (In-cases (became q a x) (rw t at m)) [
        | inl i ↦ inr (x, here refl, e, i)
        | inr i ↦ inl (there i, λ z. d.0 (Memᴰ.cast (e ∙ sym z) (In-map (λ (u : View). u.name) i)))
      ])
      | inr t ↦ elim (In-cons (rw t at m)) [
        | inl e ↦ inl (here e, λ z. same_ne t (ap (λ (u : View). u.name) (sym e) ∙ z))
        | inr i ↦ elim (in_views_acted q a vs d.1 v i) [ inl j ↦ inl (there j.0, j.1) | inr u ↦ inr (u.0, there u.1, u.2, u.3) ]
      ]
    ]

-- an action that alters no view
acted_none : (q : Frame) (a : Action) (vs : List View) → ((v : View) → became q a v ≡ v ∷ []) → views_acted q a vs ≡ vs
acted_none q a [] h = refl
acted_none q a (v ∷ vs) h =
    elim (decided (same v.name q.name)) [ inl t ↦ rw t (ap (λ (l : List View). l ++ vs) (h v)) | inr t ↦ rw t (ap (λ (l : List View). v ∷ l) (acted_none q a vs h)) ]

-- ---- no frame ends

module _ (M : Machine) (W : Views) (o : NamesOf (live M) (view_names W.views)) where
  -- each view after the step is of a frame that lives then
  stays : (w : ℕ) (a : Action) (x : Acts M w a) (L' : List Frame) → Permᴰ L' (successors x.actor a ++ (x.above ++ rest M w))
      → AllStay (λ n. has_frame n L') (views_acted x.actor a W.views)
  stays w a x L' π v m =
      let i : In v.name (names_acted x.actor a (view_names W.views)) = subst (λ (l : List Name). In v.name l) (view_names_acted x.actor a W.views) (In-map (λ (u : View). u.name) m) in
      let f = acted_alive M w a (view_names W.views) x o v.name i in
      In-hasFrame v.name L' f.0 (In-perm (Permᴰ.symm π) f.1) f.2

  acted_views : (st : Step) (w : ℕ) (a : Action) → turn_of st ≡ acting w a → (h : Passes M (acting w a))
      → Permᴰ (live (after_action M w ((acts M w a h).actor ∷ (acts M w a h).above) a)) (successors (acts M w a h).actor a ++ ((acts M w a h).above ++ rest M w))
      → views_after M W st ≡ record { views = views_acted (acts M w a h).actor a W.views; totals = W.totals }
  acted_views st w a t h π =
      let x = acts M w a h in
      views_accepted M W st (accepted_at M st (subst (Passes M) (sym t) h))
      ∙ rw (t, x.at) (join_none (λ n. has_frame n (live (after_action M w (x.actor ∷ x.above) a))) (views_acted x.actor a W.views) W.totals (stays w a x (live (after_action M w (x.actor ∷ x.above) a)) π))

  -- a step other than a return and a steal
  action_views : (st : Step) (w : ℕ) (a : Action) → turn_of st ≡ acting w a → a ≢ return → (h : Passes M (acting w a))
      → views_after M W st ≡ record { views = views_acted (acts M w a h).actor a W.views; totals = W.totals }
  action_views st w a t n h = let x = acts M w a h in acted_views st w a t h (action_live M w x.actor x.above a n x.worker x.at)

  unaltered : (vs : List View) → vs ≡ W.views → record { views = vs; totals = W.totals } ≡ W
  unaltered vs e = ap (λ (l : List View). record { views = l; totals = W.totals }) e

  pub views_spawn : (w : ℕ) (h : Passes M (acting w spawn)) → views_after M W (Spawn w) ≡ record { views = views_acted (acts M w spawn h).actor spawn W.views; totals = W.totals }
  views_spawn w h = action_views (Spawn w) w spawn refl (λ z. other_action z refl) h

  pub views_fold : (w i x : ℕ) (h : Passes M (acting w (fold i x)))
      → views_after M W (Fold w i x) ≡ record { views = views_acted (acts M w (fold i x) h).actor (fold i x) W.views; totals = W.totals }
  views_fold w i x h = action_views (Fold w i x) w (fold i x) refl (λ z. other_action z refl) h

  pub views_sync : (w : ℕ) → Passes M (acting w sync) → views_after M W (Sync w) ≡ W
  views_sync w h = action_views (Sync w) w sync refl (λ z. other_action z refl) h ∙ unaltered _ (acted_none (acts M w sync h).actor sync W.views (λ v. refl))

  pub views_read : (w x : ℕ) → Passes M (acting w (read x)) → views_after M W (Read w x) ≡ W
  views_read w x h =
      action_views (Read w x) w (read x) refl (λ z. other_action z refl) h
      ∙ unaltered _ (acted_none (acts M w (read x) h).actor (read x) W.views (λ v. refl))

  pub views_write : (w x y : ℕ) → Passes M (acting w (write x y)) → views_after M W (Write w x y) ≡ W
  views_write w x y h =
      action_views (Write w x y) w (write x y) refl (λ z. other_action z refl) h
      ∙ unaltered _ (acted_none (acts M w (write x y) h).actor (write x y) W.views (λ v. refl))

  pub views_steal : (w v : ℕ) → Passes M (stealing w v) → views_after M W (Steal w v) ≡ W
  views_steal w v h =
      views_accepted M W (Steal w v) (accepted_at M (Steal w v) h)
      ∙ join_none (λ n. has_frame n (live (after_turn M (stealing w v)))) W.views W.totals
      (λ u m. let f = o.alive u.name (In-map (λ (z : View). z.name) m) in In-hasFrame u.name (live (after_turn M (stealing w v))) f.0 (In-perm (steals M w v h).same-frames f.1) f.2)

-- ---- a return: the views of the frames that have ended join

pub views_return : (M : Machine) (W : Views) (w : ℕ) → Passes M (acting w return) → views_after M W (Return w) ≡ join_ended (live (after_turn M (acting w return))) [] W.views W.totals
views_return M W w h =
    let x = acts M w return h in
    views_accepted M W (Return w) (accepted_at M (Return w) h)
    ∙ ap (λ (l : List View). join_ended (live (after_turn M (acting w return))) [] l W.totals) (ap (λ (d : List Frame). bottom_views d return W.views) x.at ∙ acted_none x.actor return W.views (λ v. refl))
