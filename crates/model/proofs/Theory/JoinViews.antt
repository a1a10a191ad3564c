-- Views that join the next ones: of several frames that end at once, one after the other.
use Rattle.std.specs.Prelude.{◌≡◌, refl, Bool, true, false, cond, ◌&&◌, List, [], ◌∷◌, ◌++◌}
use Rattle.std.proofs.Common.{sym, ap, ap₂, ◌∙◌, inl, inr, append-nil, append_assoc}
use mathlib.Core.List.Memᴰ.{head as here}
use mathlib.Core.List.Memᴰ.{tail as there}
use mathlib.Core.List.{Memᴰ as In}
use Rattle.words.specs.Tests.{decided}
use Rattle.model.specs.Machine.{Name, Frame, has_frame}
use Rattle.model.specs.Views.{Folded, View, Views, join_by, join_ended}

-- every view's frame stays
abbrev pub AllStay : (Name → Bool) → List View → Type 0
AllStay s vs = (v : View) → In v vs → s v.name ≡ true

-- the view v at the head of those
abbrev pub with_view : View → Views → Views
with_view v W = record { views = v ∷ W.views; totals = W.totals }

-- what is folded before what a view has
abbrev pub joined_to : List Folded → View → View
joined_to fs v = record { name = v.name; folds = fs ++ v.folds }

join_stays : (s : Name → Bool) (ended : List Folded) (v : View) (vs : List View) (totals : List Folded) → s v.name ≡ true → join_by s ended (v ∷ vs) totals ≡ with_view (joined_to ended v) (join_by s [] vs totals)
join_stays s ended v vs totals t = rw t

join_ends : (s : Name → Bool) (ended : List Folded) (v : View) (vs : List View) (totals : List Folded) → s v.name ≡ false → join_by s ended (v ∷ vs) totals ≡ join_by s (ended ++ v.folds) vs totals
join_ends s ended v vs totals t = rw t

-- ---- those that end in one test, and then those in another

abbrev pub join_twice : (Name → Bool) → (Name → Bool) → List Folded → List Folded → List View → List Folded → Views
join_twice s t ended₁ ended₂ vs totals = let W = join_by s ended₁ vs totals in join_by t ended₂ W.views W.totals

join_both_from : (s t : Name → Bool) (ended₁ ended₂ : List Folded) (vs : List View) (totals : List Folded) → join_by (λ n. s n && t n) (ended₂ ++ ended₁) vs totals ≡ join_twice s t ended₁ ended₂ vs totals
join_both_from s t ended₁ ended₂ [] totals = ap (λ z. record { views = []; totals = z }) (append_assoc ended₂ ended₁ totals)
join_both_from s t ended₁ ended₂ (v ∷ vs) totals =
    elim (decided (s v.name)) [
      | inl a ↦ elim (decided (t v.name)) [
        | inl b ↦ rw (a, b) (ap₂ (λ z W. with_view (record { name = v.name; folds = z }) W) (append_assoc ended₂ ended₁ v.folds) (join_both_from s t [] [] vs totals))
        | inr b ↦ rw (a, b) (ap (λ z. join_by (λ n. s n && t n) z vs totals) (append_assoc ended₂ ended₁ v.folds ∙ sym (append-nil (ended₂ ++ (ended₁ ++ v.folds)))) ∙ join_both_from s t [] (ended₂ ++ (ended₁ ++ v.folds)) vs totals)
      ]
      | inr a ↦ rw a (ap (λ z. join_by (λ n. s n && t n) z vs totals) (append_assoc ended₂ ended₁ v.folds) ∙ join_both_from s t (ended₁ ++ v.folds) ended₂ vs totals)
    ]

pub join_both : (s t : Name → Bool) (vs : List View) (totals : List Folded) → join_by (λ n. s n && t n) [] vs totals ≡ (let W = join_by s [] vs totals in join_by t [] W.views W.totals)
join_both s t vs totals = join_both_from s t [] [] vs totals

-- ---- only the names of the views matter

pub join_same : (s t : Name → Bool) (ended : List Folded) (vs : List View) (totals : List Folded) → ((v : View) → In v vs → s v.name ≡ t v.name) → join_by s ended vs totals ≡ join_by t ended vs totals
join_same s t ended [] totals h = refl
join_same s t ended (v ∷ vs) totals h =
    ap (λ b. cond b (with_view (joined_to ended v) (join_by s [] vs totals)) (join_by s (ended ++ v.folds) vs totals)) (h v (here refl))
    ∙ ap₂ (λ y z. cond (t v.name) (with_view (joined_to ended v) y) z) (join_same s t [] vs totals (λ x m. h x (there m))) (join_same s t (ended ++ v.folds) vs totals (λ x m. h x (there m)))

-- ---- none, or one of them, ends

pub join_none : (s : Name → Bool) (vs : List View) (totals : List Folded) → AllStay s vs → join_by s [] vs totals ≡ record { views = vs; totals = totals }
join_none s [] totals h = refl
join_none s (v ∷ vs) totals h = join_stays s [] v vs totals (h v (here refl)) ∙ ap (with_view v) (join_none s vs totals (λ x m. h x (there m)))

-- those before it stay as they are
join_before : (s : Name → Bool) (us vs : List View) (totals : List Folded) → AllStay s us → join_by s [] (us ++ vs) totals ≡ (let W = join_by s [] vs totals in record { views = us ++ W.views; totals = W.totals })
join_before s [] vs totals h = refl
join_before s (u ∷ us) vs totals h = join_stays s [] u (us ++ vs) totals (h u (here refl)) ∙ ap (with_view u) (join_before s us vs totals (λ x m. h x (there m)))

-- "the view of a frame that ends joins on the left of the next one's in that order"
pub join_one : (s : Name → Bool) (us ws : List View) (v w : View) (totals : List Folded) → AllStay s us → s v.name ≡ false → AllStay s (w ∷ ws)
    → join_by s [] (us ++ (v ∷ w ∷ ws)) totals ≡ record { views = us ++ (joined_to v.folds w ∷ ws); totals = totals }
join_one s us ws v w totals hu e hw =
    join_before s us (v ∷ w ∷ ws) totals hu
    ∙ ap (λ W. record { views = us ++ W.views; totals = W.totals }) (join_ends s [] v (w ∷ ws) totals e ∙ join_stays s v.folds w ws totals (hw w (here refl)) ∙ ap (with_view (joined_to v.folds w)) (join_none s ws totals (λ x m. hw x (there m))))

-- Main's, the last, joins the totals
pub join_last : (s : Name → Bool) (us : List View) (v : View) (totals : List Folded) → AllStay s us → s v.name ≡ false → join_by s [] (us ++ (v ∷ [])) totals ≡ record { views = us; totals = v.folds ++ totals }
join_last s us v totals hu e =
    join_before s us (v ∷ []) totals hu ∙ ap (λ W. record { views = us ++ W.views; totals = W.totals }) (join_ends s [] v [] totals e) ∙ ap (λ z. record { views = z; totals = v.folds ++ totals }) (append-nil us)

-- ---- the frames L₁ live, and of them L₂ still live then

pub joined_in_turn : (L₁ L₂ : List Frame) (vs : List View) (totals : List Folded) → ((v : View) → In v vs → has_frame v.name L₂ ≡ true → has_frame v.name L₁ ≡ true)
    → join_ended L₂ [] vs totals ≡ (let W = join_ended L₁ [] vs totals in join_ended L₂ [] W.views W.totals)
joined_in_turn L₁ L₂ vs totals h =
    join_same (λ n. has_frame n L₂) (λ n. has_frame n L₁ && has_frame n L₂) [] vs totals (λ v m. within (has_frame v.name L₁) (has_frame v.name L₂) (h v m)) ∙ join_both (λ n. has_frame n L₁) (λ n. has_frame n L₂) vs totals
  where
    within : (a b : Bool) → (b ≡ true → a ≡ true) → b ≡ a && b
    within true b i = refl
    within false true i = sym (i refl)
    within false false i = refl
