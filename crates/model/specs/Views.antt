-- R-5: views, beside the machine. Definitions only. On the plain machine a view is the list of what was folded, the oldest first;
-- to join is to append, and the identity is the empty list.
use Rattle.std.specs.Prelude.{Bool, cond, List, [], ◌∷◌, ◌++◌, ℕ, suc, length}
use Rattle.words.specs.Basics.{same}
use Rattle.model.specs.declared.Step.{Step}
use Rattle.model.specs.Machine.{Name, Frame, Machine, live, deque, has_frame, start}
use Rattle.model.specs.Steps.{Action, spawn, return, sync, read, write, fold, Turn, acting, stealing, turn_of, refusal, accepted, child, step}
use Rattle.model.specs.Run.{Entry, child_first_list}

-- a reducer, and the value folded into it
abbrev pub Folded : Type 0
Folded = ℕ × ℕ

pub record View : Type 0 where
  pub name : Name
  pub folds : List Folded

pub record Views : Type 0 where
  -- of the live frames, "with siblings eldest first and each, after all below it, before its parent" (Theory.ViewOrder shows
  -- that they stand so)
  pub views : List View
  -- what Main had when it ended; the empty list before
  pub totals : List Folded

-- "Main begins with the identities."
abbrev pub views_at_start : Views
views_at_start = record { views = record { name = []; folds = [] } ∷ []; totals = [] }

-- ---- a step

-- a step of q, whose view is v. "the child inherits, the continuation begins with the identity": the child, the youngest with
-- nothing below it, comes just before its parent
abbrev pub became : Frame → Action → View → List View
became q spawn v = record { name = (child q).name; folds = v.folds } ∷ record { name = q.name; folds = [] } ∷ []
became q return v = v ∷ []
became q sync v = v ∷ []
became q (read x) v = v ∷ []
became q (write x y) v = v ∷ []
became q (fold r x) v = record { name = q.name; folds = v.folds ++ ((r, x) ∷ []) } ∷ []

abbrev pub views_acted : Frame → Action → List View → List View
views_acted q a [] = []
views_acted q a (v ∷ vs) = cond (same v.name q.name) (became q a v ++ vs) (v ∷ views_acted q a vs)

abbrev pub bottom_views : List Frame → Action → List View → List View
bottom_views [] a vs = vs
bottom_views (q ∷ d) a vs = views_acted q a vs

abbrev pub turn_views : Machine → Turn → List View → List View
turn_views M (acting w a) vs = bottom_views (deque M w) a vs
turn_views M (stealing w v) vs = vs

-- "the view of a frame that ends joins on the left of the next one's in that order"; Main's, of the totals. The test tells the
-- frames that stay, and `ended` is what those just before, which have ended, have left
abbrev pub join_by : (Name → Bool) → List Folded → List View → List Folded → Views
join_by stays ended [] totals = record { views = []; totals = ended ++ totals }
join_by stays ended (v ∷ vs) totals =
    let others = join_by stays [] vs totals in
    let ends = join_by stays (ended ++ v.folds) vs totals in
    let kept : Views = record { views = record { name = v.name; folds = ended ++ v.folds } ∷ others.views; totals = others.totals } in
    cond (stays v.name) kept ends

-- the frames L live now
abbrev pub join_ended : List Frame → List Folded → List View → List Folded → Views
join_ended L = join_by (λ n. has_frame n L)

abbrev pub views_after : Machine → Views → Step → Views
views_after M W s =
    let W' = join_ended (live (step M s)) [] (turn_views M (turn_of s) W.views) W.totals in
    cond (accepted (refusal M s)) W' W

-- ---- a run

abbrev pub run_views : Machine → Views → List Step → Views
run_views M W [] = W
run_views M W (s ∷ ss) = run_views (step M s) (views_after M W s) ss

abbrev pub totals_of : ℕ → List ℕ → ℕ → ℕ → List Step → List Folded
totals_of workers values nodes places steps = (run_views (start workers values nodes places) views_at_start steps).totals

-- ---- what is to be shown

abbrev pub folded_by : Action → List Folded
folded_by spawn = []
folded_by return = []
folded_by sync = []
folded_by (read x) = []
folded_by (write x y) = []
folded_by (fold r x) = (r, x) ∷ []

abbrev pub folds_in : List Entry → List Folded
folds_in [] = []
folds_in (e ∷ es) = folded_by e.action ++ folds_in es

-- "the values folded into its reducer, in the order of Main's child-first list", of all reducers
abbrev pub main_folds : List Entry → List Folded
main_folds es = folds_in (child_first_list (suc (length es)) es [])
