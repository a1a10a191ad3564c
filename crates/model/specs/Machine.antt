-- The plain machine of document 01: frames, deques, suspensions, nodes. Definitions only; Steps says what a step does.
use Rattle.std.specs.Prelude.{Bool, true, false, ◌||◌, cond, List, [], ◌∷◌, ◌++◌, map, ℕ, ◌-◌, length, get_or, set, replicate}
use Rattle.words.specs.Basics.{joined, same}
use Rattle.model.specs.History.{History, nodes_in_use}

-- ---- frames

-- "Main's name is the empty chain. The child made by a frame's k-th accepted spawn, k counted from 1, has its parent's
-- name with k after it." The innermost number stands first: the parent's name is the tail
abbrev pub Name : Type 0
Name = List ℕ

-- "Each live frame has its own full list of values", "and, for each frame, its list and its history". The spawns that it
-- made are counted, for its children's names
pub record Frame : Type 0 where
  pub name : Name
  pub values : List ℕ
  pub history : History
  pub spawned : ℕ
  -- R-3: "suspends the frame as returning"; only a suspended frame is marked so (Theory.Deques)
  pub returning : Bool

-- "Main, depth 0"; a child is "one deeper"
abbrev pub depth : Frame → ℕ
depth f = length f.name

abbrev pub histories : List Frame → List History
histories fs = map (λ f. f.history) fs

-- ---- the machine

-- "It keeps the frames, deques and suspensions described above". The frames stand in the deques and among the suspended
-- ones, so that each is in one place
pub record Machine : Type 0 where
  -- n
  pub splitters : ℕ
  -- "the number of whole nodes in the pool"
  pub nodes : ℕ
  -- R-6: "Its length .. is the limit in 13"
  pub places : ℕ
  -- "Each worker has a deque of frames; the bottom one is being executed." The bottom stands first
  pub deques : List (List Frame)
  pub suspended : List Frame

abbrev pub live : Machine → List Frame
live M = M.suspended ++ joined M.deques

abbrev pub deque : Machine → ℕ → List Frame
deque M w = get_or M.deques w []

-- the machine with these deques and suspended frames
abbrev pub with_frames : Machine → List (List Frame) → List Frame → Machine
with_frames M ds fs = record { splitters = M.splitters; nodes = M.nodes; places = M.places; deques = ds; suspended = fs }

abbrev pub with_deque : Machine → ℕ → List Frame → Machine
with_deque M w d = with_frames M (set M.deques w d) M.suspended

abbrev pub is_empty {ℓ} : {A : Type ℓ} → List A → Bool
is_empty [] = true
is_empty (x ∷ xs) = false

-- a deque's top frame, in a list of its own, and the frames below it
abbrev pub top {ℓ} : {A : Type ℓ} → List A → List A
top [] = []
top (x ∷ []) = x ∷ []
top (x ∷ y ∷ l) = top (y ∷ l)

abbrev pub below_top {ℓ} : {A : Type ℓ} → List A → List A
below_top [] = []
below_top (x ∷ []) = []
below_top (x ∷ y ∷ l) = x ∷ below_top (y ∷ l)

-- r is the name of a child of p
abbrev pub is_child : Name → Name → Bool
is_child p [] = false
is_child p (k ∷ r) = same r p

-- one of the frames is a child of p: with the live frames, p's outstanding count is not 0
abbrev pub has_child : Name → List Frame → Bool
has_child p [] = false
has_child p (f ∷ fs) = is_child p f.name || has_child p fs

-- one of the frames is p
abbrev pub has_frame : Name → List Frame → Bool
has_frame p [] = false
has_frame p (f ∷ fs) = same f.name p || has_frame p fs

-- the frames that pass a test, and the others
abbrev pub those : (Frame → Bool) → List Frame → List Frame
those t [] = []
those t (f ∷ fs) = cond (t f) (f ∷ those t fs) (those t fs)

abbrev pub others : (Frame → Bool) → List Frame → List Frame
others t [] = []
others t (f ∷ fs) = cond (t f) (others t fs) (f ∷ others t fs)

-- "Nodes in use are the distinct triples, over all live frames, .." (History)
abbrev pub in_use : ℕ → List Frame → ℕ
in_use n fs = nodes_in_use n (histories fs)

-- "its free nodes are the pool's less those in use"
abbrev pub free_nodes : Machine → ℕ
free_nodes M = M.nodes - in_use M.splitters (live M)

-- ---- the start

-- "Main's is the initial list."; "Main's begins with the start", which stands below every history
abbrev pub main : List ℕ → Frame
main vs = record { name = []; values = vs; history = []; spawned = 0; returning = false }

-- "at a start the workers, the initial values and the number of whole nodes in the pool"; "at a start the plain machine is fed
-- its length as well" (R-6), that of the frame table; "At the start Main, depth 0, is alone on worker 0's deque."
abbrev pub start : ℕ → List ℕ → ℕ → ℕ → Machine
start w vs nodes places = record { splitters = length vs; nodes = nodes; places = places; deques = (main vs ∷ []) ∷ replicate (w - 1) []; suspended = [] }
