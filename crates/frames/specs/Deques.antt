-- The deques in a list of words: for each worker its length, then places for its frames from the top. Definitions only.
use Rattle.std.specs.Prelude.{List, [], ◌∷◌, ℕ, zero, suc, ◌+◌, ◌-◌, ◌*◌, get_or, set}
use Rattle.words.specs.Basics.{plus}
use Rattle.frames.specs.Widths.{deque_stride}

-- document 02: "for each of 8 workers its deque length and .. places for its frames from the top"
unfoldable pub size : List ℕ → ℕ → ℕ
size ds w = get_or ds (deque_stride * w) 0

unfoldable pub set_size : List ℕ → ℕ → ℕ → List ℕ
set_size ds w c = set ds (deque_stride * w) c

unfoldable pub place : List ℕ → ℕ → ℕ → ℕ
place ds w k = get_or ds (deque_stride * w + (1 + k)) 0

unfoldable pub set_place : List ℕ → ℕ → ℕ → ℕ → List ℕ
set_place ds w k p = set ds (deque_stride * w + (1 + k)) p

-- document 01: "the bottom one is being executed"
unfoldable pub bottom : List ℕ → ℕ → ℕ
bottom ds w = place ds w (size ds w - 1)

unfoldable pub top : List ℕ → ℕ → ℕ
top ds w = place ds w 0

-- the places n - 1, .., 0
unfoldable pub places_to : ℕ → List ℕ → ℕ → List ℕ
places_to zero ds w = []
places_to (suc n) ds w = place ds w n ∷ places_to n ds w

-- worker w's frames from the bottom to the top
unfoldable pub deque_list : List ℕ → ℕ → List ℕ
deque_list ds w = places_to (size ds w) ds w

-- a frame more at the bottom
unfoldable pub push : List ℕ → ℕ → ℕ → List ℕ
push ds w p = set_size (set_place ds w (size ds w) p) w (plus (size ds w) 1)

-- the bottom frame taken off; "deque places past a deque's frames are zero"
unfoldable pub pop : List ℕ → ℕ → List ℕ
pop ds w = set_size (set_place ds w (size ds w - 1) 0) w (size ds w - 1)

-- c places from k on take the frame of the next place
unfoldable pub shift_up : ℕ → List ℕ → ℕ → ℕ → List ℕ
shift_up zero ds w k = ds
shift_up (suc c) ds w k = shift_up c (set_place ds w k (place ds w (plus k 1))) w (plus k 1)

-- the top frame taken off: the rest moves up
unfoldable pub drop_top : List ℕ → ℕ → List ℕ
drop_top ds w = set_size (set_place (shift_up (size ds w - 1) ds w 0) w (size ds w - 1) 0) w (size ds w - 1)

-- "At the start Main, depth 0, is alone on worker 0's deque"; Main is in place 0
unfoldable pub init_deques : List ℕ → List ℕ
init_deques ds = push ds 0 0
