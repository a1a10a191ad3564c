-- The plain machine of a sound state and pool, however obtained. Document 01: "a sound state handed in otherwise has the values its
-- trees hold". Definitions only.
use Rattle.std.specs.Prelude.{cond, ◌&&◌, List, [], ◌∷◌, ◌++◌, map, ℕ, zero, suc, ◌+◌, ◌-◌, length, eqb}
use Rattle.words.specs.Basics.{joined, range}
use Rattle.sizes.specs.Sizes.{height}
use Rattle.frames.specs.declared.Frame.{Frame as FrameRecord}
use Rattle.frames.specs.Deques.{deque_list}
use Rattle.frames.specs.Frames.{frame_at}
use Rattle.soundness.specs.declared.Numbers.{Numbers}
use Rattle.soundness.specs.Soundness.{lives, in_deques, count_of_free}
use Rattle.model.specs.Machine.{Name, Frame, Machine, in_use}
use Rattle.soundness.specs.Layout.{Layout}

-- ---- names: a frame has its parent's name with its own place after it, counted from 1

-- of the frame of depth d at place p
unfoldable pub name_from : ℕ → List FrameRecord → ℕ → Name
name_from zero fs p = []
name_from (suc d) fs p = suc p ∷ name_from d fs (frame_at fs p).parent

abbrev pub name_of : List FrameRecord → ℕ → Name
name_of fs p = name_from (frame_at fs p).depth fs p

-- back to the place; Main is at m
abbrev pub place_of : ℕ → Name → ℕ
place_of m [] = m
place_of m (k ∷ r) = k - 1

-- ---- frames: no history, and as many spawns as there are places, so that the children to come have names that are not there; R-3: "1 on a frame waiting so"

abbrev pub frame_of : Layout → ℕ → List FrameRecord → List ℕ → ℕ → Frame
frame_of L n fs ws p = record { name = name_of fs p; values = map (L.read (height n) ws (frame_at fs p).root) (range n 0); history = []; spawned = length fs; returning = eqb (frame_at fs p).returning 1 }

abbrev pub frames_of : Layout → ℕ → List FrameRecord → List ℕ → List ℕ → List Frame
frames_of L n fs ws ps = map (frame_of L n fs ws) ps

-- ---- places

-- the live frames below place c that stand in no deque
unfoldable pub waiting_below : List ℕ → List FrameRecord → ℕ → List ℕ
waiting_below ds fs zero = []
waiting_below ds fs (suc c) = waiting_below ds fs c ++ cond (lives fs c && eqb (in_deques ds c) 0) (c ∷ []) []

abbrev pub waiting_places : List ℕ → List FrameRecord → List ℕ
waiting_places ds fs = waiting_below ds fs (length fs)

-- the workers' deques
abbrev pub running_places : ℕ → List ℕ → List (List ℕ)
running_places workers ds = map (deque_list ds) (range workers 0)

abbrev pub live_places : ℕ → List ℕ → List FrameRecord → List ℕ
live_places workers ds fs = waiting_places ds fs ++ joined (running_places workers ds)

-- ---- the machine; its pool has the nodes in use and those on the free chain, and it has as many places as the table

abbrev pub machine_of : Layout → Numbers → List ℕ → List FrameRecord → List ℕ → Machine
machine_of L s ds fs ws =
    record {
      splitters = s.splitters;
      nodes = in_use s.splitters (frames_of L s.splitters fs ws (live_places s.workers ds fs)) + count_of_free L s ws;
      places = length fs;
      deques = map (frames_of L s.splitters fs ws) (running_places s.workers ds);
      suspended = frames_of L s.splitters fs ws (waiting_places ds fs);
    }
