-- The answer of the check of the pool, from document 01's soundness, in a layout of nodes. Definitions only.
use Rattle.std.specs.Prelude.{Bool, cond, ◌&&◌, List, ℕ, ◌*◌, leb, length, None, Some, Option}
use Rattle.frames.specs.declared.Frame.{Frame}
use Rattle.soundness.specs.Soundness.{live_roots}
use Rattle.soundness.specs.Layout.{Layout, pool_sound}

-- n is at most 256, the recorded nodes N are at most 16,384 and at most what the pool holds, and the work slice has a word for each
abbrev pub in_bounds : Layout → ℕ → ℕ → List ℕ → List ℕ → Bool
in_bounds L n N ws work = leb n 256 && (leb N 16384 && (leb (L.words * N) (length ws) && leb N (length work)))

-- n splitters, N recorded nodes, the first free node `first`, the frame table fs, the pool ws, the work slice
unfoldable pub pool_checked : Layout → ℕ → ℕ → ℕ → List Frame → List ℕ → List ℕ → Option ℕ
pool_checked L n N first fs ws work =
    cond (in_bounds L n N ws work && pool_sound L n N ws first (live_roots fs)) (Some (length (L.free_nodes N ws first))) None
