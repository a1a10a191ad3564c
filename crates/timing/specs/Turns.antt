-- R-7: a tape is timed in turns, each a record and the reads, writes and folds after it, between which no deque moves. Definitions only.
use Rattle.std.specs.Prelude.{◌≡◌, cond, List, ℕ, zero, suc, ◌+◌, ◌*◌, ◌^◌, ◌≤◌, ◌<◌, length, get_or, leb}
use Rattle.frames.specs.Widths.{max_workers, deque_places, deque_words}
use Rattle.frames.specs.Deques.{size, bottom}
use Rattle.semantics.specs.Timing.{Timing, costing, ticked}

-- each clock can go n on in 64 bits
abbrev pub RoomFor : ℕ → List ℕ → Type 0
RoomFor n ks = (i : ℕ) → get_or ks i 0 + n < 2 ^ 64

abbrev pub timing : List ℕ → ℕ → ℕ → Timing
timing ks work span = record { clocks = ks; work = work; span = span }

-- "kind, worker, ..": of the i-th record
abbrev pub kind_at : List ℕ → ℕ → ℕ
kind_at tape i = get_or tape (8 * i) 0

abbrev pub worker_at : List ℕ → ℕ → ℕ
worker_at tape i = get_or tape (8 * i + 1) 0

-- its first answer word
abbrev pub first_at : List ℕ → ℕ → ℕ
first_at answers i = get_or answers (2 * i) 0

-- the clocks after k reads, writes and folds (or records that are no step), from the i-th record on, by their answer words; ds are the deques, which none of them moves
unfoldable pub ticks_over : List ℕ → List ℕ → List ℕ → ℕ → ℕ → Timing → Timing
ticks_over ds tape answers i zero t = t
ticks_over ds tape answers i (suc k) t =
    ticks_over ds tape answers (suc i) k (cond (leb 100 (first_at answers i)) (costing t (ticked t.clocks (bottom ds (worker_at tape i)))) t)

-- worker w exists and has a frame, whose place has clock words
pub record Clocked (ds ks : List ℕ) (w : ℕ) : Type 0 where
  pub long : length ds ≡ deque_words
  pub worker : w < max_workers
  pub busy : 0 < size ds w
  pub few : size ds w ≤ deque_places
  pub within : suc (2 * bottom ds w) < length ks

-- so has the worker of each accepted record from the i-th up to the j-th
abbrev pub AllClocked : List ℕ → List ℕ → List ℕ → List ℕ → ℕ → ℕ → Type 0
AllClocked ds ks tape answers i j = (k : ℕ) → i ≤ k → k < j → 100 ≤ first_at answers k → Clocked ds ks (worker_at tape k)
