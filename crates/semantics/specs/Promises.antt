-- What the entries promise: result, state with its table, pool, work slice and answer words, each by an equation with a definition of Entries.
-- Definitions only.
use Rattle.std.specs.Prelude.{◌≡◌, List, ℕ, length}
use Rattle.frames.specs.Widths.{deque_words}
use Rattle.frames.specs.declared.Frame.{Frame}
use Rattle.soundness.specs.Numbers.{number_count}
use Rattle.semantics.specs.Entries.{State, StartResult, OutsideResult, TapeResult}
use Rattle.semantics.specs.Images.{SaveResult, LoadResult}
use Rattle.semantics.specs.Report.{Lent, ReportResult}
use Rattle.semantics.specs.Convert.{ConvertResult}

-- the state in three lent parts
abbrev pub parts : List ℕ → List ℕ → List Frame → State
parts ns ds fs = record { numbers = ns; deques = ds; frames = fs }

-- the parts of words have their lengths
pub record Fits (s : State) : Type 0 where
  pub numbers : length s.numbers ≡ number_count
  pub deques : length s.deques ≡ deque_words

-- the parts ns, ds and fs, the pool ws and the result r are those of the start's result o
pub record IsStart (o : StartResult) (ns ds : List ℕ) (fs : List Frame) (ws : List ℕ) (r : ℕ) : Type 0 where
  pub result : r ≡ o.result
  pub state : parts ns ds fs ≡ o.state
  pub pool : ws ≡ o.pool

-- the same of a step from outside, with the work slice ks
pub record IsOutside (o : OutsideResult) (ns ds : List ℕ) (fs : List Frame) (ws ks : List ℕ) (r : ℕ) : Type 0 where
  pub result : r ≡ o.result
  pub state : parts ns ds fs ≡ o.state
  pub pool : ws ≡ o.pool
  pub work : ks ≡ o.work

-- the same of a tape, with the answer words rs
pub record IsTape (o : TapeResult) (ns ds : List ℕ) (fs : List Frame) (ws ks rs : List ℕ) (r : ℕ) : Type 0 where
  pub result : r ≡ o.result
  pub state : parts ns ds fs ≡ o.state
  pub pool : ws ≡ o.pool
  pub work : ks ≡ o.work
  pub answers : rs ≡ o.answers

-- the work slice ks, the target ts and the result r are those of a save's result o; state and pool are lent to be read only
pub record IsSave (o : SaveResult) (ks ts : List ℕ) (r : ℕ) : Type 0 where
  pub result : r ≡ o.result
  pub work : ks ≡ o.work
  pub target : ts ≡ o.target

-- the same of a reading, with the parts, the pool and the work slice
pub record IsLoad (o : LoadResult) (ns ds : List ℕ) (fs : List Frame) (ws ks : List ℕ) (r : ℕ) : Type 0 where
  pub result : r ≡ o.result
  pub state : parts ns ds fs ≡ o.state
  pub pool : ws ≡ o.pool
  pub work : ks ≡ o.work

-- the slices that a report is lent
abbrev pub lent : List ℕ → List ℕ → List ℕ → List ℕ → Lent
lent ks rs cs qs = record { work = ks; answers = rs; clocks = cs; report = qs }

-- the parts, the pool ws, the work slice ks, the answer words rs, the clock words cs, the report's words qs and the result r are those of a report's result o
pub record IsReport (o : ReportResult) (ns ds : List ℕ) (fs : List Frame) (ws ks rs cs qs : List ℕ) (r : ℕ) : Type 0 where
  pub result : r ≡ o.result
  pub state : parts ns ds fs ≡ o.state
  pub pool : ws ≡ o.pool
  pub lent : lent ks rs cs qs ≡ o.lent

-- the pool ws, the work slice ks and the result r are those of a change-over's result o; the state with its table is lent to be read only
pub record IsConvert (o : ConvertResult) (ws ks : List ℕ) (r : ℕ) : Type 0 where
  pub result : r ≡ o.result
  pub pool : ws ≡ o.pool
  pub work : ks ≡ o.work
