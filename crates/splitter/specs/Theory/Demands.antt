-- Demands 1 to 3 of document 01, and what R-1 to R-9 add, for the layout that the library's functions promise (two_words). Crate semantics has them for every
-- layout whose pools have their laws (Theory.Pools), and two-word nodes have these (Theory.TwoPools). Its Demands, ReportDemands, ConvertDemands and Matching say what each means.
use Rattle.std.specs.Prelude.{◌≡◌, ◌≢◌, true, false, List, ℕ, ◌*◌, ◌<◌, ◌≤◌, length}
use Rattle.words.specs.Below.{Words}
use Rattle.soundness.specs.Layout.{four_words, two_words}
use Rattle.semantics.specs.Entries.{State, fits, numbers_of, is_sound, whole_nodes}
use Rattle.semantics.specs.Images.{load_on}
use Rattle.semantics.specs.Report.{Lent}
use Rattle.semantics.specs.Calls.{Start, start_result, after_start, HostCall, StateAndPool, save_result, Call, begun}
use Rattle.semantics.specs.Demands.{Demand2, MainReturned, Demand3, RestIsCounted, WritesAgain, SoundRun, StateWords, StartWords, AllCallWords, run_from, RefusedStart, AcceptedStart, IsRefused, RefusedCall, SamePast, WorkAfter, AcceptedSave, WorkAfterSave, RefusedLoad, AcceptedLoad, WorkAfterLoad, written_image, ReadsBack}
use Rattle.semantics.specs.ReportDemands.{report_result, AloneFits, AloneReport, RefusedReport, ReportChecks, TapeRan, SameRun, ReportIs, NoOverflow, SamePair}
use Rattle.semantics.specs.Convert.{convert_on, change_over}
use Rattle.semantics.specs.ConvertDemands.{ConvertChecks, RefusedConvert, WorkAfterConvert, AcceptedConvert, SameTwice, RefusedTwice, OldImageRefused, ChangedDemand2, ChangedReturned, ChangedDemand3, SameMachine, SameCalls, in_pool, AsIfBegunSo}
use Rattle.semantics.specs.Matching.{AsManyNodes}
use Rattle.semantics.proofs.Theory.TwoPools.{two_pools}
use Rattle.semantics.proofs.Theory.RefusedCalls as calls
use Rattle.semantics.proofs.Theory.Images as images
use Rattle.semantics.proofs.Theory.StartedRuns as started
use Rattle.semantics.proofs.Theory.SoundRuns as runs
use Rattle.semantics.proofs.Theory.Reports as reports
use Rattle.semantics.proofs.Theory.SameReports as pairs
use Rattle.semantics.proofs.Theory.Converts as converts
use Rattle.semantics.proofs.Theory.ConvertTwice as twice
use Rattle.semantics.proofs.Theory.ChangedRuns as changed
use Rattle.semantics.proofs.Theory.SameMachine as machine
use Rattle.semantics.proofs.Theory.AsIfBegun as begun-so
use Rattle.semantics.proofs.Theory.OldImages as old

-- ---- demand 1

pub refused_start : (b : Start) → 0 < (start_result two_words b).result → RefusedStart two_words b
refused_start = calls.refused_start two_words

pub accepted-start : (b : Start) → (start_result two_words b).result ≡ 0 → AcceptedStart two_words b
accepted-start = calls.accepted-start two_words two_pools

pub refused_call : (h : StateAndPool) (c : HostCall) → IsRefused two_words h c → RefusedCall two_words h c
refused_call = calls.refused_call two_words

pub tape_past : (h : StateAndPool) (bytes work answers : List ℕ) → SamePast two_words h bytes work answers
tape_past = calls.tape_past two_words

pub work_after_lem : (h : StateAndPool) (c : HostCall) → WorkAfter two_words h c
work_after_lem = calls.work_after_lem two_words

pub accepted_save : (h : StateAndPool) (work target : List ℕ) → (save_result two_words h work target).result ≡ 0 → AcceptedSave two_words h work target
accepted_save = images.accepted_save two_words two_pools

pub work_after_save : (h : StateAndPool) (work target : List ℕ) → WorkAfterSave two_words h work target
work_after_save = images.work_after_save two_words

pub refused_load : (s : State) (ws work image : List ℕ) → 0 < (load_on two_words s ws work image).result → RefusedLoad two_words s ws work image
refused_load = images.refused_load two_words

pub accepted_load : (s : State) (ws work image : List ℕ) → (load_on two_words s ws work image).result ≡ 0 → AcceptedLoad two_words s ws work image
accepted_load = images.accepted_load two_words two_pools

pub work_after_load : (s : State) (ws work image : List ℕ) → WorkAfterLoad two_words s ws work image
work_after_load = images.work_after_load two_words

pub reads_back : (h : StateAndPool) (work₀ target : List ℕ) → (save_result two_words h work₀ target).result ≡ 0 → StateWords h.state h.pool → (s : State) (ws work : List ℕ) → fits s ≡ true → length s.frames ≡ length h.state.frames
    → 2 * (numbers_of h.state).nodes ≤ length ws → (numbers_of h.state).nodes ≤ length work → ReadsBack two_words h (written_image two_words h work₀ target) s ws work
reads_back = runs.reads_back two_words two_pools

-- ---- demand 2

pub demand2 : (b : Start) (calls : List Call) → (start_result two_words b).result ≡ 0 → StartWords b → AllCallWords calls → Demand2 two_words b calls
demand2 = started.demand2 two_words two_pools

pub rest_is_counted : (b : Start) (calls : List Call) → (start_result two_words b).result ≡ 0 → StartWords b → AllCallWords calls → (run_from two_words b calls).stateless ≡ false → RestIsCounted two_words b calls
rest_is_counted = started.rest_is_counted two_words two_pools

pub writes_again : (b : Start) (calls : List Call) → (start_result two_words b).result ≡ 0 → StartWords b → AllCallWords calls → WritesAgain two_words b calls
writes_again = started.writes_again two_words two_pools

pub sound-run : (h : StateAndPool) (calls : List Call) → fits h.state ≡ true → is_sound two_words h.state h.pool ≡ true → StateWords h.state h.pool → AllCallWords calls → SoundRun two_words h calls
sound-run = runs.sound-run two_words two_pools

-- ---- demand 3

pub demand3 : (b : Start) (calls : List Call) (parts : State) (ws : List ℕ) (works : ℕ → List ℕ) → (start_result two_words b).result ≡ 0 → StartWords b → AllCallWords calls → MainReturned two_words b calls
    → fits parts ≡ true → length parts.frames ≡ length b.parts.frames → whole_nodes two_words ws ≡ whole_nodes two_words b.pool → ((j : ℕ) → whole_nodes two_words b.pool ≤ length (works j))
    → Demand3 two_words b calls parts ws works
demand3 = started.demand3 two_words two_pools

-- ---- R-7's report

pub refused_report : (b : Start) (bytes : List ℕ) (l : Lent) → (report_result two_words b bytes l).result ≢ 0 → (report_result two_words b bytes l).result ≢ 22 → RefusedReport two_words b bytes l
refused_report = reports.refused_report two_words two_pools

pub report_checks : (b : Start) (bytes : List ℕ) (l : Lent) → ReportChecks two_words b bytes l
report_checks = reports.report_checks two_words two_pools

pub same-run : (b : Start) (bytes : List ℕ) (l : Lent) → TapeRan two_words b bytes l → SameRun two_words b bytes l
same-run = reports.same-run two_words two_pools

pub report_is : (b : Start) (bytes : List ℕ) (l : Lent) → TapeRan two_words b bytes l → ReportIs two_words b bytes l
report_is = reports.report_is two_words two_pools

pub no_overflow : (b : Start) (bytes : List ℕ) (l : Lent) → TapeRan two_words b bytes l → NoOverflow two_words b bytes l
no_overflow = reports.no_overflow two_words two_pools

pub same_report : (b : Start) (bytes : List ℕ) (l : Lent) (b' : Start) (bytes' : List ℕ) (l' : Lent) → SamePair two_words b bytes l b' bytes' l'
same_report = pairs.same_report two_words two_pools

pub alone_report : (b : Start) (bytes : List ℕ) (l : Lent) (parts : State) (ws bytes₁ : List ℕ) (l₁ : Lent) → (report_result two_words b bytes l).result ≡ 0 → AloneFits two_words b bytes l parts ws bytes₁ l₁
    → AloneReport two_words b bytes l parts ws bytes₁ l₁
alone_report = pairs.alone_report two_words two_pools

-- ---- R-9's change-over

pub convert_checks : (s : State) (ws work : List ℕ) → ConvertChecks s ws work
convert_checks = converts.convert_checks

pub refused_convert : (s : State) (ws work : List ℕ) → 0 < (convert_on s ws work).result → RefusedConvert s ws work
refused_convert = converts.refused_convert

pub work_after_convert : (s : State) (ws work : List ℕ) → WorkAfterConvert s ws work
work_after_convert = converts.work_after_convert

pub accepted_convert : (s : State) (ws work : List ℕ) → (convert_on s ws work).result ≡ 0 → AcceptedConvert s ws work
accepted_convert = converts.accepted_convert

pub convert_twice : (s : State) (ws work work' : List ℕ) → (convert_on s ws work).result ≡ 0 → SameTwice s ws work work'
convert_twice = twice.convert_twice

pub refused_twice : (s : State) (ws work work' : List ℕ) → (convert_on s ws work).result ≡ 0 → RefusedTwice s ws work work'
refused_twice = twice.refused_twice

pub old_image_refused : (s : State) (ws image : List ℕ) (parts : State) (lent work : List ℕ) → fits parts ≡ true → OldImageRefused s ws image parts lent work
old_image_refused = old.old_image_refused

-- a run in the old layout that has a state can be changed over
pub changed_taken : (b : Start) (before : List Call) (work : List ℕ) → (start_result four_words b).result ≡ 0 → StartWords b → AllCallWords before → (run_from four_words b before).stateless ≡ false → whole_nodes four_words b.pool ≤ length work
    → (change_over (run_from four_words b before).now work).result ≡ 0
changed_taken = changed.changed_taken

pub changed_demand2 : (b : Start) (before : List Call) (work : List ℕ) (after : List Call) → (start_result four_words b).result ≡ 0 → StartWords b → AllCallWords before → (change_over (run_from four_words b before).now work).result ≡ 0 → AllCallWords after
    → ChangedDemand2 b before work after
changed_demand2 = changed.changed_demand2

pub changed_demand3 : (b : Start) (before : List Call) (work : List ℕ) (after : List Call) → (start_result four_words b).result ≡ 0 → StartWords b → AllCallWords before → (change_over (run_from four_words b before).now work).result ≡ 0 → AllCallWords after
    → ChangedReturned b before work after → (parts : State) (ws : List ℕ) (works : ℕ → List ℕ) → fits parts ≡ true → length parts.frames ≡ length b.parts.frames → whole_nodes two_words ws ≡ whole_nodes four_words b.pool
    → ((j : ℕ) → whole_nodes four_words b.pool ≤ length (works j)) → ChangedDemand3 b before work after parts ws works
changed_demand3 = changed.changed_demand3

-- a sound state handed in otherwise: `sound-run` goes on from the same plain machine
pub same_machine : (h : StateAndPool) (work : List ℕ) → (change_over h work).result ≡ 0 → SameMachine h work
same_machine = machine.same_machine

pub as_if_begun_so : (b : Start) (before : List Call) (work : List ℕ) (after : List Call) (ws : List ℕ) (before₂ : List Call)
    → (start_result four_words b).result ≡ 0 → StartWords b → Words ws → AsManyNodes ws b.pool → AllCallWords before → AllCallWords before₂ → AllCallWords after
    → SameCalls (begun (after_start two_words (in_pool b ws))) (begun (after_start four_words b)) before₂ before → (change_over (run_from four_words b before).now work).result ≡ 0
    → AsIfBegunSo b before work after ws before₂
as_if_begun_so = begun-so.as_if_begun_so

pub begun_so_too : (b : Start) (before : List Call) (ws : List ℕ) → (start_result four_words b).result ≡ 0 → StartWords b → Words ws → AsManyNodes ws b.pool → AllCallWords before
    → (before₂ : List Call) × AllCallWords before₂ × SameCalls (begun (after_start two_words (in_pool b ws))) (begun (after_start four_words b)) before₂ before
begun_so_too = begun-so.begun_so_too
