-- The bottom frame leaves its deque and waits, at its sync or in its return: "it is suspended, its worker goes idle".
use Rattle.std.specs.Prelude.{◌≡◌, Bool, ℕ, ◌<◌, length, set, get_or}
use Rattle.std.proofs.Math.Path.{refl}
use Rattle.std.proofs.Common.{sym, ◌∙◌, subst, inl, inr, length-set}
use mathlib.Core.List.Memᴰ.{append_cases as In-cases}
use mathlib.Core.List.Memᴰ.{append_left as In-left}
use mathlib.Core.List.Memᴰ.{append_right as In-right}
use mathlib.Core.List.Memᴰ.{cases_cons as In-cons}
use mathlib.Core.List.{Memᴰ as In}
use mathlib.Core.List.Permᴰ
use mathlib.Core.List.{List, [], ◌∷◌, ◌++◌, Permᴰ}
use Rattle.words.specs.Basics.{joined}
use Rattle.words.specs.Lists.{In-perm, joined-set}
use Rattle.sizes.specs.Sizes.{height}
use Rattle.frames.specs.declared.Frame.{Frame as FrameRecord}
use Rattle.frames.specs.Frames.{frame_at}
use Rattle.frames.specs.Steps.{Table}
use Rattle.frames.specs.Steps.{suspend as suspendTable}
use Rattle.frames.proofs.Theory.Tables.{After}
use Rattle.frames.proofs.Theory.Summary.{suspend_does}
use Rattle.model.specs.Machine.{Frame, Machine, live, deque}
use Rattle.model.specs.Steps.{suspend}
use Rattle.model.proofs.Theory.Effects.{rest, live_at_lem, live_with}
use Rattle.semantics.specs.Core.{Core, table_of, with_table}
use Rattle.semantics.proofs.Theory.Relation.{Trees, TreeLaws, bit, places_of, root_of, Recorded, Relates, Keeps}
use Rattle.semantics.proofs.Theory.Places.{placed_taken, same_numbers, acting-deque, acting_record}
use Rattle.semantics.proofs.Theory.RelationFacts.{trees_perm, in_rest, lists_with, stored, workers_le, bottom-lives, above_runs}
use Rattle.semantics.proofs.Theory.Stored.{Carried, carried, keeps_stored}
use Rattle.soundness.specs.Layout.{Layout}

-- the same frame, returning or not
abbrev pub marked : Frame → Bool → Frame
marked q b = record { name = q.name; values = q.values; history = q.history; spawned = q.spawned; returning = b }

module _ (layout : Layout) where
  module _ {P : Trees} {M : Machine} {c : Core} (r : Relates layout P M c) (w : ℕ) (q : Frame) (d : List Frame) (lt : w < length M.deques) (e : deque M w ≡ q ∷ d) (b : Bool) where
    own : Recorded c.frames r.at (live M) 0 q
    own = acting_record layout r w q d lt e

    abbrev next : Machine
    next = suspend M w (marked q b) d

    -- its record then
    abbrev pub record_waiting : FrameRecord
    record_waiting = stored (frame_at c.frames (r.at q.name)) 1 (root_of c.frames r.at q) (bit b)

    abbrev table : Table
    table = suspendTable (table_of c) w record_waiting

    does : After (table_of c) table w (places_of r.at d) r.gs (r.at q.name ∷ []) × (frame_at table.frames (r.at q.name) ≡ record_waiting)
    does =
        suspend_does (table_of c) w (r.at q.name) (places_of r.at d) r.gs record_waiting r.formed (workers_le layout r lt) (acting-deque layout r w q d lt e) own.inside
        (placed_taken layout r q (bottom-lives layout r w q d e))

    abbrev others : List Frame
    others = d ++ rest M w

    before : Permᴰ (live M) (q ∷ others)
    before = live_at_lem M w (q ∷ d) lt e

    afterwards : Permᴰ (marked q b ∷ others) (live next)
    afterwards = Permᴰ.cons refl (Permᴰ.symm (live_with M w d lt))

    carries : Carried layout r next table.frames q (marked q b) others 1 (root_of c.frames r.at q)
    carries =
        carried layout r next table.frames q (marked q b) others 1 (root_of c.frames r.at q) (bit b) refl refl does.0.same_length before afterwards does.1 (λ p n. does.0.records p (n, tt))

    value_kept : (f : Frame) → In f (marked q b ∷ others) → (x : ℕ) → x < M.splitters → layout.read (height M.splitters) c.pool (root_of table.frames r.at f) x ≡ get_or f.values x 0
    value_kept f m x h = elim (In-cons m) [
      | inl z ↦ subst (λ (g : Frame). layout.read (height M.splitters) c.pool (root_of table.frames r.at g) x ≡ get_or g.values x 0) (sym z)
          (rw carries.own_root (r.values q (bottom-lives layout r w q d e) x h))
      | inr i ↦ rw (carries.other_root f i) (r.values f (In-perm (Permᴰ.symm before) (In-right (q ∷ []) i)) x h)
    ]

    pub suspends : TreeLaws layout c.head.numbers.nodes M.splitters P → Relates layout P next (with_table c table)
    suspends laws = record {
      at = r.at;
      gs = r.gs;
      numbers = same_numbers M c (with_table c table) next.deques next.suspended (length-set M.deques w d) r.numbers refl refl refl refl refl does.0.same_length;
      formed = does.0.formed;
      deques = lists_with r.at table.deques M.deques w d lt does.0.deque (λ u h n. does.0.deques u h n ∙ r.deques u h);
      running = λ f m. elim (In-cases d (In-perm (joined-set M.deques w d lt) m)) [
        | inl i ↦ carries.other_record 0 f (In-left (rest M w) i) (r.running f (above_runs layout r w q d e f i))
        | inr i ↦ carries.other_record 0 f (In-right d (In-right M.suspended i)) (r.running f (in_rest M.deques w i))
      ];
      waiting = λ f m. elim (In-cons m) [
        | inl z ↦ subst (λ (g : Frame). Recorded table.frames r.at (live next) 1 g) (sym z) (carries.own_record 0 own)
        | inr i ↦ carries.other_record 1 f (In-right d (In-left (joined (set M.deques w [])) i)) (r.waiting f i)
      ];
      once = carries.once;
      vacant = carries.vacant;
      totals = carries.totals;
      trees = trees_perm layout table.frames r.at laws afterwards (rw (carries.other_roots, carries.own_root) (trees_perm layout c.frames r.at laws before r.trees));
      values = λ f m x h. value_kept f (In-perm (Permᴰ.symm afterwards) m) x h;
    }

    pub suspends_keeps : (laws : TreeLaws layout c.head.numbers.nodes M.splitters P) → Keeps layout r (suspends laws)
    unfolding suspends
    suspends_keeps laws = keeps_stored layout r (suspends laws) (λ n. refl) refl carries
