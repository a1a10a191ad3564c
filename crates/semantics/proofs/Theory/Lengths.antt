-- Every entry leaves a state whose parts have their lengths, if it had one, and a table of as many places.
use Rattle.soundness.specs.Soundness.{Checked}
use Rattle.soundness.specs.declared.CheckError.{CheckError}
use Rattle.soundness.specs.declared.CheckError.TheVariants.{NoRoom}
use Rattle.std.specs.Prelude.{◌≡◌, Bool, cond, ◌||◌, length, replicate, eqb, Err, None, Ok, Some}
use Rattle.std.proofs.Math.Path.{refl}
use Rattle.std.proofs.Common.{◌∙◌, arith, length-append}
use Rattle.std.proofs.Math.Logic.{inl, inr}
use mathlib.Core.List.{List, [], ◌∷◌}
use Prim.Native.Nat.{ℕ, zero, suc, ◌+◌, ◌-◌}
use Rattle.std.proofs.lemmas.List.{length-replicate}
use Rattle.std.proofs.Math.Dec.{ltb}
use Rattle.words.specs.Basics.{none}
use Rattle.words.specs.Tests.{decided}
use Rattle.sizes.specs.Sizes.{tree_nodes}
use Rattle.frames.specs.declared.Frame.{Frame}
use Rattle.frames.specs.Widths.{max_places, deque_words}
use Rattle.frames.specs.Frames.{frame_at, set_frame}
use Rattle.frames.specs.Deques.{size, set_place, bottom, push, pop, shift_up, drop_top, init_deques}
use Rattle.frames.specs.Steps.{Table, acting, link_child, add_child, with_frames, spawn, suspend, ends_too, resumes, go_on, steal, sync, fold}
use Rattle.frames.proofs.Theory.Records.{length-set_frame}
use Rattle.frames.proofs.Theory.Links.{length-link}
use Rattle.frames.proofs.Theory.Ends.{length_end}
use Rattle.frames.proofs.Theory.Cells.{length-set_size, length-set_place}
use Rattle.soundness.specs.Numbers.{total_count}
use Rattle.model.specs.declared.Step.{Step}
use Rattle.model.specs.declared.Step.TheVariants.{Spawn, Return, Steal, Sync, Read, Write, Fold}
use Rattle.model.specs.Record.{Decoded, record_of}
use Rattle.semantics.specs.declared.Refusal.{Refusal}
use Rattle.semantics.specs.Core.{Core, StepResult, table_of, acting_in, with_table, judged, tests_of, spawn_on, totals_after, end_at, upward, popped, end_bottom, return_on, steal_on, sync_on, read_on, write_on, fold_on, done_by, step_on}
use Rattle.semantics.specs.Entries.{State, fits, core_of, state_of, checked_state, zeros, StartResult, whole_nodes, first_state, start_with, start_on, outside_checked, outside_with, outside_on, record_on, records_result, run_on, records_of, unfit_tape, tape_checked, tape_with, tape_on}
use Rattle.semantics.specs.Promises.{Fits}
use Rattle.semantics.specs.Calls.{HostCall, outside, tape, StateAndPool, after_call}
pub use Rattle.semantics.proofs.Theory.Fitting.{fits_true, true_fits, state_back}
use Rattle.semantics.proofs.Theory.Fitting.{totals_long}
use Rattle.soundness.specs.Layout.{Layout}
use Rattle.semantics.proofs.Theory.Pools.{PoolLaws}

-- ---- the deques

module _ (ds : List ℕ) (w : ℕ) where
  length_push : (p : ℕ) → length (push ds w p) ≡ length ds
  unfolding push
  length_push p = length-set_size (set_place ds w (size ds w) p) w _ ∙ length-set_place ds w (size ds w) p

  length-pop : length (pop ds w) ≡ length ds
  unfolding pop
  length-pop = length-set_size (set_place ds w (size ds w - 1) 0) w _ ∙ length-set_place ds w (size ds w - 1) 0

length_shift : (c : ℕ) (ds : List ℕ) (w k : ℕ) → length (shift_up c ds w k) ≡ length ds
unfolding shift_up
length_shift zero ds w k = refl
length_shift (suc c) ds w k = length_shift c _ w _ ∙ length-set_place ds w k _

length-drop_top : (ds : List ℕ) (w : ℕ) → length (drop_top ds w) ≡ length ds
unfolding drop_top
length-drop_top ds w =
    let es = shift_up (size ds w - 1) ds w 0 in
    length-set_size (set_place es w (size ds w - 1) 0) w _ ∙ length-set_place es w (size ds w - 1) 0 ∙ length_shift (size ds w - 1) ds w 0

-- ---- a table is as long as before

record AsLong (t t' : Table) : Type 0 where
  deques : length t'.deques ≡ length t.deques
  frames : length t'.frames ≡ length t.frames

as_long_refl : (t : Table) → AsLong t t
as_long_refl t = record { deques = refl; frames = refl }

as_long_trans : {t u v : Table} → AsLong t u → AsLong u v → AsLong t v
as_long_trans a b = record { deques = b.deques ∙ a.deques; frames = b.frames ∙ a.frames }

-- the one or the other
either : (b : Bool) {t u v : Table} → AsLong t u → AsLong t v → AsLong t (cond b u v)
either b a c = elim (decided b) [ inl e ↦ rw e a | inr e ↦ rw e c ]

module _ (t : Table) (w : ℕ) where
  add_long : AsLong t (add_child t w)
  unfolding add_child
  add_long = record {
    deques = length_push t.deques w t.free_place;
    frames = length-set_frame (set_frame t.frames (bottom t.deques w) _) t.free_place _ ∙ length-set_frame t.frames (bottom t.deques w) _;
  }

  suspend_long : (f : Frame) → AsLong t (suspend t w f)
  suspend_long f = record { deques = length-pop t.deques w; frames = length-set_frame t.frames (bottom t.deques w) f }

  go_on_long : (q : ℕ) → AsLong t (go_on t w q)
  unfolding go_on
  go_on_long q =
      either (resumes (frame_at t.frames q)) (record { deques = length_push t.deques w q; frames = length-set_frame t.frames q _ }) (as_long_refl t)

  steal_long : (v : ℕ) → AsLong t (steal t w v)
  unfolding steal
  steal_long v = record { deques = length_push (drop_top t.deques v) w _ ∙ length-drop_top t.deques v; frames = refl }

  fold_long : (r v : ℕ) → AsLong t (fold t w r v)
  unfolding fold
  fold_long r v = record { deques = refl; frames = length-set_frame t.frames (bottom t.deques w) _ }

  sync_long : AsLong t (sync t w)
  unfolding sync
  sync_long =
      either (eqb (acting t w).outstanding 0) (as_long_refl t) (suspend_long _)

spawn_long : (t : Table) (w : ℕ) → AsLong t (spawn t w)
unfolding spawn
spawn_long t w =
    let p : ℕ = bottom t.deques w in
    let t' : Table = with_frames t (link_child t.frames p t.free_place) in
    let linked : AsLong t t' = record { deques = refl; frames = length-link t.frames p t.free_place } in
    as_long_trans linked (add_long t' w)

-- ---- a return

-- a core's table and pool are as long as before, and its totals have their length if they had it
record CoreAsLong (c c' : Core) : Type 0 where
  table : AsLong (table_of c) (table_of c')
  totals : length c.totals ≡ total_count → length c'.totals ≡ total_count
  pool : length c'.pool ≡ length c.pool

core_long_trans : {c d e : Core} → CoreAsLong c d → CoreAsLong d e → CoreAsLong c e
core_long_trans a b = record { table = as_long_trans a.table b.table; totals = λ h. b.totals (a.totals h); pool = b.pool ∙ a.pool }

-- the one result or the other
either_result : (b : Bool) (c : Core) (x y : StepResult) → CoreAsLong c x.core → CoreAsLong c y.core → CoreAsLong c (cond b x y).core
either_result b c x y h k = elim (decided b) [ inl e ↦ rw e h | inr e ↦ rw e k ]

-- another table
table_long : (c : Core) (t : Table) → AsLong (table_of c) t → CoreAsLong c (with_table c t)
table_long c t h = record { table = record { deques = h.deques; frames = h.frames }; totals = λ k. k; pool = refl }

-- Main's view has as many words as there are totals
after_long : (c : Core) (f : Frame) → length c.totals ≡ total_count → length (totals_after c f) ≡ total_count
after_long c f h = elim (decided (eqb f.parent none)) [ inl e ↦ rw e | inr e ↦ rw e h ]

module _ (layout : Layout) (pools : PoolLaws layout) where
  end_at_long : (c : Core) (p : ℕ) → CoreAsLong c (end_at layout c p)
  unfolding end_at
  end_at_long c p = record {
    table = record { deques = refl; frames = length_end c.frames c.head.numbers.free_place p };
    totals = after_long c (frame_at c.frames p);
    pool = pools.length-release c.head.numbers.nodes c.head.height c.pool c.head.numbers.free_node c.head.free_count (frame_at c.frames p).root;
  }

  upward_long : (d : ℕ) (c : Core) (w q : ℕ) → CoreAsLong c (upward layout d c w q).core
  unfolding upward
  upward_long zero c w q = record { table = as_long_refl (table_of c); totals = λ h. h; pool = refl }
  upward_long (suc d) c w q =
      either_result (ends_too (frame_at c.frames q)) c _ _ (core_long_trans (end_at_long c q) (upward_long d (end_at layout c q) w (frame_at c.frames q).parent))
      (table_long c _ (go_on_long (table_of c) w q))

  end_bottom_long : (c : Core) (w : ℕ) → CoreAsLong c (end_bottom layout c w).core
  unfolding end_bottom
  end_bottom_long c w =
      let p : ℕ = bottom c.deques w in
      let c' : Core = end_at layout (popped c w) p in
      let P : CoreAsLong c (popped c w) = record { table = record { deques = length-pop c.deques w; frames = refl }; totals = λ h. h; pool = refl } in
      let E : CoreAsLong c c' = core_long_trans P (end_at_long (popped c w) p) in
      either_result (eqb (size c'.deques w) 0) c _ _ (core_long_trans E (upward_long (acting_in c w).depth c' w (acting_in c w).parent)) E

  return_long : (c : Core) (w : ℕ) → CoreAsLong c (return_on layout c w).core
  unfolding return_on
  return_long c w =
      either_result (eqb (acting_in c w).outstanding 0) c _ _ (end_bottom_long c w) (table_long c _ (suspend_long (table_of c) w _))

  -- the pool is as long as before
  pub return_pool : (c : Core) (w : ℕ) → length (return_on layout c w).core.pool ≡ length c.pool
  return_pool c w = (return_long c w).pool

-- ---- a step

-- of a core: its totals and the parts of its table
core-fits : (c : Core) → length c.totals ≡ total_count → length c.deques ≡ deque_words → Fits (state_of c)
core-fits c t d = record { numbers = omega (arith, t, length-append c.totals (c.head.numbers.places ∷ [])); deques = d }

fits_totals : (c : Core) → Fits (state_of c) → length c.totals ≡ total_count
fits_totals c f = omega (arith, f.numbers, length-append c.totals (c.head.numbers.places ∷ []))

-- its table is as long as before, and its totals have their length if they had it
record PartsAsLong (c c' : Core) : Type 0 where
  table : AsLong (table_of c) (table_of c')
  totals : length c.totals ≡ total_count → length c'.totals ≡ total_count

parts_fit : {c c' : Core} → PartsAsLong c c' → Fits (state_of c) → Fits (state_of c')
parts_fit {c} {c'} L f = core-fits c' (L.totals (fits_totals c f)) (L.table.deques ∙ f.deques)

parts_refl : (c : Core) → PartsAsLong c c
parts_refl c = record { table = as_long_refl (table_of c); totals = λ h. h }

module _ (layout : Layout) (pools : PoolLaws layout) where
  done_long : (c : Core) (st : Step) → PartsAsLong c (done_by layout c st).core
  done_long c (Spawn w) = let L = spawn_long (table_of c) w in unfold spawn_on in record { table = record { deques = L.deques; frames = L.frames }; totals = λ h. h }
  done_long c (Return w) = let L = return_long layout pools c w in record { table = L.table; totals = L.totals }
  done_long c (Steal w v) = let L = steal_long (table_of c) w v in unfold steal_on in record { table = record { deques = L.deques; frames = refl }; totals = λ h. h }
  done_long c (Sync w) = let L = sync_long (table_of c) w in unfold sync_on in record { table = record { deques = L.deques; frames = L.frames }; totals = λ h. h }
  done_long c (Read w x) = unfold read_on in parts_refl c
  done_long c (Write w x v) = unfold write_on in record { table = record { deques = refl; frames = length-set_frame c.frames (bottom c.deques w) _ }; totals = λ h. h }
  done_long c (Fold w r v) = let L = fold_long (table_of c) w r v in unfold fold_on in record { table = record { deques = refl; frames = L.frames }; totals = λ h. h }

judged_long : (ts : List (Bool × Refusal)) (c : Core) (d : StepResult) → PartsAsLong c d.core → PartsAsLong c (judged ts c d).core
judged_long [] c d L = L
judged_long (t ∷ ts) c d L = elim (decided t.0) [ inl e ↦ rw e (parts_refl c) | inr e ↦ rw e (judged_long ts c d L) ]

module _ (layout : Layout) (pools : PoolLaws layout) where
  record_long : (c : Core) (d : Decoded) → PartsAsLong c (record_on layout c d).core
  unfolding step_on
  record_long c (Some st) = judged_long (tests_of layout c st) c (done_by layout c st) (done_long layout pools c st)
  record_long c None = parts_refl c

  pub record_fits : (c : Core) (d : Decoded) → Fits (state_of c) → Fits (state_of (record_on layout c d).core)
  record_fits c d f = parts_fit (record_long c d) f

  -- R-6: the table has as many places as before
  pub record_places : (c : Core) (d : Decoded) → length (record_on layout c d).core.frames ≡ length c.frames
  record_places c d = (record_long c d).table.frames

  run_fits : (ds : List Decoded) (c : Core) (as' : List ℕ) (k : ℕ) → Fits (state_of c) → Fits (state_of (run_on layout (records_result c as') k ds).core)
  unfolding run_on
  run_fits [] c as' k f = f
  run_fits (d ∷ ds) c as' k f = run_fits ds (record_on layout c d).core _ (k + 2) (record_fits c d f)

  pub run_places : (ds : List Decoded) (c : Core) (as' : List ℕ) (k : ℕ) → length (run_on layout (records_result c as') k ds).core.frames ≡ length c.frames
  unfolding run_on
  run_places [] c as' k = refl
  run_places (d ∷ ds) c as' k = run_places ds (record_on layout c d).core _ (k + 2) ∙ record_places c d

-- ---- the entries

zeros_fit : (fs : List Frame) → Fits (zeros fs)
zeros_fit fs = record { numbers = refl; deques = length-replicate {A = ℕ} deque_words 0 }

first_fits : (workers n nodes free : ℕ) (fs : List Frame) → Fits (first_state workers n nodes free fs)
unfolding init_deques
first_fits workers n nodes free fs = record { numbers = refl; deques = length_push (replicate deque_words 0) 0 0 ∙ (zeros_fit fs).deques }

either_start : (b : Bool) (x y : StartResult) → Fits x.state → Fits y.state → Fits (cond b x y).state
either_start b x y f g = elim (decided b) [ inl e ↦ rw e f | inr e ↦ rw e g ]

module _ (layout : Layout) where
  -- whatever the lent parts hold
  pub start_with_fits : (workers : ℕ) (vs : List ℕ) (fs : List Frame) (ws : List ℕ) → Fits (start_with layout workers vs fs ws).state
  unfolding start_with
  start_with_fits workers vs fs ws =
      either_start (eqb (length vs) 0 || ltb 256 (length vs)) _ _ (zeros_fit fs)
      (either_start (eqb workers 0 || ltb 8 workers) _ _ (zeros_fit fs)
      (either_start (eqb (length fs) 0 || ltb max_places (length fs)) _ _ (zeros_fit fs)
      (either_start (ltb (whole_nodes layout ws) (tree_nodes (length vs)) || ltb 16384 (whole_nodes layout ws)) _ _ (zeros_fit fs)
      (first_fits workers (length vs) (whole_nodes layout ws) _ fs))))

module _ (layout : Layout) (pools : PoolLaws layout) where
  module _ (s : State) (f : Fits s) where
    pub start_fits : (workers : ℕ) (vs ws : List ℕ) → Fits (start_on layout s workers vs ws).state
    unfolding start_on
    start_fits workers vs ws = rw (fits_true s f) (start_with_fits layout workers vs s.frames ws)

    module _ (ws work : List ℕ) where
      outside_checked-fits : (k : Checked) (d : Decoded) → Fits (outside_checked layout k s ws work d).state
      outside_checked-fits (Err NoRoom) d = f
      outside_checked-fits (Err CheckError.Unsound) d = f
      outside_checked-fits (Ok n) d = record_fits layout pools (core_of s ws n) d (core-fits (core_of s ws n) (totals_long s f) f.deques)

      pub outside_fits : (d : Decoded) → Fits (outside_on layout s ws work d).state
      unfolding outside_on outside_with
      outside_fits d = rw (fits_true s f) (outside_checked-fits (checked_state layout s ws work) d)

      module _ (bytes rs : List ℕ) where
        tape-checked-fits : (k : Checked) → Fits (tape_checked layout k s ws work bytes rs).state
        tape-checked-fits (Err NoRoom) = f
        tape-checked-fits (Err CheckError.Unsound) = f
        tape-checked-fits (Ok n) = run_fits layout pools (records_of bytes) (core_of s ws n) rs 0 (core-fits (core_of s ws n) (totals_long s f) f.deques)

        pub tape-fits : Fits (tape_on layout s ws work bytes rs).state
        unfolding tape_on tape_with
        tape-fits = rw (fits_true s f) (elim (decided (unfit_tape bytes rs)) [ inl e ↦ rw e f | inr e ↦ rw e (tape-checked-fits (checked_state layout s ws work)) ])

  -- ---- R-6: the table has as many places as before, refused or not

  module _ (s : State) (ws work : List ℕ) where
    outside_checked_places : (k : Checked) (d : Decoded) → length (outside_checked layout k s ws work d).state.frames ≡ length s.frames
    outside_checked_places (Err NoRoom) d = refl
    outside_checked_places (Err CheckError.Unsound) d = refl
    outside_checked_places (Ok n) d = record_places layout pools (core_of s ws n) d

    outside_places : (d : Decoded) → length (outside_on layout s ws work d).state.frames ≡ length s.frames
    unfolding outside_on outside_with
    outside_places d = elim (decided (fits s)) [ inl e ↦ rw e (outside_checked_places (checked_state layout s ws work) d) | inr e ↦ rw e refl ]

    tape-checked_places : (k : Checked) (bytes rs : List ℕ) → length (tape_checked layout k s ws work bytes rs).state.frames ≡ length s.frames
    tape-checked_places (Err NoRoom) bytes rs = refl
    tape-checked_places (Err CheckError.Unsound) bytes rs = refl
    tape-checked_places (Ok n) bytes rs = run_places layout pools (records_of bytes) (core_of s ws n) rs 0

    tape_places : (bytes rs : List ℕ) → length (tape_on layout s ws work bytes rs).state.frames ≡ length s.frames
    unfolding tape_on tape_with
    tape_places bytes rs = elim (decided (fits s)) [
      | inl e ↦ elim (decided (unfit_tape bytes rs)) [ inl t ↦ rw (e, t) refl | inr t ↦ rw (e, t) (tape-checked_places (checked_state layout s ws work) bytes rs) ]
      | inr e ↦ rw e refl
    ]

  pub call_places : (h : StateAndPool) (c : HostCall) → length (after_call layout h c).state.frames ≡ length h.state.frames
  call_places h (outside kind worker field value work) = outside_places h.state h.pool work (record_of kind worker field value)
  call_places h (tape bytes work answers) = tape_places h.state h.pool work bytes answers

  -- ---- calls

  pub call_fits : (h : StateAndPool) (c : HostCall) → Fits h.state → Fits (after_call layout h c).state
  call_fits h (outside kind worker field value work) f = outside_fits h.state f h.pool work (record_of kind worker field value)
  call_fits h (tape bytes work answers) f = tape-fits h.state f h.pool work bytes answers
