-- R-9: a sound state has the same plain machine before and after its change-over: the trees of its live frames hold the same values, and as many nodes are free.
use Rattle.std.specs.Prelude.{◌≡◌, true, List, [], map, ℕ, ◌+◌, ◌<◌, length, eqb}
use Rattle.std.proofs.Common.{sym, ap, ◌∙◌, subst, inr, arith}
use mathlib.Core.List.Memᴰ.{map as In-map}
use mathlib.Core.List.Memᴰ.{of_map as In-unmap}
use mathlib.Core.List.{Memᴰ as In}
use Rattle.std.proofs.Math.Decide.{dec_lt}
use Rattle.words.specs.Basics.{count, range}
use Rattle.words.specs.Counting.{count-range_out}
use Rattle.sizes.specs.Sizes.{height}
use Rattle.sizes.specs.Heights.{height_covers}
use Rattle.packed.specs.Pack.{converted}
use Rattle.packed.proofs.Theory.Unpacks.{Unpacks}
use Rattle.packed.proofs.Theory.Pack.{behind}
use Rattle.packed.proofs.Theory.Reads.{unpacks_reads}
use Rattle.frames.specs.Deques.{deque_list}
use Rattle.frames.specs.Frames.{frame_at}
use Rattle.soundness.specs.Layout.{four_words, two_words}
use Rattle.soundness.specs.Soundness.{live_roots}
use Rattle.soundness.proofs.Theory.Sentences.{Lives, SoundFacts, sound_facts}
use Rattle.model.specs.Machine.{in_use}
use Rattle.semantics.specs.Entries.{State, numbers_of, totals_of, is_sound}
use Rattle.semantics.specs.SoundMachine.{name_of, frame_of, frames_of, waiting_places, running_places, live_places}
use Rattle.semantics.specs.Calls.{StateAndPool}
use Rattle.semantics.specs.Demands.{plain_of}
use Rattle.semantics.specs.Convert.{ConvertResult, change_over}
use Rattle.semantics.specs.ConvertDemands.{SameMachine}
use Rattle.semantics.proofs.Theory.Places.{map_cong}
use Rattle.semantics.proofs.Theory.FromSoundPlaces.{In-count, waiting_of, deque-live, live_of, of_live, live_roots_lem}
use Rattle.semantics.proofs.Theory.FromSoundTree.{AllLive}
use Rattle.semantics.proofs.Theory.Matching.{live₄, same_free}
use Rattle.semantics.proofs.Theory.Converts.{convert_taken, sound_unpacks}

below-range : (n y : ℕ) → In y (range n 0) → y < n
below-range n y m = elim (dec_lt y n) [ yes b ↦ b | no b ↦ absurd (omega (arith, In-count (range n 0) m, count-range_out n 0 y (inr (omega arith)))) ]

-- a pool of two-word nodes, and the sound one of four-word nodes to which it unpacks
module _ (s : State) (ws₂ ws₄ tail : List ℕ) (e : is_sound four_words s ws₄ ≡ true) (U : Unpacks (numbers_of s).nodes tail ws₂ ws₄) where
  abbrev n : ℕ
  n = (numbers_of s).splitters

  S : SoundFacts four_words (numbers_of s) (totals_of s) s.deques s.frames ws₄
  S = sound_facts four_words (numbers_of s) (totals_of s) s.deques s.frames ws₄ e

  abbrev root_at : ℕ → ℕ
  root_at p = (frame_at s.frames p).root

  -- the root of a live frame is among the live roots
  root_live : (p : ℕ) → p < length s.frames → Lives s.frames p → 0 < count (root_at p) (live_roots s.frames)
  root_live p b l =
      let places = live_places (numbers_of s).workers s.deques s.frames in
      let m : In (root_at p) (map root_at places) = In-map root_at (of_live S.frames S.numbers.workers_le p b l) in
      omega (arith, live_roots_lem S.frames S.numbers.workers_le (root_at p), In-count (map root_at places) m)

  same-frame : (p : ℕ) → p < length s.frames → Lives s.frames p → frame_of two_words n s.frames ws₂ p ≡ frame_of four_words n s.frames ws₄ p
  same-frame p b l =
      let same : (y : ℕ) → In y (range n 0) → two_words.read (height n) ws₂ (root_at p) y ≡ four_words.read (height n) ws₄ (root_at p) y =
      λ y m. unpacks_reads (numbers_of s).nodes (height n) n S.numbers.nodes_le (height_covers n) (live₄ s ws₄ e) U (root_at p) y (root_live p b l) (below-range n y m) in
      ap (λ (vs : List ℕ). record { name = name_of s.frames p; values = vs; history = []; spawned = length s.frames; returning = eqb (frame_at s.frames p).returning 1 })
      (map_cong (two_words.read (height n) ws₂ (root_at p)) (four_words.read (height n) ws₄ (root_at p)) (range n 0) same)

  same-frames : (ps : List ℕ) → AllLive s.frames ps → frames_of two_words n s.frames ws₂ ps ≡ frames_of four_words n s.frames ws₄ ps
  same-frames ps a = map_cong (frame_of two_words n s.frames ws₂) (frame_of four_words n s.frames ws₄) ps (λ p m. same-frame p (a p m).0 (a p m).1)

  abbrev running : List (List ℕ)
  running = running_places (numbers_of s).workers s.deques

  running_live : (ps : List ℕ) → In ps running → AllLive s.frames ps
  running_live ps m p i =
      let x = In-unmap (deque_list s.deques) (range (numbers_of s).workers 0) m in
      deque-live S.frames S.numbers.workers_le x.0 p (omega (arith, below-range (numbers_of s).workers x.0 x.1, S.numbers.workers_le)) (subst (In p) (sym x.2) i)

  pub unpacks_machine : plain_of two_words (record { state = s; pool = ws₂ }) ≡ plain_of four_words (record { state = s; pool = ws₄ })
  unpacks_machine =
      let all = same-frames (live_places (numbers_of s).workers s.deques s.frames) (live_of S.frames S.numbers.workers_le) in
      let waiting = same-frames (waiting_places s.deques s.frames) (λ p m. (let x = waiting_of s.deques s.frames p m in (x.0, x.1))) in
      let deques = map_cong (frames_of two_words n s.frames ws₂) (frames_of four_words n s.frames ws₄) running (λ ps m. same-frames ps (running_live ps m)) in
      let free = same_free s ws₂ ws₄ tail e U in
      λ i. record { splitters = n; nodes = in_use n (all i) + free i; places = length s.frames; deques = deques i; suspended = waiting i }

pub same_machine : (h : StateAndPool) (work : List ℕ) → (change_over h work).result ≡ 0 → SameMachine h work
same_machine h work e =
    let s = h.state in
    let N = (numbers_of s).nodes in
    let T = convert_taken s h.pool work e in
    ap (λ (o : ConvertResult). plain_of two_words (record { state = s; pool = o.pool })) T.is
    ∙ unpacks_machine s (converted N h.pool) h.pool (behind N h.pool) T.still (sound_unpacks s h.pool T.still)
