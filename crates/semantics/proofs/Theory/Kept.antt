-- What the tape loop keeps of the core: the check shows it, and every step keeps it.
use Rattle.soundness.specs.Soundness.{Checked}
use Rattle.soundness.specs.declared.CheckError.{CheckError}
use Rattle.soundness.specs.declared.CheckError.TheVariants.{NoRoom}
use Rattle.model.specs.Record.{Decoded}
use Rattle.std.specs.Prelude.{◌≡◌, refl, Bool, true, false, cond, List, ℕ, length, leb, Err, None, Ok, Some}
use Rattle.std.proofs.Common.{sym, ap, ap₂, ◌∙◌, subst, arith}
use Rattle.sizes.specs.Sizes.{height}
use Rattle.frames.specs.declared.Frame.{Frame as FrameRecord}
use Rattle.frames.specs.Widths.{deque_words}
use Rattle.soundness.specs.declared.Numbers.{Numbers}
use Rattle.soundness.specs.Numbers.{total_count}
use Rattle.soundness.specs.Soundness.{sound, count_of_free, checked}
use Rattle.model.specs.declared.Step.{Step}
use Rattle.semantics.specs.Core.{Core, step_on}
use Rattle.semantics.specs.Entries.{head_of, record_on}
use Rattle.semantics.specs.Ranges.{Kept}
use Rattle.semantics.proofs.Theory.FromSoundRelates.{counted_core}
use Rattle.semantics.specs.SoundMachine.{machine_of}
use Rattle.semantics.proofs.Theory.Simulation.{numbers_kept}
use Rattle.semantics.proofs.Theory.SoundSteps.{core-sound, sound_carried, step_carried}
use Rattle.soundness.specs.Layout.{Layout}
use Rattle.semantics.proofs.Theory.Pools.{PoolLaws}

-- ---- the check finds it so

abbrev free_of : Checked → ℕ
free_of (Err NoRoom) = 0
free_of (Err CheckError.Unsound) = 0
free_of (Ok k) = k

sound-answer : (room p : Bool) (free k : ℕ) → Ok free ≡ cond room (cond p (Ok k) (Err CheckError.Unsound)) (Err NoRoom) → (p ≡ true) × (free ≡ k)
sound-answer false p free k e = absurd (let z : ◌≡◌ {A = ℕ} 0 1 = cc in omega arith)
sound-answer true false free k e = absurd (let z : ◌≡◌ {A = ℕ} 0 1 = cc in omega arith)
sound-answer true true free k e = (refl, ap free_of e)

module _ (layout : Layout) where
  pub kept_start : (s : Numbers) (ts ds : List ℕ) (fs : List FrameRecord) (ws ks : List ℕ) (free : ℕ) → length ts ≡ total_count → length ds ≡ deque_words → Ok free ≡ checked layout s ts ds fs ws ks
      → Kept layout (record { head = head_of s free; totals = ts; deques = ds; frames = fs; pool = ws })
  unfolding checked
  kept_start s ts ds fs ws ks free tlen dlen e =
      let r = sound-answer (leb s.nodes (length ks)) (sound layout s ts ds fs ws) free (count_of_free layout s ws) e in
      record { is_sound_lem = r.0; counted = r.1; height_is = refl; long_totals = tlen; long_deques = dlen }

  -- ---- every step keeps it

  -- the core is that of its numbers and words, with the free nodes counted
  pub core-counted : (c : Core) → Kept layout c → counted_core layout c.head.numbers c.totals c.deques c.frames c.pool ≡ c
  core-counted c K = ap₂ at (sym K.height_is) (sym K.counted)
    where
      at : ℕ → ℕ → Core
      at h k = record { head = record { numbers = c.head.numbers; height = h; free_count = k }; totals = c.totals; deques = c.deques; frames = c.frames; pool = c.pool }

module _ (layout : Layout) (pools : PoolLaws layout) where
  pub kept_step : (c : Core) → Kept layout c → (st : Step) → Kept layout (step_on layout c st).core
  kept_step c K st =
      let s = c.head.numbers in
      let c₀ = counted_core layout s c.totals c.deques c.frames c.pool in
      let C₀ = sound_carried layout pools s c.totals c.deques c.frames c.pool K.long_totals K.long_deques K.is_sound_lem in
      let C = step_carried layout pools (machine_of layout s c.deques c.frames c.pool) c₀ st C₀ in
      let n = numbers_kept layout c₀ st in
      subst (λ (d : Core). Kept layout (step_on layout d st).core) (core-counted layout c K)
      (record {
        is_sound_lem = (core-sound layout pools C).0;
        counted = sym (core-sound layout pools C).1;
        height_is = n.height ∙ ap height (sym n.splitters);
        long_totals = C.related.totals.long;
        long_deques = C.related.formed.shaped.long;
      })

  pub kept_record : (c : Core) → Kept layout c → (d : Decoded) → Kept layout (record_on layout c d).core
  kept_record c K (Some st) = kept_step c K st
  kept_record c K None = K
