-- A run's parts over several steps.
use mathlib.Core.Path.{◌≡◌, sym, ap, ◌∙◌}
use mathlib.Core.List.{List}
use Prim.Native.Nat.{ℕ, ◌*◌, ◌≤◌}
use lib.ListN.{length, set}
use Rattle.frames.specs.declared.Frame.{Frame}
use Rattle.soundness.specs.declared.Numbers.{Numbers}
use Rattle.soundness.specs.Numbers.{number_count, numbers_in, number_words, totals_in, set_free_node, set_free_place}
use Rattle.soundness.specs.Layout.{two_words}
use Rattle.semantics.specs.declared.Head.{Head}
use Rattle.semantics.specs.Core.{Core}
use Rattle.semantics.specs.Entries.{head_of, core_of, state_of, RecordsResult, records_result}
use Rattle.semantics.specs.Promises.{parts}
use Rattle.semantics.specs.Ranges.{Kept}
use Rattle.semantics.proofs.Theory.Ready.{kept_ready}
use Rattle.engine.specs.declared.run.Run.{Run}
use Rattle.engine.specs.Promises.{IsRun}
use Rattle.engine.specs.Run.{core_in, renewed, SameRun}
use Rattle.engine.proofs.NumberWords.{words-after}

-- one step after another
pub same_after : {r s t : Run} → SameRun r s → SameRun s t → SameRun r t
same_after {r} {s} {t} a b = record {
  numbers = b.numbers ∙ a.numbers;
  deques = b.deques ∙ a.deques;
  frames = b.frames ∙ a.frames;
  pool = b.pool ∙ a.pool;
  pool_words = b.pool_words ∙ a.pool_words;
  nodes = b.nodes ∙ a.nodes;
  head = b.head ∙ ap (λ (h : Head). renewed h t.head.numbers.free_node t.head.numbers.free_place t.head.free_count) a.head;
  words = b.words ∙ a.words;
}

-- the pool has its nodes still
pub same_nodes : {r s : Run} → r.pool.now.nodes ≡ r.head.numbers.nodes → SameRun r s → s.pool.now.nodes ≡ s.head.numbers.nodes
same_nodes {r} {s} e a = a.nodes ∙ e ∙ sym (ap (λ (h : Head). h.numbers.nodes) a.head)

-- the frame table keeps its length
pub same_table : {r s : Run} → Kept two_words (core_in r) → Kept two_words (core_in s) → SameRun r s → length s.frames.now ≡ length r.frames.now
same_table {r} {s} K L e = (kept_ready (core_in s) L).table ∙ ap (λ (h : Head). h.numbers.places) e.head ∙ sym (kept_ready (core_in r) K).table

-- a run begins with the numbers in the words ns, and so many free nodes
module _ (ns ds : List ℕ) (fs : List Frame) (ws : List ℕ) (n : Numbers) (head : Head) (free : ℕ) (en : n ≡ numbers_in ns) (eh : head ≡ head_of n free) where
  head_is : head ≡ head_of (numbers_in ns) free
  head_is = eh ∙ ap (λ (m : Numbers). head_of m free) en

  pub nodes_are : head.numbers.nodes ≡ (numbers_in ns).nodes
  nodes_are = ap (λ (h : Head). h.numbers.nodes) head_is

  pub core_is : ◌≡◌ {A = Core} (record { head = head; totals = totals_in ns; deques = ds; frames = fs; pool = ws }) (core_of (parts ns ds fs) ws free)
  core_is = ap (λ (h : Head). record { head = h; totals = totals_in ns; deques = ds; frames = fs; pool = ws }) head_is

  -- and its first free node and place go back to them
  pub run_done : (o : RecordsResult) (ns₁ ds₁ : List ℕ) (fs₁ : List Frame) (ws₁ rs₁ ns₂ : List ℕ) (last : Head) → length ns₁ ≡ number_count
      → numbers_in ns₁ ≡ numbers_in ns → last ≡ renewed head last.numbers.free_node last.numbers.free_place last.free_count
      → records_result (record { head = last; totals = totals_in ns₁; deques = ds₁; frames = fs₁; pool = ws₁ }) rs₁ ≡ o
      → ns₂ ≡ set (set ns₁ 3 last.numbers.free_node) 4 last.numbers.free_place → IsRun o ns₂ ds₁ fs₁ ws₁ rs₁
  run_done o ns₁ ds₁ fs₁ ws₁ rs₁ ns₂ last l e₁ el eo e₂ =
      let i : ℕ = last.numbers.free_node in
      let p : ℕ = last.numbers.free_place in
      let words : ns₂ ≡ number_words last.numbers (totals_in ns₁) =
      e₂
      ∙ words-after ns₁ i p l
      ∙ ap (λ (m : Numbers). number_words (set_free_place (set_free_node m i) p) (totals_in ns₁)) (e₁ ∙ sym (ap (λ (g : Head). g.numbers) head_is))
      ∙ sym (ap (λ (g : Head). number_words g.numbers (totals_in ns₁)) el) in
      record {
        state = ap (λ (m : List ℕ). parts m ds₁ fs₁) words ∙ ap (λ (r : RecordsResult). state_of r.core) eo;
        pool = ap (λ (r : RecordsResult). r.core.pool) eo;
        answers = ap (λ (r : RecordsResult). r.answers) eo;
      }

-- the nodes of a sound core's pool
pub pool_asks : (ns ds : List ℕ) (fs : List Frame) (ws : List ℕ) (k : ℕ) → Kept two_words (core_of (parts ns ds fs) ws k) → (2 * (numbers_in ns).nodes ≤ length ws) × ((numbers_in ns).nodes ≤ 16384)
pool_asks ns ds fs ws k K = let R = kept_ready (core_of (parts ns ds fs) ws k) K in (R.pool_room, R.nodes_le)

-- the lent parts are those that the run left
pub parts_are : (o : RecordsResult) (ns ds : List ℕ) (fs : List Frame) (ws rs ns' ds' : List ℕ) (fs' : List Frame) (ws' : List ℕ) → IsRun o ns ds fs ws rs → ns' ≡ ns → ds' ≡ ds → fs' ≡ fs → ws' ≡ ws → IsRun o ns' ds' fs' ws' rs
parts_are o ns ds fs ws rs ns' ds' fs' ws' R en ed ef ew = rw (en, ed, ef, ew) R
