-- A step from outside, run as a tape of one record, over plain variables.
use mathlib.Core.Path.{◌≡◌, ap, ◌∙◌}
use mathlib.Core.List.{List}
use Prim.Native.Nat.{ℕ, min}
use lib.ListN.{length, get_or}
use Rattle.frames.specs.declared.Frame.{Frame}
use Rattle.model.specs.Record.{record_of, decode_at}
use Rattle.semantics.specs.Entries.{State, TapeResult, outside_on, tape_on}
use Rattle.semantics.specs.Promises.{IsOutside, IsTape}
use Rattle.splitter.specs.OneRecord.{result_words}
use Rattle.splitter.specs.Theory.OneRecord.{one_step}
use Rattle.splitter.specs.Theory.Narrow.{same_cut}
use Rattle.soundness.specs.Layout.{two_words}

pub step_by_lem : (s : State) (ws ks bytes rs ns' ds' : List ℕ) (fs' : List Frame) (ws' ks' rs' : List ℕ) (kind worker field value k r : ℕ) → length bytes ≡ 8 → length rs ≡ 2
    → decode_at bytes 0 ≡ record_of (min kind 255) (min worker 255) (min field 65535) value → IsTape (tape_on two_words s ws ks bytes rs) ns' ds' fs' ws' ks' rs' k
    → r ≡ result_words k (get_or rs' 0 0) (get_or rs' 1 0) → IsOutside (outside_on two_words s ws ks (record_of kind worker field value)) ns' ds' fs' ws' ks' r
step_by_lem s ws ks bytes rs ns' ds' fs' ws' ks' rs' kind worker field value k r long two ed p e =
    let t : TapeResult = tape_on two_words s ws ks bytes rs in
    let q = one_step s ws ks bytes rs long two in
    let o : outside_on two_words s ws ks (decode_at bytes 0) ≡ outside_on two_words s ws ks (record_of kind worker field value) = rw ed (same_cut s ws ks kind worker field value) in
    let w : result_words k (get_or rs' 0 0) (get_or rs' 1 0) ≡ result_words t.result (get_or t.answers 0 0) (get_or t.answers 1 0) = rw (p.result, p.answers) in
    record {
      result = e ∙ w ∙ q.words ∙ ap (λ z. z.result) o;
      state = p.state ∙ q.state ∙ ap (λ z. z.state) o;
      pool = p.pool ∙ q.pool ∙ ap (λ z. z.pool) o;
      work = p.work ∙ q.work ∙ ap (λ z. z.work) o;
    }
