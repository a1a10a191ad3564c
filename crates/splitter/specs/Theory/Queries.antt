-- What is asked of a sound state, and of a run.
use Rattle.std.specs.Prelude.{◌≡◌, true, false, List, ℕ, ◌*◌, ◌≤◌, length}
use Rattle.std.proofs.Common.{◌∙◌, arith, eq-eqb, le-leb}
use Rattle.model.specs.Machine.{free_nodes as plainFree}
use Rattle.semantics.specs.Entries.{State, numbers_of, totals_of, is_sound, chain_free, whole_nodes}
use Rattle.semantics.specs.Calls.{Start, Call}
use Rattle.semantics.specs.Demands.{Demand2, run_from, plain_now}
use Rattle.soundness.proofs.Theory.Sentences.{sound_facts}
use Rattle.soundness.specs.Numbers.{number_count}
use Rattle.splitter.specs.Queries.{free_on}
use Rattle.soundness.specs.Layout.{two_words}

-- of a sound state: the nodes on its free chain
pub free_sound_lem : (s : State) (ws : List ℕ) → length s.numbers ≡ number_count → is_sound two_words s ws ≡ true → free_on s.numbers ws ≡ chain_free two_words s ws
unfolding free_on
free_sound_lem s ws l e =
    let F = sound_facts two_words (numbers_of s) (totals_of s) s.deques s.frames ws e in
    let held : 2 * (numbers_of s).nodes ≤ length ws = F.numbers.room in
    let room : (numbers_of s).nodes ≤ whole_nodes two_words ws = omega arith in
    rw (eq-eqb (length s.numbers) number_count l, le-leb (numbers_of s).nodes (whole_nodes two_words ws) room)

-- of a run from a start, whose numbers have their length as every call asks: the plain machine's free nodes
pub free_in_run : (b : Start) (calls : List Call) → Demand2 two_words b calls → (run_from two_words b calls).stateless ≡ false → length (run_from two_words b calls).now.state.numbers ≡ number_count
    → free_on (run_from two_words b calls).now.state.numbers (run_from two_words b calls).now.pool ≡ plainFree (plain_now two_words b calls)
free_in_run b calls d s l =
    let r = run_from two_words b calls in free_sound_lem r.now.state r.now.pool l (d.still_sound s) ∙ d.same_free s
