-- The start's ways out, over plain variables.
use Rattle.std.specs.Prelude.{Result, ⊤, is_err}
use mathlib.Core.Path.{◌≡◌, refl, sym, ap, ◌∙◌}
use mathlib.Core.Logic.{◌≢◌}
use mathlib.Core.Bool.{Bool, true, false, cond, ◌||◌}
use mathlib.Core.List.{List, [], ◌∷◌}
use Prim.Native.Nat.{ℕ}
use lib.Dec.{eqb, ltb}
use lib.ListN.{length, replicate}
use Rattle.sizes.specs.Sizes.{tree_nodes}
use Rattle.packed.specs.Pool.{init_pool}
use Rattle.frames.specs.declared.Frame.{Frame}
use Rattle.frames.specs.Widths.{max_places, deque_words}
use Rattle.frames.specs.Frames.{init_frames}
use Rattle.frames.specs.Deques.{init_deques}
use Rattle.frames.proofs.Theory.Start.{length_init}
use Rattle.soundness.specs.declared.Numbers.{Numbers}
use Rattle.soundness.specs.Numbers.{number_words, total_count}
use Rattle.semantics.specs.declared.Refusal.{Refusal}
use Rattle.semantics.specs.declared.Refusal.TheVariants.{Values, Workers, Places, Nodes}
use Rattle.semantics.specs.Answers.{refusal_number}
use Rattle.semantics.specs.Entries.{StartResult, zeros, whole_nodes, first_numbers, first_state, start_accepted, start_refused, start_with}
use Rattle.semantics.specs.Promises.{parts, IsStart}
use Rattle.engine.specs.Promises.{result_number, start_tests, tested}
use Rattle.engine.proofs.Numbered.{refusal_by, refusal-some, number_tested, some_refused, none_refused}
use Rattle.soundness.specs.Layout.{two_words}

-- ---- the refusal

-- ---- the start

refused_by_lem : (a b c d : Bool) (x : Refusal → StartResult) (y : StartResult) (k : ℕ) → k ≡ refusal_by ((a, Values) ∷ (b, Workers) ∷ (c, Places) ∷ (d, Nodes) ∷ []) → k ≢ 0
    → (r : Refusal) × (k ≡ refusal_number r) × (x r ≡ cond a (x Values) (cond b (x Workers) (cond c (x Places) (cond d (x Nodes) y))))
refused_by_lem true b c d x y k e n = (Values, e, refl)
refused_by_lem false true c d x y k e n = (Workers, e, refl)
refused_by_lem false false true d x y k e n = (Places, e, refl)
refused_by_lem false false false true x y k e n = (Nodes, e, refl)
refused_by_lem false false false false x y k e n = absurd (n e)

none_refuses : (a b c d : Bool) → 0 ≡ refusal_by ((a, Values) ∷ (b, Workers) ∷ (c, Places) ∷ (d, Nodes) ∷ []) → (a ≡ false) × (b ≡ false) × (c ≡ false) × (d ≡ false)
none_refuses true b c d e = absurd (refusal-some Values (sym e))
none_refuses false true c d e = absurd (refusal-some Workers (sym e))
none_refuses false false true d e = absurd (refusal-some Places (sym e))
none_refuses false false false true e = absurd (refusal-some Nodes (sym e))
none_refuses false false false false e = (refl, refl, refl, refl)

module _ (workers : ℕ) (vs : List ℕ) (fs : List Frame) (ws : List ℕ) (nodes : ℕ) (en : nodes ≡ whole_nodes two_words ws) (x : Result ⊤ Refusal) (ex : x ≡ tested (start_tests workers (length vs) (length fs) nodes)) where
  number_is : result_number x ≡ refusal_by (start_tests workers (length vs) (length fs) (whole_nodes two_words ws))
  number_is = ap result_number ex ∙ number_tested (start_tests workers (length vs) (length fs) nodes) ∙ ap (λ (m : ℕ). refusal_by (start_tests workers (length vs) (length fs) m)) en

  -- refused: numbers and deques are zero, and the table stays
  pub start_refused_lem : is_err x ≡ true → (ns' ds' : List ℕ) (fs' : List Frame) → parts ns' ds' fs' ≡ zeros fs → IsStart (start_with two_words workers vs fs ws) ns' ds' fs' ws (result_number x)
  unfolding start_with
  start_refused_lem n ns' ds' fs' z =
      let q = refused_by_lem (eqb (length vs) 0 || ltb 256 (length vs)) (eqb workers 0 || ltb 8 workers) (eqb (length fs) 0 || ltb max_places (length fs))
      (ltb (whole_nodes two_words ws) (tree_nodes (length vs)) || ltb 16384 (whole_nodes two_words ws)) (λ r. start_refused r fs ws) (start_accepted two_words workers vs fs ws) (result_number x) number_is (some_refused x n) in
      record { result = q.1 ∙ ap (λ (b : StartResult). b.result) q.2; state = z ∙ ap (λ (b : StartResult). b.state) q.2; pool = ap (λ (b : StartResult). b.pool) q.2 }

  module _ (z : is_err x ≡ false) where
    passes : (eqb (length vs) 0 || ltb 256 (length vs) ≡ false) × (eqb workers 0 || ltb 8 workers ≡ false) × (eqb (length fs) 0 || ltb max_places (length fs) ≡ false)
        × (ltb (whole_nodes two_words ws) (tree_nodes (length vs)) || ltb 16384 (whole_nodes two_words ws) ≡ false)
    passes = none_refuses (eqb (length vs) 0 || ltb 256 (length vs)) (eqb workers 0 || ltb 8 workers) (eqb (length fs) 0 || ltb max_places (length fs))
        (ltb (whole_nodes two_words ws) (tree_nodes (length vs)) || ltb 16384 (whole_nodes two_words ws)) (sym (none_refused x z) ∙ number_is)

    pub start_taken : (start_with two_words workers vs fs ws).result ≡ 0
    unfolding start_with
    start_taken = rw (passes.0, passes.1, passes.2, passes.3)

    -- the table keeps its length
    pub started_table : length (start_with two_words workers vs fs ws).state.frames ≡ length fs
    unfolding start_with
    started_table = rw (passes.0, passes.1, passes.2, passes.3) (length_init fs)

    pub started : (free : ℕ) (n : Numbers) (ns ds : List ℕ) (fs' : List Frame) (ws' : List ℕ)
        → (ws' ≡ (init_pool ws (length vs) nodes vs).0) × (free ≡ (init_pool ws (length vs) nodes vs).1) → ds ≡ init_deques (replicate deque_words 0) → fs' ≡ init_frames fs
        → n ≡ first_numbers workers (length vs) nodes free (length fs) → ns ≡ number_words n (replicate total_count 0)
        → IsStart (start_with two_words workers vs fs ws) ns ds fs' ws' 0
    unfolding start_with
    started free n ns ds fs' ws' ei ed ef em es =
        let o : start_accepted two_words workers vs fs ws ≡ start_with two_words workers vs fs ws = rw (passes.0, passes.1, passes.2, passes.3) in
        let w : ws' ≡ (init_pool ws (length vs) (whole_nodes two_words ws) vs).0 = ei.0 ∙ ap (λ (m : ℕ). (init_pool ws (length vs) m vs).0) en in
        let f : free ≡ (init_pool ws (length vs) (whole_nodes two_words ws) vs).1 = ei.1 ∙ ap (λ (m : ℕ). (init_pool ws (length vs) m vs).1) en in
        let s : parts ns ds fs' ≡ first_state workers (length vs) (whole_nodes two_words ws) (init_pool ws (length vs) (whole_nodes two_words ws) vs).1 fs = rw (es, em, ed, ef, f, en) in
        record { result = ap (λ (b : StartResult). b.result) o; state = s ∙ ap (λ (b : StartResult). b.state) o; pool = w ∙ ap (λ (b : StartResult). b.pool) o }
