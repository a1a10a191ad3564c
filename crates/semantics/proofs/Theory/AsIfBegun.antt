-- R-9: "The run goes on, and the steps that follow answer as if it had begun in the new layout."
-- r is the run that was changed over, r' the one begun in the new layout, r₄ the one in the old layout, with which both are compared; it gets the same calls.
use Rattle.std.specs.Prelude.{◌≡◌, refl, cond, List, [], ◌∷◌, ℕ, ◌*◌, ◌<◌, length, drop, replicate, ltb}
use Rattle.std.proofs.Common.{sym, ap, ◌∙◌, subst, inl, inr, arith, lt-ltb, le-ltb}
use Rattle.std.proofs.lemmas.List.{length-replicate}
use Rattle.words.specs.Tests.{decided}
use Rattle.words.specs.Below.{Words, words-zeros}
use Rattle.packed.proofs.Theory.Unpacks.{Unpacks}
use Rattle.packed.proofs.Theory.Pack.{words-converted, unpacks_same}
use Rattle.soundness.specs.Layout.{four_words, two_words}
use Rattle.semantics.specs.Entries.{State, numbers_of, whole_nodes}
use Rattle.semantics.specs.Images.{saved_bytes}
use Rattle.semantics.specs.Calls.{Start, start_result, after_start, Run, Call, call, save, load, begun, run_after, run_of}
use Rattle.semantics.specs.Demands.{StateWords, StartWords, CallWords, AllCallWords, run_from}
use Rattle.semantics.specs.Matching.{AsManyNodes}
use Rattle.semantics.specs.Convert.{ConvertResult, change_over, changed_over}
use Rattle.semantics.specs.ConvertDemands.{SameCall, SameCalls, in_pool, without_images, SameRuns, AsIfBegunSo}
use Rattle.semantics.proofs.Theory.Images.{sound_room}
use Rattle.semantics.proofs.Theory.Matching.{match_unpacks}
use Rattle.semantics.proofs.Theory.Converts.{ConvertTaken, convert_taken, not_taken, accepted_convert}
use Rattle.semantics.proofs.Theory.AlikeRuns.{Alike, old_words, AlikeRuns, alike_after, alike_calls, alike_begun}

-- ---- the same call in the other layout

-- a target that is too short, or long enough, for an image of `other` bytes, as this one is for `bytes`
abbrev other_target : ℕ → ℕ → List ℕ → List ℕ
other_target bytes other target = cond (ltb (length target) bytes) [] (replicate other 0)

target_same : (bytes other : ℕ) (target : List ℕ) → 0 < other → ltb (length target) bytes ≡ ltb (length (other_target bytes other target)) other
target_same bytes other target h = elim (decided (ltb (length target) bytes)) [
  | inl t ↦ rw t (sym (lt-ltb 0 other h))
  | inr t ↦ rw t (sym (le-ltb (length (replicate other 0)) other (omega (arith, length-replicate {A = ℕ} other 0))))
]

-- in the old layout, of a run that has the state of r₄
abbrev old_call : Run → Call → Call
old_call r₄ (call k) = call k
old_call r₄ (save work target) = save work (other_target (saved_bytes two_words r₄.now.state) (saved_bytes four_words r₄.now.state) target)
old_call r₄ (load i ns ds ws work) = load i ns ds (replicate (4 * whole_nodes two_words ws) 0) work

old_call_words : (r₄ : Run) (c : Call) → CallWords c → CallWords (old_call r₄ c)
old_call_words r₄ (call k) w = w
old_call_words r₄ (save work target) w = tt
old_call_words r₄ (load i ns ds ws work) w = words-zeros (4 * whole_nodes two_words ws)

old_same : (r r₄ : Run) (c : Call) → r.now.state ≡ r₄.now.state → SameCall r r₄ c (old_call r₄ c)
old_same r r₄ (call k) e = refl
old_same r r₄ (save work target) e =
    let s = r₄.now.state in
    (refl, ap (λ (t : State). ltb (length target) (saved_bytes two_words t)) e ∙ target_same (saved_bytes two_words s) (saved_bytes four_words s) target (omega arith))
old_same r r₄ (load i ns ds ws work) e = (refl, refl, refl, refl, omega (arith, length-replicate {A = ℕ} (4 * whole_nodes two_words ws) 0))

-- in the new layout
abbrev new_call : Run → Call → Call
new_call r₂ (call k) = call k
new_call r₂ (save work target) = save work (other_target (saved_bytes four_words r₂.now.state) (saved_bytes two_words r₂.now.state) target)
new_call r₂ (load i ns ds ws work) = load i ns ds (replicate (2 * whole_nodes four_words ws) 0) work

new_call_words : (r₂ : Run) (c : Call) → CallWords c → CallWords (new_call r₂ c)
new_call_words r₂ (call k) w = w
new_call_words r₂ (save work target) w = tt
new_call_words r₂ (load i ns ds ws work) w = words-zeros (2 * whole_nodes four_words ws)

new_same : (r₂ r₄ : Run) (c : Call) → r₂.now.state ≡ r₄.now.state → SameCall r₂ r₄ (new_call r₂ c) c
new_same r₂ r₄ (call k) e = refl
new_same r₂ r₄ (save work target) e =
    let s = r₂.now.state in
    (refl, sym (target_same (saved_bytes four_words s) (saved_bytes two_words s) target (omega arith)) ∙ ap (λ (t : State). ltb (length target) (saved_bytes four_words t)) e)
new_same r₂ r₄ (load i ns ds ws work) e = (refl, refl, refl, refl, omega (arith, length-replicate {A = ℕ} (2 * whole_nodes four_words ws) 0))

-- so each list of calls in the old layout has one in the new
new_calls : (N : ℕ) (cs : List Call) (r₂ r₄ : Run) → AllCallWords cs → AlikeRuns N r₂ r₄ → (cs₂ : List Call) × AllCallWords cs₂ × SameCalls r₂ r₄ cs₂ cs
new_calls N [] r₂ r₄ w A = ([], tt, tt)
new_calls N (c ∷ cs) r₂ r₄ w A =
    let c₂ = new_call r₂ c in
    let w₂ = new_call_words r₂ c w.0 in
    let m = new_same r₂ r₄ c A.state in
    let R = new_calls N cs (run_after two_words r₂ c₂) (run_after four_words r₄ c) w.1 (alike_after N c₂ c r₂ r₄ w₂ w.0 m A) in
    (c₂ ∷ R.0, (w₂, R.1), (m, R.2))

-- ---- two runs in the new layout

module _ (N : ℕ) where
  -- both are like one in the old layout
  record AlikeBoth (r r' : Run) : Type 0 where
    old : Run
    first : AlikeRuns N r old
    second : AlikeRuns N r' old

  both-after : (cs : List Call) (r r' : Run) → AllCallWords cs → AlikeBoth r r' → AlikeBoth (run_of two_words r cs) (run_of two_words r' cs)
  both-after [] r r' w B = B
  both-after (c ∷ cs) r r' w B =
      let r₄ = B.old in
      let w₄ = old_call_words r₄ c w.0 in
      both-after cs (run_after two_words r c) (run_after two_words r' c) w.1 (record {
        old = run_after four_words r₄ (old_call r₄ c);
        first = alike_after N c (old_call r₄ c) r r₄ w.0 w₄ (old_same r r₄ c B.first.state) B.first;
        second = alike_after N c (old_call r₄ c) r' r₄ w.0 w₄ (old_same r' r₄ c B.second.state) B.second;
      })

  -- the new pool unpacks to the old one
  alike_unpacks : {s : State} {ws₂ ws₄ : List ℕ} → Alike N s ws₂ ws₄ → Unpacks N (drop (2 * N) ws₂) ws₂ ws₄
  alike_unpacks {s} {ws₂} {ws₄} A =
      subst (λ (n : ℕ). Unpacks n (drop (2 * n) ws₂) ws₂ ws₄) A.nodes (match_unpacks s ws₂ A.match.two_sound ws₄ (sound_room four_words s ws₄ A.match.four_sound) A.match.matches)

  -- so they have answered the same, and have the same state and nodes
  both-same : (r r' : Run) → AlikeBoth r r' → SameRuns N r r'
  both-same r r' B =
      let F = B.first in
      let S = B.second in
      record {
        exchanges = F.exchanges ∙ sym S.exchanges;
        stateless = F.stateless ∙ sym S.stateless;
        state = λ e. F.state ∙ sym S.state;
        nodes = λ e.
            let A = F.standing e in
            let A' = S.standing (S.stateless ∙ sym F.stateless ∙ e) in
            unpacks_same A.words.pool A'.words.pool (alike_unpacks A) (alike_unpacks A');
      }

-- ---- the change-over

module _ (N : ℕ) (r₂ r₄ : Run) (A : AlikeRuns N r₂ r₄) (work : List ℕ) (z : (change_over r₄.now work).result ≡ 0) where
  taken : ConvertTaken r₄.now.state r₄.now.pool work
  taken = convert_taken r₄.now.state r₄.now.pool work z

  -- the run that was changed over is like the old one
  changed_alike : AlikeRuns N (changed_over r₄ work) (without_images r₄)
  changed_alike = record {
    exchanges = refl;
    stateless = refl;
    state = refl;
    standing = λ e.
        let S = A.standing (A.stateless ∙ e) in
        let W : StateWords r₄.now.state r₄.now.pool = subst (λ (t : State). StateWords t r₄.now.pool) A.state (old_words S) in
        let pool = subst Words (sym (ap (λ (o : ConvertResult). o.pool) taken.is)) (words-converted (numbers_of r₄.now.state).nodes r₄.now.pool W.pool) in
        record {
          match = (accepted_convert r₄.now.state r₄.now.pool work z).match;
          words = record { numbers = W.numbers; deques = W.deques; frames = W.frames; pool = pool };
          words₄ = W.pool;
          nodes = ap (λ (t : State). (numbers_of t).nodes) (sym A.state) ∙ S.nodes;
        };
    none = λ e. absurd (not_taken r₄.now work taken (A.none (A.stateless ∙ e)).1);
    images = tt;
  }

  -- and so is the one in the new layout
  begun_alike : AlikeRuns N (without_images r₂) (without_images r₄)
  begun_alike = record { exchanges = A.exchanges; stateless = A.stateless; state = A.state; standing = A.standing; none = A.none; images = tt }

  changed_both : AlikeBoth N (changed_over r₄ work) (without_images r₂)
  changed_both = record { old = without_images r₄; first = changed_alike; second = begun_alike }

-- ---- the statements

pub as_if_begun_so : (b : Start) (before : List Call) (work : List ℕ) (after : List Call) (ws : List ℕ) (before₂ : List Call)
    → (start_result four_words b).result ≡ 0 → StartWords b → Words ws → AsManyNodes ws b.pool → AllCallWords before → AllCallWords before₂ → AllCallWords after
    → SameCalls (begun (after_start two_words (in_pool b ws))) (begun (after_start four_words b)) before₂ before
    → (change_over (run_from four_words b before).now work).result ≡ 0
    → AsIfBegunSo b before work after ws before₂
as_if_begun_so b before work after ws before₂ z w w₂ m words words₂ words-after same taken-over =
    let N = whole_nodes four_words b.pool in
    let r₂ = run_from two_words (in_pool b ws) before₂ in
    let r₄ = run_from four_words b before in
    let A : AlikeRuns N r₂ r₄ = alike_calls N before₂ before (begun (after_start two_words (in_pool b ws))) (begun (after_start four_words b)) words₂ words same (alike_begun b ws z w w₂ m) in
    both-same N (run_of two_words (changed_over r₄ work) after) (run_of two_words (without_images r₂) after)
    (both-after N after (changed_over r₄ work) (without_images r₂) words-after (changed_both N r₂ r₄ A work taken-over))

-- and there is such a run in the new layout, for each one that was changed over
pub begun_so_too : (b : Start) (before : List Call) (ws : List ℕ) → (start_result four_words b).result ≡ 0 → StartWords b → Words ws → AsManyNodes ws b.pool → AllCallWords before
    → (before₂ : List Call) × AllCallWords before₂ × SameCalls (begun (after_start two_words (in_pool b ws))) (begun (after_start four_words b)) before₂ before
begun_so_too b before ws z w w₂ m words =
    new_calls (whole_nodes four_words b.pool) before (begun (after_start two_words (in_pool b ws))) (begun (after_start four_words b)) words (alike_begun b ws z w w₂ m)
