-- A run is a LiveRun.
use Rattle.std.specs.Prelude.{◌≡◌, refl, List, [], ◌∷◌, ◌++◌, ℕ}
use Rattle.std.proofs.Common.{sym, ◌∙◌, subst, inl, inr}
use mathlib.Core.List.Memᴰ.{head as here}
use mathlib.Core.List.{Memᴰ as In}
use mathlib.Core.List.Permᴰ
use Rattle.model.specs.declared.Step.{Step}
use Rattle.model.specs.Machine.{Machine, live}
use Rattle.model.specs.Steps.{Turn, acting, stealing, turn_of, after_turn}
use Rattle.model.specs.Run.{run, Entry, bottom_entry, turn_entry, trace}
use Rattle.model.proofs.Theory.LiveRun.{successors, Allowed, LiveRun, ended, moved, acted, settles_run}
use Rattle.model.proofs.Theory.Effects.{Passes, rest, acts, steals}
use Rattle.model.proofs.Theory.RunSteps.{accepted_or_refused, sizes_turn}
use Rattle.model.proofs.Theory.FrameTree.{FrameTree, tree_turn}
use Rattle.model.proofs.Theory.DequeShape.{DequeInvariant}
use Rattle.model.proofs.Theory.Deques.{deques_turn}

live_turn : (n nodes places : ℕ) (M : Machine) (t : Turn) (es : List Entry) → M.splitters ≡ n → M.nodes ≡ nodes → M.places ≡ places → Passes M t → DequeInvariant M → LiveRun n nodes places (live (after_turn M t)) es → LiveRun n nodes places (live M) (turn_entry M t ++ es)
live_turn n nodes places M (acting w a) es en em ep h t g =
    let x = acts M w a h in
    subst (λ z. LiveRun n nodes places (live M) (bottom_entry z a ++ es)) (sym x.at)
    (acted x.actor a (x.above ++ rest M w) x.before (t.active w x.actor (subst (λ z. In x.actor z) (sym x.at) (here refl)))
    (subst (λ z. Allowed z nodes places x.actor (x.above ++ rest M w) a) en (subst (λ z. Allowed M.splitters z places x.actor (x.above ++ rest M w) a) em
    (subst (λ z. Allowed M.splitters M.nodes z x.actor (x.above ++ rest M w) a) ep x.allowed)))
    (Permᴰ.refl (successors x.actor a ++ (x.above ++ rest M w))) (settles_run x.after g))
live_turn n nodes places M (stealing w v) es en em ep h t g = moved (steals M w v h).same-frames g

pub live-run : (n nodes places : ℕ) (M : Machine) (ss : List Step) → M.splitters ≡ n → M.nodes ≡ nodes → M.places ≡ places → FrameTree M → DequeInvariant M → live (run M ss) ≡ [] → LiveRun n nodes places (live M) (trace M ss)
live-run n nodes places M [] en em ep s t h = subst (λ L. LiveRun n nodes places L []) (sym h) ended
live-run n nodes places M (u ∷ ss) en em ep s t h =
    elim (accepted_or_refused M u) [
      | inl a ↦ rw (a.traced ss)
          (live_turn n nodes places M (turn_of u) (trace (after_turn M (turn_of u)) ss) en em ep a.passes t
          (live-run n nodes places (after_turn M (turn_of u)) ss ((sizes_turn M (turn_of u)).splitters ∙ en) ((sizes_turn M (turn_of u)).nodes ∙ em) ((sizes_turn M (turn_of u)).places ∙ ep) (tree_turn M (turn_of u) a.passes s) (deques_turn M (turn_of u) a.passes s t) (subst (λ z. live (run z ss) ≡ []) a.after h)))
      | inr r ↦ rw (r.traced ss) (live-run n nodes places M ss en em ep s t (subst (λ z. live (run z ss) ≡ []) r.after h))
    ]
