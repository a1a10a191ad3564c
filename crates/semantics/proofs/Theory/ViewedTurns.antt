-- R-5: the views after the ends of a return, one after the other.
use Rattle.std.specs.Prelude.{◌≡◌, List, []}
use Rattle.std.proofs.Common.{sym, ◌∙◌, subst}
use mathlib.Core.List.Memᴰ.{map as In-map}
use mathlib.Core.List.Memᴰ.{tail as there}
use mathlib.Core.List.Permᴰ
use Rattle.words.specs.Lists.{In-perm}
use Rattle.model.specs.Machine.{Frame, Machine, live, has_frame}
use Rattle.model.specs.Views.{View, Views, join_ended}
use Rattle.model.proofs.Theory.MainEnds.{In-hasFrame, has_frame_In}
use Rattle.model.proofs.Theory.JoinViews.{join_none, joined_in_turn}
use Rattle.semantics.specs.Core.{Core}
use Rattle.semantics.proofs.Theory.Relation.{Trees, Relates, Links, Keeps}
use Rattle.semantics.proofs.Theory.LinksKept.{NamedIn}
use Rattle.semantics.proofs.Theory.LinksEnd.{links_end}
use Rattle.semantics.proofs.Theory.Viewed.{Viewed}
use Rattle.semantics.proofs.Theory.ViewedKept.{viewed_keeps}
use Rattle.semantics.proofs.Theory.ViewedEnd.{viewed_end}
use Rattle.semantics.proofs.Theory.EndsInTurn.{EndsInTurn, stops, ends_then}
use Rattle.soundness.specs.Layout.{Layout}

module _ (layout : Layout) where
  -- the frames afterwards lived before
  pub turns_named : {P : Trees} {M M' : Machine} {c c' : Core} {r : Relates layout P M c} {r' : Relates layout P M' c'} → EndsInTurn layout r r' → NamedIn (live M) (live M')
  turns_named (stops K) = K.from
  turns_named (ends_then g R tree h E T) = λ f m. (let x = turns_named T f m in (x.0, In-perm (Permᴰ.symm E.before) (there (In-perm E.after x.1)), x.2))

  -- no frame ends
  joined-none : {P : Trees} {M M' : Machine} {c c' : Core} {r : Relates layout P M c} {r' : Relates layout P M' c'} → Keeps layout r r' → (W : Views) → Viewed layout r W → join_ended (live M') [] W.views W.totals ≡ W
  joined-none {M' = M'} K W H =
      join_none (λ n. has_frame n (live M')) W.views W.totals
      (λ v m. let f = H.ordered.names.alive v.name (In-map (λ (u : View). u.name) m) in let x = K.to f.0 f.1 in In-hasFrame v.name (live M') x.0 x.1 (x.2 ∙ f.2))

-- g ends and R are left, and of them the frames of L live in the end
joined_then : (R L : List Frame) (W : Views) → NamedIn R L → join_ended L [] W.views W.totals ≡ (let W₁ = join_ended R [] W.views W.totals in join_ended L [] W₁.views W₁.totals)
joined_then R L W n =
    joined_in_turn R L W.views W.totals (λ v m t. let f = has_frame_In v.name L t in let x = n f.0 f.1 in In-hasFrame v.name R x.0 x.1 (x.2 ∙ f.2))

module _ (layout : Layout) where
  pub turns_viewed : {P : Trees} {M M' : Machine} {c c' : Core} {r : Relates layout P M c} {r' : Relates layout P M' c'} → EndsInTurn layout r r' → Links c.frames r.at (live M) → (W : Views) → Viewed layout r W
      → Viewed layout r' (join_ended (live M') [] W.views W.totals)
  turns_viewed {r' = r'} (stops K) L W H = subst (Viewed layout r') (sym (joined-none layout K W H)) (viewed_keeps layout K W H)
  turns_viewed {M' = M'} {r' = r'} (ends_then {r = r} {r₁ = r₁} g R tree h E T) L W H =
      let W₁ = join_ended R [] W.views W.totals in
      subst (Viewed layout r') (sym (joined_then R (live M') W (λ f m. let x = turns_named layout T f m in (x.0, In-perm E.after x.1, x.2))))
      (turns_viewed T (links_end layout r tree L g R E.before r₁ E h) W₁ (viewed_end layout r r₁ tree L g R E h W H))
