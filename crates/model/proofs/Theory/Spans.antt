-- The span is what the frames' steps give: at every moment Main's clock at its end is foretold by the live frames' clocks, in their
-- order, and by the steps that are left.
use Rattle.std.specs.Prelude.{◌≡◌, refl, Bool, true, false, ◌&&◌, List, [], ◌∷◌, ◌++◌, ℕ, ◌<◌, max, length, set}
use Rattle.std.proofs.Common.{sym, ap, ap₂, ◌∙◌, subst, inl, inr, arith, length-set, get_or-set_same}
use mathlib.Core.List.Memᴰ
use mathlib.Core.List.Memᴰ.{append_left as In-left}
use mathlib.Core.List.Memᴰ.{append_right as In-right}
use mathlib.Core.List.Memᴰ.{head as here}
use mathlib.Core.List.Memᴰ.{map as In-map}
use mathlib.Core.List.Memᴰ.{not-nil as not-in-nil}
use mathlib.Core.List.Memᴰ.{tail as there}
use mathlib.Core.List.{Memᴰ as In}
use mathlib.Core.List.Permᴰ
use Rattle.words.specs.Basics.{joined, same}
use Rattle.words.specs.Tests.{true≢false, decided, both}
use Rattle.words.specs.Distinct.{same_eq, same_differ}
use Rattle.words.specs.Lists.{In-perm}
use Rattle.model.specs.declared.Step.{Step}
use Rattle.model.specs.Machine.{Name, Frame, Machine, live, deque, with_deque, is_empty, is_child, has_child, has_frame, those}
use Rattle.model.specs.Steps.{Action, spawn, return, sync, read, write, fold, Turn, acting, stealing, turn_of, child, as_returning, waits_in_return, waits_at_sync, leave, resume, upward, after_end, after_action, after_turn}
use Rattle.model.specs.Run.{run, Entry, bottom_entry, turn_entry, trace}
use Rattle.model.specs.Clocks.{Clock, Clocks, clocks_moved, bottom_clocks, turn_clocks, best, settle, run_clocks}
use Rattle.model.proofs.Theory.LiveRun.{successors, Settles, settled, drops, LiveRun, Disjoint, disjoint_perm, disjoint_acted}
use Rattle.model.proofs.Theory.Children.{In-hasChild, has_child_perm}
use Rattle.model.proofs.Theory.StepsKept.{still}
use Rattle.model.proofs.Theory.Effects.{Passes, rest, other_action, resume-live, Acts, acts, steals}
use Rattle.model.proofs.Theory.RunSteps.{accepted_or_refused}
use Rattle.model.proofs.Theory.FrameTree.{FrameTree, tree_turn}
use Rattle.model.proofs.Theory.DequeShape.{DequeInvariant, to_others}
use Rattle.model.proofs.Theory.Deques.{deques_turn}
use Rattle.model.proofs.Theory.RunLive.{live-run}
use Rattle.model.proofs.Theory.MainEnds.{In-hasFrame, has_frame_In}
use Rattle.model.proofs.Theory.ViewNames.{bottom_names, settles_in, NamesOf, acted_alive, child_new}
use Rattle.model.proofs.Theory.PostOrder.{post_nodup, InPostOrder}
use Rattle.model.proofs.Theory.Totals.{Counts, counted, counts_acted, silent}
use Rattle.model.proofs.Theory.SettleClocks.{clock_names}
use Rattle.model.proofs.Theory.ClockNames.{clocks_turned, clocks_accepted, clocks_refused, clock_names_turn, clocks_turn}
use Rattle.model.proofs.Theory.AtSync.{AtSync, awake, waits_from, suspended_self, still_suspended, at_sync_turn}
use Rattle.model.proofs.Theory.Foretold.{foretell, Childless, Ready, settle-foretold, moved_same}

-- ---- the machine: a frame that is suspended no more, but lives, has no live child

stays_put : {f : Frame} {l : List Frame} → In f l → has_frame f.name l ≡ false → ⊥
stays_put {f} {l} m h = true≢false (sym (In-hasFrame f.name l f m refl) ∙ h)

upward_resumed : (M : Machine) (w : ℕ) (r : Name) → w < length M.deques → deque M w ≡ [] → (f : Frame) → In f M.suspended → f.returning ≡ false → has_frame f.name (upward M w r).suspended ≡ false → has_child f.name (live (upward M w r)) ≡ false
upward_resumed M w [] lt e f m on h = absurd (stays_put m h)
upward_resumed M w (k ∷ p) lt e f m on h =
    elim (decided (has_child p (live M))) [
      | inl c ↦ absurd (stays_put m (rw c at h))
      | inr c ↦ rw c (elim (decided (is_empty (those (waits_in_return p) M.suspended))) [
        | inl s ↦ rw s (elim (decided (waits_at_sync p f)) [
          | inl t ↦ subst (λ z. has_child z (live (resume M w p)) ≡ false) (sym (same_eq f.name p (both _ _ t).0)) (has_child_perm p (resume-live M w p lt e) c)
          | inr t ↦ absurd (stays_put (to_others (waits_at_sync p) M.suspended f m t) (rw (c, s) at h))
        ])
        | inr s ↦ rw s (upward_resumed (leave M p) w p lt e f (to_others (waits_in_return p) M.suspended f m (not_returning (same f.name p))) on (rw (c, s) at h))
      ])
    ]
  where
    not_returning : (b : Bool) → b && f.returning ≡ false
    not_returning true = on
    not_returning false = refl

action_resumed : (M : Machine) (w : ℕ) (q : Frame) (d : List Frame) (a : Action) → w < length M.deques → (f : Frame) → In f M.suspended → f.returning ≡ false
    → has_frame f.name (after_action M w (q ∷ d) a).suspended ≡ false → has_child f.name (live (after_action M w (q ∷ d) a)) ≡ false
action_resumed M w q d return lt f m on h =
    elim (decided (has_child q.name (live M))) [ inl c ↦ absurd (stays_put (there {x = as_returning q} m) (rw c at h)) | inr c ↦ rw c (ends d (rw c at h)) ]
  where
    ends : (d : List Frame) → has_frame f.name (after_end M w q d).suspended ≡ false → has_child f.name (live (after_end M w q d)) ≡ false
    ends [] z = upward_resumed (with_deque M w []) w q.name (rw (length-set M.deques w []) lt) (get_or-set_same M.deques w [] [] lt) f m on z
    ends (g ∷ d) z = absurd (stays_put m z)
action_resumed M w q d spawn lt f m on h = absurd (stays_put m h)
action_resumed M w q d sync lt f m on h = absurd (stays_put (still_suspended M w q d sync (λ z. other_action z refl) f m) h)
action_resumed M w q d (read x) lt f m on h = absurd (stays_put m h)
action_resumed M w q d (write x v) lt f m on h = absurd (stays_put m h)
action_resumed M w q d (fold x v) lt f m on h = absurd (stays_put m h)

-- a frame that has not returned does not end
settles_stay : {L L' : List Frame} → Settles L L' → (f : Frame) → In f L → f.returning ≡ false → In f L'
settles_stay (settled p) f m on = In-perm p m
settles_stay (drops q R p e k) f m on = settles_stay k f (still p e m on) on

-- ---- a turn

not_child : (L : List Frame) (p r : Name) → has_child p L ≡ false → (f : Frame) → In f L → f.name ≡ r → is_child p r ≡ false
not_child L p [] h f m e = refl
not_child L p (k ∷ r) h f m e = same_differ (λ z. true≢false (sym (In-hasChild k p m (e ∙ ap (λ y. k ∷ y) z)) ∙ h))

-- what an accepted turn does, before the frames that end have ended
record Moves (M : Machine) (t : Turn) (cs : List Clock) (s : Name → ℕ) : Type 0 where
  frames : List Frame
  counts : Name → ℕ
  disjoint : Disjoint frames
  settles : Settles frames (live (after_turn M t))
  named : (n : Name) → In n (clock_names (turn_clocks M t cs)) → (f : Frame) × In f frames × (f.name ≡ n)
  waits : (c : Clock) → In c (turn_clocks M t cs) → c.waits ≡ true → (f : Frame) × In f frames × (f.name ≡ c.name) × (f.returning ≡ false)
      × (has_frame f.name (after_turn M t).suspended ≡ false → has_child f.name (live (after_turn M t)) ≡ false)
  counted-right : Counts counts frames
  same_ahead : (es : List Entry) → best is_empty (foretell s (turn_entry M t ++ es) [] cs) ≡ best is_empty (foretell counts es [] (turn_clocks M t cs))

moves : (M : Machine) (t : Turn) (C : Clocks) (s : Name → ℕ) → Passes M t → FrameTree M → DequeInvariant M → InPostOrder (live M) (clock_names C.clocks) → AtSync M C.clocks → Counts s (live M) → Moves M t C.clocks s
moves M (acting w a) C s pass tree dq o k count = record {
  frames = successors q a ++ R;
  counts = counted q a s;
  disjoint = disjoint_acted q a R c;
  settles = x.after;
  named = λ n m. acted_alive M w a ns x o.names n (subst (λ d. In n (bottom_names d a ns)) x.at (subst (λ l. In n l) (clock_names_turn M (acting w a) cs) m));
  waits = subst (λ z. (u : Clock) → In u (bottom_clocks M z a cs) → u.waits ≡ true → (f : Frame) × In f (successors q a ++ R) × (f.name ≡ u.name) × (f.returning ≡ false)
      × (has_frame f.name (after_action M w z a).suspended ≡ false → has_child f.name (live (after_action M w z a)) ≡ false)) (sym x.at) waiting_ones;
  counted-right = counts_acted q a R s c (λ f m. count f (In-perm (Permᴰ.symm x.before) m));
  same_ahead = subst (λ z. (es : List Entry) → best is_empty (foretell s (bottom_entry z a ++ es) [] cs) ≡ best is_empty (foretell (counted q a s) es [] (bottom_clocks M z a cs))) (sym x.at)
      (λ es. moved_same q busy s es (count q q_in) a [] cs (record {
        no_grandchild = refl;
        no_grandchildren = λ d m. (let y = alive d m in no_grand d.name y.0 y.1 y.2);
        alone = λ b. refl;
        alone_all = λ b d m. (let y = alive d m in not_child (live M) q.name d.name b y.0 y.1 y.2);
        unique = post_nodup ns o.post;
        fresh = fresh;
        own_awake = awake M w a C x tree dq o k;
      }));
}
  where
    cs : List Clock
    cs = C.clocks

    ns : List Name
    ns = clock_names cs

    x : Acts M w a
    x = acts M w a pass

    q : Frame
    q = x.actor

    R : List Frame
    R = x.above ++ rest M w

    busy : Bool
    busy = has_child q.name (live M)

    c : Disjoint (q ∷ R)
    c = disjoint_perm x.before tree.disjoint

    q_in : In q (live M)
    q_in = In-perm (Permᴰ.symm x.before) (here refl)

    alive : (d : Clock) → In d cs → (f : Frame) × In f (live M) × (f.name ≡ d.name)
    alive d m = o.names.alive d.name (In-map (λ (z : Clock). z.name) m)

    fresh : In (child q).name ns → ⊥
    fresh = child_new M w a ns x tree o.names

    no_grand : (r : Name) (f : Frame) → In f (live M) → f.name ≡ r → is_child (child q).name r ≡ false
    no_grand [] f m e = refl
    no_grand (j ∷ r) f m e = same_differ (λ z. let y = tree.rooted f m j r e in fresh (Memᴰ.cast (sym (y.2 ∙ z)) (o.names.all y.0 y.1)))

    waiting_ones : (u : Clock) → In u (clocks_moved q a busy cs) → u.waits ≡ true → (f : Frame) × In f (successors q a ++ R) × (f.name ≡ u.name) × (f.returning ≡ false)
        × (has_frame f.name (after_action M w (q ∷ x.above) a).suspended ≡ false → has_child f.name (live (after_action M w (q ∷ x.above) a)) ≡ false)
    waiting_ones u m t = elim (waits_from M w a C x tree dq o k u m t) [
      | inl y ↦ (
        y.0,
        In-right (successors q a) (In-right x.above (In-left (joined (set M.deques w [])) y.1)),
        y.2,
        y.3,
        action_resumed M w q x.above a x.worker y.0 y.1 y.3,
      )
      | inr z ↦ (
        q,
        In-left R (subst (λ b. In q (successors q b)) (sym z.0) (here refl)),
        sym z.2,
        dq.active w q (subst (λ l. In q l) (sym x.at) (here refl)),
        λ g. absurd (true≢false (sym (suspended_self M w q x.above a z.0 z.1) ∙ g)),
      )
    ]
moves M (stealing w v) C s pass tree dq o k count = record {
  frames = live M;
  counts = s;
  disjoint = tree.disjoint;
  settles = settled (steals M w v pass).same-frames;
  named = o.names.alive;
  waits = λ c m t. (let y = k.suspended c m t in (y.0, In-left (joined M.deques) y.1, y.2, y.3, λ z. absurd (stays_put y.1 z)));
  counted-right = count;
  same_ahead = λ es. refl;
}

-- ---- a run

none_clocked : (cs : List Clock) → NamesOf [] (clock_names cs) → cs ≡ []
none_clocked [] k = refl
none_clocked (c ∷ cs) k = absurd (not-in-nil (k.alive c.name (here refl)).1)

module _ (M : Machine) (t : Turn) (ss : List Step) (pass : Passes M t) (tree : FrameTree M) (dq : DequeInvariant M) (C : Clocks) (s : Name → ℕ) (o : InPostOrder (live M) (clock_names C.clocks)) (k : AtSync M C.clocks) (count : Counts s (live M))
    (over : live (run (after_turn M t) ss) ≡ []) where
  m : Moves M t C.clocks s
  m = moves M t C s pass tree dq o k count

  abbrev M' : Machine
  M' = after_turn M t

  abbrev cs₁ : List Clock
  cs₁ = turn_clocks M t C.clocks

  abbrev es : List Entry
  es = trace M' ss

  later : LiveRun M'.splitters M'.nodes M'.places (live M') es
  later = live-run _ _ _ M' ss refl refl refl (tree_turn M t pass tree) (deques_turn M t pass tree dq) over

  childless_of : (p : Name) → has_child p (live M') ≡ false → Childless M' p
  childless_of p h r e = let y = has_frame_In r (live M') e in not_child (live M') p r h y.0 y.1 y.2

  -- a child of a frame that is gone is gone
  childless_over : (p : Name) → has_frame p (live M') ≡ false → Childless M' p
  childless_over p h [] e = refl
  childless_over p h (j ∷ r) e = same_differ (λ z.
      let y = has_frame_In (j ∷ r) (live M') e in
      let g = (tree_turn M t pass tree).rooted y.0 y.1 j r y.2 in
      true≢false (sym (In-hasFrame p (live M') g.0 g.1 (g.2 ∙ z)) ∙ h))

  ready : (c : Clock) → In c cs₁ → Ready M' es c
  ready c i = record {
    over = λ h. (not_waiting h, silent m.disjoint (settles_in m.settles) later c.name (m.named c.name (In-map (λ (z : Clock). z.name) i)) h, childless_over c.name h);
    wakes = λ w h. (let y = m.waits c i w in childless_of c.name (subst (λ z. has_child z (live M') ≡ false) y.2 (y.4 (subst (λ z. has_frame z M'.suspended ≡ false) (sym y.2) h))));
  }
    where
      not_waiting : has_frame c.name (live M') ≡ false → c.waits ≡ false
      not_waiting h = elim (decided c.waits) [
        | inl w ↦ (let y = m.waits c i w in absurd (true≢false (sym (In-hasFrame c.name (live M') y.0 (settles_stay m.settles y.0 y.1 y.3) y.2) ∙ h)))
        | inr w ↦ w
      ]

  counts_after : Counts m.counts (live M')
  counts_after f i = m.counted-right f (settles_in m.settles f i)

  same_after : best is_empty (foretell s (turn_entry M t ++ es) [] C.clocks) ≡ max (best is_empty (foretell m.counts es [] (clocks_turned M C t).clocks)) (best is_empty (settle (live M') [] cs₁).1)
  same_after = m.same_ahead es ∙ settle-foretold M' m.counts es [] [] cs₁ (λ f i. absurd (not-in-nil i)) ready

pub span_run : (M : Machine) (ss : List Step) → FrameTree M → DequeInvariant M → (C : Clocks) (s : Name → ℕ) → InPostOrder (live M) (clock_names C.clocks) → AtSync M C.clocks → Counts s (live M) → live (run M ss) ≡ []
    → (run_clocks M C ss).span ≡ max C.span (best is_empty (foretell s (trace M ss) [] C.clocks))
span_run M [] tree dq C s o k count e =
    (let z : best is_empty (foretell s [] [] C.clocks) ≡ 0 = ap (λ cs. best is_empty (foretell s [] [] cs)) (none_clocked C.clocks (subst (λ L. NamesOf L (clock_names C.clocks)) e o.names)) in
    let x : C.span ≡ max C.span (best is_empty (foretell s [] [] C.clocks)) = omega (arith, z) in x)
span_run M (u ∷ ss) tree dq C s o k count e =
    elim (accepted_or_refused M u) [
      | inl a ↦ (let over = ap (λ N. live (run N ss)) (sym a.after) ∙ e in
          let t = turn_of u in
          let h = a.passes in
          ap₂ (λ N Z. (run_clocks N Z ss).span) a.after (clocks_accepted M C u a)
          ∙ span_run (after_turn M t) ss (tree_turn M t h tree) (deques_turn M t h tree dq) (clocks_turned M C t) (m M t ss h tree dq C s o k count over).counts (clocks_turn M t C h tree o) (at_sync_turn M t C h tree dq o k) (counts_after M t ss h tree dq C s o k count over) over
          ∙ joins C.span _ _ _ (same_after M t ss h tree dq C s o k count over)
          ∙ ap (λ z. max C.span (best is_empty (foretell s z [] C.clocks))) (sym (a.traced ss)))
      | inr r ↦ ap₂ (λ N Z. (run_clocks N Z ss).span) r.after (clocks_refused M C u r) ∙ span_run M ss tree dq C s o k count (ap (λ N. live (run N ss)) (sym r.after) ∙ e)
          ∙ ap (λ z. max C.span (best is_empty (foretell s z [] C.clocks))) (sym (r.traced ss))
    ]
  where
    joins : (a b c d : ℕ) → d ≡ max c b → max (max a b) c ≡ max a d
    joins a b c d e = omega (arith, e)
