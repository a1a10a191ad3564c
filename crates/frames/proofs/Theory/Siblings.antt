-- The links between siblings: the list of a frame's live children, the chain that soundness asks for, the eldest of them. A frame table is looked
-- at through frame_at only.
use Rattle.std.specs.Prelude.{◌≡◌, refl, ◌↔◌, Bool, true, false, cond, ◌||◌, List, [], ◌∷◌, ◌++◌, ℕ, zero, suc, ◌+◌, ◌*◌, ◌%◌, ◌^◌, ◌≤◌, ◌<◌, eqb, length}
use Rattle.std.proofs.Common.{sym, ap, ◌∙◌, subst, inl, inr, add_assoc, arith, eq-eqb, eqb-true, length-append}
use Rattle.std.proofs.Math.Nat.{mod-add-mod}
use Rattle.std.proofs.Math.Decide.{ℕ_discrete}
use Rattle.words.specs.Basics.{none, sum, some, how_many, Chain, count, follow}
use Rattle.words.specs.Counting.{sum_cong, hit, miss, hit_le, when, when_zero, when_pos, how_many_zero, δ_same, δ_other, δ_eq, count_nil, count_cons, count-append}
use Rattle.words.specs.Tests.{decided, true≢false, both, ltb_of}
use Rattle.words.specs.Loops.{count-sum}
use Rattle.words.specs.Tallies.{either, or_left, or_right, some_at, some_of, how_many_unique, total-sum}
use Rattle.words.specs.Chains.{chain_start}
use Rattle.words.specs.Followed.{Listed, chain_listed, listed_all}
use Rattle.words.specs.Linked.{ahead, parted, chain_below, follow_chain, chain_in, chain_from_lem, chain_moved, chain_ahead, chain_unique}
use Rattle.frames.specs.declared.Frame.{Frame}
use Rattle.frames.specs.Widths.{max_places}
use Rattle.frames.specs.Frames.{frame_at}
use Rattle.frames.specs.Siblings.{head_or, live_child, younger, names, chained, Children, eldest_to, eldest}

-- ---- numbers

at_most : {a b : ℕ} → a ≡ b → b ≤ a
at_most e = omega arith

not_one : {a b : ℕ} → suc (suc a) ≡ b → b ≡ 1 → ⊥
not_one d e = omega arith

not_none : {b : ℕ} → 0 ≡ b → b ≡ 1 → ⊥
not_none d e = omega arith

-- ---- lists of children

-- how many live children
abbrev pub live_children : List Frame → ℕ → ℕ
live_children fs q = how_many (length fs) (live_child fs q)

-- a chain starts with its first element
pub chain_first : (next : ℕ → ℕ) (N a : ℕ) (xs : List ℕ) → Chain next N a xs → a ≡ head_or none xs
chain_first next N a [] ch = ch
chain_first next N a (x ∷ xs) ch = ch.0

-- the links from a on
abbrev pub Linked : List Frame → ℕ → List ℕ → Type 0
Linked fs a cs = Chain (younger fs) (length fs) a cs

-- ---- single children

module _ {fs : List Frame} {q : ℕ} {cs : List ℕ} (s : Children fs q cs) where
  -- one of them
  pub children_in : (c : ℕ) → 0 < count c cs → (c < length fs) × (live_child fs q c ≡ true)
  children_in c h =
      let b = chain_in (younger fs) (length fs) (head_or none cs) cs s.chain c h in
      (b, elim (decided (live_child fs q c)) [ inl e ↦ e | inr e ↦ absurd (omega (arith, s.each c b, miss e)) ])

  pub children_has : (c : ℕ) → c < length fs → live_child fs q c ≡ true → count c cs ≡ 1
  children_has c b e = s.each c b ∙ hit e

  pub children-lacks : (c : ℕ) → c < length fs → live_child fs q c ≡ false → count c cs ≡ 0
  children-lacks c b e = s.each c b ∙ miss e

  pub children_once : (c : ℕ) → count c cs ≤ 1
  children_once c = elim (ℕ_discrete (count c cs) 0) [
    | yes e ↦ omega arith
    | no e ↦ (let r = children_in c (omega arith) in omega (arith, children_has c r.0 r.1))
  ]

  pub children-length : length cs ≡ live_children fs q
  children-length =
      sym (count-sum (length fs) cs (chain_below (younger fs) (length fs) (head_or none cs) cs s.chain))
      ∙ sum_cong (length fs) (λ c. count c cs) (λ c. cond (live_child fs q c) 1 0) s.each

pub child_parent : (fs : List Frame) (q c : ℕ) → live_child fs q c ≡ true → (frame_at fs c).parent ≡ q
child_parent fs q c e = eqb-true (frame_at fs c).parent q (both (eqb (frame_at fs c).live 1) (eqb (frame_at fs c).parent q) e).1

-- an element names the next, and the last names none
pub children-next : {fs : List Frame} {q : ℕ} (xs : List ℕ) (c : ℕ) (ys : List ℕ) → Children fs q (xs ++ (c ∷ ys)) → younger fs c ≡ head_or none ys
children-next {fs} xs c ys s =
    chain_first (younger fs) (length fs) (younger fs c) ys (chain_from_lem (younger fs) (length fs) (head_or none (xs ++ (c ∷ ys))) xs c ys s.chain)

pub children_at : {fs : List Frame} {q : ℕ} (xs : List ℕ) (c : ℕ) (ys : List ℕ) → Children fs q (xs ++ (c ∷ ys)) → (c < length fs) × (live_child fs q c ≡ true)
children_at xs c ys s = children_in s c (omega (arith, count-append c xs (c ∷ ys), count_cons c c ys, δ_same c))

-- ---- two children name different ones

longer : (xs : List ℕ) (d : ℕ) (ys zs : List ℕ) → zs ≡ xs ++ (d ∷ ys) → zs ≡ ys → ⊥
longer xs d ys zs e z = omega (arith, ap length e ∙ length-append xs (d ∷ ys), ap length z)

module _ (next : ℕ → ℕ) (N : ℕ) (few : N ≤ none) where
  -- a later element does not name what the first one names: the rest of the chain would be the same from there
  first_apart : (x : ℕ) (xs : List ℕ) → Chain next N (next x) xs → (d : ℕ) → 0 < count d xs → next x ≡ next d → ⊥
  first_apart x xs ch d h e =
      let r = parted d xs h in
      let rest = chain_from_lem next N (next x) r.0 d r.1 (subst (Chain next N (next x)) r.2 ch) in
      longer r.0 d r.1 xs r.2 (chain_unique next N few (next x) xs r.1 ch (chain_moved next N r.1 (sym e) rest))

  chain_injective : (a : ℕ) (xs : List ℕ) → Chain next N a xs → (c d : ℕ) → 0 < count c xs → 0 < count d xs → next c ≡ next d → c ≡ d
  chain_injective a [] ch c d h k e = absurd (omega (arith, count_nil c))
  chain_injective a (x ∷ xs) ch c d h k e = elim (ℕ_discrete c x) [
    | yes u ↦ elim (ℕ_discrete d x) [
      | yes v ↦ u ∙ sym v
      | no v ↦ absurd (first_apart x xs ch.2 d (omega (arith, count_cons d x xs, δ_other d x v)) (ap next (sym u) ∙ e))
    ]
    | no u ↦ elim (ℕ_discrete d x) [
      | yes v ↦ absurd (first_apart x xs ch.2 c (omega (arith, count_cons c x xs, δ_other c x u)) (ap next (sym v) ∙ sym e))
      | no v ↦ chain_injective (next x) xs ch.2 c d (omega (arith, count_cons c x xs, δ_other c x u)) (omega (arith, count_cons d x xs, δ_other d x v)) e
    ]
  ]

module _ {fs : List Frame} {q : ℕ} {cs : List ℕ} (s : Children fs q cs) where
  pub children_injective : (c d : ℕ) → c < length fs → d < length fs → live_child fs q c ≡ true → live_child fs q d ≡ true → younger fs c ≡ younger fs d → c ≡ d
  children_injective c d b k t u e =
      chain_injective (younger fs) (length fs) (omega (arith, s.few)) (head_or none cs) cs s.chain c d (omega (arith, children_has s c b t)) (omega (arith, children_has s d k u)) e

  -- so one of them at most names x
  pub named_once : (x c d : ℕ) → c < length fs → d < length fs → names fs q x c ≡ true → names fs q x d ≡ true → c ≡ d
  named_once x c d b k t u =
      let p = both (live_child fs q c) (eqb (younger fs c) x) t in
      let r = both (live_child fs q d) (eqb (younger fs d) x) u in
      children_injective c d b k p.0 r.0 (eqb-true (younger fs c) x p.1 ∙ sym (eqb-true (younger fs d) x r.1))

-- ---- the chain that soundness asks for

linked-chained : (fs : List Frame) (q a : ℕ) (cs : List ℕ) → ((c : ℕ) → 0 < count c cs → live_child fs q c ≡ true) → Linked fs a cs → chained (length cs) fs q a ≡ true
unfolding chained
linked-chained fs q a [] h ch = eq-eqb a none ch
linked-chained fs q a (c ∷ cs) h ch =
    rw (ch.0, ltb_of ch.1, h c (omega (arith, count_cons c c cs, δ_same c)))
    (linked-chained fs q (younger fs c) cs (λ x o. h x (omega (arith, count_cons x c cs))) ch.2)

pub children-chained : {fs : List Frame} {q : ℕ} {cs : List ℕ} → Children fs q cs → (length cs ≡ live_children fs q) × (chained (length cs) fs q (head_or none cs) ≡ true)
children-chained {fs} {q} {cs} s = (children-length s, linked-chained fs q (head_or none cs) cs (λ c o. (children_in s c o).1) s.chain)

-- k different live children are all of them
pub chained-children : (k : ℕ) (fs : List Frame) (q c : ℕ) → length fs ≤ max_places → chained k fs q c ≡ true → k ≡ live_children fs q → (cs : List ℕ) × Children fs q cs × (head_or none cs ≡ c)
unfolding chained
chained-children k fs q c few e d = (cs, record { few = few; chain = chain_moved (younger fs) (length fs) cs start ch; each = each }, sym start)
  where
    cs : List ℕ
    cs = follow (suc k) (younger fs) c

    listed : Listed (length fs) (live_child fs q) k cs
    listed = chain_listed (length fs) (younger fs) (live_child fs q) (λ j a. chained j fs q a) (omega (arith, few)) (λ a. refl) (λ j a. refl) k k c (omega arith) e

    ch : Linked fs c cs
    ch = follow_chain (younger fs) (length fs) (suc k) c (omega (arith, listed.size)) listed.within

    start : c ≡ head_or none cs
    start = chain_first (younger fs) (length fs) c cs ch

    each : (x : ℕ) → x < length fs → count x cs ≡ cond (live_child fs q x) 1 0
    each = listed_all (length fs) (live_child fs q) k cs (λ x. cond (live_child fs q x) 1 0) (λ x t. hit t) (at_most d) listed

-- ---- the eldest

-- twice in a word, and once
in_word : (s n r : ℕ) → ((s % 2 ^ 32 + n) % 2 ^ 32 + r) % 2 ^ 32 ≡ (s + (n + r)) % 2 ^ 32
in_word s n r = rw (mod-add-mod (s % 2 ^ 32 + n) (2 ^ 32) r, add_assoc, mod-add-mod)

eldest-sum : (n : ℕ) (fs : List Frame) (q : ℕ) → eldest_to n fs q ≡ (none + sum n (λ c. cond (live_child fs q c) (ahead (younger fs) c) 0)) % 2 ^ 32
unfolding eldest_to
eldest-sum zero fs q = refl
eldest-sum (suc n) fs q =
    let s : ℕ = none + sum n (λ c. cond (live_child fs q c) (ahead (younger fs) c) 0) in
    elim (decided (live_child fs q n)) [
      | inl e ↦ rw (e, eldest-sum n fs q) (in_word s n _ ∙ ap (λ x. x % 2 ^ 32) (add_assoc none _ _))
      | inr e ↦ rw e (eldest-sum n fs q ∙ ap (λ x. x % 2 ^ 32) (omega arith))
    ]

left_over : {s t a : ℕ} (l : ℕ) → s ≡ t → t + none ≡ a + l * 2 ^ 32 → a < 2 ^ 32 → (none + s) % 2 ^ 32 ≡ a
left_over l d e h = omega arith

-- what is left of that sum where the links chain the numbers that pass the test: the first of them
sum-ahead : (N : ℕ) (next : ℕ → ℕ) (test : ℕ → Bool) (a : ℕ) (cs : List ℕ) → N ≤ none → Chain next N a cs → ((c : ℕ) → c < N → count c cs ≡ cond (test c) 1 0) →
    (none + sum N (λ c. cond (test c) (ahead next c) 0)) % 2 ^ 32 ≡ a
sum-ahead N next test a cs few ch each = left_over (length cs) (sum_cong N _ (λ c. when (count c cs) (ahead next c)) counted ∙ sym (total-sum N (ahead next) cs (chain_below next N a cs ch) once)) (chain_ahead next N few a cs ch) small
  where
    counted : (c : ℕ) → c < N → cond (test c) (ahead next c) 0 ≡ when (count c cs) (ahead next c)
    counted c b = elim (decided (test c)) [
      | inl e ↦ rw e (sym (when_pos (count c cs) (ahead next c) (omega (arith, each c b, hit e))))
      | inr e ↦ rw e (sym (when_zero (count c cs) (ahead next c) (each c b ∙ miss e)))
    ]

    once : (c : ℕ) → c < N → count c cs ≤ 1
    once c b = omega (arith, each c b, hit_le (test c))

    small : a < 2 ^ 32
    small = elim (chain_start N next a cs ch) [ inl h ↦ omega arith | inr h ↦ omega arith ]

-- the first of them, and none if there is none
pub eldest_is : {fs : List Frame} {q : ℕ} {cs : List ℕ} → Children fs q cs → eldest fs q ≡ head_or none cs
eldest_is {fs} {q} {cs} s = eldest-sum (length fs) fs q ∙ sum-ahead (length fs) (younger fs) (live_child fs q) (head_or none cs) cs (omega (arith, s.few)) s.chain s.each

-- so there is one list of them
pub children_unique : {fs : List Frame} {q : ℕ} {cs ds : List ℕ} → Children fs q cs → Children fs q ds → cs ≡ ds
children_unique {fs} {cs = cs} {ds = ds} s t =
    chain_unique (younger fs) (length fs) (omega (arith, s.few)) (head_or none cs) cs ds s.chain (chain_moved (younger fs) (length fs) ds (sym (eldest_is t) ∙ eldest_is s) t.chain)

-- ---- no child, an only child

pub no_child : (fs : List Frame) (q : ℕ) → live_children fs q ≡ 0 → (c : ℕ) → c < length fs → live_child fs q c ≡ true → ⊥
no_child fs q e c b h = true≢false (sym h ∙ how_many_zero (length fs) (live_child fs q) e c b)

pub one_child_lem : (fs : List Frame) (q : ℕ) → live_children fs q ≡ 1 → (p c : ℕ) → p < length fs → c < length fs → live_child fs q p ≡ true → live_child fs q c ≡ true → c ≡ p
one_child_lem fs q e p c b d h k = how_many_unique (length fs) c p (live_child fs q) (at_most (sym e)) d b k h

pub children_empty : (fs : List Frame) (q : ℕ) → length fs ≤ max_places → live_children fs q ≡ 0 → Children fs q []
children_empty fs q few e = record { few = few; chain = refl; each = λ c b. count_nil c ∙ sym (miss (how_many_zero (length fs) (live_child fs q) e c b)) }

pub children-none : {fs : List Frame} {q : ℕ} {cs : List ℕ} → Children fs q cs → live_children fs q ≡ 0 → cs ≡ []
children-none {fs} {q} s e = children_unique s (children_empty fs q s.few e)

pub children_only : {fs : List Frame} {q : ℕ} {cs : List ℕ} → Children fs q cs → live_children fs q ≡ 1 → (p : ℕ) → p < length fs → live_child fs q p ≡ true → cs ≡ p ∷ []
children_only {cs = []} s e p b h = absurd (not_none (children-length s) e)
children_only {cs = c ∷ d ∷ cs} s e p b h = absurd (not_one (children-length s) e)
children_only {cs = c ∷ []} s e p b h = ap (λ (x : ℕ). x ∷ []) (sym (δ_eq p c (omega (arith, children_has s p b h, count_cons p c [], count_nil p))))

-- ---- soundness: "these links chain the live children of each frame, each once"

pub linked_is : (fs : List Frame) (q : ℕ) → length fs ≤ max_places → (eqb (live_children fs q) 0 || some (length fs) (chained (live_children fs q) fs q) ≡ true) ↔ ((cs : List ℕ) × Children fs q cs)
linked_is fs q few = (to, λ r. from r.0 r.1)
  where
    to : eqb (live_children fs q) 0 || some (length fs) (chained (live_children fs q) fs q) ≡ true → (cs : List ℕ) × Children fs q cs
    to e = elim (either (eqb (live_children fs q) 0) (some (length fs) (chained (live_children fs q) fs q)) e) [
      | inl z ↦ ([], children_empty fs q few (eqb-true (live_children fs q) 0 z))
      | inr z ↦ (
          let r = some_at (length fs) (chained (live_children fs q) fs q) z in
          let w = chained-children (live_children fs q) fs q r.0 few r.2 refl in
          (w.0, w.1))
    ]

    from : (cs : List ℕ) → Children fs q cs → eqb (live_children fs q) 0 || some (length fs) (chained (live_children fs q) fs q) ≡ true
    from [] s = or_left _ (eq-eqb (live_children fs q) 0 (sym (children-length s)))
    from (c ∷ cs) s =
        let e : chained (live_children fs q) fs q c ≡ true = ap (λ k. chained k fs q c) (sym (children-length s)) ∙ (children-chained s).1 in
        or_right (eqb (live_children fs q) 0) (some_of (length fs) (chained (live_children fs q) fs q) c s.chain.1 e)
