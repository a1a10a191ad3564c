-- The next view after one: the parent's, if no younger sibling follows; else, down from the next sibling to the eldest child each
-- time, that of the frame which has no child.
use Rattle.std.specs.Prelude.{◌≡◌, refl, ◌≢◌, true, false, ℕ, ◌<◌, length}
use Rattle.std.proofs.Common.{sym, ap, ap₂, ◌∙◌, subst, inl, inr, arith}
use mathlib.Core.List.Memᴰ
use mathlib.Core.List.Memᴰ.{append_cases as In-cases}
use mathlib.Core.List.Memᴰ.{append_right as In-right}
use mathlib.Core.List.Memᴰ.{cases_cons as In-cons}
use mathlib.Core.List.Memᴰ.{head as here}
use mathlib.Core.List.Memᴰ.{map as In-map}
use mathlib.Core.List.Memᴰ.{not-nil as not-in-nil}
use mathlib.Core.List.Memᴰ.{tail as there}
use mathlib.Core.List.{Memᴰ as In}
use mathlib.Core.List.{List, [], ◌∷◌, ◌++◌, map, nil≢cons, head-eq_of_cons-eq, tail-eq_of_cons-eq}
use Rattle.std.proofs.lemmas.List.{length-map}
use Rattle.words.specs.Basics.{same}
use Rattle.words.specs.Tests.{true≢false, decided}
use Rattle.words.specs.Distinct.{same_eq, same_ne}
use Rattle.words.specs.NoDup.{length_le}
use Rattle.model.specs.Machine.{Name, Frame, is_child}
use Rattle.model.proofs.Theory.Filter.{filter-append, filter_none}
use Rattle.model.proofs.Theory.Under.{Under, under_same, under_trans, under_shorter, under_one, under_both, under_child}
use Rattle.model.proofs.Theory.Children.{is_child_short}
use Rattle.model.proofs.Theory.PostOrder.{UnderUntil, PostOrder, until_in, until_head, post_suffix, post_nodup, post_until, post_depth, InPostOrder}
use Rattle.model.proofs.Theory.Siblings.{children_of, child_of_lem, of_child, in_children, to_children, none_after, children_cons, children_skip}

-- ---- places in the list

-- none of the later names is one of the earlier or below it
pub later_apart : (xs zs : List Name) → PostOrder (xs ++ zs) → (a b : Name) → In a xs → In b zs → Under b a → ⊥
later_apart [] zs o a b i j u = not-in-nil i
later_apart (x ∷ xs) zs o a b i j u = elim (In-cons i) [ inl e ↦ o.0.after-below b (In-right xs j) (subst (Under b) e u) | inr h ↦ later_apart xs zs o.1 a b h j u ]

until_at : (c n : Name) (xs ys : List Name) → (In c xs → ⊥) → UnderUntil c (xs ++ (n ∷ ys)) → Under n c
until_at c n [] ys d u = until_head c n ys u
until_at c n (x ∷ xs) ys d (inl e) = absurd (d (here (sym e)))
until_at c n (x ∷ xs) ys d (inr u) = until_at c n xs ys (λ m. d (there m)) u.1

-- a name between one below c and c is below c
between : (c n r : Name) (xs ys : List Name) → PostOrder (xs ++ (n ∷ ys)) → (In c xs → ⊥) → In r xs → Under r c → Under n c
between c n r [] ys o d i u = absurd (not-in-nil i)
between c n r (x ∷ xs) ys o d i u =
    elim (In-cons i) [
      | inl e ↦ until_at c n (x ∷ xs) ys d (post_until c x (xs ++ (n ∷ ys)) o (subst (λ z. Under z c) e u))
      | inr h ↦ between c n r xs ys o.1 (λ m. d (there m)) h u
    ]

-- before a child of p stands none, if all there are below it
first-child : (j : ℕ) (p : Name) (ns : List Name) → UnderUntil (j ∷ p) ns → (js : List Name) × (children_of p ns ≡ (j ∷ p) ∷ js)
first-child j p [] u = elim u [ ]
first-child j p (n ∷ ns) u =
    elim (decided (is_child p n)) [
      | inl t ↦ (children_of p ns, children_cons p n ns t ∙ ap (λ z. z ∷ children_of p ns) (it (of_child p n t)))
      | inr t ↦ (let r = first-child j p ns (further t u) in (r.0, children_skip p n ns t ∙ r.1))
    ]
  where
    it : (k : ℕ) × (n ≡ k ∷ p) → n ≡ j ∷ p
    it k = under_one n n (j ∷ p) (ap length k.1) (under_same n) (until_head (j ∷ p) n ns u)

    further : is_child p n ≡ false → UnderUntil (j ∷ p) (n ∷ ns) → UnderUntil (j ∷ p) ns
    further t (inl e) = absurd (true≢false (sym (subst (λ z. is_child p z ≡ true) (sym e) (child_of_lem j p)) ∙ t))
    further t (inr v) = v.1

-- ---- n, a child of p, is followed by m

-- going down from y, each time to the eldest child, until there is none, leads to m
pub record EldestBelow (ns : List Name) (y m : Name) : Type 0 where
  pub under : Under m y
  pub childless : children_of m ns ≡ []
  pub way : (t : Name) → Under t y → Under m t → t ≢ m → (e : Name) × (es : List Name) × (children_of t ns ≡ e ∷ es) × Under m e

module _ (xs ys : List Name) (n m : Name) (k : ℕ) (p : Name) (named : n ≡ k ∷ p) (o : PostOrder (xs ++ (n ∷ m ∷ ys))) where
  from_n : PostOrder (n ∷ m ∷ ys)
  from_n = post_suffix xs (n ∷ m ∷ ys) o

  -- the next is the parent or below it
  pub next_under : Under m p
  next_under = until_head p m ys (from_n.0.to_parent k p named)

  later : (c : Name) → Under m c → UnderUntil c (m ∷ ys)
  later c u = post_until c m ys from_n.1 u

  -- no sibling follows: the parent is next
  pub next_parent : children_of p (m ∷ ys) ≡ [] → m ≡ p
  next_parent none =
      elim (decided (same m p)) [
        | inl t ↦ same_eq m p t
        | inr t ↦ (let j = under_child m p (same_ne t) next_under in absurd (not-in-nil (subst (λ l. In (j.0 ∷ p) l) none (to_children j.0 p (m ∷ ys) (until_in (j.0 ∷ p) (m ∷ ys) (later (j.0 ∷ p) j.1))))))
      ]

  module _ (y : Name) (js : List Name) (next : children_of p (m ∷ ys) ≡ y ∷ js) where
    not_parent : m ≢ p
    not_parent e = nil≢cons (sym (children_skip p m ys (is_child_short p m (omega (arith, ap length e))) ∙ ap (λ z. children_of z ys) (sym e) ∙ none_after m ys from_n.1) ∙ next)

    y_later : In y (m ∷ ys) × (j : ℕ) × (y ≡ j ∷ p)
    y_later = in_children p y (m ∷ ys) (subst (λ l. In y l) (sym next) (here refl))

    under_sibling : Under m y
    under_sibling =
        let j = under_child m p not_parent next_under in
        let r = first-child j.0 p (m ∷ ys) (later (j.0 ∷ p) j.1) in
        subst (Under m) (head-eq_of_cons-eq (sym r.1 ∙ next)) j.1

    -- n is not below m
    apart : Under n m → ⊥
    apart u = by_name (subst (λ z. Under z m) named u)
      where
        by_name : Under (k ∷ p) m → ⊥
        by_name (inl e) = from_n.0.after-below m (here refl) (subst (Under m) (sym (named ∙ e)) (under_same m))
        by_name (inr v) = not_parent (under_both m p next_under v)

    no_child : (j : ℕ) (r : Name) → r ≡ j ∷ m → In r (xs ++ (n ∷ m ∷ ys)) → ⊥
    no_child j r e i = elim (In-cases xs i) [
      | inl h ↦ apart (between m n r xs (m ∷ ys) o (λ g. later_apart xs (n ∷ m ∷ ys) o m m g (there (here refl)) (under_same m)) h below)
      | inr h ↦ elim (In-cons h) [
        | inl d ↦ not_parent (sym (tail-eq_of_cons-eq (sym named ∙ sym d ∙ e)))
        | inr g ↦ elim (In-cons g) [ inl d ↦ omega (arith, ap length (sym d ∙ e)) | inr f ↦ from_n.1.0.after-below r f below ]
      ]
    ]
      where
        below : Under r m
        below = subst (λ z. Under z m) (sym e) (inr (under_same m))

    same_length : length n ≡ length y
    same_length = ap length named ∙ sym (ap length y_later.2)

    -- no child of one under y comes before m
    none_before : (t : Name) → Under t y → Under m t → children_of t xs ≡ []
    none_before t ty mt =
        filter_none (is_child t) xs (λ r i. elim (decided (is_child t r)) [
          | inl b ↦ (let j = of_child t r b in
              absurd (not_y (between t n r xs (m ∷ ys) o (λ g. later_apart xs (n ∷ m ∷ ys) o t t g (there (until_in t (m ∷ ys) (later t mt))) (under_same t)) i (subst (λ z. Under z t) (sym j.1) (inr (under_same t))))))
          | inr b ↦ b
        ])
      where
        not_y : Under n t → ⊥
        not_y u = from_n.0.after-below y y_later.0 (subst (Under y) (sym (under_one n n y same_length (under_same n) (under_trans n t y u ty))) (under_same y))

    first_down : (t : Name) → Under t y → Under m t → t ≢ m → (e : Name) × (es : List Name) × (children_of t (xs ++ (n ∷ m ∷ ys)) ≡ e ∷ es) × Under m e
    first_down t ty mt d =
        let j = under_child m t (λ e. d (sym e)) mt in
        let r = first-child j.0 t (m ∷ ys) (later (j.0 ∷ t) j.1) in
        (j.0 ∷ t, r.0, filter-append (is_child t) xs (n ∷ m ∷ ys) ∙ ap₂ ◌++◌ (none_before t ty mt) (children_skip t n (m ∷ ys) (is_child_short t n (omega (arith, same_length, under_shorter t y ty))) ∙ r.1), j.1)

    -- the next is on the next sibling's side
    pub next-eldest : EldestBelow (xs ++ (n ∷ m ∷ ys)) y m
    next-eldest = record {
      under = under_sibling;
      childless = filter_none (is_child m) (xs ++ (n ∷ m ∷ ys)) (λ r i. elim (decided (is_child m r)) [ inl b ↦ (let j = of_child m r b in absurd (no_child j.0 r j.1 i)) | inr b ↦ b ]);
      way = first_down;
    }

-- ---- how deep it is

pub live-depth : (L : List Frame) (ns : List Name) → InPostOrder L ns → (n : Name) → In n ns → length n < length L
live-depth L ns o n m = omega (arith, post_depth ns o.post n m, length-map L (λ f. f.name), length_le ns (map (λ f. f.name) L) (post_nodup ns o.post) within)
  where
    within : (r : Name) → In r ns → In r (map (λ f. f.name) L)
    within r i = let f = o.names.alive r i in Memᴰ.cast (sym f.2) (In-map (λ (g : Frame). g.name) f.1)
