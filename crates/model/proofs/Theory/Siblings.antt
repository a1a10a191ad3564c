-- The children of a frame, in the order of the views: a spawned child is the last of them.
use Rattle.std.specs.Prelude.{◌≡◌, refl, ◌≢◌, true, false, cond, List, [], ◌∷◌, ◌++◌, ℕ, suc, length}
use Rattle.std.proofs.Common.{sym, ap, ◌∙◌, subst, inl, inr, arith}
use mathlib.Core.List.Memᴰ.{cases_cons as In-cons}
use mathlib.Core.List.Memᴰ.{not-nil as not-in-nil}
use mathlib.Core.List.{Memᴰ as In}
use Rattle.words.specs.Basics.{same}
use Rattle.words.specs.Tests.{true≢false, decided}
use Rattle.words.specs.Distinct.{same_eq, same_ne, same_refl, same_differ}
use Rattle.model.specs.Machine.{Name, Frame, is_child, has_child, has_frame}
use Rattle.model.specs.Steps.{spawn, child}
use Rattle.model.proofs.Theory.Filter.{filter, in_filter, to_filter, filter-append, filter_none, filter_twice}
use Rattle.model.proofs.Theory.Under.{Under, under_same}
use Rattle.model.proofs.Theory.Children.{In-hasChild, has_child_In, is_child_short}
use Rattle.model.proofs.Theory.ViewNames.{names_acted, live_names, NamesOf}
use Rattle.model.proofs.Theory.PostOrder.{PostOrder}

-- "siblings eldest first"
abbrev pub children_of : Name → List Name → List Name
children_of p ns = filter (is_child p) ns

pub child_of_lem : (k : ℕ) (p : Name) → is_child p (k ∷ p) ≡ true
child_of_lem k p = same_refl p

pub of_child : (p n : Name) → is_child p n ≡ true → (k : ℕ) × (n ≡ k ∷ p)
of_child p [] e = absurd (true≢false (sym e))
of_child p (k ∷ r) e = (k, ap (λ z. k ∷ z) (same_eq r p e))

pub in_children : (p n : Name) (ns : List Name) → In n (children_of p ns) → In n ns × (k : ℕ) × (n ≡ k ∷ p)
in_children p n ns m = let r = in_filter (is_child p) ns n m in let x = of_child p n r.1 in (r.0, x.0, x.1)

pub to_children : (k : ℕ) (p : Name) (ns : List Name) → In (k ∷ p) ns → In (k ∷ p) (children_of p ns)
to_children k p ns m = to_filter (is_child p) ns (k ∷ p) m (child_of_lem k p)

-- ---- no child lives

pub no_children : (L : List Frame) (ns : List Name) (p : Name) → NamesOf L ns → has_child p L ≡ false → children_of p ns ≡ []
no_children L ns p o h =
    filter_none (is_child p) ns (λ n m. elim (decided (is_child p n)) [
      | inl t ↦ (let k = of_child p n t in let f = o.alive n m in absurd (true≢false (sym (In-hasChild k.0 p f.1 (f.2 ∙ k.1)) ∙ h)))
      | inr t ↦ t
    ])

pub none-lives : (L : List Frame) (ns : List Name) (p : Name) → NamesOf L ns → children_of p ns ≡ [] → has_child p L ≡ false
none-lives L ns p o e =
    elim (decided (has_child p L)) [
      | inl t ↦ (let x = has_child_In p L t in absurd (not-in-nil (subst (λ l. In (x.2 ∷ p) l) e (to_children x.2 p ns (subst (λ n. In n ns) x.3 (o.all x.0 x.1))))))
      | inr t ↦ t
    ]

-- ---- a spawn of q

-- none follows its parent
pub none_after : (p : Name) (ns : List Name) → PostOrder (p ∷ ns) → children_of p ns ≡ []
none_after p ns o =
    filter_none (is_child p) ns (λ n m. elim (decided (is_child p n)) [
      | inl t ↦ (let k = of_child p n t in absurd (o.0.after-below n m (subst (λ z. Under z p) (sym k.1) (inr (under_same p)))))
      | inr t ↦ t
    ])

-- one that is a child, or is none, before the others
pub children_cons : (p n : Name) (ns : List Name) → is_child p n ≡ true → children_of p (n ∷ ns) ≡ n ∷ children_of p ns
children_cons p n ns t = rw t

pub children_skip : (p n : Name) (ns : List Name) → is_child p n ≡ false → children_of p (n ∷ ns) ≡ children_of p ns
children_skip p n ns t = rw t

-- the child is the last of q's children
pub children-spawn : (q : Frame) (ns : List Name) → PostOrder ns → In q.name ns → children_of q.name (names_acted q spawn ns) ≡ children_of q.name ns ++ ((child q).name ∷ [])
children-spawn q [] o m = absurd (not-in-nil m)
children-spawn q (n ∷ ns) o m =
    elim (decided (same n q.name)) [
      | inl t ↦ rw t (children_cons q.name c (n ∷ ns) (child_of_lem (suc q.spawned) q.name) ∙ ap (λ z. c ∷ z) (none t) ∙ sym (ap (λ z. z ++ (c ∷ [])) (none t)))
      | inr t ↦ rw t (elim (decided (is_child q.name n)) [
        | inl b ↦ rw b (ap (λ z. n ∷ z) (children-spawn q ns o.1 (later t)))
        | inr b ↦ rw b (children-spawn q ns o.1 (later t))
      ])
    ]
  where
    c : Name
    c = (child q).name

    later : same n q.name ≡ false → In q.name ns
    later t = elim (In-cons m) [ inl e ↦ absurd (same_ne t (sym e)) | inr i ↦ i ]

    none : same n q.name ≡ true → children_of q.name (n ∷ ns) ≡ []
    none t =
        let e = same_eq n q.name t in
        children_skip q.name n ns (is_child_short q.name n (omega (arith, ap length e))) ∙ ap (λ p. children_of p ns) (sym e) ∙ none_after n ns o

-- those of others are the same
pub children_other : (q : Frame) (p : Name) (ns : List Name) → p ≢ q.name → children_of p (names_acted q spawn ns) ≡ children_of p ns
children_other q p [] d = refl
children_other q p (n ∷ ns) d =
    elim (decided (same n q.name)) [
      | inl t ↦ rw t (children_skip p (child q).name (n ∷ ns) (same_differ (λ e. d (sym e))))
      | inr t ↦ rw t (ap (λ z. cond (is_child p n) (n ∷ z) z) (children_other q p ns d))
    ]

-- ---- n, one of the names, goes

pub children_gone : (p : Name) (xs ys : List Name) → children_of p (xs ++ ys) ≡ children_of p xs ++ children_of p ys
children_gone p xs ys = filter-append (is_child p) xs ys

-- from its parent's children
pub children_with : (k : ℕ) (p : Name) (xs ys : List Name) → children_of p (xs ++ ((k ∷ p) ∷ ys)) ≡ children_of p xs ++ ((k ∷ p) ∷ children_of p ys)
children_with k p xs ys = filter-append (is_child p) xs ((k ∷ p) ∷ ys) ∙ ap (λ z. children_of p xs ++ z) (children_cons p (k ∷ p) ys (child_of_lem k p))

-- and from no others'
pub children_kept : (p n : Name) (xs ys : List Name) → is_child p n ≡ false → children_of p (xs ++ (n ∷ ys)) ≡ children_of p (xs ++ ys)
children_kept p n xs ys t = filter-append (is_child p) xs (n ∷ ys) ∙ ap (λ z. children_of p xs ++ z) (children_skip p n ys t) ∙ sym (filter-append (is_child p) xs ys)

-- several at once
pub children-live : (L : List Frame) (p : Name) (ns : List Name) → children_of p (live_names L ns) ≡ live_names L (children_of p ns)
children-live L p ns = filter_twice (is_child p) (λ n. has_frame n L) ns
