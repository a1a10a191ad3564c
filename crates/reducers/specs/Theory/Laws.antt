-- The law of each reducer, by the shared argument, and of views: of the affine map for any join that acts as it should, so that this reads whatever join_affine is.
-- That join_affine does is shown where the law is asked for (`impl Monoid for Affine`), and in proofs/Theory/Laws.
use Rattle.std.specs.Prelude.{◌≡◌, ◌⊎◌, cond, ℕ, ◌≤◌, ◌<◌, ltb}
use Rattle.std.proofs.Common.{sym, ap, ◌∙◌, inl, inr, zero-mul, one-mul, mul-one, arith}
use Rattle.words.specs.Basics.{none, plus, times}
use Rattle.words.specs.Below.{cond_word}
use Rattle.words.specs.Tests.{decided, lt_of, ltb_of, nltb_of, ge_of}
use Rattle.reducers.specs.declared.Sum.{Sum}
use Rattle.reducers.specs.declared.Min.{Min}
use Rattle.reducers.specs.declared.Affine.{Affine}
use Rattle.reducers.specs.declared.View.{View}
use Rattle.reducers.specs.Reducers.{identity_sum, join_sum, identity_min, join_min, identity_affine, join_affine, identity_view, join_view}
use Rattle.reducers.specs.Law.{Law, SumWord, MinWord, AffineWord, ViewWord}
use Rattle.reducers.specs.Theory.Shared.{Action, law}
use Rattle.reducers.specs.Theory.Modulo.{plus_twice}

-- ---- 0, "the sum modulo 4,294,967,296"

abbrev pub act_sum : Sum → ℕ → ℕ
act_sum a x = plus x a.value

sum_eq : (a b : Sum) → a.value ≡ b.value → a ≡ b
sum_eq a b e = ap (λ (v : ℕ). record { value = v }) e

sum_action : Action Sum SumWord identity_sum join_sum act_sum
sum_action = record {
  identity_word = omega arith;
  join_word = λ a b p q. omega arith;
  act_word = λ a x p b. omega arith;
  act_identity = λ x b. omega arith;
  act_join = λ a b x. plus_twice 4294967296 x a.value b.value;
  same = λ a b p q h. sum_eq a b (omega (arith, h 0 (omega arith)));
}

pub sum_law : Law Sum SumWord identity_sum join_sum
sum_law = law sum_action

-- ---- 1, "the minimum"

abbrev lesser : ℕ → ℕ → ℕ
lesser a x = cond (ltb a x) a x

abbrev pub act_min : Min → ℕ → ℕ
act_min a x = lesser a.value x

lesser_first : {a x : ℕ} → a < x → lesser a x ≡ a
lesser_first h = rw (ltb_of h)

lesser_second : {a x : ℕ} → x ≤ a → lesser a x ≡ x
lesser_second h = rw (nltb_of h)

order : (a x : ℕ) → (a < x) ⊎ (x ≤ a)
order a x = elim (decided (ltb a x)) [ inl e ↦ inl (lt_of e) | inr e ↦ inr (ge_of e) ]

lesser_word : (a x : ℕ) → a < 4294967296 → x < 4294967296 → lesser a x < 4294967296
lesser_word a x p q = cond_word (ltb a x) a x p q

-- the lesser of x and a, then of that and b
lesser_twice : (a b x : ℕ) → lesser (lesser b a) x ≡ lesser b (lesser a x)
lesser_twice a b x = elim (order b a) [
  | inl p ↦ elim (order a x) [
    | inl q ↦ rw (lesser_first p, lesser_first q, lesser_first p) (lesser_first (omega arith))
    | inr q ↦ rw (lesser_first p, lesser_second q)
  ]
  | inr p ↦ elim (order a x) [
    | inl q ↦ rw (lesser_second p, lesser_first q) (sym (lesser_second p))
    | inr q ↦ rw (lesser_second p, lesser_second q) (sym (lesser_second (omega arith)))
  ]
]

min_eq : (a b : Min) → a.value ≡ b.value → a ≡ b
min_eq a b e = ap (λ (v : ℕ). record { value = v }) e

join_min_lem : (a b : Min) → (join_min a b).value ≡ lesser b.value a.value
join_min_lem a b = elim (decided (ltb b.value a.value)) [ inl e ↦ rw e | inr e ↦ rw e ]

-- of a word and the greatest word, the lesser is that word
lesser_greatest : (a : ℕ) → a < 4294967296 → lesser a none ≡ a
lesser_greatest a h = elim (order a none) [ inl p ↦ lesser_first p | inr p ↦ lesser_second p ∙ omega arith ]

min_action : Action Min MinWord identity_min join_min act_min
min_action = record {
  identity_word = omega arith;
  join_word = λ a b p q. rw (join_min_lem a b) (lesser_word b.value a.value q p);
  act_word = λ a x p b. lesser_word a.value x p b;
  act_identity = λ x b. lesser_second {a = none} (omega arith);
  act_join = λ a b x. rw (join_min_lem a b) (lesser_twice a.value b.value x);
  same = λ a b p q h. min_eq a b (sym (lesser_greatest a.value p) ∙ h none (omega arith) ∙ lesser_greatest b.value q);
}

pub min_law : Law Min MinWord identity_min join_min
min_law = law min_action

-- ---- 2, "the affine map, multiply then add, modulo 4,294,967,296, earlier map applied first"

abbrev pub act_affine : Affine → ℕ → ℕ
act_affine a x = plus (times x a.multiplier) a.addend

-- what it gives of 0 and of 1
at_zero : (m d : ℕ) → d < 4294967296 → plus (times 0 m) d ≡ d
at_zero m d h = rw (zero-mul m) (omega arith)

at_one : (m d : ℕ) → m < 4294967296 → plus (times 1 m) d ≡ plus m d
at_one m d h = rw (one-mul m) (omega arith)

identity_at : (x : ℕ) → x < 4294967296 → plus (times x 1) 0 ≡ x
identity_at x h = rw (mul-one x) (omega arith)

affine_eq : (a b : Affine) → a.multiplier ≡ b.multiplier → a.addend ≡ b.addend → a ≡ b
affine_eq a b e f = rw (e, f)

-- the addend is what it gives of 0, the multiplier what it gives of 1, less the addend
affine_same : (a b : Affine) → AffineWord a → AffineWord b → ((x : ℕ) → x < 4294967296 → act_affine a x ≡ act_affine b x) → a ≡ b
affine_same a b p q h = affine_eq a b multipliers addends
  where
    addends : a.addend ≡ b.addend
    addends = sym (at_zero a.multiplier a.addend p.1) ∙ h 0 (omega arith) ∙ at_zero b.multiplier b.addend q.1

    sums : plus a.multiplier a.addend ≡ plus b.multiplier b.addend
    sums = sym (at_one a.multiplier a.addend p.0) ∙ h 1 (omega arith) ∙ at_one b.multiplier b.addend q.0

    cancel : (m n d : ℕ) → m < 4294967296 → n < 4294967296 → d < 4294967296 → plus m d ≡ plus n d → m ≡ n
    cancel m n d p q r e = omega arith

    multipliers : a.multiplier ≡ b.multiplier
    multipliers = cancel a.multiplier b.multiplier b.addend p.0 q.0 q.1 (rw addends at sums)

pub times_word : (a b : ℕ) → times a b < 4294967296
times_word a b = omega arith

-- of any join that acts as its two maps one after the other, the earlier one first
pub affine_law_by : (join : Affine → Affine → Affine) → ((a b : Affine) → AffineWord (join a b)) → ((a b : Affine) (x : ℕ) → act_affine (join a b) x ≡ act_affine b (act_affine a x))
    → Law Affine AffineWord identity_affine join
affine_law_by join fits after = law {act = act_affine} (record {
  identity_word = (omega arith, omega arith);
  join_word = λ a b p q. fits a b;
  act_word = λ a x p b. omega arith;
  act_identity = identity_at;
  act_join = after;
  same = affine_same;
})

-- ---- views, one of each

pub view_eq : {a b : Sum} {c d : Min} {e f : Affine} → a ≡ b → c ≡ d → e ≡ f → ◌≡◌ {A = View} (record { sum = a; min = c; affine = e }) (record { sum = b; min = d; affine = f })
view_eq p q r = rw (p, q, r)

pub view_law_by : Law Affine AffineWord identity_affine join_affine → Law View ViewWord identity_view join_view
view_law_by affine_law = record {
  identity_word = (sum_law.identity_word, min_law.identity_word, affine_law.identity_word);
  join_word = λ a b p q. (
    sum_law.join_word a.sum b.sum p.0 q.0,
    min_law.join_word a.min b.min p.1 q.1,
    affine_law.join_word a.affine b.affine p.2 q.2,
  );
  left = λ a p. view_eq (sum_law.left a.sum p.0) (min_law.left a.min p.1) (affine_law.left a.affine p.2);
  right = λ a p. view_eq (sum_law.right a.sum p.0) (min_law.right a.min p.1) (affine_law.right a.affine p.2);
  grouping = λ a b c p q r. view_eq
      (sum_law.grouping a.sum b.sum c.sum p.0 q.0 r.0)
      (min_law.grouping a.min b.min c.min p.1 q.1 r.1)
      (affine_law.grouping a.affine b.affine c.affine p.2 q.2 r.2);
}
