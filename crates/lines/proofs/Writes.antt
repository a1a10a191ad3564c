-- What an output holds after one write, and after one write and another.
use Rattle.std.specs.Prelude.{◌≡◌, refl, List, [], ◌∷◌, ◌++◌, ℕ, suc, ◌+◌, ◌-◌, ◌/◌, ◌≤◌, ◌<◌, length, take, drop, get_or, map, flat_map}
use Rattle.std.proofs.Common.{sym, ap, ◌∙◌, arith, append_assoc, length-append, take_all}
use Rattle.std.proofs.lemmas.List.{take_more, flat_map_more}
use Rattle.lines.specs.declared.text.Output.{Output}
use Rattle.lines.specs.Lines.{digit, decimal, line, spaced}
use Rattle.lines.specs.Output.{store_all, Writes, WritesUpTo}
use Rattle.lines.proofs.Theory.{stores_then}
use Rattle.lines.proofs.Numbers.{decimal_one, decimal_more}

pub writes_nothing : (o : Output) → Writes o [] o
unfolding store_all
writes_nothing o = record { same = refl; stored = refl }

pub writes_then : {o m p : Output} {xs ys : List ℕ} → Writes o xs m → Writes m ys p → Writes o (xs ++ ys) p
writes_then {o} {m} {p} {xs} {ys} e f = record { same = f.same ∙ e.same; stored = stores_then _ _ xs ys e.stored f.stored }

pub writes_same : {o p : Output} {xs ys : List ℕ} → xs ≡ ys → Writes o xs p → Writes o ys p
writes_same {o} {p} e w = record { same = w.same; stored = w.stored ∙ ap (λ (bs : List ℕ). store_all (o.bytes.now, o.at) bs) e }

pub up_to_then : {a b : ℕ} {o m p : Output} {xs ys : List ℕ} → WritesUpTo a o xs m → WritesUpTo b m ys p → WritesUpTo (a + b) o (xs ++ ys) p
up_to_then {xs = xs} {ys} e f = (writes_then e.0 f.0, omega (arith, e.1, f.1, length-append xs ys))

pub up_to_same : {most : ℕ} {o p : Output} {xs ys : List ℕ} → xs ≡ ys → WritesUpTo most o xs p → WritesUpTo most o ys p
up_to_same e w = (writes_same e w.0, omega (arith, w.1, ap length e))

pub more_room : {a b : ℕ} {o p : Output} {bs : List ℕ} → a ≤ b → WritesUpTo a o bs p → WritesUpTo b o bs p
more_room h w = (w.0, omega (arith, w.1))

-- ---- the turns of loops

pub bytes_turn : {o m p : Output} (bs : List ℕ) (i : ℕ) → i < length bs → Writes o (take i bs) m → Writes m (get_or bs i 0 ∷ []) p → Writes o (take (i + 1) bs) p
bytes_turn bs i h e f = writes_same (sym (take_more bs i 0 h)) (writes_then e f)

pub each_turn : {X : Type 0} {o m p : Output} (f : X → List ℕ) (xs : List X) (i : ℕ) (d : X) → i < length xs
    → Writes o (flat_map f (take i xs)) m → Writes m (f (get_or xs i d)) p → Writes o (flat_map f (take (i + 1) xs)) p
each_turn f xs i d h e w =
    writes_same (flat_map_more f [] (take i xs) (get_or xs i d) ∙ ap (flat_map f) (sym (take_more xs i d h))) (writes_then e w)

-- ---- a number: its last digit, and those before it

pub number_one : {o p : Output} (n : ℕ) → n < 10 → Writes o (digit n ∷ []) p → Writes o (decimal n) p
number_one n h e = writes_same (sym (decimal_one n h)) e

pub number_more : {o m p : Output} (n : ℕ) → 10 ≤ n → Writes o (decimal (n / 10)) m → Writes m (digit n ∷ []) p → Writes o (decimal n) p
number_more n h e f = writes_same (sym (decimal_more n h)) (writes_then e f)

-- ---- a line: its first field, the other numbers and the byte 10

pub line_parts : (f : List ℕ) (ns : List ℕ) → f ++ (spaced ns ++ 10 ∷ []) ≡ line (f ∷ map decimal ns)
line_parts f [] = refl
line_parts f (n ∷ ns) =
    ap (λ (l : List ℕ). f ++ 32 ∷ l) (append_assoc (decimal n) (spaced ns) (10 ∷ []) ∙ line_parts (decimal n) ns)

pub line_some : {o m q p : Output} (ns : List ℕ) → 1 ≤ length ns → Writes o (decimal (get_or ns 0 0)) m → Writes m (spaced (take (length ns - 1) (drop 1 ns))) q
    → Writes q (10 ∷ []) p → Writes o (line (map decimal ns)) p
line_some [] h e f g = absurd (omega arith)
line_some (n ∷ ns) h e f g =
    let rest : Writes _ (spaced ns) _ = writes_same (ap spaced (take_all (suc (length ns) - 1) ns (omega arith))) f in
    writes_same (line_parts (decimal n) ns) (writes_then e (writes_then rest g))

pub line_none : {o p : Output} (ns : List ℕ) → length ns < 1 → Writes o (10 ∷ []) p → Writes o (line (map decimal ns)) p
line_none [] h e = e
line_none (n ∷ ns) h e = absurd (omega arith)
