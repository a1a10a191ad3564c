-- The measures of the split tree for n splitters. Definitions only.
use Rattle.std.specs.Prelude.{cond, ℕ, zero, suc, ◌+◌, ◌-◌, ◌/◌, ◌%◌, ◌^◌, leb}
use Rattle.words.specs.Basics.{sum}

-- the first l, counted from the second argument, with 2^l at least n; the first argument bounds the search
abbrev pub height_from : ℕ → ℕ → ℕ → ℕ
height_from zero l n = l
height_from (suc fuel) l n = let r = height_from fuel (suc l) n in cond (leb n (2 ^ l)) l r

-- document 01: "H is the least number with 2^H at least n"
unfoldable pub height : ℕ → ℕ
height n = height_from n 0 n

-- "Level l has n / 2^l nodes, rounded up"
unfoldable pub width : ℕ → ℕ → ℕ
width n l = (n + (2 ^ l - 1)) / 2 ^ l

-- "T(n) is the sum over levels"
unfoldable pub tree_nodes : ℕ → ℕ
tree_nodes n = sum (suc (height n)) (width n)

-- bit l of a splitter number: "at level l the walk to a splitter goes right where bit l − 1 of the splitter number is 1"
unfoldable pub bit : ℕ → ℕ → ℕ
bit l x = x / 2 ^ l % 2
