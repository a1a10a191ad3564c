-- Document 01's figures, computed.
use Rattle.std.specs.Prelude.{◌≡◌, refl, [], ◌∷◌, map}
use Rattle.sizes.specs.Sizes.{height, width, tree_nodes}

-- "T(1) = 1, T(5) = 5 + 3 + 2 + 1 = 11, T(256) = 511"
nodes : map tree_nodes (1 ∷ 5 ∷ 256 ∷ []) ≡ 1 ∷ 11 ∷ 511 ∷ []
unfolding tree_nodes height width
nodes = refl

widths : map (width 5) (0 ∷ 1 ∷ 2 ∷ 3 ∷ []) ≡ 5 ∷ 3 ∷ 2 ∷ 1 ∷ []
unfolding width
widths = refl

heights : map height (1 ∷ 2 ∷ 3 ∷ 5 ∷ 128 ∷ 129 ∷ 256 ∷ []) ≡ 0 ∷ 1 ∷ 2 ∷ 3 ∷ 7 ∷ 8 ∷ 8 ∷ []
unfolding height
heights = refl
