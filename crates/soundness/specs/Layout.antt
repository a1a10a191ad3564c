-- R-8: the layouts of a pool. What is said of steps, tapes, images and soundness takes one of them. Definitions only.
use Rattle.std.specs.Prelude.{Bool, List, ℕ}
use Rattle.pool.specs.Pool as Four
use Rattle.packed.specs.Pool as Two
use Rattle.soundness.specs.Sentence.{Sentence, all_of}
use Rattle.soundness.specs.Trees as FourTrees
use Rattle.soundness.specs.PackedTrees as TwoTrees

-- what is done to a pool of such nodes, and what is asked of it
pub record Layout : Type 0 where
  -- the words of a node
  pub words : ℕ
  -- of images that hold such nodes: R-3, "Each later change of the image adds 256 again"
  pub version : ℕ
  -- n splitters, N nodes, the initial values; and the first free node
  pub start : List ℕ → ℕ → ℕ → List ℕ → List ℕ × ℕ
  -- the height, the frame's root, the splitter
  pub read : ℕ → List ℕ → ℕ → ℕ → ℕ
  pub retain : List ℕ → ℕ → List ℕ
  -- N nodes, the height, the first free node, how many are free, and the frame's root; and the free nodes afterwards
  pub release : ℕ → ℕ → List ℕ → ℕ → ℕ → ℕ → List ℕ × ℕ × ℕ
  -- how many nodes a write takes
  pub rest : ℕ → List ℕ → ℕ → ℕ → ℕ
  -- the height, the free nodes, the frame's root, the splitter, the value; and the free nodes and the root afterwards
  pub write : ℕ → List ℕ → ℕ → ℕ → ℕ → ℕ → ℕ → List ℕ × ℕ × ℕ × ℕ
  -- the sentences on trees: n splitters, N nodes, the first free node and the roots of the live frames
  pub sentences : ℕ → ℕ → List ℕ → ℕ → List ℕ → List Sentence
  -- the free chain of N nodes
  pub free_nodes : ℕ → List ℕ → ℕ → List ℕ

-- document 01: "A node is four words: holders, left, right, value."
abbrev pub four_words : Layout
four_words =
    record {
      words = 4;
      version = 3;
      start = Four.init_pool;
      read = Four.read_at;
      retain = Four.retain;
      release = λ N. Four.release;
      rest = Four.rest;
      write = Four.write;
      sentences = FourTrees.pool_sentences;
      free_nodes = FourTrees.free_nodes;
    }

-- R-8: "A node becomes two words"
abbrev pub two_words : Layout
two_words =
    record {
      words = 2;
      version = 4;
      start = Two.init_pool;
      read = Two.read_at;
      retain = Two.retain;
      release = Two.release;
      rest = Two.rest;
      write = Two.write;
      sentences = TwoTrees.pool_sentences;
      free_nodes = TwoTrees.free_nodes;
    }

unfoldable pub pool_sound : Layout → ℕ → ℕ → List ℕ → ℕ → List ℕ → Bool
pool_sound L n N ws first rs = all_of (L.sentences n N ws first rs)
