-- How deep a page may be, and how many levels of it one message tells: two numbers.
use Rattle.std.specs.Prelude.{ℕ, suc}

-- the highest level of a node; the document has level 0
abbrev pub max_level : ℕ
max_level = 500

-- how many levels a page may have, and so the mirror of one
abbrev pub most_levels : ℕ
most_levels = suc max_level

-- how many levels of nodes a message tells at most, below the node that it is about
abbrev pub most_told : ℕ
most_told = 60

-- and with that node itself, as the reply that tells a document
abbrev pub most_told_root : ℕ
most_told_root = suc most_told
