-- Where a text's bytes are.
use Rattle.std.specs.Prelude.{ℕ, List, string_bytes}
use Rattle.node_tree.specs.declared.texts.Store.{Store}
use Rattle.node_tree.specs.declared.texts.Store.TheVariants.{Short, Long}

-- the bytes, wherever they are
abbrev pub stored : Store → List ℕ
stored (Short text) = text.bytes
stored (Long text) = string_bytes text
