-- The numbers of a list, short or long.
use Rattle.std.specs.Prelude.{ℕ, List}
use Rattle.number_map.specs.declared.lists.Numbers.{Numbers}
use Rattle.number_map.specs.declared.lists.Numbers.TheVariants.{Short, Long}

-- the numbers in their order
abbrev pub numbers_of : Numbers → List ℕ
numbers_of (Short numbers) = numbers.items
numbers_of (Long list) = list.value
