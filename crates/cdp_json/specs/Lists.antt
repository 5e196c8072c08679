-- A list that is read item by item.
use Rattle.std.specs.Prelude.{List, ◌++◌, Option, option_map}

-- the list that has been read, before what is read of the rest
abbrev pub with_list_front : {T : Type 0} → List T → Option (List T) → Option (List T)
with_list_front front rest = option_map (λ xs. front ++ xs) rest
