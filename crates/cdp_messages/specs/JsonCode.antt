-- JSON as a list of rows, so that values that hold it can be told apart.
use Rattle.std.specs.Prelude.{◌≡◌, ◌⊎◌, ℕ, ℤ, Float, List, [], Bool, true, false, Option, Some, None, refl}
use Rattle.std.specs.Coded.{Coded, code_by, coded×, coded⊎, coded_ℕ, coded_ℤ, coded_bool, coded_list, coded_option}
use Rattle.std.proofs.Common.{inl, inr, ap, ap₂}
use base.Stored.{coded_float}
use Rattle.serde_json.specs.Data.{Num, unsigned, negative, float, Data, null, boolean, number, string, array, object, Items, no_items, item}
use Rattle.serde_json.specs.Data.{Members, no_members, member}
use Rattle.node_tree.specs.Nodes.{Nodes, none, node, coded_nodes}

-- a number by its form
abbrev NumberCode : Type 0
NumberCode = ℕ ⊎ (ℤ ⊎ Float)

-- the code of a number
abbrev number_code : Num → NumberCode
number_code (unsigned n) = inl n
number_code (negative z) = inr (inl z)
number_code (float x) = inr (inr x)

-- the number that a code stands for
abbrev number_from : NumberCode → Num
number_from (inl n) = unsigned n
number_from (inr (inl z)) = negative z
number_from (inr (inr x)) = float x

-- the code of a number stands for that number
number_back : (n : Num) → number_from (number_code n) ≡ n
number_back (unsigned n) = refl
number_back (negative z) = refl
number_back (float x) = refl

-- what a value is, but for what stands inside; at the end `true` stands for an array and `false` for an object
abbrev Symbol : Type 0
Symbol = Option (Bool ⊎ (NumberCode ⊎ (List ℕ ⊎ Bool)))

-- the symbol of a value
abbrev symbol : Data → Symbol
symbol null = None
symbol (boolean b) = Some (inl b)
symbol (number n) = Some (inr (inl (number_code n)))
symbol (string s) = Some (inr (inr (inl s)))
symbol (array ds) = Some (inr (inr (inr true)))
symbol (object ms) = Some (inr (inr (inr false)))

-- a member's name, and what its value is
abbrev SymbolRow : Type 0
SymbolRow = List ℕ × Symbol

-- the rows of what stands inside a value, of items and of members; the row of an item has the empty name
abbrev mutual
  -- of a value
  inside : Data → Nodes SymbolRow
  inside null = none
  inside (boolean b) = none
  inside (number n) = none
  inside (string s) = none
  inside (array ds) = item_rows ds
  inside (object ms) = member_rows ms

  -- of the items of an array
  item_rows : Items → Nodes SymbolRow
  item_rows no_items = none
  item_rows (item d ds) = node ([], symbol d) (inside d) (item_rows ds)

  -- the symbols of the members of an object
  member_rows : Members → Nodes SymbolRow
  member_rows no_members = none
  member_rows (member k d ms) = node (k, symbol d) (inside d) (member_rows ms)

-- the value of a symbol, with these items where it is an array, and these members where it is an object
abbrev data_from : Symbol → Items → Members → Data
data_from None ds ms = null
data_from (Some (inl b)) ds ms = boolean b
data_from (Some (inr (inl n))) ds ms = number (number_from n)
data_from (Some (inr (inr (inl s)))) ds ms = string s
data_from (Some (inr (inr (inr true)))) ds ms = array ds
data_from (Some (inr (inr (inr false)))) ds ms = object ms

abbrev mutual
  -- the items whose rows these are
  items_from : Nodes SymbolRow → Items
  items_from none = no_items
  items_from (node r c t) = item (data_from r.1 (items_from c) (members_from c)) (items_from t)

  -- the members whose rows these are
  members_from : Nodes SymbolRow → Members
  members_from none = no_members
  members_from (node r c t) = member r.0 (data_from r.1 (items_from c) (members_from c)) (members_from t)

mutual
  -- a value is had back from its symbol and what is inside it
  pub data_back : (d : Data) → data_from (symbol d) (items_from (inside d)) (members_from (inside d)) ≡ d
  data_back null = refl
  data_back (boolean b) = refl
  data_back (number n) = ap number (number_back n)
  data_back (string s) = refl
  data_back (array ds) = ap array (items_back ds)
  data_back (object ms) = ap object (members_back ms)

  -- the items of an array are had back from their symbols
  pub items_back : (ds : Items) → items_from (item_rows ds) ≡ ds
  items_back no_items = refl
  items_back (item d ds) = ap₂ item (data_back d) (items_back ds)

  -- the members of an object are had back from their symbols
  pub members_back : (ms : Members) → members_from (member_rows ms) ≡ ms
  members_back no_members = refl
  members_back (member k d ms) = ap₂ (member k) (data_back d) (members_back ms)

-- the code of a number by its form
abbrev coded_number : Coded NumberCode
coded_number = coded⊎ coded_ℕ (coded⊎ coded_ℤ coded_float)

-- a symbol by its form
abbrev coded_symbol : Coded Symbol
coded_symbol = coded_option (coded⊎ coded_bool (coded⊎ coded_number (coded⊎ (coded_list coded_ℕ) coded_bool)))

-- a value by its symbol and the rows of what stands inside
abbrev pub coded_data : Coded Data
coded_data =
    code_by (Symbol × Nodes SymbolRow) (coded× coded_symbol (coded_nodes (coded× (coded_list coded_ℕ) coded_symbol)))
    (λ d. (symbol d, inside d))
    (λ p. data_from p.0 (items_from p.1) (members_from p.1)) data_back
