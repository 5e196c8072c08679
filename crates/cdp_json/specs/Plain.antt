-- What a value has to be for its text to give it back: whole numbers of 64 bits, and names that ascend by bytes.
use Rattle.std.specs.Prelude.{◌≡◌, ℕ, ◌^◌, ◌≤◌, pos, negsuc, List, Bool, true, false, ◌&&◌, nat_lt, Some, IsUtf8, ⊤}
use Rattle.node_tree.specs.Numbers.{number_limit, memory_limit}
use Rattle.serde_json.specs.Data.{Num, unsigned, negative, float, Data, null, boolean, number, string, array, object, Items, no_items, item}
use Rattle.serde_json.specs.Data.{Members, no_members, member, depth}
use Rattle.serde_json.specs.Read.{read, max_depth}
use Rattle.serde_json.specs.Written.{compact_text}
use Rattle.node_tree.specs.Labels.{is_before}

-- the first member, if any, has a name after k
abbrev pub starts_after : List ℕ → Members → Bool
starts_after k no_members = true
starts_after k (member l d ms) = is_before k l

-- a whole number from -2^63 to 2^64-1
abbrev pub number_is_plain : Num → Bool
number_is_plain (unsigned n) = nat_lt n number_limit
number_is_plain (negative (pos n)) = false
number_is_plain (negative (negsuc n)) = nat_lt n memory_limit
number_is_plain (float x) = false

-- each number is a whole one of 64 bits, and the names of each object ascend by bytes
abbrev mutual
  -- each number of a value is a whole one of 64 bits, and the names of each object in it ascend by bytes
  pub is_plain : Data → Bool
  is_plain null = true
  is_plain (boolean b) = true
  is_plain (number n) = number_is_plain n
  is_plain (string s) = true
  is_plain (array ds) = items_are_plain ds
  is_plain (object ms) = members_are_plain ms

  -- of the items of an array
  pub items_are_plain : Items → Bool
  items_are_plain no_items = true
  items_are_plain (item d ds) = is_plain d && items_are_plain ds

  -- the values of an object's members are plain, and their names ascend by bytes
  pub members_are_plain : Members → Bool
  members_are_plain no_members = true
  members_are_plain (member k d ms) = is_plain d && (starts_after k ms && members_are_plain ms)

-- each text and each name is UTF-8
abbrev mutual
  -- each text and each name of a value is UTF-8
  pub HasUtf8 : Data → Type 0
  HasUtf8 null = ⊤
  HasUtf8 (boolean b) = ⊤
  HasUtf8 (number n) = ⊤
  HasUtf8 (string s) = IsUtf8 s
  HasUtf8 (array ds) = ItemsHaveUtf8 ds
  HasUtf8 (object ms) = MembersHaveUtf8 ms

  -- of the items of an array
  pub ItemsHaveUtf8 : Items → Type 0
  ItemsHaveUtf8 no_items = ⊤
  ItemsHaveUtf8 (item d ds) = HasUtf8 d × ItemsHaveUtf8 ds

  -- each text and each name of an object's members is UTF-8
  pub MembersHaveUtf8 : Members → Type 0
  MembersHaveUtf8 no_members = ⊤
  MembersHaveUtf8 (member k d ms) = IsUtf8 k × HasUtf8 d × MembersHaveUtf8 ms

-- The text of a plain value is read as that value.
abbrev pub ReadsBack : Type 0
ReadsBack = (d : Data) → is_plain d ≡ true → depth d ≤ max_depth → read (compact_text d) ≡ Some d

-- The text of a plain value is UTF-8 where its texts and names are.
abbrev pub KeepsUtf8 : Type 0
KeepsUtf8 = (d : Data) → is_plain d ≡ true → HasUtf8 d → IsUtf8 (compact_text d)
