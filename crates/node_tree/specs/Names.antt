-- The forms of names.
use Rattle.std.specs.Prelude.{ℕ, Bool, false, not, ◌&&◌, ◌||◌, ◌==◌, nat_le, List, [], ◌∷◌, length}
use Rattle.std.specs.List.{list_all}

-- `a` to `z`
abbrev pub is_letter : ℕ → Bool
is_letter b = nat_le 97 b && nat_le b 122

-- `A` to `Z`
abbrev pub is_upper_case : ℕ → Bool
is_upper_case b = nat_le 65 b && nat_le b 90

-- `a` to `z`, `0` to `9`, `-`, `_`, `.`
abbrev pub is_name_byte : ℕ → Bool
is_name_byte b = is_letter b || (nat_le 48 b && nat_le b 57) || b == 45 || b == 95 || b == 46

-- a name of an element or a doctype: 1 to 64 such bytes, the first a letter
abbrev pub is_element_name : List ℕ → Bool
is_element_name [] = false
is_element_name (b ∷ bs) = is_letter b && nat_le (length (b ∷ bs)) 64 && list_all is_name_byte bs

-- `"`, `'`, `<`, `>`, `/`, `=`
abbrev pub is_delimiter : ℕ → Bool
is_delimiter b = b == 34 || b == 39 || b == 60 || b == 62 || b == 47 || b == 61

-- from 0x21 to 0x7E, no delimiter and no upper-case letter
abbrev pub is_attribute_byte : ℕ → Bool
is_attribute_byte b = nat_le 33 b && nat_le b 126 && not (is_delimiter b) && not (is_upper_case b)

-- a name of an attribute: 1 to 256 such bytes
abbrev pub is_attribute_name : List ℕ → Bool
is_attribute_name name = nat_le 1 (length name) && nat_le (length name) 256 && list_all is_attribute_byte name
