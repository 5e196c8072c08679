-- The names of the classes that the selectors of a sheet ask for.
use Rattle.std.specs.Prelude.{◌≡◌, ℕ, Bool, List, [], ◌∷◌, fold, Option, Some, None, option_to_list, bytes_eq, ⊤}
use Rattle.std.specs.List.{flat_map, list_any}
use Rattle.std.specs.Ordering.{nat_cmp}
use Rattle.std.specs.declared.cmp.Ordering.TheVariants.{Less}
use Rattle.std.specs.Cmp.Lexicographic.{slice_cmp}
use Rattle.std.specs.BTreeSet.{insert_key}
use Rattle.selectors.specs.Forms.{TestForm, any, tag, id, class, attr, root, empty, nth, only_child, only_of_type, never, SimpleForm}
use Rattle.selectors.specs.Forms.{CompoundForm, SelectorForm}
use Rattle.selectors.specs.Weight.{test_of}
use Rattle.sheet_reader.specs.Forms.{RuleForm}
use Rattle.sheet_reader.specs.Sheets.{sheet_of}

-- the class that a test asks for, if it asks for one
abbrev pub class_in : TestForm → Option (List ℕ)
class_in any = None
class_in (tag name) = None
class_in (id name) = None
class_in (class name) = Some name
class_in (attr name op operand) = None
class_in root = None
class_in empty = None
class_in (nth kind step offset) = None
class_in only_child = None
class_in only_of_type = None
class_in never = None

-- the class of a simple selector: inside `:not` too
abbrev pub class_of : SimpleForm → Option (List ℕ)
class_of s = class_in (test_of s)

-- the classes of the simple selectors of a compound, in their order
abbrev pub classes_of_tests : List SimpleForm → List (List ℕ)
classes_of_tests tests = flat_map (λ s. option_to_list (class_of s)) tests

-- the classes of the compounds of a selector
abbrev pub classes_of_compounds : List CompoundForm → List (List ℕ)
classes_of_compounds compounds = flat_map (λ c. classes_of_tests c.tests) compounds

-- the classes of the selectors of a rule
abbrev pub classes_of_selectors : List SelectorForm → List (List ℕ)
classes_of_selectors selectors = flat_map (λ s. classes_of_compounds s.compounds) selectors

-- the classes of style rules
abbrev pub classes_of_rules : List RuleForm → List (List ℕ)
classes_of_rules rules = flat_map (λ r. classes_of_selectors r.selectors) rules

-- names that ascend by bytes, with one more in its place, unless it is there
abbrev pub with_name : List (List ℕ) → List ℕ → List (List ℕ)
with_name names name = insert_key (slice_cmp nat_cmp) names name

-- names that ascend by bytes, with some more, one after the other, each in its place
abbrev pub with_names : List (List ℕ) → List (List ℕ) → List (List ℕ)
with_names names more = fold with_name names more

-- the class names of a sheet's text: those of the selectors of its style rules, ascending by bytes, each once
abbrev pub class_names : List ℕ → List (List ℕ)
class_names text = with_names [] (classes_of_rules (sheet_of text).rules)

-- ---- what holds of class names

-- the name comes, by bytes, before all of these
abbrev pub IsBeforeAll : List ℕ → List (List ℕ) → Type 0
IsBeforeAll name [] = ⊤
IsBeforeAll name (n ∷ ns) = (slice_cmp nat_cmp name n ≡ Less) × IsBeforeAll name ns

-- each name comes, by bytes, before all later ones, so each stands there once
abbrev pub NamesAscend : List (List ℕ) → Type 0
NamesAscend [] = ⊤
NamesAscend (n ∷ ns) = IsBeforeAll n ns × NamesAscend ns

-- the name is one of these
abbrev pub has_class_name : List ℕ → List (List ℕ) → Bool
has_class_name name names = list_any (bytes_eq name) names
