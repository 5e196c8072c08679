-- The names of an element: what selectors that match it are filed under.
use Rattle.std.specs.Prelude.{ℕ, Bool, true, ◌==◌, List, ◌∷◌, ◌++◌, map, Option, Some, None, option_map, option_to_list}
use Rattle.std.specs.List.{list_any}
use Rattle.page_tree.specs.Zippers.{Zipper}
use Rattle.selectors.specs.Forms.{tag, id, class}
use Rattle.select_match.specs.Elements.{zipper_name}
use Rattle.select_match.specs.Matches.{test_holds}
use Rattle.select_match.specs.Subjects.{element_id, class_pieces}
use Rattle.sheet_reader.specs.declared.filings.NameKind.{NameKind}
use Rattle.sheet_reader.specs.declared.filings.NameKind.TheVariants.{Tag, Id, Class}
use Rattle.sheet_reader.specs.Filings.{Filing, name_digest}

-- the element has the name as its type, its id or a class, as selectors ask for one
abbrev pub has_named : NameKind → List ℕ → Zipper → Bool
has_named Tag name z = test_holds (tag name) z
has_named Id name z = test_holds (id name) z
has_named Class name z = test_holds (class name) z

-- the element has what something is filed under
abbrev pub has_filing : Filing → Zipper → Bool
has_filing f z = has_named f.kind f.name z

-- the numbers of the names of an element: of its type, of its id if it has one, and of each piece of its class
abbrev pub element_digests : Zipper → List ℕ
element_digests z = name_digest Tag (zipper_name z)
    ∷ (option_to_list (option_map (name_digest Id) (element_id z)) ++ map (name_digest Class) (class_pieces z))

-- what has this number may be filed under one of these; what has none is filed under nothing
abbrev pub may_match : Option ℕ → List ℕ → Bool
may_match None digests = true
may_match (Some n) digests = list_any (λ d. d == n) digests
