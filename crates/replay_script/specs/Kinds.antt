-- Which form a line has: an object, whose one property tells it by its name.
use Rattle.std.specs.Prelude.{ℕ, List, [], ◌∷◌, Bool, true, false, codes, Option, Some, None, option_map, option_and_then, ⊤}
use Rattle.serde_json.specs.Data.{Data, Members, no_members, member}
use Rattle.serde_json.specs.Find.{as_object}
use Rattle.cdp_json.specs.Kinds.{anything, only_text, named}
use Rattle.cdp_json.specs.Rows.{Row, ends, and_need, object_of}
use Rattle.node_tree.specs.Keys.{first_of}
use Rattle.replay_script.specs.declared.line_kinds.LineKind.{LineKind}
use Rattle.replay_script.specs.declared.line_kinds.LineKind.TheVariants.{Load, Act, Ask, Raw, Up, Down, Settle, Show, Close, Styles}

-- the name of the property; a show of styles has one more
abbrev pub line_kind_name : LineKind → List ℕ
line_kind_name Load = codes "load"
line_kind_name Act = codes "act"
line_kind_name Ask = codes "ask"
line_kind_name Raw = codes "raw"
line_kind_name Up = codes "up"
line_kind_name Down = codes "down"
line_kind_name Settle = codes "settle"
line_kind_name Show = codes "show"
line_kind_name Close = codes "close"
line_kind_name Styles = codes "show"

-- the kinds that have one property
abbrev pub all_line_kinds : List LineKind
all_line_kinds = Load ∷ Act ∷ Ask ∷ Raw ∷ Up ∷ Down ∷ Settle ∷ Show ∷ Close ∷ []

-- a line that loads a page
abbrev pub is_load : LineKind → Bool
is_load Load = true
is_load Act = false
is_load Ask = false
is_load Raw = false
is_load Up = false
is_load Down = false
is_load Settle = false
is_load Show = false
is_load Close = false
is_load Styles = false

-- the name and the value of the only member
abbrev pub sole_member : Members → Option (List ℕ × Data)
sole_member no_members = None
sole_member (member k d no_members) = Some (k, d)
sole_member (member k d (member l e ms)) = None

-- the name and the value of an object's one property
abbrev pub sole : Data → Option (List ℕ × Data)
sole d = option_and_then sole_member (as_object d)

-- `{"ask":k,"show":"styles"}`
abbrev pub styles_row : Row (Data × (⊤ × ⊤))
styles_row = and_need (codes "ask") anything (and_need (codes "show") (only_text (codes "styles")) ends)

-- the ask of a show of styles
abbrev pub styles_in : Data → Option Data
styles_in d = option_map (λ f. f.0) ((object_of styles_row).reads d)

-- the kind of that property, with its value
abbrev pub kind_said : List ℕ × Data → Option (LineKind × Data)
kind_said p = option_map (λ kind. (kind, p.1)) (named line_kind_name all_line_kinds p.0)

-- the kind of a line, with the value that it says; none where its properties are those of no kind
abbrev pub said : Data → Option (LineKind × Data)
said d = first_of (option_map (λ ask. (Styles, ask)) (styles_in d)) (option_and_then kind_said (sole d))
