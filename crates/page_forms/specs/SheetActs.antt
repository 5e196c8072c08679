-- The acts on style sheets, as JSON spells them: objects with exactly these properties. ID is the text of a sheet's id.
use Rattle.std.specs.Prelude.{ℕ, List, codes, ⊤}
use Rattle.cdp_json.specs.Kinds.{text, only_text}
use Rattle.cdp_json.specs.Rows.{Row, ends, and_need}
use Rattle.node_tree.specs.declared.origins.Origin.{Origin}
use Rattle.page_forms.specs.Sheets.{origin_form}

-- `{"do":"addSheet","origin":ORIGIN,"text":TEXT}`
abbrev pub add_sheet_row : Row (⊤ × (Origin × (List ℕ × ⊤)))
add_sheet_row =
    and_need (codes "do") (only_text (codes "addSheet"))
    (and_need (codes "origin") origin_form
    (and_need (codes "text") text ends))

-- `{"do":"dropSheet","sheet":ID}`
abbrev pub drop_sheet_row : Row (⊤ × (List ℕ × ⊤))
drop_sheet_row = and_need (codes "do") (only_text (codes "dropSheet")) (and_need (codes "sheet") text ends)

-- `{"do":"replaceSheet","sheet":ID,"text":TEXT}`
abbrev pub replace_sheet_row : Row (⊤ × (List ℕ × (List ℕ × ⊤)))
replace_sheet_row =
    and_need (codes "do") (only_text (codes "replaceSheet"))
    (and_need (codes "sheet") text
    (and_need (codes "text") text ends))
