-- The page of a drill: its nodes below the document, and its one sheet.
use Rattle.std.specs.Prelude.{ℕ, zero, suc, ◌+◌, ◌%◌, List, [], ◌∷◌, ◌++◌, codes, decimal}
use Rattle.page_forms.specs.Mediums.{usual_medium}
use Rattle.page_forms.specs.Pages.{LoadedPage}
use Rattle.node_tree.specs.declared.origins.Origin.TheVariants.{Regular}
use Rattle.drill_script.specs.Divs.{page_divs}
use Rattle.drill_script.specs.DrillNodes.{drill_nodes}

-- the line of the sheet with that number: `.kA>div:nth-child(Bn){pR:vR}`
abbrev pub rule_line : ℕ → List ℕ
rule_line r =
    codes ".k" ++ decimal (r % 8) ++ codes ">div:nth-child(" ++ decimal (r % 5 + 1) ++ codes "n){p" ++ decimal r ++ codes ":v" ++ decimal r
    ++ codes "}" ++ 10 ∷ []

-- so many lines, the first of which has that number
abbrev pub rule_lines : ℕ → ℕ → List ℕ
rule_lines zero r = []
rule_lines (suc n) r = rule_line r ++ rule_lines n (r + 1)

-- how many lines the sheet has
abbrev pub all_rules : ℕ
all_rules = 100

-- the text of the sheet
unfoldable pub drill_sheet : List ℕ
drill_sheet = rule_lines all_rules 0

-- the page of a drill with so many divs
abbrev pub drill_page : ℕ → LoadedPage
drill_page n = record {
  nodes = drill_nodes (page_divs n);
  medium = usual_medium;
  sheets = record { origin = Regular; text = drill_sheet } ∷ [];
}
