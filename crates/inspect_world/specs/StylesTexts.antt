-- What a show of matched styles prints: each block of declarations, with those of its declarations that win.
use Rattle.node_tree.specs.Origins.{origin_name}
use Rattle.std.specs.Prelude.{ℕ, Bool, true, false, List, [], ◌∷◌, ◌++◌, map, length, drop, codes, decimal, option_map}
use Rattle.std.specs.Prelude.{option_to_list}
use Rattle.node_tree.specs.declared.origins.Origin.{Origin}
use Rattle.node_tree.specs.declared.origins.Origin.TheVariants.{Regular}
use Rattle.cascade_match.specs.declared.blocks.Decl.{Decl}
use Rattle.cascade_match.specs.declared.blocks.Block.{Block}
use Rattle.cascade_match.specs.Winning.{wins}
use Rattle.css_objects.specs.declared.styles.StyleProperty.{StyleProperty}
use Rattle.css_objects.specs.declared.styles.Style.{Style}
use Rattle.css_objects.specs.declared.rules.RuleMatch.{RuleMatch}
use Rattle.css_objects.specs.declared.rules.Matched.{Matched}
use Rattle.css_objects.specs.Sheets.{sheet_text}
use Rattle.front_mirror.specs.Outline.{quoted}

-- a block of declarations: the line above it, its origin, and its properties
pub record ShownBlock : Type 0 where
  pub heading : List ℕ
  pub origin : Origin
  pub properties : List StyleProperty

-- `SHEET ORIGIN SELECTORS`, the selectors as a JSON string
abbrev pub rule_heading : RuleMatch → List ℕ
rule_heading m = sheet_text m.rule.sheet ++ codes " " ++ origin_name m.rule.origin ++ codes " " ++ quoted m.rule.selectors.text ++ 10 ∷ []

-- the block of a matched rule
abbrev pub rule_block : RuleMatch → ShownBlock
rule_block m = record { heading = rule_heading m; origin = m.rule.origin; properties = m.rule.style.properties }

-- the block of the element's own `style` attribute, which counts as the page's
abbrev pub inline_block : Style → ShownBlock
inline_block s = record { heading = codes "inline" ++ 10 ∷ []; origin = Regular; properties = s.properties }

-- the blocks of an element: the matched rules in their order, and then its `style` attribute, where it has one
abbrev pub blocks_shown : Matched → List ShownBlock
blocks_shown m = map rule_block m.rules ++ option_to_list (option_map inline_block m.inline)

-- ---- as they compete

-- a property as a declaration
abbrev pub declared : StyleProperty → Decl
declared p = record { name = p.name; important = p.important }

-- a block of declarations
abbrev pub competing : ShownBlock → Block
competing b = record { origin = b.origin; declarations = map declared b.properties }

-- for each property of the blocks, one block behind the other, whether it wins
abbrev pub winning : List ShownBlock → List Bool
winning blocks = wins (map competing blocks)

-- ---- lines

-- `*` for a winner
abbrev pub win_mark : Bool → List ℕ
win_mark true = codes "*"
win_mark false = codes "-"

-- ` !important`, where a property is
abbrev pub important_text : Bool → List ℕ
important_text true = codes " !important"
important_text false = []

-- the line of a property
abbrev pub property_line : Bool → StyleProperty → List ℕ
property_line won p =
    codes "  " ++ win_mark won ++ codes " " ++ p.name ++ codes " " ++ quoted p.value ++ important_text p.important ++ 10 ∷ []

-- the lines of properties; the marks say of each whether it wins, and more of them may follow
abbrev pub property_lines : List Bool → List StyleProperty → List ℕ
property_lines [] ps = []
property_lines (won ∷ marks) [] = []
property_lines (won ∷ marks) (p ∷ ps) = property_line won p ++ property_lines marks ps

-- the lines of blocks; the first marks are those of the first block, and so on
abbrev pub block_lines : List Bool → List ShownBlock → List ℕ
block_lines marks [] = []
block_lines marks (b ∷ bs) = b.heading ++ property_lines marks b.properties ++ block_lines (drop (length b.properties) marks) bs

-- all that is printed of the matched styles that the reply to that ask told, under a heading that ends in this text
abbrev pub styles_headed : List ℕ → ℕ → Matched → List ℕ
styles_headed behind ask m =
    codes "# styles " ++ decimal ask ++ behind ++ 10 ∷ block_lines (winning (blocks_shown m)) (blocks_shown m)

-- the same under a heading that ends in the number of the ask
abbrev pub styles_text : ℕ → Matched → List ℕ
styles_text ask m = styles_headed [] ask m
