-- What a show of the panels prints.
use Rattle.std.specs.Prelude.{ℕ, ◌+◌, List, [], ◌∷◌, ◌++◌, codes, decimal, Option, Some, None}
use Rattle.node_tree.specs.Nodes.{Nodes}
use Rattle.node_tree.specs.Seen.{Seen}
use Rattle.front_mirror.specs.declared.panels.PanelKind.{PanelKind}
use Rattle.front_mirror.specs.declared.panels.PanelKind.TheVariants.{Outline, Counts, Watch}
use Rattle.front_mirror.specs.Panels.{face}

-- `outline`, `counts` or `watch S`
abbrev pub kind_text : PanelKind → List ℕ
kind_text Outline = codes "outline"
kind_text Counts = codes "counts"
kind_text (Watch serial) = codes "watch " ++ decimal serial

-- `PLACE KIND`
abbrev pub panel_heading : ℕ → PanelKind → List ℕ
panel_heading place kind = decimal place ++ codes " " ++ kind_text kind ++ 10 ∷ []

-- what a panel shows, under its place and its kind; nothing where none stands open
abbrev pub panel_text : ℕ → Option PanelKind → Nodes Seen → List ℕ
panel_text place None tree = []
panel_text place (Some kind) tree = panel_heading place kind ++ face kind tree

-- the same of panels, the first of which has so many before it
abbrev pub panels_after : ℕ → List (Option PanelKind) → Nodes Seen → List ℕ
panels_after before [] tree = []
panels_after before (panel ∷ panels) tree = panel_text (before + 1) panel tree ++ panels_after (before + 1) panels tree

-- what the panels show that stand open, in their order
abbrev pub panels_text : List (Option PanelKind) → Nodes Seen → List ℕ
panels_text panels tree = panels_after 0 panels tree
