-- Modes: which nodes of a page a client is shown (the protocol's `includeWhitespace`).
use Rattle.std.specs.Prelude.{ℕ, Bool, false, List}
use Rattle.std.specs.Char.{is_ascii_whitespace}
use Rattle.std.specs.List.{list_all}
use Rattle.node_tree.specs.Labels.{Label}
use Rattle.node_tree.specs.declared.Kind.{Kind}
use Rattle.node_tree.specs.declared.Kind.TheVariants.{Document, Element, Text, Comment, Doctype}
use Rattle.shown_pages.specs.declared.modes.Mode.{Mode}
use Rattle.shown_pages.specs.declared.modes.Mode.TheVariants.{All, NoBlank}

-- a text that has no byte but tab, line feed, form feed, carriage return and space (Infra, "ASCII whitespace"), as the empty one
abbrev pub is_blank_text : Kind → List ℕ → Bool
is_blank_text Document value = false
is_blank_text Element value = false
is_blank_text Text value = list_all is_ascii_whitespace value
is_blank_text Comment value = false
is_blank_text Doctype value = false

-- the mode hides nodes of that kind and that value
abbrev pub hides : Mode → Kind → List ℕ → Bool
hides All kind value = false
hides NoBlank kind value = is_blank_text kind value

-- a node of that label is hidden in the mode
abbrev pub hidden_in : Mode → Label → Bool
hidden_in mode l = hides mode l.kind l.value
