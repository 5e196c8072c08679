-- The lines of a drill after the load of its page.
use Rattle.std.specs.Prelude.{ℕ, zero, suc, ◌+◌, ◌-◌, ◌%◌, min, negsuc, List, [], ◌∷◌, ◌++◌, codes, decimal, Some, None}
use Rattle.serde_json.specs.Data.{unsigned, negative, number, string, object, Members, no_members, member}
use Rattle.node_tree.specs.Nodes.{none}
use Rattle.node_tree.specs.Labels.{Label}
use Rattle.node_tree.specs.declared.Kind.TheVariants.{Text}
use Rattle.page_forms.specs.declared.acts.Act.TheVariants.{SetAttr, Insert}
use Rattle.replay_script.specs.Forms.{LineForm, act, ask, up, down, settle}
use Rattle.drill_script.specs.declared.course.Course.{Course}
use Rattle.drill_script.specs.declared.course.Next.{Next}
use Rattle.drill_script.specs.declared.course.Next.TheVariants as next
use Rattle.drill_script.specs.Draws.{next_number, drawn}
use Rattle.drill_script.specs.Divs.{after_divs}
use Rattle.drill_script.specs.DrillNodes.{class_text}

-- ---- the lines, one by one

-- an ask of that method with these parameters
abbrev pub asks : List ℕ → Members → LineForm
asks method params = ask (record { method = method; params = Some (object params); session = None })

-- the serial of the body, which is its node id as well
abbrev pub body_serial : ℕ
body_serial = 3

-- the whole document is asked for: DOM.getDocument `{"depth":-1}`
abbrev pub asks_document : LineForm
asks_document = asks (codes "DOM.getDocument") (member (codes "depth") (number (negative (negsuc 0))) no_members)

-- CSS.enable `{}`
abbrev pub asks_styles : LineForm
asks_styles = asks (codes "CSS.enable") no_members

-- changes below the body are watched: DOMDebugger.setDOMBreakpoint `{"nodeId":3,"type":"subtree-modified"}`
abbrev pub asks_watch : LineForm
asks_watch = asks (codes "DOMDebugger.setDOMBreakpoint")
    (member (codes "nodeId") (number (unsigned body_serial)) (member (codes "type") (string (codes "subtree-modified")) no_members))

-- the script gives the node of that serial the class of a digit
abbrev pub sets_class : ℕ → ℕ → LineForm
sets_class s digit = act (SetAttr s (codes "class") (class_text digit))

-- the client gives the node of that id the attribute `title` with `t` and the digit
abbrev pub asks_title : ℕ → ℕ → LineForm
asks_title s digit = asks (codes "DOM.setAttributeValue")
    (member (codes "name") (string (codes "title"))
    (member (codes "nodeId") (number (unsigned s)) (member (codes "value") (string (codes "t" ++ decimal digit)) no_members)))

-- the matched styles of the node of that id are asked for
abbrev pub asks_matched : ℕ → LineForm
asks_matched s = asks (codes "CSS.getMatchedStylesForNode") (member (codes "nodeId") (number (unsigned s)) no_members)

-- the text `x`
abbrev pub text_label : Label
text_label = record { kind = Text; name = []; value = codes "x"; attributes = [] }

-- the script puts a text `x` last into the body
abbrev pub puts_text : LineForm
puts_text = act (Insert body_serial 0 (record { row = text_label; children = none }))

-- ---- the turns

-- the serial of one of so many divs, where the generator is at x: those before them are of the document, `html` and `body`
abbrev pub div_drawn : ℕ → ℕ → ℕ
div_drawn divs x = 4 + drawn x divs

-- the lines of a turn by its number modulo 4, where the generator is at x
abbrev pub turn_lines : ℕ → ℕ → ℕ → List LineForm
turn_lines zero divs x = sets_class (div_drawn divs x) (drawn (next_number x) 8) ∷ []
turn_lines (suc zero) divs x = asks_title (div_drawn divs x) (drawn (next_number x) 10) ∷ []
turn_lines (suc (suc zero)) divs x = asks_matched (div_drawn divs x) ∷ []
turn_lines (suc (suc (suc k))) divs x = puts_text ∷ up (drawn x 64) ∷ down (drawn (next_number x) 4096) ∷ []

-- where the generator is after it: a turn draws two numbers, or one
abbrev pub after_turn : ℕ → ℕ → ℕ
after_turn zero x = next_number (next_number x)
after_turn (suc zero) x = next_number (next_number x)
after_turn (suc (suc zero)) x = next_number x
after_turn (suc (suc (suc k))) x = next_number (next_number x)

-- so many turns from the one of number r on, and at last a settle
abbrev pub turns : ℕ → ℕ → ℕ → ℕ → List LineForm
turns divs zero r x = settle ∷ []
turns divs (suc n) r x = turn_lines (r % 4) divs x ++ turns divs n (r + 1) (after_turn (r % 4) x)

-- how many turns there are at most
abbrev pub most_turns : ℕ
most_turns = 1000

-- the turns from the one of number r on: as many as there are divs, and at most 1,000
abbrev pub turns_from : ℕ → ℕ → ℕ → List LineForm
turns_from divs r x = turns divs (min divs most_turns - r) r x

-- ---- the script

-- all lines after the load of a page with so many divs
unfoldable pub drill_lines : ℕ → List LineForm
drill_lines n = asks_document ∷ asks_styles ∷ asks_watch ∷ settle ∷ turns_from n 0 (after_divs n n)

-- the lines that are still to come, by the next one and where the generator is
abbrev pub to_come : ℕ → ℕ → Next → List LineForm
to_come divs x next.Document = asks_document ∷ asks_styles ∷ asks_watch ∷ settle ∷ turns_from divs 0 x
to_come divs x next.Styles = asks_styles ∷ asks_watch ∷ settle ∷ turns_from divs 0 x
to_come divs x next.Watch = asks_watch ∷ settle ∷ turns_from divs 0 x
to_come divs x next.Settle = settle ∷ turns_from divs 0 x
to_come divs x (next.Turn r) = turns_from divs r x
to_come divs x (next.Up r) = up (drawn x 64) ∷ down (drawn (next_number x) 4096) ∷ turns_from divs r (next_number (next_number x))
to_come divs x (next.Down r) = down (drawn x 4096) ∷ turns_from divs r (next_number x)
to_come divs x next.Nothing = []

-- the lines that are left of a drill that has come so far
abbrev pub left_of : Course → List LineForm
left_of c = to_come c.divs c.draws.at c.next
