-- What a query asks, and what it finds: elements below a node that one of some selectors matches, over the whole page.
use Rattle.std.specs.Prelude.{◌≡◌, ℕ, cond, List, map, Option, Some, None, option_map, Result, Ok, Err}
use Rattle.std.specs.List.{find}
use Rattle.node_tree.specs.Nodes.{Branch}
use Rattle.node_tree.specs.Labels.{holds}
use Rattle.page_tree.specs.Pages.{PageRow}
use Rattle.page_tree.specs.Zippers.{serial_of, below, zipper_at}
use Rattle.selectors.specs.Forms.{SelectorForm}
use Rattle.selectors.specs.Lists.{list_seen}
use Rattle.selectors.specs.Reading.{selectors_of}
use Rattle.select_match.specs.Matches.{list_matches, matching_below}
use Rattle.dom_agent.specs.declared.queries.Query as held
use Rattle.dom_agent.specs.declared.queries.QueryErr.{QueryErr}
use Rattle.dom_agent.specs.declared.queries.QueryErr.TheVariants.{Refused, Memory}
use Rattle.cdp_messages.specs.declared.command.Why.{Why}
use Rattle.cdp_messages.specs.declared.command.Why.TheVariants.{UnknownNode, NotContainer, BadQuery}

-- the serial of the node below which is searched, and the selectors
pub record Query : Type 0 where
  pub root : ℕ
  pub selectors : List SelectorForm

-- a query as code has it
abbrev pub query_seen : held.Query → Query
query_seen q = record { root = q.root; selectors = list_seen q.selectors }

-- with the selectors that a text spells, if it spells some
abbrev pub query_with : ℕ → Option (List SelectorForm) → Result Query Why
query_with root None = Err BadQuery
query_with root (Some selectors) = Ok (record { root = root; selectors = selectors })

-- of a node, if there is one, with a text: what is asked, or the first refusal
abbrev pub query_of : Option (Branch PageRow) → List ℕ → Result Query Why
query_of None text = Err UnknownNode
query_of (Some x) text = cond (holds x.row.label.kind) (query_with x.row.serial (selectors_of text)) (Err NotContainer)

-- what was read is what is asked, unless memory ran out
abbrev pub IsQuery : Result held.Query QueryErr → Result Query Why → Type 0
IsQuery (Ok q) asked = asked ≡ Ok (query_seen q)
IsQuery (Err (Refused why)) asked = asked ≡ Err why
IsQuery (Err Memory) asked = Unit {0}

-- the serial of the first element that matches, in document order
abbrev pub first_matching : List SelectorForm → ℕ → Branch PageRow → Option ℕ
first_matching selectors root document = option_map serial_of (find (list_matches selectors) (below (zipper_at root document)))

-- the serials of all, in document order
abbrev pub all_matching : List SelectorForm → ℕ → Branch PageRow → List ℕ
all_matching selectors root document = map serial_of (matching_below selectors (zipper_at root document))
