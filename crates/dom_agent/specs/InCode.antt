-- What code does with a binding, of a document as the client is shown it.
use Rattle.std.specs.Prelude.{ℕ, List, Option}
use Rattle.node_tree.specs.Nodes.{Branch, alone}
use Rattle.node_tree.specs.Levels.{most_told}
use Rattle.page_tree.specs.Pages.{PageRow, PageValue}
use Rattle.shown_pages.specs.ShownPages.{shown_page}
use Rattle.node_binding.specs.Bindings.{BindingValue}
use Rattle.node_binding.specs.Deals.{dealt, more_told}
use Rattle.cdp_messages.specs.declared.dom_ask.DomAsk.{DomAsk}
use Rattle.dom_agent.specs.Keepers.{binding_keeper}
use Rattle.dom_agent.specs.Queries.{Query}
use Rattle.dom_agent.specs.Requests.{Outcome, Progress, Pushes, all_opened, pushed, all_pushed, with_document, known_node}
use Rattle.dom_agent.specs.Requests.{with_id, with_ids, first_asked, all_asked}
use Rattle.dom_agent.specs.Laws.{binding_outcome}

module _ (document : Branch PageRow) where
  -- the pieces of the document behind its first one are opened
  abbrev pub further_pieces : Option ℕ → BindingValue → Progress BindingValue
  further_pieces d b = all_opened (binding_keeper (alone document)) document (dealt more_told most_told d (alone document)) b

  -- the document is asked for
  abbrev pub document_asked : Option ℕ → BindingValue → Outcome BindingValue
  document_asked d b = with_document (binding_keeper (alone document)) document d b

  -- a node is pushed
  abbrev pub node_pushed : ℕ → BindingValue → Progress BindingValue
  node_pushed serial b = pushed (binding_keeper (alone document)) document serial b

  -- several nodes are
  abbrev pub nodes_pushed : List ℕ → BindingValue → Pushes BindingValue
  nodes_pushed serials b = all_pushed (binding_keeper (alone document)) document serials b

  -- a push is answered by the id of its node
  abbrev pub with_node : ℕ → Progress BindingValue → Outcome BindingValue
  with_node serial p = with_id (binding_keeper (alone document)) document serial p

  -- pushes are answered by the ids of their nodes
  abbrev pub with_nodes : Pushes BindingValue → Outcome BindingValue
  with_nodes p = with_ids (binding_keeper (alone document)) document p

  -- the known node of that serial, if there is one
  abbrev pub node_known : BindingValue → Option ℕ → Option (Branch PageRow)
  node_known b serial = known_node (binding_keeper (alone document)) document b serial

  -- a query for one node, in the whole page
  abbrev pub first_of : Branch PageRow → Query → BindingValue → Outcome BindingValue
  first_of whole q b = first_asked (binding_keeper (alone document)) document whole q b

  -- a query for all
  abbrev pub all_of : Branch PageRow → Query → BindingValue → Outcome BindingValue
  all_of whole q b = all_asked (binding_keeper (alone document)) document whole q b

-- what a command comes to for a client, in the mode of its binding; queries look in the whole page
abbrev pub agent_outcome : PageValue → DomAsk → BindingValue → Outcome BindingValue
agent_outcome page ask b = binding_outcome (shown_page b.mode page) page.tree ask b
