-- What a search finds, in the words of the field; that it is kept under the search's number; and that it stays as it is: no edit
-- changes it, whoever makes it, nor what is asked of nodes. It goes with DOM and with the page.
use Rattle.std.specs.Prelude.{◌≡◌, ◌≤◌, ◌==◌, ℕ, true, List, filter, map, length, Option, Some, ◌↔◌}
use Rattle.std.specs.FinMap as table
use Rattle.page_tree.specs.Members.{IsIn}
use Rattle.page_tree.specs.Zippers.{serial_of, zippers}
use Rattle.page_forms.specs.declared.acts.Act.{Act}
use Rattle.page_forms.specs.Pages.{LoadedPage}
use Rattle.cdp_messages.specs.declared.dom_ask.DomAsk.{DomAsk}
use Rattle.cdp_messages.specs.declared.dom_edit.DomEdit.{DomEdit}
use Rattle.cdp_messages.specs.declared.css_edit.CssEdit.{CssEdit}
use Rattle.cdp_messages.specs.declared.command.Command.TheVariants.{DomDisable}
use Rattle.dom_search.specs.FoundLaws.{IsFound, IsOutOf}
use Rattle.dom_search.specs.Searches.{next_search, forgotten}
use Rattle.back_end.specs.States.{State, HoldsNow}
use Rattle.back_end.specs.Steps.{found_now, is_shown_now, perform_step}
use Rattle.back_end.specs.Steps.{Step, act_step, load_step, agent_step, tree_edit_step, sheet_edit_step, undo_step, redo_step, served_step}

-- a node of the page has the serial; it is not the document, the query, which is not empty, finds it, and the client is shown it
pub record IsFoundShown (state : State) (query : List ℕ) (serial : ℕ) : Type 0 where
  pub found : IsFound state.side.page query serial
  pub shown : is_shown_now state serial ≡ true

-- what a search of the client finds: the serials of exactly these nodes, each once, in document order
pub record FindsShown (state : State) (query : List ℕ) : Type 0 where
  pub members : (serial : ℕ) → IsIn serial (found_now query state) ↔ IsFoundShown state query serial
  pub once : (serial : ℕ) → length (filter (λ s. s == serial) (found_now query state)) ≤ 1
  pub in_order : IsOutOf (found_now query state) (map serial_of (zippers state.side.page.tree))

-- at each moment a search finds exactly the nodes that are shown, are not the document and are found by its query
abbrev pub SearchesFindShown : Type 0
SearchesFindShown = (state : State) (query : List ℕ) → HoldsNow state → FindsShown state query

-- what is kept of the search of that number, if anything is
abbrev pub kept_of_search : ℕ → State → Option (List ℕ)
kept_of_search search state = table.get state.client.searches.lists search

-- and just that is kept, under the number that the search gets and is answered by
abbrev pub SearchesKeepFound : Type 0
SearchesKeepFound = (id : ℕ) (query : List ℕ) (state : State)
    → kept_of_search (next_search state.client.searches) (perform_step id query state).state ≡ Some (found_now query state)

-- just the same is kept of searches after a step
abbrev pub KeepsFound : State → Step → Type 0
KeepsFound state done = done.state.client.searches ≡ state.client.searches

-- the edits of a client, of the tree and of sheets, and those that are taken back or done again, change nothing that a search found;
-- nor do the acts of a script
pub record EditsKeepFound : Type 0 where
  pub tree : (id : ℕ) (edit : DomEdit) (state : State) → KeepsFound state (tree_edit_step id edit state)
  pub sheets : (id : ℕ) (edit : CssEdit) (state : State) → KeepsFound state (sheet_edit_step id edit state)
  pub undo : (id : ℕ) (state : State) → KeepsFound state (undo_step id state)
  pub redo : (id : ℕ) (state : State) → KeepsFound state (redo_step id state)
  pub acts : (act : Act) (state : State) → KeepsFound state (act_step act state)

-- what is asked of nodes changes nothing that a search found: a new document of the same page neither
abbrev pub AsksKeepFound : Type 0
AsksKeepFound = (id : ℕ) (ask : DomAsk) (state : State) → KeepsFound state (agent_step id ask state)

-- a step after which nothing is kept of any search, and the numbers go on
abbrev pub ForgetsFound : State → Step → Type 0
ForgetsFound state done = done.state.client.searches ≡ forgotten state.client.searches

-- with a load, and where DOM is turned off, all that was found is forgotten
pub record FoundIsForgotten : Type 0 where
  pub loads : (page : LoadedPage) (state : State) → ForgetsFound state (load_step page state)
  pub turned_off : (id : ℕ) (state : State) → ForgetsFound state (served_step id DomDisable state)
