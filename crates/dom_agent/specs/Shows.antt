-- What the events of a request show.
use Rattle.std.specs.Prelude.{◌≡◌, ℕ, ℤ, ◌-◌, Bool, true, false, List, [], Option, Some, None}
use Rattle.std.specs.List.{All}
use Rattle.node_tree.specs.Nodes.{Branch, alone}
use Rattle.node_tree.specs.Labels.{holds}
use Rattle.page_tree.specs.Pages.{PageRow, PageValue, IsValid}
use Rattle.node_tree.specs.Levels.{most_told}
use Rattle.node_binding.specs.Openings.{less}
use Rattle.node_binding.specs.Deals.{capped}
use Rattle.node_binding.specs.Sessions.{Session, IsSession, is_open, serial_at}
use Rattle.cdp_messages.specs.declared.dom_ask.DomAsk.TheVariants.{RequestChildNodes}
use Rattle.dom_agent.specs.Keepers.{session_keeper}
use Rattle.dom_agent.specs.Requests.{Outcome, shows_root, served, refused, Showing, known_node}
use Rattle.dom_agent.specs.Described.{shown_to}
use Rattle.dom_agent.specs.Distances.{StandsAt, IsWithin}
use Rattle.dom_agent.specs.Laws.{session_outcome}
use Rattle.dom_agent.specs.Sets.{levels_asked}

-- the levels that are left at a distance
abbrev pub levels_left : ℕ → Option ℕ → Option ℕ
levels_left k None = None
levels_left k (Some d) = Some (d - k)

-- The event tells the children of a container at or below x, at a distance k below d, that was not opened: to d - k levels, or to as
-- many as a message tells where these are fewer.
pub record TellsLevels (d : Option ℕ) (x : Branch PageRow) (w : Session) (e : Showing) : Type 0 where
  pub container : Branch PageRow
  pub distance : ℕ
  pub stands : StandsAt container distance (alone x)
  pub near : IsWithin distance d
  pub can_hold : holds container.row.label.kind ≡ true
  pub shut : is_open w.opened container.row.serial ≡ false
  pub ids : ℕ → ℕ
  pub parent : e.parent ≡ ids container.row.serial
  pub shows : e.children ≡ shown_to ids (less (capped most_told (levels_left distance d))) container.children

-- what an outcome tells beside the reply
abbrev pub shown_by_outcome : Outcome Session → List Showing
shown_by_outcome (shows_root b p) = p.shown
shown_by_outcome (served p body) = p.shown
shown_by_outcome (refused why) = []

-- each event of a request for the children of the known node x tells a container's children, to the levels that are left
abbrev pub RequestTells : Type 0
RequestTells =
    (page : PageValue) (whole : Branch PageRow) (id : ℕ) (depth : Option ℤ) (pierce : Option Bool) (w : Session) (x : Branch PageRow)
    → IsValid page
    → IsSession (alone page.tree) w
    → known_node (session_keeper (alone page.tree)) page.tree w (serial_at w (alone page.tree) id) ≡ Some x
    → All (TellsLevels (levels_asked depth) x w) (shown_by_outcome (session_outcome page whole (RequestChildNodes id depth pierce) w))
