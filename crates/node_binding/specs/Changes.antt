-- A binding that stands for a session with a page, through all that changes them.
use Rattle.std.specs.Prelude.{◌≡◌, ◌≢◌, ℕ, Bool, true, false, List, Option, None, IsSome}
use Rattle.node_tree.specs.Nodes.{Branch, alone}
use Rattle.node_tree.specs.Labels.{Label}
use Rattle.page_tree.specs.Pages.{PageRow, PageValue, IsValid, find_in, node_at}
use Rattle.page_tree.specs.Edits.{after, changed_at, relabelled}
use Rattle.page_tree.specs.declared.edits.TreeEdit.TheVariants.{Attach, Detach}
use Rattle.shown_pages.specs.declared.modes.Mode.{Mode}
use Rattle.node_binding.specs.Openings.{is_spent, opened_also}
use Rattle.node_binding.specs.Sessions.{Session, IsSession, CanOpen, session_of, begun, reset, document_opened, grown, attached, detached}
use Rattle.node_binding.specs.Sessions.{is_open}
use Rattle.node_binding.specs.Bindings.{BindingValue, Stands, empty_from, in_mode, cleared, started, opened_down, with_bound, all_forgotten}

-- The session is one with the page, and the binding has its opened set and its ids.
pub record BindingStandsFor (page : PageValue) (w : Session) (b : BindingValue) : Type 0 where
  pub session : IsSession (alone page.tree) w
  pub stands : Stands (alone page.tree) w b

-- as the session begins, whatever the page is
abbrev pub BindingBegins : Type 0
BindingBegins = (page : PageValue) → BindingStandsFor page begun (empty_from 1)

-- a reset binding stands for the reset session with every page
abbrev pub Resets : Type 0
Resets = (page other : PageValue) (w : Session) (b : BindingValue) → BindingStandsFor page w b
    → BindingStandsFor other (reset w) (cleared b)

-- where nothing is known, a binding in another mode stands for the same session, with every page
abbrev pub ChangesMode : Type 0
ChangesMode = (mode : Mode) (page other : PageValue) (w : Session) (b : BindingValue) → w.opened ≡ None → BindingStandsFor page w b
    → BindingStandsFor other w (in_mode mode b)

-- the document is opened, also of another page than the one before
abbrev pub Starts : Type 0
Starts = (d : Option ℕ) (page other : PageValue) (w : Session) (b : BindingValue) → is_spent d ≡ false → IsValid other
    → BindingStandsFor page w b
    → BindingStandsFor other (document_opened d (alone other.tree) w) (started d (alone other.tree) b)

-- a container x that is known and not opened is opened by d levels
abbrev pub OpensDown : Type 0
OpensDown = (d : Option ℕ) (page : PageValue) (x : Branch PageRow) (o : ℕ → Bool) (pushed : List ℕ) (since : ℕ) (b : BindingValue)
    → is_spent d ≡ false → IsValid page → CanOpen (alone page.tree) o x
    → BindingStandsFor page (session_of o pushed since) b
    → BindingStandsFor page (grown o (opened_also d x o) (alone page.tree) (session_of o pushed since)) (opened_down d x b)

-- After an attach of x below an opened parent, which leaves the page valid, x gets the next id. It is not opened, nor is
-- anything below it.
abbrev pub BindsChild : Type 0
BindsChild = (page : PageValue) (parent before : ℕ) (x : Branch PageRow) (w : Session) (b : BindingValue) → IsValid page
    → IsValid (after (Attach parent before x) page) → is_open w.opened parent ≡ true
    → BindingStandsFor page w b
    → BindingStandsFor (after (Attach parent before x) page) (attached x.row.serial w) (with_bound x.row.serial b)

-- an attach below a node that is not opened changes nothing
abbrev pub PassesAttach : Type 0
PassesAttach = (page : PageValue) (parent before : ℕ) (x : Branch PageRow) (w : Session) (b : BindingValue) → IsValid page
    → IsValid (after (Attach parent before x) page) → IsSome (find_in parent page.tree)
    → is_open w.opened parent ≡ false
    → BindingStandsFor page w b → BindingStandsFor (after (Attach parent before x) page) w b

-- A detach of a node that is not the document: neither it nor what is below it is known or opened any more.
abbrev pub Forgets : Type 0
Forgets = (page : PageValue) (serial : ℕ) (w : Session) (b : BindingValue) → IsValid page → IsSome (find_in serial page.tree)
    → serial ≢ page.tree.row.serial
    → BindingStandsFor page w b
    → BindingStandsFor (after (Detach serial) page) (detached (node_at serial page.tree) w)
    (all_forgotten (alone (node_at serial page.tree)) b)

-- another label of the same kind changes nothing
abbrev pub PassesLabel : Type 0
PassesLabel = (page : PageValue) (serial : ℕ) (label : Label → Label) (w : Session) (b : BindingValue)
    → ((l : Label) → (label l).kind ≡ l.kind) → IsValid page → IsSome (find_in serial page.tree)
    → BindingStandsFor page w b
    → BindingStandsFor (record page { tree = changed_at serial (relabelled label) page.tree }) w b
