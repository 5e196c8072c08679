-- What serves a session by its binding is the step of the session.
use Rattle.std.specs.Prelude.{◌≡◌, ℕ, ◌+◌, ◌≤◌, ◌<◌, Bool, true, List, map, length, ⊤, Some, IsSome}
use Rattle.node_tree.specs.Numbers.{counted_limit}
use Rattle.cdp_json.specs.Kinds.{is_counted}
use Rattle.node_tree.specs.Nodes.{Nodes, none, node, Branch, alone, node_count}
use Rattle.node_tree.specs.Keys.{has}
use Rattle.selectors.specs.Forms.{SelectorForm}
use Rattle.page_tree.specs.Pages.{PageRow, row_serial, PageValue, IsValid, find_in}
use Rattle.node_binding.specs.Sessions.{Session, IsSession, view}
use Rattle.node_binding.specs.Bindings.{BindingValue, Stands}
use Rattle.cdp_messages.specs.declared.dom_ask.DomAsk.{DomAsk}
use Rattle.cdp_messages.specs.declared.dom_ask.DomAsk.TheVariants.{GetDocument, RequestChildNodes, PushByPath, PushBySerials, QuerySelector}
use Rattle.cdp_messages.specs.declared.dom_ask.DomAsk.TheVariants.{QuerySelectorAll, GetAttributes, DescribeNode}
use Rattle.cdp_messages.specs.DomAsks.{fits_ask, ask_name}
use Rattle.node_tree.specs.Labels.{LabelHasUtf8}
use Rattle.cdp_messages.specs.Laws.{answers}
use Rattle.cdp_messages.specs.declared.down.ReplyBody.TheVariants.{Root}
use Rattle.client_views.specs.Views.{ShownSheet, sheet_number, AreSheets, View, is_distinct}
use Rattle.client_views.specs.Moves.{Course}
use Rattle.dom_objects.specs.Told.{told_branch}
use Rattle.dom_agent.specs.Keepers.{session_keeper, binding_keeper}
use Rattle.dom_agent.specs.Queries.{first_matching}
use Rattle.dom_agent.specs.Requests.{Outcome, shows_root, served, refused, pushed, outcome, state_after, moves_of}

-- what a command comes to for a session with the page
abbrev pub session_outcome : PageValue → Branch PageRow → DomAsk → Session → Outcome Session
session_outcome page whole c w = outcome (session_keeper (alone page.tree)) page.tree whole c w

-- what a command comes to for a binding with the page
abbrev pub binding_outcome : PageValue → Branch PageRow → DomAsk → BindingValue → Outcome BindingValue
binding_outcome page whole c b = outcome (binding_keeper (alone page.tree)) page.tree whole c b

-- Where the document is asked for, the depth is in its range; of other asks no parameter matters.
abbrev pub has_depth : DomAsk → Bool
has_depth (GetDocument depth pierce) = fits_ask (GetDocument depth pierce)
has_depth (RequestChildNodes id depth pierce) = true
has_depth (PushByPath path) = true
has_depth (PushBySerials serials) = true
has_depth (QuerySelector id text) = true
has_depth (QuerySelectorAll id text) = true
has_depth (GetAttributes id) = true
has_depth (DescribeNode id serial depth pierce) = true

-- what a query finds first in the whole page, below a node of the document, stands in the document
abbrev pub FindsInside : Branch PageRow → Branch PageRow → Type 0
FindsInside whole document = (selectors : List SelectorForm) (root s : ℕ) → IsSome (find_in root document)
    → first_matching selectors root whole ≡ Some s → has row_serial s (alone document) ≡ true

-- a session stays one
abbrev pub StaysSession : Type 0
StaysSession = (page : PageValue) (whole : Branch PageRow) (c : DomAsk) (w : Session) → IsValid page → has_depth c ≡ true
    → IsSession (alone page.tree) w
    → IsSession (alone page.tree) (state_after w (session_outcome page whole c w))

-- the binding stands for the session after the step
abbrev pub StaysBound : Type 0
StaysBound = (page : PageValue) (whole : Branch PageRow) (c : DomAsk) (w : Session) (b : BindingValue) → FindsInside whole page.tree
    → IsValid page → has_depth c ≡ true
    → IsSession (alone page.tree) w
    → Stands (alone page.tree) w b
    → Stands (alone page.tree) (state_after w (session_outcome page whole c w)) (state_after b (binding_outcome page whole c b))

-- what is told of a command are the moves of the session's step
abbrev pub SameMoves : Type 0
SameMoves = (page : PageValue) (whole : Branch PageRow) (c : DomAsk) (w : Session) (b : BindingValue) (id : ℕ) → FindsInside whole page.tree
    → IsValid page → has_depth c ≡ true
    → IsSession (alone page.tree) w
    → Stands (alone page.tree) w b → moves_of id (binding_outcome page whole c b) ≡ moves_of id (session_outcome page whole c w)

-- no command draws more ids than the page has nodes
abbrev pub DrawsFew : Type 0
DrawsFew = (page : PageValue) (whole : Branch PageRow) (c : DomAsk) (w : Session) → IsValid page → has_depth c ≡ true
    → IsSession (alone page.tree) w
    → length (state_after w (session_outcome page whole c w)).pushed ≤ length w.pushed + node_count (alone page.tree)

-- no command changes the mode
abbrev pub CommandKeepsMode : Type 0
CommandKeepsMode = (page : PageValue) (whole : Branch PageRow) (c : DomAsk) (b : BindingValue)
    → (state_after b (binding_outcome page whole c b)).mode ≡ b.mode

-- nor does a push
abbrev pub PushKeepsMode : Type 0
PushKeepsMode = (page : PageValue) (serial : ℕ) (b : BindingValue)
    → (pushed (binding_keeper (alone page.tree)) page.tree serial b).state.mode ≡ b.mode

-- ---- a step is a list of moves

-- the texts of all nodes are UTF-8
abbrev pub RowsHaveUtf8 : Nodes PageRow → Type 0
RowsHaveUtf8 none = ⊤
RowsHaveUtf8 (node r c t) = LabelHasUtf8 r.label × RowsHaveUtf8 c × RowsHaveUtf8 t

-- messages can tell all of the page: its serials and the ids to come are below 2^53, and its texts are UTF-8
pub record CanTell (page : PageValue) (w : Session) : Type 0 where
  pub serials : page.next ≤ counted_limit
  pub ids : length w.pushed + node_count (alone page.tree) < counted_limit
  pub texts : RowsHaveUtf8 (alone page.tree)

-- what the client of a session sees of a page, beside these sheets
abbrev pub session_view : Session → PageValue → List ShownSheet → View
session_view w page sheets = record { tree = view w (alone page.tree); sheets = sheets }

-- messages can tell these sheets, and no two of them have one number
pub record CanTellSheets (sheets : List ShownSheet) : Type 0 where
  pub are : AreSheets sheets
  pub apart : is_distinct (map sheet_number sheets) ≡ true

-- by the moves that answer a command the view comes to what it is after the step, and messages can tell each view in between
abbrev pub StepsAreMoves : Type 0
StepsAreMoves =
    (page : PageValue) (whole : Branch PageRow) (ask : DomAsk) (w : Session) (id : ℕ) (sheets : List ShownSheet) → IsValid page
    → has_depth ask ≡ true
    → IsSession (alone page.tree) w → CanTell page w → is_counted id ≡ true → CanTellSheets sheets
    → let o = session_outcome page whole ask w in
    Course (moves_of id o) (session_view w page sheets) (session_view (state_after w o) page sheets)

-- ---- the reply

-- the reply is one of the command's method
abbrev pub IsReplyTo : DomAsk → Outcome Session → Type 0
IsReplyTo ask (shows_root b p) = answers (ask_name ask) (Root (told_branch 0 b)) ≡ true
IsReplyTo ask (served p body) = answers (ask_name ask) body ≡ true
IsReplyTo ask (refused why) = ⊤

-- each command is refused, or its reply is one of its method
abbrev pub RepliesAnswer : Type 0
RepliesAnswer =
    (page : PageValue) (whole : Branch PageRow) (ask : DomAsk) (w : Session) → IsValid page → has_depth ask ≡ true
    → IsSession (alone page.tree) w
    → IsReplyTo ask (session_outcome page whole ask w)
