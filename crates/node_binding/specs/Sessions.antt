-- What one client's session has of the page: what is opened, and the ids.
use Rattle.std.specs.Prelude.{◌≡◌, ℕ, ◌≤◌, ◌<◌, Bool, true, false, cond, ◌==◌, List, [], ◌∷◌, ◌++◌, option_map, length, drop, find, Option}
use Rattle.std.specs.Prelude.{Some, None, IfSome}
use Rattle.node_tree.specs.Nodes.{Nodes, none, Branch}
use Rattle.node_tree.specs.Keys.{find as find_node}
use Rattle.node_tree.specs.Labels.{holds}
use Rattle.node_tree.specs.Seen.{Seen}
use Rattle.page_tree.specs.Pages.{PageRow, row_serial}
use Rattle.node_binding.specs.Counts.{stands_in, last_standing}
use Rattle.node_binding.specs.Cuts.{known, shown_anew, cut}
use Rattle.node_binding.specs.Openings.{above, opened_without, IsOpenedSet}
use Rattle.node_binding.specs.Ids.{id_of}

-- The opened set, if anything is known; all serials pushed since the session began; their number at the last reset.
pub record Session : Type 0 where
  pub opened : Option (ℕ → Bool)
  pub pushed : List ℕ
  pub since : ℕ

-- one in which the document is opened
abbrev pub session_of : (ℕ → Bool) → List ℕ → ℕ → Session
session_of o pushed since = record { opened = Some o; pushed = pushed; since = since }

-- s is in the opened set; nothing is where there is no such set
abbrev pub is_open : Option (ℕ → Bool) → ℕ → Bool
is_open None s = false
is_open (Some o) s = o s

-- the known nodes, in document order; none where nothing is opened
abbrev pub known_by : Option (ℕ → Bool) → Nodes PageRow → List ℕ
known_by None n = []
known_by (Some o) n = known o n

-- what a client sees of the page, with the ids by i; nothing where nothing is opened
abbrev pub cut_by : Option (ℕ → Bool) → (ℕ → ℕ) → Nodes PageRow → Nodes Seen
cut_by None i n = none
cut_by (Some o) i n = cut o i n

-- the id of a serial, which counts where the node is known
abbrev pub session_ids : Session → ℕ → ℕ
session_ids w s = id_of w.pushed w.since s

-- the node s is known
abbrev pub knows : Session → Nodes PageRow → ℕ → Bool
knows w n s = stands_in s (known_by w.opened n)

-- the id of a known node
abbrev pub id_at : Session → Nodes PageRow → ℕ → Option ℕ
id_at w n s = cond (knows w n s) (Some (session_ids w s)) None

-- the known node that has the id
abbrev pub serial_at : Session → Nodes PageRow → ℕ → Option ℕ
serial_at w n id = find (λ s. session_ids w s == id) (known_by w.opened n)

-- the tree that the client sees of the page n
abbrev pub view : Session → Nodes PageRow → Nodes Seen
view w n = cut_by w.opened (session_ids w) n

-- What holds of each session with the page n.
pub record IsSession (n : Nodes PageRow) (w : Session) : Type 0 where
  pub opened_set : IfSome w.opened (λ o. IsOpenedSet o n)
  pub since_then : w.since ≤ length w.pushed
  pub known_stand : (s : ℕ) → knows w n s ≡ true → 0 < last_standing (drop w.since w.pushed) s

-- x stands in the page n; it is a container that is known and not opened
pub record CanOpen (n : Nodes PageRow) (o : ℕ → Bool) (x : Branch PageRow) : Type 0 where
  pub stands : find_node row_serial x.row.serial n ≡ Some x
  pub known_now : stands_in x.row.serial (known o n) ≡ true
  pub container : holds x.row.label.kind ≡ true
  pub shut : o x.row.serial ≡ false

-- ---- what changes a session

-- as it begins
abbrev pub begun : Session
begun = record { opened = None; pushed = []; since = 0 }

-- nothing is known, and the ids so far are dead
abbrev pub reset : Session → Session
reset w = record { opened = None; pushed = w.pushed; since = length w.pushed }

-- reset, and then the containers of a level below d are opened, and all nodes that are known then get their ids
abbrev pub document_opened : Option ℕ → Nodes PageRow → Session → Session
document_opened d n w = record { opened = Some (above d n); pushed = w.pushed ++ known (above d n) n; since = length w.pushed }

-- the opened set grows to p, and all nodes that become known get their ids
abbrev pub grown : (o p : ℕ → Bool) → Nodes PageRow → Session → Session
grown o p n w = record { opened = Some p; pushed = w.pushed ++ shown_anew o p n; since = w.since }

-- a node was attached below an opened one, and gets its id
abbrev pub attached : ℕ → Session → Session
attached s w = record { opened = w.opened; pushed = w.pushed ++ s ∷ []; since = w.since }

-- the tree x goes
abbrev pub detached : Branch PageRow → Session → Session
detached x w = record { opened = option_map (opened_without x) w.opened; pushed = w.pushed; since = w.since }
