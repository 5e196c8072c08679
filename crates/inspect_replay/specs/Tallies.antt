-- The six numbers of a drill, and the lines that tell them.
use Rattle.std.specs.Prelude.{◌≡◌, ℕ, ◌+◌, Bool, true, false, not, List}
use Rattle.std.specs.Prelude.{[], ◌∷◌, ◌++◌, length, codes, decimal, Option, Some, None, Ok}
use Rattle.std.specs.Io.KnownBytes.{Appends}
use Rattle.node_tree.specs.Nodes.{Nodes, none, node}
use Rattle.node_tree.specs.Seen.{Seen, is_opened}
use Rattle.cdp_messages.specs.Replies.{Message, reply, fault, event, down_of}
use Rattle.front_mirror.specs.declared.panels.PanelKind.{PanelKind}
use Rattle.front_mirror.specs.declared.replies.Kept.{Kept}
use Rattle.front_mirror.specs.Front.{FrontValue}
use Rattle.front_mirror.specs.Panels.{one_where}
use Rattle.back_end.specs.States.{view_of}
use Rattle.replay_script.specs.Forms.{LineForm}
use Rattle.drill_script.specs.DrillLines.{drill_lines}
use Rattle.drill_script.specs.DrillPages.{drill_page}
use Rattle.session_runs.specs.World.{settled}
use Rattle.inspect_world.specs.World.{World}
use Rattle.inspect_world.specs.RunStates.{RunState, run_step}
use Rattle.inspect_world.specs.ShownPauses.{pauses_in}
use Rattle.inspect_world.specs.ShownReplies.{ShownReply, replies_in}
use Rattle.inspect_world.specs.Scripts.{loaded_world, after_lines}
use Rattle.inspect_replay.specs.Followed.{Passed}

-- how many known nodes there are, and how many of them are opened
pub record Known : Type 0 where
  pub nodes : ℕ
  pub opened : ℕ

-- of one node
abbrev pub row_known : Seen → Known
row_known r = record { nodes = 1; opened = one_where (is_opened r.hold) }

-- of both
abbrev pub plus : Known → Known → Known
plus a b = record { nodes = a.nodes + b.nodes; opened = a.opened + b.opened }

-- of these trees
abbrev pub known_in : Nodes Seen → Known
known_in none = record { nodes = 0; opened = 0 }
known_in (node r c t) = record {
  nodes = 1 + (known_in c).nodes + (known_in t).nodes;
  opened = one_where (is_opened r.hold) + (known_in c).opened + (known_in t).opened;
}

-- the numbers: of known nodes, of opened ones, of sheets, of Ok replies, of error replies, and of pauses
pub record Tally : Type 0 where
  pub known : Known
  pub sheets : ℕ
  pub replies : ℕ
  pub errors : ℕ
  pub pauses : ℕ

-- the line of one of them
abbrev pub tally_line : List ℕ → ℕ → List ℕ
tally_line word n = word ++ decimal n ++ 10 ∷ []

-- the six lines
abbrev pub tally_text : Tally → List ℕ
tally_text t =
    tally_line (codes "nodes ") t.known.nodes ++ tally_line (codes "opened ") t.known.opened ++ tally_line (codes "sheets ") t.sheets
    ++ tally_line (codes "replies ") t.replies ++ tally_line (codes "errors ") t.errors ++ tally_line (codes "pauses ") t.pauses

-- how many pass the test
abbrev pub how_many : {A : Type 0} → (A → Bool) → List A → ℕ
how_many test [] = 0
how_many test (x ∷ xs) = one_where (test x) + how_many test xs

-- ---- what a front end shows

-- a reply is no error reply
abbrev pub is_good : Kept → Bool
is_good k = k.good

-- or it is one
abbrev pub is_bad : Kept → Bool
is_bad k = not k.good

-- the numbers of a front end
abbrev pub tally_of : FrontValue → Tally
tally_of v = record {
  known = known_in v.tree;
  sheets = length v.sheets;
  replies = how_many is_good v.replies;
  errors = how_many is_bad v.replies;
  pauses = length v.pauses;
}

-- ---- what the page and the messages say

-- the message is an Ok reply
abbrev pub is_reply : Option Message → Bool
is_reply None = false
is_reply (Some (reply id result)) = true
is_reply (Some (fault id code said)) = false
is_reply (Some (event n)) = false

-- a reply that came down is an Ok reply
abbrev pub is_ok : ShownReply → Bool
is_ok t = is_reply (down_of t.text)

-- or an error reply
abbrev pub is_error : ShownReply → Bool
is_error t = not (is_reply (down_of t.text))

-- the numbers of a run, in which no front end takes part: what the client sees of the page, and what came down
abbrev pub tally_in : World RunState → Tally
tally_in w = record {
  known = known_in (view_of w.state.back).tree;
  sheets = length (view_of w.state.back).sheets;
  replies = how_many is_ok (replies_in w.down.given);
  errors = how_many is_error (replies_in w.down.given);
  pauses = length (pauses_in w.down.given);
}

-- what is written after these lines, from that world on
abbrev pub tallied : List LineForm → World RunState → List ℕ
tallied lines w = tally_text (tally_in (settled run_step (after_lines lines w)))

-- what a drill with so many divs writes, with panels of these kinds
abbrev pub drill_text : List PanelKind → ℕ → List ℕ
drill_text kinds n = tallied (drill_lines n) (loaded_world kinds (drill_page n))

-- what was written are the numbers of what the fold shows
pub record TalliesShown (before after : Option (List ℕ)) (passed : Passed) : Type 0 where
  pub value : FrontValue
  pub is_fold : passed.fold ≡ Ok value
  pub printed : Appends before after (tally_text (tally_of value))
