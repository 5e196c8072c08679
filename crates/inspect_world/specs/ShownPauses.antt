-- The pauses among the messages that came down, as a show tells them.
use Rattle.std.specs.Prelude.{ℕ, Bool, true, false, List, [], ◌∷◌, ◌++◌, codes, decimal, Option, Some, None}
use Rattle.std.specs.List.{flat_map}
use Rattle.pipe_frames.specs.Frames.{frames_of}
use Rattle.cdp_messages.specs.declared.down.PauseData.{PauseData}
use Rattle.cdp_messages.specs.declared.down.PauseData.TheVariants.{Subtree, Attribute, Removed}
use Rattle.node_tree.specs.declared.watches.WatchKind.TheVariants as watch
use Rattle.cdp_messages.specs.Events.{News, set_children, inserted, removed, count_updated, attribute_modified, attribute_removed}
use Rattle.cdp_messages.specs.Events.{text_modified, document_updated, paused, sheet_added, sheet_changed, sheet_removed}
use Rattle.node_tree.specs.Watches.{watch_name}
use Rattle.cdp_messages.specs.Replies.{Message, reply, fault, event, down_of}
use Rattle.front_mirror.specs.declared.pauses.SeenPause.{SeenPause}

-- the pause that an event tells
abbrev pub pause_told : News → List PauseData
pause_told (set_children parent nodes) = []
pause_told (inserted parent previous b) = []
pause_told (removed parent id) = []
pause_told (count_updated id count) = []
pause_told (attribute_modified id name value) = []
pause_told (attribute_removed id name) = []
pause_told (text_modified id value) = []
pause_told document_updated = []
pause_told (paused why) = why ∷ []
pause_told (sheet_added header) = []
pause_told (sheet_changed number) = []
pause_told (sheet_removed number) = []

-- the pause that a message tells
abbrev pub pauses_of_message : Option Message → List PauseData
pauses_of_message None = []
pauses_of_message (Some (reply id result)) = []
pauses_of_message (Some (fault id code said)) = []
pauses_of_message (Some (event n)) = pause_told n

-- the pause that a frame is
abbrev pub pauses_in_frame : List ℕ → List PauseData
pauses_in_frame frame = pauses_of_message (down_of frame)

-- the pauses among the whole frames of these bytes, in their order
abbrev pub pauses_in : List ℕ → List PauseData
pauses_in bytes = flat_map pauses_in_frame (frames_of bytes).whole

-- ---- what a show prints

-- a truth value in words
abbrev pub flag_word : Bool → List ℕ
flag_word true = codes "true"
flag_word false = codes "false"

-- what is watched, and the node that is
abbrev pub watched_text : List ℕ → ℕ → List ℕ
watched_text kind node = kind ++ codes " " ++ decimal node

-- the node that was put in, taken out or changed, and whether it was put in
abbrev pub target_text : Bool → ℕ → List ℕ
target_text insertion target = codes " target " ++ decimal target ++ codes " insertion " ++ flag_word insertion

-- `attribute-modified ID`, `node-removed ID`, or `subtree-modified ID target ID insertion true` (or `false`)
abbrev pub pause_line : PauseData → List ℕ
pause_line (Subtree node target insertion) = watched_text (watch_name watch.Subtree) node ++ target_text insertion target ++ 10 ∷ []
pause_line (Attribute node) = watched_text (watch_name watch.Attribute) node ++ 10 ∷ []
pause_line (Removed node) = watched_text (watch_name watch.Removed) node ++ 10 ∷ []

-- the lines of some pauses
abbrev pub pause_lines : List PauseData → List ℕ
pause_lines pauses = flat_map pause_line pauses

-- ---- the same of the pauses that a front end keeps

-- of a target, where there is one
abbrev pub target_shown : Bool → Option ℕ → List ℕ
target_shown insertion None = []
target_shown insertion (Some target) = target_text insertion target

-- the line of a pause
abbrev pub seen_pause_line : SeenPause → List ℕ
seen_pause_line p = watched_text (watch_name p.kind) p.node ++ target_shown p.insertion p.target ++ 10 ∷ []

-- the lines of some
abbrev pub seen_pause_lines : List SeenPause → List ℕ
seen_pause_lines pauses = flat_map seen_pause_line pauses
