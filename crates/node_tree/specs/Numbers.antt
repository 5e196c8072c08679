-- Numbers that bound something: each by a name that says whose it is, and why it suffices. How deep a page may be says `Levels`.
use Rattle.std.specs.Prelude.{ℕ, ◌+◌, ◌*◌, ◌^◌}

-- ---- what the machine and JSON have

-- numbers of 64 bits are below this
abbrev pub number_limit : ℕ
number_limit = 2 ^ 64

-- signed numbers of 64 bits are below this, and so is the length of all that is in memory
abbrev pub memory_limit : ℕ
memory_limit = 2 ^ 63

-- Whole numbers that a message carries (ids, serials, numbers of sheets, counts) are below this: up to here a double has each of them.
abbrev pub counted_limit : ℕ
counted_limit = 2 ^ 53

-- ---- ids, serials and numbers of sheets

-- So many of each were drawn at most when a step begins. A whole run of a script draws fewer, and seven times as many are left up to
-- `counted_limit` for what the step draws.
abbrev pub drawn_before_step : ℕ
drawn_before_step = 2 ^ 50

-- when one of the edits of a step begins, or a page is loaded
abbrev pub drawn_before_edit : ℕ
drawn_before_edit = 2 * drawn_before_step

-- when an agent is called amid an edit, or a sheet put into the book
abbrev pub drawn_before_call : ℕ
drawn_before_call = 2 * drawn_before_edit

-- when nodes of a page are numbered or become known: with those of one page it stays below `drawn_limit`
abbrev pub drawn_before_nodes : ℕ
drawn_before_nodes = 2 ^ 60

-- no id and no serial reaches this, so that the one after it is a number as well
abbrev pub drawn_limit : ℕ
drawn_limit = 2 ^ 63

-- a push opens at most as many containers as a page has nodes, and each makes at most as many known
abbrev pub drawn_by_push : ℕ
drawn_by_push = 2 ^ 34

-- a pause pushes two nodes
abbrev pub drawn_by_pause : ℕ
drawn_by_pause = 2 * drawn_by_push

-- an edit pauses once, and makes its own nodes known
abbrev pub drawn_by_edit : ℕ
drawn_by_edit = 2 * drawn_by_pause

-- when an edit of a script's act begins: an act comes to fewer than 32 edits
abbrev pub drawn_amid_act : ℕ
drawn_amid_act = drawn_before_step + 32 * drawn_by_edit

-- ---- the history of edits

-- so many edits are kept at most when a step begins: each stands for a byte that was sent, and an input has 2^26
abbrev pub kept_before_step : ℕ
kept_before_step = 2 ^ 30

-- when one more is noted, amid the edits of a step
abbrev pub kept_before_note : ℕ
kept_before_note = 2 * kept_before_step

-- when a group is begun, or edits are joined to it: with as many more as memory has the count is below `memory_limit`
abbrev pub kept_before_group : ℕ
kept_before_group = 2 ^ 62

-- ---- the front end

-- asks have ids below this, and fetches those from here on
abbrev pub first_fetch : ℕ
first_fetch = 2 ^ 30

-- fetches have ids below this, which a message carries
abbrev pub fetch_limit : ℕ
fetch_limit = 2 ^ 52

-- a walk over a mirror ends below this level, wherever it begins
abbrev pub walk_limit : ℕ
walk_limit = 2 ^ 60

-- where one of the ends has no room left, so many bytes were sent up at least
abbrev pub sent_when_full : ℕ
sent_when_full = 2 ^ 28

-- ---- inputs and sheets

-- how many bytes an input has at most
abbrev pub max_input : ℕ
max_input = 2 ^ 26

-- how many bytes a line of it has at most
abbrev pub max_line : ℕ
max_line = 2 ^ 24

-- how many bytes the text of a sheet has at most
abbrev pub max_sheet_bytes : ℕ
max_sheet_bytes = 2 ^ 24

-- how many sheets a page has at most
abbrev pub max_sheets : ℕ
max_sheets = 1000
