-- How many bytes the lines of a script have at least, by what they say.
use Rattle.std.specs.Prelude.{ℕ, ◌+◌, List, [], ◌∷◌, length, false, Result, Ok, Err}
use Rattle.cdp_messages.specs.declared.command.Command.{Command}
use Rattle.cdp_messages.specs.declared.command.Why.{Why}
use Rattle.cdp_messages.specs.Asked.{command_of}
use Rattle.back_end.specs.Laws.{most_edits}
use Rattle.replay_script.specs.Forms as forms
use Rattle.replay_script.specs.Forms.{AskForm, LineForm, load, ask, up, down, settle, show_front, show_page, show_sheets, show_replies}
use Rattle.replay_script.specs.Forms.{show_pauses, show_panels, show_styles, close}

-- how many edits a command comes to at most; a refusal comes to none
abbrev pub edits_commanded : Result Command Why → ℕ
edits_commanded (Ok c) = most_edits c
edits_commanded (Err why) = 0

-- how many edits an ask comes to at most
unfoldable pub ask_edits : AskForm → ℕ
ask_edits a = edits_commanded (command_of false a.method a.params a.session)

-- any line that is carried out is an object with a property
abbrev pub least_line : ℕ
least_line = 4

-- how many bytes an ask has at least: its parameters have a byte for each edit
abbrev pub ask_cost : AskForm → ℕ
ask_cost a = least_line + ask_edits a

-- A line has at least so many bytes.
abbrev pub line_cost : LineForm → ℕ
line_cost (load page) = least_line
line_cost (forms.act a) = least_line
line_cost (ask a) = ask_cost a
line_cost (forms.raw text) = least_line
line_cost (up n) = least_line
line_cost (down n) = least_line
line_cost settle = least_line
line_cost show_front = least_line
line_cost show_page = least_line
line_cost show_sheets = least_line
line_cost show_replies = least_line
line_cost show_pauses = least_line
line_cost show_panels = least_line
line_cost (show_styles k) = least_line
line_cost (close k) = least_line

-- how many bytes lines have at least
abbrev pub lines_cost : List LineForm → ℕ
lines_cost [] = 0
lines_cost (line ∷ lines) = lines_cost lines + line_cost line

-- the bytes of the lines of an input
abbrev pub line_bytes : List (List ℕ) → ℕ
line_bytes [] = 0
line_bytes (line ∷ lines) = line_bytes lines + length line
