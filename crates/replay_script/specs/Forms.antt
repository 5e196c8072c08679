-- What a line of a script says: the forms of its JSON.
use Rattle.std.specs.Prelude.{ℕ, List, Option, Some, None, option_map, option_and_then, bytes_eq, codes, if◌then◌else◌, ⊤}
use Rattle.serde_json.specs.Data.{Data}
use Rattle.serde_json.specs.Find.{as_str}
use Rattle.cdp_json.specs.Kinds.{Kind, anything, text, as_whole, as_true}
use Rattle.cdp_json.specs.Rows.{ends, and_need, and_may, object_of}
use Rattle.page_forms.specs.Acts.{act_in}
use Rattle.page_forms.specs.Pages.{LoadedPage, page_in}
use Rattle.page_forms.specs.declared.acts.Act.{Act}
use Rattle.cdp_messages.specs.Asked.{json_of}
use Rattle.replay_script.specs.declared.line_kinds.LineKind.{LineKind}
use Rattle.replay_script.specs.declared.line_kinds.LineKind.TheVariants as kind
use Rattle.replay_script.specs.Kinds.{said}

-- a command that the front end is to send: its method, and its parameters and its session where they are given
pub record AskForm : Type 0 where
  pub method : List ℕ
  pub params : Option Data
  pub session : Option Data

-- what a line says
pub data LineForm : Type 0 where
  -- a new page
  load : LoadedPage → LineForm
  -- a script's change of the page
  act : Act → LineForm
  ask : AskForm → LineForm
  -- this text and a zero byte go up
  raw : List ℕ → LineForm
  -- so many bytes are delivered up, or down
  up : ℕ → LineForm
  down : ℕ → LineForm
  -- all that was sent is delivered
  settle : LineForm
  show_front : LineForm
  show_page : LineForm
  show_sheets : LineForm
  show_replies : LineForm
  show_pauses : LineForm
  show_panels : LineForm
  -- the matched styles that the reply to this ask told
  show_styles : ℕ → LineForm
  -- the panel at this place of those handed in, counted from 1, is dropped
  close : ℕ → LineForm

-- ---- `{"ask":{"method":TEXT,"params":ANY,"sessionId":ANY}}`, where `params` and `sessionId` may be absent

-- a method, and parameters and a session where they are given
abbrev pub AskParts : Type 0
AskParts = List ℕ × (Option Data × (Option Data × ⊤))

-- an ask as JSON
abbrev pub ask_kind : Kind AskParts
ask_kind = object_of (and_need (codes "method") text (and_may (codes "params") anything (and_may (codes "sessionId") anything ends)))

-- the ask of these parts
abbrev pub ask_from : AskParts → AskForm
ask_from p = record { method = p.0; params = p.1.0; session = p.1.1.0 }

-- the ask that a value spells
abbrev pub ask_in : Data → Option AskForm
ask_in d = option_map ask_from (ask_kind.reads d)

-- ---- `{"show":WORD}`

-- the form of a show by its word
abbrev pub show_from : List ℕ → Option LineForm
show_from word =
    if bytes_eq word (codes "front") then Some show_front
    else if bytes_eq word (codes "page") then Some show_page
    else if bytes_eq word (codes "sheets") then Some show_sheets
    else if bytes_eq word (codes "replies") then Some show_replies
    else if bytes_eq word (codes "pauses") then Some show_pauses
    else if bytes_eq word (codes "panels") then Some show_panels
    else None

-- ---- the form of a line

-- The form that the value of a line has by the line's kind. A number is a whole one from 0 to 2^53-1.
abbrev pub form_by : LineKind → Data → Option LineForm
form_by kind.Load page = option_map load (page_in page)
form_by kind.Act v = option_map act (act_in v)
form_by kind.Ask v = option_map ask (ask_in v)
form_by kind.Raw v = option_map raw (as_str v)
form_by kind.Up v = option_map up (as_whole v)
form_by kind.Down v = option_map down (as_whole v)
form_by kind.Settle v = option_map (λ _. settle) (as_true v)
form_by kind.Show v = option_and_then show_from (as_str v)
form_by kind.Close v = option_map close (as_whole v)
form_by kind.Styles v = option_map show_styles (as_whole v)

-- the form of a line by its JSON
abbrev pub form_of : Data → Option LineForm
form_of d = option_and_then (λ s. form_by s.0 s.1) (said d)

-- the form of a line
abbrev pub line_form : List ℕ → Option LineForm
line_form line = option_and_then form_of (json_of line)
