-- What is read of a line, as contracts see it.
use Rattle.std.specs.Prelude.{◌≡◌, ℕ, List, Option, Some, None, option_map, Result, Ok, Err, ⊤}
use Rattle.std.specs.Borrow.{Bor}
use Rattle.serde_json.specs.Data.{Data}
use Rattle.serde_json.specs.View.{view}
use Rattle.serde_json.specs.declared.value.Value.{Value}
use Rattle.page_forms.specs.Pages.{loaded_page}
use Rattle.replay_script.specs.Forms.{AskForm, LineForm, load, act, ask, raw, up, down, settle, show_front, show_page, show_sheets}
use Rattle.replay_script.specs.Forms.{show_replies, show_pauses, show_panels, show_styles, close}
use Rattle.replay_script.specs.declared.line_kinds.LineKind.{LineKind}
use Rattle.replay_script.specs.declared.faults.LineErr.{LineErr}
use Rattle.replay_script.specs.declared.faults.LineErr.TheVariants.{Fault, Memory}
use Rattle.replay_script.specs.declared.faults.LineFault.{LineFault}
use Rattle.replay_script.specs.declared.forms.Ask.{Ask}
use Rattle.replay_script.specs.declared.forms.AskParts.{AskParts}
use Rattle.replay_script.specs.declared.forms.Line.{Line}
use Rattle.replay_script.specs.declared.forms.Line.TheVariants as line

-- a property as code holds it
abbrev pub member_seen : Bor (List ℕ) × Bor Value → List ℕ × Data
member_seen p = (p.0.now, view p.1.now)

-- what a line says as code holds it
abbrev pub said_seen : LineKind × Bor Value → LineKind × Data
said_seen s = (s.0, view s.1.now)

-- an ask, as contracts see it
abbrev pub seen_ask : Ask → AskForm
seen_ask a = record { method = a.method; params = option_map view a.params; session = option_map view a.session }

-- an ask as it is read, before it is copied
abbrev pub parts_form : AskParts → AskForm
parts_form a = record {
  method = a.method.now;
  params = option_map (λ v. view v.now) a.params;
  session = option_map (λ v. view v.now) a.session;
}

-- a line, as contracts see it
abbrev pub seen : Line → LineForm
seen (line.Load page) = load (loaded_page page)
seen (line.Act a) = act a
seen (line.Ask a) = ask (seen_ask a)
seen (line.Raw text) = raw text
seen (line.Up n) = up n
seen (line.Down n) = down n
seen line.Settle = settle
seen line.ShowFront = show_front
seen line.ShowPage = show_page
seen line.ShowSheets = show_sheets
seen line.ShowReplies = show_replies
seen line.ShowPauses = show_pauses
seen line.ShowPanels = show_panels
seen (line.ShowStyles k) = show_styles k
seen (line.Close k) = close k

-- Ok comes where there is no fault, and else the fault; want of memory is free.
abbrev pub RefusesLine : {T : Type 0} → Result T LineErr → Option LineFault → Type 0
RefusesLine (Ok x) fault = fault ≡ None
RefusesLine (Err (Fault f)) fault = fault ≡ Some f
RefusesLine (Err Memory) fault = ⊤
