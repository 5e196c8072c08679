-- The lines of a script with two front ends: an attach, a detach, and the lines of any script, each of which speaks of one of the two.
use Rattle.std.specs.Prelude.{ℕ, ◌==◌, List, [], ◌∷◌, Bool, true, false, ◌&&◌, ◌||◌, not, cond, codes, bytes_eq, nat_eq}
use Rattle.std.specs.Prelude.{Option, Some, None, is_none, option_map, option_and_then, if◌then◌else◌, ⊤}
use Rattle.std.specs.List.{starts_with}
use Rattle.serde_json.specs.Data.{Data}
use Rattle.serde_json.specs.Written.{has_float}
use Rattle.node_tree.specs.Keys.{first_of, first_true}
use Rattle.cdp_json.specs.Kinds.{Kind, anything, whole, refined, only_text, as_true, holds_of_some, if_holds}
use Rattle.cdp_json.specs.Rows.{ends, and_need, object_of}
use Rattle.cdp_messages.specs.Asked.{json_of}
use Rattle.cdp_messages.specs.Events.{is_object}
use Rattle.replay_script.specs.declared.line_kinds.LineKind.{LineKind}
use Rattle.replay_script.specs.declared.line_kinds.LineKind.TheVariants as kind
use Rattle.replay_script.specs.declared.faults.LineFault.{LineFault}
use Rattle.replay_script.specs.declared.faults.LineFault.TheVariants.{NotLoad, BadForm, BadSession}
use Rattle.replay_script.specs.Kinds.{sole}
use Rattle.replay_script.specs.Forms.{AskForm, LineForm, load, act, ask, raw, up, down, settle, show_front, show_page, show_sheets}
use Rattle.replay_script.specs.Forms.{show_replies, show_pauses, show_panels, show_styles, close, form_by, form_of}
use Rattle.replay_script.specs.Faults.{fault_of_data, json_fault}
use Rattle.replay_script.specs.Script.{want_fault, styles_fault}

-- what a line says
pub data PairForm : Type 0 where
  -- a session is attached, and so a second front made
  attach_session : PairForm
  -- the second front's session is detached
  detach_session : PairForm
  -- a line of any script; what it asks and shows is the first front's
  of_first : LineForm → PairForm
  -- an ask or a show of the second front
  of_second : LineForm → PairForm

-- ---- `{"attach":true}` and `{"detach":true}`

-- the form of an only property by its name, with its value
abbrev pub target_said : List ℕ × Data → Option PairForm
target_said p =
    if bytes_eq p.0 (codes "attach") then option_map (λ _. attach_session) (as_true p.1)
    else if bytes_eq p.0 (codes "detach") then option_map (λ _. detach_session) (as_true p.1)
    else None

-- the attach or the detach that a value spells
abbrev pub target_in : Data → Option PairForm
target_in d = option_and_then target_said (sole d)

-- ---- `{"ask":ASK,"on":2}`, `{"on":2,"show":WORD}` and `{"ask":k,"on":2,"show":"styles"}`

-- this number names the second front
abbrev pub is_two : ℕ → Bool
is_two n = n == 2

-- the second front's number as JSON
abbrev pub two : Kind ℕ
two = refined whole is_two

-- an ask of the second front, with what it asks
abbrev pub ask_on_two : Kind (Data × (ℕ × ⊤))
ask_on_two = object_of (and_need (codes "ask") anything (and_need (codes "on") two ends))

-- a show of the second front, with its word
abbrev pub show_on_two : Kind (ℕ × (Data × ⊤))
show_on_two = object_of (and_need (codes "on") two (and_need (codes "show") anything ends))

-- a show of matched styles of the second front, with its ask
abbrev pub styles_on_two : Kind (Data × (ℕ × (⊤ × ⊤)))
styles_on_two =
    object_of (and_need (codes "ask") anything (and_need (codes "on") two (and_need (codes "show") (only_text (codes "styles")) ends)))

-- the kind of a line of the second front, with the value that it says
abbrev pub said_on_two : Data → Option (LineKind × Data)
said_on_two d =
    first_of (option_map (λ f. (kind.Styles, f.0)) (styles_on_two.reads d))
    (first_of (option_map (λ f. (kind.Ask, f.0)) (ask_on_two.reads d)) (option_map (λ f. (kind.Show, f.1.0)) (show_on_two.reads d)))

-- ---- which forms a front has

-- the method is one of those that attach sessions and detach them, or one like them
abbrev pub is_target_method : List ℕ → Bool
is_target_method method = starts_with nat_eq method (codes "Target.")

-- an ask that names no session, and no method that deals with sessions
abbrev pub may_ask : AskForm → Bool
may_ask a = is_none a.session && not (is_target_method a.method)

-- one that the second front may send: what is no object of parameters could be refused without a session
abbrev pub may_ask_second : AskForm → Bool
may_ask_second a = may_ask a && holds_of_some is_object a.params

-- a form that a line may have where it names no front
abbrev pub may_be_first : LineForm → Bool
may_be_first (load page) = true
may_be_first (act a) = true
may_be_first (ask a) = may_ask a
may_be_first (raw text) = true
may_be_first (up n) = true
may_be_first (down n) = true
may_be_first settle = true
may_be_first show_front = true
may_be_first show_page = true
may_be_first show_sheets = true
may_be_first show_replies = true
may_be_first show_pauses = true
may_be_first show_panels = true
may_be_first (show_styles k) = true
may_be_first (close k) = true

-- a form that a line of the second front may have: it has no panels, and the page is the same for both
abbrev pub may_be_second : LineForm → Bool
may_be_second (load page) = false
may_be_second (act a) = false
may_be_second (ask a) = may_ask_second a
may_be_second (raw text) = false
may_be_second (up n) = false
may_be_second (down n) = false
may_be_second settle = false
may_be_second show_front = true
may_be_second show_page = false
may_be_second show_sheets = true
may_be_second show_replies = true
may_be_second show_pauses = true
may_be_second show_panels = false
may_be_second (show_styles k) = true
may_be_second (close k) = false

-- the form of a line that names no front, by its JSON
abbrev pub first_form : Data → Option LineForm
first_form d = option_and_then (if_holds may_be_first) (form_of d)

-- the form of a line of the second front, by its kind and the value that it says
abbrev pub second_form : LineKind × Data → Option LineForm
second_form s = option_and_then (if_holds may_be_second) (form_by s.0 s.1)

-- ---- the form of a line

-- the form of a line, by the attach or the detach that it is, or by what it says of the second front
abbrev pub form_with : Option PairForm → Option (LineKind × Data) → Data → Option PairForm
form_with (Some target) said d = Some target
form_with None (Some s) d = option_map of_second (second_form s)
form_with None None d = option_map of_first (first_form d)

-- the form of a line by its JSON
abbrev pub pair_form_of : Data → Option PairForm
pair_form_of d = form_with (target_in d) (said_on_two d) d

-- the form of a line
abbrev pub pair_line_form : List ℕ → Option PairForm
pair_line_form line = option_and_then pair_form_of (json_of line)

-- ---- why a line is refused: the first that applies

-- a line that may not be carried out has none of the forms
abbrev pub bad_form : Option LineForm → Option LineFault
bad_form form = first_true ((BadForm, is_none form) ∷ [])

-- a first line is to load a page
abbrev pub target_fault : ℕ → Option LineFault
target_fault number = first_true ((NotLoad, number == 1) ∷ [])

-- a line of the second front has a form that it may have, with whole numbers; none of these loads a page or sends a raw text
abbrev pub second_fault : ℕ → Data → LineKind × Data → Option LineFault
second_fault number d s = first_true ((NotLoad, number == 1) ∷ (BadForm, has_float d || is_none (second_form s)) ∷ [])

-- any other line has the faults of a line of any script; one that has none of these may be an ask that no front may send
abbrev pub first_fault : ℕ → Data → Option LineFault
first_fault number d = first_of (fault_of_data number d) (bad_form (first_form d))

-- the fault of a line of that number, by the attach or the detach that it is, or by what it says of the second front
abbrev pub fault_with : Option PairForm → Option (LineKind × Data) → ℕ → Data → Option LineFault
fault_with (Some target) said number d = target_fault number
fault_with None (Some s) number d = second_fault number d s
fault_with None None number d = first_fault number d

-- the first fault of the line of that number, by its JSON
abbrev pub pair_fault_of_data : ℕ → Data → Option LineFault
pair_fault_of_data number d = fault_with (target_in d) (said_on_two d) number d

-- the first fault of the line of that number
abbrev pub pair_line_fault : ℕ → List ℕ → Option LineFault
pair_line_fault number line = first_of (json_fault line) (option_and_then (pair_fault_of_data number) (json_of line))

-- ---- lines that are in form, and are refused where they are carried out

-- What a line of that kind meets: whether a second front stands, the panels of the first front that stand open, and of which asks of either
-- front a reply told matched styles.
pub record Met (K : Type 0) : Type 0 where
  pub stands : Bool
  pub panels : List (Option K)
  pub first_came : ℕ → Bool
  pub second_came : ℕ → Bool

-- an attach meets no second front that stands; a detach and a line of the second front meet one
abbrev pub session_fault : Bool → PairForm → Option LineFault
session_fault stands attach_session = cond stands (Some BadSession) None
session_fault stands detach_session = cond stands None (Some BadSession)
session_fault stands (of_second form) = cond stands None (Some BadSession)
session_fault stands (of_first form) = None

-- the fault of a line of any script, by what it meets: the second front has no panels
abbrev pub front_fault : {K : Type 0} → Met K → PairForm → Option LineFault
front_fault met attach_session = None
front_fault met detach_session = None
front_fault met (of_first form) = want_fault met.first_came met.panels form
front_fault met (of_second form) = styles_fault met.second_came form

-- the fault of a line that is in form
abbrev pub pair_want_fault : {K : Type 0} → Met K → PairForm → Option LineFault
pair_want_fault met form = first_of (session_fault met.stands form) (front_fault met form)
