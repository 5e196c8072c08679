-- Why a line is refused: the first that applies, in the order of the lists here.
use Rattle.std.specs.Prelude.{ℕ, ◌==◌, List, [], ◌∷◌, Bool, false, ◌&&◌, ◌||◌, not, Option, Some, None, is_none, is_some, option_map}
use Rattle.std.specs.Prelude.{option_and_then, codes, if◌then◌else◌}
use Rattle.std.specs.Option.{option_map_or}
use Rattle.std.specs.List.{list_any}
use Rattle.serde_json.specs.Data.{Data}
use Rattle.serde_json.specs.Find.{get, as_number, as_str}
use Rattle.serde_json.specs.Written.{has_float}
use Rattle.node_tree.specs.Keys.{first_of, first_true}
use Rattle.page_tree.specs.declared.faults.LoadFault.{LoadFault}
use Rattle.page_forms.specs.Pages.{page_fault}
use Rattle.cdp_messages.specs.Asked.{json_of}
use Rattle.replay_script.specs.declared.line_kinds.LineKind.{LineKind}
use Rattle.replay_script.specs.declared.line_kinds.LineKind.TheVariants as kind
use Rattle.replay_script.specs.Kinds.{is_load, said}
use Rattle.replay_script.specs.Forms.{form_by}
use Rattle.replay_script.specs.declared.faults.LineFault.{LineFault}
use Rattle.replay_script.specs.declared.faults.LineFault.TheVariants.{NotJson, NotLoad, BadForm, BadLoad, BadRaw}

-- a line has a form; each load has one, and its page's own faults come later
abbrev pub has_form : LineKind → Data → Bool
has_form kind v = is_load kind || is_some (form_by kind v)

-- ---- frames that a line may not send

-- a zero byte
abbrev pub is_zero : ℕ → Bool
is_zero byte = byte == 0

-- a number that is spelled without point and exponent
abbrev pub is_whole_number : Data → Bool
is_whole_number d = is_some (as_number d) && not (has_float d)

-- an object whose `id` is a whole number
abbrev pub has_whole_id : Data → Bool
has_whole_id d = option_map_or is_whole_number (get (codes "id") d) false

-- a text that holds U+0000, or reads as such an object
abbrev pub is_no_frame : List ℕ → Bool
is_no_frame text = list_any is_zero text || option_map_or has_whole_id (json_of text) false

-- ---- by the kind of a line

-- the page of a load
abbrev pub page_by : LineKind → Data → Option Data
page_by kind v = if is_load kind then Some v else None

-- the text of a raw line
abbrev pub raw_by : LineKind → Data → Option (List ℕ)
raw_by kind.Load v = None
raw_by kind.Act v = None
raw_by kind.Ask v = None
raw_by kind.Raw v = as_str v
raw_by kind.Up v = None
raw_by kind.Down v = None
raw_by kind.Settle v = None
raw_by kind.Show v = None
raw_by kind.Close v = None
raw_by kind.Styles v = None

-- the first fault of what a line says, where all its numbers are whole
abbrev pub fault_by : LineKind → Data → Option LineFault
fault_by kind v =
    first_of (first_true ((BadForm, not (has_form kind v)) ∷ []))
    (first_of (option_map BadLoad (option_and_then page_fault (page_by kind v)))
    (first_true ((BadRaw, option_map_or is_no_frame (raw_by kind v) false) ∷ [])))

-- ---- any line

-- the page of a line that loads one
abbrev pub page_of : Data → Option Data
page_of d = option_and_then (λ s. page_by s.0 s.1) (said d)

-- the first fault of the page that a line loads
abbrev pub load_fault : Data → Option LoadFault
load_fault d = option_and_then page_fault (page_of d)

-- the line has one of the forms
abbrev pub is_formed : Data → Bool
is_formed d = option_map_or (λ s. has_form s.0 s.1) (said d) false

-- a line sends a text that may not be sent
abbrev pub sends_no_frame : Data → Bool
sends_no_frame d = option_map_or is_no_frame (option_and_then (λ s. raw_by s.0 s.1) (said d)) false

-- the first fault of the line of that number, by its JSON
abbrev pub fault_of_data : ℕ → Data → Option LineFault
fault_of_data number d =
    first_of (first_true
    ((NotLoad, number == 1 && is_none (page_of d))
    ∷ (BadForm, has_float d || not (is_formed d))
    ∷ []))
    (first_of (option_map BadLoad (load_fault d))
    (first_true ((BadRaw, sends_no_frame d) ∷ [])))

-- bytes that are no JSON
abbrev pub json_fault : List ℕ → Option LineFault
json_fault line = first_true ((NotJson, is_none (json_of line)) ∷ [])

-- the first fault of the line of that number
abbrev pub line_fault : ℕ → List ℕ → Option LineFault
line_fault number line = first_of (json_fault line) (option_and_then (fault_of_data number) (json_of line))
