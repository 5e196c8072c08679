-- What is read of a line of a script with two front ends, and what its form keeps.
use Rattle.std.specs.Prelude.{◌≡◌, ℕ, List, true, Some, None, ⊤}
use Rattle.serde_json.specs.Data.{Data}
use Rattle.serde_json.specs.View.{view}
use Rattle.page_forms.specs.Pages.{LoadedPage}
use Rattle.replay_script.specs.declared.forms.Line.{Line}
use Rattle.replay_script.specs.declared.line_kinds.LineKind.{LineKind}
use Rattle.replay_script.specs.declared.line_kinds.LineKind.TheVariants as kind
use Rattle.replay_script.specs.declared.pair_lines.OnTwo.{OnTwo}
use Rattle.replay_script.specs.declared.pair_lines.OnTwo.TheVariants as on_two
use Rattle.replay_script.specs.declared.pair_lines.PairLine.{PairLine}
use Rattle.replay_script.specs.declared.pair_lines.PairLine.TheVariants as line
use Rattle.replay_script.specs.Forms.{load}
use Rattle.replay_script.specs.Seen.{seen}
use Rattle.replay_script.specs.Sound.{IsSound}
use Rattle.replay_script.specs.PairLines.{PairForm, attach_session, detach_session, of_first, of_second, may_be_first, may_be_second}
use Rattle.replay_script.specs.PairLines.{pair_line_form, pair_line_fault}

-- a line, as contracts see it
abbrev pub pair_seen : PairLine → PairForm
pair_seen line.Attach = attach_session
pair_seen line.Detach = detach_session
pair_seen (line.First read) = of_first (seen read)
pair_seen (line.Second read) = of_second (seen read)

-- what a line of the second front says, as contracts see it
abbrev pub on_two_seen : OnTwo → LineKind × Data
on_two_seen (on_two.Ask v) = (kind.Ask, view v.now)
on_two_seen (on_two.Show v) = (kind.Show, view v.now)
on_two_seen (on_two.Styles v) = (kind.Styles, view v.now)

-- what holds of the line of any script that it is
abbrev pub HoldsOfLine : (Line → Type 0) → PairLine → Type 0
HoldsOfLine P line.Attach = ⊤
HoldsOfLine P line.Detach = ⊤
HoldsOfLine P (line.First read) = P read
HoldsOfLine P (line.Second read) = P read

-- what may be done with the form: what is loaded, changed and sent may be, by the front that it names
abbrev pub IsPairSound : PairForm → Type 0
IsPairSound attach_session = ⊤
IsPairSound detach_session = ⊤
IsPairSound (of_first form) = IsSound form × (may_be_first form ≡ true)
IsPairSound (of_second form) = IsSound form × (may_be_second form ≡ true)

-- each line that is not refused has such a form
abbrev pub PairFormsAreSound : Type 0
PairFormsAreSound = (number : ℕ) (line : List ℕ) (form : PairForm)
    → pair_line_fault number line ≡ None → pair_line_form line ≡ Some form → IsPairSound form

-- a first line that is not refused loads a page
abbrev pub PairFirstIsLoad : Type 0
PairFirstIsLoad = (line : List ℕ) (form : PairForm)
    → pair_line_fault 1 line ≡ None → pair_line_form line ≡ Some form → (page : LoadedPage) × (form ≡ of_first (load page))
