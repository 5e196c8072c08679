-- Our own two methods, `Replay.load` and `Replay.act`: what they come to with these parameters, or why they are refused.
use Rattle.std.specs.Prelude.{◌≡◌, List, Option, Some, None, option_map, cond, Result, Ok, Err, ⊤}
use Rattle.serde_json.specs.Data.{Data}
use Rattle.serde_json.specs.Written.{has_float}
use Rattle.cdp_json.specs.Lookups.{then_ok}
use Rattle.page_tree.specs.Pages.{PageValue}
use Rattle.page_tree.specs.declared.faults.LoadFault.{LoadFault}
use Rattle.page_tree.specs.declared.faults.LoadFault.TheVariants as load_fault
use Rattle.page_tree.specs.declared.edit_faults.EditFault.{EditFault}
use Rattle.page_tree.specs.declared.edit_faults.EditFault.TheVariants as edit_fault
use Rattle.sheet_reader.specs.declared.book.SheetEntry.{SheetEntry}
use Rattle.style_edits.specs.declared.faults.SheetFault.{SheetFault}
use Rattle.style_edits.specs.declared.faults.SheetFault.TheVariants as sheet_fault
use Rattle.page_forms.specs.declared.acts.Act.{Act}
use Rattle.page_forms.specs.Acts.{act_in}
use Rattle.page_forms.specs.Pages.{LoadedPage, page_in, first_page_fault}
use Rattle.cdp_messages.specs.declared.command.CommandErr.{CommandErr}
use Rattle.cdp_messages.specs.declared.command.CommandErr.TheVariants as command_err
use Rattle.cdp_messages.specs.declared.command.Param.TheVariants.{Params}
use Rattle.cdp_messages.specs.declared.command.Why.{Why}
use Rattle.cdp_messages.specs.declared.command.Why.TheVariants.{BadParam, NoNode, NotElement, NotText, IsDocument, NotChild, Inside}
use Rattle.cdp_messages.specs.declared.command.Why.TheVariants.{TooDeep, TooMany, BadName, NoAttr, NotContainer, NoSheet, NotMutable}
use Rattle.cdp_messages.specs.declared.command.Why.TheVariants.{BadRange, BadText, BadSelector, BadPlace, TooBig}
use Rattle.back_end.specs.declared.faults.ActFault.{ActFault}
use Rattle.back_end.specs.declared.faults.ActFault.TheVariants.{Edit, Sheet}
use Rattle.back_end.specs.Plans.{act_fault}

-- what a load is refused with: parameters that are no page, or else the name of the fault
abbrev pub load_why : LoadFault → Why
load_why load_fault.BadForm = BadParam Params
load_why load_fault.TooDeep = TooDeep
load_why load_fault.TooMany = TooMany
load_why load_fault.BadName = BadName

-- what an edit of the page is refused with: the name of the fault
abbrev pub edit_why : EditFault → Why
edit_why edit_fault.NoNode = NoNode
edit_why edit_fault.NotElement = NotElement
edit_why edit_fault.NotText = NotText
edit_why edit_fault.IsDocument = IsDocument
edit_why edit_fault.NotChild = NotChild
edit_why edit_fault.Inside = Inside
edit_why edit_fault.TooDeep = TooDeep
edit_why edit_fault.TooMany = TooMany
edit_why edit_fault.BadName = BadName
edit_why edit_fault.NoAttr = NoAttr
edit_why edit_fault.NotContainer = NotContainer

-- what a change of the page's sheets is refused with: the name of the fault
abbrev pub sheet_why : SheetFault → Why
sheet_why sheet_fault.NoSheet = NoSheet
sheet_why sheet_fault.NotMutable = NotMutable
sheet_why sheet_fault.BadRange = BadRange
sheet_why sheet_fault.BadText = BadText
sheet_why sheet_fault.BadSelector = BadSelector
sheet_why sheet_fault.BadPlace = BadPlace
sheet_why sheet_fault.TooBig = TooBig

-- what an act is refused with
abbrev pub act_why : ActFault → Why
act_why (Edit f) = edit_why f
act_why (Sheet f) = sheet_why f

-- a value, unless there is a reason against it
abbrev pub unless_why : {A : Type 0} → Option Why → A → Result A Why
unless_why None a = Ok a
unless_why (Some why) a = Err why

-- parameters in which each number is whole
abbrev pub if_whole : {A : Type 0} → Data → Result A Why → Result A Why
if_whole params found = cond (has_float params) (Err (BadParam Params)) found

-- a page that may be loaded
abbrev pub load_form : Option LoadedPage → Result LoadedPage Why
load_form None = Err (BadParam Params)
load_form (Some page) = unless_why (option_map load_why (first_page_fault (Some page))) page

-- the page that a `Replay.load` puts in the place of the other
abbrev pub load_asked : Data → Result LoadedPage Why
load_asked params = if_whole params (load_form (page_in params))

-- an act in its form
abbrev pub act_form : Option Act → Result Act Why
act_form None = Err (BadParam Params)
act_form (Some act) = Ok act

-- the act that the parameters spell, whatever the page is
abbrev pub act_read : Data → Result Act Why
act_read params = if_whole params (act_form (act_in params))

-- an act that the page takes
abbrev pub act_judged : PageValue → List SheetEntry → Act → Result Act Why
act_judged page book act = unless_why (option_map act_why (act_fault act page book)) act

-- the act that a `Replay.act` carries out, where the page takes it
abbrev pub act_asked : Data → PageValue → List SheetEntry → Result Act Why
act_asked params page book = then_ok (act_read params) (act_judged page book)

-- a reader answers what was found, as `seen` sees it, or the refusal; want of memory is free
abbrev pub Finds : {X T : Type 0} → (X → T) → Result X CommandErr → Result T Why → Type 0
Finds seen (Ok x) found = found ≡ Ok (seen x)
Finds seen (Err (command_err.Refused why)) found = found ≡ Err why
Finds seen (Err command_err.Memory) found = ⊤
