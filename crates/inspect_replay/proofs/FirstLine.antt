-- The first line of a script loads a page.
use Rattle.std.proofs.Common.{◌≡◌, ℕ, List, true, false, not, ◌&&◌, Option, Some, None, option_and_then, sym, ◌∙◌, ap}
use Rattle.serde_json.specs.Data.{Data}
use Rattle.page_forms.specs.Pages.{LoadedPage, page_in}
use Rattle.cdp_messages.specs.Asked.{json_of}
use Rattle.replay_script.specs.declared.line_kinds.LineKind.{LineKind}
use Rattle.replay_script.specs.declared.line_kinds.LineKind.TheVariants as kind
use Rattle.replay_script.specs.Kinds.{is_load}
use Rattle.replay_script.specs.Forms.{LineForm, load, form_by, form_of, line_form}
use Rattle.replay_script.specs.Faults.{line_fault}
use Rattle.replay_script.proofs.FaultLemmas.{json_good, line_good}
use Rattle.cdp_json.proofs.Options.{map_some}
use Rattle.inspect_replay.specs.Prints.{load_of}

-- a line that loads a page
pub record Loads (form : LineForm) : Type 0 where
  pub page : LoadedPage
  pub is : form ≡ load page

loads-by : (k : LineKind) (v : Data) (form : LineForm) → (true && not (is_load k)) ≡ false → form_by k v ≡ Some form → Loads form
loads-by kind.Load v form first is = let p = map_some load (page_in v) form is in record { page = p.0; is = sym p.2 }
loads-by kind.Act v form first is = absurd cc
loads-by kind.Ask v form first is = absurd cc
loads-by kind.Raw v form first is = absurd cc
loads-by kind.Up v form first is = absurd cc
loads-by kind.Down v form first is = absurd cc
loads-by kind.Settle v form first is = absurd cc
loads-by kind.Show v form first is = absurd cc
loads-by kind.Close v form first is = absurd cc
loads-by kind.Styles v form first is = absurd cc

-- the first line, where it is not refused
pub first-loads : (line : List ℕ) (form : LineForm) → line_fault 1 line ≡ None → line_form line ≡ Some form → Loads form
first-loads line form good is =
    let json = json_good 1 (json_of line) good in
    let said = line_good 1 json.0 json.2 in
    let of_value : form_of json.0 ≡ Some form = sym (ap (option_and_then form_of) json.1) ∙ is in
    loads-by said.kind said.value form said.first (sym (ap (option_and_then (λ (s : LineKind × Data). form_by s.0 s.1)) said.is) ∙ of_value)

pub loads-not : (line : List ℕ) (form : LineForm) → line_fault 1 line ≡ None → line_form line ≡ Some form → load_of form ≡ None → ⊥
loads-not line form good is none =
    let l : Loads form = first-loads line form good is in
    let no : ◌≡◌ {A = Option LoadedPage} None (Some l.page) = sym none ∙ ap load_of l.is in
    cc

pub loads-these : (line : List ℕ) (form : LineForm) (page : LoadedPage) → line_fault 1 line ≡ None → line_form line ≡ Some form
    → load_of form ≡ Some page
    → line_form line ≡ Some (load page)
loads-these line form page good is some =
    let l : Loads form = first-loads line form good is in
    let both : ◌≡◌ {A = Option LoadedPage} (Some page) (Some l.page) = sym some ∙ ap load_of l.is in
    let same : page ≡ l.page = cc in
    is ∙ ap (λ f. Some f) l.is ∙ ap (λ n. Some (load n)) (sym same)
