-- The usual form of a line that loads a page: `{"load":PAGE}`.
use Rattle.std.specs.Prelude.{◌≡◌, ℕ, List, Some, None, option_and_then}
use Rattle.page_forms.specs.Pages.{LoadedPage, page_in}
use Rattle.page_forms.specs.Spelt.{ValueForm}
use Rattle.replay_script.specs.Faults.{page_of, line_fault}
use Rattle.replay_script.specs.Forms.{load, line_form}

-- a line that loads a page, which nests one level more than a page
abbrev pub load_line_form : ValueForm LoadedPage
load_line_form = record { levels = 123; reads = λ d. option_and_then page_in (page_of d) }

-- the line loads the page, and is not refused
pub record Loads (line : List ℕ) (page : LoadedPage) : Type 0 where
  pub form : line_form line ≡ Some (load page)
  pub clear : (number : ℕ) → line_fault number line ≡ None
