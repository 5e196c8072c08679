-- The state of a page that was just loaded is valid, and a new seat stands for it.
use Rattle.std.proofs.Common.{◌≡◌, false, true, refl, sym, ap, subst, arith}
use Rattle.page_forms.specs.Pages.{LoadedPage, CanLoadPage}
use Rattle.page_forms.specs.Texts.{PageHasTexts}
use Rattle.node_binding.specs.Bindings.{BindingValue, Stands}
use Rattle.node_binding.specs.Sessions.{begun}
use Rattle.node_binding.proofs.SessionLemmas.{IsSession-begun}
use Rattle.node_binding.proofs.StandsLemmas.{Stands-begun}
use Rattle.back_end.specs.States.{nodes_shown, loaded_state, new_client, HoldsNow}
use Rattle.back_end.specs.Starts.{StartIsState, NewSeatsStand, SheetNumbersDiffer}
use Rattle.back_end.proofs.SheetLemmas.{ascend-distinct}
use Rattle.back_end.proofs.StepLemmas.{loaded-is}
use Rattle.back_end.proofs.WatchedLemmas.{none-set}

holds-first : (page : LoadedPage) → CanLoadPage page → PageHasTexts page → HoldsNow (loaded_state page)
holds-first page can texts =
    let is = loaded-is 1 1 page new_client (omega arith) (omega arith) (λ off. refl) can texts in
    record {
      page = is.page;
      texts = is.texts;
      sheets = is.sheets;
      session = IsSession-begun (nodes_shown (loaded_state page));
      off = λ off. refl;
      css_off = λ off. refl;
      all_shown = λ off. refl;
      watched = λ kind serial here. none-set kind serial here;
      none_watched = λ none. refl;
    }

-- nothing was done so far
pub IsState-first : StartIsState
IsState-first page can texts = record {
  now = holds-first page can texts;
  history = record { past = tt; future = tt; going = λ going. let no : false ≡ true = going in absurd cc };
}

-- the seat stands for it
pub stands-first : NewSeatsStand
stands-first seat side page can texts new =
    let is = IsState-first page can texts in
    record {
      stands = record {
        now = is.now;
        page_is = new.page_is;
        sheets_are = new.sheets_are;
        next_is = new.next_is;
        medium_is = new.medium_is;
        on_is = new.off;
        css_is = new.css;
        mode_is = ap (λ (b : BindingValue). b.mode) new.agent_is;
        watches_are = new.watches_are;
        searches_are = new.searches_are;
        stands = subst (λ b. Stands (nodes_shown (loaded_state page)) begun b) (sym new.agent_is)
            (Stands-begun (nodes_shown (loaded_state page)));
      };
      kept = record { edits = new.history_is; history = is.history };
    }

-- numbers that ascend differ
pub numbers-differ : SheetNumbersDiffer
numbers-differ state is = ascend-distinct 1 state.side.next_sheet state.side.sheets is.now.sheets.numbers
