-- The seats of a page that was just loaded stand for its two clients.
use Rattle.std.proofs.Common.{rules}
use Rattle.page_forms.specs.Pages.{LoadedPage, loaded_page}
use Rattle.back_end.specs.Pairs.{loaded_pair}
use Rattle.back_end.specs.PairSeats.{IsNewMux}
use Rattle.back_end.proofs.PairLemmas.{new-pairs-stand}
use Rattle.pair_replay.proofs.two_fronts.TwoFronts.new.Goals as goal

pub invariant_of-result : goal.invariant_of-result
invariant_of-result g c =
    let page : LoadedPage = loaded_page c.args.form in
    let new : IsNewMux c.new-2.result c.in_ok-new.field-0 page = record {
      root = record {
        page_is = (c.in_ok-new.ensures {u = tt}).page;
        sheets_are = (c.in_ok-new.ensures {u = tt}).sheets;
        next_is = (c.in_ok-new.ensures {u = tt}).next;
        medium_is = (c.in_ok-new.ensures {u = tt}).medium;
        off = c.new-2.ensures.off.0;
        css = c.new-2.ensures.css.0;
        agent_is = c.new-2.ensures.agents.0;
        watches_are = c.new-2.ensures.watches.0;
        searches_are = c.new-2.ensures.searches.0;
        history_is = c.new-2.ensures.histories.0;
      };
      second = record {
        page_is = (c.in_ok-new.ensures {u = tt}).page;
        sheets_are = (c.in_ok-new.ensures {u = tt}).sheets;
        next_is = (c.in_ok-new.ensures {u = tt}).next;
        medium_is = (c.in_ok-new.ensures {u = tt}).medium;
        off = c.new-2.ensures.off.1;
        css = c.new-2.ensures.css.1;
        agent_is = c.new-2.ensures.agents.1;
        watches_are = c.new-2.ensures.watches.1;
        searches_are = c.new-2.ensures.searches.1;
        history_is = c.new-2.ensures.histories.1;
      };
      sessions_are = c.new-2.ensures.sessions;
    } in
    record {
      seated = λ alive. ∣ (loaded_pair page, new-pairs-stand c.new-2.result c.in_ok-new.field-0 page c.requires.can c.valid.ensures new) ∣₁;
    }

pub returns-clause-starts : goal.returns-clause-starts
returns-clause-starts g c = record {
  mux = record {
    root = record {
      page_is = (c.in_ok-new.ensures {u = tt}).page;
      sheets_are = (c.in_ok-new.ensures {u = tt}).sheets;
      next_is = (c.in_ok-new.ensures {u = tt}).next;
      medium_is = (c.in_ok-new.ensures {u = tt}).medium;
      off = c.new-2.ensures.off.0;
      css = c.new-2.ensures.css.0;
      agent_is = c.new-2.ensures.agents.0;
      watches_are = c.new-2.ensures.watches.0;
      searches_are = c.new-2.ensures.searches.0;
      history_is = c.new-2.ensures.histories.0;
    };
    second = record {
      page_is = (c.in_ok-new.ensures {u = tt}).page;
      sheets_are = (c.in_ok-new.ensures {u = tt}).sheets;
      next_is = (c.in_ok-new.ensures {u = tt}).next;
      medium_is = (c.in_ok-new.ensures {u = tt}).medium;
      off = c.new-2.ensures.off.1;
      css = c.new-2.ensures.css.1;
      agent_is = c.new-2.ensures.agents.1;
      watches_are = c.new-2.ensures.watches.1;
      searches_are = c.new-2.ensures.searches.1;
      history_is = c.new-2.ensures.histories.1;
    };
    sessions_are = c.new-2.ensures.sessions;
  };
  ends = search rules;
  fronts = search rules;
  first_told = search rules;
  second_told = search rules;
}
