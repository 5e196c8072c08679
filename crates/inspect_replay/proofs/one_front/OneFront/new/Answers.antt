-- The seat of a page that was just loaded stands for its state.
use Rattle.std.proofs.Common.{refl, rules}
use Rattle.page_forms.specs.Pages.{loaded_page}
use Rattle.inspect_replay.proofs.RunLemmas.{seated-first}
use Rattle.inspect_replay.proofs.one_front.OneFront.new.Goals as goal

pub invariant_of-result : goal.invariant_of-result
invariant_of-result g c = record {
  seated = seated-first (loaded_page c.args.form) c.new-2.result c.in_ok-new.field-0 c.requires.can c.valid.ensures (record {
    page_is = (c.in_ok-new.ensures {u = tt}).page;
    sheets_are = (c.in_ok-new.ensures {u = tt}).sheets;
    next_is = (c.in_ok-new.ensures {u = tt}).next;
    medium_is = (c.in_ok-new.ensures {u = tt}).medium;
    off = c.new-2.ensures.off;
    css = c.new-2.ensures.css;
    agent_is = c.new-2.ensures.agent;
    watches_are = c.new-2.ensures.watches;
    searches_are = c.new-2.ensures.searches;
    history_is = c.new-2.ensures.history;
  });
}

pub returns-clause-starts : goal.returns-clause-starts
returns-clause-starts g c = record {
  side = record {
    page_is = (c.in_ok-new.ensures {u = tt}).page;
    sheets_are = (c.in_ok-new.ensures {u = tt}).sheets;
    next_is = (c.in_ok-new.ensures {u = tt}).next;
    medium_is = (c.in_ok-new.ensures {u = tt}).medium;
    off = c.new-2.ensures.off;
    css = c.new-2.ensures.css;
    agent_is = c.new-2.ensures.agent;
    watches_are = c.new-2.ensures.watches;
    searches_are = c.new-2.ensures.searches;
    history_is = c.new-2.ensures.history;
  };
  ends = search rules;
  front = search rules;
  told = refl;
  told_pauses = refl;
}
