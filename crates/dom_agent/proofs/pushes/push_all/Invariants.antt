use Rattle.std.proofs.Common.{drop}
use Rattle.shown_pages.specs.ShownPages.{shown_page}
use Rattle.dom_agent.proofs.PushLemmas.{Left}
use Rattle.dom_agent.proofs.pushes.push_all.Given as goal

abbrev pub invariant-loop-serial : goal.invariant-loop-serial
invariant-loop-serial l = Left (shown_page l.mode l.page).tree
    (drop l.serial-index l.serials) l.binding l.out.items l.ids.items l.initial.serials l.initial.binding l.initial.out.items
