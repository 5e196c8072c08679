-- A new back end has the page of one document, and has answered nothing.
use Rattle.inspect_replay.specs.Served.{first_of}
use Rattle.inspect_replay.proofs.ServeLemmas.{starts-serving}
use Rattle.inspect_replay.proofs.ClientLemmas.{clients-stand, clients-seated}
use Rattle.inspect_replay.proofs.service.Service.new.Goals as goal

pub invariant_of-result : goal.invariant_of-result
invariant_of-result c = record {
  seated = clients-seated c.args.clients c.in_ok-side.side c.requires (record {
    page_is = c.in_ok-side.ensures.page;
    sheets_are = c.in_ok-side.ensures.sheets;
    next_is = c.in_ok-side.ensures.next;
    medium_is = c.in_ok-side.ensures.medium;
  });
}

pub returns : goal.returns
returns c = record {
  first = starts-serving (first_of c.args.clients) _
      (clients-stand c.args.clients c.in_ok-side.side c.requires (record {
        page_is = c.in_ok-side.ensures.page;
        sheets_are = c.in_ok-side.ensures.sheets;
        next_is = c.in_ok-side.ensures.next;
        medium_is = c.in_ok-side.ensures.medium;
      })) c.new-2.ensures;
}
