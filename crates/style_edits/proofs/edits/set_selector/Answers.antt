use Rattle.style_edits.specs.Edits.{selector_in}
use Rattle.style_edits.proofs.DraftForms.{draft_there, client_done}
use Rattle.style_edits.proofs.edits.set_selector.Goals as goal

pub apply-requires : goal.apply-requires
apply-requires c = record {
  there = draft_there c.args.book.now c.in-Ok.entry.now c.in-Ok-selector_in.draft c.in-Ok.ensures.there c.in-Ok-selector_in.ensures.found.id
      c.in-Ok-selector_in.ensures.tells;
}

pub returns-clause-done : goal.returns-clause-done
returns-clause-done c =
    client_done
    (selector_in c.args.range.now c.args.text.now) _ c.args.book.now c.apply.new.book c.in-Ok.entry.now c.in-Ok-selector_in.draft
    c.apply.result c.in-Ok.ensures.found
    c.in-Ok.ensures.there c.in-Ok-selector_in.ensures.found c.apply.ensures.changed c.apply.ensures.back
