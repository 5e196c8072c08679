use Rattle.std.proofs.Common.{sym}
use Rattle.style_edits.proofs.BookForms.{entry_again}
use Rattle.style_edits.proofs.DraftForms.{draft_there, put_done}
use Rattle.style_edits.proofs.splice.put_back.Goals as goal

pub apply-requires : goal.apply-requires
apply-requires c = record {
  there = draft_there c.args.book.now c.in-Some.entry.now c.in_ok-draft.draft
      (entry_again c.args.splice.sheet c.args.book.now c.in-Some.entry.now (sym c.in-Some.ensures.found)) c.in_ok-draft.ensures.drafts.id
      c.in_ok-draft.ensures.tells;
}

pub returns-clause-done : goal.returns-clause-done
returns-clause-done c =
    let own = put_done c.args.splice c.args.book.now c.apply.new.book c.in-Some.entry.now
    c.as_str.result.now c.in_ok-draft.draft c.apply.result
    (sym c.in-Some.ensures.found) c.as_str.ensures c.in_ok-draft.ensures.drafts c.apply.ensures.changed c.apply.ensures.back in
    own.0

pub returns-clause-back : goal.returns-clause-back
returns-clause-back c =
    let own = put_done c.args.splice c.args.book.now c.apply.new.book c.in-Some.entry.now
    c.as_str.result.now c.in_ok-draft.draft c.apply.result
    (sym c.in-Some.ensures.found) c.as_str.ensures c.in_ok-draft.ensures.drafts c.apply.ensures.changed c.apply.ensures.back in
    own.1
