use Rattle.std.proofs.Common.{[], ◌∷◌, ◌++◌, List, map, ap, ◌∙◌}
use Rattle.style_edits.specs.declared.splice.Splice.{Splice}
use Rattle.client_views.specs.Moves.{replied, frames_of_moves}
use Rattle.css_agent.specs.Told.{changed_message}
use Rattle.cdp_messages.specs.Replies.{message_frames}
use Rattle.css_agent.specs.Edits.{css_done}
use Rattle.css_agent.proofs.EditLemmas.{edit_told}
use Rattle.css_agent.proofs.agent.CssAgent.edit.Goals as goal

pub returns-clause-sent : goal.returns-clause-sent
returns-clause-sent c =
    let id = c.args.id in
    let result = c.in-Ok.done.body in
    let front = c.args.out.now.items in
    let done = css_done c.css_edited.new.book c.in-Ok.done.backs.items result in
    c.in_ok-tell_edit.ensures
    ∙ ap (λ (bs : List Splice). (front ++ message_frames (map changed_message bs))
    ++ frames_of_moves (replied id result ∷ [])) c.as_slice.ensures.value
    ∙ edit_told c.args.edit.now c.args.book.now done id front c.in-Ok.ensures.done
