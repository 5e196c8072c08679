use Rattle.std.proofs.Common.{sym, ap, ◌∙◌}
use Rattle.serde_json.specs.Data.{object}
use Rattle.serde_json.specs.View.{view, members_view}
use Rattle.serde_json.proofs.Views.{view-Object}
use Rattle.cdp_messages.specs.SessionFrames.{session_name, without_session}
use Rattle.cdp_messages.proofs.SessionFrames.{entries-without}
use Rattle.multi_replay.proofs.incoming.without_session.Goals as goal

pub returns-in-Object : goal.returns-in-Object
returns-in-Object c =
    view-Object c.remove.new.self
    ∙ ap (λ es. object (members_view es)) c.remove.ensures.entries
    ∙ ap object (entries-without session_name c.in-Object.members.entries)
    ∙ ap without_session (sym (view-Object c.in-Object.members))
    ∙ ap (λ v. without_session (view v)) (sym c.in-Object.is)
