use Rattle.std.proofs.Common.{rules, ◌≡◌, false, sym, subst}
use Rattle.serde_json.specs.View.{view}
use Rattle.serde_json.specs.Written.{has_float}
use Rattle.pipe_frames.specs.Frames.{IsText}
use Rattle.multi_replay.proofs.ZeroFree.{compact-is-text}
use Rattle.multi_replay.proofs.incoming.of_session.Goals as goal

pub returns-in_ok-text-clause-text : goal.returns-in_ok-text-clause-text
returns-in_ok-text-clause-text c =
    let whole : has_float (view c.args.rest) ≡ false = search rules in
    subst IsText (sym (c.in_ok-text.ensures.text whole)) (compact-is-text (view c.args.rest))
