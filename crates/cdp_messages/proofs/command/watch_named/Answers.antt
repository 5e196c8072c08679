use Rattle.std.proofs.Common.{sym}
use Rattle.cdp_json.proofs.KindLaws.{named_absent}
use Rattle.node_tree.specs.Watches.{watch_name}
use Rattle.cdp_messages.specs.Events.{all_watches}
use Rattle.cdp_messages.proofs.command.watch_named.Goals as goal

pub returns-in_default : goal.returns-in_default
returns-in_default c = sym (named_absent watch_name all_watches c.args.word.now
    (c.in_default.not-text, (c.in_default.not-text-2, (c.in_default.not-text-3, tt))))
