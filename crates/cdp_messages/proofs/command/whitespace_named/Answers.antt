use Rattle.std.proofs.Common.{sym}
use Rattle.cdp_json.proofs.KindLaws.{named_absent}
use Rattle.cdp_messages.specs.Whitespace.{whitespace_name, all_whitespace}
use Rattle.cdp_messages.proofs.command.whitespace_named.Goals as goal

pub returns-in_default : goal.returns-in_default
returns-in_default c = sym (named_absent whitespace_name all_whitespace c.args.word.now (c.in_default.not-none, (c.in_default.not-all, tt)))
