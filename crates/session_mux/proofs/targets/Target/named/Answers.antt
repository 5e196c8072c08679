use Rattle.std.proofs.Common.{sym}
use Rattle.cdp_json.proofs.KindLaws.{named_absent}
use Rattle.session_mux.specs.Targets.{target_name, all_targets}
use Rattle.session_mux.proofs.targets.Target.named.Goals as goal

pub returns-in_default : goal.returns-in_default
returns-in_default c = sym (named_absent target_name all_targets c.args.name.now (c.in_default.not-text, (c.in_default.not-text-2, tt)))
