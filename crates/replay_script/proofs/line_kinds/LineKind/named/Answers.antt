use Rattle.std.proofs.Common.{sym}
use Rattle.cdp_json.proofs.KindLaws.{named_absent}
use Rattle.replay_script.specs.Kinds.{line_kind_name, all_line_kinds}
use Rattle.replay_script.proofs.line_kinds.LineKind.named.Goals as goal

pub returns-in_default : goal.returns-in_default
returns-in_default c =
    sym (named_absent line_kind_name all_line_kinds c.args.name.now (
      c.in_default.not-load,
      (
        c.in_default.not-act,
        (
          c.in_default.not-ask,
          (
            c.in_default.not-raw,
            (
              c.in_default.not-up,
              (
                c.in_default.not-down,
                (c.in_default.not-settle, (c.in_default.not-show, (c.in_default.not-close, tt))),
              ),
            ),
          ),
        ),
      ),
    ))
