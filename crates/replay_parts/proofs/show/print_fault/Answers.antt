-- An act that is not refused prints nothing.
use Rattle.std.proofs.Common.{sym, subst}
use Rattle.std.specs.Io.KnownBytes.{Appends}
use Rattle.inspect_world.specs.ActTexts.{act_text}
use Rattle.pipe_frames.proofs.WholeLemmas.{Appends-nil}
use Rattle.replay_parts.proofs.show.print_fault.Goals as goal

pub returns-in-None-clause-ok : goal.returns-in-None-clause-ok
returns-in-None-clause-ok g c =
    subst (λ fault. Appends (g.K.Sink.taken c.args.out.now) (g.K.Sink.taken c.args.out.now) (act_text c.args.number fault))
    (sym c.in-None.is)
    (Appends-nil (g.K.Sink.taken c.args.out.now))
