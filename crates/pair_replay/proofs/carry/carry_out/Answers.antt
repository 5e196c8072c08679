-- A line is carried out: an attach, a detach, or a line of one of the two front ends.
use Rattle.std.proofs.Common.{◌≡◌, sym, ap, subst}
use Rattle.replay_script.specs.PairLines.{PairForm, attach_session, detach_session, of_first, of_second}
use Rattle.replay_script.specs.PairSeen.{pair_seen, HoldsOfLine, IsPairSound}
use Rattle.replay_script.specs.Seen.{seen}
use Rattle.replay_script.specs.Sound.{FitsPage, AreWhole}
use Rattle.replay_parts.specs.Moments.{moment, scene}
use Rattle.pair_replay.specs.Following.{PairLinePasses, PairLineTells}
use Rattle.pair_replay.specs.Playing.{PairCarries, numbered_pair}
use Rattle.replay_parts.proofs.StopLemmas.{none-printed}
use Rattle.replay_parts.proofs.CauseLemmas.{link-run}
use Rattle.pair_replay.proofs.carry.carry_out.Goals as goal

pub carry_first-requires-clause-sound : goal.carry_first-requires-clause-sound
carry_first-requires-clause-sound g c = (subst IsPairSound (ap pair_seen c.in-First.is) c.requires.sound).0

pub carry_first-requires-clause-may : goal.carry_first-requires-clause-may
carry_first-requires-clause-may g c = (subst IsPairSound (ap pair_seen c.in-First.is) c.requires.sound).1

pub carry_first-requires-clause-fits : goal.carry_first-requires-clause-fits
carry_first-requires-clause-fits g c = subst (HoldsOfLine FitsPage) c.in-First.is c.requires.fits

pub carry_first-requires-clause-whole : goal.carry_first-requires-clause-whole
carry_first-requires-clause-whole g c = subst (HoldsOfLine AreWhole) c.in-First.is c.requires.whole

pub carry_second-requires-clause-sound : goal.carry_second-requires-clause-sound
carry_second-requires-clause-sound g c = (subst IsPairSound (ap pair_seen c.in-Second.is) c.requires.sound).0

pub carry_second-requires-clause-may : goal.carry_second-requires-clause-may
carry_second-requires-clause-may g c = (subst IsPairSound (ap pair_seen c.in-Second.is) c.requires.sound).1

pub carry_second-requires-clause-whole : goal.carry_second-requires-clause-whole
carry_second-requires-clause-whole g c = subst (HoldsOfLine AreWhole) c.in-Second.is c.requires.whole

pub returns-in-Attach-clause-plays : goal.returns-in-Attach-clause-plays
returns-in-Attach-clause-plays g c =
    let old = moment (g.L.Link.honest c.args.link.now) (g.L.Link.up c.args.link.now) (g.L.Link.down c.args.link.now) c.args.ends.now in
    let new = moment (g.L.Link.honest c.carry_attach.new.link) (g.L.Link.up c.carry_attach.new.link)
    (g.L.Link.down c.carry_attach.new.link) c.carry_attach.new.ends in
    let taken = g.K.Sink.taken c.args.out.now in
    let is : pair_seen c.args.line ≡ attach_session = ap pair_seen c.in-Attach.is in
    record {
      honest = c.carry_attach.ensures.honest;
      cause = link-run c.carry_attach.result _ _ _ c.carry_attach.ensures.cause;
      follows = subst (λ (f : PairForm). PairLinePasses f old new c.carry_attach.result) (sym is) c.carry_attach.ensures.follows;
      some = none-printed c.carry_attach.result taken;
      runs = subst (λ (f : PairForm). PairCarries (numbered_pair c.args.number f) (scene old taken) (scene new taken) c.carry_attach.result)
          (sym is)
          (c.carry_attach.ensures.runs taken);
    }

pub returns-in-Attach-clause-tells : goal.returns-in-Attach-clause-tells
returns-in-Attach-clause-tells g c =
    let old = moment (g.L.Link.honest c.args.link.now) (g.L.Link.up c.args.link.now) (g.L.Link.down c.args.link.now) c.args.ends.now in
    let new = moment (g.L.Link.honest c.carry_attach.new.link) (g.L.Link.up c.carry_attach.new.link)
    (g.L.Link.down c.carry_attach.new.link) c.carry_attach.new.ends in
    let is : pair_seen c.args.line ≡ attach_session = ap pair_seen c.in-Attach.is in
    subst (λ (f : PairForm). PairLineTells (numbered_pair c.args.number f) old new c.carry_attach.result) (sym is)
    c.carry_attach.ensures.tells

pub returns-in-Detach-clause-plays : goal.returns-in-Detach-clause-plays
returns-in-Detach-clause-plays g c =
    let old = moment (g.L.Link.honest c.args.link.now) (g.L.Link.up c.args.link.now) (g.L.Link.down c.args.link.now) c.args.ends.now in
    let new = moment (g.L.Link.honest c.carry_detach.new.link) (g.L.Link.up c.carry_detach.new.link)
    (g.L.Link.down c.carry_detach.new.link) c.carry_detach.new.ends in
    let taken = g.K.Sink.taken c.args.out.now in
    let is : pair_seen c.args.line ≡ detach_session = ap pair_seen c.in-Detach.is in
    record {
      honest = c.carry_detach.ensures.honest;
      cause = link-run c.carry_detach.result _ _ _ c.carry_detach.ensures.cause;
      follows = subst (λ (f : PairForm). PairLinePasses f old new c.carry_detach.result) (sym is) c.carry_detach.ensures.follows;
      some = none-printed c.carry_detach.result taken;
      runs = subst (λ (f : PairForm). PairCarries (numbered_pair c.args.number f) (scene old taken) (scene new taken) c.carry_detach.result)
          (sym is)
          (c.carry_detach.ensures.runs taken);
    }

pub returns-in-Detach-clause-tells : goal.returns-in-Detach-clause-tells
returns-in-Detach-clause-tells g c =
    let old = moment (g.L.Link.honest c.args.link.now) (g.L.Link.up c.args.link.now) (g.L.Link.down c.args.link.now) c.args.ends.now in
    let new = moment (g.L.Link.honest c.carry_detach.new.link) (g.L.Link.up c.carry_detach.new.link)
    (g.L.Link.down c.carry_detach.new.link) c.carry_detach.new.ends in
    let is : pair_seen c.args.line ≡ detach_session = ap pair_seen c.in-Detach.is in
    subst (λ (f : PairForm). PairLineTells (numbered_pair c.args.number f) old new c.carry_detach.result) (sym is)
    c.carry_detach.ensures.tells

pub returns-in-First-clause-plays : goal.returns-in-First-clause-plays
returns-in-First-clause-plays g c =
    let old = moment (g.L.Link.honest c.args.link.now) (g.L.Link.up c.args.link.now) (g.L.Link.down c.args.link.now) c.args.ends.now in
    let new = moment (g.L.Link.honest c.carry_first.new.link) (g.L.Link.up c.carry_first.new.link)
    (g.L.Link.down c.carry_first.new.link) c.carry_first.new.ends in
    let is : pair_seen c.args.line ≡ of_first (seen c.in-First.line) = ap pair_seen c.in-First.is in
    let plays = c.carry_first.ensures.plays in
    record {
      honest = plays.honest;
      cause = plays.cause;
      follows = subst (λ (f : PairForm). PairLinePasses f old new c.carry_first.result) (sym is) plays.follows;
      some = plays.some;
      runs = subst (λ (f : PairForm). PairCarries (numbered_pair c.args.number f) (scene old (g.K.Sink.taken c.args.out.now))
          (scene new (g.K.Sink.taken c.carry_first.new.out)) c.carry_first.result) (sym is) plays.runs;
    }

pub returns-in-First-clause-tells : goal.returns-in-First-clause-tells
returns-in-First-clause-tells g c =
    let old = moment (g.L.Link.honest c.args.link.now) (g.L.Link.up c.args.link.now) (g.L.Link.down c.args.link.now) c.args.ends.now in
    let new = moment (g.L.Link.honest c.carry_first.new.link) (g.L.Link.up c.carry_first.new.link)
    (g.L.Link.down c.carry_first.new.link) c.carry_first.new.ends in
    let is : pair_seen c.args.line ≡ of_first (seen c.in-First.line) = ap pair_seen c.in-First.is in
    subst (λ (f : PairForm). PairLineTells (numbered_pair c.args.number f) old new c.carry_first.result) (sym is)
    c.carry_first.ensures.tells

pub returns-in-Second-clause-plays : goal.returns-in-Second-clause-plays
returns-in-Second-clause-plays g c =
    let old = moment (g.L.Link.honest c.args.link.now) (g.L.Link.up c.args.link.now) (g.L.Link.down c.args.link.now) c.args.ends.now in
    let new = moment (g.L.Link.honest c.carry_second.new.link) (g.L.Link.up c.carry_second.new.link)
    (g.L.Link.down c.carry_second.new.link) c.carry_second.new.ends in
    let is : pair_seen c.args.line ≡ of_second (seen c.in-Second.line) = ap pair_seen c.in-Second.is in
    let plays = c.carry_second.ensures.plays in
    record {
      honest = plays.honest;
      cause = plays.cause;
      follows = subst (λ (f : PairForm). PairLinePasses f old new c.carry_second.result) (sym is) plays.follows;
      some = plays.some;
      runs = subst (λ (f : PairForm). PairCarries (numbered_pair c.args.number f) (scene old (g.K.Sink.taken c.args.out.now))
          (scene new (g.K.Sink.taken c.carry_second.new.out)) c.carry_second.result) (sym is) plays.runs;
    }

pub returns-in-Second-clause-tells : goal.returns-in-Second-clause-tells
returns-in-Second-clause-tells g c =
    let old = moment (g.L.Link.honest c.args.link.now) (g.L.Link.up c.args.link.now) (g.L.Link.down c.args.link.now) c.args.ends.now in
    let new = moment (g.L.Link.honest c.carry_second.new.link) (g.L.Link.up c.carry_second.new.link)
    (g.L.Link.down c.carry_second.new.link) c.carry_second.new.ends in
    let is : pair_seen c.args.line ≡ of_second (seen c.in-Second.line) = ap pair_seen c.in-Second.is in
    subst (λ (f : PairForm). PairLineTells (numbered_pair c.args.number f) old new c.carry_second.result) (sym is)
    c.carry_second.ensures.tells
