use Rattle.std.proofs.Common.{rules, ◌≡◌, None, Some}
use Rattle.pipe_frames.specs.Frames.{framed}
use Rattle.front_mirror.specs.Front.{after_take}
use Rattle.multi_replay.proofs.WholeLemmas.{whole-taken, whole-refused}
use Rattle.multi_replay.proofs.pair.take_whole.Goals as goal

pub returns-in-Ok-clause-takes : goal.returns-in-Ok-clause-takes
returns-in-Ok-clause-takes g c =
    let piece : c.push.new.self.items ≡ framed c.args.frame.items = search rules in
    let after : c.take_owned.new.self ≡ after_take c.args.front.now c.push.new.self.items = search rules in
    let well : c.take_owned.new.self.fault ≡ None = search rules in
    (whole-taken c.args.front.now c.take_owned.new.self c.args.frame.items c.push.new.self.items c.requires.ready c.requires.text piece
    after well).0

pub returns-in-Ok-clause-ready : goal.returns-in-Ok-clause-ready
returns-in-Ok-clause-ready g c =
    let piece : c.push.new.self.items ≡ framed c.args.frame.items = search rules in
    let after : c.take_owned.new.self ≡ after_take c.args.front.now c.push.new.self.items = search rules in
    let well : c.take_owned.new.self.fault ≡ None = search rules in
    (whole-taken c.args.front.now c.take_owned.new.self c.args.frame.items c.push.new.self.items c.requires.ready c.requires.text piece
    after well).1

pub returns-in-Err-Fault-clause-takes : goal.returns-in-Err-Fault-clause-takes
returns-in-Err-Fault-clause-takes g c =
    let piece : c.push.new.self.items ≡ framed c.args.frame.items = search rules in
    let after : c.take_owned.new.self ≡ after_take c.args.front.now c.push.new.self.items = search rules in
    let met : c.take_owned.new.self.fault ≡ Some c.in-Err-Fault.fault = search rules in
    whole-refused c.args.front.now c.take_owned.new.self c.in-Err-Fault.fault c.args.frame.items c.push.new.self.items c.requires.ready
    c.requires.text piece after met
