-- A line of any script is carried out; what it asks and shows is the first front end's.
use Rattle.std.proofs.Common.{rules, ◌≡◌, ◌∙◌, false, refl, sym, ap, subst, arith}
use Rattle.page_forms.specs.Pages.{loaded_page}
use Rattle.replay_script.specs.Forms as forms
use Rattle.replay_script.specs.Forms.{show_front, show_page, show_sheets, show_replies, show_pauses, show_panels, show_styles}
use Rattle.replay_script.specs.Seen.{seen, seen_ask}
use Rattle.replay_script.specs.Sound.{IsSound, AreWhole}
use Rattle.replay_script.specs.PairLines.{PairForm, of_first, may_be_first}
use Rattle.pipe_frames.specs.Frames.{IsText}
use Rattle.inspect_world.specs.Fits.{IsBare}
use Rattle.back_end.specs.Steps.{loads}
use Rattle.inspect_world.specs.Costs.{least_line}
use Rattle.pair_world.specs.PairRuns.{none_more}
use Rattle.replay_parts.specs.Moments.{moment, scene}
use Rattle.replay_parts.proofs.CauseLemmas.{link-cause, sink-cause}
use Rattle.pair_replay.specs.Running.{sends_up, sending_ask, turns_page, delivers_up, delivers_down, refreshing}
use Rattle.pair_replay.specs.Following.{PairLinePasses, PairLineTells}
use Rattle.pair_replay.specs.Playing.{PairCarries, numbered_pair}
use Rattle.pair_replay.proofs.PairFollows.{run-fewer, kept-run}
use Rattle.pair_replay.proofs.LineFaults.{call-tells}
use Rattle.pair_replay.proofs.LineFollows.{keeps-passes, keeps-still, settled-passes}
use Rattle.pair_replay.proofs.CarryLemmas.{line-carries, load-passes, first-ask-passes, raw-passes, up-passes, down-passes, settle-passes}
use Rattle.pair_replay.proofs.CarryLemmas.{page-carries, sound-bare, raw-steps}
use Rattle.pair_replay.proofs.SettleLemmas.{any-spent}
use Rattle.pair_replay.proofs.PanelLemmas.{panel-passes, panel-tells, panel-carries}
use Rattle.replay_parts.proofs.StopLemmas.{some-printed, none-printed}
use Rattle.replay_parts.proofs.CauseLemmas.{stop-run}
use Rattle.replay_parts.proofs.ClosedPanels.{panel-cause}
use Rattle.pair_replay.proofs.carry.carry_first.Goals as goal

pub load_page-requires : goal.load_page-requires
load_page-requires g c =
    let sound = subst IsSound (ap seen c.in-Load.is) c.requires.sound in
    (sound.can, sound.texts)

pub carry_act-requires : goal.carry_act-requires
carry_act-requires g c =
    let sound = subst IsSound (ap seen c.in-Act.is) c.requires.sound in
    (sound.insertable, sound.texts)

pub ask-requires-clause-can : goal.ask-requires-clause-can
ask-requires-clause-can g c = subst IsSound (ap seen c.in-Ask.is) c.requires.sound

pub ask-requires-clause-may : goal.ask-requires-clause-may
ask-requires-clause-may g c = sym (ap (λ l. may_be_first (seen l)) c.in-Ask.is) ∙ c.requires.may

pub ask-requires-clause-params : goal.ask-requires-clause-params
ask-requires-clause-params g c = (subst AreWhole c.in-Ask.is c.requires.whole).0

pub ask-requires-clause-stands : goal.ask-requires-clause-stands
ask-requires-clause-stands g c = refl

pub send_raw-requires-clause-text : goal.send_raw-requires-clause-text
send_raw-requires-clause-text g c =
    let sound = subst IsSound (ap seen c.in-Raw.is) c.requires.sound in
    subst IsText (sym c.as_str.ensures) sound.no_zero

pub send_raw-requires-clause-bare : goal.send_raw-requires-clause-bare
send_raw-requires-clause-bare g c =
    let sound = subst IsSound (ap seen c.in-Raw.is) c.requires.sound in
    subst IsBare (sym c.as_str.ensures) (sound-bare c.in-Raw.text sound)

pub returns-in-Load-clause-plays : goal.returns-in-Load-clause-plays
returns-in-Load-clause-plays g c =
    let old = moment (g.L.Link.honest c.args.link.now) (g.L.Link.up c.args.link.now) (g.L.Link.down c.args.link.now) c.args.ends.now in
    let new = moment (g.L.Link.honest c.load_page.new.link) (g.L.Link.up c.load_page.new.link)
    (g.L.Link.down c.load_page.new.link) c.load_page.new.self in
    let form = of_first (forms.load (loaded_page c.in-Load.page)) in
    let is : of_first (seen c.args.line) ≡ form = ap (λ l. of_first (seen l)) c.in-Load.is in
    let cause = link-cause c.load_page.result (g.K.Sink.faults c.args.out.now) _ _ c.load_page.ensures.cause in
    let taken = g.K.Sink.taken c.args.out.now in
    let sound = subst IsSound (ap seen c.in-Load.is) c.requires.sound in
    record {
      honest = search rules;
      cause = stop-run c.load_page.result _ _ _ _ cause;
      follows = subst (λ (f : PairForm). PairLinePasses f old new c.load_page.result) (sym is)
          (c.load_page.ensures.follows);
      some = none-printed c.load_page.result _;
      runs = subst (λ (f : PairForm). PairCarries (numbered_pair c.args.number f) (scene old taken) (scene new taken) c.load_page.result)
          (sym is)
          (line-carries form (turns_page (loads (loaded_page c.in-Load.page)))
          (load-passes (loaded_page c.in-Load.page) (sound.can, sound.texts)) 0 (omega arith) old new c.load_page.result taken c.args.number
          _ _ _ _ cause
          (c.load_page.ensures.steps) (λ w. refl) (λ w. refl));
    }

pub returns-in-Load-clause-tells : goal.returns-in-Load-clause-tells
returns-in-Load-clause-tells g c =
    let old = moment (g.L.Link.honest c.args.link.now) (g.L.Link.up c.args.link.now) (g.L.Link.down c.args.link.now) c.args.ends.now in
    let new = moment (g.L.Link.honest c.load_page.new.link) (g.L.Link.up c.load_page.new.link)
    (g.L.Link.down c.load_page.new.link) c.load_page.new.self in
    let form = of_first (forms.load (loaded_page c.in-Load.page)) in
    let is : of_first (seen c.args.line) ≡ form = ap (λ l. of_first (seen l)) c.in-Load.is in
    subst (λ (f : PairForm). PairLineTells (numbered_pair c.args.number f) old new c.load_page.result) (sym is)
    (call-tells c.load_page.result c.args.number form old new _ _ _ _ (λ m panels. refl)
    (link-cause c.load_page.result (g.K.Sink.faults c.args.out.now) _ _ c.load_page.ensures.cause)
    (λ start up0 down0 run. (c.load_page.ensures.follows start up0 down0 run).0))

pub returns-in-Act-clause-plays : goal.returns-in-Act-clause-plays
returns-in-Act-clause-plays g c =
    let old = moment (g.L.Link.honest c.args.link.now) (g.L.Link.up c.args.link.now) (g.L.Link.down c.args.link.now) c.args.ends.now in
    let new = moment (g.L.Link.honest c.carry_act.new.link) (g.L.Link.up c.carry_act.new.link)
    (g.L.Link.down c.carry_act.new.link) c.carry_act.new.ends in
    let is : of_first (seen c.args.line) ≡ of_first (forms.act c.in-Act.act) = ap (λ l. of_first (seen l)) c.in-Act.is in
    let plays = c.carry_act.ensures.plays in
    record {
      honest = plays.honest;
      cause = plays.cause;
      follows = subst (λ (f : PairForm). PairLinePasses f old new c.carry_act.result) (sym is) plays.follows;
      some = plays.some;
      runs = subst (λ (f : PairForm). PairCarries (numbered_pair c.args.number f) (scene old (g.K.Sink.taken c.args.out.now))
          (scene new (g.K.Sink.taken c.carry_act.new.out)) c.carry_act.result) (sym is) plays.runs;
    }

pub returns-in-Act-clause-tells : goal.returns-in-Act-clause-tells
returns-in-Act-clause-tells g c =
    let old = moment (g.L.Link.honest c.args.link.now) (g.L.Link.up c.args.link.now) (g.L.Link.down c.args.link.now) c.args.ends.now in
    let new = moment (g.L.Link.honest c.carry_act.new.link) (g.L.Link.up c.carry_act.new.link)
    (g.L.Link.down c.carry_act.new.link) c.carry_act.new.ends in
    let is : of_first (seen c.args.line) ≡ of_first (forms.act c.in-Act.act) = ap (λ l. of_first (seen l)) c.in-Act.is in
    subst (λ (f : PairForm). PairLineTells (numbered_pair c.args.number f) old new c.carry_act.result) (sym is) c.carry_act.ensures.tells

pub returns-in-Ask-clause-plays : goal.returns-in-Ask-clause-plays
returns-in-Ask-clause-plays g c =
    let old = moment (g.L.Link.honest c.args.link.now) (g.L.Link.up c.args.link.now) (g.L.Link.down c.args.link.now) c.args.ends.now in
    let new = moment (g.L.Link.honest c.ask.new.link) (g.L.Link.up c.ask.new.link) (g.L.Link.down c.ask.new.link) c.ask.new.self in
    let form = of_first (forms.ask (seen_ask c.in-Ask.ask)) in
    let is : of_first (seen c.args.line) ≡ form = ap (λ l. of_first (seen l)) c.in-Ask.is in
    let cause = link-cause c.ask.result (g.K.Sink.faults c.args.out.now) _ _ c.ask.ensures.cause in
    let taken = g.K.Sink.taken c.args.out.now in
    record {
      honest = search rules;
      cause = stop-run c.ask.result _ _ _ _ cause;
      follows = subst (λ (f : PairForm). PairLinePasses f old new c.ask.result) (sym is)
          (keeps-passes c.ask.result form old new (λ start. refl) c.ask.ensures.follows);
      some = none-printed c.ask.result _;
      runs = subst (λ (f : PairForm). PairCarries (numbered_pair c.args.number f) (scene old taken) (scene new taken) c.ask.result) (sym is)
          (line-carries form (sending_ask false (seen_ask c.in-Ask.ask))
          (first-ask-passes (seen_ask c.in-Ask.ask) (subst IsSound (ap seen c.in-Ask.is) c.requires.sound)
          (sym (ap (λ l. may_be_first (seen l)) c.in-Ask.is) ∙ c.requires.may)) least_line (omega
          arith) old new c.ask.result taken c.args.number _ _ _ _ cause
          (c.ask.ensures.steps) (λ w. refl) (λ w. refl));
    }

pub returns-in-Ask-clause-tells : goal.returns-in-Ask-clause-tells
returns-in-Ask-clause-tells g c =
    let old = moment (g.L.Link.honest c.args.link.now) (g.L.Link.up c.args.link.now) (g.L.Link.down c.args.link.now) c.args.ends.now in
    let new = moment (g.L.Link.honest c.ask.new.link) (g.L.Link.up c.ask.new.link) (g.L.Link.down c.ask.new.link) c.ask.new.self in
    let form = of_first (forms.ask (seen_ask c.in-Ask.ask)) in
    let is : of_first (seen c.args.line) ≡ form = ap (λ l. of_first (seen l)) c.in-Ask.is in
    subst (λ (f : PairForm). PairLineTells (numbered_pair c.args.number f) old new c.ask.result) (sym is)
    (call-tells c.ask.result c.args.number form old new _ _ _ _ (λ m panels. refl)
    (link-cause c.ask.result (g.K.Sink.faults c.args.out.now) _ _ c.ask.ensures.cause)
    (λ start up0 down0 run. (c.ask.ensures.follows start up0 down0 (run-fewer start up0 down0 old.up old.down old.ends run)).0))

pub returns-in-Raw-clause-plays : goal.returns-in-Raw-clause-plays
returns-in-Raw-clause-plays g c =
    let old = moment (g.L.Link.honest c.args.link.now) (g.L.Link.up c.args.link.now) (g.L.Link.down c.args.link.now) c.args.ends.now in
    let new = moment (g.L.Link.honest c.send_raw.new.link) (g.L.Link.up c.send_raw.new.link)
    (g.L.Link.down c.send_raw.new.link) c.send_raw.new.self in
    let form = of_first (forms.raw c.in-Raw.text) in
    let is : of_first (seen c.args.line) ≡ form = ap (λ l. of_first (seen l)) c.in-Raw.is in
    let cause = link-cause c.send_raw.result (g.K.Sink.faults c.args.out.now) _ _ c.send_raw.ensures.cause in
    let taken = g.K.Sink.taken c.args.out.now in
    record {
      honest = search rules;
      cause = stop-run c.send_raw.result _ _ _ _ cause;
      follows = subst (λ (f : PairForm). PairLinePasses f old new c.send_raw.result) (sym is)
          (keeps-passes c.send_raw.result form old new (λ start. refl) c.send_raw.ensures.follows);
      some = none-printed c.send_raw.result _;
      runs = subst (λ (f : PairForm). PairCarries (numbered_pair c.args.number f) (scene old taken) (scene new taken) c.send_raw.result)
          (sym is)
          (line-carries form (sends_up (λ w. c.in-Raw.text) none_more)
          (raw-passes c.in-Raw.text (subst IsSound (ap seen c.in-Raw.is) c.requires.sound).no_zero
          (sound-bare c.in-Raw.text (subst IsSound (ap seen c.in-Raw.is) c.requires.sound))) least_line (omega
          arith) old new c.send_raw.result taken c.args.number _ _ _ _ cause
          (raw-steps c.send_raw.result old new c.in-Raw.text c.as_str.result.now c.as_str.ensures c.send_raw.ensures.steps) (λ w. refl)
          (λ w. refl));
    }

pub returns-in-Raw-clause-tells : goal.returns-in-Raw-clause-tells
returns-in-Raw-clause-tells g c =
    let old = moment (g.L.Link.honest c.args.link.now) (g.L.Link.up c.args.link.now) (g.L.Link.down c.args.link.now) c.args.ends.now in
    let new = moment (g.L.Link.honest c.send_raw.new.link) (g.L.Link.up c.send_raw.new.link)
    (g.L.Link.down c.send_raw.new.link) c.send_raw.new.self in
    let form = of_first (forms.raw c.in-Raw.text) in
    let is : of_first (seen c.args.line) ≡ form = ap (λ l. of_first (seen l)) c.in-Raw.is in
    subst (λ (f : PairForm). PairLineTells (numbered_pair c.args.number f) old new c.send_raw.result) (sym is)
    (call-tells c.send_raw.result c.args.number form old new _ _ _ _ (λ m panels. refl)
    (link-cause c.send_raw.result (g.K.Sink.faults c.args.out.now) _ _ c.send_raw.ensures.cause)
    (λ start up0 down0 run. (c.send_raw.ensures.follows start up0 down0 (run-fewer start up0 down0 old.up old.down old.ends run)).0))

pub returns-in-Up-clause-plays : goal.returns-in-Up-clause-plays
returns-in-Up-clause-plays g c =
    let old = moment (g.L.Link.honest c.args.link.now) (g.L.Link.up c.args.link.now) (g.L.Link.down c.args.link.now) c.args.ends.now in
    let new = moment (g.L.Link.honest c.deliver_up.new.link) (g.L.Link.up c.deliver_up.new.link)
    (g.L.Link.down c.deliver_up.new.link) c.deliver_up.new.self in
    let form = of_first (forms.up c.in-Up.n) in
    let is : of_first (seen c.args.line) ≡ form = ap (λ l. of_first (seen l)) c.in-Up.is in
    let cause = link-cause c.deliver_up.result (g.K.Sink.faults c.args.out.now) _ _ c.deliver_up.ensures.cause in
    let taken = g.K.Sink.taken c.args.out.now in
    record {
      honest = search rules;
      cause = stop-run c.deliver_up.result _ _ _ _ cause;
      follows = subst (λ (f : PairForm). PairLinePasses f old new c.deliver_up.result) (sym is)
          (keeps-passes c.deliver_up.result form old new (λ start. refl) c.deliver_up.ensures.follows);
      some = none-printed c.deliver_up.result _;
      runs = subst (λ (f : PairForm). PairCarries (numbered_pair c.args.number f) (scene old taken) (scene new taken) c.deliver_up.result)
          (sym is)
          (line-carries form (delivers_up c.in-Up.n) (up-passes c.in-Up.n) 0 (omega arith) old new c.deliver_up.result taken c.args.number
          _ _ _ _ cause
          (any-spent c.deliver_up.result old new 0 (delivers_up c.in-Up.n) c.deliver_up.ensures.steps) (λ w. refl) (λ w. refl));
    }

pub returns-in-Up-clause-tells : goal.returns-in-Up-clause-tells
returns-in-Up-clause-tells g c =
    let old = moment (g.L.Link.honest c.args.link.now) (g.L.Link.up c.args.link.now) (g.L.Link.down c.args.link.now) c.args.ends.now in
    let new = moment (g.L.Link.honest c.deliver_up.new.link) (g.L.Link.up c.deliver_up.new.link)
    (g.L.Link.down c.deliver_up.new.link) c.deliver_up.new.self in
    let form = of_first (forms.up c.in-Up.n) in
    let is : of_first (seen c.args.line) ≡ form = ap (λ l. of_first (seen l)) c.in-Up.is in
    subst (λ (f : PairForm). PairLineTells (numbered_pair c.args.number f) old new c.deliver_up.result) (sym is)
    (call-tells c.deliver_up.result c.args.number form old new _ _ _ _ (λ m panels. refl)
    (link-cause c.deliver_up.result (g.K.Sink.faults c.args.out.now) _ _ c.deliver_up.ensures.cause)
    (λ start up0 down0 run. (c.deliver_up.ensures.follows start up0 down0 (run-fewer start up0 down0 old.up old.down old.ends run)).0))

pub returns-in-Down-clause-plays : goal.returns-in-Down-clause-plays
returns-in-Down-clause-plays g c =
    let old = moment (g.L.Link.honest c.args.link.now) (g.L.Link.up c.args.link.now) (g.L.Link.down c.args.link.now) c.args.ends.now in
    let new = moment (g.L.Link.honest c.deliver_down.new.link) (g.L.Link.up c.deliver_down.new.link)
    (g.L.Link.down c.deliver_down.new.link) c.deliver_down.new.self in
    let form = of_first (forms.down c.in-Down.n) in
    let is : of_first (seen c.args.line) ≡ form = ap (λ l. of_first (seen l)) c.in-Down.is in
    let cause = link-cause c.deliver_down.result (g.K.Sink.faults c.args.out.now) _ _ c.deliver_down.ensures.cause in
    let taken = g.K.Sink.taken c.args.out.now in
    record {
      honest = search rules;
      cause = stop-run c.deliver_down.result _ _ _ _ cause;
      follows = subst (λ (f : PairForm). PairLinePasses f old new c.deliver_down.result) (sym is)
          (keeps-passes c.deliver_down.result form old new (λ start. refl) c.deliver_down.ensures.follows);
      some = none-printed c.deliver_down.result _;
      runs = subst (λ (f : PairForm). PairCarries (numbered_pair c.args.number f) (scene old taken) (scene new taken) c.deliver_down.result)
          (sym is)
          (line-carries form (delivers_down c.in-Down.n) (down-passes c.in-Down.n) 0 (omega arith) old new c.deliver_down.result taken
          c.args.number _ _ _ _ cause
          (any-spent c.deliver_down.result old new 0 (delivers_down c.in-Down.n) c.deliver_down.ensures.steps) (λ w. refl) (λ w. refl));
    }

pub returns-in-Down-clause-tells : goal.returns-in-Down-clause-tells
returns-in-Down-clause-tells g c =
    let old = moment (g.L.Link.honest c.args.link.now) (g.L.Link.up c.args.link.now) (g.L.Link.down c.args.link.now) c.args.ends.now in
    let new = moment (g.L.Link.honest c.deliver_down.new.link) (g.L.Link.up c.deliver_down.new.link)
    (g.L.Link.down c.deliver_down.new.link) c.deliver_down.new.self in
    let form = of_first (forms.down c.in-Down.n) in
    let is : of_first (seen c.args.line) ≡ form = ap (λ l. of_first (seen l)) c.in-Down.is in
    subst (λ (f : PairForm). PairLineTells (numbered_pair c.args.number f) old new c.deliver_down.result) (sym is)
    (call-tells c.deliver_down.result c.args.number form old new _ _ _ _ (λ m panels. refl)
    (link-cause c.deliver_down.result (g.K.Sink.faults c.args.out.now) _ _ c.deliver_down.ensures.cause)
    (λ start up0 down0 run. (c.deliver_down.ensures.follows start up0 down0 (run-fewer start up0 down0 old.up old.down old.ends run)).0))

pub returns-in-Settle-clause-plays : goal.returns-in-Settle-clause-plays
returns-in-Settle-clause-plays g c =
    let old = moment (g.L.Link.honest c.args.link.now) (g.L.Link.up c.args.link.now) (g.L.Link.down c.args.link.now) c.args.ends.now in
    let new = moment (g.L.Link.honest c.settle.new.link) (g.L.Link.up c.settle.new.link)
    (g.L.Link.down c.settle.new.link) c.settle.new.self in
    let form = of_first (forms.settle) in
    let is : of_first (seen c.args.line) ≡ form = ap (λ l. of_first (seen l)) c.in-Settle.is in
    let cause = link-cause c.settle.result (g.K.Sink.faults c.args.out.now) _ _ c.settle.ensures.cause in
    let taken = g.K.Sink.taken c.args.out.now in
    record {
      honest = search rules;
      cause = stop-run c.settle.result _ _ _ _ cause;
      follows = subst (λ (f : PairForm). PairLinePasses f old new c.settle.result) (sym is)
          (keeps-passes c.settle.result form old new (λ start. refl) c.settle.ensures.follows);
      some = none-printed c.settle.result _;
      runs = subst (λ (f : PairForm). PairCarries (numbered_pair c.args.number f) (scene old taken) (scene new taken) c.settle.result)
          (sym is)
          (line-carries form (refreshing) (settle-passes) 0 (omega arith) old new c.settle.result taken c.args.number _ _ _ _ cause
          (c.settle.ensures.steps) (λ w. refl) (λ w. refl));
    }

pub returns-in-Settle-clause-tells : goal.returns-in-Settle-clause-tells
returns-in-Settle-clause-tells g c =
    let old = moment (g.L.Link.honest c.args.link.now) (g.L.Link.up c.args.link.now) (g.L.Link.down c.args.link.now) c.args.ends.now in
    let new = moment (g.L.Link.honest c.settle.new.link) (g.L.Link.up c.settle.new.link)
    (g.L.Link.down c.settle.new.link) c.settle.new.self in
    let form = of_first (forms.settle) in
    let is : of_first (seen c.args.line) ≡ form = ap (λ l. of_first (seen l)) c.in-Settle.is in
    subst (λ (f : PairForm). PairLineTells (numbered_pair c.args.number f) old new c.settle.result) (sym is)
    (call-tells c.settle.result c.args.number form old new _ _ _ _ (λ m panels. refl)
    (link-cause c.settle.result (g.K.Sink.faults c.args.out.now) _ _ c.settle.ensures.cause)
    (λ start up0 down0 run. (c.settle.ensures.follows start up0 down0 (run-fewer start up0 down0 old.up old.down old.ends run)).0))

pub returns-in-ShowFront-clause-plays : goal.returns-in-ShowFront-clause-plays
returns-in-ShowFront-clause-plays g c =
    let old = moment (g.L.Link.honest c.args.link.now) (g.L.Link.up c.args.link.now) (g.L.Link.down c.args.link.now) c.args.ends.now in
    let new = moment (g.L.Link.honest c.show_front.new.link) (g.L.Link.up c.show_front.new.link)
    (g.L.Link.down c.show_front.new.link) c.show_front.new.ends in
    let is : of_first (seen c.args.line) ≡ of_first (show_front) = ap (λ l. of_first (seen l)) c.in-ShowFront.is in
    let plays = c.show_front.ensures.plays in
    record {
      honest = plays.honest;
      cause = plays.cause;
      follows = subst (λ (f : PairForm). PairLinePasses f old new c.show_front.result) (sym is) plays.follows;
      some = plays.some;
      runs = subst (λ (f : PairForm). PairCarries (numbered_pair c.args.number f) (scene old (g.K.Sink.taken c.args.out.now))
          (scene new (g.K.Sink.taken c.show_front.new.out)) c.show_front.result) (sym is) plays.runs;
    }

pub returns-in-ShowFront-clause-tells : goal.returns-in-ShowFront-clause-tells
returns-in-ShowFront-clause-tells g c =
    let old = moment (g.L.Link.honest c.args.link.now) (g.L.Link.up c.args.link.now) (g.L.Link.down c.args.link.now) c.args.ends.now in
    let new = moment (g.L.Link.honest c.show_front.new.link) (g.L.Link.up c.show_front.new.link)
    (g.L.Link.down c.show_front.new.link) c.show_front.new.ends in
    let is : of_first (seen c.args.line) ≡ of_first (show_front) = ap (λ l. of_first (seen l)) c.in-ShowFront.is in
    subst (λ (f : PairForm). PairLineTells (numbered_pair c.args.number f) old new c.show_front.result) (sym is) c.show_front.ensures.tells

pub returns-in-ShowPage-clause-plays : goal.returns-in-ShowPage-clause-plays
returns-in-ShowPage-clause-plays g c =
    let old = moment (g.L.Link.honest c.args.link.now) (g.L.Link.up c.args.link.now) (g.L.Link.down c.args.link.now) c.args.ends.now in
    let is : of_first (seen c.args.line) ≡ of_first show_page = ap (λ l. of_first (seen l)) c.in-ShowPage.is in
    let taken = g.K.Sink.taken c.args.out.now in
    let taken1 = g.K.Sink.taken c.print_page.new.out in
    let cause = sink-cause c.print_page.result _ _ (g.L.Link.faults c.args.link.now) c.print_page.ensures.cause in
    record {
      honest = search rules;
      cause = stop-run c.print_page.result _ _ _ _ cause;
      follows = subst (λ (f : PairForm). PairLinePasses f old old c.print_page.result) (sym is)
          (settled-passes c.print_page.result (of_first show_page) old old (λ start. refl) c.print_page.ensures.never (keeps-still old));
      some = some-printed c.print_page.result _ _ _ c.print_page.ensures.ok;
      runs = subst (λ (f : PairForm). PairCarries (numbered_pair c.args.number f) (scene old taken) (scene old taken1) c.print_page.result)
          (sym is)
          (page-carries c.print_page.result old taken taken1 c.args.number _ _ _ _ c.page.result.now c.page.ensures cause
          c.print_page.ensures.never c.print_page.ensures.ok c.print_page.ensures.err);
    }

pub returns-in-ShowPage-clause-tells : goal.returns-in-ShowPage-clause-tells
returns-in-ShowPage-clause-tells g c =
    let old = moment (g.L.Link.honest c.args.link.now) (g.L.Link.up c.args.link.now) (g.L.Link.down c.args.link.now) c.args.ends.now in
    let is : of_first (seen c.args.line) ≡ of_first show_page = ap (λ l. of_first (seen l)) c.in-ShowPage.is in
    subst (λ (f : PairForm). PairLineTells (numbered_pair c.args.number f) old old c.print_page.result) (sym is)
    (call-tells c.print_page.result c.args.number (of_first show_page) old old _ _ _ _ (λ m panels. refl)
    (sink-cause c.print_page.result _ _ (g.L.Link.faults c.args.link.now) c.print_page.ensures.cause)
    (λ start up0 down0 run.
    (kept-run start up0 down0 old.up old.down old.ends (run-fewer start up0 down0 old.up old.down old.ends run) c.print_page.result
    c.print_page.ensures.never).0))

pub returns-in-ShowSheets-clause-plays : goal.returns-in-ShowSheets-clause-plays
returns-in-ShowSheets-clause-plays g c =
    let old = moment (g.L.Link.honest c.args.link.now) (g.L.Link.up c.args.link.now) (g.L.Link.down c.args.link.now) c.args.ends.now in
    let new = moment (g.L.Link.honest c.show_sheets.new.link) (g.L.Link.up c.show_sheets.new.link)
    (g.L.Link.down c.show_sheets.new.link) c.show_sheets.new.ends in
    let is : of_first (seen c.args.line) ≡ of_first (show_sheets) = ap (λ l. of_first (seen l)) c.in-ShowSheets.is in
    let plays = c.show_sheets.ensures.plays in
    record {
      honest = plays.honest;
      cause = plays.cause;
      follows = subst (λ (f : PairForm). PairLinePasses f old new c.show_sheets.result) (sym is) plays.follows;
      some = plays.some;
      runs = subst (λ (f : PairForm). PairCarries (numbered_pair c.args.number f) (scene old (g.K.Sink.taken c.args.out.now))
          (scene new (g.K.Sink.taken c.show_sheets.new.out)) c.show_sheets.result) (sym is) plays.runs;
    }

pub returns-in-ShowSheets-clause-tells : goal.returns-in-ShowSheets-clause-tells
returns-in-ShowSheets-clause-tells g c =
    let old = moment (g.L.Link.honest c.args.link.now) (g.L.Link.up c.args.link.now) (g.L.Link.down c.args.link.now) c.args.ends.now in
    let new = moment (g.L.Link.honest c.show_sheets.new.link) (g.L.Link.up c.show_sheets.new.link)
    (g.L.Link.down c.show_sheets.new.link) c.show_sheets.new.ends in
    let is : of_first (seen c.args.line) ≡ of_first (show_sheets) = ap (λ l. of_first (seen l)) c.in-ShowSheets.is in
    subst (λ (f : PairForm). PairLineTells (numbered_pair c.args.number f) old new c.show_sheets.result) (sym is)
    c.show_sheets.ensures.tells

pub returns-in-ShowReplies-clause-plays : goal.returns-in-ShowReplies-clause-plays
returns-in-ShowReplies-clause-plays g c =
    let old = moment (g.L.Link.honest c.args.link.now) (g.L.Link.up c.args.link.now) (g.L.Link.down c.args.link.now) c.args.ends.now in
    let new = moment (g.L.Link.honest c.show_replies.new.link) (g.L.Link.up c.show_replies.new.link)
    (g.L.Link.down c.show_replies.new.link) c.show_replies.new.ends in
    let is : of_first (seen c.args.line) ≡ of_first (show_replies) = ap (λ l. of_first (seen l)) c.in-ShowReplies.is in
    let plays = c.show_replies.ensures.plays in
    record {
      honest = plays.honest;
      cause = plays.cause;
      follows = subst (λ (f : PairForm). PairLinePasses f old new c.show_replies.result) (sym is) plays.follows;
      some = plays.some;
      runs = subst (λ (f : PairForm). PairCarries (numbered_pair c.args.number f) (scene old (g.K.Sink.taken c.args.out.now))
          (scene new (g.K.Sink.taken c.show_replies.new.out)) c.show_replies.result) (sym is) plays.runs;
    }

pub returns-in-ShowReplies-clause-tells : goal.returns-in-ShowReplies-clause-tells
returns-in-ShowReplies-clause-tells g c =
    let old = moment (g.L.Link.honest c.args.link.now) (g.L.Link.up c.args.link.now) (g.L.Link.down c.args.link.now) c.args.ends.now in
    let new = moment (g.L.Link.honest c.show_replies.new.link) (g.L.Link.up c.show_replies.new.link)
    (g.L.Link.down c.show_replies.new.link) c.show_replies.new.ends in
    let is : of_first (seen c.args.line) ≡ of_first (show_replies) = ap (λ l. of_first (seen l)) c.in-ShowReplies.is in
    subst (λ (f : PairForm). PairLineTells (numbered_pair c.args.number f) old new c.show_replies.result) (sym is)
    c.show_replies.ensures.tells

pub returns-in-ShowPauses-clause-plays : goal.returns-in-ShowPauses-clause-plays
returns-in-ShowPauses-clause-plays g c =
    let old = moment (g.L.Link.honest c.args.link.now) (g.L.Link.up c.args.link.now) (g.L.Link.down c.args.link.now) c.args.ends.now in
    let new = moment (g.L.Link.honest c.show_pauses.new.link) (g.L.Link.up c.show_pauses.new.link)
    (g.L.Link.down c.show_pauses.new.link) c.show_pauses.new.ends in
    let is : of_first (seen c.args.line) ≡ of_first (show_pauses) = ap (λ l. of_first (seen l)) c.in-ShowPauses.is in
    let plays = c.show_pauses.ensures.plays in
    record {
      honest = plays.honest;
      cause = plays.cause;
      follows = subst (λ (f : PairForm). PairLinePasses f old new c.show_pauses.result) (sym is) plays.follows;
      some = plays.some;
      runs = subst (λ (f : PairForm). PairCarries (numbered_pair c.args.number f) (scene old (g.K.Sink.taken c.args.out.now))
          (scene new (g.K.Sink.taken c.show_pauses.new.out)) c.show_pauses.result) (sym is) plays.runs;
    }

pub returns-in-ShowPauses-clause-tells : goal.returns-in-ShowPauses-clause-tells
returns-in-ShowPauses-clause-tells g c =
    let old = moment (g.L.Link.honest c.args.link.now) (g.L.Link.up c.args.link.now) (g.L.Link.down c.args.link.now) c.args.ends.now in
    let new = moment (g.L.Link.honest c.show_pauses.new.link) (g.L.Link.up c.show_pauses.new.link)
    (g.L.Link.down c.show_pauses.new.link) c.show_pauses.new.ends in
    let is : of_first (seen c.args.line) ≡ of_first (show_pauses) = ap (λ l. of_first (seen l)) c.in-ShowPauses.is in
    subst (λ (f : PairForm). PairLineTells (numbered_pair c.args.number f) old new c.show_pauses.result) (sym is)
    c.show_pauses.ensures.tells

pub returns-in-ShowPanels-clause-plays : goal.returns-in-ShowPanels-clause-plays
returns-in-ShowPanels-clause-plays g c =
    let old = moment (g.L.Link.honest c.args.link.now) (g.L.Link.up c.args.link.now) (g.L.Link.down c.args.link.now) c.args.ends.now in
    let new = moment (g.L.Link.honest c.show_panels.new.link) (g.L.Link.up c.show_panels.new.link)
    (g.L.Link.down c.show_panels.new.link) c.show_panels.new.ends in
    let is : of_first (seen c.args.line) ≡ of_first (show_panels) = ap (λ l. of_first (seen l)) c.in-ShowPanels.is in
    let plays = c.show_panels.ensures.plays c.args.number in
    record {
      honest = plays.honest;
      cause = plays.cause;
      follows = subst (λ (f : PairForm). PairLinePasses f old new c.show_panels.result) (sym is) plays.follows;
      some = plays.some;
      runs = subst (λ (f : PairForm). PairCarries (numbered_pair c.args.number f) (scene old (g.K.Sink.taken c.args.out.now))
          (scene new (g.K.Sink.taken c.show_panels.new.out)) c.show_panels.result) (sym is) plays.runs;
    }

pub returns-in-ShowPanels-clause-tells : goal.returns-in-ShowPanels-clause-tells
returns-in-ShowPanels-clause-tells g c =
    let old = moment (g.L.Link.honest c.args.link.now) (g.L.Link.up c.args.link.now) (g.L.Link.down c.args.link.now) c.args.ends.now in
    let new = moment (g.L.Link.honest c.show_panels.new.link) (g.L.Link.up c.show_panels.new.link)
    (g.L.Link.down c.show_panels.new.link) c.show_panels.new.ends in
    let is : of_first (seen c.args.line) ≡ of_first show_panels = ap (λ l. of_first (seen l)) c.in-ShowPanels.is in
    subst (λ (f : PairForm). PairLineTells (numbered_pair c.args.number f) old new c.show_panels.result) (sym is)
    (c.show_panels.ensures.tells c.args.number)

pub returns-in-ShowStyles-clause-plays : goal.returns-in-ShowStyles-clause-plays
returns-in-ShowStyles-clause-plays g c =
    let old = moment (g.L.Link.honest c.args.link.now) (g.L.Link.up c.args.link.now) (g.L.Link.down c.args.link.now) c.args.ends.now in
    let new = moment (g.L.Link.honest c.show_styles.new.link) (g.L.Link.up c.show_styles.new.link)
    (g.L.Link.down c.show_styles.new.link) c.show_styles.new.ends in
    let is : of_first (seen c.args.line) ≡ of_first (show_styles c.in-ShowStyles.ask) = ap (λ l. of_first (seen l)) c.in-ShowStyles.is in
    let plays = c.show_styles.ensures.plays in
    record {
      honest = plays.honest;
      cause = plays.cause;
      follows = subst (λ (f : PairForm). PairLinePasses f old new c.show_styles.result) (sym is) plays.follows;
      some = plays.some;
      runs = subst (λ (f : PairForm). PairCarries (numbered_pair c.args.number f) (scene old (g.K.Sink.taken c.args.out.now))
          (scene new (g.K.Sink.taken c.show_styles.new.out)) c.show_styles.result) (sym is) plays.runs;
    }

pub returns-in-ShowStyles-clause-tells : goal.returns-in-ShowStyles-clause-tells
returns-in-ShowStyles-clause-tells g c =
    let old = moment (g.L.Link.honest c.args.link.now) (g.L.Link.up c.args.link.now) (g.L.Link.down c.args.link.now) c.args.ends.now in
    let new = moment (g.L.Link.honest c.show_styles.new.link) (g.L.Link.up c.show_styles.new.link)
    (g.L.Link.down c.show_styles.new.link) c.show_styles.new.ends in
    let is : of_first (seen c.args.line) ≡ of_first (show_styles c.in-ShowStyles.ask) = ap (λ l. of_first (seen l)) c.in-ShowStyles.is in
    subst (λ (f : PairForm). PairLineTells (numbered_pair c.args.number f) old new c.show_styles.result) (sym is)
    c.show_styles.ensures.tells

pub returns-in-Close-clause-plays : goal.returns-in-Close-clause-plays
returns-in-Close-clause-plays g c =
    let honest = g.L.Link.honest c.args.link.now in
    let up = g.L.Link.up c.args.link.now in
    let down = g.L.Link.down c.args.link.now in
    let old = moment honest up down c.args.ends.now in
    let new = moment honest up down c.drop_panel.new.ends in
    let is : of_first (seen c.args.line) ≡ of_first (forms.close c.in-Close.place) = ap (λ l. of_first (seen l)) c.in-Close.is in
    let taken = g.K.Sink.taken c.args.out.now in
    record {
      honest = search rules;
      cause = panel-cause c.drop_panel.result c.args.number _ _ _ c.drop_panel.ensures.refused;
      follows = subst (λ (f : PairForm). PairLinePasses f old new c.drop_panel.result) (sym is)
          (panel-passes c.drop_panel.result c.args.number c.in-Close.place honest up down c.args.ends.now c.drop_panel.new.ends
          c.drop_panel.ensures.refused c.drop_panel.ensures.dropped);
      some = none-printed c.drop_panel.result taken;
      runs = subst (λ (f : PairForm). PairCarries (numbered_pair c.args.number f) (scene old taken) (scene new taken) c.drop_panel.result)
          (sym is)
          (panel-carries c.drop_panel.result c.args.number c.in-Close.place honest up down c.args.ends.now c.drop_panel.new.ends
          c.drop_panel.ensures.refused c.drop_panel.ensures.dropped taken);
    }

pub returns-in-Close-clause-tells : goal.returns-in-Close-clause-tells
returns-in-Close-clause-tells g c =
    let honest = g.L.Link.honest c.args.link.now in
    let up = g.L.Link.up c.args.link.now in
    let down = g.L.Link.down c.args.link.now in
    let old = moment honest up down c.args.ends.now in
    let new = moment honest up down c.drop_panel.new.ends in
    let is : of_first (seen c.args.line) ≡ of_first (forms.close c.in-Close.place) = ap (λ l. of_first (seen l)) c.in-Close.is in
    subst (λ (f : PairForm). PairLineTells (numbered_pair c.args.number f) old new c.drop_panel.result) (sym is)
    (panel-tells c.drop_panel.result c.args.number c.in-Close.place honest up down c.args.ends.now c.drop_panel.new.ends
    c.drop_panel.ensures.refused c.drop_panel.ensures.dropped)
