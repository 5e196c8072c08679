-- An ask or a show of the second front end is carried out.
use Rattle.std.proofs.Common.{◌≡◌, ◌∙◌, sym, ap, subst}
use Rattle.replay_script.specs.Forms as forms
use Rattle.replay_script.specs.Forms.{show_front, show_sheets, show_replies, show_pauses, show_styles}
use Rattle.replay_script.specs.Seen.{seen, seen_ask}
use Rattle.replay_script.specs.Sound.{IsSound, AreWhole}
use Rattle.replay_script.specs.PairLines.{PairForm, of_second, may_be_second}
use Rattle.replay_parts.specs.Moments.{moment, scene}
use Rattle.pair_replay.specs.Following.{PairLinePasses, PairLineTells}
use Rattle.pair_replay.specs.Playing.{PairCarries, numbered_pair}
use Rattle.replay_parts.proofs.StopLemmas.{none-printed}
use Rattle.replay_parts.proofs.CauseLemmas.{link-run}
use Rattle.pair_replay.proofs.carry.carry_second.Goals as goal

pub carry_second_ask-requires-clause-can : goal.carry_second_ask-requires-clause-can
carry_second_ask-requires-clause-can g c = subst IsSound (ap seen c.in-Ask.is) c.requires.sound

pub carry_second_ask-requires-clause-may : goal.carry_second_ask-requires-clause-may
carry_second_ask-requires-clause-may g c = sym (ap (λ l. may_be_second (seen l)) c.in-Ask.is) ∙ c.requires.may

pub carry_second_ask-requires-clause-params : goal.carry_second_ask-requires-clause-params
carry_second_ask-requires-clause-params g c = (subst AreWhole c.in-Ask.is c.requires.whole).0

pub returns-in-Ask-clause-plays : goal.returns-in-Ask-clause-plays
returns-in-Ask-clause-plays g c =
    let old = moment (g.L.Link.honest c.args.link.now) (g.L.Link.up c.args.link.now) (g.L.Link.down c.args.link.now) c.args.ends.now in
    let new = moment (g.L.Link.honest c.carry_second_ask.new.link) (g.L.Link.up c.carry_second_ask.new.link)
    (g.L.Link.down c.carry_second_ask.new.link) c.carry_second_ask.new.ends in
    let taken = g.K.Sink.taken c.args.out.now in
    let is : of_second (seen c.args.line) ≡ of_second (forms.ask (seen_ask c.in-Ask.ask)) = ap (λ l. of_second (seen l)) c.in-Ask.is in
    record {
      honest = c.carry_second_ask.ensures.honest;
      cause = link-run c.carry_second_ask.result _ _ _ c.carry_second_ask.ensures.cause;
      follows = subst (λ (f : PairForm). PairLinePasses f old new c.carry_second_ask.result) (sym is) c.carry_second_ask.ensures.follows;
      some = none-printed c.carry_second_ask.result taken;
      runs = subst
          (λ (f : PairForm). PairCarries (numbered_pair c.args.number f) (scene old taken) (scene new taken) c.carry_second_ask.result)
          (sym is)
          (c.carry_second_ask.ensures.runs taken);
    }

pub returns-in-Ask-clause-tells : goal.returns-in-Ask-clause-tells
returns-in-Ask-clause-tells g c =
    let old = moment (g.L.Link.honest c.args.link.now) (g.L.Link.up c.args.link.now) (g.L.Link.down c.args.link.now) c.args.ends.now in
    let new = moment (g.L.Link.honest c.carry_second_ask.new.link) (g.L.Link.up c.carry_second_ask.new.link)
    (g.L.Link.down c.carry_second_ask.new.link) c.carry_second_ask.new.ends in
    let is : of_second (seen c.args.line) ≡ of_second (forms.ask (seen_ask c.in-Ask.ask)) = ap (λ l. of_second (seen l)) c.in-Ask.is in
    subst (λ (f : PairForm). PairLineTells (numbered_pair c.args.number f) old new c.carry_second_ask.result) (sym is)
    c.carry_second_ask.ensures.tells

pub returns-in-ShowFront-clause-plays : goal.returns-in-ShowFront-clause-plays
returns-in-ShowFront-clause-plays g c =
    let old = moment (g.L.Link.honest c.args.link.now) (g.L.Link.up c.args.link.now) (g.L.Link.down c.args.link.now) c.args.ends.now in
    let new = moment (g.L.Link.honest c.show_front.new.link) (g.L.Link.up c.show_front.new.link)
    (g.L.Link.down c.show_front.new.link) c.show_front.new.ends in
    let is : of_second (seen c.args.line) ≡ of_second (show_front) = ap (λ l. of_second (seen l)) c.in-ShowFront.is in
    let plays = c.show_front.ensures.plays in
    record {
      honest = plays.honest;
      cause = plays.cause;
      follows = subst (λ (f : PairForm). PairLinePasses f old new c.show_front.result) (sym is) plays.follows;
      some = plays.some;
      runs = subst (λ (f : PairForm). PairCarries (numbered_pair c.args.number f) (scene old (g.K.Sink.taken c.args.out.now))
          (scene new (g.K.Sink.taken c.show_front.new.out)) c.show_front.result) (sym is) plays.runs;
    }

pub returns-in-ShowFront-clause-tells : goal.returns-in-ShowFront-clause-tells
returns-in-ShowFront-clause-tells g c =
    let old = moment (g.L.Link.honest c.args.link.now) (g.L.Link.up c.args.link.now) (g.L.Link.down c.args.link.now) c.args.ends.now in
    let new = moment (g.L.Link.honest c.show_front.new.link) (g.L.Link.up c.show_front.new.link)
    (g.L.Link.down c.show_front.new.link) c.show_front.new.ends in
    let is : of_second (seen c.args.line) ≡ of_second (show_front) = ap (λ l. of_second (seen l)) c.in-ShowFront.is in
    subst (λ (f : PairForm). PairLineTells (numbered_pair c.args.number f) old new c.show_front.result) (sym is) c.show_front.ensures.tells

pub returns-in-ShowSheets-clause-plays : goal.returns-in-ShowSheets-clause-plays
returns-in-ShowSheets-clause-plays g c =
    let old = moment (g.L.Link.honest c.args.link.now) (g.L.Link.up c.args.link.now) (g.L.Link.down c.args.link.now) c.args.ends.now in
    let new = moment (g.L.Link.honest c.show_sheets.new.link) (g.L.Link.up c.show_sheets.new.link)
    (g.L.Link.down c.show_sheets.new.link) c.show_sheets.new.ends in
    let is : of_second (seen c.args.line) ≡ of_second (show_sheets) = ap (λ l. of_second (seen l)) c.in-ShowSheets.is in
    let plays = c.show_sheets.ensures.plays in
    record {
      honest = plays.honest;
      cause = plays.cause;
      follows = subst (λ (f : PairForm). PairLinePasses f old new c.show_sheets.result) (sym is) plays.follows;
      some = plays.some;
      runs = subst (λ (f : PairForm). PairCarries (numbered_pair c.args.number f) (scene old (g.K.Sink.taken c.args.out.now))
          (scene new (g.K.Sink.taken c.show_sheets.new.out)) c.show_sheets.result) (sym is) plays.runs;
    }

pub returns-in-ShowSheets-clause-tells : goal.returns-in-ShowSheets-clause-tells
returns-in-ShowSheets-clause-tells g c =
    let old = moment (g.L.Link.honest c.args.link.now) (g.L.Link.up c.args.link.now) (g.L.Link.down c.args.link.now) c.args.ends.now in
    let new = moment (g.L.Link.honest c.show_sheets.new.link) (g.L.Link.up c.show_sheets.new.link)
    (g.L.Link.down c.show_sheets.new.link) c.show_sheets.new.ends in
    let is : of_second (seen c.args.line) ≡ of_second (show_sheets) = ap (λ l. of_second (seen l)) c.in-ShowSheets.is in
    subst (λ (f : PairForm). PairLineTells (numbered_pair c.args.number f) old new c.show_sheets.result) (sym is)
    c.show_sheets.ensures.tells

pub returns-in-ShowReplies-clause-plays : goal.returns-in-ShowReplies-clause-plays
returns-in-ShowReplies-clause-plays g c =
    let old = moment (g.L.Link.honest c.args.link.now) (g.L.Link.up c.args.link.now) (g.L.Link.down c.args.link.now) c.args.ends.now in
    let new = moment (g.L.Link.honest c.show_replies.new.link) (g.L.Link.up c.show_replies.new.link)
    (g.L.Link.down c.show_replies.new.link) c.show_replies.new.ends in
    let is : of_second (seen c.args.line) ≡ of_second (show_replies) = ap (λ l. of_second (seen l)) c.in-ShowReplies.is in
    let plays = c.show_replies.ensures.plays in
    record {
      honest = plays.honest;
      cause = plays.cause;
      follows = subst (λ (f : PairForm). PairLinePasses f old new c.show_replies.result) (sym is) plays.follows;
      some = plays.some;
      runs = subst (λ (f : PairForm). PairCarries (numbered_pair c.args.number f) (scene old (g.K.Sink.taken c.args.out.now))
          (scene new (g.K.Sink.taken c.show_replies.new.out)) c.show_replies.result) (sym is) plays.runs;
    }

pub returns-in-ShowReplies-clause-tells : goal.returns-in-ShowReplies-clause-tells
returns-in-ShowReplies-clause-tells g c =
    let old = moment (g.L.Link.honest c.args.link.now) (g.L.Link.up c.args.link.now) (g.L.Link.down c.args.link.now) c.args.ends.now in
    let new = moment (g.L.Link.honest c.show_replies.new.link) (g.L.Link.up c.show_replies.new.link)
    (g.L.Link.down c.show_replies.new.link) c.show_replies.new.ends in
    let is : of_second (seen c.args.line) ≡ of_second (show_replies) = ap (λ l. of_second (seen l)) c.in-ShowReplies.is in
    subst (λ (f : PairForm). PairLineTells (numbered_pair c.args.number f) old new c.show_replies.result) (sym is)
    c.show_replies.ensures.tells

pub returns-in-ShowPauses-clause-plays : goal.returns-in-ShowPauses-clause-plays
returns-in-ShowPauses-clause-plays g c =
    let old = moment (g.L.Link.honest c.args.link.now) (g.L.Link.up c.args.link.now) (g.L.Link.down c.args.link.now) c.args.ends.now in
    let new = moment (g.L.Link.honest c.show_pauses.new.link) (g.L.Link.up c.show_pauses.new.link)
    (g.L.Link.down c.show_pauses.new.link) c.show_pauses.new.ends in
    let is : of_second (seen c.args.line) ≡ of_second (show_pauses) = ap (λ l. of_second (seen l)) c.in-ShowPauses.is in
    let plays = c.show_pauses.ensures.plays in
    record {
      honest = plays.honest;
      cause = plays.cause;
      follows = subst (λ (f : PairForm). PairLinePasses f old new c.show_pauses.result) (sym is) plays.follows;
      some = plays.some;
      runs = subst (λ (f : PairForm). PairCarries (numbered_pair c.args.number f) (scene old (g.K.Sink.taken c.args.out.now))
          (scene new (g.K.Sink.taken c.show_pauses.new.out)) c.show_pauses.result) (sym is) plays.runs;
    }

pub returns-in-ShowPauses-clause-tells : goal.returns-in-ShowPauses-clause-tells
returns-in-ShowPauses-clause-tells g c =
    let old = moment (g.L.Link.honest c.args.link.now) (g.L.Link.up c.args.link.now) (g.L.Link.down c.args.link.now) c.args.ends.now in
    let new = moment (g.L.Link.honest c.show_pauses.new.link) (g.L.Link.up c.show_pauses.new.link)
    (g.L.Link.down c.show_pauses.new.link) c.show_pauses.new.ends in
    let is : of_second (seen c.args.line) ≡ of_second (show_pauses) = ap (λ l. of_second (seen l)) c.in-ShowPauses.is in
    subst (λ (f : PairForm). PairLineTells (numbered_pair c.args.number f) old new c.show_pauses.result) (sym is)
    c.show_pauses.ensures.tells

pub returns-in-ShowStyles-clause-plays : goal.returns-in-ShowStyles-clause-plays
returns-in-ShowStyles-clause-plays g c =
    let old = moment (g.L.Link.honest c.args.link.now) (g.L.Link.up c.args.link.now) (g.L.Link.down c.args.link.now) c.args.ends.now in
    let new = moment (g.L.Link.honest c.show_styles.new.link) (g.L.Link.up c.show_styles.new.link)
    (g.L.Link.down c.show_styles.new.link) c.show_styles.new.ends in
    let is : of_second (seen c.args.line) ≡ of_second (show_styles c.in-ShowStyles.ask) = ap (λ l. of_second (seen l)) c.in-ShowStyles.is in
    let plays = c.show_styles.ensures.plays in
    record {
      honest = plays.honest;
      cause = plays.cause;
      follows = subst (λ (f : PairForm). PairLinePasses f old new c.show_styles.result) (sym is) plays.follows;
      some = plays.some;
      runs = subst (λ (f : PairForm). PairCarries (numbered_pair c.args.number f) (scene old (g.K.Sink.taken c.args.out.now))
          (scene new (g.K.Sink.taken c.show_styles.new.out)) c.show_styles.result) (sym is) plays.runs;
    }

pub returns-in-ShowStyles-clause-tells : goal.returns-in-ShowStyles-clause-tells
returns-in-ShowStyles-clause-tells g c =
    let old = moment (g.L.Link.honest c.args.link.now) (g.L.Link.up c.args.link.now) (g.L.Link.down c.args.link.now) c.args.ends.now in
    let new = moment (g.L.Link.honest c.show_styles.new.link) (g.L.Link.up c.show_styles.new.link)
    (g.L.Link.down c.show_styles.new.link) c.show_styles.new.ends in
    let is : of_second (seen c.args.line) ≡ of_second (show_styles c.in-ShowStyles.ask) = ap (λ l. of_second (seen l)) c.in-ShowStyles.is in
    subst (λ (f : PairForm). PairLineTells (numbered_pair c.args.number f) old new c.show_styles.result) (sym is)
    c.show_styles.ensures.tells
