-- A line is carried out: one that drops a panel, and any other.
use Rattle.std.proofs.Common.{rules, ◌∙◌, sym, subst}
use Rattle.replay_script.specs.Forms.{LineForm}
use Rattle.replay_script.specs.Seen.{seen}
use Rattle.inspect_replay.specs.Followed.{LinePasses, LineTells}
use Rattle.inspect_replay.specs.Prints.{CarriesLine, numbered_line}
use Rattle.replay_parts.specs.Moments.{moment, scene}
use Rattle.inspect_replay.proofs.LinesRun.{drops-panel}
use Rattle.inspect_replay.proofs.PanelLemmas.{panel-carries, panel-passes, panel-tells}
use Rattle.replay_parts.proofs.ClosedPanels.{panel-cause}
use Rattle.replay_parts.proofs.StopLemmas.{none-printed}
use Rattle.inspect_replay.proofs.run.carry_out.Goals as goal

pub carry_open-requires-clause-keeps : goal.carry_open-requires-clause-keeps
carry_open-requires-clause-keeps g c = sym c.closed_by.ensures ∙ c.in-None.is

pub returns-in-Some-clause-plays : goal.returns-in-Some-clause-plays
returns-in-Some-clause-plays g c =
    let is = drops-panel (seen c.args.line) c.in-Some.place (sym c.closed_by.ensures ∙ c.in-Some.is) in
    let now = moment (g.L.Link.honest c.args.link.now) (g.L.Link.up c.args.link.now) (g.L.Link.down c.args.link.now) c.args.ends.now in
    let after = moment (g.L.Link.honest c.args.link.now) (g.L.Link.up c.args.link.now) (g.L.Link.down c.args.link.now)
    c.drop_panel.new.ends in
    let taken = g.K.Sink.taken c.args.out.now in
    record {
      honest = search rules;
      cause = panel-cause c.drop_panel.result c.args.number _ _ _ c.drop_panel.ensures.refused;
      follows = subst (λ (form : LineForm). LinePasses now after form c.drop_panel.result) (sym is)
          (panel-passes c.drop_panel.result c.args.number c.in-Some.place (g.L.Link.honest c.args.link.now)
          (g.L.Link.up c.args.link.now) (g.L.Link.down c.args.link.now) c.args.ends.now c.drop_panel.new.ends
          c.drop_panel.ensures.refused c.drop_panel.ensures.dropped);
      some = none-printed c.drop_panel.result taken;
      runs = subst (λ (form : LineForm). CarriesLine (scene now taken) (scene after taken) (numbered_line c.args.number form)
          c.drop_panel.result) (sym is)
          (panel-carries c.drop_panel.result c.args.number c.in-Some.place (g.L.Link.honest c.args.link.now)
          (g.L.Link.up c.args.link.now) (g.L.Link.down c.args.link.now) c.args.ends.now c.drop_panel.new.ends
          c.drop_panel.ensures.refused taken c.drop_panel.ensures.dropped);
    }

pub returns-in-Some-clause-tells : goal.returns-in-Some-clause-tells
returns-in-Some-clause-tells g c =
    let is = drops-panel (seen c.args.line) c.in-Some.place (sym c.closed_by.ensures ∙ c.in-Some.is) in
    let now = moment (g.L.Link.honest c.args.link.now) (g.L.Link.up c.args.link.now) (g.L.Link.down c.args.link.now) c.args.ends.now in
    let after = moment (g.L.Link.honest c.args.link.now) (g.L.Link.up c.args.link.now) (g.L.Link.down c.args.link.now)
    c.drop_panel.new.ends in
    subst (λ (form : LineForm). LineTells now after (numbered_line c.args.number form) c.drop_panel.result) (sym is)
    (panel-tells c.drop_panel.result c.args.number c.in-Some.place (g.L.Link.honest c.args.link.now) (g.L.Link.up c.args.link.now)
    (g.L.Link.down c.args.link.now) c.args.ends.now c.drop_panel.new.ends c.drop_panel.ensures.refused)
