-- A sheet that the front end knows is fetched, and another is passed over.
use Rattle.std.proofs.Common.{rules, sym}
use Rattle.inspect_replay.proofs.EndLemmas.{fetch_known}
use Rattle.inspect_replay.proofs.one_front.OneFront.fetch_if_known.Goals as goal

pub returns-then-knows_sheet : goal.returns-then-knows_sheet
returns-then-knows_sheet g c = record {
  honest = search rules;
  cause = search rules;
  follows = search rules;
  steps = λ up0 down0 w few run.
      fetch_known c.fetch_text.result (g.L.Link.honest c.args.link.now) (g.L.Link.honest c.fetch_text.new.link) up0 down0
      (g.L.Link.up c.args.link.now) (g.L.Link.down c.args.link.now) (g.L.Link.up c.fetch_text.new.link)
      (g.L.Link.down c.fetch_text.new.link)
      w c.args.self.now c.fetch_text.new.self c.args.number run (sym c.if-knows_sheet.ensures)
      (c.fetch_text.ensures.steps up0 down0 w few run);
}
