-- A sheet that the front end knows is fetched, and another is passed over.
use Rattle.std.proofs.Common.{rules, refl}
use Rattle.front_mirror.specs.Sheets.{has_sheet}
use Rattle.multi_replay.specs.States.{is_there, front_meant}
use Rattle.replay_parts.specs.Moments.{moment}
use Rattle.pair_replay.proofs.LineFollows.{keeps-still}
use Rattle.pair_replay.proofs.FetchSteps.{both-true, not-both, known-fetched, unknown-passed}
use Rattle.pair_replay.proofs.two_fronts.TwoFronts.fetch_if_known.Goals as goal

pub fetch_text-requires-clause-stands : goal.fetch_text-requires-clause-stands
fetch_text-requires-clause-stands g c =
    let p = c.args.self.now.fronts.pair in
    (both-true (is_there c.args.second p) (has_sheet c.args.number (front_meant c.args.second p).value.sheets) c.if-knows_sheet.ensures).0

pub fetch_text-requires-clause-known : goal.fetch_text-requires-clause-known
fetch_text-requires-clause-known g c =
    let p = c.args.self.now.fronts.pair in
    (both-true (is_there c.args.second p) (has_sheet c.args.number (front_meant c.args.second p).value.sheets) c.if-knows_sheet.ensures).1

pub returns-then-knows_sheet : goal.returns-then-knows_sheet
returns-then-knows_sheet g c =
    let old = moment (g.L.Link.honest c.args.link.now) (g.L.Link.up c.args.link.now) (g.L.Link.down c.args.link.now) c.args.self.now in
    let new = moment (g.L.Link.honest c.fetch_text.new.link) (g.L.Link.up c.fetch_text.new.link)
    (g.L.Link.down c.fetch_text.new.link) c.fetch_text.new.self in
    let p = c.args.self.now.fronts.pair in
    let both =
    both-true (is_there c.args.second p) (has_sheet c.args.number (front_meant c.args.second p).value.sheets) c.if-knows_sheet.ensures in
    record {
      honest = search rules;
      cause = search rules;
      follows = c.fetch_text.ensures.follows;
      steps = known-fetched c.args.second c.args.number c.fetch_text.result old new both.0 both.1 c.fetch_text.ensures.steps;
    }

pub returns : goal.returns
returns g c =
    let old = moment (g.L.Link.honest c.args.link.now) (g.L.Link.up c.args.link.now) (g.L.Link.down c.args.link.now) c.args.self.now in
    let p = c.args.self.now.fronts.pair in
    record {
      honest = search rules;
      cause = search rules;
      follows = keeps-still old;
      steps = unknown-passed c.args.second c.args.number old (is_there c.args.second p) refl
          (not-both (is_there c.args.second p) (has_sheet c.args.number (front_meant c.args.second p).value.sheets)
          c.if-knows_sheet.ensures);
    }
