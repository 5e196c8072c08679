-- Whether the front end that is meant stands, and knows the sheet.
use Rattle.std.proofs.Common.{◌&&◌, ◌∙◌, ap}
use Rattle.front_mirror.specs.Front.{FrontState}
use Rattle.front_mirror.specs.Sheets.{has_sheet}
use Rattle.multi_replay.specs.States.{front_meant}
use Rattle.pair_replay.proofs.two_fronts.TwoFronts.knows_sheet.Goals as goal

pub returns-in-Some : goal.returns-in-Some
returns-in-Some g c =
    let p = c.args.self.now.fronts.pair in
    c.knows_sheet.ensures
    ∙ ap (λ (f : FrontState). has_sheet c.args.number f.value.sheets) c.in-Some.ensures.front
    ∙ ap (λ b. b && has_sheet c.args.number (front_meant c.args.second p).value.sheets) c.in-Some.ensures.stands

pub returns-in-None : goal.returns-in-None
returns-in-None g c =
    let p = c.args.self.now.fronts.pair in
    ap (λ b. b && has_sheet c.args.number (front_meant c.args.second p).value.sheets) c.in-None.ensures.stands
