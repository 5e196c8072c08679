-- The sheets whose text the front end that is meant lacks or knows to be old.
use Rattle.std.proofs.Common.{◌≡◌, cond, [], IfOk, ◌∙◌, ap, subst}
use Rattle.front_mirror.specs.Front.{FrontState}
use Rattle.front_mirror.specs.Sheets.{stale_of}
use Rattle.multi_replay.specs.States.{front_meant}
use Rattle.pair_replay.proofs.two_fronts.TwoFronts.stale.Goals as goal

pub returns-in-Some : goal.returns-in-Some
returns-in-Some g c =
    let p = c.args.self.now.fronts.pair in
    subst (λ ns. IfOk c.stale.result (λ numbers. numbers.items ≡ ns))
    (ap (λ (f : FrontState). stale_of f.value.sheets) c.in-Some.ensures.front
    ∙ ap (λ b. cond b (stale_of (front_meant c.args.second p).value.sheets) []) c.in-Some.ensures.stands) c.stale.ensures.sheets

pub returns-in-None : goal.returns-in-None
returns-in-None g c =
    let p = c.args.self.now.fronts.pair in
    c.new.ensures.items
    ∙ ap (λ b. cond b (stale_of (front_meant c.args.second p).value.sheets) []) c.in-None.ensures.stands
