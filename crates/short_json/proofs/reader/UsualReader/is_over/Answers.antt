use Rattle.std.proofs.Common.{rules, sym, ◌∙◌}
use Rattle.short_json.specs.Places.{place_seen}
use Rattle.short_json.proofs.Places.{nothing_left}
use Rattle.short_json.proofs.reader.UsualReader.is_over.Goals as goal

pub returns : goal.returns
returns c =
    λ e. sym c.self.view_is
    ∙ nothing_left (place_seen c.self.inside.place) c.self.inside.left.now (search rules) (sym c.may_close.ensures ∙ e)
