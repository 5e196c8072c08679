use Rattle.std.proofs.Common.{option_map, sym, ap, ◌∙◌}
use Rattle.css_tokens.specs.Marks.{IsPieceOf}
use Rattle.sheet_reader.specs.Seen.{part_seen, media_seen}
use Rattle.sheet_reader.proofs.FrameForms.{form_all}
use Rattle.sheet_reader.proofs.EndForms.{part_begins}
use Rattle.sheet_reader.proofs.media.open_media.Goals as goal

pub media_rule-requires : goal.media_rule-requires
media_rule-requires c =
    let e = sym c.media_form.ensures ∙ ap (option_map media_seen) c.in-Some.is in
    let all = form_all (IsPieceOf c.args.text.now) c.args.text.now (part_seen c.args.part) (media_seen c.in-Some.media) e
    c.requires.pieces in
    all.0

pub inside_ends-ends-requires-clause-first : goal.inside_ends-ends-requires-clause-first
inside_ends-ends-requires-clause-first c =
    part_begins c.args.text.now (part_seen c.args.part) (media_seen c.in-Some.media) c.args.frame.left.now
    (sym c.media_form.ensures ∙ ap (option_map media_seen) c.in-Some.is) c.requires.first
