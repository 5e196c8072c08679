use Rattle.std.proofs.Common.{List, ap, subst, ◌∙◌}
use Rattle.std.specs.Str.{IsUtf8}
use Rattle.sheet_reader.specs.declared.sheet.MediaRule.{MediaRule}
use Rattle.sheet_reader.specs.declared.sheet.Sheet.{Sheet}
use Rattle.style_edits.specs.MediaEdits.{media_up_to}
use Rattle.style_edits.proofs.SheetOrder.{media_in_order}
use Rattle.style_edits.proofs.media_edits.media_up_to.Goals as goal

pub media_among-requires : goal.media_among-requires
media_among-requires c =
    media_in_order c.args.entry.now c.as_slice.result.now c.requires
    (subst IsUtf8 c.as_str-text.ensures c.as_str-text.utf8) c.as_slice.ensures

pub returns : goal.returns
returns c =
    c.media_among.ensures
    ∙ ap (λ (ms : List MediaRule). media_up_to ms c.args.byte) (c.as_slice.ensures ∙ ap (λ (s : Sheet). s.media) c.requires.read)
