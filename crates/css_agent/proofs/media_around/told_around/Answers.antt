use Rattle.std.proofs.Common.{ℕ, List, All, map, reverse, ap, subst, sym, ◌∙◌}
use Rattle.css_objects.specs.declared.media.Media.{Media}
use Rattle.selectors.specs.Ranges.{IsRangeOf}
use Rattle.sheet_reader.specs.declared.sheet.MediaRule.{MediaRule}
use Rattle.sheet_reader.specs.declared.sheet.Sheet.{Sheet}
use Rattle.sheet_reader.specs.Around.{AreBelow}
use Rattle.sheet_reader.proofs.AroundForms.{sheet_there}
use Rattle.cascade_match.proofs.HeldForms.{entry-cut}
use Rattle.css_agent.proofs.AroundLemmas.{around-all, told-turned, all-turned}
use Rattle.css_agent.specs.MediaAround.{media_around, told_media}
use Rattle.css_agent.proofs.media_around.told_around.Goals as goal

pub media_around-requires-clause-media : goal.media_around-requires-clause-media
media_around-requires-clause-media c =
    subst (AreBelow 0) (sym (c.as_slice.ensures ∙ ap (λ (s : Sheet). s.media) c.requires.entry.read))
    (sheet_there c.args.entry.now.text).media

pub told_each-requires : goal.told_each-requires
told_each-requires c =
    let P : MediaRule → Type 0 = λ r. IsRangeOf c.args.ruler.now r.prelude in
    let cut = subst (λ (t : List ℕ). All (λ r. IsRangeOf t r.prelude) c.as_slice.result.now)
    (c.as_str-text.ensures ∙ sym c.requires.text)
    (entry-cut c.args.entry.now c.as_str-text.result.now c.as_slice.result.now c.as_str-text.ensures c.as_slice.ensures
    c.requires.entry.read c.as_str-text.utf8) in
    all-turned P c.in_ok-rules.rules.items c.as_slice-2.result.now (c.as_slice-2.ensures.value ∙ c.reverse.ensures.items)
    (subst (λ (l : List MediaRule). All P l) (sym c.in_ok-rules.ensures) (around-all P c.as_slice.result.now c.args.around cut))

pub returns-clause-value : goal.returns-clause-value
returns-clause-value c =
    let f : MediaRule → Media = told_media c.args.entry.now.id c.args.entry.now.text in
    let said = c.as_slice.ensures ∙ ap (λ (s : Sheet). s.media) c.requires.entry.read in
    told-turned f
    (media_around c.as_slice.result.now c.args.around) c.as_slice-2.result.now c.in_ok-told.told.items c.reverse-2.new.self.items
    (c.as_slice-2.ensures.value ∙ c.reverse.ensures.items ∙ ap (λ (l : List MediaRule). reverse l) c.in_ok-rules.ensures)
    (c.in_ok-told.ensures.value ∙ ap (λ (t : List ℕ). map (told_media c.args.entry.now.id t) c.as_slice-2.result.now) c.requires.text)
    c.reverse-2.ensures.items
    ∙ ap (λ (ms : List MediaRule). map f (media_around ms c.args.around)) said
