use Rattle.std.proofs.Common.{List, All, subst, sym, ◌∙◌}
use Rattle.sheet_reader.specs.declared.sheet.Property.{Property}
use Rattle.sheet_reader.specs.Usable.{IsPropertyOf}
use Rattle.sheet_reader.proofs.UsableForms.{style_usable}
use Rattle.css_agent.proofs.styles.inline_style.Goals as goal

pub inline_properties-requires : goal.inline_properties-requires
inline_properties-requires c =
    let usable = style_usable c.args.text.now c.utf8.text in
    subst (λ (ps : List Property). All (IsPropertyOf c.args.text.now) ps)
    (sym (c.as_slice.ensures.value ∙ c.in_ok-properties.ensures)) usable.each
