use Rattle.std.proofs.Common.{◌<◌, sym, ◌∙◌, arith}
use Rattle.css_tokens.proofs.Named.{none_named, bare_named, function_named, name_some}
use Rattle.css_tokens.specs.Runs.{name_len}
use Rattle.css_tokens.proofs.names.named.Goals as goal

pub returns-then-not-starts_ident-clause-value : goal.returns-then-not-starts_ident-clause-value
returns-then-not-starts_ident-clause-value c = none_named c.args.text.now (sym c.starts_ident.ensures ∙ c.if-not-starts_ident.true)

pub returns-then-not-is_called-clause-value : goal.returns-then-not-is_called-clause-value
returns-then-not-is_called-clause-value c =
    bare_named c.args.text.now _ c.name_len-name.ensures.value (sym c.starts_ident.ensures ∙ c.if-not-starts_ident.false)
    (sym c.is_called.ensures ∙ c.if-not-is_called.true)

pub returns-then-not-is_called-clause-fits : goal.returns-then-not-is_called-clause-fits
returns-then-not-is_called-clause-fits c =
    let some : 0 < name_len c.args.text.now = name_some c.args.text.now (sym c.starts_ident.ensures ∙ c.if-not-starts_ident.false) in
    (omega (arith, c.name_len-name.ensures.value), c.name_len-name.ensures.fits)

pub returns-else-opens_url-clause-value : goal.returns-else-opens_url-clause-value
returns-else-opens_url-clause-value c =
    function_named c.args.text.now _ c.name_len-name.ensures.value (sym c.starts_ident.ensures ∙ c.if-not-starts_ident.false)
    (sym c.is_called.ensures ∙ c.if-not-is_called.false) (sym c.opens_url.ensures ∙ c.if-opens_url.false)
