use Rattle.std.proofs.Common.{rules, ◌≡◌, List, ℕ, Some, None, arith, sym, ap, ◌∙◌}
use Rattle.std.proofs.lemmas.Str.Pattern.{strip_prefix_char}
use Rattle.cdp_messages.specs.SearchIds.{search_in}
use Rattle.cdp_messages.proofs.SearchIds.{read_no_q}
use Rattle.cdp_messages.proofs.search_ids.search_in.Goals as goal

pub returns-in_err-digits : goal.returns-in_err-digits
returns-in_err-digits c =
    let none : c.from_residual.result ≡ None = search rules in
    none ∙ read_no_q c.args.text.now (strip_prefix_char 113 c.args.text.now None c.in_err-digits.ensures.cases (omega arith))

pub returns : goal.returns
returns c =
    c.number_in.ensures
    ∙ ap (λ (t : List ℕ). search_in t)
    (sym (strip_prefix_char 113 c.args.text.now (Some c.in_ok-digits.digits) c.in_ok-digits.ensures.cases (omega arith)))
