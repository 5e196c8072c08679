use Rattle.std.proofs.Common.{rules, ◌≡◌, List, ℕ, Some, None, arith, sym, ap, ◌∙◌}
use Rattle.std.proofs.lemmas.Str.Pattern.{strip_prefix_char}
use Rattle.multi_replay.specs.Incoming.{session_number}
use Rattle.multi_replay.proofs.NumberLemmas.{read_no_s}
use Rattle.multi_replay.proofs.outcomes.session_number.Goals as goal

pub returns-in_err-digits : goal.returns-in_err-digits
returns-in_err-digits c =
    let none : c.from_residual.result ≡ None = search rules in
    none ∙ read_no_s c.args.text.now (strip_prefix_char 83 c.args.text.now None c.in_err-digits.ensures.cases (omega arith))

pub returns : goal.returns
returns c =
    c.number_in.ensures
    ∙ ap (λ (t : List ℕ). session_number t)
    (sym (strip_prefix_char 83 c.args.text.now (Some c.in_ok-digits.digits) c.in_ok-digits.ensures.cases (omega arith)))
