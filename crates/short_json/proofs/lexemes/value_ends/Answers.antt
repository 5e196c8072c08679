use Rattle.std.proofs.Common.{get_or, inl, inr, sym, ap, ◌∙◌}
use Rattle.std.proofs.lemmas.Bool.{eqb-true}
use Rattle.short_json.proofs.Places.{mark_next}
use Rattle.short_json.proofs.lexemes.value_ends.Goals as goal

pub returns-then-bytes-eq44-clause-value : goal.returns-then-bytes-eq44-clause-value
returns-then-bytes-eq44-clause-value c =
    λ _. (mark_next c.args.text.now (inl (ap (λ t. get_or t 0 0) (sym c.as_bytes-bytes.ensures.value) ∙ c.if-bytes-eq44.true))).1

pub returns-then-bytes-eq125-clause-value : goal.returns-then-bytes-eq125-clause-value
returns-then-bytes-eq125-clause-value c =
    λ _. (mark_next c.args.text.now (inr (inl (ap (λ t. get_or t 0 0) (sym c.as_bytes-bytes.ensures.value) ∙ c.if-bytes-eq125.true)))).1

pub returns-clause-value : goal.returns-clause-value
returns-clause-value c =
    λ e. (mark_next c.args.text.now
    (inr (inr (ap (λ t. get_or t 0 0) (sym c.as_bytes-bytes.ensures.value) ∙ eqb-true (get_or c.as_bytes-bytes.result.now 0 0) 93 e)))).1
