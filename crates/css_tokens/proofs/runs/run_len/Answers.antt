use Rattle.std.proofs.Common.{◌≡◌, ◌-◌, ◌+◌, ◌≤◌, length, drop, take, ap, sym, ◌∙◌, arith}
use Rattle.std.proofs.lemmas.List.{length-drop}
use Rattle.css_tokens.specs.Units.{unit_of}
use Rattle.css_tokens.proofs.RunSteps.{between_to_end, run_more_from, run_ends_at}
use Rattle.css_tokens.proofs.runs.run_len.Goals as goal

pub returns-then-n-eq0-clause-value : goal.returns-then-n-eq0-clause-value
returns-then-n-eq0-clause-value c =
    let text = c.args.text.now in
    let at = c.loop-kind.at in
    let rest : take (length text - at) (drop at text) ≡ drop at text = between_to_end text at (length text) (omega arith) in
    run_ends_at (unit_of c.args.kind) text at _
    (sym (ap (unit_of c.args.kind) rest) ∙ sym c.unit-n.ensures.value ∙ c.if-n-eq0.true) c.loop-kind.invariant.rest

pub loop-kind-preserved : goal.loop-kind-preserved
loop-kind-preserved c =
    let text = c.args.text.now in
    let at = c.loop-kind.at in
    let rest : take (length text - at) (drop at text) ≡ drop at text = between_to_end text at (length text) (omega arith) in
    let unit_fits : c.unit-n.result ≤ length (drop at text) = omega (arith, ap length rest) in
    let fits : at + c.unit-n.result ≤ length text = omega (arith, length-drop at text) in
    record {
      within = fits;
      rest = run_more_from (unit_of c.args.kind) text at _ _ (sym (ap (unit_of c.args.kind) rest) ∙ sym c.unit-n.ensures.value)
          (omega arith) fits c.loop-kind.invariant.rest;
    }
