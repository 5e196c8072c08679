use Rattle.std.proofs.Common.{◌≡◌, length, sym, ◌∙◌, arith}
use Rattle.sheet_reader.proofs.BracketLemmas.{until_stops, until_skips, until_goes_on, until_ends}
use Rattle.sheet_reader.proofs.brackets.until.Goals as goal

pub returns-then-stops-clause-value : goal.returns-then-stops-clause-value
returns-then-stops-clause-value c = until_stops c.args.stop c.loop-n.brackets c.args.pieces.now c.loop-n.n c.loop-n.n _ _ (omega arith)
    (sym c.stops.ensures ∙ c.if-stops.true) c.loop-n.invariant

pub loop-n-preserved-then-is_no_bracket : goal.loop-n-preserved-then-is_no_bracket
loop-n-preserved-then-is_no_bracket c = until_skips c.args.stop c.loop-n.brackets c.args.pieces.now c.loop-n.n c.loop-n.n _ _ (omega arith)
    (sym c.stops.ensures ∙ c.if-stops.false) (sym c.is_no_bracket.ensures ∙ c.if-is_no_bracket.true) c.loop-n.invariant

pub loop-n-preserved : goal.loop-n-preserved
loop-n-preserved c = until_goes_on c.args.stop c.loop-n.brackets c.pass.new.self c.args.pieces.now c.loop-n.n c.loop-n.n _ _ (omega arith)
    (sym c.stops.ensures ∙ c.if-stops.false) c.in_ok-pass.ensures c.loop-n.invariant

pub returns-clause-value : goal.returns-clause-value
returns-clause-value c =
    let whole : length c.args.pieces.now ≡ c.loop-n.n = omega arith in
    whole ∙ until_ends c.args.stop c.loop-n.brackets c.args.pieces.now c.loop-n.n c.loop-n.n _ (omega arith) c.loop-n.invariant
