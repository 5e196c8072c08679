use Rattle.std.proofs.Common.{sym, ◌∙◌, arith}
use Rattle.std.specs.List.{find}
use Rattle.std.proofs.lemmas.List.{at_drop_all}
use Rattle.sheet_reader.specs.Preludes.{ends_keyword}
use Rattle.style_edits.proofs.MediaForms.{piece_found, piece_passed}
use Rattle.style_edits.proofs.media_edits.keyword_before.Goals as goal

pub returns-then-ends_keyword-clause-found : goal.returns-then-ends_keyword-clause-found
returns-then-ends_keyword-clause-found c =
    piece_found (ends_keyword c.args.place) c.args.pieces.now c.loop-piece.piece-index _ c.ends_keyword.result
    (omega (arith, c.loop-piece-test.true)) c.ends_keyword.ensures c.if-ends_keyword.true c.loop-piece.invariant

pub loop-piece-preserved : goal.loop-piece-preserved
loop-piece-preserved c =
    piece_passed (ends_keyword c.args.place) c.args.pieces.now c.loop-piece.piece-index _ c.ends_keyword.result
    (omega (arith, c.loop-piece-test.true)) c.ends_keyword.ensures c.if-ends_keyword.false c.loop-piece.invariant

pub returns-clause-found : goal.returns-clause-found
returns-clause-found c = sym (at_drop_all (find (ends_keyword c.args.place)) c.args.pieces.now c.loop-piece.piece-index
    (omega (arith, c.loop-piece-test.false))) ∙ c.loop-piece.invariant
