use Rattle.std.proofs.Common.{◌≡◌, List, [], ◌∷◌, true, false, refl, sym, ◌∙◌, arith}
use Rattle.sheet_reader.specs.declared.brackets.Bracket.{Bracket}
use Rattle.sheet_reader.specs.declared.brackets.Nesting.TheVariants.{Open, Closed}
use Rattle.sheet_reader.specs.Brackets.{is_none_open, nesting_of}
use Rattle.sheet_reader.proofs.BracketLemmas.{nesting_stray, nesting_skips, nesting_goes_on, nesting_ends}
use Rattle.sheet_reader.proofs.brackets.nesting_of.Goals as goal

closed : (bs : List Bracket) → is_none_open bs ≡ true → Closed ≡ nesting_of bs
closed [] e = refl
closed (b ∷ bs) e = absurd (cc)

not_closed : (bs : List Bracket) → is_none_open bs ≡ false → Open ≡ nesting_of bs
not_closed [] e = absurd (cc)
not_closed (b ∷ bs) e = refl

pub loop-piece-preserved-then-is_no_bracket : goal.loop-piece-preserved-then-is_no_bracket
loop-piece-preserved-then-is_no_bracket c = nesting_skips c.loop-piece.brackets c.args.pieces.now c.loop-piece.piece-index _ _ (omega arith)
    (sym c.is_no_bracket.ensures ∙ c.if-is_no_bracket.true) c.loop-piece.invariant

pub returns-then-is_stray : goal.returns-then-is_stray
returns-then-is_stray c = nesting_stray c.loop-piece.brackets c.args.pieces.now c.loop-piece.piece-index _ _ (omega arith)
    (sym c.is_stray.ensures ∙ c.if-is_stray.true) c.loop-piece.invariant

pub loop-piece-preserved : goal.loop-piece-preserved
loop-piece-preserved c = nesting_goes_on c.loop-piece.brackets c.pass.new.self c.args.pieces.now c.loop-piece.piece-index _ _ (omega arith)
    (sym c.is_stray.ensures ∙ c.if-is_stray.false) c.in_ok-pass.ensures c.loop-piece.invariant

pub returns-then-is_empty : goal.returns-then-is_empty
returns-then-is_empty c = nesting_ends c.loop-piece.brackets c.args.pieces.now c.loop-piece.piece-index _ _ (omega arith)
    (closed c.loop-piece.brackets (sym c.is_empty.ensures ∙ c.if-is_empty.true)) c.loop-piece.invariant

pub returns : goal.returns
returns c = nesting_ends c.loop-piece.brackets c.args.pieces.now c.loop-piece.piece-index _ _ (omega arith)
    (not_closed c.loop-piece.brackets (sym c.is_empty.ensures ∙ c.if-is_empty.false)) c.loop-piece.invariant
