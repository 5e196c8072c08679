use Rattle.std.proofs.Common.{All, subst}
use Rattle.css_tokens.specs.Marks.{IsPieceOf}
use Rattle.sheet_reader.specs.declared.parts.Ending.{Ending}
use Rattle.sheet_reader.specs.Seen.{ending_seen}
use Rattle.sheet_reader.specs.Parts.{ending_pieces}
use Rattle.sheet_reader.proofs.PartLemmas.{block_inside}
use Rattle.sheet_reader.proofs.rules.rule_by.Goals as goal

pub style_rule-requires-clause-inside : goal.style_rule-requires-clause-inside
style_rule-requires-clause-inside c =
    block_inside (IsPieceOf c.args.text.now) c.in-Block.first c.in-Block.body.now c.in-Block.close
    (subst (λ (e : Ending). All (IsPieceOf c.args.text.now) (ending_pieces (ending_seen e))) c.in-Block.is c.requires.inside)
