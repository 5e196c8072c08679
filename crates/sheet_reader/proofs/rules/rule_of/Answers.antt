use Rattle.std.proofs.Common.{All, subst}
use Rattle.css_tokens.specs.Marks.{IsPieceOf}
use Rattle.sheet_reader.specs.declared.parts.Part.{Part}
use Rattle.sheet_reader.specs.Seen.{part_seen, ending_seen}
use Rattle.sheet_reader.specs.Parts.{part_pieces, ending_pieces}
use Rattle.sheet_reader.proofs.PartLemmas.{all_left, all_right}
use Rattle.sheet_reader.proofs.rules.rule_of.Goals as goal

pub rule_by-requires-clause-prelude : goal.rule_by-requires-clause-prelude
rule_by-requires-clause-prelude c =
    all_left (IsPieceOf c.args.text.now) c.in-Qualified.prelude.now (ending_pieces (ending_seen c.in-Qualified.ending))
    (subst (λ (p : Part). All (IsPieceOf c.args.text.now) (part_pieces (part_seen p))) c.in-Qualified.is c.requires)

pub rule_by-requires-clause-inside : goal.rule_by-requires-clause-inside
rule_by-requires-clause-inside c =
    all_right (IsPieceOf c.args.text.now) c.in-Qualified.prelude.now (ending_pieces (ending_seen c.in-Qualified.ending))
    (subst (λ (p : Part). All (IsPieceOf c.args.text.now) (part_pieces (part_seen p))) c.in-Qualified.is c.requires)
