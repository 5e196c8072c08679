use Rattle.sheet_reader.proofs.NestingForms.{closed_nested, nested_closes}
use Rattle.sheet_reader.proofs.ExchangeForms.{exchanged}
use Rattle.sheet_reader.proofs.laws.nesting_law.Goals as goal

pub returns : goal.returns
returns c = record { closed = closed_nested; nested = nested_closes; exchanged = exchanged }
