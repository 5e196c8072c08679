-- The pieces of the text, one after the other.
use Rattle.std.proofs.Common.{rules}
use Rattle.std.specs.Str.{bytes_eq}
use Rattle.std.specs.Char.{is_ascii_whitespace}
use Rattle.std.proofs.lemmas.Iterator.Search.{any_from_yields_List}
use Rattle.std.proofs.lemmas.Iterator.Splits.{YieldsList-from_slice_split}
use Rattle.select_match.proofs.texts.is_among.Goals as goal

pub returns : goal.returns
returns c =
    any_from_yields_List (λ w. bytes_eq w c.args.word.now) _ _ _ c.any.ensures.ran
    (YieldsList-from_slice_split _ is_ascii_whitespace c.args.text.now c.split.ensures.rest c.split.ensures.done c.split.ensures.closure
    (λ x b q h. search rules))
    (λ x b q h. search rules)
