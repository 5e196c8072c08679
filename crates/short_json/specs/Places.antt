-- What is still to come of a text, as tokens.
use Rattle.std.specs.Prelude.{ℕ, List}
use Rattle.json.specs.Token.{Token}
use Rattle.json.specs.Lex.{between, lex, fresh, after_value, after_comma, punctuate}
use Rattle.json.specs.Lex as grammar
use Rattle.short_json.specs.declared.reader.Place.{Place}
use Rattle.short_json.specs.declared.reader.Place.TheVariants.{Fresh, AfterValue, AfterComma}

-- a place as the grammar has it
abbrev pub place_seen : Place → grammar.Place
place_seen Fresh = fresh
place_seen AfterValue = after_value
place_seen AfterComma = after_comma

-- the tokens of the text that is left at a place
abbrev pub tokens_at : Place → List ℕ → List Token
tokens_at place text = punctuate (place_seen place) (lex between text)
