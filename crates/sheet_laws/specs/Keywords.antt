-- The at-keyword that a text is put behind.
use Rattle.std.specs.Prelude.{ℕ, ◌+◌, ◌-◌, ◌&&◌, nat_le, List, length, fold, if◌then◌else◌}
use Rattle.css_tokens.specs.declared.token.Token.{Token}
use Rattle.css_tokens.specs.Pieces.{pieces}
use Rattle.sheet_reader.specs.Grammar.{is_at_keyword}
use Rattle.sheet_reader.specs.Preludes.{spaces_at}

-- the end of this piece if it is an at-keyword that ends at most at a place, and else that of the last one before it
abbrev pub last_end : ℕ → ℕ → Token → ℕ
last_end place end t = if is_at_keyword t.kind && nat_le t.end place then t.end else end

-- where the last at-keyword ends that ends at most at this place
abbrev pub keyword_end : List ℕ → ℕ → ℕ
keyword_end text place = fold (last_end place) 0 (pieces text)

-- where it ends once a text is put at this place, behind the spaces that it needs there: behind that which the keyword takes, if it
-- takes one
abbrev pub new_keyword_end : List ℕ → ℕ → ℕ
new_keyword_end text place = keyword_end text place + (length (spaces_at text place) - 1)
