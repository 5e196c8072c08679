-- What a reading becomes where a rule is put in between the parts of a sheet. No text is read.
use Rattle.std.specs.Prelude.{◌≡◌, ℕ, ◌+◌, nat_lt, nat_le, not, Bool, List, [], ◌∷◌, ◌++◌, map, Some, None}
use Rattle.std.specs.List.{filter}
use Rattle.css_tokens.specs.declared.token.Token.{Token}
use Rattle.css_tokens.specs.Pieces.{pieces}
use Rattle.sheet_reader.specs.declared.sheet.Sheet.{Sheet}
use Rattle.sheet_reader.specs.Layout.{level_of}
use Rattle.sheet_reader.specs.Moves.{placed_media, placed_rule}
use Rattle.sheet_reader.specs.Parts.{block, qualified, parts}

-- a text that is one qualified rule, with the `}` of its block, and has nothing before or behind it
pub record IsOneRule (put : List ℕ) : Type 0 where
  pub prelude : List Token
  pub first : Token
  pub inside : List Token
  pub close : Token
  pub is : parts (level_of None) (pieces put) ≡ qualified prelude (block first inside (Some close)) ∷ []

-- those that stay, in their order, then what is put in, and then all others, moved
abbrev pub put_between : {A : Type 0} → (A → Bool) → (A → A) → List A → List A → List A
put_between stays move own all = filter stays all ++ (own ++ map move (filter (λ x. not (stays x)) all))

-- The sheet with a rule put in at a place, where the text of the rule has n bytes and says this by itself. What starts before the
-- place stays, what the rule says is moved up to the place, and all others are moved behind the rule. The end of the rule is a place,
-- whether it is a style rule or is dropped; it has no media rules in it, so that each keeps its number.
abbrev pub inserted : Sheet → ℕ → Sheet → ℕ → Sheet
inserted s x own n = record {
  rules = put_between (λ r. nat_lt r.prelude.start x) (placed_rule (λ place. n + place)) (map (placed_rule (λ place. x + place)) own.rules)
      s.rules;
  places = put_between (λ place. nat_le place x) (λ place. n + place) ((x + n) ∷ []) s.places;
  media = put_between (λ m. nat_lt m.prelude.start x) (placed_media (λ place. n + place)) [] s.media;
}
