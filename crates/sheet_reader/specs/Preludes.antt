-- A new prelude in the place of that of a style rule or a media rule.
use Rattle.std.specs.Prelude.{◌≡◌, ℕ, ◌+◌, ◌<◌, ◌≤◌, ◌==◌, ◌&&◌, nat_lt, nat_le, Bool, List, [], ◌∷◌, ◌++◌, length, slice_get, Option, Some}
use Rattle.std.specs.Prelude.{None}
use Rattle.std.specs.Prelude.{IsSome, IsSomeAnd, if◌then◌else◌}
use Rattle.std.specs.List.{find, prefix_len}
use Rattle.css_tokens.specs.declared.token.Range.{Range}
use Rattle.css_tokens.specs.declared.token.Token.{Token}
use Rattle.css_tokens.specs.Pieces.{pieces}
use Rattle.selectors.specs.Words.{between}
use Rattle.sheet_reader.specs.Grammar.{is_at_keyword}
use Rattle.sheet_reader.specs.Forms.{RuleForm}
use Rattle.sheet_reader.specs.declared.sheet.MediaRule.{MediaRule}

-- a style rule whose prelude starts in this part of the text, and its body not before it
pub record BeginsIn (part : Range) (r : RuleForm) : Type 0 where
  pub starts : part.start ≤ r.prelude.start
  pub within : r.prelude.start < part.end
  pub body : part.start ≤ r.body.start

-- the first of these rules whose body does not start before the part is there, and its prelude starts in the part
abbrev pub HasPreludeIn : Range → List RuleForm → Type 0
HasPreludeIn part rules = IsSomeAnd (slice_get rules (prefix_len (λ r. nat_lt r.body.start part.start) rules)) (BeginsIn part)

-- ---- of a media rule

-- an at-keyword that ends at this place
abbrev pub ends_keyword : ℕ → Token → Bool
ends_keyword place t = is_at_keyword t.kind && t.end == place

-- a space right behind the keyword is one piece with it: it ends in the hex digits of an escape
abbrev pub takes_space : List ℕ → Bool
takes_space keyword = length (pieces (keyword ++ 32 ∷ [])) == 1

-- between a keyword and what comes right behind it: a space, and before it one that the keyword takes, if it takes one
abbrev pub spaces_behind : List ℕ → List ℕ
spaces_behind keyword = if takes_space keyword then 32 ∷ 32 ∷ [] else 32 ∷ []

-- the same behind the at-keyword that was found, and nothing where there is none
abbrev pub spaces_by : List ℕ → Option Token → List ℕ
spaces_by text None = []
spaces_by text (Some t) = spaces_behind (between text t.start t.end)

-- what goes before a text that is put at this place: nothing, unless an at-keyword ends there
abbrev pub spaces_at : List ℕ → ℕ → List ℕ
spaces_at text place = spaces_by text (find (ends_keyword place) (pieces text))

-- media rule k is there, and it is the last one whose prelude does not start behind a place
pub record KeepsMedia (k place : ℕ) (media : List MediaRule) : Type 0 where
  pub there : IsSome (slice_get media k)
  pub last : prefix_len (λ m. nat_le m.prelude.start place) media ≡ k + 1
