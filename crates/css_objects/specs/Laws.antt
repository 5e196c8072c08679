-- The laws of the objects: each is spelled and read the same, no value spells two, its text is UTF-8 where its texts are,
-- its numbers are whole, and how deep it nests.
use Rattle.std.specs.Prelude.{◌≡◌, ℕ, ◌≤◌, true, false, None, IfSome, IsUtf8}
use Rattle.std.specs.List.{AllByRecursion}
use Rattle.serde_json.specs.Data.{depth}
use Rattle.serde_json.specs.Written.{has_float}
use Rattle.cdp_json.specs.Plain.{HasUtf8}
use Rattle.cdp_json.specs.Kinds.{Kind}
use Rattle.cdp_json.specs.Lawful.{LawfulKind}
use Rattle.css_objects.specs.declared.media.Media.{Media}
use Rattle.css_objects.specs.declared.selectors.SelectorValue.{SelectorValue}
use Rattle.css_objects.specs.declared.selectors.RuleSelectors.{RuleSelectors}
use Rattle.css_objects.specs.declared.styles.StyleProperty.{StyleProperty}
use Rattle.css_objects.specs.declared.styles.Style.{Style}
use Rattle.css_objects.specs.declared.rules.Rule.{Rule}
use Rattle.css_objects.specs.declared.rules.RuleMatch.{RuleMatch}
use Rattle.css_objects.specs.declared.rules.Inherited.{Inherited}
use Rattle.css_objects.specs.declared.rules.Matched.{Matched}

-- What the messages need to know of a kind. `HasTexts` says that the texts in a value are UTF-8.
pub record IsSoundKind {T : Type 0} (k : Kind T) (HasTexts : T → Type 0) (levels : ℕ) : Type 0 where
  -- what is read is spelled so, and what is spelled is read
  pub lawful : LawfulKind k
  -- no part is JSON of any form
  pub tight : k.loose ≡ None
  -- no value spells two
  pub one : (x y : T) → k.fits x ≡ true → k.fits y ≡ true → k.spell x ≡ k.spell y → x ≡ y
  -- each text and each name in what is spelled is UTF-8
  pub utf8 : (x : T) → k.fits x ≡ true → HasTexts x → HasUtf8 (k.spell x)
  -- what is spelled nests no deeper than this
  pub shallow : (x : T) → depth (k.spell x) ≤ levels
  -- each number in what is spelled is whole
  pub no_float : (x : T) → has_float (k.spell x) ≡ false

-- ---- the texts of each object are UTF-8

-- the texts of a selector are UTF-8
abbrev pub SelectorHasUtf8 : SelectorValue → Type 0
SelectorHasUtf8 v = IsUtf8 v.text

-- the texts of a list of selectors are UTF-8
abbrev pub SelectorsHaveUtf8 : RuleSelectors → Type 0
SelectorsHaveUtf8 s = AllByRecursion SelectorHasUtf8 s.selectors × IsUtf8 s.text

-- the texts of a property are UTF-8
abbrev pub PropertyHasUtf8 : StyleProperty → Type 0
PropertyHasUtf8 p = IsUtf8 p.name × IsUtf8 p.text × IsUtf8 p.value

-- the texts of a style are UTF-8
abbrev pub StyleHasUtf8 : Style → Type 0
StyleHasUtf8 s = AllByRecursion PropertyHasUtf8 s.properties × IsUtf8 s.text

-- the text of a media rule is UTF-8
abbrev pub MediaHasUtf8 : Media → Type 0
MediaHasUtf8 m = IsUtf8 m.text

-- the texts of a rule are UTF-8
abbrev pub RuleHasUtf8 : Rule → Type 0
RuleHasUtf8 r = SelectorsHaveUtf8 r.selectors × StyleHasUtf8 r.style × AllByRecursion MediaHasUtf8 r.media

-- the texts of a match are UTF-8
abbrev pub MatchHasUtf8 : RuleMatch → Type 0
MatchHasUtf8 m = RuleHasUtf8 m.rule

-- the texts of an entry of inherited styles are UTF-8
abbrev pub InheritedHasUtf8 : Inherited → Type 0
InheritedHasUtf8 i = IfSome i.inline StyleHasUtf8 × AllByRecursion MatchHasUtf8 i.rules

-- the texts of matched styles are UTF-8
abbrev pub MatchedHaveUtf8 : Matched → Type 0
MatchedHaveUtf8 m = AllByRecursion InheritedHasUtf8 m.inherited × IfSome m.inline StyleHasUtf8 × AllByRecursion MatchHasUtf8 m.rules
