-- Under what a selector is filed: a type, an id or a class that every element has which the selector matches.
use Rattle.std.specs.Prelude.{◌≡◌, ℕ, ◌+◌, ◌*◌, ◌%◌, ◌==◌, List, [], ◌∷◌, map, fold, take, length, reverse, Option, Some, None, option_map}
use Rattle.std.specs.Prelude.{if◌then◌else◌}
use Rattle.std.specs.Option.{option_or}
use Rattle.std.specs.Char.{to_ascii_lowercase}
use Rattle.selectors.specs.Forms.{TestForm, any, tag, id, class, attr, root, empty, nth, only_child, only_of_type, never, SimpleForm, is}
use Rattle.selectors.specs.Forms.{is_not, CompoundForm, SelectorForm}
use Rattle.sheet_reader.specs.declared.filings.NameKind.{NameKind}
use Rattle.sheet_reader.specs.declared.filings.NameKind.TheVariants.{Tag, Id, Class}
use Rattle.sheet_reader.specs.Forms.{RuleForm}

-- a type, an id or a class: which of these, and its name
pub record Filing : Type 0 where
  pub kind : NameKind
  pub name : List ℕ

-- the name of that kind
abbrev pub named : NameKind → List ℕ → Filing
named kind name = record { kind = kind; name = name }

-- what a test asks for by a name, if it is a test of the type, of the id or of a class
abbrev pub test_filing : TestForm → Option Filing
test_filing any = None
test_filing (tag name) = Some (named Tag name)
test_filing (id name) = Some (named Id name)
test_filing (class name) = Some (named Class name)
test_filing (attr name op operand) = None
test_filing root = None
test_filing empty = None
test_filing (nth kind step offset) = None
test_filing only_child = None
test_filing only_of_type = None
test_filing never = None

-- the same of a simple selector; a negation asks for none
abbrev pub simple_filing : SimpleForm → Option Filing
simple_filing (is t) = test_filing t
simple_filing (is_not t) = None

-- what the last of some simple selectors asks for that asks for one
abbrev pub last_filing : List SimpleForm → Option Filing
last_filing [] = None
last_filing (s ∷ tests) = option_or (last_filing tests) (simple_filing s)

-- the same of the first of some compounds
abbrev pub first_filing : List CompoundForm → Option Filing
first_filing [] = None
first_filing (c ∷ cs) = last_filing c.tests

-- what a selector is filed under: what the last compound asks for last
abbrev pub filing : SelectorForm → Option Filing
filing s = first_filing (reverse s.compounds)

-- ---- names as numbers

-- the base in which the bytes of a name are the digits of a number
abbrev pub digest_base : ℕ
digest_base = 257

-- the greatest prime number of 32 bits
abbrev pub digest_limit : ℕ
digest_limit = 4294967291

-- the digit in front of a name
abbrev pub kind_digit : NameKind → ℕ
kind_digit Tag = 1
kind_digit Id = 2
kind_digit Class = 3

-- a number with one digit more
abbrev pub with_digit : ℕ → ℕ → ℕ
with_digit n byte = (n * digest_base + to_ascii_lowercase byte) % digest_limit

-- a name as a number, modulo the limit; names that differ in the case of ASCII letters alone have the same
abbrev pub name_digest : NameKind → List ℕ → ℕ
name_digest kind name = fold with_digit (kind_digit kind) name

-- the number of what something is filed under
abbrev pub filing_digest : Filing → ℕ
filing_digest f = name_digest f.kind f.name

-- the number of what a selector is filed under
abbrev pub selector_digest : SelectorForm → Option ℕ
selector_digest s = option_map filing_digest (filing s)

-- a number that both have
abbrev pub agreed : Option ℕ → Option ℕ → Option ℕ
agreed None other = None
agreed (Some n) None = None
agreed (Some n) (Some m) = if n == m then Some n else None

-- the number of what all selectors of a list are filed under, if they have one in common
abbrev pub list_digest : List SelectorForm → Option ℕ
list_digest [] = None
list_digest (s ∷ ss) = fold (λ n t. agreed n (selector_digest t)) (selector_digest s) ss

-- the same of a rule
abbrev pub rule_digest : RuleForm → Option ℕ
rule_digest r = list_digest r.selectors

-- the numbers are those of the first rules
abbrev pub AreDigests : List (Option ℕ) → List RuleForm → Type 0
AreDigests digests rules = digests ≡ take (length digests) (map rule_digest rules)
