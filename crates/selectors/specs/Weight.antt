-- How specific a selector is (Selectors 3, section 9).
use Rattle.std.specs.Prelude.{ℕ, ◌+◌, min, Bool, List, sum_by, if◌then◌else◌}
use Rattle.selectors.specs.declared.weight.Spec.{Spec}
use Rattle.selectors.specs.Forms.{TestForm, any, tag, id, SimpleForm, is, is_not, CompoundForm, SelectorForm}

-- id selectors
abbrev pub ids : TestForm → ℕ
ids (id name) = 1
ids _ = 0

-- classes, attribute selectors and pseudo-classes
abbrev pub classes : TestForm → ℕ
classes any = 0
classes (tag name) = 0
classes (id name) = 0
classes _ = 1

-- type selectors
abbrev pub types : TestForm → ℕ
types (tag name) = 1
types _ = 0

-- `:not` counts its argument only
abbrev pub test_of : SimpleForm → TestForm
test_of (is t) = t
test_of (is_not t) = t

-- the count over the simple selectors of a compound
abbrev pub in_tests : (TestForm → ℕ) → List SimpleForm → ℕ
in_tests f tests = sum_by (λ s. f (test_of s)) tests

-- the count over the compounds of a selector
abbrev pub in_compounds : (TestForm → ℕ) → List CompoundForm → ℕ
in_compounds f compounds = sum_by (λ c. in_tests f c.tests) compounds

-- each count stops at 2^32-1
abbrev pub bounded : ℕ → ℕ
bounded n = min n 4294967295

-- the specificity with these three counts, each bounded
abbrev pub spec_of : ℕ → ℕ → ℕ → Spec
spec_of a b c = record { a = bounded a; b = bounded b; c = bounded c }

-- pseudo-elements: one, or none
abbrev pub element_count : Bool → ℕ
element_count pseudo_element = if pseudo_element then 1 else 0

-- a selector's specificity: ids; classes, attribute selectors and pseudo-classes; types and pseudo-elements
abbrev pub specificity_of : SelectorForm → Spec
specificity_of s = spec_of (in_compounds ids s.compounds) (in_compounds classes s.compounds)
    (in_compounds types s.compounds + element_count s.pseudo_element)
