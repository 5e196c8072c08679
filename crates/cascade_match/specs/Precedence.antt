-- The order of the rules that match an element.
use Rattle.std.specs.Prelude.{ℕ, ◌==◌, nat_lt, Bool, if◌then◌else◌}
use Rattle.std.specs.Ordering.{nat_cmp, ordering_then}
use Rattle.std.specs.declared.cmp.Ordering.{Ordering}
use Rattle.selectors.specs.declared.weight.Spec.{Spec}
use Rattle.node_tree.specs.declared.origins.Origin.{Origin}
use Rattle.node_tree.specs.declared.origins.Origin.TheVariants.{UserAgent, Regular}
use Rattle.cascade_match.specs.declared.keys.Key.{Key}

-- the browser's own sheets stand before the page's
abbrev pub origin_rank : Origin → ℕ
origin_rank UserAgent = 0
origin_rank Regular = 1

-- the key of a rule, by its sheet's origin, its specificity, its sheet's place and its own place there
abbrev pub key_of : Origin → Spec → ℕ → ℕ → Key
key_of origin spec sheet rule = record { origin = origin_rank origin; a = spec.a; b = spec.b; c = spec.c; sheet = sheet; rule = rule }

-- keys in their order: by origin; then by specificity, ids before classes before types; then by the sheet's place; then by the rule's
-- place in it
abbrev pub key_cmp : Key → Key → Ordering
key_cmp x y =
    ordering_then (nat_cmp x.origin y.origin)
    (ordering_then (nat_cmp x.a y.a)
    (ordering_then (nat_cmp x.b y.b)
    (ordering_then (nat_cmp x.c y.c) (ordering_then (nat_cmp x.sheet y.sheet) (nat_cmp x.rule y.rule)))))

-- less specific (Selectors 3, section 9)
abbrev pub is_less : Spec → Spec → Bool
is_less s t = if s.a == t.a then (if s.b == t.b then nat_lt s.c t.c else nat_lt s.b t.b) else nat_lt s.a t.a

-- the more specific of the two
abbrev pub greater : Spec → Spec → Spec
greater s t = if is_less s t then t else s
