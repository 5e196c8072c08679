-- The medium of a page, as JSON spells it: `{"type":TYPE,"width":w}`, with nothing else.
use Rattle.std.specs.Prelude.{ℕ, ◌^◌, List, [], ◌∷◌, codes, Bool, nat_lt, Option, None, Some, option_map, ⊤}
use Rattle.serde_json.specs.Data.{Data}
use Rattle.cdp_json.specs.Kinds.{Kind, whole, refined, choice, only_text}
use Rattle.cdp_json.specs.Rows.{Row, ends, and_need, object_of}
use Rattle.media_rules.specs.declared.medium.Medium.{Medium}
use Rattle.media_rules.specs.declared.medium.MediumKind.{MediumKind}
use Rattle.media_rules.specs.declared.medium.MediumKind.TheVariants.{Screen, Print}
use Rattle.media_rules.specs.Signs.{type_name}

-- what a page may be shown on
abbrev pub all_mediums : List MediumKind
all_mediums = Screen ∷ Print ∷ []

-- TYPE: `screen` or `print`
abbrev pub medium_type : Kind MediumKind
medium_type = choice type_name all_mediums

-- a width is less than this
abbrev pub width_limit : ℕ
width_limit = 2 ^ 31

-- the number is a width
abbrev pub is_width : ℕ → Bool
is_width n = nat_lt n width_limit

-- a width in pixels: a whole number from 0 to 2^31-1
abbrev pub width_form : Kind ℕ
width_form = refined whole is_width

-- the properties of a medium
abbrev pub medium_row : Row (MediumKind × (ℕ × ⊤))
medium_row = and_need (codes "type") medium_type (and_need (codes "width") width_form ends)

-- the medium that a value spells; none where it has not the form
abbrev pub medium_in : Data → Option Medium
medium_in d = option_map (λ f. record { kind = f.0; width = f.1.0 }) ((object_of medium_row).reads d)

-- the medium of a page that says none
abbrev pub usual_medium : Medium
usual_medium = record { kind = Screen; width = 1280 }

-- the medium at `medium`; the usual one where it is absent
abbrev pub medium_at : Option Data → Option Medium
medium_at None = Some usual_medium
medium_at (Some d) = medium_in d

-- `{"do":"medium","type":TYPE,"width":w}`
abbrev pub medium_act_row : Row (⊤ × (MediumKind × (ℕ × ⊤)))
medium_act_row = and_need (codes "do") (only_text (codes "medium")) medium_row
