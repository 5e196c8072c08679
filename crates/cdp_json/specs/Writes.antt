-- Writing an object field by field.
use Rattle.std.specs.Prelude.{ℕ, List, [], ◌∷◌, map, Bool, true, ◌&&◌, Option, Some, None}
use Rattle.serde_json.specs.Data.{Data, Members, put}
use Rattle.cdp_json.specs.Rows.{Written}
use Rattle.cdp_json.specs.Lawful.{is_before_all}

-- each name comes before all later ones
abbrev pub names_ascend : List Written → Bool
names_ascend [] = true
names_ascend (f ∷ fs) = is_before_all f.0 (map (λ g. g.0) fs) && names_ascend fs

-- the members, with d at the name if there is a d
abbrev pub put_some : List ℕ → Option Data → Members → Members
put_some name None ms = ms
put_some name (Some d) ms = put name d ms

-- the members, with the value of each field that has one at its name
abbrev pub put_all : List Written → Members → Members
put_all [] ms = ms
put_all (f ∷ fs) ms = put_all fs (put_some f.0 f.1 ms)
