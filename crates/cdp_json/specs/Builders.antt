-- The fields of an object that is being written.
use Rattle.std.specs.Prelude.{List, map, Option, option_map, String, string_bytes}
use Rattle.std.specs.declared.alloc.Global.{Global}
use Rattle.serde_json.specs.View.{view}
use Rattle.serde_json.specs.declared.value.Value.{Value}
use Rattle.cdp_json.specs.Rows.{Written}
use Rattle.cdp_json.specs.declared.write.ObjectBuilder.{ObjectBuilder}

-- a name and a value, if any, that code holds, as they are written
abbrev pub written : String Global × Option Value → Written
written f = (string_bytes f.0, option_map view f.1)

-- the fields in the order in which they came
abbrev pub built_fields : ObjectBuilder → List Written
built_fields f = map written f.list.items
