-- What a cursor has left.
use Rattle.std.specs.Prelude.{Option, Some, None, String, string_bytes}
use Rattle.std.specs.Borrow.{Bor}
use Rattle.std.specs.declared.alloc.Global.{Global}
use Rattle.serde_json.specs.Data.{Members, no_members, member}
use Rattle.serde_json.specs.View.{view, members_view}
use Rattle.serde_json.specs.declared.value.Value.{Value}
use Rattle.cdp_json.specs.declared.cursor.Cursor.{Cursor}

-- the entry ahead as a member, before the other members; no member where no entry is ahead
abbrev from_ahead : Option (Bor (String Global) × Bor Value) → Members → Members
from_ahead None ms = no_members
from_ahead (Some e) ms = member (string_bytes e.0.now) (view e.1.now) ms

-- the members that have not been taken
abbrev pub left : Cursor → Members
left c = from_ahead c.ahead (members_view c.rest)
