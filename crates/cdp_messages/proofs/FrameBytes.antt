-- Bytes as JSON.
use Rattle.std.proofs.Common.{◌≡◌, ℕ, List, Bool, true, false, cond, Some, None, refl, sym, ap, ◌∙◌}
use Rattle.std.specs.Str.{IsUtf8, is_utf8}
use Rattle.std.proofs.lemmas.Str.{is_utf8-from_IsUtf8, IsUtf8-from_is_utf8}
use Rattle.serde_json.specs.Data.{Data}
use Rattle.serde_json.specs.Read.{read}
use Rattle.cdp_messages.specs.Asked.{json_of}

pub json_is : (bytes : List ℕ) (d : Data) → IsUtf8 bytes → read bytes ≡ Some d → json_of bytes ≡ Some d
json_is bytes d u e = rw (is_utf8-from_IsUtf8 bytes u) e

pub json_is_not : (bytes : List ℕ) → (IsUtf8 bytes → read bytes ≡ None) → json_of bytes ≡ None
json_is_not bytes unread = at (is_utf8 bytes) refl where
  at : (b : Bool) → is_utf8 bytes ≡ b → cond b (read bytes) None ≡ None
  at true is = unread (IsUtf8-from_is_utf8 bytes is)
  at false is = refl

-- a value that was read of a text that the bytes are
pub json_read : (bytes text : List ℕ) (d : Data) → text ≡ bytes → IsUtf8 bytes → read text ≡ Some d → json_of bytes ≡ Some d
json_read bytes text d same u e = json_is bytes d u (ap read (sym same) ∙ e)
