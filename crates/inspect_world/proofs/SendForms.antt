-- An ask that a line gives can be sent: its parameters are JSON that is written and read again as it is.
use Rattle.std.proofs.Common.{◌≡◌, ℕ, ◌≤◌, List, true, ◌&&◌, codes, Option, Some, None, refl, sym, ◌∙◌, ap, subst, arith}
use Rattle.json.proofs.Printed.Utf8.{IsUtf8-are_ascii}
use Rattle.serde_json.specs.Data.{Data, depth}
use Rattle.serde_json.specs.Read.{max_depth}
use Rattle.cdp_json.specs.Kinds.{holds_of_some}
use Rattle.cdp_json.specs.Lawful.{LawfulKind}
use Rattle.cdp_json.specs.Plain.{is_plain, HasUtf8}
use Rattle.cdp_json.proofs.KindLaws.{text_lawful, anything_lawful}
use Rattle.cdp_json.proofs.ReadBack.{IsUtf8-compact_text}
use Rattle.cdp_json.proofs.RowLaws.{ends_lawful, and_need_lawful, and_may_lawful, object_lawful}
use Rattle.cdp_messages.specs.Asked.{command_value}
use Rattle.replay_script.specs.Forms.{AskForm, AskParts, ask_kind, ask_from, ask_in}
use Rattle.replay_script.specs.Sound.{CanSend}
use Rattle.cdp_messages.proofs.Commands.{ask_plain}
use Rattle.cdp_json.proofs.Options.{both_parts, map_some}

pub ask_lawful : LawfulKind ask_kind
ask_lawful =
    object_lawful (and_need_lawful (codes "method") text_lawful
    (and_may_lawful (codes "params") anything_lawful (and_may_lawful (codes "sessionId") anything_lawful ends_lawful refl) refl) refl)

-- an ask as its line spells it
abbrev pub spelled : List ℕ → Option Data → Option Data → Data
spelled m params session = ask_kind.spell (m, (params, (session, tt)))

-- the parameters and the session of an ask whose object is plain
parts_plain : (m : List ℕ) (params session : Option Data) → is_plain (spelled m params session) ≡ true
    → (holds_of_some is_plain params ≡ true) × (holds_of_some is_plain session ≡ true)
parts_plain m None None h = (refl, refl)
parts_plain m (Some p) None h = ((both_parts (is_plain p) true h).0, refl)
parts_plain m None (Some s) h = (refl, (both_parts (is_plain s) true h).0)
parts_plain m (Some p) (Some s) h =
    let both = both_parts (is_plain p) (is_plain s && true) h in
    (both.0, (both_parts (is_plain s) true both.1).0)

value_shallow : (m : List ℕ) (params session : Option Data) (id : ℕ) → depth (spelled m params session) ≤ max_depth
    → depth (command_value id m params session) ≤ max_depth
value_shallow m None None id h = omega arith
value_shallow m (Some p) None id h = omega (arith, h)
value_shallow m None (Some s) id h = omega (arith, h)
value_shallow m (Some p) (Some s) id h = omega (arith, h)

value_texts : (m : List ℕ) (params session : Option Data) (id : ℕ) → HasUtf8 (spelled m params session)
    → HasUtf8 (command_value id m params session)
value_texts m None None id u = (IsUtf8-are_ascii (codes "id") refl, tt, u)
value_texts m (Some p) None id u = (IsUtf8-are_ascii (codes "id") refl, tt, u)
value_texts m None (Some s) id u = (IsUtf8-are_ascii (codes "id") refl, tt, u)
value_texts m (Some p) (Some s) id u = (IsUtf8-are_ascii (codes "id") refl, tt, u)

can_send-parts : (m : List ℕ) (params session : Option Data) (a : AskForm) → a ≡ record { method = m; params = params; session = session }
    → is_plain (spelled m params session) ≡ true → HasUtf8 (spelled m params session) → depth (spelled m params session) ≤ max_depth
    → CanSend a
can_send-parts m params session a is plain texts deep =
    let parts = parts_plain m params session plain in
    subst CanSend (sym is) (record {
      params = parts.0;
      session = parts.1;
      shallow = λ id. value_shallow m params session id deep;
      texts = λ id c.
          IsUtf8-compact_text (command_value id m params session) (ask_plain id m params session c parts.0 parts.1)
          (value_texts m params session id texts);
    })

can_send-from : (p : AskParts) (a : AskForm) → ask_from p ≡ a → is_plain (ask_kind.spell p) ≡ true → HasUtf8 (ask_kind.spell p)
    → depth (ask_kind.spell p) ≤ max_depth → CanSend a
can_send-from (m, (params, (session, end))) a is plain texts deep = can_send-parts m params session a (sym is) plain texts deep

-- the ask of a line that is read, plain and UTF-8
pub can_send : (d : Data) (a : AskForm) → ask_in d ≡ Some a → is_plain d ≡ true → HasUtf8 d → depth d ≤ max_depth → CanSend a
can_send d a is plain texts deep =
    let parts = map_some ask_from (ask_kind.reads d) a is in
    let same : ask_kind.spell parts.0 ≡ d = (ask_lawful.takes d parts.0 parts.1).0 in
    can_send-from parts.0 a parts.2 (ap is_plain same ∙ plain) (subst HasUtf8 (sym same) texts)
    (subst (λ e. depth e ≤ max_depth) (sym same) deep)
