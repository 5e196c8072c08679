-- Frames without their session.
use Rattle.std.proofs.Common.{◌≡◌, ℕ, List, [], ◌∷◌, Bool, true, false, cond, bytes_eq, string_bytes, nat_cmp, refl, ap, ◌∙◌}
use Rattle.std.proofs.Common.{Option, Some, None, option_map}
use Rattle.std.specs.Cmp.Lexicographic.{slice_cmp}
use Rattle.std.specs.Map.{remove_entry}
use Rattle.std.specs.BTreeMap.{is_at}
use Rattle.std.proofs.lemmas.Map.Text.{is_eq-slice_cmp}
use Rattle.serde_json.specs.Data.{Data, member}
use Rattle.serde_json.specs.View.{view, members_view}
use Rattle.serde_json.proofs.Views.{Entry}
use Rattle.cdp_messages.specs.Asked.{asked_value, command_value}
use Rattle.cdp_messages.specs.SessionFrames.{without, without_session, SessionsAreAsked}
use Rattle.cdp_messages.proofs.Commands.{ask_plain, value_asked}
use Rattle.cdp_messages.proofs.Messages.{json_of-compact_text}

either : (b : Bool) (e : Entry) (es rest : List Entry)
    → members_view (cond b es (e ∷ rest)) ≡ cond b (members_view es) (member (string_bytes e.0) (view e.1) (members_view rest))
either true e es rest = refl
either false e es rest = refl

-- without the entry of that name
pub entries-without : (name : List ℕ) (es : List Entry)
    → members_view (remove_entry (is_at (λ k. slice_cmp nat_cmp name (string_bytes k))) es) ≡ without name (members_view es)
entries-without name [] = refl
entries-without name (e ∷ es) =
    let rest = remove_entry (is_at (λ k. slice_cmp nat_cmp name (string_bytes k))) es in
    either (is_at (λ k. slice_cmp nat_cmp name (string_bytes k)) e.0) e es rest
    ∙ ap (λ b. cond b (members_view es) (member (string_bytes e.0) (view e.1) (members_view rest)))
    (is_eq-slice_cmp name (string_bytes e.0))
    ∙ ap (λ ms. cond (bytes_eq name (string_bytes e.0)) (members_view es) (member (string_bytes e.0) (view e.1) ms))
    (entries-without name es)

-- what was written for a session has it as a property
without-written : (id : ℕ) (method : List ℕ) (params : Option Data) (session : Data)
    → without_session (command_value id method params (Some session)) ≡ command_value id method params None
without-written id method None session = refl
without-written id method (Some p) session = refl

pub sessions_are_asked : SessionsAreAsked
sessions_are_asked id method params session counted p s shallow utf8 =
    ap (λ o. asked_value false (option_map without_session o))
    (json_of-compact_text (command_value id method params (Some session)) (ask_plain id method params (Some session) counted p s)
    shallow utf8)
    ∙ ap (λ d. asked_value false (Some d)) (without-written id method params session)
    ∙ value_asked false id method params None counted
