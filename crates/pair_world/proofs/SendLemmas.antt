-- What front ends send may come in a run.
use Rattle.std.proofs.Common.{◌≡◌, ℕ, List, codes, true, false, Option, Some, None, option_and_then, refl, sym, ◌∙◌, ap, subst}
use Rattle.serde_json.specs.Data.{Data, string, Members}
use Rattle.serde_json.specs.Find.{get_member, as_str, as_object}
use Rattle.cdp_json.specs.Fields.{field_if, field_from}
use Rattle.cdp_json.specs.Kinds.{as_whole, holds_of_some}
use Rattle.cdp_json.specs.Plain.{is_plain}
use Rattle.pipe_frames.specs.Frames.{IsText}
use Rattle.cdp_messages.specs.Asked.{json_of, command_value, command_text}
use Rattle.cdp_messages.proofs.Commands.{ask_plain}
use Rattle.cdp_messages.proofs.ZeroFree.{texts_have_no_zero}
use Rattle.front_mirror.specs.declared.replies.Ask.{Ask}
use Rattle.inspect_world.specs.Fits.{sheet_asked, ask_by, ask_of, ask_of_frame, is_ask, is_bare, IsBare}
use Rattle.session_mux.specs.Sessions.{session_text}
use Rattle.session_mux.specs.Routes.{Request, if_is, request_in, request_of}
use Rattle.session_runs.specs.Pairs.{to_root, attach, detach}
use Rattle.session_runs.specs.PairFit.{MayTarget, may_attach, may_detach, IsCalm, calm_root, calm_second}
use Rattle.multi_replay.specs.Incoming.{is_target_id}
use Rattle.pair_world.specs.SessionWays.{attach_method, detach_method, way_by, frame_way}
use Rattle.pair_world.specs.Clients.{pair_reads, client_steps}
use Rattle.pair_world.specs.Shown.{MaySend}
use Rattle.pair_world.specs.FrameLaws.{IsCommand}
use Rattle.pair_world.specs.Sendings.{AsksMayBeSent, SessionAsksMayBeSent, BareFramesMayBeSent, TargetsMayBeSent}
use Rattle.pair_world.proofs.TargetTexts.{target-counted}
use Rattle.pair_world.proofs.WayLemmas.{command-read, attach-command, detach-command, asks-are-the-roots, asks-are-the-sessions}
use Rattle.pair_world.proofs.WayLemmas.{targets-are-known}

-- ---- commands

-- a command is this ask
command-ask : (id : ℕ) (method : List ℕ) (params : Option Data) → IsCommand id method params None
    → ask_of_frame (command_text id method params None) ≡ Some (record { id = id; method = method; sheet = sheet_asked id method params })
command-ask id method params c =
    ap (λ o. option_and_then ask_of (option_and_then as_object o)) (command-read id method params None c refl) ∙ by-params params
  where
    by-params : (params : Option Data)
        → option_and_then ask_of (option_and_then as_object (Some (command_value id method params None)))
        ≡ Some (record { id = id; method = method; sheet = sheet_asked id method params })
    by-params None = rw c.counted
    by-params (Some d) = rw c.counted

command-may : (id : ℕ) (method : List ℕ) (params : Option Data) → IsCommand id method params None → is_target_id id ≡ false
    → MaySend (command_text id method params None)
command-may id method params c low =
    let one : Ask = record { id = id; method = method; sheet = sheet_asked id method params } in
    let is : ask_of_frame (command_text id method params None) ≡ Some one = command-ask id method params c in
    record {
      sendable = is_ask one is;
      no_target = λ ask e. subst (λ (a : Ask). is_target_id a.id ≡ false) (same one ask (sym is ∙ e)) low;
    }
  where
    same : (a b : Ask) → Some a ≡ Some b → a ≡ b
    same a b e = cc

pub command-letters : (id : ℕ) (method : List ℕ) (params session : Option Data) → IsCommand id method params session
    → holds_of_some is_plain session ≡ true → IsText (command_text id method params session)
command-letters id method params session c plain =
    texts_have_no_zero (command_value id method params session) (ask_plain id method params session c.counted c.plain plain)

pub asks-may-be-sent : AsksMayBeSent
asks-may-be-sent id method params attached c low other =
    let frame = command_text id method params None in (
      command-letters id method params None c refl,
      subst (λ way. IsCalm pair_reads client_steps MaySend attached way) (sym (asks-are-the-roots id method params c other))
          (calm_root frame (command-may id method params c low)),
    )

pub session-asks-may-be-sent : SessionAsksMayBeSent
session-asks-may-be-sent id k method params c without are low =
    let t = session_text k in (
      command-letters id method params (Some (string t)) c refl,
      subst (λ way. IsCalm pair_reads client_steps MaySend (Some k) way) (sym (asks-are-the-sessions id method params t c are))
          (calm_second k (command_text id method params None) (command-may id method params without low)),
    )

-- ---- frames that name no ask

-- what names no ask is no request
none-asked : (frame : Members) (id method : Option Data) (f : ℕ → List ℕ → Option Request)
    → option_and_then (λ id. option_and_then (λ method. Some (ask_by frame id method)) (option_and_then as_str method))
    (option_and_then as_whole id) ≡ None
    → if_is (field_from as_whole id) (λ id. if_is (field_from as_str method) (f id)) ≡ None
none-asked frame None method f e = refl
none-asked frame (Some d) method f e = by-id (as_whole d) method e where
  by-method : (id : ℕ) (m : Option (List ℕ)) → option_and_then (λ method. Some (ask_by frame id method)) m ≡ None
      → if_is (field_if m) (f id) ≡ None
  by-method id None e = refl
  by-method id (Some m) e = absurd cc

  by-id : (i : Option ℕ) (method : Option Data)
      → option_and_then (λ id. option_and_then (λ method. Some (ask_by frame id method)) (option_and_then as_str method)) i ≡ None
      → if_is (field_if i) (λ id. if_is (field_from as_str method) (f id)) ≡ None
  by-id None method e = refl
  by-id (Some id) None e = refl
  by-id (Some id) (Some m) e = by-method id (as_str m) e

bare-request : (o : Option Members) → option_and_then ask_of o ≡ None → option_and_then request_in o ≡ None
bare-request None e = refl
bare-request (Some frame) e = none-asked frame (get_member (codes "id") frame) (get_member (codes "method") frame) _ e

bare-may : (frame : List ℕ) → IsBare frame → MaySend frame
bare-may frame bare = record {
  sendable = is_bare bare;
  no_target = λ ask e. let no : ◌≡◌ {A = Option Ask} None (Some ask) = sym bare.no_ask ∙ e in absurd cc;
}

-- it is the root's
pub bare-way : (frame : List ℕ) → IsBare frame → frame_way frame ≡ to_root frame
bare-way frame bare =
    let none : request_of frame ≡ None = bare-request (option_and_then as_object (json_of frame)) bare.no_ask in ap (way_by frame) none

pub bare-frames-may-be-sent : BareFramesMayBeSent
bare-frames-may-be-sent frame attached letters bare = (
  letters,
  subst (λ way. IsCalm pair_reads client_steps MaySend attached way) (sym (bare-way frame bare)) (calm_root frame (bare-may frame bare)),
)

-- ---- the two commands

pub targets-may-be-sent : TargetsMayBeSent
targets-may-be-sent id k target small =
    let counted = target-counted id target in
    let ways = targets-are-known id k counted small in (
      (
        command-letters id attach_method _ None (attach-command id counted) refl,
        subst (λ way. MayTarget pair_reads client_steps None way (record { id = id; kind = attach })) (sym ways.0) (may_attach id target),
      ),
      (
        command-letters id detach_method _ None (detach-command id k counted small) refl,
        subst (λ way. MayTarget pair_reads client_steps (Some k) way (record { id = id; kind = detach })) (sym ways.1)
            (may_detach id k target),
      ),
    )
