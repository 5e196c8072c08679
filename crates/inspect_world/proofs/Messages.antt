-- What a run needs of single messages: that an ask is the ask that it is meant to be, and what the back end makes of one.
use Rattle.std.proofs.Common.{◌≡◌, ◌+◌, ℕ, ◌^◌, ◌<◌, ◌≤◌, Bool, true, false, cond, nat_lt, bytes_eq, List, codes, Option, Some, None}
use Rattle.std.proofs.Common.{option_and_then, refl, sym, ◌∙◌, ap, subst, Result, Ok, Err, lt-ltb, arith}
use Rattle.std.proofs.lemmas.Slice.Eq.{bytes_eq-Decides}
use Rattle.serde_json.specs.Data.{Data, Members}
use Rattle.serde_json.specs.Find.{get_member, as_str, as_object}
use Rattle.cdp_json.specs.Kinds.{is_counted, as_whole}
use Rattle.cdp_json.specs.Plain.{is_plain}
use Rattle.cdp_json.specs.declared.fields.Field.TheVariants.{Is}
use Rattle.cdp_json.specs.Fields.{field_if, field_from, field_of}
use Rattle.pipe_frames.specs.Frames.{IsText}
use Rattle.cdp_messages.specs.declared.command.Asked.{Asked}
use Rattle.cdp_messages.specs.declared.command.Command.{Command}
use Rattle.cdp_messages.specs.declared.command.Why.{Why}
use Rattle.cdp_messages.specs.declared.command.Refused.{Refused}
use Rattle.cdp_messages.specs.Asked.{json_of, command_of, method_in, command_in, asked_by, with_id, asked_in, asked_value, asked}
use Rattle.cdp_messages.specs.Asked.{command_value, command_text, method_name, fits_command}
use Rattle.cdp_json.specs.Lookups.{then_ok}
use Rattle.back_end.specs.Laws.{edits_asked}
use Rattle.front_mirror.specs.declared.replies.Ask.{Ask}
use Rattle.replay_script.specs.Forms.{AskForm}
use Rattle.inspect_world.specs.World.{Spent, one_ask}
use Rattle.inspect_world.specs.Costs.{edits_commanded, ask_edits}
use Rattle.inspect_world.specs.Fits.{sheet_in_params, sheet_asked, ask_by, ask_of, ask_of_frame, ask_with, edits_of_frame, most_bytes}
use Rattle.inspect_world.specs.Fits.{most_frames, IsNext, next_ask}
use Rattle.replay_script.specs.Sound.{CanSend}
use Rattle.cdp_json.proofs.Options.{and_then_some}
use Rattle.back_end.proofs.AskedLemmas.{whole-is}
use Rattle.cdp_messages.proofs.Messages.{json_of-compact_text}
use Rattle.cdp_messages.proofs.Commands.{ask_plain, asks_are_asked, commands_are_named}
use Rattle.cdp_messages.proofs.ZeroFree.{texts_have_no_zero}

-- ---- an ask that is sent

sent_plain : (id : ℕ) (a : AskForm) → CanSend a → id < 2 ^ 53 → is_plain (command_value id a.method a.params a.session) ≡ true
sent_plain id a can small = ask_plain id a.method a.params a.session (lt-ltb id (2 ^ 53) small) can.params can.session

pub IsText-sent : (id : ℕ) (a : AskForm) → CanSend a → id < 2 ^ 53 → IsText (command_text id a.method a.params a.session)
IsText-sent id a can small = texts_have_no_zero (command_value id a.method a.params a.session) (sent_plain id a can small)

value_ask_in : (id : ℕ) (method : List ℕ) (params session : Option Data) → is_counted id ≡ true → nat_lt id (2 ^ 30) ≡ true
    → option_and_then ask_of (option_and_then as_object (Some (command_value id method params session))) ≡ Some (ask_with method id)
value_ask_in id method None None c small = rw (c, small)
value_ask_in id method None (Some s) c small = rw (c, small)
value_ask_in id method (Some p) None c small = rw (c, small)
value_ask_in id method (Some p) (Some s) c small = rw (c, small)

-- the front end's command is the ask that it is meant to be
pub ask_in-sent : (id : ℕ) (a : AskForm) → CanSend a → id < 2 ^ 30
    → ask_of_frame (command_text id a.method a.params a.session) ≡ Some (ask_with a.method id)
ask_in-sent id a can small =
    let low : id < 2 ^ 53 = omega (arith, small) in
    let c : is_counted id ≡ true = lt-ltb id (2 ^ 53) low in
    let d = command_value id a.method a.params a.session in
    ap (λ o. option_and_then ask_of (option_and_then as_object o))
    (json_of-compact_text d (sent_plain id a can low) (can.shallow id) (can.texts id c))
    ∙ value_ask_in id a.method a.params a.session c (lt-ltb id (2 ^ 30) small)

-- a command comes to no more edits than its ask
edits-by : (id : ℕ) (r : Result Command Why) → edits_asked (asked_by id r) ≤ edits_commanded r
edits-by id (Ok c) = omega arith
edits-by id (Err why) = omega arith

edits-sent : (id : ℕ) (a : AskForm) → CanSend a → is_counted id ≡ true
    → edits_of_frame (command_text id a.method a.params a.session) ≤ ask_edits a
unfolding edits_of_frame ask_edits
edits-sent id a can counted =
    subst (λ r. edits_asked r ≤ edits_commanded (command_of false a.method a.params a.session))
    (sym (asks_are_asked false id a.method a.params a.session counted can.params can.session (can.shallow id) (can.texts id counted)))
    (edits-by id (command_of false a.method a.params a.session))

pub IsNext-sent : (n : Spent) (a : AskForm) → CanSend a → n.asks + n.raws + 1 ≤ most_frames → n.edits + ask_edits a ≤ most_bytes
    → n.asks + 1 < 2 ^ 30
    → IsNext n (command_text (n.asks + 1) a.method a.params a.session) (one_ask (ask_edits a) n)
IsNext-sent n a can few few_edits small =
    next_ask a.method (ask_edits a) (ask_in-sent (n.asks + 1) a can small)
    (edits-sent (n.asks + 1) a can (lt-ltb (n.asks + 1) (2 ^ 53) (omega (arith, small)))) few few_edits

-- ---- what the back end reads in an ask

-- What the back end reads in an ask: a command of its method, or a refusal with its id.
pub data AskedAs (ask : Ask) : Result Asked Refused → Type 0 where
  commanded : (command : Command) → ask.method ≡ method_name command → AskedAs ask (Ok (record { id = ask.id; command = command }))
  refused_as : (why : Why) → AskedAs ask (Err (record { id = Some ask.id; why = why }))

by_command : (ask : Ask) (r : Result Command Why) → ((c : Command) → r ≡ Ok c → (ask.method ≡ method_name c) × (fits_command c ≡ true))
    → AskedAs ask (asked_by ask.id r)
by_command ask (Ok c) is = commanded c (is c refl).0
by_command ask (Err why) is = refused_as why

-- the id and the method of a frame that is an ask
pub id_method : (frame : Members) (i : Option ℕ) (m : Option (List ℕ)) (ask : Ask)
    → option_and_then (λ id. option_and_then (λ method. Some (ask_by frame id method)) m) i ≡ Some ask
    → (i ≡ Some ask.id) × (m ≡ Some ask.method) × (ask.sheet ≡ sheet_asked ask.id ask.method (get_member (codes "params") frame))
id_method frame None m ask e = absurd cc
id_method frame (Some id) None ask e = absurd cc
id_method frame (Some id) (Some method) ask e =
    let same : ask_by frame id method ≡ ask = cc in (
      ap (λ (a : Ask). Some a.id) same,
      ap (λ (a : Ask). Some a.method) same,
      subst (λ (a : Ask). a.sheet ≡ sheet_asked a.id a.method (get_member (codes "params") frame)) same refl,
    )

-- a field that is read
pub there : {T : Type 0} (reads : Data → Option T) (o : Option Data) (x : T) → option_and_then reads o ≡ Some x → field_from reads o ≡ Is x
there reads None x e = absurd cc
there reads (Some d) x e = ap field_if e

frame_ask : (frame : Members) (ask : Ask) → ask_of frame ≡ Some ask → AskedAs ask (asked_in false (Some frame))
frame_ask frame ask e =
    let p = id_method frame (option_and_then as_whole (get_member (codes "id") frame))
    (option_and_then as_str (get_member (codes "method") frame)) ask e in
    let rest = λ (method : List ℕ). command_of false method (get_member (codes "params") frame) (get_member (codes "sessionId") frame) in
    let id_is : field_of as_whole (codes "id") frame ≡ Is ask.id = there as_whole (get_member (codes "id") frame) ask.id p.0 in
    let method_is : field_of as_str (codes "method") frame
    ≡ Is ask.method = there as_str (get_member (codes "method") frame) ask.method p.1 in
    let is : asked_in false (Some frame) ≡ asked_by ask.id (rest ask.method) =
    ap (λ f. with_id f (command_in false frame)) id_is ∙ ap (λ f. asked_by ask.id (then_ok (method_in f) rest)) method_is in
    subst (AskedAs ask) (sym is)
    (by_command ask (rest ask.method)
    (commands_are_named false ask.method (get_member (codes "params") frame) (get_member (codes "sessionId") frame)))

object_ask : (o : Option Members) (ask : Ask) → option_and_then ask_of o ≡ Some ask → AskedAs ask (asked_in false o)
object_ask None ask e = absurd cc
object_ask (Some frame) ask e = frame_ask frame ask e

value_ask : (o : Option Data) (ask : Ask) → option_and_then ask_of (option_and_then as_object o) ≡ Some ask
    → AskedAs ask (asked_value false o)
value_ask None ask e = absurd cc
value_ask (Some d) ask e = object_ask (as_object d) ask e

pub asked-ask : (frame : List ℕ) (ask : Ask) → ask_of_frame frame ≡ Some ask → AskedAs ask (asked frame false)
asked-ask frame ask is = value_ask (json_of frame) ask is

-- the id of an ask is below 2^53
pub ask-id : (frame : List ℕ) (ask : Ask) → ask_of_frame frame ≡ Some ask → is_counted ask.id ≡ true
ask-id frame ask is =
    let o = and_then_some ask_of (option_and_then as_object (json_of frame)) ask is in
    let p = id_method o.0 (option_and_then as_whole (get_member (codes "id") o.0))
    (option_and_then as_str (get_member (codes "method") o.0)) ask o.2 in
    let d = and_then_some as_whole (get_member (codes "id") o.0) ask.id p.0 in
    whole-is d.0 ask.id d.2

-- only the method of fetches names a sheet
asked-method : (method : List ℕ) (params : Option Data) (sheet : ℕ) (low named : Bool)
    → bytes_eq method (codes "CSS.getStyleSheetText") ≡ named
    → cond low None (cond named (option_and_then sheet_in_params params) None) ≡ Some sheet → method ≡ codes "CSS.getStyleSheetText"
asked-method method params sheet true named is e = absurd cc
asked-method method params sheet false true is e = (bytes_eq-Decides method (codes "CSS.getStyleSheetText")).0 is
asked-method method params sheet false false is e = absurd cc

-- the ask that fetches a sheet's text has that method
pub fetch-method : (frame : List ℕ) (ask : Ask) (sheet : ℕ) → ask_of_frame frame ≡ Some ask → ask.sheet ≡ Some sheet
    → ask.method ≡ codes "CSS.getStyleSheetText"
fetch-method frame ask sheet is fetches =
    let o = and_then_some ask_of (option_and_then as_object (json_of frame)) ask is in
    let p = id_method o.0 (option_and_then as_whole (get_member (codes "id") o.0))
    (option_and_then as_str (get_member (codes "method") o.0)) ask o.2 in
    asked-method ask.method (get_member (codes "params") o.0) sheet (nat_lt ask.id (2 ^ 30))
    (bytes_eq ask.method (codes "CSS.getStyleSheetText")) refl (sym p.2 ∙ fetches)
