-- What the lines of a script with two front ends do may come in a run.
use Rattle.std.proofs.Common.{◌≡◌, ℕ, ◌+◌, ◌<◌, ◌^◌, Bool, true, false, not, ◌&&◌, nat_le, List, bytes_eq}
use Rattle.std.proofs.Common.{Option, Some, None, is_none, refl, sym, ◌∙◌, ap, subst, arith}
use Rattle.std.proofs.lemmas.Bool.Decides.{nat_tests}
use Rattle.std.proofs.lemmas.Bool.{lt-ltb}
use Rattle.std.proofs.lemmas.Slice.Eq.{bytes_eq-Decides}
use Rattle.json.proofs.Printed.Utf8.{IsUtf8-are_ascii}
use Rattle.node_tree.specs.Numbers.{counted_limit, fetch_limit}
use Rattle.serde_json.specs.Data.{Data, null, boolean, number, string, array, object}
use Rattle.cdp_json.specs.Kinds.{is_counted, holds_of_some}
use Rattle.cdp_json.proofs.ReadBack.{IsUtf8-compact_text}
use Rattle.cdp_messages.specs.Asked.{command_value}
use Rattle.cdp_messages.specs.Events.{is_object}
use Rattle.cdp_messages.specs.SessionFrames.{session_name}
use Rattle.cdp_messages.proofs.Commands.{ask_plain}
use Rattle.front_mirror.specs.declared.replies.Ask.{Ask}
use Rattle.front_mirror.specs.Front.{FrontValue}
use Rattle.replay_script.specs.Forms.{AskForm}
use Rattle.replay_script.specs.Sound.{CanSend}
use Rattle.replay_script.specs.PairLines.{is_target_method, may_ask}
use Rattle.session_mux.specs.Sessions.{session_text}
use Rattle.session_mux.specs.Targets.{target_named}
use Rattle.session_runs.specs.Pairs.{Second}
use Rattle.session_runs.specs.PairFit.{TwoFit, neither, both}
use Rattle.multi_replay.specs.Incoming.{is_target_id}
use Rattle.back_end.specs.States.{Side}
use Rattle.pair_world.specs.Clients.{pair_reads, client_steps, RunClient}
use Rattle.pair_world.specs.Shown.{IsSessionNumber, Shows}
use Rattle.pair_world.specs.SessionWays.{attach_method, detach_method}
use Rattle.pair_world.specs.FrameLaws.{IsCommand, are_object}
use Rattle.pair_world.proofs.MessageTexts.{texts-of}
use Rattle.pair_world.proofs.TaggedTexts.{session-utf8}

-- ---- ids

-- an id of an ask is none of an attach or a detach, and a message carries it
pub ask-id : (id : ℕ) → id < 2 ^ 52 → (is_counted id ≡ true) × (is_target_id id ≡ false)
ask-id id low =
    let counted : is_counted id ≡ true = lt-ltb id counted_limit (omega (arith, low)) in
    (counted, ap (λ b. b && is_counted id) (not-more fetch_limit id (omega (arith, low))))
  where
    not-more : (a b : ℕ) → b < a → nat_le a b ≡ false
    not-more a b less = grind (arith, nat_tests)

-- one of an attach or a detach is one, and a message carries it
pub target-id : (n : ℕ) → n < 2 ^ 52 → is_target_id (fetch_limit + n) ≡ true
target-id n low =
    let counted : is_counted (fetch_limit + n) ≡ true = lt-ltb (fetch_limit + n) counted_limit (omega (arith, low)) in
    ap (λ b. b && is_counted (fetch_limit + n)) (at-least fetch_limit n) ∙ counted
  where
    at-least : (a n : ℕ) → nat_le a (a + n) ≡ true
    at-least a n = grind (arith, nat_tests)

-- ---- commands

-- an ask of the first front end is a command without a session
pub ask-command : (a : AskForm) (id : ℕ) → is_counted id ≡ true → CanSend a → a.session ≡ None → IsCommand id a.method a.params None
ask-command a id counted can none =
    subst (λ session. IsCommand id a.method a.params session) none
    (record { counted = counted; plain = can.params; shallow = can.shallow id; utf8 = can.texts id counted })

-- a command is one in a session too
pub session-command : (id k : ℕ) (method : List ℕ) (params : Option Data) → IsSessionNumber k → IsCommand id method params None
    → IsCommand id method params (Some (string (session_text k)))
session-command id k method None small c =
    let s = string (session_text k) in
    let h = texts-of (command_value id method None None)
    (record { plain = ask_plain id method None None c.counted c.plain refl; shallow = c.shallow; utf8 = c.utf8 }) in
    record {
      counted = c.counted;
      plain = c.plain;
      shallow = c.shallow;
      utf8 = IsUtf8-compact_text (command_value id method None (Some s)) (ask_plain id method None (Some s) c.counted c.plain refl) (
        h.0,
        h.1,
        (h.2.0, h.2.1, (IsUtf8-are_ascii session_name refl, session-utf8 k small, tt)),
      );
    }
session-command id k method (Some d) small c =
    let s = string (session_text k) in
    let h = texts-of (command_value id method (Some d) None)
    (record { plain = ask_plain id method (Some d) None c.counted c.plain refl; shallow = c.shallow; utf8 = c.utf8 }) in
    let plain = ask_plain id method (Some d) (Some s) c.counted c.plain refl in
    record {
      counted = c.counted;
      plain = c.plain;
      shallow = c.shallow;
      utf8 = IsUtf8-compact_text (command_value id method (Some d) (Some s)) plain (
        h.0,
        h.1,
        (h.2.0, h.2.1, (h.2.2.0, h.2.2.1, (IsUtf8-are_ascii session_name refl, session-utf8 k small, tt))),
      );
    }

-- ---- what an ask may be

pub both-of : (a b : Bool) → (a && b) ≡ true → (a ≡ true) × (b ≡ true)
both-of true b e = (refl, e)
both-of false b e = absurd cc

none-is : {A : Type 0} (o : Option A) → is_none o ≡ true → o ≡ None
none-is None e = refl
none-is (Some x) e = absurd cc

-- it names no session
pub ask-alone : (a : AskForm) → may_ask a ≡ true → a.session ≡ None
ask-alone a may = none-is a.session (both-of (is_none a.session) (not (is_target_method a.method)) may).0

-- its method is none of the two
not-target : (m : List ℕ) → not (is_target_method m) ≡ true → target_named m ≡ None
not-target m other =
    let none-of : (name : List ℕ) → is_target_method name ≡ true → bytes_eq name m ≡ false =
    λ name begins. apart name m begins other in
    rw (none-of attach_method refl, none-of detach_method refl) refl
  where
    by-test : (name m : List ℕ) (b : Bool) → bytes_eq name m ≡ b → is_target_method name ≡ true → not (is_target_method m) ≡ true
        → bytes_eq name m ≡ false
    by-test name m false is begins other = is
    by-test name m true is begins other =
        let same : name ≡ m = (bytes_eq-Decides name m).0 is in
        let no : false ≡ true = sym (ap not (sym (ap is_target_method same) ∙ begins)) ∙ other in
        absurd cc

    apart : (name m : List ℕ) → is_target_method name ≡ true → not (is_target_method m) ≡ true → bytes_eq name m ≡ false
    apart name m begins other = by-test name m (bytes_eq name m) refl begins other

pub ask-of-no-target : (a : AskForm) → may_ask a ≡ true → target_named a.method ≡ None
ask-of-no-target a may = not-target a.method (both-of (is_none a.session) (not (is_target_method a.method)) may).1

-- parameters that are an object, where there are some
pub object-params : (p : Option Data) → holds_of_some is_object p ≡ true → are_object p ≡ true
object-params None e = refl
object-params (Some null) e = absurd cc
object-params (Some (boolean b)) e = absurd cc
object-params (Some (number n)) e = absurd cc
object-params (Some (string s)) e = absurd cc
object-params (Some (array ds)) e = absurd cc
object-params (Some (object ms)) e = refl

-- ---- sessions

-- the number of the attached session is one of a session
pub number-of : (side : Side) (second : RunClient) (next k : ℕ) (asks : List Ask) (two : Option (Second FrontValue (List ℕ)))
    (attached : Option ℕ)
    → TwoFit pair_reads client_steps IsSessionNumber Shows side second next asks two attached → attached ≡ Some k → IsSessionNumber k
number-of side second next k asks _ _ neither is = absurd cc
number-of side second next k asks _ _ (both j v is_number few shows) is = subst IsSessionNumber (same j k is) is_number where
  same : (j k : ℕ) → Some j ≡ Some k → j ≡ k
  same j k e = cc
