-- What front ends send over any link: each frame is read as the ask, the fetch or the command that it is, in whatever session.
use Rattle.std.proofs.Common.{◌≡◌, ℕ, ◌+◌, ◌<◌, ◌^◌, Bool, true, false, List, [], ◌∷◌, ◌++◌, codes, decimal, Option, Some, None}
use Rattle.std.proofs.Common.{is_some}
use Rattle.std.proofs.Common.{refl, sym, ◌∙◌, ap, subst, arith, lt-ltb, option_and_then}
use Rattle.std.specs.Prelude.{IsUtf8}
use Rattle.std.specs.Option.{option_to_list}
use Rattle.std.proofs.lemmas.Fmt.{IsAscii-decimal}
use Rattle.std.proofs.lemmas.Str.{IsUtf8-from_ascii, IsUtf8-append}
use Rattle.json.proofs.Printed.Utf8.{IsUtf8-are_ascii}
use Rattle.serde_json.specs.Data.{Data, string, object, member, no_members}
use Rattle.serde_json.specs.Find.{as_object}
use Rattle.cdp_json.specs.declared.fields.Field.TheVariants.{Missing}
use Rattle.cdp_json.specs.Fields.{field_if}
use Rattle.cdp_json.specs.Kinds.{is_counted, holds_of_some}
use Rattle.cdp_json.proofs.ReadBack.{IsUtf8-compact_text}
use Rattle.css_objects.specs.Sheets.{sheet_text}
use Rattle.node_tree.specs.Numbers.{first_fetch, counted_limit}
use Rattle.pipe_frames.specs.Frames.{IsText, framed}
use Rattle.cdp_messages.specs.Asked.{command_value, command_text}
use Rattle.cdp_messages.specs.Events.{is_object}
use Rattle.cdp_messages.specs.SessionFrames.{session_name}
use Rattle.cdp_messages.proofs.Commands.{ask_plain}
use Rattle.front_mirror.specs.Front.{FrontState, fetch_params}
use Rattle.replay_script.specs.Forms.{AskForm}
use Rattle.replay_script.specs.Sound.{CanSend}
use Rattle.replay_script.specs.PairLines.{may_ask, may_ask_second}
use Rattle.session_mux.specs.Routes.{Request, if_is, request_in, request_of}
use Rattle.session_runs.specs.Pairs.{detaches, Second, attach, detach}
use Rattle.multi_replay.specs.States.{FrontsState, is_there, ask_text, fetch_text, attach_text, detach_text, after_asked}
use Rattle.multi_replay.specs.States.{after_fetched, after_target, SecondHasRoom, HaveRoom}
use Rattle.multi_replay.specs.Laws.{WasAttached, SecondWasAttached, IsFoldOfBoth}
use Rattle.multi_replay.proofs.NumberLemmas.{numbers-are-of-texts}
use Rattle.multi_replay.proofs.SendLemmas.{first-asks, second-asks, first-fetches, second-fetches, both-attach, both-detach}
use Rattle.inspect_world.specs.Fits.{ask_of_frame, ask_with}
use Rattle.inspect_world.proofs.Messages.{ask_in-sent}
use Rattle.inspect_world.proofs.FetchForms.{sent-fetch}
use Rattle.pair_world.specs.SessionWays.{detach_method, way_by, frame_way}
use Rattle.pair_world.specs.FrameLaws.{IsCommand}
use Rattle.pair_world.specs.PairHeld.{up_reads}
use Rattle.pair_world.proofs.MessageTexts.{texts-of}
use Rattle.pair_world.proofs.TargetTexts.{whole-read}
use Rattle.pair_world.proofs.WayLemmas.{command-read, attach-command, asks-are-the-roots, asks-are-the-sessions, targets-are-known}
use Rattle.pair_world.proofs.DeedLemmas.{ask-id, ask-command, ask-alone, ask-of-no-target, both-of, object-params}
use Rattle.pair_world.proofs.SendLemmas.{command-letters}
use Rattle.pair_replay.specs.PairStarts.{may_ask_on}
use Rattle.pair_replay.proofs.ReplyIds.{utf8-text}

-- ---- texts

-- a command is one in a session of any text
in-session : (id : ℕ) (method t : List ℕ) (params : Option Data) → IsUtf8 t → IsCommand id method params None
    → IsCommand id method params (Some (string t))
in-session id method t None u c =
    let h = texts-of (command_value id method None None)
    (record { plain = ask_plain id method None None c.counted c.plain refl; shallow = c.shallow; utf8 = c.utf8 }) in
    record {
      counted = c.counted;
      plain = c.plain;
      shallow = c.shallow;
      utf8 = IsUtf8-compact_text (command_value id method None (Some (string t)))
          (ask_plain id method None (Some (string t)) c.counted c.plain refl)
          (h.0, h.1, (h.2.0, h.2.1, (IsUtf8-are_ascii session_name refl, u, tt)));
    }
in-session id method t (Some d) u c =
    let h = texts-of (command_value id method (Some d) None)
    (record { plain = ask_plain id method (Some d) None c.counted c.plain refl; shallow = c.shallow; utf8 = c.utf8 }) in
    record {
      counted = c.counted;
      plain = c.plain;
      shallow = c.shallow;
      utf8 = IsUtf8-compact_text (command_value id method (Some d) (Some (string t)))
          (ask_plain id method (Some d) (Some (string t)) c.counted c.plain refl)
          (h.0, h.1, (h.2.0, h.2.1, (h.2.2.0, h.2.2.1, (IsUtf8-are_ascii session_name refl, u, tt))));
    }

-- the text of the second front end's session is UTF-8
attached-utf8 : (top : ℕ) (two : Option (Second FrontState (List ℕ))) (w : Second FrontState (List ℕ)) → two ≡ Some w
    → SecondWasAttached top two → IsUtf8 w.text
attached-utf8 top two w is was =
    let a : WasAttached top w.text = subst (SecondWasAttached top) is was in
    subst IsUtf8 (sym ((numbers-are-of-texts w.text a.number).0 a.is).0) (utf8-text a.number)

-- ---- asks

-- what is sent is a text, and the front ends are the fold with it
pub record IsFolded (up down text : List ℕ) (s : FrontsState) : Type 0 where
  pub letters : IsText text
  pub fold : IsFoldOfBoth up_reads (up ++ framed text) down s

ask-read : (id : ℕ) (a : AskForm) → CanSend a → may_ask a ≡ true → id < 2 ^ 30
    → ask_of_frame (command_text id a.method a.params None) ≡ Some (ask_with a.method id)
ask-read id a can may small =
    subst (λ session. ask_of_frame (command_text id a.method a.params session) ≡ Some (ask_with a.method id)) (ask-alone a may)
    (ask_in-sent id a can small)

first-asked : (up down : List ℕ) (s : FrontsState) (a : AskForm) → IsFoldOfBoth up_reads up down s → CanSend a → may_ask a ≡ true
    → s.pair.one.next < 2 ^ 30 → IsFolded up down (ask_text false s.pair a.method a.params) (after_asked s false a.method)
first-asked up down s a is can may small =
    let id = s.pair.one.next in
    let text = command_text id a.method a.params None in
    let c : IsCommand id a.method a.params None = ask-command a id (ask-id id (omega (arith, small))).0 can (ask-alone a may) in
    let letters = command-letters id a.method a.params None c refl in
    record {
      letters = letters;
      fold = first-asks up_reads up down text a.method s is (record {
        letters = letters;
        text = text;
        way = asks-are-the-roots id a.method a.params c (ask-of-no-target a may);
        asks = ap option_to_list (ask-read id a can may small);
      });
    }

second-asked : (up down : List ℕ) (s : FrontsState) (a : AskForm) (w : Second FrontState (List ℕ)) → IsFoldOfBoth up_reads up down s
    → s.pair.two ≡ Some w → CanSend a → may_ask_second a ≡ true → w.value.next < 2 ^ 30
    → IsFolded up down (command_text w.value.next a.method a.params (Some (string w.text))) (after_asked s true a.method)
second-asked up down s a w is stands can may small =
    let id = w.value.next in
    let parts = both-of (may_ask a) (holds_of_some is_object a.params) may in
    let plain_text = command_text id a.method a.params None in
    let plain : IsCommand id a.method a.params None =
    ask-command a id (ask-id id (omega (arith, small))).0 can (ask-alone a parts.0) in
    let c : IsCommand id a.method a.params (Some (string w.text)) =
    in-session id a.method w.text a.params (attached-utf8 s.pair.top s.pair.two w stands is.second) plain in
    let letters = command-letters id a.method a.params (Some (string w.text)) c refl in
    record {
      letters = letters;
      fold = second-asks up_reads up down (command_text id a.method a.params (Some (string w.text))) a.method s w is stands (record {
        letters = letters;
        text = plain_text;
        way = asks-are-the-sessions id a.method a.params w.text c (object-params a.params parts.1);
        asks = ap option_to_list (ask-read id a can parts.0 small);
      });
    }

-- ---- fetches

told-utf8 : (sheet : ℕ) → sheet < 2 ^ 64 → IsUtf8 (sheet_text sheet)
told-utf8 sheet fits =
    IsUtf8-append (115 ∷ []) (decimal sheet) (IsUtf8-are_ascii (115 ∷ []) refl)
    (IsUtf8-from_ascii (decimal sheet) (IsAscii-decimal sheet fits))

-- a fetch is a command without a session
pub fetch-command : (count sheet : ℕ) → 2 ^ 30 + count < 2 ^ 53 → sheet < 2 ^ 64
    → IsCommand (first_fetch + count) (codes "CSS.getStyleSheetText") (Some (fetch_params sheet)) None
fetch-command count sheet small fits =
    let id = first_fetch + count in
    let method = codes "CSS.getStyleSheetText" in
    let counted : is_counted id ≡ true = lt-ltb id (2 ^ 53) (omega (arith, small)) in
    record {
      counted = counted;
      plain = refl;
      shallow = omega arith;
      utf8 = IsUtf8-compact_text (command_value id method (Some (fetch_params sheet)) None)
          (ask_plain id method (Some (fetch_params sheet)) None counted refl refl) (
            IsUtf8-are_ascii (codes "id") refl,
            tt,
            (
              IsUtf8-are_ascii (codes "method") refl,
              IsUtf8-are_ascii method refl,
              (IsUtf8-are_ascii (codes "params") refl, (IsUtf8-are_ascii (codes "styleSheetId") refl, told-utf8 sheet fits, tt), tt),
            ),
          );
    }

first-fetched : (up down : List ℕ) (s : FrontsState) (sheet : ℕ) → IsFoldOfBoth up_reads up down s
    → 2 ^ 30 + s.pair.one.fetches < 2 ^ 52 → sheet < 2 ^ 64
    → IsFolded up down (fetch_text false s.pair sheet) (after_fetched s false sheet)
first-fetched up down s sheet is room fits =
    let count = s.pair.one.fetches in
    let text = fetch_text false s.pair sheet in
    let small : 2 ^ 30 + count < 2 ^ 53 = omega (arith, room) in
    let c = fetch-command count sheet small fits in
    let letters = command-letters (first_fetch + count) (codes "CSS.getStyleSheetText") (Some (fetch_params sheet)) None c refl in
    record {
      letters = letters;
      fold = first-fetches up_reads up down text sheet s is (record {
        letters = letters;
        text = text;
        way = asks-are-the-roots (first_fetch + count) (codes "CSS.getStyleSheetText") (Some (fetch_params sheet)) c refl;
        asks = ap option_to_list (sent-fetch count sheet small fits);
      });
    }

second-fetched : (up down : List ℕ) (s : FrontsState) (sheet : ℕ) (w : Second FrontState (List ℕ)) → IsFoldOfBoth up_reads up down s
    → s.pair.two ≡ Some w → 2 ^ 30 + w.value.fetches < 2 ^ 52 → sheet < 2 ^ 64
    → IsFolded up down
    (command_text (first_fetch + w.value.fetches) (codes "CSS.getStyleSheetText") (Some (fetch_params sheet)) (Some (string w.text)))
    (after_fetched s true sheet)
second-fetched up down s sheet w is stands room fits =
    let count = w.value.fetches in
    let id = first_fetch + count in
    let method = codes "CSS.getStyleSheetText" in
    let params = Some (fetch_params sheet) in
    let small : 2 ^ 30 + count < 2 ^ 53 = omega (arith, room) in
    let plain = fetch-command count sheet small fits in
    let c = in-session id method w.text params (attached-utf8 s.pair.top s.pair.two w stands is.second) plain in
    let letters = command-letters id method params (Some (string w.text)) c refl in
    record {
      letters = letters;
      fold = second-fetches up_reads up down (command_text id method params (Some (string w.text))) sheet s w is stands (record {
        letters = letters;
        text = command_text id method params None;
        way = asks-are-the-sessions id method params w.text c refl;
        asks = ap option_to_list (sent-fetch count sheet small fits);
      });
    }

-- ---- the one that is meant

-- where it stands, the second is there
pub second-there : (two : Option (Second FrontState (List ℕ))) → is_some two ≡ true → (w : Second FrontState (List ℕ)) × (two ≡ Some w)
second-there None e = let no : false ≡ true = e in absurd cc
second-there (Some w) e = (w, refl)

-- a second front end that stands has room where both have
second-room : (two : Option (Second FrontState (List ℕ))) (w : Second FrontState (List ℕ)) → two ≡ Some w
    → SecondHasRoom two → (w.value.next < 2 ^ 30) × (2 ^ 30 + w.value.fetches < 2 ^ 52)
second-room two w is room = subst SecondHasRoom is room

pub asked-folds : (second : Bool) (up down : List ℕ) (s : FrontsState) (a : AskForm) → IsFoldOfBoth up_reads up down s
    → is_there second s.pair ≡ true → CanSend a → may_ask_on second a ≡ true → HaveRoom s
    → IsFolded up down (ask_text second s.pair a.method a.params) (after_asked s second a.method)
asked-folds false up down s a is stands can may room = first-asked up down s a is can may room.0.0
asked-folds true up down s a is stands can may room =
    let w = second-there s.pair.two stands in
    by s.pair.two w.1 (second-asked up down s a w.0 is w.1 can may (second-room s.pair.two w.0 w.1 room.1).0)
  where
    by : (two : Option (Second FrontState (List ℕ))) {w : Second FrontState (List ℕ)} → two ≡ Some w
        → IsFolded up down (command_text w.value.next a.method a.params (Some (string w.text))) (after_asked s true a.method)
        → IsFolded up down (ask_text true (record s.pair { two = two }) a.method a.params) (after_asked s true a.method)
    by two {w} is folded =
        subst (λ o. IsFolded up down (ask_text true (record s.pair { two = o }) a.method a.params) (after_asked s true a.method)) (sym is)
        folded

pub fetched-folds : (second : Bool) (up down : List ℕ) (s : FrontsState) (sheet : ℕ) → IsFoldOfBoth up_reads up down s
    → is_there second s.pair ≡ true → sheet < 2 ^ 64 → HaveRoom s
    → IsFolded up down (fetch_text second s.pair sheet) (after_fetched s second sheet)
fetched-folds false up down s sheet is stands fits room = first-fetched up down s sheet is room.0.1 fits
fetched-folds true up down s sheet is stands fits room =
    let w = second-there s.pair.two stands in
    by s.pair.two w.1 (second-fetched up down s sheet w.0 is w.1 (second-room s.pair.two w.0 w.1 room.1).1 fits)
  where
    by : (two : Option (Second FrontState (List ℕ))) {w : Second FrontState (List ℕ)} → two ≡ Some w
        → IsFolded up down
        (command_text (first_fetch + w.value.fetches) (codes "CSS.getStyleSheetText") (Some (fetch_params sheet)) (Some (string w.text)))
        (after_fetched s true sheet)
        → IsFolded up down (fetch_text true (record s.pair { two = two }) sheet) (after_fetched s true sheet)
    by two {w} is folded =
        subst (λ o. IsFolded up down (fetch_text true (record s.pair { two = o }) sheet) (after_fetched s true sheet)) (sym is) folded

-- ---- the two commands

pub attach-folds : (up down : List ℕ) (s : FrontsState) → IsFoldOfBoth up_reads up down s → s.next < counted_limit
    → IsFolded up down (attach_text s.next) (after_target s attach)
attach-folds up down s is small =
    let counted : is_counted s.next ≡ true = lt-ltb s.next counted_limit small in
    let letters = command-letters s.next (codes "Target.attachToTarget") _ None (attach-command s.next counted) refl in
    record {
      letters = letters;
      fold = both-attach up_reads up down (attach_text s.next) s is letters
          (targets-are-known s.next 1 counted (omega arith, omega arith)).0;
    }

-- the parameters of a detach
abbrev detach_params : List ℕ → Data
detach_params t = object (member session_name (string t) no_members)

detach-any : (id : ℕ) (t : List ℕ) → is_counted id ≡ true → IsUtf8 t → IsCommand id detach_method (Some (detach_params t)) None
detach-any id t counted u = record {
  counted = counted;
  plain = refl;
  shallow = omega arith;
  utf8 = IsUtf8-compact_text (command_value id detach_method (Some (detach_params t)) None)
      (ask_plain id detach_method (Some (detach_params t)) None counted refl refl) (
        IsUtf8-are_ascii (codes "id") refl,
        tt,
        (
          IsUtf8-are_ascii (codes "method") refl,
          IsUtf8-are_ascii detach_method refl,
          (IsUtf8-are_ascii (codes "params") refl, (IsUtf8-are_ascii session_name refl, u, tt), tt),
        ),
      );
}

-- the request that a detach is
abbrev detach_request : List ℕ → ℕ → Option Request
detach_request t id = Some (record {
  id = id;
  method = detach_method;
  params = member session_name (string t) no_members;
  session =
      Missing;
})

detach-way : (id : ℕ) (t : List ℕ) → is_counted id ≡ true → IsUtf8 t → frame_way (detach_text id t) ≡ detaches id t
detach-way id t counted u =
    let c = detach-any id t counted u in
    let read : request_of (detach_text id t) ≡ detach_request t id =
    ap (λ o. option_and_then request_in (option_and_then as_object o)) (command-read id detach_method (Some (detach_params t)) None c refl)
    ∙ ap (λ o. if_is (field_if o) (detach_request t)) (whole-read id counted) in
    ap (way_by (detach_text id t)) read

pub detach-folds : (up down : List ℕ) (s : FrontsState) (w : Second FrontState (List ℕ)) → IsFoldOfBoth up_reads up down s
    → s.pair.two ≡ Some w → s.next < counted_limit → IsFolded up down (detach_text s.next w.text) (after_target s detach)
detach-folds up down s w is stands small =
    let counted : is_counted s.next ≡ true = lt-ltb s.next counted_limit small in
    let u = attached-utf8 s.pair.top s.pair.two w stands is.second in
    let c = detach-any s.next w.text counted u in
    let letters = command-letters s.next detach_method (Some (detach_params w.text)) None c refl in
    record {
      letters = letters;
      fold = both-detach up_reads up down (detach_text s.next w.text) w.text s is letters (detach-way s.next w.text counted u);
    }
