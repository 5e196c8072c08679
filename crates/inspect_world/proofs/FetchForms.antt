-- The frame of a fetch is a text, and is the ask of the sheet that it fetches.
use Rattle.std.proofs.Common.{◌≡◌, ℕ, ◌+◌, ◌^◌, ◌<◌, ◌≤◌, true, false, cond, nat_lt, [], ◌∷◌, codes, Some, None}
use Rattle.std.proofs.Common.{option_and_then, Ok, refl, ◌∙◌, ap, arith, lt-ltb}
use Rattle.std.specs.Prelude.{bytes_eq, decimal, IsUtf8, if◌then◌else◌}
use Rattle.std.specs.Str.Parse.{digits_value}
use Rattle.std.proofs.lemmas.Fmt.{decimal_is_IsNumeral, IsAscii-decimal}
use Rattle.std.proofs.lemmas.Str.{IsUtf8-from_ascii, IsUtf8-append}
use Rattle.std.proofs.lemmas.Bool.{le-ltb}
use Rattle.std.proofs.lemmas.Slice.Eq.{bytes_eq-Decides}
use Rattle.json.proofs.Printed.Utf8.{IsUtf8-are_ascii}
use Rattle.serde_json.specs.Data.{Data, depth}
use Rattle.serde_json.specs.Find.{as_object}
use Rattle.serde_json.specs.Read.{max_depth}
use Rattle.cdp_json.specs.Kinds.{is_counted}
use Rattle.cdp_json.specs.Plain.{is_plain, HasUtf8}
use Rattle.cdp_json.proofs.ReadBack.{IsUtf8-compact_text}
use Rattle.css_objects.specs.Sheets.{sheet_text}
use Rattle.pipe_frames.specs.Frames.{IsText}
use Rattle.cdp_messages.specs.declared.command.Command.TheVariants.{AskCss}
use Rattle.cdp_messages.specs.declared.css_ask.CssAsk.TheVariants as css
use Rattle.cdp_messages.specs.Asked.{command_value, command_text, asked_value, asked}
use Rattle.cdp_messages.proofs.Commands.{ask_plain}
use Rattle.cdp_messages.proofs.Messages.{json_of-compact_text}
use Rattle.cdp_messages.proofs.ZeroFree.{texts_have_no_zero}
use Rattle.front_mirror.specs.Front.{fetch_ask, fetch_params}
use Rattle.inspect_world.specs.World.{Spent, one_fetch}
use Rattle.inspect_world.specs.Fits.{sheet_told, sheet_asked, ask_of, ask_of_frame, most_fetches, IsNext, next_fetch}
use Rattle.inspect_world.specs.FreshRuns.{front_fetcher}

-- the value of a fetch, by its id
abbrev pub fetch_value : ℕ → ℕ → Data
fetch_value id sheet = command_value id (codes "CSS.getStyleSheetText") (Some (fetch_params sheet)) None

pub fetch-plain : (id sheet : ℕ) → is_counted id ≡ true → is_plain (fetch_value id sheet) ≡ true
fetch-plain id sheet small = ask_plain id (codes "CSS.getStyleSheetText") (Some (fetch_params sheet)) None small refl refl

told-utf8 : (sheet : ℕ) → sheet < 2 ^ 64 → IsUtf8 (sheet_text sheet)
told-utf8 sheet fits = IsUtf8-append (115 ∷ []) (decimal sheet) (IsUtf8-are_ascii (115 ∷ []) refl)
    (IsUtf8-from_ascii (decimal sheet) (IsAscii-decimal sheet fits))

pub fetch-utf8 : (id sheet : ℕ) → sheet < 2 ^ 64 → HasUtf8 (fetch_value id sheet)
fetch-utf8 id sheet fits = (
  IsUtf8-are_ascii (codes "id") refl,
  tt,
  (
    IsUtf8-are_ascii (codes "method") refl,
    IsUtf8-are_ascii (codes "CSS.getStyleSheetText") refl,
    (IsUtf8-are_ascii (codes "params") refl, (IsUtf8-are_ascii (codes "styleSheetId") refl, told-utf8 sheet fits, tt), tt),
  ),
)

pub fetch-shallow : (id sheet : ℕ) → depth (fetch_value id sheet) ≤ max_depth
fetch-shallow id sheet = omega arith

pub fetch-text : (id sheet : ℕ) → id < 2 ^ 53 → IsText (command_text id (codes "CSS.getStyleSheetText") (Some (fetch_params sheet)) None)
fetch-text id sheet small = texts_have_no_zero (fetch_value id sheet) (fetch-plain id sheet (lt-ltb id (2 ^ 53) small))

-- the sheet that it names
told-is : (sheet : ℕ) → sheet < 2 ^ 64 → sheet_told (sheet_text sheet) ≡ Some sheet
told-is sheet fits =
    let value : digits_value 10 (decimal sheet) ≡ sheet = (decimal_is_IsNumeral sheet fits).1 in
    ap (λ m. if bytes_eq (sheet_text m) (sheet_text sheet) then Some m else None) value
    ∙ ap (λ b. if b then Some sheet else None) ((bytes_eq-Decides (sheet_text sheet) (sheet_text sheet)).1 refl)

sheet-is : (id sheet : ℕ) → sheet < 2 ^ 64 → nat_lt id (2 ^ 30) ≡ false
    → sheet_asked id (codes "CSS.getStyleSheetText") (Some (fetch_params sheet)) ≡ Some sheet
sheet-is id sheet fits high = ap (λ low. cond low None (sheet_told (sheet_text sheet))) high ∙ told-is sheet fits

value_fetch : (id sheet : ℕ) → is_counted id ≡ true
    → option_and_then ask_of (option_and_then as_object (Some (fetch_value id sheet)))
    ≡ Some (record {
      id = id;
      method = codes "CSS.getStyleSheetText";
      sheet = sheet_asked id (codes "CSS.getStyleSheetText") (Some (fetch_params sheet));
    })
value_fetch id sheet small = rw small

-- it is the ask of that sheet
fetch-asks : (id sheet : ℕ) → sheet < 2 ^ 64 → id < 2 ^ 53 → nat_lt id (2 ^ 30) ≡ false
    → ask_of_frame (command_text id (codes "CSS.getStyleSheetText") (Some (fetch_params sheet)) None)
    ≡ Some (record { id = id; method = codes "CSS.getStyleSheetText"; sheet = Some sheet })
fetch-asks id sheet fits small high =
    let c : is_counted id ≡ true = lt-ltb id (2 ^ 53) small in
    ap (λ o. option_and_then ask_of (option_and_then as_object o))
    (json_of-compact_text (fetch_value id sheet) (fetch-plain id sheet c) (fetch-shallow id sheet)
    (IsUtf8-compact_text (fetch_value id sheet) (fetch-plain id sheet c) (fetch-utf8 id sheet fits)))
    ∙ value_fetch id sheet c
    ∙ ap (λ found. Some (record { id = id; method = codes "CSS.getStyleSheetText"; sheet = found })) (sheet-is id sheet fits high)

-- ids from 2^30 on are no asks' of a script
high-id : (count : ℕ) → nat_lt (2 ^ 30 + count) (2 ^ 30) ≡ false
high-id count = le-ltb (2 ^ 30 + count) (2 ^ 30) (omega arith)

-- the id of a fetch, where fewer than most were sent
fetch-small : (count : ℕ) → count + 1 ≤ most_fetches → 2 ^ 30 + count < 2 ^ 53
fetch-small count few = omega (arith, few)

pub fetcher-text : (count sheet : ℕ) → count + 1 ≤ most_fetches → IsText (front_fetcher.text count sheet)
fetcher-text count sheet few = fetch-text (2 ^ 30 + count) sheet (fetch-small count few)

pub sent-fetch : (count sheet : ℕ) → 2 ^ 30 + count < 2 ^ 53 → sheet < 2 ^ 64
    → ask_of_frame (front_fetcher.text count sheet) ≡ Some (fetch_ask count sheet)
sent-fetch count sheet small fits = fetch-asks (2 ^ 30 + count) sheet fits small (high-id count)

pub fetcher-asks : (count sheet : ℕ) → count + 1 ≤ most_fetches → sheet < 2 ^ 64
    → ask_of_frame (front_fetcher.text count sheet) ≡ Some (fetch_ask count sheet)
fetcher-asks count sheet few fits = sent-fetch count sheet (fetch-small count few) fits

-- what the back end reads in a fetch
value_asked : (id sheet : ℕ) → is_counted id ≡ true
    → asked_value false (Some (fetch_value id sheet)) ≡ Ok (record { id = id; command = AskCss (css.GetStyleSheetText (sheet_text sheet)) })
value_asked id sheet small = rw small

pub fetcher-asked : (count sheet : ℕ) → count + 1 ≤ most_fetches → sheet < 2 ^ 64
    → asked (front_fetcher.text count sheet) false
    ≡ Ok (record { id = 2 ^ 30 + count; command = AskCss (css.GetStyleSheetText (sheet_text sheet)) })
fetcher-asked count sheet few fits =
    let id : ℕ = 2 ^ 30 + count in
    let c : is_counted id ≡ true = lt-ltb id (2 ^ 53) (fetch-small count few) in
    ap (asked_value false)
    (json_of-compact_text (fetch_value id sheet) (fetch-plain id sheet c) (fetch-shallow id sheet)
    (IsUtf8-compact_text (fetch_value id sheet) (fetch-plain id sheet c) (fetch-utf8 id sheet fits)))
    ∙ value_asked id sheet c

pub fetcher-next : (n : Spent) (sheet : ℕ) → n.fetches + 1 ≤ most_fetches → sheet < 2 ^ 64
    → IsNext n (front_fetcher.text n.fetches sheet) (one_fetch n)
fetcher-next n sheet few fits = next_fetch sheet (fetcher-asks n.fetches sheet few fits) few
