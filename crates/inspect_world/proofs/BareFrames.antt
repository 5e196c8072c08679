-- A text that a raw line may send is a frame that names no ask.
use Rattle.std.proofs.Common.{◌≡◌, ◌≢◌, ℕ, ◌==◌, List, [], ◌∷◌, Bool, true, false, ◌||◌, codes, Option, Some, None, option_and_then, refl}
use Rattle.std.proofs.Common.{ap, ◌∙◌, Result, Err}
use Rattle.std.specs.List.{list_any}
use Rattle.std.specs.Option.{option_map_or}
use Rattle.std.proofs.lemmas.Bool.{eq-eqb}
use Rattle.std.proofs.lemmas.List.Elements.{All-nil, All-cons}
use Rattle.serde_json.specs.Data.{Data, null, boolean, number, string, array, object, unsigned, negative, float, Members}
use Rattle.serde_json.specs.Find.{get_member, as_str, as_object}
use Rattle.cdp_json.specs.Kinds.{as_whole}
use Rattle.cdp_json.specs.Fields.{field_if, field_from}
use Rattle.pipe_frames.specs.Frames.{IsText}
use Rattle.cdp_messages.specs.declared.command.Command.{Command}
use Rattle.cdp_messages.specs.declared.command.Why.{Why}
use Rattle.cdp_messages.specs.declared.command.Why.TheVariants.{NotJson, NoId}
use Rattle.cdp_messages.specs.Asked.{json_of, refusal, with_id, command_in, asked_value}
use Rattle.replay_script.specs.Faults.{is_zero, is_whole_number, has_whole_id, is_no_frame}
use Rattle.inspect_world.specs.Fits.{ask_of, ask_by, IsBare}

or_neither : (a b : Bool) → (a || b) ≡ false → (a ≡ false) × (b ≡ false)
or_neither true b e = absurd cc
or_neither false b e = (refl, e)

abbrev IsLetter : ℕ → Type 0
IsLetter byte = byte ≢ 0

no_zero : (text : List ℕ) → list_any is_zero text ≡ false → IsText text
no_zero [] e = All-nil IsLetter
no_zero (byte ∷ text) e =
    let p = or_neither (byte == 0) (list_any is_zero text) e in
    All-cons IsLetter byte text (λ zero. let both : true ≡ false = sym_is byte zero ∙ p.0 in cc) (no_zero text p.1)
  where
    sym_is : (b : ℕ) → b ≡ 0 → true ≡ (b == 0)
    sym_is b zero = rw (eq-eqb b 0 zero) refl

-- a value that is no whole number
not_whole : (d : Data) → is_whole_number d ≡ false → as_whole d ≡ None
not_whole null e = refl
not_whole (boolean b) e = refl
not_whole (number (unsigned m)) e = absurd cc
not_whole (number (negative z)) e = absurd cc
not_whole (number (float x)) e = refl
not_whole (string s) e = refl
not_whole (array ds) e = refl
not_whole (object ms) e = refl

-- an object without a whole id
bare_id : (o : Option Data) (command : Result Command Why) → option_map_or is_whole_number o false ≡ false
    → (option_and_then as_whole o ≡ None) × (with_id (field_from as_whole o) command ≡ Err (refusal None NoId))
bare_id None command e = (refl, refl)
bare_id (Some d) command e = let none = not_whole d e in (none, ap (λ r. with_id (field_if r) command) none)

record IsBareValue (o : Option Data) : Type 0 where
  no_ask : option_and_then ask_of (option_and_then as_object o) ≡ None
  why : Why
  refused : asked_value false o ≡ Err (refusal None why)

bare_object : (frame : Members) → option_map_or is_whole_number (get_member (codes "id") frame) false ≡ false
    → IsBareValue (Some (object frame))
bare_object frame e =
    let p = bare_id (get_member (codes "id") frame) (command_in false frame) e in
    record {
      no_ask = ap (option_and_then (λ id. option_and_then (λ (method : List ℕ). Some (ask_by frame id method))
          (option_and_then as_str (get_member (codes "method") frame)))) p.0;
      why = NoId;
      refused = p.1;
    }

bare_value : (o : Option Data) → option_map_or has_whole_id o false ≡ false → IsBareValue o
bare_value None e = record { no_ask = refl; why = NotJson; refused = refl }
bare_value (Some null) e = record { no_ask = refl; why = NoId; refused = refl }
bare_value (Some (boolean b)) e = record { no_ask = refl; why = NoId; refused = refl }
bare_value (Some (number n)) e = record { no_ask = refl; why = NoId; refused = refl }
bare_value (Some (string s)) e = record { no_ask = refl; why = NoId; refused = refl }
bare_value (Some (array ds)) e = record { no_ask = refl; why = NoId; refused = refl }
bare_value (Some (object frame)) e = bare_object frame e

pub raw_is_frame : (text : List ℕ) → is_no_frame text ≡ false → IsText text × IsBare text
raw_is_frame text e =
    let p = or_neither (list_any is_zero text) (option_map_or has_whole_id (json_of text) false) e in
    let b : IsBareValue (json_of text) = bare_value (json_of text) p.1 in
    (no_zero text p.0, record { no_ask = b.no_ask; why = b.why; refused = b.refused })
