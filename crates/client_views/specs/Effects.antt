-- What an Ok reply changes at the front end, beside the reply itself.
use Rattle.std.specs.Prelude.{ℕ, List, codes, cond, bytes_eq}
use Rattle.cdp_messages.specs.declared.down.ReplyBody.{ReplyBody}
use Rattle.cdp_messages.specs.Results.{Tale, no_result, document, sheet_text, new_styles, matched_styles, answer_alone, tale_of}
use Rattle.client_views.specs.declared.effects.Effect.{Effect}
use Rattle.client_views.specs.declared.effects.Effect.TheVariants.{Document, SheetText, AllOff, SheetsOff, NothingElse}

-- of a command without a result, by its method: the one ends all that is told, the other what is told of sheets
abbrev pub effect_of_method : List ℕ → Effect
effect_of_method method = cond (bytes_eq method (codes "DOM.disable")) AllOff
    (cond (bytes_eq method (codes "CSS.disable")) SheetsOff NothingElse)

-- of an Ok reply to that method, by what its result tells
abbrev pub effect_by : List ℕ → Tale → Effect
effect_by method no_result = effect_of_method method
effect_by method (document tree) = Document tree
effect_by method (sheet_text text) = SheetText text
effect_by method (new_styles styles) = NothingElse
effect_by method (matched_styles matched) = NothingElse
effect_by method answer_alone = NothingElse

-- of an Ok reply to that method, with this result
abbrev pub effect_of : List ℕ → ReplyBody → Effect
effect_of method body = effect_by method (tale_of body)
