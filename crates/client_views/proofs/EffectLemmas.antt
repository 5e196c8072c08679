-- What changes nothing else: most results, and the method of a command without one.
use Rattle.std.proofs.Common.{◌≡◌, ℕ, List, Bool, cond, codes, bytes_eq, refl, ap, ◌∙◌}
use Rattle.node_tree.specs.Nodes.{Branch}
use Rattle.dom_objects.specs.Told.{Told}
use Rattle.cdp_messages.specs.declared.down.ReplyBody.{ReplyBody}
use Rattle.cdp_messages.specs.declared.down.ReplyBody.TheVariants.{Nothing, Root, SheetText}
use Rattle.cdp_messages.specs.Results.{Tale, no_result, document, sheet_text, new_styles, matched_styles, answer_alone, tale_of}
use Rattle.cdp_messages.proofs.Results.{IsTaleOf, tale_is}
use Rattle.cdp_messages.proofs.Commands.{EndsNothing}
use Rattle.client_views.specs.declared.effects.Effect.TheVariants.{AllOff, SheetsOff, NothingElse}
use Rattle.client_views.specs.Effects.{effect_by, effect_of, effect_of_method}

-- a result that tells neither a document nor the text of a sheet
pub nothing-else : (method : List ℕ) (b : ReplyBody) → (b ≡ Nothing → ⊥) → ((tree : Branch Told) → b ≡ Root tree → ⊥)
    → ((text : List ℕ) → b ≡ SheetText text → ⊥) → NothingElse ≡ effect_of method b
nothing-else method b not_empty not_root not_text = at (tale_of b) (tale_is b) where
  at : (t : Tale) → IsTaleOf b t → NothingElse ≡ effect_by method t
  at no_result e = absurd (not_empty e)
  at (document tree) e = absurd (not_root tree e)
  at (sheet_text text) e = absurd (not_text text e)
  at (new_styles styles) e = refl
  at (matched_styles matched) e = refl
  at answer_alone e = refl

-- a command that does not end what is told
pub ends-nothing : (method : List ℕ) → EndsNothing method → effect_of_method method ≡ NothingElse
ends-nothing method other =
    ap (λ (b : Bool). cond b AllOff (cond (bytes_eq method (codes "CSS.disable")) SheetsOff NothingElse)) other.0
    ∙ ap (λ (b : Bool). cond b SheetsOff NothingElse) other.1
