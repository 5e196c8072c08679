-- The declarations of a body are those of its items.
use Rattle.std.proofs.Common.{◌≡◌, ℕ, List, [], ◌∷◌, ◌++◌, Some, refl, sym, ap, subst, ◌∙◌}
use Rattle.std.specs.Prelude.{option_to_list, true}
use Rattle.std.specs.List.{AllByRecursion}
use Rattle.css_tokens.specs.declared.token.Token.{Token}
use Rattle.css_tokens.specs.declared.token.TokenKind.{TokenKind}
use Rattle.css_tokens.specs.declared.token.TokenKind.TheVariants as tokens
use Rattle.css_tokens.specs.Pieces.{pieces}
use Rattle.css_tokens.proofs.TableForms.{cuts_whole}
use Rattle.selectors.proofs.Choices.{none_some}
use Rattle.sheet_reader.specs.declared.sheet.Property.{Property}
use Rattle.sheet_reader.specs.Declarations.{ItemForm, passed, at_rule, candidate, other, items_after, item_property, properties_in}
use Rattle.sheet_reader.specs.Declarations.{declarations, style_of}
use Rattle.sheet_reader.specs.Grammar.{is_ident_kind, IsBodyItem, passed_item, at_rule_item, candidate_item, other_item, AreItems}
use Rattle.sheet_reader.proofs.ItemForms.{items_spelled, items_only}
use Rattle.sheet_laws.specs.Said.{AreSaid}
use Rattle.sheet_laws.specs.Values.{ItemDeclares, declares, AreDeclarations}
use Rattle.sheet_laws.specs.Readings.{IsStyle}
use Rattle.sheet_reader.proofs.Cutting.{cuts_only}
use Rattle.sheet_laws.proofs.SaidLists.{listed, Tells, said_is, said_only}
use Rattle.sheet_laws.proofs.DeclarationCuts.{declaration_reads, declaration_spelled}

-- what may be a declaration begins with an ident
abbrev BeginsWell : List Token → Type 0
BeginsWell [] = ⊥
BeginsWell (t ∷ ts) = t.kind ≡ tokens.Ident

abbrev IsWellItem : ItemForm → Type 0
IsWellItem (candidate ts) = BeginsWell ts
IsWellItem (passed t) = Unit {0}
IsWellItem (at_rule p) = Unit {0}
IsWellItem (other ts) = Unit {0}

ident_is : (kind : TokenKind) → is_ident_kind kind ≡ true → kind ≡ tokens.Ident
ident_is tokens.Ident e = refl
ident_is _ e = absurd (cc)

item_well : (x : ItemForm) (rest : List Token) → IsBodyItem x rest → IsWellItem x
item_well _ rest (passed_item t e) = tt
item_well _ rest (at_rule_item _ _ _ _ _) = tt
item_well _ rest (candidate_item t ts e _ _) = ident_is t.kind e
item_well _ rest (other_item t ts a b c _ _) = tt

items_well : (xs : List ItemForm) (ts : List Token) → AreItems xs ts → AllByRecursion IsWellItem xs
items_well [] ts are = tt
items_well (x ∷ xs) ts are = (item_well x are.0 are.2, items_well xs are.0 are.3)

item_sound : (text : List ℕ) (x : ItemForm) (p : Property) → IsWellItem x → item_property text x ≡ Some p → ItemDeclares text x p
item_sound text (passed t) p well e = absurd (none_some p e)
item_sound text (at_rule q) p well e = absurd (none_some p e)
item_sound text (other ts) p well e = absurd (none_some p e)
item_sound text (candidate []) p well e = absurd well
item_sound text (candidate (t ∷ ts)) p well e = declares (declaration_spelled text t ts p well e)

item_whole : (text : List ℕ) (x : ItemForm) (p : Property) → ItemDeclares text x p → item_property text x ≡ Some p
item_whole text _ _ (declares {ts = ts} {p = p} d) = declaration_reads text ts p d

items_tell : (text : List ℕ) → Tells IsWellItem (ItemDeclares text) (item_property text)
items_tell text = record { sound = item_sound text; whole = item_whole text }

properties_listed : (text : List ℕ) (items : List ItemForm) → properties_in text items ≡ listed (item_property text) items
unfolding properties_in listed
properties_listed text [] = refl
properties_listed text (x ∷ xs) = ap (λ (ps : List Property). option_to_list (item_property text x) ++ ps) (properties_listed text xs)

pub body_spelled : (text : List ℕ) (body : List Token) → AreDeclarations text body (declarations text body)
body_spelled text body =
    let items = items_after 0 body in
    let are = items_spelled body in
    record {
      items = items;
      are_items = are;
      said = subst (AreSaid (ItemDeclares text) items) (sym (properties_listed text items))
          (said_is IsWellItem (ItemDeclares text) (item_property text) (items_tell text) items (items_well items body are));
    }

pub body_only : (text : List ℕ) (body : List Token) (ps : List Property) → AreDeclarations text body ps → ps ≡ declarations text body
body_only text body ps d =
    said_only IsWellItem (ItemDeclares text) (item_property text) (items_tell text) d.items ps (items_well d.items body d.are_items) d.said
    ∙ sym (properties_listed text d.items) ∙ ap (properties_in text) (items_only d.items body d.are_items)

pub style_spelled : (text : List ℕ) → IsStyle text (style_of text)
style_spelled text = record { tokens = pieces text; cut = cuts_whole text; declared = body_spelled text (pieces text) }

pub style_only : (text : List ℕ) (ps : List Property) → IsStyle text ps → ps ≡ style_of text
style_only text ps s = body_only text s.tokens ps s.declared ∙ ap (declarations text) (cuts_only text s.tokens s.cut)
