-- What holds of each act that is read.
use Rattle.std.proofs.Common.{◌≡◌, true, codes, Some, None, option_map, refl, subst}
use Rattle.serde_json.specs.Data.{Data}
use Rattle.cdp_json.specs.Lawful.{LawfulRow}
use Rattle.cdp_json.specs.Plain.{HasUtf8}
use Rattle.cdp_json.proofs.KindLaws.{whole_lawful, text_lawful, anything_lawful, only_text_lawful}
use Rattle.cdp_json.proofs.RowLaws.{ends_lawful, and_need_lawful}
use Rattle.cdp_json.proofs.ReadTexts.{IfSome, map_keeps}
use Rattle.page_tree.specs.Loads.{node_in}
use Rattle.page_tree.proofs.FormedLemmas.{form_formed}
use Rattle.page_forms.specs.declared.acts.Act.{Act}
use Rattle.page_forms.specs.declared.acts.Act.TheVariants.{Insert}
use Rattle.page_forms.specs.Acts.{fields_in, set_attr_row, set_attr_in, drop_attr_row, drop_attr_in, set_text_row, set_text_in, insert_row}
use Rattle.page_forms.specs.Acts.{insert_in, remove_row, remove_in, move_row, move_in, add_sheet_in, drop_sheet_in, replace_sheet_in}
use Rattle.page_forms.specs.Acts.{medium_act_in, act_in, IsInsertable}
use Rattle.page_forms.specs.SheetActs.{add_sheet_row, drop_sheet_row, replace_sheet_row}
use Rattle.page_forms.specs.Mediums.{medium_act_row}
use Rattle.page_forms.specs.Texts.{FormHasTexts, ActHasTexts, ActsHaveTexts}
use Rattle.page_forms.proofs.FieldTexts.{fields_utf8, if_read, if_mapped, either}
use Rattle.page_forms.proofs.NodeTexts.{form_utf8}
use Rattle.page_forms.proofs.PageLemmas.{origin_lawful}

-- ---- new nodes

insert_formed : (d : Data) → IfSome IsInsertable (insert_in d)
insert_formed d =
    if_read insert_row (fields_in insert_row d) IsInsertable (λ f. option_map (Insert f.1.1.1.0 f.0) (node_in f.1.1.0))
    (λ f is. if_mapped (node_in f.1.1.0) IsInsertable (Insert f.1.1.1.0 f.0) (λ form formed. form_formed f.1.1.0 true form formed))

-- the new nodes of an insert that is read have the form that an insert asks for
pub insert-insertable : (d : Data) (act : Act) → insert_in d ≡ Some act → IsInsertable act
insert-insertable d act is = subst (IfSome IsInsertable) is (insert_formed d)

act_formed : (d : Data) → IfSome IsInsertable (act_in d)
act_formed d =
    either IsInsertable (set_attr_in d) _ (if_mapped (fields_in set_attr_row d) IsInsertable _ (λ f is. tt))
    (either IsInsertable (drop_attr_in d) _ (if_mapped (fields_in drop_attr_row d) IsInsertable _ (λ f is. tt))
    (either IsInsertable (set_text_in d) _ (if_mapped (fields_in set_text_row d) IsInsertable _ (λ f is. tt))
    (either IsInsertable (insert_in d) _ (insert_formed d)
    (either IsInsertable (remove_in d) _ (if_mapped (fields_in remove_row d) IsInsertable _ (λ f is. tt))
    (either IsInsertable (move_in d) _ (if_mapped (fields_in move_row d) IsInsertable _ (λ f is. tt))
    (either IsInsertable (add_sheet_in d) _ (if_mapped (fields_in add_sheet_row d) IsInsertable _ (λ f is. tt))
    (either IsInsertable (drop_sheet_in d) _ (if_mapped (fields_in drop_sheet_row d) IsInsertable _ (λ f is. tt))
    (either IsInsertable (replace_sheet_in d) _ (if_mapped (fields_in replace_sheet_row d) IsInsertable _ (λ f is. tt))
    (either IsInsertable (medium_act_in d) None (if_mapped (fields_in medium_act_row d) IsInsertable _ (λ f is. tt)) tt)))))))))

-- so have those of any act
pub act-insertable : (d : Data) (act : Act) → act_in d ≡ Some act → IsInsertable act
act-insertable d act is = subst (IfSome IsInsertable) is (act_formed d)

-- ---- texts

set_attr_lawful : LawfulRow set_attr_row
set_attr_lawful =
    and_need_lawful (codes "do") (only_text_lawful _)
    (and_need_lawful (codes "name") text_lawful
    (and_need_lawful (codes "node") whole_lawful (and_need_lawful (codes "value") text_lawful ends_lawful refl) refl) refl) refl

drop_attr_lawful : LawfulRow drop_attr_row
drop_attr_lawful = and_need_lawful (codes "do") (only_text_lawful _)
    (and_need_lawful (codes "name") text_lawful (and_need_lawful (codes "node") whole_lawful ends_lawful refl) refl) refl

set_text_lawful : LawfulRow set_text_row
set_text_lawful = and_need_lawful (codes "do") (only_text_lawful _)
    (and_need_lawful (codes "node") whole_lawful (and_need_lawful (codes "value") text_lawful ends_lawful refl) refl) refl

insert_lawful : LawfulRow insert_row
insert_lawful =
    and_need_lawful (codes "before") whole_lawful
    (and_need_lawful (codes "do") (only_text_lawful _)
    (and_need_lawful (codes "node") anything_lawful (and_need_lawful (codes "parent") whole_lawful ends_lawful refl) refl) refl) refl

add_sheet_lawful : LawfulRow add_sheet_row
add_sheet_lawful = and_need_lawful (codes "do") (only_text_lawful _)
    (and_need_lawful (codes "origin") origin_lawful (and_need_lawful (codes "text") text_lawful ends_lawful refl) refl) refl

drop_sheet_lawful : LawfulRow drop_sheet_row
drop_sheet_lawful = and_need_lawful (codes "do") (only_text_lawful _) (and_need_lawful (codes "sheet") text_lawful ends_lawful refl) refl

replace_sheet_lawful : LawfulRow replace_sheet_row
replace_sheet_lawful = and_need_lawful (codes "do") (only_text_lawful _)
    (and_need_lawful (codes "sheet") text_lawful (and_need_lawful (codes "text") text_lawful ends_lawful refl) refl) refl

module _ (d : Data) (u : HasUtf8 d) where
  set_attr_texts : IfSome ActHasTexts (set_attr_in d)
  set_attr_texts = if_mapped (fields_in set_attr_row d) ActHasTexts _
      (λ f is. let t = fields_utf8 set_attr_row set_attr_lawful d u f is in (t.2.1, t.2.2.2.1))

  drop_attr_texts : IfSome ActHasTexts (drop_attr_in d)
  drop_attr_texts = if_mapped (fields_in drop_attr_row d) ActHasTexts _
      (λ f is. let t = fields_utf8 drop_attr_row drop_attr_lawful d u f is in t.2.1)

  set_text_texts : IfSome ActHasTexts (set_text_in d)
  set_text_texts = if_mapped (fields_in set_text_row d) ActHasTexts _
      (λ f is. let t = fields_utf8 set_text_row set_text_lawful d u f is in t.2.2.1)

  insert_texts : IfSome ActHasTexts (insert_in d)
  insert_texts =
      if_read insert_row (fields_in insert_row d) ActHasTexts (λ f. option_map (Insert f.1.1.1.0 f.0) (node_in f.1.1.0))
      (λ f is. let t = fields_utf8 insert_row insert_lawful d u f is in
      map_keeps FormHasTexts ActHasTexts (Insert f.1.1.1.0 f.0) (λ form v. v) (node_in f.1.1.0) (form_utf8 true f.1.1.0 t.2.2.1))

  add_sheet_texts : IfSome ActHasTexts (add_sheet_in d)
  add_sheet_texts = if_mapped (fields_in add_sheet_row d) ActHasTexts _
      (λ f is. let t = fields_utf8 add_sheet_row add_sheet_lawful d u f is in t.2.2.1)

  drop_sheet_texts : IfSome ActHasTexts (drop_sheet_in d)
  drop_sheet_texts = if_mapped (fields_in drop_sheet_row d) ActHasTexts _
      (λ f is. let t = fields_utf8 drop_sheet_row drop_sheet_lawful d u f is in t.2.1)

  replace_sheet_texts : IfSome ActHasTexts (replace_sheet_in d)
  replace_sheet_texts = if_mapped (fields_in replace_sheet_row d) ActHasTexts _
      (λ f is. let t = fields_utf8 replace_sheet_row replace_sheet_lawful d u f is in (t.2.1, t.2.2.1))

  act_texts : IfSome ActHasTexts (act_in d)
  act_texts =
      either ActHasTexts (set_attr_in d) _ set_attr_texts
      (either ActHasTexts (drop_attr_in d) _ drop_attr_texts
      (either ActHasTexts (set_text_in d) _ set_text_texts
      (either ActHasTexts (insert_in d) _ insert_texts
      (either ActHasTexts (remove_in d) _ (if_mapped (fields_in remove_row d) ActHasTexts _ (λ f is. tt))
      (either ActHasTexts (move_in d) _ (if_mapped (fields_in move_row d) ActHasTexts _ (λ f is. tt))
      (either ActHasTexts (add_sheet_in d) _ add_sheet_texts
      (either ActHasTexts (drop_sheet_in d) _ drop_sheet_texts
      (either ActHasTexts (replace_sheet_in d) _ replace_sheet_texts
      (either ActHasTexts (medium_act_in d) None (if_mapped (fields_in medium_act_row d) ActHasTexts _ (λ f is. tt)) tt)))))))))

pub acts_have_texts : ActsHaveTexts
acts_have_texts d act u is = subst (IfSome ActHasTexts) is (act_texts d u)
