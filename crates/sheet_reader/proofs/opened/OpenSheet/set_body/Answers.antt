use Rattle.std.proofs.Common.{◌≡◌, ◌+◌, ℕ, List, All, length, take, drop, refl, ap, subst, sym, ◌∙◌, append_assoc}
use Rattle.std.specs.Prelude.{string_bytes, slice_get, IsSomeAnd}
use Rattle.std.specs.Str.{IsUtf8, IsCharBoundary}
use Rattle.selectors.specs.Moves.{cut}
use Rattle.selectors.specs.Ranges.{IsRangeOf}
use Rattle.sheet_reader.specs.declared.book.SheetEntry.{SheetEntry}
use Rattle.sheet_reader.specs.declared.sheet.Property.{Property}
use Rattle.sheet_reader.specs.Books.{IsStored}
use Rattle.sheet_reader.specs.Declarations.{style_of}
use Rattle.sheet_reader.specs.Forms.{RuleForm, range}
use Rattle.sheet_reader.specs.Moves.{moved_rules, replaced, IsPropertyWithin}
use Rattle.sheet_reader.specs.Opened.{entry_with, reading_with}
use Rattle.sheet_reader.specs.Rereads.{HasBody, retold}
use Rattle.sheet_reader.proofs.OpenedForms.{set_asks, set_is}
use Rattle.sheet_reader.proofs.opened.OpenSheet.set_body.Goals as goal

pub replace-requires : goal.replace-requires
replace-requires c = subst (λ (x : SheetEntry). IsRangeOf x.text c.args.body) (sym c.self.view_is) c.requires.range

pub rebody-requires-clause-there : goal.rebody-requires-clause-there
rebody-requires-clause-there c =
    let v = entry_with c.self.inside.id c.self.inside.origin c.self.inside.text
    (reading_with c.self.inside.rules c.self.inside.places c.self.inside.media) in
    let put = c.args.put.now in
    let body = c.args.body in
    let is : c.replace.new.self ≡ replaced v.text body put = c.in_ok-replace.ensures.ok in
    let set = set_asks v c.args.self.now put c.replace.new.self (length put) c.args.rule body c.self.view_is
    c.self.invariant c.requires.rule c.requires.sealed c.requires.short refl is
    (subst IsUtf8 c.as_str-new.ensures c.as_str-new.utf8) in
    set.there

pub rebody-requires-clause-can : goal.rebody-requires-clause-can
rebody-requires-clause-can c =
    let v = entry_with c.self.inside.id c.self.inside.origin c.self.inside.text
    (reading_with c.self.inside.rules c.self.inside.places c.self.inside.media) in
    let put = c.args.put.now in
    let body = c.args.body in
    let is : c.replace.new.self ≡ replaced v.text body put = c.in_ok-replace.ensures.ok in
    let set = set_asks v c.args.self.now put c.replace.new.self (length put) c.args.rule body c.self.view_is
    c.self.invariant c.requires.rule c.requires.sealed c.requires.short refl is
    (subst IsUtf8 c.as_str-new.ensures c.as_str-new.utf8) in
    set.can

pub rebody-requires-clause-within : goal.rebody-requires-clause-within
rebody-requires-clause-within c =
    let v = entry_with c.self.inside.id c.self.inside.origin c.self.inside.text
    (reading_with c.self.inside.rules c.self.inside.places c.self.inside.media) in
    let put = c.args.put.now in
    let body = c.args.body in
    let is : c.replace.new.self ≡ replaced v.text body put = c.in_ok-replace.ensures.ok in
    let set = set_asks v c.args.self.now put c.replace.new.self (length put) c.args.rule body c.self.view_is
    c.self.invariant c.requires.rule c.requires.sealed c.requires.short refl is
    (subst IsUtf8 c.as_str-new.ensures c.as_str-new.utf8) in
    subst (All (IsPropertyWithin (length put))) (sym (c.new.ensures ∙ c.requires.read)) set.within

pub move_behind-requires : goal.move_behind-requires
move_behind-requires c =
    let v = entry_with c.self.inside.id c.self.inside.origin c.self.inside.text
    (reading_with c.self.inside.rules c.self.inside.places c.self.inside.media) in
    let put = c.args.put.now in
    let body = c.args.body in
    let is : c.replace.new.self ≡ replaced v.text body put = c.in_ok-replace.ensures.ok in
    let set = set_asks v c.args.self.now put c.replace.new.self (length put) c.args.rule body c.self.view_is
    c.self.invariant c.requires.rule c.requires.sealed c.requires.short refl is
    (subst IsUtf8 c.as_str-new.ensures c.as_str-new.utf8) in
    set.places

pub move_behind-requires-2 : goal.move_behind-requires-2
move_behind-requires-2 c =
    let v = entry_with c.self.inside.id c.self.inside.origin c.self.inside.text
    (reading_with c.self.inside.rules c.self.inside.places c.self.inside.media) in
    let put = c.args.put.now in
    let body = c.args.body in
    let is : c.replace.new.self ≡ replaced v.text body put = c.in_ok-replace.ensures.ok in
    let set = set_asks v c.args.self.now put c.replace.new.self (length put) c.args.rule body c.self.view_is
    c.self.invariant c.requires.rule c.requires.sealed c.requires.short refl is
    (subst IsUtf8 c.as_str-new.ensures c.as_str-new.utf8) in
    set.media

pub invariant_of-self : goal.invariant_of-self
invariant_of-self c =
    subst (λ (text : List ℕ). IsStored (entry_with c.self.inside.id c.self.inside.origin text
    (reading_with c.self.inside.rules c.self.inside.places c.self.inside.media))) (sym c.in_err-replace.ensures.err)
    c.self.invariant

pub invariant_of-self-2 : goal.invariant_of-self-2
invariant_of-self-2 c =
    let v = entry_with c.self.inside.id c.self.inside.origin c.self.inside.text
    (reading_with c.self.inside.rules c.self.inside.places c.self.inside.media) in
    let put = c.args.put.now in
    let body = c.args.body in
    let is : c.replace.new.self ≡ replaced v.text body put = c.in_ok-replace.ensures.ok in
    let set = set_asks v c.args.self.now put c.replace.new.self (length put) c.args.rule body c.self.view_is
    c.self.invariant c.requires.rule c.requires.sealed c.requires.short refl is
    (subst IsUtf8 c.as_str-new.ensures c.as_str-new.utf8) in
    let properties : c.new.result ≡ style_of put = c.new.ensures ∙ c.requires.read in
    let rules : c.rebody.new.self ≡ moved_rules (cut body.start body.end (length put)) (style_of put) c.args.rule v.reading.rules =
    c.rebody.ensures ∙ ap (λ (ps : List Property). moved_rules (cut body.start body.end (length put)) ps c.args.rule v.reading.rules)
    properties in
    subst IsStored (sym (set_is v c.args.rule (cut body.start body.end (length put)) put (replaced v.text body put)
    c.replace.new.self c.rebody.new.self c.move_behind.new.self c.move_behind-2.new.self set is rules
    c.move_behind.ensures.moved c.move_behind-2.ensures.moved)) set.stored

pub returns-clause-set : goal.returns-clause-set
returns-clause-set c =
    let v = entry_with c.self.inside.id c.self.inside.origin c.self.inside.text
    (reading_with c.self.inside.rules c.self.inside.places c.self.inside.media) in
    let put = c.args.put.now in
    let body = c.args.body in
    let is : c.replace.new.self ≡ replaced v.text body put = c.in_ok-replace.ensures.ok in
    let set = set_asks v c.args.self.now put c.replace.new.self (length put) c.args.rule body c.self.view_is
    c.self.invariant c.requires.rule c.requires.sealed c.requires.short refl is
    (subst IsUtf8 c.as_str-new.ensures c.as_str-new.utf8) in
    let properties : c.new.result ≡ style_of put = c.new.ensures ∙ c.requires.read in
    let rules : c.rebody.new.self ≡ moved_rules (cut body.start body.end (length put)) (style_of put) c.args.rule v.reading.rules =
    c.rebody.ensures ∙ ap (λ (ps : List Property). moved_rules (cut body.start body.end (length put)) ps c.args.rule v.reading.rules)
    properties in
    set_is v c.args.rule (cut body.start body.end (length put)) put (replaced v.text body put)
    c.replace.new.self c.rebody.new.self c.move_behind.new.self c.move_behind-2.new.self set is rules
    c.move_behind.ensures.moved c.move_behind-2.ensures.moved
    ∙ ap (λ (x : SheetEntry). retold (replaced x.text body put) x) c.self.view_is

pub returns-clause-rule : goal.returns-clause-rule
returns-clause-rule c =
    let v = entry_with c.self.inside.id c.self.inside.origin c.self.inside.text
    (reading_with c.self.inside.rules c.self.inside.places c.self.inside.media) in
    let put = c.args.put.now in
    let body = c.args.body in
    let is : c.replace.new.self ≡ replaced v.text body put = c.in_ok-replace.ensures.ok in
    let set = set_asks v c.args.self.now put c.replace.new.self (length put) c.args.rule body c.self.view_is
    c.self.invariant c.requires.rule c.requires.sealed c.requires.short refl is
    (subst IsUtf8 c.as_str-new.ensures c.as_str-new.utf8) in
    let properties : c.new.result ≡ style_of put = c.new.ensures ∙ c.requires.read in
    let rules : c.rebody.new.self ≡ moved_rules (cut body.start body.end (length put)) (style_of put) c.args.rule v.reading.rules =
    c.rebody.ensures ∙ ap (λ (ps : List Property). moved_rules (cut body.start body.end (length put)) ps c.args.rule v.reading.rules)
    properties in
    subst (λ (rs : List RuleForm). IsSomeAnd (slice_get rs c.args.rule) (HasBody (range body.start (body.start + length put)))) (sym rules)
    set.own
