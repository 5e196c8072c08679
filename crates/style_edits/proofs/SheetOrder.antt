-- The ranges of a sheet stand one behind the other, each kind for itself.
use Rattle.std.proofs.Common.{◌≡◌, ℕ, ◌≤◌, All, List, [], ◌∷◌, map, length, sym, ap, subst, ◌∙◌, arith}
use Rattle.std.specs.Str.{IsUtf8}
use Rattle.std.proofs.lemmas.List.Elements.{All-head, All-tail}
use Rattle.css_tokens.specs.declared.token.Range.{Range}
use Rattle.selectors.specs.Ranges.{AreBetween}
use Rattle.sheet_reader.specs.declared.book.SheetEntry.{SheetEntry}
use Rattle.sheet_reader.specs.declared.sheet.MediaRule.{MediaRule}
use Rattle.sheet_reader.specs.declared.sheet.Sheet.{Sheet}
use Rattle.sheet_reader.specs.declared.sheet.StyleRule.{StyleRule}
use Rattle.sheet_reader.specs.Books.{IsEntry}
use Rattle.sheet_reader.specs.Forms.{range, RuleForm, rule_seen}
use Rattle.sheet_reader.specs.Sheets.{sheet_of}
use Rattle.sheet_reader.specs.Usable.{IsRuleOf, rule_range, AreEdgesBehind, AreEdges}
use Rattle.sheet_reader.proofs.UsableForms.{sheet_usable}
use Rattle.style_edits.specs.Drafts.{AreInOrder}
use Rattle.style_edits.proofs.LineForms.{bodies, preludes, media_preludes, empties, seen_bodies, seen_preludes}

bodies_behind : (text : List ℕ) (from to : ℕ) (rules : List RuleForm) → AreBetween text from to (map rule_range rules)
    → All (IsRuleOf text) rules → AreInOrder from (bodies rules)
bodies_behind text from to [] all each = tt
bodies_behind text from to (r ∷ rules) all each =
    let own = All-head (IsRuleOf text) r rules each in (
      omega (arith, all.0, own.prelude.order, own.behind),
      own.body.order,
      bodies_behind text r.body.end to rules all.2 (All-tail (IsRuleOf text) r rules each),
    )

preludes_behind : (text : List ℕ) (low from to : ℕ) (rules : List RuleForm) → low ≤ from → AreBetween text from to (map rule_range rules)
    → All (IsRuleOf text) rules → AreInOrder low (preludes rules)
preludes_behind text low from to [] first all each = tt
preludes_behind text low from to (r ∷ rules) first all each =
    let own = All-head (IsRuleOf text) r rules each in (
      omega (arith, first, all.0),
      own.prelude.order,
      preludes_behind text r.prelude.end r.body.end to rules (omega (arith, own.behind, own.body.order)) all.2
          (All-tail (IsRuleOf text) r rules each),
    )

between_behind : (text : List ℕ) (from to : ℕ) (rs : List Range) → AreBetween text from to rs → AreInOrder from rs
between_behind text from to [] all = tt
between_behind text from to (r ∷ rs) all = (all.0, all.1.order, between_behind text r.end to rs all.2)

edges_behind : (text : List ℕ) (place : ℕ) (edges : List ℕ) → AreEdgesBehind text place edges → AreInOrder place (empties edges)
edges_behind text place [] all = tt
edges_behind text place (edge ∷ edges) all = (omega (arith, all.0), omega arith, edges_behind text edge edges all.2)

edges_in_order : (text : List ℕ) (edges : List ℕ) → AreEdges text edges → AreInOrder 0 (empties edges)
edges_in_order text [] all = tt
edges_in_order text (edge ∷ edges) all = (omega arith, omega arith, edges_behind text edge edges all.1)

-- ---- as the code has them in an entry

pub bodies_in_order : (e : SheetEntry) (rules : List StyleRule) → IsEntry e → IsUtf8 e.text → map rule_seen rules ≡ e.reading.rules
    → AreInOrder 0 (map (λ r. r.body) rules)
bodies_in_order e rules own utf8 seen =
    let usable = sheet_usable e.text utf8 in
    subst (AreInOrder 0) (sym (seen_bodies rules ∙ ap bodies (seen ∙ ap (λ (s : Sheet). s.rules) own.read)))
    (bodies_behind e.text 0 (length e.text) (sheet_of e.text).rules usable.rules usable.each)

pub preludes_in_order : (e : SheetEntry) (rules : List StyleRule) → IsEntry e → IsUtf8 e.text → map rule_seen rules ≡ e.reading.rules
    → AreInOrder 0 (map (λ r. r.prelude) rules)
preludes_in_order e rules own utf8 seen =
    let usable = sheet_usable e.text utf8 in
    subst (AreInOrder 0) (sym (seen_preludes rules ∙ ap preludes (seen ∙ ap (λ (s : Sheet). s.rules) own.read)))
    (preludes_behind e.text 0 0 (length e.text) (sheet_of e.text).rules (omega arith) usable.rules usable.each)

pub places_in_order : (e : SheetEntry) (places : List ℕ) → IsEntry e → IsUtf8 e.text → places ≡ e.reading.places
    → AreInOrder 0 (map (λ p. range p p) places)
places_in_order e places own utf8 seen =
    subst (λ (ps : List ℕ). AreInOrder 0 (empties ps)) (sym (seen ∙ ap (λ (s : Sheet). s.places) own.read))
    (edges_in_order e.text (sheet_of e.text).places (sheet_usable e.text utf8).places)

pub media_in_order : (e : SheetEntry) (media : List MediaRule) → IsEntry e → IsUtf8 e.text → media ≡ e.reading.media
    → AreInOrder 0 (map (λ m. m.prelude) media)
media_in_order e media own utf8 seen =
    subst (λ (ms : List MediaRule). AreInOrder 0 (media_preludes ms)) (sym (seen ∙ ap (λ (s : Sheet). s.media) own.read))
    (between_behind e.text 0 (length e.text) (media_preludes (sheet_of e.text).media) (sheet_usable e.text utf8).media)
