-- The page of a drill may be loaded.
use Rattle.std.proofs.Common.{◌≡◌, ℕ, zero, suc, ◌+◌, ◌*◌, ◌<◌, ◌≤◌, ◌==◌, ◌%◌, ◌^◌, ◌&&◌, Bool, true}
use Rattle.std.proofs.Common.{false, cond, List, [], ◌∷◌, ◌++◌, length}
use Rattle.std.proofs.Common.{codes, decimal, refl, sym, ap, ◌∙◌, subst, arith, append-nil}
use Rattle.std.specs.Prelude.{IsUtf8, nat_le, ◌-◌}
use Rattle.std.proofs.lemmas.Bool.Decides.{nat_tests}
use Rattle.std.proofs.lemmas.List.Elements.{All-from_recursion}
use Rattle.std.proofs.lemmas.Fmt.{IsAscii-decimal, length-decimal-le}
use Rattle.std.proofs.lemmas.Str.{IsUtf8-append, IsUtf8-from_ascii}
use Rattle.std.proofs.lemmas.List.{length-append}
use Rattle.json.proofs.Printed.Utf8.{IsUtf8-are_ascii}
use Rattle.node_tree.specs.Nodes.{Nodes, node}
use Rattle.node_tree.specs.Labels.{Label, LabelHasUtf8}
use Rattle.media_rules.specs.declared.medium.Medium.{Medium}
use Rattle.page_forms.specs.Mediums.{usual_medium}
use Rattle.page_forms.specs.Pages.{LoadedPage, CanLoadPage}
use Rattle.page_forms.specs.declared.sheets.SheetForm.{SheetForm}
use Rattle.page_forms.specs.Texts.{HaveTexts, PageHasTexts}
use Rattle.node_tree.specs.declared.origins.Origin.TheVariants.{Regular}
use Rattle.drill_script.specs.declared.divs.Div.{Div}
use Rattle.drill_script.specs.Divs.{page_divs}
use Rattle.drill_script.specs.DrillNodes.{element, div_label, below, drill_nodes}
use Rattle.drill_script.specs.DrillPages.{rule_line, rule_lines, all_rules, drill_sheet, drill_page}
use Rattle.drill_script.proofs.NodeLaws.{nodes-load, AreDigits, page-digits, numbered-utf8}

-- ---- the sheet

digits-short : (n : ℕ) → n < 2 ^ 64 → length (decimal n) ≤ 20
digits-short n h = length-decimal-le 20 n (omega arith) (omega arith) h

rule-short : (r : ℕ) → r < 2 ^ 64 → length (rule_line r) ≤ 200
rule-short r h =
    simp length-append (omega (arith, digits-short (r % 8) (omega arith), digits-short (r % 5 + 1) (omega arith), digits-short r h))

rule-utf8 : (r : ℕ) → r < 2 ^ 64 → IsUtf8 (rule_line r)
rule-utf8 r h =
    let class = numbered-utf8 (codes ".k") (r % 8) (IsUtf8-are_ascii (codes ".k") refl) (omega arith) in
    let child = numbered-utf8 (codes ".k" ++ decimal (r % 8) ++ codes ">div:nth-child(") (r % 5 + 1)
    (IsUtf8-append _ (codes ">div:nth-child(") class (IsUtf8-are_ascii (codes ">div:nth-child(") refl)) (omega arith) in
    let name = numbered-utf8 _ r (IsUtf8-append _ (codes "n){p") child (IsUtf8-are_ascii (codes "n){p") refl)) h in
    let value = numbered-utf8 _ r (IsUtf8-append _ (codes ":v") name (IsUtf8-are_ascii (codes ":v") refl)) h in
    IsUtf8-append _ (10 ∷ []) (IsUtf8-append _ (codes "}") value (IsUtf8-are_ascii (codes "}") refl)) (IsUtf8-are_ascii (10 ∷ []) refl)

lines-short : (n r : ℕ) → n + r ≤ 1000 → length (rule_lines n r) ≤ 200 * n
lines-short zero r h = omega arith
lines-short (suc n) r h =
    let one = rule-short r (omega arith) in
    let others = lines-short n (r + 1) (omega arith) in
    omega (arith, length-append (rule_line r) (rule_lines n (r + 1)))

lines-utf8 : (n r : ℕ) → n + r ≤ 1000 → IsUtf8 (rule_lines n r)
lines-utf8 zero r h = IsUtf8-are_ascii [] refl
lines-utf8 (suc n) r h = IsUtf8-append (rule_line r) (rule_lines n (r + 1)) (rule-utf8 r (omega arith)) (lines-utf8 n (r + 1) (omega arith))

sheet-short : length drill_sheet ≤ 200 * all_rules
unfolding drill_sheet
sheet-short = lines-short all_rules 0 (omega arith)

sheet-utf8 : IsUtf8 drill_sheet
unfolding drill_sheet
sheet-utf8 = lines-utf8 all_rules 0 (omega arith)

-- the sheet of this text
abbrev pub sheet-of : List ℕ → SheetForm
sheet-of text = record { origin = Regular; text = text }

-- behind the last line
pub sheet-end : (text : List ℕ) (n : ℕ) → all_rules ≤ n → text ++ rule_lines (all_rules - n) n ≡ rule_lines all_rules 0 → text ≡ drill_sheet
unfolding drill_sheet
sheet-end text n done h =
    let left : all_rules - n ≡ 0 = omega arith in
    sym (append-nil text) ∙ sym (ap (λ k. text ++ rule_lines k n) left) ∙ h

-- ---- the nodes

label-utf8 : (k : ℕ) → k < 8 → LabelHasUtf8 (div_label k)
label-utf8 k h = (
  IsUtf8-are_ascii (codes "div") refl,
  IsUtf8-are_ascii [] refl,
  (IsUtf8-are_ascii (codes "class") refl, numbered-utf8 (codes "k") k (IsUtf8-are_ascii (codes "k") refl) (omega arith), tt),
)

texts-step : (d : Div) (ds : List Div) (j : ℕ) (t : Bool) → d.digit < 8 → HaveTexts (below d.number ds) → HaveTexts (below j ds)
    → HaveTexts (cond t (node (div_label d.digit) (below d.number ds) (below j ds)) (below j ds))
texts-step d ds j true h c t = (label-utf8 d.digit h, c, t)
texts-step d ds j false h c t = t

below-texts : (j : ℕ) (divs : List Div) → AreDigits divs → HaveTexts (below j divs)
below-texts j [] r = tt
below-texts j (d ∷ ds) r = texts-step d ds j (d.up == j) r.0 (below-texts d.number ds r.1) (below-texts j ds r.1)

plain-utf8 : (name : List ℕ) → IsUtf8 name → LabelHasUtf8 (element name [])
plain-utf8 name u = (u, IsUtf8-are_ascii [] refl, tt)

-- ---- the page

-- a page may hold what a drill loads
pub page-load : (n : ℕ) → n ≤ 50000 → CanLoadPage (drill_page n)
page-load n h = record { nodes = nodes-load n h; sheets = holds (length drill_sheet) sheet-short } where
  holds : (k : ℕ) → k ≤ 200 * all_rules → (nat_le 1 1000 && (nat_le k 16777216 && true)) ≡ true
  holds k h = grind (arith, nat_tests)

-- and its texts are UTF-8
pub page-texts : (n : ℕ) → PageHasTexts (drill_page n)
page-texts n = record {
  nodes = (
    plain-utf8 (codes "html") (IsUtf8-are_ascii (codes "html") refl),
    (plain-utf8 (codes "body") (IsUtf8-are_ascii (codes "body") refl), below-texts 0 (page_divs n) (page-digits n), tt),
    tt,
  );
  sheets = All-from_recursion (λ (s : SheetForm). IsUtf8 s.text) (sheet-of drill_sheet ∷ []) (sheet-utf8, tt);
}

-- ---- the same of what code made

pub page-can : (n : ℕ) (nodes : Nodes Label) (medium : Medium) (sheets : List SheetForm) → nodes ≡ drill_nodes (page_divs n)
    → medium ≡ usual_medium → sheets ≡ sheet-of drill_sheet ∷ [] → n ≤ 50000
    → CanLoadPage (record { nodes = nodes; medium = medium; sheets = sheets })
page-can n nodes medium sheets a b c h =
    let same : ◌≡◌ {A = LoadedPage} (record { nodes = nodes; medium = medium; sheets = sheets }) (drill_page n)
    = λ i. record { nodes = a i; medium = b i; sheets = c i } in
    subst CanLoadPage (sym same) (page-load n h)

pub page-has : (n : ℕ) (nodes : Nodes Label) (medium : Medium) (sheets : List SheetForm) → nodes ≡ drill_nodes (page_divs n)
    → medium ≡ usual_medium → sheets ≡ sheet-of drill_sheet ∷ []
    → PageHasTexts (record { nodes = nodes; medium = medium; sheets = sheets })
page-has n nodes medium sheets a b c =
    let same : ◌≡◌ {A = LoadedPage} (record { nodes = nodes; medium = medium; sheets = sheets }) (drill_page n)
    = λ i. record { nodes = a i; medium = b i; sheets = c i } in
    subst PageHasTexts (sym same) (page-texts n)
