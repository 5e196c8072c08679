-- What stands at lines and columns: bytes on characters' edges are told apart by their positions.
use Rattle.std.proofs.Common.{eq-eqb, ◌≡◌, ℕ, zero, suc, Bool, true, false, cond, ◌&&◌, nat_eq, List, []}
use Rattle.std.proofs.Common.{◌∷◌, map, length, All, Option, Some, None}
use Rattle.std.proofs.Common.{refl, sym}
use Rattle.std.proofs.Common.{ap, subst, ◌∙◌, arith}
use Rattle.std.specs.Prelude.{slice_get, IfSome, IsSomeAnd}
use Rattle.std.specs.List.{find}
use Rattle.std.specs.Str.{IsUtf8, IsCharBoundary}
use Rattle.std.proofs.lemmas.Bool.{eqb-true}
use Rattle.std.proofs.lemmas.List.Elements.{All-head, All-tail, All-map, All-weaker, All-nil, All-cons}
use Rattle.std.proofs.lemmas.Str.{IsCharBoundary-start, IsCharBoundary-end}
use Rattle.css_tokens.specs.declared.token.Range.{Range}
use Rattle.selectors.specs.Ranges.{IsRangeOf, AreBetween}
use Rattle.sheet_reader.specs.declared.place.Position.{Position}
use Rattle.sheet_reader.specs.declared.sheet.StyleRule.{StyleRule}
use Rattle.sheet_reader.specs.declared.sheet.MediaRule.{MediaRule}
use Rattle.sheet_reader.specs.declared.sheet.Sheet.{Sheet}
use Rattle.sheet_reader.specs.declared.book.SheetEntry.{SheetEntry}
use Rattle.sheet_reader.specs.Books.{IsEntry, IsStored}
use Rattle.sheet_reader.specs.Late.{HasOther}
use Rattle.sheet_reader.specs.Rereads.{HasBody}
use Rattle.sheet_reader.specs.Forms.{range, RuleForm, rule_seen}
use Rattle.sheet_reader.specs.Positions.{position, position_of}
use Rattle.sheet_reader.specs.Sheets.{sheet_of}
use Rattle.sheet_reader.specs.Usable.{IsRuleOf, AreEdgesBehind, AreEdges}
use Rattle.sheet_reader.proofs.PlaceForms.{one_place}
use Rattle.sheet_reader.proofs.UsableForms.{sheet_usable}
use Rattle.style_edits.specs.declared.lines.LineRange.{LineRange}
use Rattle.style_edits.specs.Drafts.{IsAt, is_same_range}
use Rattle.style_edits.specs.Edits.{is_position, is_at, body_at, prelude_at, place_at, whole_range}
use Rattle.style_edits.specs.MediaEdits.{media_at}

same_nat : (n : ℕ) → nat_eq n n ≡ true
same_nat n = eq-eqb n n refl

and_is : (a b : Bool) → (a && b) ≡ true → (a ≡ true) × (b ≡ true)
and_is true b e = (refl, e)
and_is false b e = absurd (cc)

both : (a b : Bool) → a ≡ true → b ≡ true → (a && b) ≡ true
both true b e f = f
both false b e f = absurd (cc)

pub no_longer : (b : Bool) → (b ≡ true → ⊥) → b ≡ false
no_longer true none = absurd (none refl)
no_longer false none = refl

agree : (a b : Bool) → (a ≡ true → b ≡ true) → (b ≡ true → a ≡ true) → a ≡ b
agree true b f g = sym (f refl)
agree false b f g = sym (no_longer b (λ e. let k : false ≡ true = g e in cc))

position_is : (line column : ℕ) (p : Position) → is_position line column p ≡ true → p ≡ position line column
position_is line column p e =
    let a = and_is (nat_eq p.line line) (nat_eq p.column column) e in
    let l = eqb-true p.line line a.0 in
    let c = eqb-true p.column column a.1 in
    λ i. position (l i) (c i)

is_position_at : (line column : ℕ) (p : Position) → p ≡ position line column → is_position line column p ≡ true
is_position_at line column p e =
    both (nat_eq p.line line) (nat_eq p.column column)
    (ap (λ (q : Position). nat_eq q.line line) e ∙ same_nat line) (ap (λ (q : Position). nat_eq q.column column) e ∙ same_nat column)

-- the start and the end of a range can be cut
abbrev pub IsCut : List ℕ → Range → Type 0
IsCut text r = IsCharBoundary text r.start × IsCharBoundary text r.end

pub same_is : (a b : Range) → is_same_range a b ≡ true → a ≡ b
same_is a b e =
    let k = and_is (nat_eq a.start b.start) (nat_eq a.end b.end) e in
    let s = eqb-true a.start b.start k.0 in
    let t = eqb-true a.end b.end k.1 in
    λ i. range (s i) (t i)

at_here : (text : List ℕ) (lines : LineRange) (wanted r : Range) → IsAt text lines wanted → IsCut text r
    → is_same_range wanted r ≡ is_at text lines r
at_here text lines wanted r at cut =
    agree (is_same_range wanted r) (is_at text lines r)
    (λ e.
    let same : wanted ≡ r = same_is wanted r e in
    subst (λ (x : Range). is_at text lines x ≡ true) same
    (both (is_position lines.start_line lines.start_column (position_of text wanted.start))
    (is_position lines.end_line lines.end_column (position_of text wanted.end))
    (is_position_at lines.start_line lines.start_column (position_of text wanted.start) at.start)
    (is_position_at lines.end_line lines.end_column (position_of text wanted.end) at.end)))
    (λ e.
    let k = and_is (is_position lines.start_line lines.start_column (position_of text r.start))
    (is_position lines.end_line lines.end_column (position_of text r.end)) e in
    let start = one_place text wanted.start r.start at.front cut.0
    (at.start ∙ sym (position_is lines.start_line lines.start_column (position_of text r.start) k.0)) in
    let end = one_place text wanted.end r.end at.back cut.1
    (at.end ∙ sym (position_is lines.end_line lines.end_column (position_of text r.end) k.1)) in
    both (nat_eq wanted.start r.start) (nat_eq wanted.end r.end) (ap (nat_eq wanted.start) (sym start) ∙ same_nat wanted.start)
    (ap (nat_eq wanted.end) (sym end) ∙ same_nat wanted.end))

find_agree : (p q : Range → Bool) (rs : List Range) → All (λ r. p r ≡ q r) rs → find p rs ≡ find q rs
find_agree p q [] all = refl
find_agree p q (r ∷ rs) all =
    ap (λ (b : Bool). cond b (Some r) (find p rs)) (All-head (λ x. p x ≡ q x) r rs all)
    ∙ ap (λ (o : Option Range). cond (q r) (Some r) o) (find_agree p q rs (All-tail (λ x. p x ≡ q x) r rs all))

-- ranges that can be cut out are found by their bytes
pub found_at : (text : List ℕ) (lines : LineRange) (wanted : Range) (rs : List Range) → IsAt text lines wanted → All (IsCut text) rs
    → find (is_same_range wanted) rs ≡ find (is_at text lines) rs
found_at text lines wanted rs at all =
    find_agree (is_same_range wanted) (is_at text lines) rs
    (All-weaker (IsCut text) (λ r. is_same_range wanted r ≡ is_at text lines r) (λ r cut. at_here text lines wanted r at cut) rs all)

pub none_at : (text : List ℕ) (lines : LineRange) (rs : List Range)
    → ((r : Range) → IsCharBoundary text r.start → IsCharBoundary text r.end → is_at text lines r ≡ false) → All (IsCut text) rs
    → None ≡ find (is_at text lines) rs
none_at text lines [] none all = refl
none_at text lines (r ∷ rs) none all =
    let cut = All-head (IsCut text) r rs all in
    none_at text lines rs none (All-tail (IsCut text) r rs all) ∙ ap (λ (b : Bool). cond b (Some r) (find (is_at text lines) rs))
    (sym (none r cut.0 cut.1))

-- what is found is one of them
pub found_is : (P : Range → Type 0) (p : Range → Bool) (rs : List Range) → All P rs → IfSome (find p rs) P
found_is P p [] all = tt
found_is P p (r ∷ rs) all = by (p r) (All-head P r rs all) (found_is P p rs (All-tail P r rs all))
  where
    by : (b : Bool) → P r → IfSome (find p rs) P → IfSome (cond b (Some r) (find p rs)) P
    by true own rest = own
    by false own rest = rest

-- ---- the ranges of a sheet

abbrev pub bodies : List RuleForm → List Range
bodies rs = map (λ r. r.body) rs

abbrev pub preludes : List RuleForm → List Range
preludes rs = map (λ r. r.prelude) rs

abbrev pub media_preludes : List MediaRule → List Range
media_preludes ms = map (λ m. m.prelude) ms

abbrev pub empties : List ℕ → List Range
empties ps = map (λ p. range p p) ps

pub bodies_usable : (text : List ℕ) → IsUtf8 text → All (IsRangeOf text) (bodies (sheet_of text).rules)
bodies_usable text utf8 =
    let s = sheet_usable text utf8 in
    All-map (IsRangeOf text) (λ (r : RuleForm). r.body) (sheet_of text).rules
    (All-weaker (IsRuleOf text) (λ r. IsRangeOf text r.body) (λ r is. is.body) (sheet_of text).rules s.each)

pub preludes_usable : (text : List ℕ) → IsUtf8 text → All (IsRangeOf text) (preludes (sheet_of text).rules)
preludes_usable text utf8 =
    let s = sheet_usable text utf8 in
    All-map (IsRangeOf text) (λ (r : RuleForm). r.prelude) (sheet_of text).rules
    (All-weaker (IsRuleOf text) (λ r. IsRangeOf text r.prelude) (λ r is. is.prelude) (sheet_of text).rules s.each)

empty_here : (text : List ℕ) (place : ℕ) → IsCharBoundary text place → IsRangeOf text (range place place)
empty_here text place edge = record { order = omega arith; front = edge; back = edge }

behind_usable : (text : List ℕ) (place : ℕ) (edges : List ℕ) → AreEdgesBehind text place edges → All (IsRangeOf text) (empties edges)
behind_usable text place [] all = All-nil (IsRangeOf text)
behind_usable text place (edge ∷ edges) all = All-cons (IsRangeOf text) (range edge edge) (empties edges) (empty_here text edge all.1)
    (behind_usable text edge edges all.2)

edges_usable : (text : List ℕ) (edges : List ℕ) → AreEdges text edges → All (IsRangeOf text) (empties edges)
edges_usable text [] all = All-nil (IsRangeOf text)
edges_usable text (edge ∷ edges) all = All-cons (IsRangeOf text) (range edge edge) (empties edges) (empty_here text edge all.0)
    (behind_usable text edge edges all.1)

pub places_usable : (text : List ℕ) → IsUtf8 text → All (IsRangeOf text) (empties (sheet_of text).places)
places_usable text utf8 = let s = sheet_usable text utf8 in edges_usable text (sheet_of text).places s.places

pub all_cut : (text : List ℕ) (rs : List Range) → All (IsRangeOf text) rs → All (IsCut text) rs
all_cut text rs all = All-weaker (IsRangeOf text) (IsCut text) (λ r is. (is.front, is.back)) rs all

pub seen_bodies : (rules : List StyleRule) → map (λ r. r.body) rules ≡ bodies (map rule_seen rules)
seen_bodies [] = refl
seen_bodies (r ∷ rules) = ap (λ (rs : List Range). r.body ∷ rs) (seen_bodies rules)

pub seen_preludes : (rules : List StyleRule) → map (λ r. r.prelude) rules ≡ preludes (map rule_seen rules)
seen_preludes [] = refl
seen_preludes (r ∷ rules) = ap (λ (rs : List Range). r.prelude ∷ rs) (seen_preludes rules)

between_each : (text : List ℕ) (from to : ℕ) (rs : List Range) → AreBetween text from to rs → All (IsRangeOf text) rs
between_each text from to [] between = All-nil (IsRangeOf text)
between_each text from to (r ∷ rs) between = All-cons (IsRangeOf text) r rs between.1 (between_each text r.end to rs between.2)

pub media_usable : (text : List ℕ) → IsUtf8 text → All (IsRangeOf text) (media_preludes (sheet_of text).media)
media_usable text utf8 = between_each text 0 (length text) (media_preludes (sheet_of text).media) (sheet_usable text utf8).media

-- ---- what the code finds in an entry

pub body_found : (e : SheetEntry) (lines : LineRange) (wanted : Range) (rules : List StyleRule) → IsEntry e → IsUtf8 e.text
    → IsAt e.text lines wanted → map rule_seen rules ≡ e.reading.rules
    → find (is_same_range wanted) (map (λ r. r.body) rules) ≡ body_at e.text lines
body_found e lines wanted rules own utf8 at seen =
    let read = ap (λ (x : Sheet). x.rules) own.read in
    ap (find (is_same_range wanted)) (seen_bodies rules ∙ ap bodies (seen ∙ read))
    ∙ found_at e.text lines wanted (bodies (sheet_of e.text).rules) at
    (all_cut e.text (bodies (sheet_of e.text).rules) (bodies_usable e.text utf8))

pub prelude_found : (e : SheetEntry) (lines : LineRange) (wanted : Range) (rules : List StyleRule) → IsEntry e → IsUtf8 e.text
    → IsAt e.text lines wanted → map rule_seen rules ≡ e.reading.rules
    → find (is_same_range wanted) (map (λ r. r.prelude) rules) ≡ prelude_at e.text lines
prelude_found e lines wanted rules own utf8 at seen =
    let read = ap (λ (x : Sheet). x.rules) own.read in
    ap (find (is_same_range wanted)) (seen_preludes rules ∙ ap preludes (seen ∙ read))
    ∙ found_at e.text lines wanted (preludes (sheet_of e.text).rules) at
    (all_cut e.text (preludes (sheet_of e.text).rules) (preludes_usable e.text utf8))

pub place_found : (e : SheetEntry) (lines : LineRange) (wanted : Range) (places : List ℕ) → IsEntry e → IsUtf8 e.text
    → IsAt e.text lines wanted → places ≡ e.reading.places
    → find (is_same_range wanted) (map (λ p. range p p) places) ≡ place_at e.text lines
place_found e lines wanted places own utf8 at seen =
    let read = ap (λ (x : Sheet). x.places) own.read in
    ap (λ (ps : List ℕ). find (is_same_range wanted) (empties ps)) (seen ∙ read)
    ∙ found_at e.text lines wanted (empties (sheet_of e.text).places) at
    (all_cut e.text (empties (sheet_of e.text).places) (places_usable e.text utf8))

unfoldable pub NoneThere : List ℕ → LineRange → Type 0
NoneThere text lines = (r : Range) → IsCharBoundary text r.start → IsCharBoundary text r.end → is_at text lines r ≡ false

pub body_none : (e : SheetEntry) (lines : LineRange) → IsUtf8 e.text → NoneThere e.text lines → None ≡ body_at e.text lines
unfolding NoneThere
body_none e lines utf8 none =
    none_at e.text lines (bodies (sheet_of e.text).rules) none
    (all_cut e.text (bodies (sheet_of e.text).rules) (bodies_usable e.text utf8))

pub prelude_none : (e : SheetEntry) (lines : LineRange) → IsUtf8 e.text → NoneThere e.text lines → None ≡ prelude_at e.text lines
unfolding NoneThere
prelude_none e lines utf8 none =
    none_at e.text lines (preludes (sheet_of e.text).rules) none
    (all_cut e.text (preludes (sheet_of e.text).rules) (preludes_usable e.text utf8))

pub place_none : (e : SheetEntry) (lines : LineRange) → IsUtf8 e.text → NoneThere e.text lines → None ≡ place_at e.text lines
unfolding NoneThere
place_none e lines utf8 none =
    none_at e.text lines (empties (sheet_of e.text).places) none
    (all_cut e.text (empties (sheet_of e.text).places) (places_usable e.text utf8))

found_range : (text : List ℕ) (lines : LineRange) (rs : List Range) (o : Option Range) → o ≡ find (is_at text lines) rs
    → All (IsRangeOf text) rs → IfSome o (IsRangeOf text)
found_range text lines rs o e all = subst (λ (x : Option Range). IfSome x (IsRangeOf text)) (sym e)
    (found_is (IsRangeOf text) (is_at text lines) rs all)

pub body_range : (e : SheetEntry) (lines : LineRange) (o : Option Range) → IsUtf8 e.text → o ≡ body_at e.text lines
    → IfSome o (IsRangeOf e.text)
body_range e lines o utf8 found =
    found_range e.text lines (bodies (sheet_of e.text).rules) o found (bodies_usable e.text utf8)

pub prelude_range : (e : SheetEntry) (lines : LineRange) (o : Option Range) → IsUtf8 e.text → o ≡ prelude_at e.text lines
    → IfSome o (IsRangeOf e.text)
prelude_range e lines o utf8 found =
    found_range e.text lines (preludes (sheet_of e.text).rules) o found (preludes_usable e.text utf8)

pub place_range : (e : SheetEntry) (lines : LineRange) (o : Option Range) → IsUtf8 e.text → o ≡ place_at e.text lines
    → IfSome o (IsRangeOf e.text)
place_range e lines o utf8 found =
    found_range e.text lines (empties (sheet_of e.text).places) o found (places_usable e.text utf8)

-- a whole_range text can be cut out
pub whole_usable : (text same : List ℕ) (r : Range) → same ≡ text → IsUtf8 same → r ≡ whole_range same → IsRangeOf text r
whole_usable text same r is utf8 e =
    let own : IsRangeOf same (whole_range same) = record {
      order = omega arith;
      front = IsCharBoundary-start same utf8;
      back = IsCharBoundary-end same;
    } in
    subst (λ (x : Range). IsRangeOf text x) (sym e) (subst (λ (t : List ℕ). IsRangeOf t (whole_range same)) is own)

-- ---- the preludes of media rules

pub media_found : (e : SheetEntry) (lines : LineRange) (wanted : Range) (media : List MediaRule) → IsEntry e → IsUtf8 e.text
    → IsAt e.text lines wanted → media ≡ e.reading.media
    → find (is_same_range wanted) (map (λ m. m.prelude) media) ≡ media_at e.text lines
media_found e lines wanted media own utf8 at seen =
    let read = ap (λ (x : Sheet). x.media) own.read in
    ap (λ (ms : List MediaRule). find (is_same_range wanted) (media_preludes ms)) (seen ∙ read)
    ∙ found_at e.text lines wanted (media_preludes (sheet_of e.text).media) at
    (all_cut e.text (media_preludes (sheet_of e.text).media) (media_usable e.text utf8))

pub media_none : (e : SheetEntry) (lines : LineRange) → IsUtf8 e.text → NoneThere e.text lines → None ≡ media_at e.text lines
unfolding NoneThere
media_none e lines utf8 none =
    none_at e.text lines (media_preludes (sheet_of e.text).media) none
    (all_cut e.text (media_preludes (sheet_of e.text).media) (media_usable e.text utf8))

pub media_range : (e : SheetEntry) (lines : LineRange) (o : Option Range) → IsUtf8 e.text → o ≡ media_at e.text lines
    → IfSome o (IsRangeOf e.text)
media_range e lines o utf8 found =
    found_range e.text lines (media_preludes (sheet_of e.text).media) o found (media_usable e.text utf8)

-- ---- a body that an open sheet has, or has not

pub same_range : (a b : Range) → b ≡ a → is_same_range a b ≡ true
same_range a b e =
    both (nat_eq a.start b.start) (nat_eq a.end b.end) (ap (λ (r : Range). nat_eq a.start r.start) e ∙ same_nat a.start)
    (ap (λ (r : Range). nat_eq a.end r.end) e ∙ same_nat a.end)

body_among : (body : Range) (rules : List RuleForm) (k : ℕ) → IsSomeAnd (slice_get rules k) (HasBody body)
    → find (is_same_range body) (bodies rules) ≡ Some body
body_among body [] k has = absurd has
body_among body (r ∷ rules) zero has =
    ap (λ (b : Bool). cond b (Some r.body) (find (is_same_range body) (bodies rules))) (same_range body r.body has) ∙ ap Some has
body_among body (r ∷ rules) (suc k) has = by (is_same_range body r.body) refl (body_among body rules k has)
  where
    by : (b : Bool) → is_same_range body r.body ≡ b → find (is_same_range body) (bodies rules) ≡ Some body
        → cond b (Some r.body) (find (is_same_range body) (bodies rules)) ≡ Some body
    by true is rest = ap Some (sym (same_is body r.body is))
    by false is rest = rest

no_body_among : (body : Range) (rules : List RuleForm) → All (HasOther body) rules → find (is_same_range body) (bodies rules) ≡ None
no_body_among body [] all = refl
no_body_among body (r ∷ rules) all =
    by (is_same_range body r.body) refl (All-head (HasOther body) r rules all)
    (no_body_among body rules (All-tail (HasOther body) r rules all))
  where
    by : (b : Bool) → is_same_range body r.body ≡ b → HasOther body r → find (is_same_range body) (bodies rules) ≡ None
        → cond b (Some r.body) (find (is_same_range body) (bodies rules)) ≡ None
    by true is other rest = absurd (other (sym (same_is body r.body is)))
    by false is other rest = rest

-- what is found among the bodies of a sheet is what has these lines and columns
lines_found : (e : SheetEntry) (lines : LineRange) (body : Range) → IsStored e → IsAt e.text lines body
    → find (is_same_range body) (bodies e.reading.rules) ≡ body_at e.text lines
lines_found e lines body own at =
    ap (λ (s : Sheet). find (is_same_range body) (bodies s.rules)) own.entry.read
    ∙ found_at e.text lines body (bodies (sheet_of e.text).rules) at
    (all_cut e.text (bodies (sheet_of e.text).rules) (bodies_usable e.text own.utf8))

pub open_found : (e : SheetEntry) (lines : LineRange) (body : Range) (k : ℕ) → IsStored e → IsAt e.text lines body
    → IsSomeAnd (slice_get e.reading.rules k) (HasBody body) → body_at e.text lines ≡ Some body
open_found e lines body k own at has = sym (lines_found e lines body own at) ∙ body_among body e.reading.rules k has

pub open_range : (e : SheetEntry) (lines : LineRange) (body : Range) (k : ℕ) → IsStored e → IsAt e.text lines body
    → IsSomeAnd (slice_get e.reading.rules k) (HasBody body) → IsRangeOf e.text body
open_range e lines body k own at has =
    subst (λ (o : Option Range). IfSome o (IsRangeOf e.text)) (open_found e lines body k own at has)
    (body_range e lines (body_at e.text lines) own.utf8 refl)

pub open_other : (e : SheetEntry) (lines : LineRange) (body : Range) → IsStored e → IsAt e.text lines body
    → All (HasOther body) e.reading.rules → body_at e.text lines ≡ None
open_other e lines body own at all = sym (lines_found e lines body own at) ∙ no_body_among body e.reading.rules all

pub open_none : (e : SheetEntry) (lines : LineRange) → IsStored e → NoneThere e.text lines → body_at e.text lines ≡ None
open_none e lines own none = sym (body_none e lines own.utf8 none)
