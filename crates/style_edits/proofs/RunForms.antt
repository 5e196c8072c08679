-- Edits of a sheet that is taken out of its book.
use Rattle.std.proofs.Common.{◌≡◌, ℕ, ◌+◌, ◌-◌, ◌<◌, ◌≤◌, List, [], ◌∷◌, ◌++◌, All, length, take, drop, get_or}
use Rattle.std.proofs.Common.{Result, Ok, Err, Some, refl, sym, ap, subst}
use Rattle.std.proofs.Common.{◌∙◌, arith, append_assoc, suc, Bool, true, false, cond, nat_eq, eq-eqb, length-drop}
use Rattle.std.specs.Prelude.{IsSome, OnOk, ◌==◌}
use Rattle.std.specs.List.{list_any, prefix_len}
use Rattle.std.proofs.lemmas.Bool.{eqb-true}
use Rattle.std.proofs.Math.Seq.{drop-cons}
use Rattle.std.proofs.lemmas.List.{get_or_default, take-append-drop, take_all, drop-drop}
use Rattle.std.proofs.lemmas.List.Elements.{All-nil, All-cons, All-head}
use Rattle.node_tree.specs.declared.origins.Origin.{Origin}
use Rattle.node_tree.specs.declared.origins.Origin.TheVariants.{UserAgent, Regular}
use Rattle.sheet_reader.specs.declared.book.SheetEntry.{SheetEntry}
use Rattle.sheet_reader.specs.Books.{IsEntry, entry_of, book_changed}
use Rattle.std.specs.Prelude.{Option, None, nat_le, slice_get, IsSomeAnd}
use Rattle.node_tree.specs.Numbers.{max_sheet_bytes}
use Rattle.css_tokens.specs.declared.token.Range.{Range}
use Rattle.sheet_reader.specs.declared.sheet.Sheet.{Sheet}
use Rattle.sheet_reader.specs.Books.{IsStored}
use Rattle.sheet_reader.specs.Forms.{range, RuleForm}
use Rattle.sheet_reader.specs.Moves.{replaced}
use Rattle.sheet_reader.specs.Rereads.{HasBody, retold}
use Rattle.sheet_reader.specs.Sealing.{is_sealed}
use Rattle.sheet_reader.specs.Sheets.{sheet_of}
use Rattle.style_edits.specs.declared.faults.SheetFault.TheVariants.{BadRange, BadText, TooBig}
use Rattle.style_edits.specs.Edits.{body_at, placed_text, splice_at, style_by}
use Rattle.style_edits.specs.EditedRules.{rules_before}
use Rattle.style_edits.specs.Splices.{back_in, spliced}
use Rattle.style_edits.proofs.RuleOrder.{own_place}
use Rattle.style_edits.specs.declared.edits.StyleEdit.{StyleEdit}
use Rattle.style_edits.specs.declared.faults.SheetErr.{SheetErr}
use Rattle.style_edits.specs.declared.faults.SheetErr.TheVariants.{Fault, Memory}
use Rattle.style_edits.specs.declared.faults.SheetFault.{SheetFault}
use Rattle.style_edits.specs.declared.rule_places.RulePlace.{RulePlace}
use Rattle.style_edits.specs.declared.splice.Splice.{Splice}
use Rattle.style_edits.specs.declared.style_runs.Made.{Made}
use Rattle.style_edits.specs.Drafts.{IsOld, Keeps, olds_restored, with_backs}
use Rattle.style_edits.specs.EditedRules.{edited_rule, edited_rules, place_by, rules_on}
use Rattle.style_edits.specs.Edits.{EditsOutcome, Found, IfFault, client_by, client_sheet, edited, found_by}
use Rattle.style_edits.specs.Edits.{go_on, mutable, style_in, style_splice}
use Rattle.style_edits.specs.Edits.{styles_edited, with_back}
use Rattle.style_edits.specs.Splices.{after_splice, back_splice, spliced_entry}
use Rattle.style_edits.specs.StyleRuns.{IsMade, IsRun, MayEdit, ChangesOnly}
use Rattle.style_edits.proofs.BookForms.{changed_back, changed_over, changed_there, entry_again, entry_changed}
use Rattle.style_edits.proofs.BookForms.{entry_id, some_there, olds_stay}
use Rattle.style_edits.proofs.BookForms.{kept_restored}
use Rattle.style_edits.proofs.DraftForms.{changed_self, kept_all, kept_same}
use Rattle.style_edits.proofs.EditForms.{no_backs}
use Rattle.style_edits.proofs.SpliceForms.{made}

-- ---- one edit, in the book in which the sheet will stand

same_id : (x : StyleEdit) (o new : SheetEntry) (left : Made) → IsMade x o new left → o.id ≡ new.id
same_id x o new left m = ap (λ (e : SheetEntry). e.id) (sym m.new_is)

client_in : (o : SheetEntry) (book : List SheetEntry) (id : ℕ) → IsSome (entry_of o.id book) → mutable o o.origin ≡ Ok o → id ≡ o.id
    → client_sheet id (book_changed o book) ≡ Ok o
client_in o book id there client same =
    ap (λ (k : ℕ). client_sheet k (book_changed o book)) same ∙ ap client_by (entry_changed o book there) ∙ client

pub made_done : (x : StyleEdit) (o new : SheetEntry) (left : Made) (book : List SheetEntry) → IsSome (entry_of o.id book)
    → mutable o o.origin ≡ Ok o → x.sheet ≡ o.id → IsMade x o new left
    → edited (book_changed o book) (style_splice x (book_changed o book)) ≡ Ok (book_changed new book, left.back)
made_done x o new left book there client own m =
    let s = m.splice in
    let b = book_changed o book in
    let found : style_splice x b ≡ Ok s = ap (found_by (style_in x)) (client_in o book x.sheet there client own) ∙ m.found in
    let here : entry_of s.sheet b ≡ Some o = ap (λ (k : ℕ). entry_of k b) m.sheet ∙ entry_changed o book there in
    let d = made s b o here in
    let after : after_splice s b ≡ book_changed new book =
    d.after ∙ ap (λ (e : SheetEntry). book_changed e b) (sym m.new_is) ∙ changed_over new o book (same_id x o new left m) in
    let back : back_splice s b ≡ left.back = d.back ∙ sym m.back in
    ap (edited b) found ∙ (λ i. Ok (after i, back i))

pub made_fault : (x : StyleEdit) (o : SheetEntry) (book : List SheetEntry) (f : SheetFault) → IsSome (entry_of o.id book)
    → mutable o o.origin ≡ Ok o → x.sheet ≡ o.id → style_in x o ≡ Err f → style_splice x (book_changed o book) ≡ Err f
made_fault x o book f there client own fault =
    ap (found_by (style_in x)) (client_in o book x.sheet there client own) ∙ fault

still_there : (x : StyleEdit) (o new : SheetEntry) (left : Made) (book : List SheetEntry) → IsSome (entry_of o.id book)
    → IsMade x o new left → IsSome (entry_of new.id book)
still_there x o new left book there m = subst (λ (k : ℕ). IsSome (entry_of k book)) (same_id x o new left m) there

pub made_rule : (x : StyleEdit) (o new : SheetEntry) (left : Made) (book : List SheetEntry) → IsSome (entry_of o.id book)
    → IsMade x o new left → edited_rule (book_changed new book) left.back ≡ left.rule
made_rule x o new left book there m =
    let sheet : left.back.sheet ≡ new.id = ap (λ (b : Splice). b.sheet) m.back ∙ m.sheet ∙ same_id x o new left m in
    ap (place_by left.back) (ap (λ (k : ℕ). entry_of k (book_changed new book)) sheet
    ∙ entry_changed new book (still_there x o new left book there m)) ∙ sym m.rule

-- a sheet that a client may edit is one after an edit
pub client_stays : (x : StyleEdit) (o new : SheetEntry) (left : Made) → IsMade x o new left → mutable o o.origin ≡ Ok o
    → mutable new new.origin ≡ Ok new
client_stays x o new left m client =
    subst (λ (e : SheetEntry). mutable e e.origin ≡ Ok e) (sym m.new_is) (by o.origin client)
  where
    by : (g : Origin) → mutable o g ≡ Ok o → mutable (spliced_entry m.splice o) g ≡ Ok (spliced_entry m.splice o)
    by UserAgent e = absurd (cc)
    by Regular e = refl

pub run_id : (id : ℕ) (edits : List StyleEdit) (i : ℕ) (x : StyleEdit) → IsRun id edits → i < length edits → x ≡ get_or edits i x
    → x.sheet ≡ id
run_id id edits i x run inside is = subst (λ (y : StyleEdit). y.sheet ≡ id) (sym is) (run i x inside)

-- ---- edits of one sheet, and those behind them

-- the sheet cannot be edited
pub run_refused : (id : ℕ) (edits : List StyleEdit) (book : List SheetEntry) (f : SheetFault) → IsRun id edits → 0 < length edits
    → client_sheet id book ≡ Err f → styles_edited edits book ≡ Err f
unfolding styles_edited
run_refused id [] book f run some refused = absurd (omega (arith, some))
run_refused id (x ∷ edits) book f run some refused =
    let own = All-head (λ (y : StyleEdit). y.sheet ≡ id) x edits run in
    let found : style_splice x book ≡ Err f =
    ap (found_by (style_in x)) (ap (λ (k : ℕ). client_sheet k book) own ∙ refused) in
    ap (λ (r : Found). go_on (edited book r) (λ b. styles_edited edits b)) found

both_backs : (backs more : List Splice) (o : EditsOutcome) → with_backs (backs ++ more) o ≡ with_backs backs (with_backs more o)
both_backs backs more (Ok rest) = ap (λ (xs : List Splice). done rest.0 xs) (append_assoc backs more rest.1)
  where
    done : List SheetEntry → List Splice → EditsOutcome
    done book xs = Ok (book, xs)
both_backs backs more (Err f) = refl

back_on : (back : Splice) (backs : List Splice) (o : EditsOutcome) → with_back back (with_backs backs o) ≡ with_backs (back ∷ backs) o
back_on back backs (Ok rest) = refl
back_on back backs (Err f) = refl

ok_not : (f : SheetFault) (p : List SheetEntry × List Splice) → ◌≡◌ {A = EditsOutcome} (Err f) (Ok p) → ⊥
ok_not f p e = cc

abbrev Outcome : Type 0
Outcome = List SheetEntry × List Splice

-- what first edits and then others come to
pub runs_join : (edits others : List StyleEdit) (book next : List SheetEntry) (backs : List Splice)
    → styles_edited edits book ≡ Ok (next, backs) → styles_edited (edits ++ others) book ≡ with_backs backs (styles_edited others next)
unfolding styles_edited
runs_join [] others book next backs done =
    let same : ◌≡◌ {A = Outcome} (book, []) (next, backs) = cc in
    subst (λ (p : Outcome). styles_edited others book ≡ with_backs p.1 (styles_edited others p.0)) same
    (sym (no_backs (styles_edited others book)))
runs_join (x ∷ edits) others book next backs done =
    first (edited book (style_splice x book)) (λ n m bs e. runs_join edits others n m bs e) done
  where
    more : (n : List SheetEntry) (b : Splice) (o : EditsOutcome)
        → ((m : List SheetEntry) (bs : List Splice) → o ≡ Ok (m, bs)
        → styles_edited (edits ++ others) n ≡ with_backs bs (styles_edited others m))
        → with_back b o ≡ Ok (next, backs) → with_back b (styles_edited (edits ++ others) n) ≡ with_backs backs (styles_edited others next)
    more n b (Ok rest) again e =
        let same : ◌≡◌ {A = Outcome} (rest.0, b ∷ rest.1) (next, backs) = cc in
        ap (with_back b) (again rest.0 rest.1 refl) ∙ back_on b rest.1 (styles_edited others rest.0)
        ∙ ap (λ (p : Outcome). with_backs p.1 (styles_edited others p.0)) same
    more n b (Err f) again e = absurd (ok_not f (next, backs) e)

    first : (r : Result (List SheetEntry × Splice) SheetFault)
        → ((n m : List SheetEntry) (bs : List Splice) → styles_edited edits n ≡ Ok (m, bs)
        → styles_edited (edits ++ others) n ≡ with_backs bs (styles_edited others m))
        → go_on r (λ b. styles_edited edits b) ≡ Ok (next, backs)
        → go_on r (λ b. styles_edited (edits ++ others) b) ≡ with_backs backs (styles_edited others next)
    first (Ok one) again e = more one.0 one.1 (styles_edited edits one.0) (again one.0) e
    first (Err f) again e = absurd (ok_not f (next, backs) e)

-- a fault of first edits is the fault of all
pub runs_fail : (edits others : List StyleEdit) (book : List SheetEntry) (f : SheetFault) → styles_edited edits book ≡ Err f
    → styles_edited (edits ++ others) book ≡ Err f
unfolding styles_edited
runs_fail [] others book f fault = absurd (ok_not f (book, []) (sym fault))
runs_fail (x ∷ edits) others book f fault =
    first (edited book (style_splice x book)) (λ n g e. runs_fail edits others n g e) fault
  where
    more : (n : List SheetEntry) (b : Splice) (o : EditsOutcome)
        → ((g : SheetFault) → o ≡ Err g → styles_edited (edits ++ others) n ≡ Err g)
        → with_back b o ≡ Err f → with_back b (styles_edited (edits ++ others) n) ≡ Err f
    more n b (Ok rest) again e = absurd (ok_not f (rest.0, b ∷ rest.1) (sym e))
    more n b (Err g) again e = ap (with_back b) (again g refl) ∙ e

    first : (r : Result (List SheetEntry × Splice) SheetFault)
        → ((n : List SheetEntry) (g : SheetFault) → styles_edited edits n ≡ Err g → styles_edited (edits ++ others) n ≡ Err g)
        → go_on r (λ b. styles_edited edits b) ≡ Err f → go_on r (λ b. styles_edited (edits ++ others) b) ≡ Err f
    first (Ok one) again e = more one.0 one.1 (styles_edited edits one.0) (again one.0) e
    first (Err g) again e = e

-- the rules of first edits and then others
pub rules_join : (edits others : List StyleEdit) (book next : List SheetEntry) (backs : List Splice)
    → styles_edited edits book ≡ Ok (next, backs)
    → edited_rules (edits ++ others) book ≡ edited_rules edits book ++ edited_rules others next
unfolding styles_edited edited_rules
rules_join [] others book next backs done =
    let same : ◌≡◌ {A = Outcome} (book, []) (next, backs) = cc in
    ap (λ (p : Outcome). edited_rules others p.0) same
rules_join (x ∷ edits) others book next backs done =
    first (edited book (style_splice x book)) (λ n m bs e. rules_join edits others n m bs e) done
  where
    more : (n : List SheetEntry) (b : Splice) (o : EditsOutcome)
        → ((m : List SheetEntry) (bs : List Splice) → o ≡ Ok (m, bs)
        → edited_rules (edits ++ others) n ≡ edited_rules edits n ++ edited_rules others m)
        → with_back b o ≡ Ok (next, backs) → edited_rules (edits ++ others) n ≡ edited_rules edits n ++ edited_rules others next
    more n b (Ok rest) again e =
        let same : ◌≡◌ {A = Outcome} (rest.0, b ∷ rest.1) (next, backs) = cc in
        again rest.0 rest.1 refl ∙ ap (λ (p : Outcome). edited_rules edits n ++ edited_rules others p.0) same
    more n b (Err f) again e = absurd (ok_not f (next, backs) e)

    first : (r : Result (List SheetEntry × Splice) SheetFault)
        → ((n m : List SheetEntry) (bs : List Splice) → styles_edited edits n ≡ Ok (m, bs)
        → edited_rules (edits ++ others) n ≡ edited_rules edits n ++ edited_rules others m)
        → go_on r (λ b. styles_edited edits b) ≡ Ok (next, backs)
        → rules_on r (λ b. edited_rules (edits ++ others) b) ≡ rules_on r (λ b. edited_rules edits b) ++ edited_rules others next
    first (Ok one) again e =
        ap (λ (ps : List RulePlace). edited_rule one.0 one.1 ∷ ps) (more one.0 one.1 (styles_edited edits one.0) (again one.0) e)
    first (Err f) again e = absurd (ok_not f (next, backs) e)

-- ---- a run, and what is left

-- edits of one sheet from a place on, and those behind them
pub parted : (edits : List StyleEdit) (at next : ℕ) → at ≤ next → next ≤ length edits
    → drop at edits ≡ take (next - at) (drop at edits) ++ drop next edits
parted edits at next order inside =
    sym (take-append-drop (next - at) (drop at edits))
    ∙ ap (λ (xs : List StyleEdit). take (next - at) (drop at edits) ++ xs)
    (drop-drop (next - at) at edits ∙ ap (λ (n : ℕ). drop n edits) (omega (arith, order)))

record RunDone (backs more : List Splice) (o : EditsOutcome) (next : List SheetEntry) : Type 0 where
  own : List Splice
  is : o ≡ Ok (next, own)
  pushed : backs ++ own ≡ more

run_done : (backs more : List Splice) (o : EditsOutcome) (next : List SheetEntry) → with_backs backs o ≡ Ok (next, more)
    → RunDone backs more o next
run_done backs more (Ok rest) next e =
    let same : ◌≡◌ {A = Outcome} (rest.0, backs ++ rest.1) (next, more) = cc in
    record {
      own = rest.1;
      is = ap (λ (b : List SheetEntry). ok b rest.1) (ap (λ (p : Outcome). p.0) same);
      pushed = ap (λ (p : Outcome). p.1) same;
    }
  where
    ok : List SheetEntry → List Splice → EditsOutcome
    ok b xs = Ok (b, xs)
run_done backs more (Err f) next e = absurd (ok_not f (next, more) e)

pub run_more : (run rest : List StyleEdit) (backs more : List Splice) (book next : List SheetEntry) (total : EditsOutcome)
    → with_backs backs (styles_edited run book) ≡ Ok (next, more) → with_backs backs (styles_edited (run ++ rest) book) ≡ total
    → with_backs more (styles_edited rest next) ≡ total
run_more run rest backs more book next total done so_far =
    let d = run_done backs more (styles_edited run book) next done in
    ap (λ (bs : List Splice). with_backs bs (styles_edited rest next)) (sym d.pushed)
    ∙ both_backs backs d.own (styles_edited rest next)
    ∙ ap (with_backs backs) (sym (runs_join run rest book next d.own d.is))
    ∙ so_far

pub run_rules : (run rest : List StyleEdit) (backs more : List Splice) (rules new : List RulePlace) (book next : List SheetEntry)
    (total : List RulePlace) → with_backs backs (styles_edited run book) ≡ Ok (next, more) → new ≡ rules ++ edited_rules run book
    → rules ++ edited_rules (run ++ rest) book ≡ total → new ++ edited_rules rest next ≡ total
run_rules run rest backs more rules new book next total done pushed so_far =
    let d = run_done backs more (styles_edited run book) next done in
    ap (λ (ps : List RulePlace). ps ++ edited_rules rest next) pushed ∙ append_assoc rules (edited_rules run book) (edited_rules rest next)
    ∙ ap (λ (ps : List RulePlace). rules ++ ps) (sym (rules_join run rest book next d.own d.is)) ∙ so_far

fault_in : (backs : List Splice) (o : EditsOutcome) (f : SheetFault) → with_backs backs o ≡ Err f → o ≡ Err f
fault_in backs (Ok rest) f e = absurd (ok_not f (rest.0, backs ++ rest.1) (sym e))
fault_in backs (Err g) f e = e

pub run_fault : (run rest all : List StyleEdit) (backs first : List Splice) (book old : List SheetEntry) (f : SheetFault)
    → styles_edited run book ≡ Err f
    → with_backs backs (styles_edited (run ++ rest) book) ≡ with_backs first (styles_edited all old) → styles_edited all old ≡ Err f
run_fault run rest all backs first book old f fault so_far =
    fault_in first (styles_edited all old) f (sym so_far ∙ ap (with_backs backs) (runs_fail run rest book f fault))

-- a run's fault is the fault of all
pub run_stops : (A B : Type 0) (stop : SheetErr) (run all : EditsOutcome) → IfFault {A = A} (Err stop) (λ f. run ≡ Err f)
    → ((f : SheetFault) → run ≡ Err f → all ≡ Err f) → IfFault {A = B} (Err stop) (λ f. all ≡ Err f)
run_stops A B (Fault f) run all fault goes_on = goes_on f fault
run_stops A B Memory run all fault goes_on = fault

-- ---- where a run ends

abbrev of_sheet : ℕ → StyleEdit → Bool
of_sheet id x = x.sheet == id

abbrev FirstRun : ℕ → List StyleEdit → Type 0
FirstRun id xs = (prefix_len (of_sheet id) xs ≤ length xs) × IsRun id (take (prefix_len (of_sheet id) xs) xs)

first_run : (id : ℕ) (xs : List StyleEdit) → FirstRun id xs
first_run id [] = (omega arith, All-nil (λ (x : StyleEdit). x.sheet ≡ id))
first_run id (x ∷ xs) = by (nat_eq x.sheet id) refl (first_run id xs)
  where
    one : (n : ℕ) → IsRun id (take n xs) → x.sheet ≡ id → IsRun id (take (1 + n) (x ∷ xs))
    one n run own =
        let next : suc n ≡ 1 + n = omega arith in
        subst (λ (m : ℕ). IsRun id (take m (x ∷ xs))) next (All-cons (λ (y : StyleEdit). y.sheet ≡ id) x (take n xs) own run)

    by : (b : Bool) → nat_eq x.sheet id ≡ b → FirstRun id xs
        → (cond b (1 + prefix_len (of_sheet id) xs) 0 ≤ length (x ∷ xs))
        × IsRun id (take (cond b (1 + prefix_len (of_sheet id) xs) 0) (x ∷ xs))
    by true is rest = (omega (arith, rest.0), one (prefix_len (of_sheet id) xs) rest.1 (eqb-true x.sheet id is))
    by false is rest = (omega arith, All-nil (λ (y : StyleEdit). y.sheet ≡ id))

pub run_within : (id : ℕ) (xs : List StyleEdit) → prefix_len (λ x. x.sheet == id) xs ≤ length xs
run_within id xs = (first_run id xs).0

-- the run of the edit at a place
pub record RunAt (edits : List StyleEdit) (at : ℕ) (x : StyleEdit) (n : ℕ) : Type 0 where
  pub some : 0 < n
  pub inside : at + n ≤ length edits
  pub run : IsRun x.sheet (take n (drop at edits))

run_at : (edits : List StyleEdit) (at : ℕ) (x : StyleEdit) (n : ℕ) → at < length edits → x ≡ get_or edits at x
    → n ≡ prefix_len (of_sheet x.sheet) (drop at edits) → RunAt edits at x n
run_at edits at x n inside is count =
    let p = of_sheet x.sheet in
    let cut : drop at edits ≡ x ∷ drop (suc at) edits =
    drop-cons edits at x inside ∙ ap (λ (y : StyleEdit). y ∷ drop (suc at) edits) (sym is) in
    let first : prefix_len p (drop at edits) ≡ 1 + prefix_len p (drop (suc at) edits) =
    ap (prefix_len p) cut ∙ ap (λ (b : Bool). cond b (1 + prefix_len p (drop (suc at) edits)) 0) (eq-eqb x.sheet x.sheet refl) in
    let all = first_run x.sheet (drop at edits) in
    record {
      some = omega (arith, count, first);
      inside = omega (arith, count, all.0, length-drop at edits, inside);
      run = subst (λ (m : ℕ). IsRun x.sheet (take m (drop at edits))) (sym count) all.1;
    }

-- the same of a run that was counted in what is left of the edits
pub run_here : (edits : List StyleEdit) (at : ℕ) (d : StyleEdit) (n : ℕ) → at < length edits
    → n ≡ prefix_len (of_sheet (get_or edits at d).sheet) (take (length edits - at) (drop at edits))
    → RunAt edits at (get_or edits at d) n
run_here edits at d n inside count =
    let x = get_or edits at d in
    let whole = take_all (length edits - at) (drop at edits) (omega (arith, length-drop at edits)) in
    run_at edits at x n inside (get_or_default edits at d x inside) (count ∙ ap (prefix_len (of_sheet x.sheet)) whole)

-- ---- an edit of the open sheet

-- the rule with this number is the one that is answered
number_is : (e : SheetEntry) (k : ℕ) (body : Range) → IsStored e → IsSomeAnd (slice_get e.reading.rules k) (HasBody body)
    → rules_before (sheet_of e.text).rules body.start ≡ k
number_is e k body own has =
    by (slice_get (sheet_of e.text).rules k) refl (subst (λ (s : Sheet). IsSomeAnd (slice_get s.rules k) (HasBody body)) own.entry.read has)
  where
    by : (o : Option RuleForm) → slice_get (sheet_of e.text).rules k ≡ o → IsSomeAnd o (HasBody body)
        → rules_before (sheet_of e.text).rules body.start ≡ k
    by None there has = absurd has
    by (Some r) there has =
        ap (λ (b : Range). rules_before (sheet_of e.text).rules b.start) (sym has) ∙ own_place e.text own.utf8 k r there

abbrev place : ℕ → ℕ → RulePlace
place sheet rule = record { sheet = sheet; rule = rule }

-- the edit's text takes the place of a body that was found
pub made_in : (x : StyleEdit) (old new : SheetEntry) (k : ℕ) (body : Range) (left : Made) → body_at old.text x.range ≡ Some body
    → is_sealed x.text ≡ true → nat_le (length (spliced old.text body.start body.end x.text)) max_sheet_bytes ≡ true
    → new ≡ retold (replaced old.text body x.text) old → IsStored new
    → IsSomeAnd (slice_get new.reading.rules k) (HasBody (range body.start (body.start + length x.text)))
    → left.back ≡ back_in (splice_at old body x.text) old → left.rule ≡ record { sheet = old.id; rule = k } → IsMade x old new left
made_in x old new k body left at sealed short is own has back rule =
    let number = number_is new k (range body.start (body.start + length x.text)) own has in
    record {
      splice = splice_at old body x.text;
      found = ap (style_by x old) at ∙ ap (λ (b : Bool). cond b (placed_text old body x.text) (Err BadText)) sealed
          ∙ ap (λ (b : Bool). cond b (Ok (splice_at old body x.text)) (Err TooBig)) short;
      sheet = refl;
      new_is = is;
      back = back;
      rule = rule ∙ ap (λ (n : ℕ). place old.id n) (sym number) ∙ sym (ap (λ (b : Splice). place_by b (Some new)) back);
    }

pub refused_text : (x : StyleEdit) (old : SheetEntry) (body : Range) → body_at old.text x.range ≡ Some body → is_sealed x.text ≡ false
    → style_in x old ≡ Err BadText
refused_text x old body at opened =
    ap (style_by x old) at ∙ ap (λ (b : Bool). cond b (placed_text old body x.text) (Err BadText)) opened

-- ---- a sheet that is taken out of its book

-- the sheet that a client may edit is in the book
pub client_there : (key : ℕ) (book : List SheetEntry) (e : SheetEntry) → client_sheet key book ≡ Ok e
    → (entry_of key book ≡ Some e) × (mutable e e.origin ≡ Ok e)
client_there key book e found = by (entry_of key book) refl found
  where
    is : (x : SheetEntry) (g : Origin) → mutable x g ≡ Ok e → x ≡ e
    is x UserAgent f = absurd (cc)
    is x Regular f = cc

    by : (o : Option SheetEntry) → entry_of key book ≡ o → client_by o ≡ Ok e
        → (entry_of key book ≡ Some e) × (mutable e e.origin ≡ Ok e)
    by None there f = absurd (cc)
    by (Some x) there f =
        let same = is x x.origin f in
        (there ∙ ap (λ (y : SheetEntry). Some y) same, subst (λ (y : SheetEntry). mutable y y.origin ≡ Ok e) same f)

-- its id is one of a book
pub client_id : (key : ℕ) (book : List SheetEntry) (m : MayEdit key book) → m.sheet.id ≡ key
client_id key book m = entry_id key book m.sheet (client_there key book m.sheet m.is).0

-- the book without the sheet, and the sheet
pub record TakenOut (key : ℕ) (book out : List SheetEntry) (opened : SheetEntry) : Type 0 where
  pub own : opened.id ≡ key
  pub client : mutable opened opened.origin ≡ Ok opened
  pub there : IsSome (entry_of opened.id out)
  pub back : book_changed opened out ≡ book
  pub over : (e : SheetEntry) → e.id ≡ opened.id → book_changed e out ≡ book_changed e book

pub taken_out : (key : ℕ) (book out : List SheetEntry) (empty opened : SheetEntry) → MayEdit key book → empty.id ≡ key
    → out ≡ book_changed empty book → entry_of empty.id book ≡ Some opened → TakenOut key book out opened
taken_out key book out empty opened m named out_is found =
    let w = client_there key book m.sheet m.is in
    let here : entry_of key book ≡ Some opened = ap (λ (k : ℕ). entry_of k book) (sym named) ∙ found in
    let same : m.sheet ≡ opened = some_same m.sheet opened (sym w.0 ∙ here) in
    let own : opened.id ≡ key = entry_id key book opened here in
    let again : entry_of opened.id book ≡ Some opened = entry_again key book opened here in
    record {
      own = own;
      client = subst (λ (e : SheetEntry). mutable e e.origin ≡ Ok e) same w.1;
      there = subst (λ (b : List SheetEntry). IsSome (entry_of opened.id b)) (sym out_is)
          (changed_there empty opened.id book (some_there (entry_of opened.id book) opened again));
      back = ap (book_changed opened) out_is ∙ changed_back opened empty book (named ∙ sym own) again;
      over = λ e is. ap (book_changed e) out_is ∙ changed_over e empty book (named ∙ sym own ∙ sym is);
    }
  where
    some_same : (a b : SheetEntry) → ◌≡◌ {A = Option SheetEntry} (Some a) (Some b) → a ≡ b
    some_same a b e = cc

-- what was made of it, in the book where it stands again
pub apart_done : (r : Result (Unit {0}) SheetErr) (edits : List StyleEdit) (key : ℕ) (book out next : List SheetEntry)
    (opened new : SheetEntry) (backs more : List Splice) → TakenOut key book out opened → next ≡ book_changed new out
    → OnOk r (with_backs backs (styles_edited edits (book_changed opened out)) ≡ Ok (book_changed new out, more))
    → OnOk r (with_backs backs (styles_edited edits book) ≡ Ok (next, more))
apart_done r edits key book out next opened new backs more t is done =
    subst (λ (b : List SheetEntry). OnOk r (with_backs backs (styles_edited edits b) ≡ all next)) t.back
    (subst (λ (n : List SheetEntry). OnOk r (with_backs backs (styles_edited edits (book_changed opened out)) ≡ all n)) (sym is) done)
  where
    all : List SheetEntry → EditsOutcome
    all n = Ok (n, more)

pub apart_rules : (r : Result (Unit {0}) SheetErr) (edits : List StyleEdit) (key : ℕ) (book out : List SheetEntry) (opened : SheetEntry)
    (rules more : List RulePlace) → TakenOut key book out opened
    → OnOk r (more ≡ rules ++ edited_rules edits (book_changed opened out)) → OnOk r (more ≡ rules ++ edited_rules edits book)
apart_rules r edits key book out opened rules more t done =
    subst (λ (b : List SheetEntry). OnOk r (more ≡ rules ++ edited_rules edits b)) t.back done

pub apart_fault : (r : Result (Unit {0}) SheetErr) (edits : List StyleEdit) (key : ℕ) (book out : List SheetEntry) (opened : SheetEntry)
    → TakenOut key book out opened → IfFault r (λ f. styles_edited edits (book_changed opened out) ≡ Err f)
    → IfFault r (λ f. styles_edited edits book ≡ Err f)
apart_fault r edits key book out opened t done =
    subst (λ (b : List SheetEntry). IfFault r (λ f. styles_edited edits b ≡ Err f)) t.back done

pub apart_only : (key : ℕ) (book out next : List SheetEntry) (opened new : SheetEntry) → TakenOut key book out opened → new.id ≡ opened.id
    → next ≡ book_changed new out → ChangesOnly key book next
apart_only key book out next opened new t same is =
    record { sheet = new; own = same ∙ t.own; is = is ∙ t.over new same }

-- the book as it was
pub only_same : (key : ℕ) (book : List SheetEntry) → MayEdit key book → ChangesOnly key book book
only_same key book m =
    let own = client_id key book m in
    record {
      sheet = m.sheet;
      own = own;
      is = sym (changed_self m.sheet book (ap (λ (k : ℕ). entry_of k book) own ∙ (client_there key book m.sheet m.is).0));
    }

-- what was kept of it
pub only_olds : (key : ℕ) (book next olds more : List SheetEntry) (e : SheetEntry) → client_sheet key book ≡ Ok e → IsEntry e
    → Keeps e olds more → All (IsOld book) olds → ChangesOnly key book next → All (IsOld next) more
only_olds key book next olds more e client entry keeps all only =
    let there = entry_again key book e (client_there key book e client).0 in
    subst (λ (b : List SheetEntry). All (IsOld b) more) (sym only.is)
    (olds_stay only.sheet book more (kept_all book olds more e entry there keeps all))

pub only_restored : (key : ℕ) (book next olds more : List SheetEntry) (e : SheetEntry) → client_sheet key book ≡ Ok e
    → Keeps e olds more → list_any (λ old. nat_eq old.id e.id) more ≡ true → ChangesOnly key book next
    → olds_restored more next ≡ olds_restored olds book
only_restored key book next olds more e client keeps kept only =
    let here = (client_there key book e client).0 in
    let there = entry_again key book e here in
    let same : e.id ≡ only.sheet.id = entry_id key book e here ∙ sym only.own in
    kept_restored only.sheet book next more (subst (λ (k : ℕ). list_any (λ old. nat_eq old.id k) more ≡ true) same kept) only.is
    ∙ kept_same book olds more e there keeps
