-- Edits one after the other.
use Rattle.std.proofs.Common.{◌≡◌, ℕ, suc, ◌+◌, ◌<◌, ◌≤◌, List, [], ◌∷◌, ◌++◌, length, drop, get_or, Result, Ok, Err, refl, sym, ap, ◌∙◌}
use Rattle.std.proofs.Common.{append_assoc, append-nil, arith}
use Rattle.std.proofs.Math.Seq.{drop-cons}
use Rattle.std.proofs.lemmas.List.{drop_all}
use Rattle.sheet_reader.specs.declared.book.SheetEntry.{SheetEntry}
use Rattle.style_edits.specs.declared.edits.StyleEdit.{StyleEdit}
use Rattle.style_edits.specs.declared.faults.SheetFault.{SheetFault}
use Rattle.style_edits.specs.declared.splice.Splice.{Splice}
use Rattle.style_edits.specs.declared.faults.SheetErr.{SheetErr}
use Rattle.style_edits.specs.declared.faults.SheetErr.TheVariants.{Fault, Memory}
use Rattle.style_edits.specs.Edits.{Found, EditsOutcome, style_in, style_splice, client_sheet, found_by, edited, with_back, go_on}
use Rattle.style_edits.specs.Edits.{styles_edited, IfFault}
use Rattle.style_edits.specs.Drafts.{Drafts, with_backs}

one_back : (backs : List Splice) (back : Splice) (o : EditsOutcome)
    → with_backs backs (with_back back o) ≡ with_backs (backs ++ back ∷ []) o
one_back backs back (Ok rest) = ap (λ (xs : List Splice). done rest.0 xs) (sym (append_assoc backs (back ∷ []) rest.1))
  where
    done : List SheetEntry → List Splice → EditsOutcome
    done book xs = Ok (book, xs)
one_back backs back (Err f) = refl

step : (backs more : List Splice) (x : StyleEdit) (xs : List StyleEdit) (book next : List SheetEntry) (back : Splice)
    → edited book (style_splice x book) ≡ Ok (next, back) → more ≡ backs ++ back ∷ []
    → with_backs backs (styles_edited (x ∷ xs) book) ≡ with_backs more (styles_edited xs next)
unfolding styles_edited
step backs more x xs book next back done pushed =
    ap (λ (r : Result (List SheetEntry × Splice) SheetFault). with_backs backs (go_on r (λ b. styles_edited xs b))) done
    ∙ one_back backs back (styles_edited xs next)
    ∙ ap (λ (bs : List Splice). with_backs bs (styles_edited xs next)) (sym pushed)

-- an edit more is made
pub edits_more : (edits : List StyleEdit) (i : ℕ) (x : StyleEdit) (backs more : List Splice) (book next : List SheetEntry) (back : Splice)
    (total : EditsOutcome) → i < length edits → x ≡ get_or edits i x
    → edited book (style_splice x book) ≡ Ok (next, back) → more ≡ backs ++ back ∷ []
    → with_backs backs (styles_edited (drop i edits) book) ≡ total → with_backs more (styles_edited (drop (i + 1) edits) next) ≡ total
edits_more edits i x backs more book next back total within is done pushed so_far =
    let cut : drop i edits ≡ x ∷ drop (suc i) edits = drop-cons edits i x within ∙ ap (λ (y : StyleEdit). y ∷ drop (suc i) edits)
    (sym is) in
    let one : i + 1 ≡ suc i = omega arith in
    ap (λ (n : ℕ). with_backs more (styles_edited (drop n edits) next)) one
    ∙ sym (step backs more x (drop (suc i) edits) book next back done pushed)
    ∙ ap (λ (xs : List StyleEdit). with_backs backs (styles_edited xs book)) (sym cut)
    ∙ so_far

fault_is : (backs : List Splice) (o : EditsOutcome) (f : SheetFault) → with_backs backs o ≡ Err f → o ≡ Err f
fault_is backs (Ok rest) f e = let wrong : ◌≡◌ {A = EditsOutcome} (Ok (rest.0, backs ++ rest.1)) (Err f) = e in absurd (cc)
fault_is backs (Err g) f e = e

-- an edit has a fault, and so have all
pub edits_fail : (edits : List StyleEdit) (i : ℕ) (x : StyleEdit) (f : SheetFault) (backs first : List Splice) (book old : List SheetEntry)
    → i < length edits → x ≡ get_or edits i x → style_splice x book ≡ Err f
    → with_backs backs (styles_edited (drop i edits) book) ≡ with_backs first (styles_edited edits old) → styles_edited edits old ≡ Err f
unfolding styles_edited
edits_fail edits i x f backs first book old within is found so_far =
    let cut : drop i edits ≡ x ∷ drop (suc i) edits = drop-cons edits i x within ∙ ap (λ (y : StyleEdit). y ∷ drop (suc i) edits)
    (sym is) in
    fault_is first (styles_edited edits old) f
    (sym so_far ∙ ap (λ (xs : List StyleEdit). with_backs backs (styles_edited xs book)) cut
    ∙ ap (λ (r : Found). with_backs backs (go_on (edited book r) (λ b. styles_edited (drop (suc i) edits) b))) found)

pub edits_none : (edits : List StyleEdit) (i : ℕ) (backs : List Splice) (book : List SheetEntry) (total : EditsOutcome) → length edits ≤ i
    → with_backs backs (styles_edited (drop i edits) book) ≡ total → total ≡ Ok (book, backs)
unfolding styles_edited
edits_none edits i backs book total over so_far =
    sym so_far ∙ ap (λ (xs : List StyleEdit). with_backs backs (styles_edited xs book)) (drop_all i edits over) ∙ ap
    (λ (xs : List Splice). done xs) (append-nil backs)
  where
    done : List Splice → EditsOutcome
    done xs = Ok (book, xs)

-- with no splices before them
pub no_backs : (o : EditsOutcome) → with_backs [] o ≡ o
no_backs (Ok rest) = refl
no_backs (Err f) = refl

-- a fault of one is a fault of all
pub fault_of_all : (A B : Type 0) (stop : SheetErr) (found : Found) (all : EditsOutcome) → IfFault {A = A} (Err stop) (λ f. found ≡ Err f)
    → ((f : SheetFault) → found ≡ Err f → all ≡ Err f) → IfFault {A = B} (Err stop) (λ f. all ≡ Err f)
fault_of_all A B (Fault f) found all own carries = carries f own
fault_of_all A B Memory found all own carries = tt

-- a single edit is made
pub one_edit : (x : StyleEdit) (book next : List SheetEntry) (back : Splice) (backs : List Splice)
    → edited book (style_splice x book) ≡ Ok (next, back) → backs ≡ [] ++ back ∷ [] → styles_edited (x ∷ []) book ≡ Ok (next, backs)
unfolding styles_edited
one_edit x book next back backs done pushed =
    ap (λ (r : Result (List SheetEntry × Splice) SheetFault). go_on r (λ b. styles_edited [] b)) done
    ∙ sym (ap (λ (bs : List Splice). all bs) pushed)
  where
    all : List Splice → EditsOutcome
    all bs = Ok (next, bs)

-- a single edit has a fault
pub one_fault : (x : StyleEdit) (book : List SheetEntry) (f : SheetFault) → style_splice x book ≡ Err f
    → styles_edited (x ∷ []) book ≡ Err f
unfolding styles_edited
one_fault x book f is = ap (λ (r : Found). go_on (edited book r) (λ b. styles_edited [] b)) is

-- a single edit has no sheet to change
pub one_refused : (x : StyleEdit) (book : List SheetEntry) (f : SheetFault) → client_sheet x.sheet book ≡ Err f
    → styles_edited (x ∷ []) book ≡ Err f
one_refused x book f client = one_fault x book f (ap (found_by (style_in x)) client)

-- a single edit stops
pub one_stops : (A : Type 0) (x : StyleEdit) (book : List SheetEntry) (e : SheetEntry) (stop : SheetErr) → client_sheet x.sheet book ≡ Ok e
    → Drafts e (style_in x e) (Err stop) → IfFault {A = A} (Err stop) (λ f. styles_edited (x ∷ []) book ≡ Err f)
one_stops A x book e (Fault f) client found = one_fault x book f (ap (found_by (style_in x)) client ∙ found)
one_stops A x book e Memory client found = tt
