-- The places of a sheet are those behind its whole parts, and they ascend.
use Rattle.std.proofs.Common.{◌≡◌, ◌⊎◌, inl, inr, cond, ℕ, zero, suc, ◌+◌, ◌-◌, ◌<◌, ◌≤◌, true, false, List, [], ◌∷◌, ◌++◌, length}
use Rattle.std.proofs.Common.{slice_index, Contains, Option, Some, None, refl, sym, ap, subst, ◌∙◌, append_assoc, arith}
use Rattle.std.specs.Prelude.{◌&&◌, ◌==◌, nat_le, slice_get, option_to_list}
use Rattle.std.specs.List.{AllByRecursion}
use Rattle.std.proofs.lemmas.Bool.{eqb-true, eq-eqb}
use Rattle.std.proofs.lemmas.Bool.Decides.{nat_tests}
use Rattle.css_tokens.specs.declared.token.Token.{Token}
use Rattle.css_tokens.specs.declared.token.TokenKind.{TokenKind}
use Rattle.css_tokens.specs.declared.token.TokenKind.TheVariants as tokens
use Rattle.css_tokens.specs.Pieces.{pieces}
use Rattle.css_tokens.proofs.Ends.{and_true}
use Rattle.selectors.proofs.Choices.{none_some, some_is, passed_test}
use Rattle.sheet_reader.specs.Layout.{level_of}
use Rattle.sheet_reader.specs.Parts.{EndingForm, text_end, semicolon, block, PartForm, passed, at_rule, qualified, ending_pieces}
use Rattle.sheet_reader.specs.Parts.{part_pieces, parts}
use Rattle.sheet_reader.specs.Grammar.{AreParts}
use Rattle.sheet_reader.specs.Sheets.{is_closed_comment, passed_place, ending_place, place_of, places_in, sheet_of}
use Rattle.sheet_reader.proofs.GrammarForms.{parts_spelled}
use Rattle.sheet_laws.specs.Said.{AreSaid, none_said, says_and, silent_and}
use Rattle.sheet_reader.specs.Solids.{StandBetween}
use Rattle.sheet_laws.specs.Places.{IsWholeEnding, whole_semicolon, whole_block, is_comment_kind, EndsComment, IsWholePart, whole_passed}
use Rattle.sheet_laws.specs.Places.{whole_comment, whole_at_rule, whole_qualified, IsPlaceBehind, IsBetweenParts, AscendFrom}
use Rattle.sheet_reader.proofs.Cutting.{pieces_stand}
use Rattle.sheet_reader.proofs.WordCuts.{get_last}
use Rattle.sheet_laws.proofs.RuleCuts.{StandCut, stand_cut}
use Rattle.sheet_laws.proofs.SaidLists.{listed, Tells, said_is}

-- ---- comments

closed_ends : (text : List ℕ) (t : Token) → is_closed_comment text t ≡ true → EndsComment text t
closed_ends text t e =
    let a = and_true (nat_le (t.start + 4) t.end) (slice_index text (t.end - 2) == 42 && slice_index text (t.end - 1) == 47) e in
    let b = and_true (slice_index text (t.end - 2) == 42) (slice_index text (t.end - 1) == 47) a.1 in
    record {
      long = le_true (t.start + 4) t.end a.0;
      star = eqb-true (slice_index text (t.end - 2)) 42 b.0;
      slash = eqb-true (slice_index text (t.end - 1)) 47 b.1;
    }
  where
    le_true : (a b : ℕ) → nat_le a b ≡ true → a ≤ b
    le_true a b h = grind (arith, nat_tests)

ends_closed : (text : List ℕ) (t : Token) → EndsComment text t → is_closed_comment text t ≡ true
ends_closed text t e =
    let long = true_le (t.start + 4) t.end e.long in
    let star = eq-eqb (slice_index text (t.end - 2)) 42 e.star in
    let slash = eq-eqb (slice_index text (t.end - 1)) 47 e.slash in
    λ i. long i && (star i && slash i)
  where
    true_le : (a b : ℕ) → a ≤ b → nat_le a b ≡ true
    true_le a b h = grind (arith, nat_tests)

-- ---- the place behind a part

-- an ending that the text's end did not cut short
record EndsWhole (ending : EndingForm) (place : ℕ) : Type 0 where
  front : List Token
  last : Token
  is : ending_pieces ending ≡ front ++ last ∷ []
  whole : IsWholeEnding ending
  ends : place ≡ last.end

ends_whole : (ending : EndingForm) (place : ℕ) → ending_place ending ≡ Some place → EndsWhole ending place
ends_whole text_end place e = absurd (none_some place e)
ends_whole (semicolon t) place e = record {
  front = [];
  last = t;
  is = refl;
  whole = whole_semicolon t;
  ends = sym (some_is {A = ℕ} t.end place e);
}
ends_whole (block first inside None) place e = absurd (none_some place e)
ends_whole (block first inside (Some close)) place e = record {
  front = first ∷ inside;
  last = close;
  is = refl;
  whole = whole_block first close inside;
  ends = sym (some_is {A = ℕ} close.end place e);
}

passed_spelled : (text : List ℕ) (t : Token) (k : TokenKind) (place : ℕ) → t.kind ≡ k → passed_place text t k ≡ Some place
    → IsPlaceBehind text (passed t) place
passed_spelled text t tokens.Comment place is e =
    let a = passed_test (is_closed_comment text t) (some_end t.end) place e in
    record {
      front = [];
      last = t;
      is = refl;
      whole = whole_comment t (ap is_comment_kind is) (closed_ends text t a.0);
      ends = sym (some_is {A = ℕ} t.end place a.1);
    }
  where
    some_end : ℕ → Option ℕ
    some_end n = Some n
passed_spelled text t _ place is e = record {
  front = [];
  last = t;
  is = refl;
  whole = whole_passed t (ap is_comment_kind is);
  ends = sym (some_is {A = ℕ} t.end place e);
}

pub place_spelled : (text : List ℕ) (p : PartForm) (place : ℕ) → place_of text p ≡ Some place → IsPlaceBehind text p place
unfolding place_of
place_spelled text (passed t) place e = passed_spelled text t t.kind place refl e
place_spelled text (at_rule keyword prelude ending) place e =
    let w = ends_whole ending place e in
    record {
      front = keyword ∷ (prelude ++ w.front);
      last = w.last;
      is = ap (λ (xs : List Token). keyword ∷ (prelude ++ xs)) w.is ∙ ap (λ (xs : List Token). keyword ∷ xs)
          (sym (append_assoc prelude w.front (w.last ∷ [])));
      whole = whole_at_rule keyword prelude ending w.whole;
      ends = w.ends;
    }
place_spelled text (qualified prelude ending) place e =
    let w = ends_whole ending place e in
    record {
      front = prelude ++ w.front;
      last = w.last;
      is = ap (λ (xs : List Token). prelude ++ xs) w.is ∙ sym (append_assoc prelude w.front (w.last ∷ []));
      whole = whole_qualified prelude ending w.whole;
      ends = w.ends;
    }

last_same : (xs ys : List Token) (x y : Token) → xs ++ x ∷ [] ≡ ys ++ y ∷ [] → x ≡ y
last_same xs ys x y e = some_is {A = Token} x y
    (sym (get_last xs x) ∙ ap (λ (ts : List Token). slice_get ts (length ts - 1)) e ∙ get_last ys y)

-- the last piece of a whole ending, behind other pieces, ends where the ending does
whole_ends : (ending : EndingForm) (before front : List Token) (last : Token) → IsWholeEnding ending
    → before ++ ending_pieces ending ≡ front ++ last ∷ [] → ending_place ending ≡ Some last.end
whole_ends _ before front last (whole_semicolon t) e = ap (λ (u : Token). some_end u.end) (last_same before front t last e)
  where
    some_end : ℕ → Option ℕ
    some_end n = Some n
whole_ends _ before front last (whole_block first close inside) e =
    ap (λ (u : Token). some_end u.end)
    (last_same (before ++ first ∷ inside) front close last (append_assoc before (first ∷ inside) (close ∷ []) ∙ e))
  where
    some_end : ℕ → Option ℕ
    some_end n = Some n

abbrev at_place : ℕ → Option ℕ
at_place n = Some n

passed_by : (text : List ℕ) (t : Token) (k : TokenKind) → is_comment_kind k ≡ false → passed_place text t k ≡ at_place t.end
passed_by text t tokens.Comment e = absurd (cc)
passed_by text t _ e = refl

comment_by : (text : List ℕ) (t : Token) (k : TokenKind) → is_comment_kind k ≡ true → EndsComment text t
    → passed_place text t k ≡ at_place t.end
comment_by text t tokens.Comment e c = ap (λ b. cond b (at_place t.end) None) (ends_closed text t c)
comment_by text t _ e c = absurd (cc)

place_by : (text : List ℕ) (p : PartForm) (front : List Token) (last : Token) → IsWholePart text p → part_pieces p ≡ front ++ last ∷ []
    → place_of text p ≡ at_place last.end
unfolding place_of
place_by text _ front last (whole_passed t e) is = passed_by text t t.kind e ∙ ap (λ (u : Token). at_place u.end)
    (last_same [] front t last is)
place_by text _ front last (whole_comment t e c) is = comment_by text t t.kind e c ∙ ap (λ (u : Token). at_place u.end)
    (last_same [] front t last is)
place_by text _ front last (whole_at_rule keyword prelude ending w) is = whole_ends ending (keyword ∷ prelude) front last w is
place_by text _ front last (whole_qualified prelude ending w) is = whole_ends ending prelude front last w is

pub place_reads : (text : List ℕ) (p : PartForm) (place : ℕ) → IsPlaceBehind text p place → place_of text p ≡ Some place
place_reads text p place b = place_by text p b.front b.last b.whole b.is ∙ ap at_place (sym b.ends)

-- ---- the places of a sheet

abbrev pub AnyPart : PartForm → Type 0
AnyPart p = Unit {0}

pub any_parts : (ps : List PartForm) → AllByRecursion AnyPart ps
any_parts [] = tt
any_parts (p ∷ ps) = (tt, any_parts ps)

pub places_tell : (text : List ℕ) → Tells AnyPart (IsPlaceBehind text) (place_of text)
places_tell text = record { sound = λ p place well e. place_spelled text p place e; whole = place_reads text }

pub places_listed : (text : List ℕ) (ps : List PartForm) → places_in text ps ≡ listed (place_of text) ps
unfolding places_in listed
places_listed text [] = refl
places_listed text (p ∷ ps) = ap (λ (ns : List ℕ). option_to_list (place_of text p) ++ ns) (places_listed text ps)

pub places_said : (text : List ℕ) (ps : List PartForm) → AreSaid (IsPlaceBehind text) ps (places_in text ps)
places_said text ps = subst (AreSaid (IsPlaceBehind text) ps) (sym (places_listed text ps))
    (said_is AnyPart (IsPlaceBehind text) (place_of text) (places_tell text) ps (any_parts ps))

-- ---- which they are

later : (text : List ℕ) (x : PartForm) (ps : List PartForm) (place : ℕ) → IsBetweenParts text ps place → IsBetweenParts text (x ∷ ps) place
later text x ps place b = record {
  before = x ∷ b.before;
  part = b.part;
  behind = b.behind;
  is = ap (λ (qs : List PartForm). x ∷ qs) b.is;
  ends = b.ends;
}

said_between : (text : List ℕ) (ps : List PartForm) (places : List ℕ) (place : ℕ) → AreSaid (IsPlaceBehind text) ps places
    → Contains places place → IsBetweenParts text ps place
said_between text _ _ place none_said (k, less, is) = absurd (omega (arith, less))
said_between text _ _ place (says_and {xs = xs} {ys = ys} x y s more)
    (zero, less, is) = record { before = []; part = x; behind = xs; is = refl; ends = subst (IsPlaceBehind text x) is s }
said_between text _ _ place (says_and {xs = xs} {ys = ys} x y s more) (suc k, less, is) = later text x xs place
    (said_between text xs ys place more (k, omega (arith, less), is))
said_between text _ _ place (silent_and {xs = xs} {ys = ys} x none more) within = later text x xs place
    (said_between text xs ys place more within)

pub places_between : (text : List ℕ) (place : ℕ) → Contains (sheet_of text).places place
    → (place ≡ 0) ⊎ IsBetweenParts text (parts (level_of None) (pieces text)) place
places_between text place (zero, less, is) = inl (sym is)
places_between text place (suc k, less, is) = inr
    (said_between text (parts (level_of None) (pieces text))
    (places_in text (parts (level_of None) (pieces text))) place (places_said text (parts (level_of None) (pieces text)))
    (k, omega (arith, less), is))

in_more : (o : Option ℕ) (ns : List ℕ) (n : ℕ) → Contains ns n → Contains (option_to_list o ++ ns) n
in_more None ns n within = within
in_more (Some m) ns n (k, less, is) = (suc k, omega (arith, less), is)

in_listed : (text : List ℕ) (before behind : List PartForm) (p : PartForm) (n : ℕ) → place_of text p ≡ Some n
    → Contains (listed (place_of text) (before ++ p ∷ behind)) n
unfolding listed
in_listed text [] behind p n e = subst (λ (o : Option ℕ). Contains (option_to_list o ++ listed (place_of text) behind) n) (sym e)
    (0, omega arith, refl)
in_listed text (q ∷ before) behind p n e = in_more (place_of text q) (listed (place_of text) (before ++ p ∷ behind)) n
    (in_listed text before behind p n e)

pub between_places : (text : List ℕ) (place : ℕ) → IsBetweenParts text (parts (level_of None) (pieces text)) place
    → Contains (sheet_of text).places place
between_places text place b =
    let own = in_listed text b.before b.behind b.part place (place_reads text b.part place b.ends) in
    let same = ap (listed (place_of text)) (sym b.is) ∙ sym (places_listed text (parts (level_of None) (pieces text))) in
    in_more (Some 0) (places_in text (parts (level_of None) (pieces text))) place (subst (λ (ns : List ℕ). Contains ns place) same own)

-- a part by its place among the parts
contained_splits : (text : List ℕ) (ps : List PartForm) (p : PartForm) (place : ℕ) → Contains ps p → IsPlaceBehind text p place
    → IsBetweenParts text ps place
contained_splits text [] p place (k, less, is) b = absurd (omega (arith, less))
contained_splits text (q ∷ ps) p place
    (zero, less, is) b = record {
      before = [];
      part = q;
      behind = ps;
      is = refl;
      ends = subst (λ (x : PartForm). IsPlaceBehind text x place) (sym is) b;
    }
contained_splits text (q ∷ ps) p place (suc k, less, is) b = later text q ps place
    (contained_splits text ps p place (k, omega (arith, less), is) b)

pub closed_rule_place : (text : List ℕ) (prelude inside : List Token) (brace close : Token)
    → Contains (parts (level_of None) (pieces text)) (qualified prelude (block brace inside (Some close)))
    → Contains (sheet_of text).places close.end
unfolding place_of
closed_rule_place text prelude inside brace close within =
    let p = qualified prelude (block brace inside (Some close)) in
    between_places text close.end
    (contained_splits text (parts (level_of None) (pieces text)) p close.end within (place_spelled text p close.end refl))

-- ---- that they ascend

pub stand_order : (from to : ℕ) (ts : List Token) → StandBetween from to ts → from ≤ to
stand_order from to [] all = omega (arith, all)
stand_order from to (t ∷ ts) all = let more = stand_order t.end to ts all.2 in omega (arith, all.0, all.1, more)

pub stand_last : (from to : ℕ) (front : List Token) (last : Token) → StandBetween from to (front ++ last ∷ [])
    → (from < to) × (last.end ≡ to)
stand_last from to [] last all = (omega (arith, all.0, all.1, all.2), all.2)
stand_last from to (t ∷ front) last all = let more = stand_last t.end to front last all.2 in (omega (arith, all.0, all.1, more.0), more.1)

ascend_from : (low place : ℕ) (ns : List ℕ) → low ≤ place → AscendFrom place ns → AscendFrom low ns
ascend_from low place [] less all = tt
ascend_from low place (n ∷ ns) less all = (omega (arith, less, all.0), all.1)

places_ascend_in : (outside : Option ℕ) (text : List ℕ) (from to : ℕ) (ps : List PartForm) (ts : List Token)
    → AreParts (level_of outside) ps ts → StandBetween from to ts
    → AscendFrom from (places_in text ps)
unfolding places_in
places_ascend_in outside text from to [] ts are stands = tt
places_ascend_in outside text from to (p ∷ ps) ts are stands =
    by (place_of text p) refl (places_ascend_in outside text c.seam to ps are.0 are.3 c.right)
  where
    c : StandCut from to (part_pieces p) are.0
    c = stand_cut from to (part_pieces p) are.0 (subst (StandBetween from to) are.1 stands)

    by : (o : Option ℕ) → place_of text p ≡ o → AscendFrom c.seam (places_in text ps)
        → AscendFrom from (option_to_list o ++ places_in text ps)
    by None e more = ascend_from from c.seam (places_in text ps) (stand_order from c.seam (part_pieces p) c.left) more
    by (Some n) e more =
        let b = place_spelled text p n e in
        let l = stand_last from c.seam b.front b.last (subst (StandBetween from c.seam) b.is c.left) in
        let n_is : n ≡ c.seam = b.ends ∙ l.1 in
        (omega (arith, l.0, n_is), subst (λ (m : ℕ). AscendFrom m (places_in text ps)) (sym n_is) more)

pub places_ascend : (text : List ℕ) → (places : List ℕ) × ((sheet_of text).places ≡ 0 ∷ places) × AscendFrom 0 places
places_ascend text = (
  places_in text (parts (level_of None) (pieces text)),
  refl,
  places_ascend_in None text 0 (length text) (parts (level_of None) (pieces text)) (pieces text)
      (parts_spelled (level_of None) (pieces text)) (pieces_stand text),
)
