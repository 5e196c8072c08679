-- A table of where brackets close tells where component values end.
use Rattle.std.proofs.Common.{◌≡◌, ℕ, suc, ◌+◌, ◌-◌, ◌<◌, ◌≤◌, Bool, true, false, cond, ◌&&◌, List, [], ◌∷◌, ◌++◌, length}
use Rattle.std.proofs.Common.{take, drop, get_or, All}
use Rattle.std.proofs.Common.{Option, Some, None, option_map, refl, sym, ap, subst, ◌∙◌, append_assoc, append-nil}
use Rattle.std.proofs.Common.{length-append, length-drop, arith}
use Rattle.std.specs.Prelude.{slice_get, option_to_list, IfSome}
use Rattle.std.proofs.lemmas.List.{take-append-drop, take_all}
use Rattle.std.proofs.lemmas.Option.{slice_get_within, slice_get-get_or}
use Rattle.std.proofs.Math.ListN.{get_or-append}
use Rattle.std.proofs.Math.Seq.{get_or-append_seam, take-append_seam, drop-append_seam}
use Rattle.std.proofs.lemmas.List.Elements.{All-head, All-take, All-drop}
use Rattle.css_tokens.specs.declared.token.Token.{Token}
use Rattle.css_tokens.specs.declared.token.TokenKind.{TokenKind}
use Rattle.css_tokens.specs.declared.token.TokenKind.TheVariants as tokens
use Rattle.selectors.proofs.Choices.{none_some, some_is}
use Rattle.sheet_reader.specs.declared.brackets.Bracket.{Bracket}
use Rattle.sheet_reader.specs.declared.brackets.Bracket.TheVariants.{Round, Square, Curly}
use Rattle.sheet_reader.specs.declared.brackets.Stop.TheVariants as stops
use Rattle.sheet_reader.specs.declared.ends.Closing.{Closing}
use Rattle.sheet_reader.specs.declared.ends.Ends.{Ends}
use Rattle.sheet_reader.specs.declared.ends.Ends.TheVariants.{Sought, Told}
use Rattle.sheet_reader.specs.Brackets.{opened_by, closed_by, is_same, open_by, open_after, is_none_open, stops_at, until_in, until}
use Rattle.sheet_reader.specs.Grammar.{is_closing_by, is_closing}
use Rattle.sheet_reader.specs.Ends.{behind_in, left_behind, closing_of, none_closing, closing_past, closing_at, closing_with, AreClosings}
use Rattle.sheet_reader.specs.Ends.{AreTold, AreEnds}
use Rattle.sheet_reader.specs.Parts.{EndingForm, text_end, semicolon, block, PartForm, passed, at_rule, qualified, part_pieces}
use Rattle.sheet_reader.specs.Layout.{MediaForm, names_media, media_by, media_form}
use Rattle.sheet_reader.specs.Frames.{BeginsWith}
use Rattle.sheet_reader.proofs.BracketLemmas.{cut_at}
use Rattle.sheet_reader.proofs.ValueForms.{closes_one}

-- ---- a bracket inside others

under_by : (c : Bracket) (bs cs : List Bracket) (o closes : Option Bracket) → (is_none_open bs && is_closing_by c closes) ≡ false
    → open_by (bs ++ c ∷ cs) o closes ≡ open_by bs o closes ++ c ∷ cs
under_by c bs cs (Some b) closes e = refl
under_by c bs cs None None e = refl
under_by c [] cs None (Some d) e = ap (λ (x : Bool). cond x cs (c ∷ cs)) e
under_by c (first ∷ bs) cs None (Some d) e = by (is_same d first)
  where
    by : (x : Bool) → cond x (bs ++ c ∷ cs) (first ∷ (bs ++ c ∷ cs)) ≡ cond x bs (first ∷ bs) ++ c ∷ cs
    by true = refl
    by false = refl

-- the search goes on behind the piece that closes an inner bracket
then_in : Bracket → List Bracket → Option (List Token) → Option (List Token)
then_in b cs None = None
then_in b cs (Some rest) = behind_in b cs rest

nested : (b c : Bracket) (bs cs : List Bracket) (ts : List Token) → behind_in b (bs ++ c ∷ cs) ts ≡ then_in b cs (behind_in c bs ts)
unfolding behind_in then_in
nested b c bs cs [] = refl
nested b c [] cs (t ∷ ts) = by (is_closing c t.kind) refl (nested b c (open_after [] t.kind) cs ts)
  where
    by : (x : Bool) → is_closing c t.kind ≡ x
        → behind_in b (open_after [] t.kind ++ c ∷ cs) ts ≡ then_in b cs (behind_in c (open_after [] t.kind) ts)
        → behind_in b (open_after (c ∷ cs) t.kind) ts ≡ then_in b cs (cond x (Some ts) (behind_in c (open_after [] t.kind) ts))
    by true e more = ap (λ (bs : List Bracket). behind_in b bs ts) (closes_one c cs t.kind e)
    by false e more = ap (λ (bs : List Bracket). behind_in b bs ts) (under_by c [] cs (opened_by t.kind) (closed_by t.kind) e)
        ∙ more
nested b c (first ∷ bs) cs (t ∷ ts) =
    ap (λ (all : List Bracket). behind_in b all ts) (under_by c (first ∷ bs) cs (opened_by t.kind) (closed_by t.kind) refl)
    ∙ nested b c (open_after (first ∷ bs) t.kind) cs ts

-- ---- one piece more before others

opener_closes : (kind : TokenKind) (c : Bracket) → opened_by kind ≡ Some c → closed_by kind ≡ None
opener_closes tokens.Function c e = refl
opener_closes tokens.OpenRound c e = refl
opener_closes tokens.OpenSquare c e = refl
opener_closes tokens.OpenCurly c e = refl
opener_closes _ c e = absurd (none_some c e)

past_opener : (b c : Bracket) (t : Token) (ts : List Token) → opened_by t.kind ≡ Some c
    → behind_in b [] (t ∷ ts) ≡ then_in b [] (behind_in c [] ts)
unfolding behind_in
past_opener b c t ts e =
    let none = opener_closes t.kind c e in
    ap (λ (o : Option Bracket). cond (is_closing_by b o) (Some ts) (behind_in b (open_by [] (opened_by t.kind) o) ts)) none
    ∙ ap (λ (o : Option Bracket). behind_in b (open_by [] o None) ts) e
    ∙ nested b c [] [] ts

past_all : (o : Option (List Token))
    → record {
      round = option_map (λ (rest : List Token). length rest) (then_in Round [] o);
      square = option_map (λ (rest : List Token). length rest) (then_in Square [] o);
      curly = option_map (λ (rest : List Token). length rest) (then_in Curly [] o);
    }
    ≡ closing_past o
unfolding then_in
past_all None = refl
past_all (Some rest) = refl

pub before_opener : (t : Token) (ts : List Token) (c : Bracket) → opened_by t.kind ≡ Some c
    → closing_past (behind_in c [] ts) ≡ closing_of (t ∷ ts)
before_opener t ts c e = sym
    ((λ i. record {
      round = option_map (λ (rest : List Token). length rest) (past_opener Round c t ts e i);
      square = option_map (λ (rest : List Token). length rest) (past_opener Square c t ts e i);
      curly = option_map (λ (rest : List Token). length rest) (past_opener Curly c t ts e i);
    })
    ∙ past_all (behind_in c [] ts))

none_more : (closes : Option Bracket) → open_by [] None closes ≡ []
none_more None = refl
none_more (Some c) = refl

past_plain : (b : Bracket) (t : Token) (ts : List Token) (closes : Option Bracket) → opened_by t.kind ≡ None → closed_by t.kind ≡ closes
    → behind_in b [] (t ∷ ts) ≡ cond (is_closing_by b closes) (Some ts) (behind_in b [] ts)
unfolding behind_in
past_plain b t ts closes none e =
    ap (λ (o : Option Bracket). cond (is_closing_by b (closed_by t.kind)) (Some ts) (behind_in b (open_by [] o (closed_by t.kind)) ts)) none
    ∙ ap (λ (o : Option Bracket). cond (is_closing_by b o) (Some ts) (behind_in b (open_by [] None o) ts)) e
    ∙ ap (λ (bs : List Bracket). cond (is_closing_by b closes) (Some ts) (behind_in b bs ts)) (none_more closes)

plain_all : (t : Token) (ts : List Token) (closes : Option Bracket) → opened_by t.kind ≡ None → closed_by t.kind ≡ closes
    → closing_of (t ∷ ts)
    ≡ record {
      round = option_map (λ (rest : List Token). length rest) (cond (is_closing_by Round closes) (Some ts) (behind_in Round [] ts));
      square = option_map (λ (rest : List Token). length rest) (cond (is_closing_by Square closes) (Some ts) (behind_in Square [] ts));
      curly = option_map (λ (rest : List Token). length rest) (cond (is_closing_by Curly closes) (Some ts) (behind_in Curly [] ts));
    }
plain_all t ts closes none e i = record {
  round = option_map (λ (rest : List Token). length rest) (past_plain Round t ts closes none e i);
  square = option_map (λ (rest : List Token). length rest) (past_plain Square t ts closes none e i);
  curly = option_map (λ (rest : List Token). length rest) (past_plain Curly t ts closes none e i);
}

pub before_closer : (t : Token) (ts : List Token) (c : Bracket) → opened_by t.kind ≡ None → closed_by t.kind ≡ Some c
    → closing_with (closing_of ts) c (length ts) ≡ closing_of (t ∷ ts)
before_closer t ts Round none e = sym (plain_all t ts (Some Round) none e)
before_closer t ts Square none e = sym (plain_all t ts (Some Square) none e)
before_closer t ts Curly none e = sym (plain_all t ts (Some Curly) none e)

pub before_plain : (t : Token) (ts : List Token) → opened_by t.kind ≡ None → closed_by t.kind ≡ None → closing_of ts ≡ closing_of (t ∷ ts)
before_plain t ts none e = sym (plain_all t ts None none e)

-- ---- what is behind a closing piece stands behind the pieces before it

pub record IsBehind (rest ts : List Token) : Type 0 where
  pub before : List Token
  pub is : ts ≡ before ++ rest
  pub less : length rest < length ts

pub is_behind : (b : Bracket) (bs : List Bracket) (ts rest : List Token) → behind_in b bs ts ≡ Some rest → IsBehind rest ts
unfolding behind_in
is_behind b bs [] rest e = absurd (none_some rest e)
is_behind b bs (t ∷ ts) rest e = by (is_none_open bs && is_closing b t.kind) e (is_behind b (open_after bs t.kind) ts rest)
  where
    by : (x : Bool) → cond x (Some ts) (behind_in b (open_after bs t.kind) ts) ≡ Some rest
        → (behind_in b (open_after bs t.kind) ts ≡ Some rest → IsBehind rest ts) → IsBehind rest (t ∷ ts)
    by true e later =
        let same : ts ≡ rest = some_is ts rest e in
        let len = ap (λ (xs : List Token). length xs) same in
        record { before = t ∷ []; is = ap (λ (xs : List Token). t ∷ xs) same; less = omega (arith, len) }
    by false e later =
        let more = later e in
        let len = more.less in
        record { before = t ∷ more.before; is = ap (λ (xs : List Token). t ∷ xs) more.is; less = omega (arith, len) }

-- ---- the table

pub none_at_end : none_closing ≡ closing_of []
unfolding behind_in
none_at_end = refl

pub first_closings : AreClosings (none_closing ∷ []) []
first_closings [] [] e = ap (λ (c : Closing). Some c) none_at_end
first_closings [] (t ∷ ts) e = absurd (cc)
first_closings (x ∷ xs) rest e = absurd (cc)

get_last : (table : List Closing) (c : Closing) (n : ℕ) → n ≡ length table → slice_get (table ++ c ∷ []) n ≡ Some c
get_last table c n e =
    let len = length-append table (c ∷ []) in
    ap (λ (k : ℕ). slice_get (table ++ c ∷ []) k) e
    ∙ slice_get-get_or (table ++ c ∷ []) (length table) c (omega (arith, len))
    ∙ ap (λ (x : Closing). Some x) (get_or-append_seam table c [] c)

get_before : (table : List Closing) (c : Closing) (n : ℕ) → n < length table → slice_get (table ++ c ∷ []) n ≡ slice_get table n
get_before table c n fits =
    let len = length-append table (c ∷ []) in
    slice_get-get_or (table ++ c ∷ []) n c (omega (arith, len, fits))
    ∙ ap (λ (x : Closing). Some x) (get_or-append table (c ∷ []) c n fits)
    ∙ sym (slice_get-get_or table n c fits)

pub more_closings : (table : List Closing) (c : Closing) (t : Token) (ts : List Token) → length table ≡ suc (length ts)
    → c ≡ closing_of (t ∷ ts) → AreClosings table ts → AreClosings (table ++ c ∷ []) (t ∷ ts)
more_closings table c t ts size is told [] rest e =
    let len = ap (λ (xs : List Token). length xs) e in
    get_last table c (length rest) (omega (arith, size, len)) ∙ ap (λ (x : Closing). Some x) (is ∙ ap closing_of e)
more_closings table c t ts size is told (x ∷ xs) rest e =
    let tail : ts ≡ xs ++ rest = ap (drop 1) e in
    let len = ap (λ (ys : List Token). length ys) tail ∙ length-append xs rest in
    get_before table c (length rest) (omega (arith, size, len)) ∙ told xs rest tail

pub all_closings : (table : List Closing) (ts : List Token) → AreClosings table ts → slice_get table (length ts) ≡ Some (closing_of ts)
all_closings table ts told = told [] ts refl

pub closings_at : (table : List Closing) (ts rest : List Token) → AreClosings table ts → IsBehind rest ts
    → slice_get table (length rest) ≡ Some (closing_of rest)
closings_at table ts rest told b = told b.before rest b.is

later_closings : (table : List Closing) (xs ys : List Token) → AreClosings table (xs ++ ys) → AreClosings table ys
later_closings table xs ys told before rest e =
    told (xs ++ before) rest (ap (λ (zs : List Token). xs ++ zs) e ∙ sym (append_assoc xs before rest))

-- ---- what is told of one bracket

pub at_bracket : (b : Bracket) (ts : List Token) (c : Closing) → c ≡ closing_of ts → closing_at c b ≡ left_behind b ts
at_bracket Round ts c e = ap (λ (x : Closing). x.round) e
at_bracket Square ts c e = ap (λ (x : Closing). x.square) e
at_bracket Curly ts c e = ap (λ (x : Closing). x.curly) e

pub told_is : (table : List Closing) (ts : List Token) (c : Closing) → AreClosings table ts → slice_get table (length ts) ≡ Some c
    → c ≡ closing_of ts
told_is table ts c told e = some_is c (closing_of ts) (sym e ∙ all_closings table ts told)

pub record IsLeft (b : Bracket) (ts : List Token) (left : ℕ) : Type 0 where
  pub rest : List Token
  pub is : behind_in b [] ts ≡ Some rest
  pub size : length rest ≡ left

pub left_is : (b : Bracket) (ts : List Token) (left : ℕ) → left_behind b ts ≡ Some left → IsLeft b ts left
left_is b ts left e = by (behind_in b [] ts) refl e
  where
    by : (o : Option (List Token)) → behind_in b [] ts ≡ o → option_map (λ (rest : List Token). length rest) o ≡ Some left
        → IsLeft b ts left
    by None is e = absurd (none_some left e)
    by (Some rest) is e = record { rest = rest; is = is; size = some_is (length rest) left e }

pub none_behind : (b : Bracket) (ts : List Token) → left_behind b ts ≡ None → behind_in b [] ts ≡ None
none_behind b ts e = by (behind_in b [] ts) refl e
  where
    by : (o : Option (List Token)) → behind_in b [] ts ≡ o → option_map (λ (rest : List Token). length rest) o ≡ None
        → behind_in b [] ts ≡ None
    by None is e = is
    by (Some rest) is e = absurd (none_some (length rest) (sym e))

pub left_within : (table : List Closing) (b : Bracket) (ts : List Token) (left : ℕ) → AreClosings table ts → left_behind b ts ≡ Some left
    → left < length table
left_within table b ts left told e =
    let own = left_is b ts left e in
    let less = (is_behind b [] ts own.rest own.is).less in
    let size = own.size in
    let all = slice_get_within table (length ts) (closing_of ts) (all_closings table ts told) in
    omega (arith, less, size, all)

pub left_told : (table : List Closing) (b : Bracket) (ts : List Token) (left : ℕ) (c : Closing) → AreClosings table ts
    → left_behind b ts ≡ Some left → slice_get table left ≡ Some c → c ≡ closing_past (behind_in b [] ts)
left_told table b ts left c told e at =
    let own = left_is b ts left e in
    some_is c (closing_of own.rest)
    (sym at ∙ ap (slice_get table) (sym own.size) ∙ closings_at table ts own.rest told (is_behind b [] ts own.rest own.is))
    ∙ sym (ap closing_past own.is)

-- ---- where a block ends

ends_same : (kind : TokenKind) → stops_at stops.BlockEnd kind ≡ is_closing Curly kind
ends_same tokens.CloseCurly = refl
ends_same tokens.CloseRound = refl
ends_same tokens.CloseSquare = refl
ends_same _ = refl

-- so many pieces stand in a block of these, where others follow them, by how many stand behind its end
pub Fits : ℕ → ℕ → Option ℕ → ℕ → Type 0
Fits len behind None n = n ≡ len
Fits len behind (Some left) n = (behind ≤ left → n + suc left ≡ len + behind) × (left < behind → n ≡ len)

fits_more : (len behind n : ℕ) (o : Option ℕ) → Fits len behind o n → Fits (suc len) behind o (suc n)
unfolding Fits
fits_more len behind n None e = omega (arith, e)
fits_more len behind n (Some left) e =
    (λ le. let own = e.0 le in omega (arith, own), λ lt. let own = e.1 lt in omega (arith, own))

fits_none : (bs : List Bracket) (others : List Token) (o : Option (List Token)) → behind_in Curly bs others ≡ o
    → Fits 0 (length others) (option_map (λ (rest : List Token). length rest) o) 0
unfolding Fits
fits_none bs others None e = refl
fits_none bs others (Some rest) e =
    let less = (is_behind Curly bs others rest e).less in
    (λ le. absurd (omega (arith, less, le)), λ lt. refl)

fits_here : (ts others : List Token) → Fits (suc (length ts)) (length others) (Some (length (ts ++ others))) 0
unfolding Fits
fits_here ts others =
    let len = length-append ts others in
    (λ le. omega (arith, len), λ lt. absurd (omega (arith, len, lt)))

until_fits : (bs : List Bracket) (ts others : List Token)
    → Fits (length ts) (length others) (option_map (λ (rest : List Token). length rest) (behind_in Curly bs (ts ++ others)))
    (until_in stops.BlockEnd bs ts)
unfolding behind_in until_in
until_fits bs [] others = fits_none bs others (behind_in Curly bs others) refl
until_fits bs (t ∷ ts) others = by (is_none_open bs && stops_at stops.BlockEnd t.kind) (until_fits (open_after bs t.kind) ts others)
  where
    same : (is_none_open bs && stops_at stops.BlockEnd t.kind) ≡ (is_none_open bs && is_closing Curly t.kind)
    same = ap (λ (x : Bool). is_none_open bs && x) (ends_same t.kind)

    Own : Bool → Bool → Type 0
    Own x y = Fits (suc (length ts)) (length others)
        (option_map (λ (rest : List Token). length rest)
        (cond x (Some (ts ++ others)) (behind_in Curly (open_after bs t.kind) (ts ++ others))))
        (cond y 0 (suc (until_in stops.BlockEnd (open_after bs t.kind) ts)))

    Later : Type 0
    Later = Fits (length ts) (length others)
        (option_map (λ (rest : List Token). length rest) (behind_in Curly (open_after bs t.kind) (ts ++ others)))
        (until_in stops.BlockEnd (open_after bs t.kind) ts)

    both : (x : Bool) → Later → Own x x
    both true more = fits_here ts others
    both false more = fits_more (length ts) (length others) (until_in stops.BlockEnd (open_after bs t.kind) ts) _ more

    by : (x : Bool) → Later → Own (is_none_open bs && is_closing Curly t.kind) (is_none_open bs && stops_at stops.BlockEnd t.kind)
    by x more = subst (λ (y : Bool). Own y (is_none_open bs && stops_at stops.BlockEnd t.kind)) same
        (both (is_none_open bs && stops_at stops.BlockEnd t.kind) more)

pub told_closing : (table : List Closing) (behind : ℕ) (ts : List Token) (told : AreTold table behind ts)
    → slice_get table (length ts + behind) ≡ Some (closing_of (ts ++ told.others))
told_closing table behind ts told =
    let len : length ts + behind ≡ length (ts ++ told.others) =
    let sum = length-append ts told.others in let size = told.size in omega (arith, sum, size) in
    ap (slice_get table) len ∙ all_closings table (ts ++ told.others) told.told

pub told_within : (table : List Closing) (behind : ℕ) (ts : List Token) → AreTold table behind ts → length ts + behind < length table
told_within table behind ts told =
    slice_get_within table (length ts + behind) (closing_of (ts ++ told.others)) (told_closing table behind ts told)

pub told_fits : (table : List Closing) (behind : ℕ) (ts : List Token) (c : Closing) → AreTold table behind ts
    → slice_get table (length ts + behind) ≡ Some c → Fits (length ts) behind c.curly (until stops.BlockEnd ts)
told_fits table behind ts c told e =
    let is = some_is c (closing_of (ts ++ told.others)) (sym e ∙ told_closing table behind ts told) in
    subst (λ (o : Option ℕ). Fits (length ts) behind o (until stops.BlockEnd ts)) (sym (ap (λ (x : Closing). x.curly) is))
    (subst (λ (n : ℕ). Fits (length ts) n (left_behind Curly (ts ++ told.others)) (until stops.BlockEnd ts)) told.size
    (until_fits [] ts told.others))

pub fits_found : (len behind left n : ℕ) (o : Option ℕ) → o ≡ Some left → behind ≤ left → Fits len behind o n → n + suc left ≡ len + behind
unfolding Fits
fits_found len behind left n o e le fits = (subst (λ (x : Option ℕ). Fits len behind x n) e fits).0 le

pub fits_past : (len behind left n : ℕ) (o : Option ℕ) → o ≡ Some left → left < behind → Fits len behind o n → n ≡ len
unfolding Fits
fits_past len behind left n o e lt fits = (subst (λ (x : Option ℕ). Fits len behind x n) e fits).1 lt

pub fits_open : (len behind n : ℕ) (o : Option ℕ) → o ≡ None → Fits len behind o n → n ≡ len
unfolding Fits
fits_open len behind n o e fits = subst (λ (x : Option ℕ). Fits len behind x n) e fits

-- ---- of fewer pieces

pub ends_later : (ends : Ends) (n : ℕ) (ts : List Token) → AreEnds ends ts → AreEnds ends (drop n ts)
ends_later Sought n ts told = tt
ends_later (Told table behind) n ts told = record {
  others = told.others;
  size = told.size;
  told = later_closings table.now (take n ts) (drop n ts ++ told.others)
      (subst (AreClosings table.now)
      (sym (ap (λ (xs : List Token). xs ++ told.others) (take-append-drop n ts)) ∙ append_assoc (take n ts) (drop n ts) told.others)
      told.told);
}

-- the pieces from a place on, as the code cuts them
pub rest_all : (n : ℕ) (ts : List Token) → take (length ts - n) (drop n ts) ≡ drop n ts
rest_all n ts = take_all (length ts - n) (drop n ts) (let len = length-drop n ts in omega (arith, len))

pub ends_rest : (ends : Ends) (n : ℕ) (ts : List Token) → AreEnds ends ts → AreEnds ends (take (length ts - n) (drop n ts))
ends_rest ends n ts told = subst (AreEnds ends) (sym (rest_all n ts)) (ends_later ends n ts told)

pub told_front : (table : List Closing) (behind n less : ℕ) (ts : List Token) → n + less ≡ length ts → AreTold table behind ts
    → AreTold table (behind + less) (take n ts)
told_front table behind n less ts is told = record {
  others = drop n ts ++ told.others;
  size =
      let sum = length-append (drop n ts) told.others in
      let cut = length-drop n ts in
      let size = told.size in
      omega (arith, sum, cut, size, is);
  told = subst (AreClosings table)
      (sym (ap (λ (xs : List Token). xs ++ told.others) (take-append-drop n ts)) ∙ append_assoc (take n ts) (drop n ts) told.others)
      told.told;
}

-- ---- one piece more in the table

pub closings_step : (table new : List Closing) (ts rest : List Token) (n : ℕ) (c : Closing) (d : Token) → n < length ts
    → length table ≡ suc n → AreClosings table (drop (length ts - n) ts) → new ≡ table ++ c ∷ []
    → c ≡ closing_of (get_or ts (length ts - 1 - n) d ∷ rest) → rest ≡ drop (length ts - 1 - n + 1) ts
    → AreClosings new (drop (length ts - (n + 1)) ts)
closings_step table new ts rest n c d fits size told is_new is is_rest =
    let place = length ts - 1 - n in
    let here : place ≡ length ts - (n + 1) = omega arith in
    let behind : length ts - n ≡ place + 1 = omega (arith, fits) in
    let cut = cut_at ts place d (omega (arith, fits)) in
    let len = length-drop (place + 1) ts in
    subst (AreClosings new) (sym cut ∙ ap (λ (k : ℕ). drop k ts) here)
    (subst (λ (x : List Closing). AreClosings x (get_or ts place d ∷ drop (place + 1) ts)) (sym is_new)
    (more_closings table c (get_or ts place d) (drop (place + 1) ts) (omega (arith, size, len, fits))
    (is ∙ ap (λ (xs : List Token). closing_of (get_or ts place d ∷ xs)) is_rest)
    (subst (λ (k : ℕ). AreClosings table (drop k ts)) behind told)))

pub all_told : (table : List Closing) (ts : List Token) → AreClosings table ts → AreTold table 0 ts
all_told table ts told = record { others = []; size = refl; told = subst (AreClosings table) (sym (append-nil ts)) told }

-- ---- in the block of a media rule

media_begins : (keyword : Token) (prelude : List Token) (ending : EndingForm) (m : MediaForm) (rest : List Token)
    → media_by keyword prelude ending ≡ Some m → BeginsWith (part_pieces (at_rule keyword prelude ending) ++ rest) m
media_begins keyword prelude text_end m rest e = absurd (none_some m e)
media_begins keyword prelude (semicolon t) m rest e = absurd (none_some m e)
media_begins keyword prelude (block first inside close) m rest e =
    subst (BeginsWith (keyword ∷ ((prelude ++ first ∷ (inside ++ option_to_list close)) ++ rest)))
    (some_is (record { keyword = keyword; prelude = prelude; inside = inside }) m e) (
      first,
      option_to_list close ++ rest,
      ap (λ (xs : List Token). keyword ∷ xs)
          (append_assoc prelude (first ∷ (inside ++ option_to_list close)) rest
          ∙ ap (λ (xs : List Token). prelude ++ first ∷ xs) (append_assoc inside (option_to_list close) rest)),
    )

form_begins : (text : List ℕ) (p : PartForm) (m : MediaForm) (rest : List Token) → media_form text p ≡ Some m
    → BeginsWith (part_pieces p ++ rest) m
unfolding media_form
form_begins text (passed t) m rest e = absurd (none_some m e)
form_begins text (qualified prelude ending) m rest e = absurd (none_some m e)
form_begins text (at_rule keyword prelude ending) m rest e = by (names_media text keyword keyword.kind) e
  where
    by : (b : Bool) → cond b (media_by keyword prelude ending) None ≡ Some m
        → BeginsWith (part_pieces (at_rule keyword prelude ending) ++ rest) m
    by false e = absurd (none_some m e)
    by true e = media_begins keyword prelude ending m rest e

pub part_begins : (text : List ℕ) (p : PartForm) (m : MediaForm) (left : List Token) → media_form text p ≡ Some m
    → take (length (part_pieces p)) left ≡ part_pieces p → BeginsWith left m
part_begins text p m left e first =
    subst (λ (xs : List Token). BeginsWith xs m)
    (ap (λ (xs : List Token). xs ++ drop (length (part_pieces p)) left) (sym first) ∙ take-append-drop (length (part_pieces p)) left)
    (form_begins text p m (drop (length (part_pieces p)) left) e)

pub record IsInside (inside left : List Token) (n : ℕ) : Type 0 where
  pub fits : n ≤ length left
  pub size : length inside ≤ length (drop n left)
  pub is : take (length inside) (drop n left) ≡ inside

pub begins_cut : (left : List Token) (m : MediaForm) → BeginsWith left m → IsInside m.inside left (length m.prelude + 2)
begins_cut left m (bracket, rest, e) =
    let front = m.keyword ∷ (m.prelude ++ bracket ∷ []) in
    let same : left ≡ front ++ (m.inside ++ rest) =
    e ∙ ap (λ (xs : List Token). m.keyword ∷ xs) (sym (append_assoc m.prelude (bracket ∷ []) (m.inside ++ rest))) in
    let few = length-append m.prelude (bracket ∷ []) in
    let len : length front ≡ length m.prelude + 2 = omega (arith, few) in
    let all = ap (λ (xs : List Token). length xs) same ∙ length-append front (m.inside ++ rest) in
    let cut : drop (length m.prelude + 2) left ≡ m.inside ++ rest =
    ap (λ (k : ℕ). drop k left) (sym len) ∙ ap (drop (length front)) same ∙ drop-append_seam front (m.inside ++ rest) in
    let own = ap (λ (xs : List Token). length xs) cut ∙ length-append m.inside rest in
    record {
      fits = omega (arith, all, len);
      size = omega (arith, own);
      is = ap (take (length m.inside)) cut ∙ take-append_seam m.inside rest;
    }

-- ---- frames keep what is told

pub one_taken : {X : Type 0} (P : X → Type 0) (xs ys : List X) (o : Option X) → xs ≡ ys ++ option_to_list o → All P xs
    → IfSome o P × All P ys
one_taken P xs ys None e all = (tt, subst (All P) (e ∙ append-nil ys) all)
one_taken P xs ys (Some x) e all =
    let both = subst (All P) e all in (
      All-head P x [] (subst (All P) (drop-append_seam ys (x ∷ [])) (All-drop P (length ys) (ys ++ x ∷ []) both)),
      subst (All P) (take-append_seam ys (x ∷ [])) (All-take P (length ys) (ys ++ x ∷ []) both),
    )
