-- The parts of a sheet and the items of a body that are read are those of the grammar, and no others are.
use Rattle.std.proofs.Common.{◌≡◌, ℕ, zero, suc, ◌+◌, ◌<◌, ◌≤◌, Bool, true, false, cond, List, [], ◌∷◌, ◌++◌, length, take, drop, Option}
use Rattle.std.proofs.Common.{Some, None, refl, sym, ap, subst, ◌∙◌, append_assoc, append-nil, length-append, arith}
use Rattle.std.specs.Prelude.{slice_get}
use Rattle.std.proofs.lemmas.List.{take-append-drop}
use Rattle.std.proofs.Math.Seq.{take-append_seam, drop-append_seam}
use Rattle.css_tokens.specs.declared.token.Token.{Token}
use Rattle.css_tokens.specs.declared.token.TokenKind.{TokenKind}
use Rattle.css_tokens.specs.declared.token.TokenKind.TheVariants as tokens
use Rattle.sheet_reader.specs.declared.brackets.Stop.{Stop}
use Rattle.sheet_reader.specs.declared.brackets.Stop.TheVariants as stops
use Rattle.sheet_reader.specs.Brackets.{stops_at, until}
use Rattle.sheet_reader.specs.declared.parts.Level.{Level}
use Rattle.sheet_reader.specs.Parts.{EndingForm, block, PartForm, passed, at_rule, qualified, is_passed, block_at, ending_by, ending_at}
use Rattle.sheet_reader.specs.Parts.{at_rule_at, qualified_at, part_by, part_at, ending_pieces, part_pieces, parts, parts_after}
use Rattle.sheet_reader.specs.Grammar.{outside, AreValues, EndsBefore, IsEnding, at_text_end, at_semicolon, in_block, in_open_block}
use Rattle.sheet_reader.specs.Grammar.{BeginsQualified, is_at_keyword, IsRule, IsPart, passed_part, at_rule_part, qualified_part, AreParts}
use Rattle.sheet_reader.proofs.ValueForms.{until_is, until_splits}
use Rattle.sheet_reader.proofs.PartLemmas.{parts_step, part_some, then_ending_some}

-- ---- what is read is in the grammar

first_of : List Token → Option Token
first_of [] = None
first_of (t ∷ ts) = Some t

get_first : (ts : List Token) (n : ℕ) → slice_get ts n ≡ first_of (drop n ts)
unfolding first_of
get_first [] zero = refl
get_first [] (suc n) = refl
get_first (t ∷ ts) zero = refl
get_first (t ∷ ts) (suc n) = get_first ts n

-- a rule's end, and what stands behind it
record Ended (e : EndingForm) (all : List Token) : Type 0 where
  rest : List Token
  is : all ≡ ending_pieces e ++ rest
  form : IsEnding e rest

close_kind : (kind : TokenKind) → stops_at stops.BlockEnd kind ≡ true → kind ≡ tokens.CloseCurly
close_kind tokens.CloseCurly e = refl
close_kind _ e = absurd (cc)

block_ended : (first : Token) (ts left : List Token) (n : ℕ) → first.kind ≡ tokens.OpenCurly → drop n ts ≡ left
    → AreValues (outside stops.BlockEnd) (take n ts) left → EndsBefore (outside stops.BlockEnd) left
    → Ended (block first (take n ts) (first_of left)) (first ∷ ts)
unfolding first_of
block_ended first ts [] n opens e values over = record {
  rest = [];
  is = ap (λ (xs : List Token). first ∷ xs)
      (sym (take-append-drop n ts) ∙ ap (λ (xs : List Token). take n ts ++ xs) e ∙ sym (append-nil (take n ts ++ [])));
  form = in_open_block first (take n ts) opens values refl;
}
block_ended first ts (close ∷ more) n opens e values over = record {
  rest = more;
  is = ap (λ (xs : List Token). first ∷ xs)
      (sym (take-append-drop n ts) ∙ ap (λ (xs : List Token). take n ts ++ xs) e ∙ sym (append_assoc (take n ts) (close ∷ []) more));
  form = in_block first close (take n ts) opens values (close_kind close.kind over);
}

ended_by : (kind : TokenKind) (t : Token) (ts : List Token) → t.kind ≡ kind → stops_at stops.BlockOrSemicolon kind ≡ true
    → Ended (ending_by t ts kind) (t ∷ ts)
ended_by tokens.Semicolon t ts e halts = record { rest = ts; is = refl; form = at_semicolon t e }
ended_by tokens.OpenCurly t ts e halts =
    let n = until stops.BlockEnd ts in
    let s = until_splits stops.BlockEnd ts in
    subst (λ (o : Option Token). Ended (block t (take n ts) o) (t ∷ ts)) (sym (get_first ts n))
    (block_ended t ts (drop n ts) n e refl s.values s.stopped)
ended_by _ t ts e halts = absurd (cc)

unfoldable pub Weaker : Stop → Type 0
Weaker stop = (kind : TokenKind) → stops_at stop kind ≡ true → stops_at stops.BlockOrSemicolon kind ≡ true

ended : (stop : Stop) (ts : List Token) → Weaker stop → EndsBefore (outside stop) ts → Ended (ending_at ts) ts
unfolding Weaker
ended stop [] weaker over = record { rest = []; is = refl; form = at_text_end refl }
ended stop (t ∷ ts) weaker over = ended_by t.kind t ts refl (weaker t.kind over)

block_weaker : Weaker stops.Block
unfolding Weaker
block_weaker tokens.OpenCurly e = refl
block_weaker _ e = absurd (cc)

pub same_weaker : Weaker stops.BlockOrSemicolon
unfolding Weaker
same_weaker kind e = e

-- a rule behind its first piece, and what stands behind it
pub record RuleRead (stop : Stop) (ts : List Token) : Type 0 where
  pub rest : List Token
  pub is : ts ≡ (take (until stop ts) ts ++ ending_pieces (ending_at (drop (until stop ts) ts))) ++ rest
  pub rule : IsRule stop (take (until stop ts) ts) (ending_at (drop (until stop ts) ts)) rest

pub rule_read : (stop : Stop) (ts : List Token) → Weaker stop → RuleRead stop ts
rule_read stop ts weaker =
    let n = until stop ts in
    let s = until_splits stop ts in
    let e = ended stop (drop n ts) weaker s.stopped in
    record {
      rest = e.rest;
      is = sym (take-append-drop n ts) ∙ ap (λ (xs : List Token). take n ts ++ xs) e.is ∙ sym
          (append_assoc (take n ts) (ending_pieces (ending_at (drop n ts))) e.rest);
      rule = record {
        values = subst (AreValues (outside stop) (take n ts)) e.is s.values;
        stopped = subst (EndsBefore (outside stop)) e.is s.stopped;
        ends = e.form;
      };
    }

record PartRead (level : Level) (p : PartForm) (all : List Token) : Type 0 where
  rest : List Token
  is : all ≡ part_pieces p ++ rest
  form : IsPart level p rest

begins : (level : Level) (own rest : List Token) (t : Token) (ts : List Token) → t ∷ ts ≡ own ++ rest → 0 < length own
    → is_passed level t.kind ≡ false
    → is_at_keyword t.kind ≡ false → BeginsQualified level own
begins level [] rest t ts e some a b = absurd (omega (arith, some))
begins level (u ∷ us) rest t ts e some a b =
    let same : t ≡ u = cc in
    (subst (λ (x : Token). is_passed level x.kind ≡ false) same a, subst (λ (x : Token). is_at_keyword x.kind ≡ false) same b)

read_passed : (level : Level) (x : Bool) (t : Token) (ts : List Token) → is_passed level t.kind ≡ x → is_at_keyword t.kind ≡ false
    → PartRead level (cond x (passed t) (qualified_at (t ∷ ts))) (t ∷ ts)
read_passed level true t ts e other = record { rest = ts; is = refl; form = passed_part t e }
read_passed level false t ts e other =
    let n = until stops.Block (t ∷ ts) in
    let r = rule_read stops.Block (t ∷ ts) block_weaker in
    let own = take n (t ∷ ts) ++ ending_pieces (ending_at (drop n (t ∷ ts))) in
    record {
      rest = r.rest;
      is = r.is;
      form = qualified_part (take n (t ∷ ts)) (ending_at (drop n (t ∷ ts)))
          (begins level own r.rest t ts r.is (then_ending_some n t ts) e other) r.rule;
    }

at_rule_read : (level : Level) (t : Token) (ts : List Token) → t.kind ≡ tokens.AtKeyword → PartRead level (at_rule_at t ts) (t ∷ ts)
at_rule_read level t ts e =
    let r = rule_read stops.BlockOrSemicolon ts same_weaker in
    let n = until stops.BlockOrSemicolon ts in
    record { rest = r.rest; is = ap (λ (xs : List Token). t ∷ xs) r.is; form = at_rule_part t (take n ts) (ending_at (drop n ts)) e r.rule }

part_by_read : (level : Level) (kind : TokenKind) (t : Token) (ts : List Token) → t.kind ≡ kind
    → PartRead level (part_by level t ts kind) (t ∷ ts)
part_by_read level tokens.AtKeyword t ts e = at_rule_read level t ts e
part_by_read level kind t ts e = read_passed level (is_passed level kind) t ts (ap (is_passed level) e) (ap is_at_keyword e)

part_read : (level : Level) (t : Token) (ts : List Token) → PartRead level (part_at level t ts) (t ∷ ts)
unfolding part_at
part_read level t ts = part_by_read level t.kind t ts refl

spelled_in : (level : Level) (n : ℕ) (ts : List Token) → length ts ≤ n → AreParts level (parts level ts) ts
unfolding parts_after
spelled_in level n [] fits = refl
spelled_in level zero (t ∷ ts) fits = absurd (omega (arith, fits))
spelled_in level (suc n) (t ∷ ts) fits =
    let p = part_at level t ts in
    let r = part_read level t ts in
    let some = part_some level t ts in
    let len : length (t ∷ ts) ≡ length (part_pieces p)
    + length r.rest = ap (λ (xs : List Token). length xs) r.is ∙ length-append (part_pieces p) r.rest in
    let left : drop (length (part_pieces p)) (t ∷ ts)
    ≡ r.rest = ap (drop (length (part_pieces p))) r.is ∙ drop-append_seam (part_pieces p) r.rest in
    let others = spelled_in level n r.rest (omega (arith, fits, len, some)) in
    subst (λ (ps : List PartForm). AreParts level ps (t ∷ ts)) (sym (parts_step level t ts))
    (r.rest, r.is, r.form, subst (λ (xs : List Token). AreParts level (parts level xs) r.rest) (sym left) others)

-- the parts that are read are parts of the grammar
pub parts_spelled : (level : Level) (ts : List Token) → AreParts level (parts level ts) ts
parts_spelled level ts = spelled_in level (length ts) ts (omega arith)

-- ---- what is in the grammar is read

block_again : (first : Token) (all within left : List Token) → all ≡ within ++ left → AreValues (outside stops.BlockEnd) within left
    → EndsBefore (outside stops.BlockEnd) left → block_at first all ≡ block first within (first_of left)
block_again first all within left is values over =
    let n : until stops.BlockEnd all ≡ length within = ap (until stops.BlockEnd) is ∙ until_is stops.BlockEnd within left values over in
    let front : take (until stops.BlockEnd all) all
    ≡ within = ap (λ (k : ℕ). take k all) n ∙ ap (take (length within)) is ∙ take-append_seam within left in
    let close : slice_get all (until stops.BlockEnd all)
    ≡ first_of left = get_first all (until stops.BlockEnd all) ∙ ap first_of
    (ap (λ (k : ℕ). drop k all) n ∙ ap (drop (length within)) is ∙ drop-append_seam within left) in
    λ i. block first (front i) (close i)

ending_again : (e : EndingForm) (rest : List Token) → IsEnding e rest → ending_at (ending_pieces e ++ rest) ≡ e
unfolding first_of
ending_again _ rest (at_text_end over) = ap ending_at over
ending_again _ rest (at_semicolon t kind) = ap (ending_by t rest) kind
ending_again _ rest (in_block first close within opens values closes) =
    ap (ending_by first ((within ++ close ∷ []) ++ rest)) opens ∙ block_again first ((within ++ close ∷ []) ++ rest) within (close ∷ rest)
    (append_assoc within (close ∷ []) rest) values (ap (stops_at stops.BlockEnd) closes)
ending_again _ rest (in_open_block first within opens values over) =
    ap (ending_by first ((within ++ []) ++ rest)) opens ∙ block_again first ((within ++ []) ++ rest) within []
    (ap (λ (xs : List Token). (within ++ []) ++ xs) over ∙ append-nil (within ++ [])) values tt

record RuleAgain (stop : Stop) (prelude : List Token) (ending : EndingForm) (all : List Token) : Type 0 where
  prelude_is : take (until stop all) all ≡ prelude
  ending_is : ending_at (drop (until stop all) all) ≡ ending

rule_again : (stop : Stop) (prelude : List Token) (ending : EndingForm) (rest all : List Token)
    → all ≡ (prelude ++ ending_pieces ending) ++ rest → IsRule stop prelude ending rest → RuleAgain stop prelude ending all
rule_again stop prelude ending rest all whole rule =
    let behind = ending_pieces ending ++ rest in
    let is : all ≡ prelude ++ behind = whole ∙ append_assoc prelude (ending_pieces ending) rest in
    let n : until stop all ≡ length prelude = ap (until stop) is ∙ until_is stop prelude behind rule.values rule.stopped in
    record {
      prelude_is = ap (λ (k : ℕ). take k all) n ∙ ap (take (length prelude)) is ∙ take-append_seam prelude behind;
      ending_is = ap ending_at (ap (λ (k : ℕ). drop k all) n ∙ ap
          (drop (length prelude)) is ∙ drop-append_seam prelude behind) ∙ ending_again ending rest rule.ends;
    }

passed_again : (level : Level) (kind : TokenKind) (t : Token) (ts : List Token) → is_passed level kind ≡ true
    → part_by level t ts kind ≡ passed t
passed_again level tokens.AtKeyword t ts e = absurd (cc)
passed_again level kind t ts e = ap (λ (x : Bool). cond x (passed t) (qualified_at (t ∷ ts))) e

qualified_again : (level : Level) (kind : TokenKind) (t : Token) (ts : List Token) → is_passed level kind ≡ false
    → is_at_keyword kind ≡ false
    → part_by level t ts kind ≡ qualified_at (t ∷ ts)
qualified_again level tokens.AtKeyword t ts e other = absurd (cc)
qualified_again level kind t ts e other = ap (λ (x : Bool). cond x (passed t) (qualified_at (t ∷ ts))) e

-- the part that begins where one stands is that one
record PartAgain (level : Level) (p : PartForm) (all : List Token) : Type 0 where
  t : Token
  ts : List Token
  is : all ≡ t ∷ ts
  form : part_at level t ts ≡ p

pub at_rule_again : (keyword : Token) (prelude : List Token) (ending : EndingForm) (rest : List Token)
    → IsRule stops.BlockOrSemicolon prelude ending rest
    → at_rule_at keyword ((prelude ++ ending_pieces ending) ++ rest) ≡ at_rule keyword prelude ending
at_rule_again keyword prelude ending rest rule =
    let r = rule_again stops.BlockOrSemicolon prelude ending rest ((prelude ++ ending_pieces ending) ++ rest) refl rule in
    λ i. at_rule keyword (r.prelude_is i) (r.ending_is i)

begun_again : (level : Level) (own prelude : List Token) (ending : EndingForm) (rest : List Token) → own ≡ prelude ++ ending_pieces ending
    → BeginsQualified level own → IsRule stops.Block prelude ending rest → PartAgain level (qualified prelude ending) (own ++ rest)
unfolding part_at
begun_again level [] prelude ending rest is none rule = absurd none
begun_again level (t ∷ ts) prelude ending rest is first rule =
    let r = rule_again stops.Block prelude ending rest (t ∷ (ts ++ rest)) (ap (λ (xs : List Token). xs ++ rest) is) rule in
    record {
      t = t;
      ts = ts ++ rest;
      is = refl;
      form = qualified_again level t.kind t (ts ++ rest) first.0 first.1 ∙ (λ i. qualified (r.prelude_is i) (r.ending_is i));
    }

part_again : (level : Level) (p : PartForm) (rest : List Token) → IsPart level p rest → PartAgain level p (part_pieces p ++ rest)
unfolding part_at
part_again level _ rest (passed_part t e) = record { t = t; ts = rest; is = refl; form = passed_again level t.kind t rest e }
part_again level _ rest (at_rule_part keyword prelude ending e rule) = record {
  t = keyword;
  ts = (prelude ++ ending_pieces ending) ++ rest;
  is = refl;
  form = ap (part_by level keyword ((prelude ++ ending_pieces ending) ++ rest)) e ∙ at_rule_again keyword prelude ending rest rule;
}
part_again level _ rest (qualified_part prelude ending first rule) = begun_again level
    (prelude ++ ending_pieces ending) prelude ending rest refl first rule

-- parts of the grammar are those that are read
pub parts_only : (level : Level) (ps : List PartForm) (ts : List Token) → AreParts level ps ts → ps ≡ parts level ts
unfolding parts_after
parts_only level [] ts e = sym (ap (parts level) e)
parts_only level (p ∷ ps) ts all =
    let rest = all.0 in
    let a = part_again level p rest all.2 in
    let whole : ts ≡ a.t ∷ a.ts = all.1 ∙ a.is in
    let left : drop (length (part_pieces (part_at level a.t a.ts))) (a.t ∷ a.ts) ≡ rest =
    ap (λ (x : PartForm). drop (length (part_pieces x)) (a.t ∷ a.ts)) a.form ∙ ap (drop (length (part_pieces p)))
    (sym a.is) ∙ drop-append_seam (part_pieces p) rest in
    sym (ap (parts level) whole ∙ parts_step level a.t a.ts ∙ ap
    (λ (x : PartForm). x ∷ parts level (drop (length (part_pieces (part_at level a.t a.ts))) (a.t ∷ a.ts))) a.form
    ∙ ap (λ (xs : List Token). p ∷ parts level xs) left ∙ ap (λ (xs : List PartForm). p ∷ xs) (sym (parts_only level ps rest all.3)))
