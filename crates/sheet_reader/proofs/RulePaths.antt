-- The way to a rule in a sheet, through the media rules around it.
use Rattle.std.proofs.Common.{◌≡◌, ℕ, zero, suc, ◌+◌, List, [], ◌∷◌, ◌++◌, length, Option, Some, None}
use Rattle.std.proofs.Common.{refl, sym, ap, subst, ◌∙◌, append_assoc, length-append, arith}
use Rattle.std.specs.Prelude.{slice_get, option_to_list}
use Rattle.css_tokens.specs.declared.token.Token.{Token}
use Rattle.css_tokens.specs.declared.token.TokenKind.TheVariants as tokens
use Rattle.sheet_reader.specs.declared.brackets.Stop.TheVariants as stops
use Rattle.sheet_reader.specs.declared.parts.Level.{Level}
use Rattle.sheet_reader.specs.declared.parts.Level.TheVariants.{Inner}
use Rattle.sheet_reader.specs.Forms.{RuleForm}
use Rattle.sheet_reader.specs.Parts.{text_end, semicolon, block, PartForm, passed, at_rule, qualified}
use Rattle.sheet_reader.specs.Parts.{part_pieces}
use Rattle.sheet_reader.specs.Layout.{MediaForm, media_form, media_in, Laid, laid, AreLaid, none_laid, part_laid, media_laid}
use Rattle.sheet_reader.specs.Sheets.{rule_of, rules_in}
use Rattle.sheet_reader.specs.Grammar.{outside, IsEnding, in_block, in_open_block, IsPart, at_rule_part, qualified_part}
use Rattle.sheet_reader.specs.Grammar.{AreParts}
use Rattle.sheet_reader.specs.Grammar.{IsShutEnding, AreShut}
use Rattle.sheet_reader.proofs.Raised.{flat}
use Rattle.sheet_reader.proofs.UsableForms.{media_is, rules_append, no_rule}
use Rattle.sheet_reader.proofs.PartMoves.{AreFlat, flat_of, cons_follows, values_rest}
use Rattle.sheet_reader.proofs.BlockMoves.{BodyShut}
use Rattle.sheet_reader.proofs.LaidMoves.{media_shut}

-- the part that is the rule: its prelude, its `{`, its body, and its `}` if it has one
pub record RulePart : Type 0 where
  pub prelude : List Token
  pub brace : Token
  pub body : List Token
  pub close : Option Token

abbrev pub rule_part : RulePart → PartForm
rule_part q = qualified q.prelude (block q.brace q.body q.close)

-- The rule r is one of these parts, or in the block of a media rule among them. Before it stand these rules, and these pieces up
-- to its `{`; behind its body and its `}` stand those further pieces.
pub data Path (text : List ℕ) (r : RuleForm) (q : RulePart)
    : Option ℕ → ℕ → List PartForm → List Laid → List RuleForm → List Token → List Token → Type 0 where
  here : {around : Option ℕ} {k : ℕ} (ps : List PartForm) (ls : List Laid) → AreLaid text around k ps ls
      → rule_of text around (rule_part q) ≡ Some r
      → Path text r q around k (rule_part q ∷ ps) (laid around (rule_part q) ∷ ls) [] q.prelude (flat ps)
  past_part : {around : Option ℕ} {k : ℕ} (p : PartForm) (ps : List PartForm) (ls : List Laid) (rs : List RuleForm) (xs more : List Token)
      → media_form text p ≡ None → Path text r q around k ps ls rs xs more
      → Path text r q around k (p ∷ ps) (laid around p ∷ ls) (rules_in text (laid around p ∷ []) ++ rs) (part_pieces p ++ xs) more
  past_media : {around : Option ℕ} {k : ℕ} (p : PartForm) (m : MediaForm) (inner ps : List PartForm) (within ls : List Laid)
      (rs : List RuleForm) (xs more : List Token) → media_form text p ≡ Some m → AreParts Inner inner m.inside
      → AreLaid text (Some k) (suc k) inner within → Path text r q around (suc k + length (media_in text within)) ps ls rs xs more
      → Path text r q around k (p ∷ ps) (laid around p ∷ (within ++ ls)) (rules_in text (laid around p ∷ within) ++ rs)
      (part_pieces p ++ xs) more
  in_media : {around : Option ℕ} {k : ℕ} (m : MediaForm) (first : Token) (last : Option Token) (inner ps : List PartForm)
      (within ls : List Laid) (rs : List RuleForm) (xs more : List Token)
      → media_form text (at_rule m.keyword m.prelude (block first m.inside last)) ≡ Some m → AreParts Inner inner m.inside
      → Path text r q (Some k) (suc k) inner within rs xs more → AreLaid text around (suc k + length (media_in text within)) ps ls
      → Path text r q around k (at_rule m.keyword m.prelude (block first m.inside last) ∷ ps)
      (laid around (at_rule m.keyword m.prelude (block first m.inside last)) ∷ (within ++ ls)) rs
      (m.keyword ∷ (m.prelude ++ first ∷ xs)) (more ++ (option_to_list last ++ flat ps))

-- ---- to find it
pub record Found (text : List ℕ) (r : RuleForm) (around : Option ℕ) (k : ℕ) (ps : List PartForm) (ls : List Laid) (j : ℕ) : Type 0 where
  pub q : RulePart
  pub rs : List RuleForm
  pub xs : List Token
  pub more : List Token
  pub path : Path text r q around k ps ls rs xs more
  pub number : length rs ≡ j

pub record BlockPart (text : List ℕ) (around : Option ℕ) (p : PartForm) (r : RuleForm) : Type 0 where
  pub q : RulePart
  pub is : p ≡ rule_part q

pub as_block : (text : List ℕ) (around : Option ℕ) (p : PartForm) (r : RuleForm) → rule_of text around p ≡ Some r
    → BlockPart text around p r
unfolding rule_of
as_block text around (passed t) r e = absurd (cc)
as_block text around (at_rule keyword prelude ending) r e = absurd (cc)
as_block text around (qualified prelude text_end) r e = absurd (cc)
as_block text around (qualified prelude (semicolon t)) r e = absurd (cc)
as_block text around (qualified prelude (block brace body close)) r e =
    record { q = record { prelude = prelude; brace = brace; body = body; close = close }; is = refl }

found_here : (text : List ℕ) (r : RuleForm) (around : Option ℕ) (k : ℕ) (p : PartForm) (ps : List PartForm) (ls : List Laid)
    → AreLaid text around k ps ls → rule_of text around p ≡ Some r → Found text r around k (p ∷ ps) (laid around p ∷ ls) 0
found_here text r around k p ps ls are e =
    let b = as_block text around p r e in
    subst (λ (x : PartForm). Found text r around k (x ∷ ps) (laid around x ∷ ls) 0) (sym b.is)
    (record {
      q = b.q;
      rs = [];
      xs = b.q.prelude;
      more = flat ps;
      path = here ps ls are (ap (rule_of text around) (sym b.is) ∙ e);
      number = refl;
    })

one_rule : (text : List ℕ) (around : Option ℕ) (p : PartForm) (o : Option RuleForm) → rule_of text around p ≡ o
    → length (rules_in text (laid around p ∷ [])) ≡ length (option_to_list o)
unfolding rules_in
one_rule text around p None e = ap (λ (x : Option RuleForm). length (option_to_list x ++ [])) e
one_rule text around p (Some r) e = ap (λ (x : Option RuleForm). length (option_to_list x ++ [])) e

found_past : (text : List ℕ) (r : RuleForm) (around : Option ℕ) (k : ℕ) (p : PartForm) (ps : List PartForm) (ls : List Laid) (j n i : ℕ)
    → media_form text p ≡ None → length (rules_in text (laid around p ∷ [])) ≡ n → n + j ≡ i → Found text r around k ps ls j
    → Found text r around k (p ∷ ps) (laid around p ∷ ls) i
found_past text r around k p ps ls j n i none size sum f = record {
  q = f.q;
  rs = rules_in text (laid around p ∷ []) ++ f.rs;
  xs = part_pieces p ++ f.xs;
  more = f.more;
  path = past_part p ps ls f.rs f.xs f.more none f.path;
  number = omega (arith, length-append (rules_in text (laid around p ∷ [])) f.rs, size, sum, f.number);
}

-- an element of two lists, one behind the other, is in the first or in the second
pub data Side {X : Type 0} (xs ys : List X) (j : ℕ) (x : X) : Type 0 where
  on_left : slice_get xs j ≡ Some x → Side xs ys j x
  on_right : (i : ℕ) → length xs + i ≡ j → slice_get ys i ≡ Some x → Side xs ys j x

pub side : {X : Type 0} (xs ys : List X) (j : ℕ) (x : X) → slice_get (xs ++ ys) j ≡ Some x → Side xs ys j x
side [] ys j x e = on_right j (omega arith) e
side (a ∷ xs) ys zero x e = on_left e
side (a ∷ xs) ys (suc j) x e = further (side xs ys j x e)
  where
    further : Side xs ys j x → Side (a ∷ xs) ys (suc j) x
    further (on_left f) = on_left f
    further (on_right i n f) = on_right i (omega (arith, n)) f

no_rule_at : (j : ℕ) (r : RuleForm) → ◌≡◌ {A = Option RuleForm} (slice_get [] j) (Some r) → ⊥
no_rule_at zero r e = cc
no_rule_at (suc j) r e = cc

found_part : (text : List ℕ) (r : RuleForm) (around : Option ℕ) (k : ℕ) (p : PartForm) (ps : List PartForm) (ls : List Laid)
    → AreLaid text around k ps ls → media_form text p ≡ None
    → ((j : ℕ) → slice_get (rules_in text ls) j ≡ Some r → Found text r around k ps ls j)
    → (o : Option RuleForm) → rule_of text around p ≡ o → (j : ℕ) → slice_get (option_to_list o ++ rules_in text ls) j ≡ Some r
    → Found text r around k (p ∷ ps) (laid around p ∷ ls) j
found_part text r around k p ps ls are none further None is j e =
    found_past text r around k p ps ls j 0 j none (one_rule text around p None is) (omega arith) (further j e)
found_part text r around k p ps ls are none further (Some s) is zero e =
    let same : s ≡ r = cc in found_here text r around k p ps ls are (is ∙ ap Some same)
found_part text r around k p ps ls are none further (Some s) is (suc j) e =
    found_past text r around k p ps ls j 1 (suc j) none (one_rule text around p (Some s) is) (omega arith) (further j e)

found_within : (text : List ℕ) (r : RuleForm) (around : Option ℕ) (k : ℕ) (p : PartForm) (m : MediaForm) (inner ps : List PartForm)
    (within ls : List Laid) → media_form text p ≡ Some m → AreParts Inner inner m.inside
    → AreLaid text around (suc k + length (media_in text within)) ps ls → (j : ℕ)
    → Found text r (Some k) (suc k) inner within j → Found text r around k (p ∷ ps) (laid around p ∷ (within ++ ls)) j
found_within text r around k p m inner ps within ls e are behind j f =
    let i = media_is text p m e in
    subst (λ (x : PartForm). Found text r around k (x ∷ ps) (laid around x ∷ (within ++ ls)) j) (sym i.is)
    (record {
      q = f.q;
      rs = f.rs;
      xs = m.keyword ∷ (m.prelude ++ i.first ∷ f.xs);
      more = f.more ++ (option_to_list i.close ++ flat ps);
      path = in_media m i.first i.close inner ps within ls f.rs f.xs f.more (ap (media_form text) (sym i.is) ∙ e) are f.path behind;
      number = f.number;
    })

pub find : (text : List ℕ) (r : RuleForm) (around : Option ℕ) (k : ℕ) (ps : List PartForm) (ls : List Laid) → AreLaid text around k ps ls
    → (j : ℕ) → slice_get (rules_in text ls) j ≡ Some r → Found text r around k ps ls j
unfolding rules_in
find text r around k _ _ none_laid j e = absurd (no_rule_at j r e)
find text r around k _ _ (part_laid p ps ls none are) j e =
    found_part text r around k p ps ls are none (λ i f. find text r around k ps ls are i f) (rule_of text around p) refl j e
find text r around k _ _ (media_laid p m inner ps within ls is own inner_are are) j e =
    let form = media_is text p m is in
    let rules = no_rule text around p m (within ++ ls) form ∙ rules_append text within ls in
    let first = no_rule text around p m within form in
    by first (side (rules_in text within) (rules_in text ls) j r (ap (λ (rs : List RuleForm). slice_get rs j) (sym rules) ∙ e))
    (λ i f. find text r (Some k) (suc k) inner within inner_are i f)
    (λ i f. find text r around (suc k + length (media_in text within)) ps ls are i f)
  where
    by : rules_in text (laid around p ∷ within) ≡ rules_in text within → Side (rules_in text within) (rules_in text ls) j r
        → ((i : ℕ) → slice_get (rules_in text within) i ≡ Some r → Found text r (Some k) (suc k) inner within i)
        → ((i : ℕ) → slice_get (rules_in text ls) i ≡ Some r → Found text r around (suc k + length (media_in text within)) ps ls i)
        → Found text r around k (p ∷ ps) (laid around p ∷ (within ++ ls)) j
    by first (on_left f) inside behind = found_within text r around k p m inner ps within ls is own are j (inside j f)
    by first (on_right i n f) inside behind =
        let g = behind i f in
        record {
          q = g.q;
          rs = rules_in text (laid around p ∷ within) ++ g.rs;
          xs = part_pieces p ++ g.xs;
          more = g.more;
          path = past_media p m inner ps within ls g.rs g.xs g.more is own inner_are g.path;
          number = omega (arith, length-append (rules_in text (laid around p ∷ within)) g.rs, ap length first, n, g.number);
        }

-- ---- what is known of it
abbrev pub around_body : RulePart → List Token → List Token → List Token
around_body q xs more = xs ++ q.brace ∷ (q.body ++ (option_to_list q.close ++ more))

-- a block in a block, as one list of pieces
pub nested_flat : (keyword first brace : Token) (lead xs body close more last rest : List Token)
    → ◌≡◌ {A = List Token} (keyword ∷ ((lead ++ first ∷ ((xs ++ brace ∷ (body ++ (close ++ more))) ++ last)) ++ rest))
    ((keyword ∷ (lead ++ first ∷ xs)) ++ brace ∷ (body ++ (close ++ (more ++ (last ++ rest)))))
nested_flat keyword first brace lead xs body close more last rest =
    ap (λ (ys : List Token). keyword ∷ ys)
    (append_assoc lead (first ∷ ((xs ++ brace ∷ (body ++ (close ++ more))) ++ last)) rest
    ∙ ap (λ (ys : List Token). lead ++ first ∷ ys)
    (append_assoc (xs ++ brace ∷ (body ++ (close ++ more))) last rest
    ∙ append_assoc xs (brace ∷ (body ++ (close ++ more))) (last ++ rest)
    ∙ ap (λ (ys : List Token). xs ++ brace ∷ ys)
    (append_assoc body (close ++ more) (last ++ rest) ∙ ap (λ (ys : List Token). body ++ ys) (append_assoc close more (last ++ rest))))
    ∙ sym (append_assoc lead (first ∷ xs) (brace ∷ (body ++ (close ++ (more ++ (last ++ rest)))))))

-- the pieces before the rule's `{`, that, and those behind it
pub path_flat : (text : List ℕ) (r : RuleForm) (q : RulePart) (around : Option ℕ) (k : ℕ) (ps : List PartForm) (ls : List Laid)
    (rs : List RuleForm) (xs more : List Token) → Path text r q around k ps ls rs xs more → flat ps ≡ around_body q xs more
path_flat text r q around k _ _ _ _ _ (here ps ls are e) =
    append_assoc q.prelude (q.brace ∷ (q.body ++ option_to_list q.close)) (flat ps)
    ∙ ap (λ (ys : List Token). q.prelude ++ q.brace ∷ ys) (append_assoc q.body (option_to_list q.close) (flat ps))
path_flat text r q around k _ _ _ _ _ (past_part p ps ls rs xs more none path) =
    ap (λ (ys : List Token). part_pieces p ++ ys) (path_flat text r q around k ps ls rs xs more path)
    ∙ sym (append_assoc (part_pieces p) xs (q.brace ∷ (q.body ++ (option_to_list q.close ++ more))))
path_flat text r q around k _ _ _ _ _ (past_media p m inner ps within ls rs xs more is own inner_are path) =
    ap (λ (ys : List Token). part_pieces p ++ ys) (path_flat text r q around (suc k + length (media_in text within)) ps ls rs xs more path)
    ∙ sym (append_assoc (part_pieces p) xs (q.brace ∷ (q.body ++ (option_to_list q.close ++ more))))
path_flat text r q around k _ _ _ _ _ (in_media m first last inner ps within ls rs xs more is own path are) =
    let inner_is = (flat_of Inner inner m.inside own).0 ∙ path_flat text r q (Some k) (suc k) inner within rs xs more path in
    ap (λ (ys : List Token). m.keyword ∷ ((m.prelude ++ first ∷ (ys ++ option_to_list last)) ++ flat ps)) inner_is
    ∙ nested_flat m.keyword first q.brace m.prelude xs q.body (option_to_list q.close) more (option_to_list last) (flat ps)

-- how the rule's block begins and ends
pub record RuleEnds (q : RulePart) : Type 0 where
  pub kind : q.brace.kind ≡ tokens.OpenCurly
  pub shut : BodyShut q.body q.close

rule_ends : (q : RulePart) (rest : List Token) → IsEnding (block q.brace q.body q.close) rest → RuleEnds q
rule_ends q rest ends = by ends (λ k s. record { kind = k; shut = s })
  where
    by : {close : Option Token} {G : Type 0} → IsEnding (block q.brace q.body close) rest
        → (q.brace.kind ≡ tokens.OpenCurly → BodyShut q.body close → G) → G
    by (in_block _ c _ k vs closed) give =
        give k (closed, values_rest (outside stops.BlockEnd) q.body (c ∷ rest) (c ∷ []) (cons_follows c rest) vs)
    by (in_open_block _ _ k vs over) give = give k tt

part_ends : (level : Level) (q : RulePart) (rest : List Token) → IsPart level (rule_part q) rest
    → IsEnding (block q.brace q.body q.close) rest
part_ends level q rest (qualified_part _ _ begins r) = r.ends

pub path_ends : (text : List ℕ) (r : RuleForm) (q : RulePart) (around : Option ℕ) (k : ℕ) (ps : List PartForm) (ls : List Laid)
    (rs : List RuleForm) (xs more : List Token) → Path text r q around k ps ls rs xs more → (level : Level) → AreFlat level ps → RuleEnds q
path_ends text r q around k _ _ _ _ _ (here ps ls are e) level all = rule_ends q (flat ps) (part_ends level q (flat ps) all.0)
path_ends text r q around k _ _ _ _ _ (past_part p ps ls rs xs more none path) level all =
    path_ends text r q around k ps ls rs xs more path level all.1
path_ends text r q around k _ _ _ _ _ (past_media p m inner ps within ls rs xs more is own inner_are path) level all =
    path_ends text r q around (suc k + length (media_in text within)) ps ls rs xs more path level all.1
path_ends text r q around k _ _ _ _ _ (in_media m first last inner ps within ls rs xs more is own path are) level all =
    path_ends text r q (Some k) (suc k) inner within rs xs more path Inner (flat_of Inner inner m.inside own).1

-- where the parts are closed, the rule's body is
path_shut : (text : List ℕ) (r : RuleForm) (q : RulePart) (around : Option ℕ) (k : ℕ) (ps : List PartForm) (ls : List Laid)
    (rs : List RuleForm) (xs more : List Token) → Path text r q around k ps ls rs xs more → (level : Level) → AreFlat level ps → AreShut ps
    → IsShutEnding (block q.brace q.body q.close)
path_shut text r q around k _ _ _ _ _ (here ps ls are e) level all shut = shut.0
path_shut text r q around k _ _ _ _ _ (past_part p ps ls rs xs more none path) level all shut =
    path_shut text r q around k ps ls rs xs more path level all.1 shut.1
path_shut text r q around k _ _ _ _ _ (past_media p m inner ps within ls rs xs more is own inner_are path) level all shut =
    path_shut text r q around (suc k + length (media_in text within)) ps ls rs xs more path level all.1 shut.1
path_shut text r q around k _ _ _ _ _ (in_media m first last inner ps within ls rs xs more is own path are) level all shut =
    path_shut text r q (Some k) (suc k) inner within rs xs more path Inner (flat_of Inner inner m.inside own).1
    (media_shut level text (at_rule m.keyword m.prelude (block first m.inside last)) m inner (flat ps) is own all.0 shut.0)

no_shut : (q : RulePart) → q.close ≡ None → IsShutEnding (block q.brace q.body q.close) → ⊥
no_shut q e shut = by q.close e shut
  where
    by : (close : Option Token) → close ≡ None → IsShutEnding (block q.brace q.body close) → ⊥
    by None e shut = shut
    by (Some c) e shut = cc

-- behind a body without a `}` nothing stands
pub path_over : (text : List ℕ) (r : RuleForm) (q : RulePart) (around : Option ℕ) (k : ℕ) (ps : List PartForm) (ls : List Laid)
    (rs : List RuleForm) (xs more : List Token) → Path text r q around k ps ls rs xs more → (level : Level) → AreFlat level ps
    → q.close ≡ None → more ≡ []
path_over text r q around k _ _ _ _ _ (here ps ls are e) level all none = by (part_ends level q (flat ps) all.0) none
  where
    by : {close : Option Token} → IsEnding (block q.brace q.body close) (flat ps) → close ≡ None → flat ps ≡ []
    by (in_block _ c _ k vs closed) none = absurd (cc)
    by (in_open_block _ _ k vs over) none = over
path_over text r q around k _ _ _ _ _ (past_part p ps ls rs xs more none path) level all open_body =
    path_over text r q around k ps ls rs xs more path level all.1 open_body
path_over text r q around k _ _ _ _ _ (past_media p m inner ps within ls rs xs more is own inner_are path) level all open_body =
    path_over text r q around (suc k + length (media_in text within)) ps ls rs xs more path level all.1 open_body
path_over text r q around k _ _ _ _ _ (in_media m first last inner ps within ls rs xs more is own path are) level all open_body =
    let inner_all = (flat_of Inner inner m.inside own).1 in
    let none = path_over text r q (Some k) (suc k) inner within rs xs more path Inner inner_all open_body in
    ap (λ (ys : List Token). ys ++ (option_to_list last ++ flat ps)) none
    ∙ by last (at_rule_ends all.0)
    (λ shut. no_shut q open_body (path_shut text r q (Some k) (suc k) inner within rs xs more path Inner inner_all
    (media_shut level text (at_rule m.keyword m.prelude (block first m.inside last)) m inner (flat ps) is own all.0 shut)))
  where
    at_rule_ends : IsPart level (at_rule m.keyword m.prelude (block first m.inside last)) (flat ps)
        → IsEnding (block first m.inside last) (flat ps)
    at_rule_ends (at_rule_part _ _ _ k r) = r.ends

    by : (last : Option Token) → IsEnding (block first m.inside last) (flat ps) → (IsShutEnding (block first m.inside last) → ⊥)
        → option_to_list last ++ flat ps ≡ []
    by (Some c) ends shut = absurd (shut tt)
    by None (in_open_block _ _ k vs over) shut = over
