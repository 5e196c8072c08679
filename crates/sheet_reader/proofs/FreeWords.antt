-- Among the pieces of a list of selectors no `{` stands outside brackets.
use Rattle.std.proofs.Common.{◌≡◌, ℕ, ◌+◌, ◌==◌, Bool, true, false, cond, ◌&&◌, List, [], ◌∷◌, ◌++◌, length, Some, None, refl, sym, ap}
use Rattle.std.proofs.Common.{subst, ◌∙◌, arith, slice_index}
use Rattle.std.specs.List.{AllByRecursion}
use Rattle.std.proofs.lemmas.Bool.{eqb-true}
use Rattle.css_tokens.specs.declared.token.Token.{Token}
use Rattle.css_tokens.specs.declared.token.TokenKind.{TokenKind}
use Rattle.css_tokens.specs.declared.token.TokenKind.TheVariants as tokens
use Rattle.css_tokens.specs.Pieces.{pieces}
use Rattle.css_tokens.specs.Rows.{mark_kind}
use Rattle.selectors.specs.declared.words.Word.{Word}
use Rattle.selectors.specs.declared.words.WordKind.{WordKind}
use Rattle.selectors.specs.declared.words.WordKind.TheVariants.{Ident, Function, Str, Id, Mark}
use Rattle.selectors.specs.declared.selector.AttrOp.{AttrOp}
use Rattle.selectors.specs.declared.selector.AttrOp.TheVariants as ops
use Rattle.selectors.specs.declared.selector.Joint.{Joint}
use Rattle.selectors.specs.declared.selector.Joint.TheVariants as joints
use Rattle.selectors.specs.Words.{is_mark, word_kind, word_of}
use Rattle.selectors.specs.Forms.{TestForm, SelectorForm}
use Rattle.selectors.specs.Reading.{operator_of, combinator_of, selectors_of, Item, Joined}
use Rattle.selectors.specs.Grammar.{IsOperator, equal, other, IsOperand, ident, string, IsTest, by_id, by_class, by_exists, by_compare}
use Rattle.selectors.specs.Grammar.{by_pseudo, by_nth, by_lang, IsArgument, a_tag, a_any, a_test, IsElement, one_colon, two_colons}
use Rattle.selectors.specs.Grammar.{IsCompoundItem, item_test, item_not, item_element, IsFirst, first_tag, first_any, first_item}
use Rattle.selectors.specs.Grammar.{Run, done, more, IsNextItem, IsCompound, IsCombinator, mark, white, IsJoined, IsSelector}
use Rattle.sheet_reader.specs.declared.brackets.Bracket.{Bracket}
use Rattle.sheet_reader.specs.declared.brackets.Bracket.TheVariants.{Round, Square, Curly}
use Rattle.sheet_reader.specs.declared.brackets.Nesting.TheVariants.{Closed, Stray}
use Rattle.sheet_reader.specs.declared.brackets.Stop.TheVariants as stops
use Rattle.sheet_reader.specs.Brackets.{open_after, is_none_open, stops_at, until_in, until, nesting, nesting_in, is_stray}
use Rattle.sheet_reader.proofs.BracketLemmas.{stop_here, go_on}
use Rattle.sheet_reader.proofs.OpenForms.{opens}
use Rattle.sheet_reader.specs.Solids.{is_character_kind}
use Rattle.sheet_reader.specs.SelectorLists.{AreWordsOf, no_words, past_comment, past_white, word_and, AreListed, last_listed, comma_and}
use Rattle.sheet_reader.proofs.ListCuts.{prelude_spells}
use Rattle.sheet_reader.proofs.Cutting.{HasItsKind, kinds_whole}

-- Words none of which is a `{`; but behind a function, up to the next `)`, any may stand. The flag: such a `)` is still to come.
data Free : Bool → List Word → Type 0 where
  at_end : Free false []
  plain : (w : Word) (ws : List Word) → is_mark 123 w.kind ≡ false → Free false ws → Free false (w ∷ ws)
  call : (w : Word) (ws : List Word) → w.kind ≡ Function → Free true ws → Free false (w ∷ ws)
  inner : (w : Word) (ws : List Word) → is_mark 41 w.kind ≡ false → Free true ws → Free true (w ∷ ws)
  back : (w : Word) (ws : List Word) → w.kind ≡ Mark 41 → Free false ws → Free true (w ∷ ws)

free-append : (b : Bool) (xs ys : List Word) → Free b xs → Free false ys → Free b (xs ++ ys)
free-append _ _ ys at_end g = g
free-append _ _ ys (plain w ws e f) g = plain w (ws ++ ys) e (free-append false ws ys f g)
free-append _ _ ys (call w ws e f) g = call w (ws ++ ys) e (free-append true ws ys f g)
free-append _ _ ys (inner w ws e f) g = inner w (ws ++ ys) e (free-append true ws ys f g)
free-append _ _ ys (back w ws e f) g = back w (ws ++ ys) e (free-append false ws ys f g)

-- ---- by the grammar

one : (w : Word) (k : WordKind) → w.kind ≡ k → is_mark 123 k ≡ false → (ws : List Word) → Free false ws → Free false (w ∷ ws)
one w k e h ws f = plain w ws (ap (is_mark 123) e ∙ h) f

argument_in : (argument : List Word) → AllByRecursion (λ w. is_mark 41 w.kind ≡ false) argument → (close : Word) → close.kind ≡ Mark 41
    → Free true (argument ++ close ∷ [])
argument_in [] all close e = back close [] e at_end
argument_in (w ∷ ws) all close e = inner w (ws ++ close ∷ []) all.0 (argument_in ws all.1 close e)

not_curly : (c k : ℕ) → (c == k) ≡ true → (k == 123) ≡ false → (c == 123) ≡ false
not_curly c k e h = ap (λ (x : ℕ). x == 123) (eqb-true c k e) ∙ h

sign_free : (k : WordKind) (op : AttrOp) → operator_of k ≡ Some op → is_mark 123 k ≡ false
sign_free (Mark c) op e = by (c == 126) (c == 124) (c == 94) (c == 36) (c == 42) refl refl refl refl refl e
  where
    by : (b1 b2 b3 b4 b5 : Bool) → (c == 126) ≡ b1 → (c == 124) ≡ b2 → (c == 94) ≡ b3 → (c == 36) ≡ b4
        → (c == 42) ≡ b5
        → cond b1 (Some ops.Word)
        (cond b2 (Some ops.Dash) (cond b3 (Some ops.Prefix) (cond b4 (Some ops.Suffix) (cond b5 (Some ops.Part) None)))) ≡ Some op
        → (c == 123) ≡ false
    by true b2 b3 b4 b5 e1 e2 e3 e4 e5 h = not_curly c 126 e1 refl
    by false true b3 b4 b5 e1 e2 e3 e4 e5 h = not_curly c 124 e2 refl
    by false false true b4 b5 e1 e2 e3 e4 e5 h = not_curly c 94 e3 refl
    by false false false true b5 e1 e2 e3 e4 e5 h = not_curly c 36 e4 refl
    by false false false false true e1 e2 e3 e4 e5 h = not_curly c 42 e5 refl
    by false false false false false e1 e2 e3 e4 e5 h = absurd (cc)
sign_free _ op e = refl

joint_free : (k : WordKind) (joint : Joint) → combinator_of k ≡ Some joint → is_mark 123 k ≡ false
joint_free (Mark c) joint e = by (c == 62) (c == 43) (c == 126) refl refl refl e
  where
    by : (b1 b2 b3 : Bool) → (c == 62) ≡ b1 → (c == 43) ≡ b2 → (c == 126) ≡ b3
        → cond b1 (Some joints.Child) (cond b2 (Some joints.Next) (cond b3 (Some joints.Later) None)) ≡ Some joint → (c == 123) ≡ false
    by true b2 b3 e1 e2 e3 h = not_curly c 62 e1 refl
    by false true b3 e1 e2 e3 h = not_curly c 43 e2 refl
    by false false true e1 e2 e3 h = not_curly c 126 e3 refl
    by false false false e1 e2 e3 h = absurd (cc)
joint_free _ joint e = refl

operator_free : (ws : List Word) (op : AttrOp) → IsOperator ws op → Free false ws
operator_free _ _ (equal w e) = one w (Mark 61) e refl [] at_end
operator_free _ _ (other w e op is k tight) = plain w (e ∷ []) (sign_free w.kind op is) (one e (Mark 61) k refl [] at_end)

operand_free : (text : List ℕ) (w : Word) (value : List ℕ) → IsOperand text w value → (ws : List Word) → Free false ws → Free false (w ∷ ws)
operand_free _ _ _ (ident text w e) ws f = one w Ident e refl ws f
operand_free _ _ _ (string text w e) ws f = one w Str e refl ws f

test_free : (text : List ℕ) (ws : List Word) (t : TestForm) → IsTest text ws t → Free false ws
test_free _ _ _ (by_id text w e) = one w Id e refl [] at_end
test_free _ _ _ (by_class text dot name a b c) = one dot (Mark 46) a refl (name ∷ []) (one name Ident b refl [] at_end)
test_free _ _ _ (by_exists text first name close a b c) =
    one first (Mark 91) a refl (name ∷ close ∷ []) (one name Ident b refl (close ∷ []) (one close (Mark 93) c refl [] at_end))
test_free _ _ _ (by_compare text first name value close operator all op operand is a b k v c) =
    subst (Free false) (sym is)
    (one first (Mark 91) a refl (name ∷ (operator ++ value ∷ close ∷ [])) (one name Ident b refl (operator ++ value ∷ close ∷ [])
    (free-append false operator (value ∷ close ∷ []) (operator_free operator op k)
    (operand_free text value operand v (close ∷ []) (one close (Mark 93) c refl [] at_end)))))
test_free _ _ _ (by_pseudo text colon name t a b c d) = one colon (Mark 58) a refl (name ∷ []) (one name Ident b refl [] at_end)
test_free _ _ _ (by_nth text colon function close argument all kind step offset is a b c d args e nth) =
    subst (Free false) (sym is)
    (one colon (Mark 58) a refl (function ∷ (argument ++ close ∷ []))
    (call function (argument ++ close ∷ []) b (argument_in argument args close e)))
test_free _ _ _ (by_lang text colon function language close a b c d e f g h) =
    one colon (Mark 58) a refl (function ∷ language ∷ close ∷ []) (one function Function b refl (language ∷ close ∷ [])
    (one language Ident e refl (close ∷ []) (one close (Mark 41) g refl [] at_end)))

argument_free : (text : List ℕ) (ws : List Word) (t : TestForm) → IsArgument text ws t → Free false ws
argument_free _ _ _ (a_tag text w e) = one w Ident e refl [] at_end
argument_free _ _ _ (a_any text w e) = one w (Mark 42) e refl [] at_end
argument_free _ _ _ (a_test text front t k) = test_free text front t k

element_free : (text : List ℕ) (ws : List Word) → IsElement text ws → Free false ws
element_free _ _ (one_colon text colon name a b c d) = one colon (Mark 58) a refl (name ∷ []) (one name Ident b refl [] at_end)
element_free _ _ (two_colons text colon second name a b c d e f) =
    one colon (Mark 58) a refl (second ∷ name ∷ []) (one second (Mark 58) b refl (name ∷ []) (one name Ident d refl [] at_end))

item_free : (text : List ℕ) (ws : List Word) (x : Item) → IsCompoundItem text ws x → Free false ws
item_free _ _ _ (item_test text front t k) = test_free text front t k
item_free _ _ _ (item_not text colon function close argument all t is a b c d k e) =
    subst (Free false) (sym is)
    (one colon (Mark 58) a refl (function ∷ (argument ++ close ∷ [])) (one function Function b refl (argument ++ close ∷ [])
    (free-append false argument (close ∷ []) (argument_free text argument t k) (one close (Mark 41) e refl [] at_end))))
item_free _ _ _ (item_element text front k) = element_free text front k

first_free : (text : List ℕ) (ws : List Word) (x : Item) → IsFirst text ws x → Free false ws
first_free _ _ _ (first_tag text w e) = one w Ident e refl [] at_end
first_free _ _ _ (first_any text w e) = one w (Mark 42) e refl [] at_end
first_free _ _ _ (first_item text front x k) = item_free text front x k

run_free : {X : Type 0} (R : List Word → List X × Bool → Type 0)
    → ((front : List Word) (x : List X × Bool) → R front x → Free false front)
    → (element : Bool) (all : List Word) (x : List X × Bool) → Run R element all x → Free false all
run_free R own _ _ _ (done element) = at_end
run_free R own _ _ _ (more front rest all x y is r run) =
    subst (Free false) (sym is) (free-append false front rest (own front x r) (run_free R own x.1 rest y run))

compound_free : (text : List ℕ) (ws : List Word) (x : Item) → IsCompound text ws x → Free false ws
compound_free text ws x c =
    subst (Free false) (sym c.words)
    (free-append false c.front c.rest (first_free text c.front c.first c.is_first)
    (run_free (IsNextItem text) (λ front y k. item_free text front y k.1) c.first.1 c.rest c.others c.run))

combinator_free : (ws compound : List Word) (joint : Joint) → IsCombinator ws compound joint → Free false ws
combinator_free _ _ _ (mark w compound joint e) = plain w [] (joint_free w.kind joint e) at_end
combinator_free _ _ _ (white w ws e) = at_end

joined_free : (text : List ℕ) (ws : List Word) (x : Joined) → IsJoined text ws x → Free false ws
joined_free text ws x j =
    subst (Free false) (sym j.words)
    (free-append false j.combinator j.compound (combinator_free j.combinator j.compound j.joint j.is_combinator)
    (compound_free text j.compound j.item j.is_compound))

selector_free : (text : List ℕ) (ws : List Word) (s : SelectorForm) → IsSelector text ws s → Free false ws
selector_free text ws s k =
    subst (Free false) (sym k.words)
    (free-append false k.compound k.rest (compound_free text k.compound k.first k.is_compound)
    (run_free (IsJoined text) (λ front y j. joined_free text front y j) k.first.1 k.rest k.others k.run))

listed_free : (text : List ℕ) (ws : List Word) (ss : List SelectorForm) → AreListed text ws ss → Free false ws
listed_free text own _ (last_listed s none k) = selector_free text own s k
listed_free text _ _ (comma_and {ss = ss} own comma others s is none k c rest) =
    subst (Free false) (sym is)
    (free-append false own (comma ∷ others) (selector_free text own s k)
    (one comma (Mark 44) c refl others (listed_free text others ss rest)))

-- ---- among the pieces

-- a `(` or a function is open
abbrev has_round : List Bracket → Bool
has_round [] = false
has_round (Round ∷ bs) = true
has_round (b ∷ bs) = has_round bs

-- a `)`
abbrev is_round_close : TokenKind → Bool
is_round_close tokens.CloseRound = true
is_round_close _ = false

some_round : (bs : List Bracket) → has_round bs ≡ true → is_none_open bs ≡ false
some_round [] h = cc
some_round (b ∷ bs) h = refl

round_stays : (k : TokenKind) (bs : List Bracket) → is_round_close k ≡ false → has_round bs ≡ true → has_round (open_after bs k) ≡ true
round_stays tokens.Function bs e h = refl
round_stays tokens.OpenRound bs e h = refl
round_stays tokens.OpenSquare bs e h = h
round_stays tokens.OpenCurly bs e h = h
round_stays tokens.CloseRound bs e h = absurd (cc)
round_stays tokens.CloseSquare [] e h = h
round_stays tokens.CloseSquare (Round ∷ bs) e h = refl
round_stays tokens.CloseSquare (Square ∷ bs) e h = h
round_stays tokens.CloseSquare (Curly ∷ bs) e h = h
round_stays tokens.CloseCurly [] e h = h
round_stays tokens.CloseCurly (Round ∷ bs) e h = refl
round_stays tokens.CloseCurly (Square ∷ bs) e h = h
round_stays tokens.CloseCurly (Curly ∷ bs) e h = h
round_stays _ bs e h = h

-- the codes of `{` and `)`
kinds : (a b d e f g h i j : Bool) → TokenKind
kinds a b d e f g h i j = cond a tokens.Colon (cond b tokens.Semicolon (cond d tokens.Comma (cond e tokens.OpenSquare
    (cond f tokens.CloseSquare (cond g tokens.OpenRound (cond h tokens.CloseRound (cond i tokens.OpenCurly
    (cond j tokens.CloseCurly tokens.Delim))))))))

kinds_curly : (a b d e f g h i j : Bool) → tokens.OpenCurly ≡ kinds a b d e f g h i j → i ≡ true
unfolding kinds
kinds_curly true b d e f g h i j is = absurd (cc)
kinds_curly false true d e f g h i j is = absurd (cc)
kinds_curly false false true e f g h i j is = absurd (cc)
kinds_curly false false false true f g h i j is = absurd (cc)
kinds_curly false false false false true g h i j is = absurd (cc)
kinds_curly false false false false false true h i j is = absurd (cc)
kinds_curly false false false false false false true i j is = absurd (cc)
kinds_curly false false false false false false false true j is = refl
kinds_curly false false false false false false false false true is = absurd (cc)
kinds_curly false false false false false false false false false is = absurd (cc)

kinds_round : (a b d e f g h i j : Bool) → tokens.CloseRound ≡ kinds a b d e f g h i j → h ≡ true
unfolding kinds
kinds_round true b d e f g h i j is = absurd (cc)
kinds_round false true d e f g h i j is = absurd (cc)
kinds_round false false true e f g h i j is = absurd (cc)
kinds_round false false false true f g h i j is = absurd (cc)
kinds_round false false false false true g h i j is = absurd (cc)
kinds_round false false false false false true h i j is = absurd (cc)
kinds_round false false false false false false true i j is = refl
kinds_round false false false false false false false true j is = absurd (cc)
kinds_round false false false false false false false false true is = absurd (cc)
kinds_round false false false false false false false false false is = absurd (cc)

curly_code : (c : ℕ) → tokens.OpenCurly ≡ mark_kind c → (c == 123) ≡ true
unfolding kinds
curly_code c e = kinds_curly (c == 58) (c == 59) (c == 44) (c == 91) (c == 93) (c == 40) (c == 41) (c == 123) (c == 125) e

round_code : (c : ℕ) → tokens.CloseRound ≡ mark_kind c → (c == 41) ≡ true
unfolding kinds
round_code c e = kinds_round (c == 58) (c == 59) (c == 44) (c == 91) (c == 93) (c == 40) (c == 41) (c == 123) (c == 125) e

clash : (b : Bool) → b ≡ true → b ≡ false → ⊥
clash true e h = cc
clash false e h = cc

passed : (k : TokenKind) (c : ℕ) → (is_character_kind k ≡ true → k ≡ mark_kind c) → is_mark 123 (word_kind k c) ≡ false
    → stops_at stops.Block k ≡ false
passed tokens.OpenCurly c own e = absurd (clash (c == 123) (curly_code c (own refl)) e)
passed _ c own e = refl

no_close : (k : TokenKind) (c : ℕ) → (is_character_kind k ≡ true → k ≡ mark_kind c) → is_mark 41 (word_kind k c) ≡ false
    → is_round_close k ≡ false
no_close tokens.CloseRound c own e = absurd (clash (c == 41) (round_code c (own refl)) e)
no_close _ c own e = refl

a_function : (k : TokenKind) (c : ℕ) → word_kind k c ≡ Function → k ≡ tokens.Function
a_function tokens.Function c e = refl
a_function (tokens.Hash b) c e = absurd (by b e)
  where
    by : (b : Bool) → word_kind (tokens.Hash b) c ≡ Function → ⊥
    by true e = cc
    by false e = cc
a_function _ c e = absurd (cc)

and_false : (a b : Bool) → b ≡ false → (a && b) ≡ false
and_false true b e = e
and_false false b e = refl

first_false : (a b : Bool) → a ≡ false → (a && b) ≡ false
first_false true b e = absurd (cc)
first_false false b e = refl

-- the search goes on behind a piece
step : (t : Token) (ts rest : List Token) (bs : List Bracket) → (is_none_open bs && stops_at stops.Block t.kind) ≡ false
    → until_in stops.Block (open_after bs t.kind) (ts ++ rest)
    ≡ length ts + until_in stops.Block (opens (open_after bs t.kind) ts) rest
    → until_in stops.Block bs (t ∷ (ts ++ rest)) ≡ length (t ∷ ts) + until_in stops.Block (opens bs (t ∷ ts)) rest
unfolding opens
step t ts rest bs e next = let on = go_on stops.Block bs t (ts ++ rest) e in omega (arith, on, next)

-- a blank piece changes nothing
blank : (k : TokenKind) → (k ≡ tokens.Comment) → (bs : List Bracket)
    → (stops_at stops.Block k ≡ false) × (open_after bs k ≡ bs)
blank tokens.Comment e bs = (refl, refl)
blank _ e bs = absurd (cc)

white_blank : (k : TokenKind) → (k ≡ tokens.WhiteSpace) → (bs : List Bracket)
    → (stops_at stops.Block k ≡ false) × (open_after bs k ≡ bs)
white_blank tokens.WhiteSpace e bs = (refl, refl)
white_blank _ e bs = absurd (cc)

-- The search for a block passes all pieces of such words.
words_passed : (text : List ℕ) (b spaced : Bool) (ts : List Token) (ws : List Word) → AllByRecursion (HasItsKind text) ts
    → AreWordsOf text spaced ts ws → Free b ws → (bs : List Bracket) → (b ≡ true → has_round bs ≡ true) → (rest : List Token)
    → until_in stops.Block bs (ts ++ rest) ≡ length ts + until_in stops.Block (opens bs ts) rest
unfolding opens
words_passed text b spaced _ _ own no_words f bs round rest = omega arith
words_passed text b spaced _ ws own (past_comment {ts = ts} t e are) f bs round rest =
    let quiet = blank t.kind e bs in
    step t ts rest bs (and_false (is_none_open bs) (stops_at stops.Block t.kind) quiet.0)
    (words_passed text b spaced ts ws own.1 are f (open_after bs t.kind) (λ h. ap has_round quiet.1 ∙ round h) rest)
words_passed text b spaced _ ws own (past_white {ts = ts} t e are) f bs round rest =
    let quiet = white_blank t.kind e bs in
    step t ts rest bs (and_false (is_none_open bs) (stops_at stops.Block t.kind) quiet.0)
    (words_passed text b true ts ws own.1 are f (open_after bs t.kind) (λ h. ap has_round quiet.1 ∙ round h) rest)
words_passed text b spaced _ _ own (word_and {ts = ts} {ws = ws} t e are) f bs round rest =
    by b f round (λ c g h. words_passed text c false ts ws own.1 are g (open_after bs t.kind) h rest)
  where
    code : ℕ
    code = slice_index text t.start

    kind : is_character_kind t.kind ≡ true → t.kind ≡ mark_kind code
    kind h = (own.0 h).1

    Passed : Type 0
    Passed = until_in stops.Block bs (t ∷ (ts ++ rest)) ≡ length (t ∷ ts) + until_in stops.Block (opens bs (t ∷ ts)) rest

    Rest : Type 0
    Rest = (c : Bool) → Free c ws → (c ≡ true → has_round (open_after bs t.kind) ≡ true)
        → until_in stops.Block (open_after bs t.kind) (ts ++ rest)
        ≡ length ts + until_in stops.Block (opens (open_after bs t.kind) ts) rest

    by : (c : Bool) → Free c (word_of text spaced t ∷ ws) → (c ≡ true → has_round bs ≡ true) → Rest → Passed
    by _ (plain _ _ k g) h next =
        step t ts rest bs (and_false (is_none_open bs) (stops_at stops.Block t.kind) (passed t.kind code kind k)) (next false g (λ no. cc))
    by _ (call _ _ k g) h next =
        let is : t.kind ≡ tokens.Function = a_function t.kind code k in
        step t ts rest bs (and_false (is_none_open bs) (stops_at stops.Block t.kind) (ap (stops_at stops.Block) is))
        (next true g (λ yes. ap (λ (x : TokenKind). has_round (open_after bs x)) is))
    by _ (inner _ _ k g) h next =
        step t ts rest bs (first_false (is_none_open bs) (stops_at stops.Block t.kind) (some_round bs (h refl)))
        (next true g (λ yes. round_stays t.kind bs (no_close t.kind code kind k) (h refl)))
    by _ (back _ _ k g) h next =
        step t ts rest bs (first_false (is_none_open bs) (stops_at stops.Block t.kind) (some_round bs (h refl))) (next false g (λ no. cc))

-- where brackets are closed none is open
pub closed_opens : (bs : List Bracket) (ts : List Token) → nesting_in bs ts ≡ Closed → opens bs ts ≡ []
unfolding nesting_in opens
closed_opens [] [] e = refl
closed_opens (b ∷ bs) [] e = absurd (cc)
closed_opens bs (t ∷ ts) e = by (is_stray bs t.kind) e (λ h. closed_opens (open_after bs t.kind) ts h)
  where
    by : (x : Bool) → cond x Stray (nesting_in (open_after bs t.kind) ts) ≡ Closed
        → (nesting_in (open_after bs t.kind) ts ≡ Closed → opens (open_after bs t.kind) ts ≡ []) → opens (open_after bs t.kind) ts ≡ []
    by true h next = absurd (cc)
    by false h next = next h

-- The search for a block passes a list of selectors whose brackets are closed.
pub selectors_pass : (text : List ℕ) (ss : List SelectorForm) → selectors_of text ≡ Some ss → nesting (pieces text) ≡ Closed
    → (rest : List Token) → until stops.Block (pieces text ++ rest) ≡ length (pieces text) + until stops.Block rest
selectors_pass text ss found closed rest =
    let list = prelude_spells text (pieces text) ss found in
    words_passed text false false (pieces text) list.words (kinds_whole text) list.are_words
    (listed_free text list.words ss list.listed) [] (λ none. cc) rest
    ∙ ap (λ (bs : List Bracket). length (pieces text) + until_in stops.Block bs rest) (closed_opens [] (pieces text) closed)
