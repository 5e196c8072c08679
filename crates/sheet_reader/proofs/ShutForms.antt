-- A text ends at the `}` of each of its rules at top level: what stands before it is a text of its own.
use Rattle.std.proofs.Common.{◌≡◌, ℕ, suc, ◌+◌, ◌<◌, true, false, List, [], ◌∷◌, ◌++◌, map, length}
use Rattle.std.proofs.Common.{Option, Some, None, refl, sym, ap, subst, ◌∙◌, append_assoc, length-append, arith}
use Rattle.std.specs.Prelude.{slice_get, option_to_list}
use Rattle.std.proofs.lemmas.List.{append-nil}
use Rattle.css_tokens.specs.declared.token.Range.{Range}
use Rattle.css_tokens.specs.declared.token.Token.{Token}
use Rattle.css_tokens.specs.declared.token.TokenKind.TheVariants as tokens
use Rattle.css_tokens.specs.Rows.{piece}
use Rattle.css_tokens.specs.Pieces.{pieces, pieces_after}
use Rattle.css_tokens.specs.Seams.{IsWholeBefore}
use Rattle.css_tokens.proofs.SeamPieces.{pieces_at, whole_before}
use Rattle.selectors.specs.Words.{words_after}
use Rattle.sheet_reader.specs.declared.parts.Level.{Level}
use Rattle.sheet_reader.specs.declared.parts.Level.TheVariants.{Top}
use Rattle.sheet_reader.specs.Forms.{range, RuleForm}
use Rattle.sheet_reader.specs.Parts.{block, PartForm, qualified, part_pieces, parts}
use Rattle.sheet_reader.specs.Layout.{media_form, media_in, Laid, laid, laid_out, AreLaid, none_laid, part_laid}
use Rattle.sheet_reader.specs.Layout.{media_laid}
use Rattle.sheet_reader.specs.Joins.{is_shut_part, ends_shut, is_shut_text}
use Rattle.sheet_reader.specs.Moves.{placed_rule}
use Rattle.sheet_reader.specs.Sheets.{body_end, rule_of, rules_in, sheet_of}
use Rattle.sheet_reader.proofs.Raised.{raised_laid, flat}
use Rattle.sheet_reader.proofs.GrammarForms.{parts_only, parts_spelled}
use Rattle.sheet_reader.proofs.LayoutForms.{laid_spelled, laid_only}
use Rattle.sheet_reader.proofs.UsableForms.{rules_append}
use Rattle.sheet_reader.proofs.SealedCuts.{split_at, close_first, close_piece, one_more}
use Rattle.sheet_reader.proofs.PartMoves.{AreFlat, flat_of, flat_parts, part_rest}
use Rattle.sheet_reader.proofs.BlockMoves.{BodyShut}
use Rattle.sheet_reader.proofs.WordMoves.{SamePart}
use Rattle.sheet_reader.proofs.ReadMoves.{AllTokens, rules_same}
use Rattle.sheet_reader.proofs.TextMoves.{widen, whole_tokens, same_part}
use Rattle.sheet_reader.proofs.LaidMoves.{laid_in, laid_again, parts_kept, laid_kept, laid_shut}
use Rattle.sheet_reader.proofs.RulePaths.{RulePart, rule_part, Path, here, past_part, past_media, in_media, find, path_ends}
use Rattle.sheet_reader.proofs.MovedLaw.{head_of, path_body}
use Rattle.sheet_reader.proofs.JoinForms.{shut_rest, some_piece, flat_append, all_shut}
use Rattle.sheet_reader.proofs.JoinedLaw.{same_list, same_rule}

-- ---- the parts up to a rule at top level
record Front (text : List ℕ) (r : RuleForm) (q : RulePart) (around : Option ℕ) (k : ℕ) (ps : List PartForm) (rs : List RuleForm)
    : Type 0 where
  fs : List PartForm
  fl : List Laid
  rest : List PartForm
  is : ps ≡ fs ++ rule_part q ∷ rest
  are_laid : AreLaid text around k (fs ++ rule_part q ∷ []) (fl ++ laid around (rule_part q) ∷ [])
  rules : rules_in text (fl ++ laid around (rule_part q) ∷ []) ≡ rs ++ r ∷ []

-- a rule in a media rule has one around it
inside : (text : List ℕ) (r : RuleForm) (q : RulePart) (around : Option ℕ) (k : ℕ) (ps : List PartForm) (ls : List Laid)
    (rs : List RuleForm) (xs more : List Token) → Path text r q around k ps ls rs xs more → (around ≡ None → ⊥) → r.media ≡ None → ⊥
unfolding rule_of
inside text r q around k _ _ _ _ _ (here ps ls are e) some none =
    some ((head_of text around (words_after text false q.prelude) (range q.brace.end (body_end text q.close)) q.body r e).media ∙ none)
inside text r q around k _ _ _ _ _
    (past_part p ps ls rs xs more e path) some none = inside text r q around k ps ls rs xs more path some none
inside text r q around k _ _ _ _ _ (past_media p m inner ps within ls rs xs more is own inner_are path) some none =
    inside text r q around (suc k + length (media_in text within)) ps ls rs xs more path some none
inside text r q around k _ _ _ _ _ (in_media m first last inner ps within ls rs xs more is own path are) some none =
    inside text r q (Some k) (suc k) inner within rs xs more path (λ e. cc) none

front_of : (text : List ℕ) (r : RuleForm) (q : RulePart) (around : Option ℕ) (k : ℕ) (ps : List PartForm) (ls : List Laid)
    (rs : List RuleForm) (xs more : List Token) → Path text r q around k ps ls rs xs more → r.media ≡ None → Front text r q around k ps rs
unfolding rules_in media_form
front_of text r q around k _ _ _ _ _ (here ps ls are e) none = record {
  fs = [];
  fl = [];
  rest = ps;
  is = refl;
  are_laid = part_laid (rule_part q) [] [] refl none_laid;
  rules = ap (λ (o : Option RuleForm). option_to_list o ++ []) e;
}
front_of text r q around k _ _ _ _ _ (past_part p ps ls rs xs more e path) none =
    let f = front_of text r q around k ps ls rs xs more path none in
    record {
      fs = p ∷ f.fs;
      fl = laid around p ∷ f.fl;
      rest = f.rest;
      is = ap (λ (xs : List PartForm). p ∷ xs) f.is;
      are_laid = part_laid p (f.fs ++ rule_part q ∷ []) (f.fl ++ laid around (rule_part q) ∷ []) e f.are_laid;
      rules = rules_append text (laid around p ∷ []) (f.fl ++ laid around (rule_part q) ∷ [])
          ∙ ap (λ (xs : List RuleForm). rules_in text (laid around p ∷ []) ++ xs) f.rules
          ∙ sym (append_assoc (rules_in text (laid around p ∷ [])) rs (r ∷ []));
    }
front_of text r q around k _ _ _ _ _ (past_media p m inner ps within ls rs xs more is own inner_are path) none =
    let f = front_of text r q around (suc k + length (media_in text within)) ps ls rs xs more path none in
    let last = laid around (rule_part q) ∷ [] in
    record {
      fs = p ∷ f.fs;
      fl = laid around p ∷ (within ++ f.fl);
      rest = f.rest;
      is = ap (λ (xs : List PartForm). p ∷ xs) f.is;
      are_laid = subst (λ (xs : List Laid). AreLaid text around k (p ∷ (f.fs ++ rule_part q ∷ [])) (laid around p ∷ xs))
          (sym (append_assoc within f.fl last))
          (media_laid p m inner (f.fs ++ rule_part q ∷ []) within (f.fl ++ last) is own inner_are f.are_laid);
      rules = ap (λ (xs : List Laid). rules_in text (laid around p ∷ xs)) (append_assoc within f.fl last)
          ∙ rules_append text (laid around p ∷ within) (f.fl ++ last)
          ∙ ap (λ (xs : List RuleForm). rules_in text (laid around p ∷ within) ++ xs) f.rules
          ∙ sym (append_assoc (rules_in text (laid around p ∷ within)) rs (r ∷ []));
    }
front_of text r q around k _ _ _ _ _ (in_media m first last inner ps within ls rs xs more is own path are) none =
    absurd (inside text r q (Some k) (suc k) inner within rs xs more path (λ e. cc) none)

-- parts up to a rule that has its `}`, without what stands behind
pub flat_front : (level : Level) (ps : List PartForm) (p : PartForm) (qs : List PartForm) → is_shut_part p ≡ true
    → AreFlat level (ps ++ p ∷ qs) → AreFlat level (ps ++ p ∷ [])
flat_front level [] p qs shut all = (shut_rest level p (flat qs) [] shut all.0, tt)
flat_front level (x ∷ ps) p qs shut all =
    let more = flat_front level ps p qs shut all.1 in
    (part_rest level x (flat (ps ++ p ∷ qs)) (flat (ps ++ p ∷ [])) (some level ps p qs all.1) all.0, more)
  where
    some : (level : Level) (ps : List PartForm) (p : PartForm) (qs : List PartForm) → AreFlat level (ps ++ p ∷ qs)
        → flat (ps ++ p ∷ qs) ≡ [] → ⊥
    some level [] p qs all = some_piece level p (flat qs) (flat qs) all.0
    some level (y ∷ ps) p qs all = some_piece level y (flat (ps ++ p ∷ qs)) (flat (ps ++ p ∷ qs)) all.0

pub ends_last : (ps : List PartForm) (p : PartForm) → ends_shut (ps ++ p ∷ []) ≡ is_shut_part p
ends_last [] p = refl
ends_last (x ∷ []) p = refl
ends_last (x ∷ y ∷ ps) p = ends_last (y ∷ ps) p

-- ---- the text up to there
-- a text up to a rule's `}`
pub record ShutAt (text : List ℕ) (k : ℕ) (r : RuleForm) : Type 0 where
  pub front : List ℕ
  pub behind : List ℕ
  pub is : text ≡ front ++ behind
  pub size : length front ≡ suc r.body.end
  pub shut : is_shut_text front ≡ true
  pub number : length (sheet_of front).rules ≡ suc k

front_alone : (front behind : List ℕ) → SamePart (front ++ behind) front (λ x. x) 0 (length front)
front_alone front behind =
    let both : SamePart ([] ++ (front ++ behind)) ([] ++ (front ++ [])) (λ x. x) 0 (0 + length front) =
    same_part [] front behind [] [] (λ x. x) (λ x fits. refl) in
    let at : 0 + length front ≡ length front = omega arith in
    subst (λ (n : ℕ). SamePart (front ++ behind) front (λ x. x) 0 n) at
    (subst (λ (t : List ℕ). SamePart (front ++ behind) t (λ x. x) 0 (0 + length front)) (append-nil front) both)

shut_here : (front behind : List ℕ) (k : ℕ) (r : RuleForm) (q : RulePart) (rs : List RuleForm) (c : Token)
    → (f : Front (front ++ behind) r q None 0 (parts Top (pieces (front ++ behind))) rs) → q.close ≡ Some c → length rs ≡ k
    → IsWholeBefore [] 0 front (flat (f.fs ++ rule_part q ∷ [])) → length front ≡ suc r.body.end → ShutAt (front ++ behind) k r
unfolding pieces_after
shut_here front behind k r q rs c f close number whole size =
    let text = front ++ behind in
    let n = length front in
    let ps = f.fs ++ rule_part q ∷ [] in
    let ls = f.fl ++ laid None (rule_part q) ∷ [] in
    let shut_q : is_shut_part (rule_part q) ≡ true =
    ap (λ (o : Option Token). is_shut_part (qualified q.prelude (block q.brace q.body o))) close in
    let both = flat_of Top (parts Top (pieces text)) (pieces text) (parts_spelled Top (pieces text)) in
    let all = flat_front Top f.fs (rule_part q) f.rest shut_q (subst (AreFlat Top) f.is both.1) in
    let tokens : pieces front ≡ flat ps = sym (ap pieces (append-nil front)) ∙ pieces_at [] front (flat ps) whole ∙ append-nil (flat ps) in
    let new_parts : ps ≡ parts Top (pieces front) = parts_only Top ps (flat ps) (flat_parts Top ps all) ∙ ap (parts Top) (sym tokens) in
    let ends : ends_shut ps ≡ true = ends_last f.fs (rule_part q) ∙ shut_q in
    let inside_all : AllTokens 0 n (flat ps) =
    widen 0 (0 + n) 0 n (flat ps) (omega arith) (omega arith) (whole_tokens [] 0 front (flat ps) whole) in
    let same = front_alone front behind in
    let laid_all = laid_in 0 n text None 0 ps ls f.are_laid inside_all in
    let moved = laid_shut text front (λ x. x) None 0 ps ls f.are_laid Top all (all_shut Top ps ends all) in
    let parts_stay = parts_kept (λ x. x) 0 n (λ x a b. refl) ps inside_all in
    let laid_stay = laid_kept (λ x. x) 0 n (λ x a b. refl) ls laid_all in
    let laid_there : AreLaid front None 0 ps ls = subst (AreLaid front None 0 ps) laid_stay
    (subst (λ (qs : List PartForm). AreLaid front None 0 qs (map (raised_laid (λ x. x)) ls)) parts_stay
    (laid_again text front (λ x. x) 0 n same None 0 ps ls f.are_laid inside_all)) in
    let new_laid : ls ≡ laid_out front None 0 (pieces front) =
    laid_only front None 0 (pieces front) ls (subst (λ (qs : List PartForm). AreLaid front None 0 qs ls) new_parts laid_there) in
    let rules : rules_in front (laid_out front None 0 (pieces front)) ≡ rs ++ r ∷ [] =
    sym (ap (rules_in front) new_laid) ∙ sym (ap (rules_in front) laid_stay) ∙ rules_same text front (λ x. x) 0 n same ls laid_all moved
    ∙ same_list (placed_rule (λ x. x)) same_rule (rules_in text ls) ∙ f.rules in
    record {
      front = front;
      behind = behind;
      is = refl;
      size = size;
      shut = sym (ap ends_shut new_parts) ∙ ends;
      number = omega (arith, ap length rules, length-append rs (r ∷ []), number);
    }

-- the pieces of a rule end with its `}`
front_pieces : (fs : List PartForm) (q : RulePart) (c : Token) (rest : List PartForm) → q.close ≡ Some c
    → (us : List Token) × (flat (fs ++ rule_part q ∷ []) ≡ us ++ c ∷ []) × (flat (fs ++ rule_part q ∷ rest) ≡ us ++ c ∷ flat rest)
front_pieces fs q c rest close =
    let us = flat fs ++ (q.prelude ++ q.brace ∷ q.body) in
    let own : part_pieces (rule_part q) ≡ (q.prelude ++ q.brace ∷ q.body) ++ c ∷ [] =
    ap (λ (o : Option Token). q.prelude ++ q.brace ∷ (q.body ++ option_to_list o)) close
    ∙ sym (append_assoc q.prelude (q.brace ∷ q.body) (c ∷ [])) in
    let both : (ys : List Token) → flat fs ++ (part_pieces (rule_part q) ++ ys) ≡ us ++ c ∷ ys = λ ys.
    ap (λ (xs : List Token). flat fs ++ (xs ++ ys)) own
    ∙ ap (λ (xs : List Token). flat fs ++ xs) (append_assoc (q.prelude ++ q.brace ∷ q.body) (c ∷ []) ys)
    ∙ sym (append_assoc (flat fs) (q.prelude ++ q.brace ∷ q.body) (c ∷ ys)) in
    (us, flat_append fs (rule_part q ∷ []) ∙ both [], flat_append fs (rule_part q ∷ rest) ∙ both (flat rest))

shut_some : (text : List ℕ) (k : ℕ) (r : RuleForm) (q : RulePart) (rs : List RuleForm) (c : Token)
    → (t : Front text r q None 0 (parts Top (pieces text)) rs) → q.close ≡ Some c → c.kind ≡ tokens.CloseCurly → r.body.end ≡ c.start
    → pieces text ≡ flat (t.fs ++ rule_part q ∷ t.rest) → length rs ≡ k → ShutAt text k r
shut_some text k r q rs c t close kind ends spelled number =
    let fp = front_pieces t.fs q c t.rest close in
    let us = fp.0 in
    let s = split_at us (c ∷ flat t.rest) 0 text (spelled ∙ fp.2) in
    let m = close_first s.after (0 + length s.front) c (flat t.rest) kind (sym s.left) in
    let front = s.front ++ 125 ∷ [] in
    let is : text ≡ front ++ m.behind =
    s.is ∙ ap (λ (x : List ℕ). s.front ++ x) m.is ∙ sym (append_assoc s.front (125 ∷ []) m.behind) in
    let seam : IsWholeBefore (125 ∷ []) 0 s.front us = whole_before 125 refl m.behind [] 0 s.front us
    (subst (λ (x : List ℕ). IsWholeBefore x 0 s.front us) m.is s.whole) in
    let token : ◌≡◌ {A = Token} (record { kind = tokens.CloseCurly; start = 0 + length s.front; end = 0 + length s.front + 1 }) c =
    λ i. record { kind = sym kind i; start = sym m.start i; end = sym m.end i } in
    let own : us ++ (record { kind = tokens.CloseCurly; start = 0 + length s.front; end = 0 + length s.front + 1 }) ∷ []
    ≡ flat (t.fs ++ rule_part q ∷ []) = ap (λ (u : Token). us ++ u ∷ []) token ∙ sym fp.1 in
    let whole : IsWholeBefore [] 0 front (flat (t.fs ++ rule_part q ∷ [])) = subst (IsWholeBefore [] 0 front) own
    (one_more [] (125 ∷ []) (piece tokens.CloseCurly 1) 0 s.front us seam refl (close_piece [])) in
    let size : length front ≡ suc r.body.end = omega (arith, length-append s.front (125 ∷ []), ends, m.start) in
    subst (λ (x : List ℕ). (f : Front x r q None 0 (parts Top (pieces x)) rs)
    → IsWholeBefore [] 0 front (flat (f.fs ++ rule_part q ∷ [])) → ShutAt x k r) (sym is)
    (λ f there. shut_here front m.behind k r q rs c f close number there size) t whole

pub shut_at : (text : List ℕ) (k : ℕ) (r : RuleForm) → slice_get (sheet_of text).rules k ≡ Some r → r.media ≡ None
    → r.body.end < length text → ShutAt text k r
shut_at text k r e none closed =
    let top = parts Top (pieces text) in
    let ls = laid_out text None 0 (pieces text) in
    let f = find text r None 0 top ls (laid_spelled text None 0 (pieces text)) k e in
    let both = flat_of Top top (pieces text) (parts_spelled Top (pieces text)) in
    let t = front_of text r f.q None 0 top ls f.rs f.xs f.more f.path none in
    let ends = path_ends text r f.q None 0 top ls f.rs f.xs f.more f.path Top both.1 in
    let own = path_body text r f.q None 0 top ls f.rs f.xs f.more f.path in
    by f.q.close f.q f.rs t refl ends.shut (ap (λ (x : Range). x.end) own) (both.0 ∙ ap flat t.is) f.number
  where
    by : (o : Option Token) (q : RulePart) (rs : List RuleForm) (t : Front text r q None 0 (parts Top (pieces text)) rs) → q.close ≡ o
        → BodyShut q.body q.close → r.body.end ≡ body_end text q.close → pieces text ≡ flat (t.fs ++ rule_part q ∷ t.rest)
        → length rs ≡ k → ShutAt text k r
    by None q rs t close shut end spelled number =
        let last = end ∙ ap (body_end text) close in absurd (omega (arith, last, closed))
    by (Some c) q rs t close shut end spelled number =
        shut_some text k r q rs c t close (subst (BodyShut q.body) close shut).0 (end ∙ ap (body_end text) close) spelled number
