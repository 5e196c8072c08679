-- Parts that are laid out, with their places moved: they are laid out so again; and those that stay.
use Rattle.std.proofs.Common.{◌≡◌, ◌⊎◌, inl, inr, ℕ, suc, ◌+◌, ◌-◌, ◌<◌, ◌≤◌, Bool, true, false, cond, nat_le, List, [], ◌∷◌, ◌++◌, map}
use Rattle.std.proofs.Common.{length}
use Rattle.std.proofs.Common.{Option, Some, None, refl, sym, ap, subst, ◌∙◌, arith}
use Rattle.std.specs.Prelude.{option_map, option_to_list}
use Rattle.std.proofs.lemmas.Bool.Decides.{nat_tests}
use Rattle.css_tokens.specs.declared.token.Token.{Token}
use Rattle.selectors.specs.Moves.{Cut, moved_place}
use Rattle.sheet_reader.specs.declared.parts.Level.{Level}
use Rattle.sheet_reader.specs.declared.parts.Level.TheVariants.{Inner}
use Rattle.sheet_reader.specs.Parts.{EndingForm, text_end, semicolon, block, PartForm, passed, at_rule, qualified, ending_pieces}
use Rattle.sheet_reader.specs.Parts.{part_pieces, parts}
use Rattle.sheet_reader.specs.Layout.{MediaForm, media_form, media_in, Laid, laid}
use Rattle.sheet_reader.specs.Layout.{AreLaid, none_laid, part_laid, media_laid}
use Rattle.sheet_reader.specs.Grammar.{IsEnding, IsPart, at_rule_part, qualified_part, passed_part, AreParts, IsShutEnding, IsShut, AreShut}
use Rattle.sheet_reader.specs.Grammar.{at_text_end, at_semicolon, in_block, in_open_block}
use Rattle.sheet_reader.proofs.Raised.{raised, raised_ending, raised_part, raised_laid, raised_media, flat}
use Rattle.sheet_reader.proofs.GrammarForms.{parts_only, parts_spelled}
use Rattle.sheet_reader.proofs.OpenForms.{inside_shut}
use Rattle.sheet_reader.proofs.UsableForms.{media_is}
use Rattle.sheet_reader.proofs.PartMoves.{AreFlat, flat_of, flat_parts, parts_raised, map_append, map_length, part_pieces_raised}
use Rattle.sheet_reader.proofs.WordMoves.{SamePart}
use Rattle.sheet_reader.proofs.ReadMoves.{AllTokens, tokens_split, PartMoved, LaidIn, LaidMoved, form_in}
use Rattle.sheet_reader.proofs.ReadMoves.{form_same, media_same}

pub laid_in_append : (lo hi : ℕ) (xs ys : List Laid) → LaidIn lo hi xs → LaidIn lo hi ys → LaidIn lo hi (xs ++ ys)
laid_in_append lo hi [] ys a b = b
laid_in_append lo hi (x ∷ xs) ys a b = (a.0, laid_in_append lo hi xs ys a.1 b)

-- where the pieces of parts stand, all that they lay out stands
pub laid_in : (lo hi : ℕ) (text : List ℕ) (around : Option ℕ) (k : ℕ) (ps : List PartForm) (ls : List Laid) → AreLaid text around k ps ls
    → AllTokens lo hi (flat ps) → LaidIn lo hi ls
laid_in lo hi text around k _ _ none_laid all = tt
laid_in lo hi text around k _ _ (part_laid p ps ls e more) all =
    let both = tokens_split lo hi (part_pieces p) (flat ps) all in
    (both.0, laid_in lo hi text around k ps ls more both.1)
laid_in lo hi text around k _ _ (media_laid p m inner ps within ls e is own more) all =
    let both = tokens_split lo hi (part_pieces p) (flat ps) all in
    let inner_all : AllTokens lo hi (flat inner) =
    subst (AllTokens lo hi) (flat_of Inner inner m.inside is).0 (form_in text lo hi p m e both.0).1 in (
      both.0,
      laid_in_append lo hi within ls (laid_in lo hi text (Some k) (suc k) inner within own inner_all)
          (laid_in lo hi text around (suc k + length (media_in text within)) ps ls more both.1),
    )

-- parts with their places moved are parts
pub parts_again : (level : Level) (f : ℕ → ℕ) (ps : List PartForm) (ts : List Token) → AreParts level ps ts
    → AreParts level (map (raised_part f) ps) (map (raised f) ts)
parts_again level f ps ts are =
    subst (λ (qs : List PartForm). AreParts level qs (map (raised f) ts))
    (parts_raised level f ts ∙ sym (ap (map (raised_part f)) (parts_only level ps ts are)))
    (parts_spelled level (map (raised f) ts))

pub flat_raised : (f : ℕ → ℕ) (ps : List PartForm) → flat (map (raised_part f) ps) ≡ map (raised f) (flat ps)
flat_raised f [] = refl
flat_raised f (p ∷ ps) =
    let a = part_pieces_raised f p in
    let b = flat_raised f ps in
    (λ i. a i ++ b i) ∙ sym (map_append (raised f) (part_pieces p) (flat ps))

pub flat_again : (level : Level) (f : ℕ → ℕ) (ps : List PartForm) → AreFlat level ps → AreFlat level (map (raised_part f) ps)
flat_again level f ps all =
    (flat_of level (map (raised_part f) ps) (map (raised f) (flat ps)) (parts_again level f ps (flat ps) (flat_parts level ps all))).1

module _ (text other : List ℕ) (f : ℕ → ℕ) (lo hi : ℕ) (same : SamePart text other f lo hi) where
  pub laid_again : (around : Option ℕ) (k : ℕ) (ps : List PartForm) (ls : List Laid) → AreLaid text around k ps ls
      → AllTokens lo hi (flat ps)
      → AreLaid other around k (map (raised_part f) ps) (map (raised_laid f) ls)
  laid_again around k _ _ none_laid all = none_laid
  laid_again around k _ _ (part_laid p ps ls e more) all =
      let both = tokens_split lo hi (part_pieces p) (flat ps) all in
      part_laid (raised_part f p) (map (raised_part f) ps) (map (raised_laid f) ls)
      (form_same text other f lo hi same p both.0 ∙ ap (option_map (raised_media f)) e) (laid_again around k ps ls more both.1)
  laid_again around k _ _ (media_laid p m inner ps within ls e is own more) all =
      let both = tokens_split lo hi (part_pieces p) (flat ps) all in
      let inner_all : AllTokens lo hi (flat inner) =
      subst (AllTokens lo hi) (flat_of Inner inner m.inside is).0 (form_in text lo hi p m e both.0).1 in
      let count : length (media_in text within) ≡ length (media_in other (map (raised_laid f) within)) =
      sym (ap length (media_same text other f lo hi same within (laid_in lo hi text (Some k) (suc k) inner within own inner_all))
      ∙ map_length _ (media_in text within)) in
      subst (λ (xs : List Laid). AreLaid other around k (raised_part f p ∷ map (raised_part f) ps) (laid around (raised_part f p) ∷ xs))
      (sym (map_append (raised_laid f) within ls))
      (media_laid (raised_part f p) (raised_media f m) (map (raised_part f) inner) (map (raised_part f) ps) (map (raised_laid f) within)
      (map (raised_laid f) ls) (form_same text other f lo hi same p both.0 ∙ ap (option_map (raised_media f)) e)
      (parts_again Inner f inner m.inside is) (laid_again (Some k) (suc k) inner within own inner_all)
      (subst (λ (n : ℕ). AreLaid other around (suc k + n) (map (raised_part f) ps) (map (raised_laid f) ls)) count
      (laid_again around (suc k + length (media_in text within)) ps ls more both.1)))

-- ---- places that stay
pub stays : (c : Cut) (x : ℕ) → x ≤ c.start → moved_place c x ≡ x
stays c x e = by (nat_le x c.start) (yes x c.start e)
  where
    yes : (a b : ℕ) → a ≤ b → nat_le a b ≡ true
    yes a b e = grind (arith, nat_tests)

    by : (b : Bool) → b ≡ true → cond b x (x - c.end + c.start + c.size) ≡ x
    by true e = refl
    by false e = cc

-- places that go, as far as the cut's end
pub goes : (c : Cut) (x : ℕ) → c.start < x → moved_place c x ≡ x - c.end + c.start + c.size
goes c x e = by (nat_le x c.start) (no x c.start e)
  where
    no : (a b : ℕ) → b < a → nat_le a b ≡ false
    no a b e = grind (arith, nat_tests)

    by : (b : Bool) → b ≡ false → cond b x (x - c.end + c.start + c.size) ≡ x - c.end + c.start + c.size
    by false e = refl
    by true e = cc

-- a function that keeps the places from one to another keeps what stands there
module _ (f : ℕ → ℕ) (lo hi : ℕ) (keep : (x : ℕ) → lo ≤ x → x ≤ hi → f x ≡ x) where
  pub token_kept : (t : Token) → AllTokens lo hi (t ∷ []) → raised f t ≡ t
  token_kept t all =
      let i = all.0 in
      let a = keep t.start i.0 (omega (arith, i.1, i.2)) in
      let b = keep t.end (omega (arith, i.0, i.1)) i.2 in
      λ k. record { kind = t.kind; start = a k; end = b k }

  pub tokens_kept : (ts : List Token) → AllTokens lo hi ts → map (raised f) ts ≡ ts
  tokens_kept [] all = refl
  tokens_kept (t ∷ ts) all =
      let a = token_kept t (all.0, tt) in
      let more = tokens_kept ts all.1 in
      λ k. a k ∷ more k

  close_kept : (close : Option Token) → AllTokens lo hi (option_to_list close) → option_map (raised f) close ≡ close
  close_kept None all = refl
  close_kept (Some t) all = ap Some (token_kept t all)

  ending_kept : (e : EndingForm) → AllTokens lo hi (ending_pieces e) → raised_ending f e ≡ e
  ending_kept text_end all = refl
  ending_kept (semicolon t) all = ap semicolon (token_kept t all)
  ending_kept (block first within close) all =
      let both = tokens_split lo hi within (option_to_list close) all.1 in
      let a = token_kept first (all.0, tt) in
      let w = tokens_kept within both.0 in
      let d = close_kept close both.1 in
      λ k. block (a k) (w k) (d k)

  pub part_kept : (p : PartForm) → AllTokens lo hi (part_pieces p) → raised_part f p ≡ p
  part_kept (passed t) all = ap passed (token_kept t all)
  part_kept (at_rule keyword prelude ending) all =
      let both = tokens_split lo hi prelude (ending_pieces ending) all.1 in
      let a = token_kept keyword (all.0, tt) in
      let w = tokens_kept prelude both.0 in
      let d = ending_kept ending both.1 in
      λ k. at_rule (a k) (w k) (d k)
  part_kept (qualified prelude ending) all =
      let both = tokens_split lo hi prelude (ending_pieces ending) all in
      let w = tokens_kept prelude both.0 in
      let d = ending_kept ending both.1 in
      λ k. qualified (w k) (d k)

  pub parts_kept : (ps : List PartForm) → AllTokens lo hi (flat ps) → map (raised_part f) ps ≡ ps
  parts_kept [] all = refl
  parts_kept (p ∷ ps) all =
      let both = tokens_split lo hi (part_pieces p) (flat ps) all in
      let a = part_kept p both.0 in
      let b = parts_kept ps both.1 in
      λ k. a k ∷ b k

  pub laid_kept : (ls : List Laid) → LaidIn lo hi ls → map (raised_laid f) ls ≡ ls
  laid_kept [] all = refl
  laid_kept (l ∷ ls) all =
      let a = part_kept l.part all.0 in
      let b = laid_kept ls all.1 in
      λ k. (laid l.around (a k)) ∷ b k

-- ---- ends of bodies
ending_shut : (ending : EndingForm) (rest : List Token) → (rest ≡ [] → ⊥) → IsEnding ending rest → IsShutEnding ending
ending_shut _ rest some (at_text_end over) = tt
ending_shut _ rest some (at_semicolon t e) = tt
ending_shut _ rest some (in_block first close within e vs closed) = tt
ending_shut _ rest some (in_open_block first within e vs over) = some over

-- a part with something behind it is not ended by the text's end
pub part_shut : (level : Level) (p : PartForm) (rest : List Token) → (rest ≡ [] → ⊥) → IsPart level p rest → IsShut p
part_shut level _ rest some (passed_part t e) = tt
part_shut level _ rest some (at_rule_part keyword prelude ending e r) = ending_shut ending rest some r.ends
part_shut level _ rest some (qualified_part prelude ending begins r) = ending_shut ending rest some r.ends

pub shut_moved : (text other : List ℕ) (f : ℕ → ℕ) (p : PartForm) → IsShut p → PartMoved text other f p
shut_moved text other f (passed t) shut = tt
shut_moved text other f (at_rule keyword prelude ending) shut = tt
shut_moved text other f (qualified prelude text_end) shut = tt
shut_moved text other f (qualified prelude (semicolon t)) shut = tt
shut_moved text other f (qualified prelude (block first within (Some c))) shut = tt
shut_moved text other f (qualified prelude (block first within None)) shut = absurd shut

-- in a media rule that is closed all parts are
pub media_shut : (level : Level) (text : List ℕ) (p : PartForm) (m : MediaForm) (inner : List PartForm) (rest : List Token)
    → media_form text p ≡ Some m → AreParts Inner inner m.inside → IsPart level p rest → IsShut p → AreShut inner
media_shut level text p m inner rest e are is shut =
    let i = media_is text p m e in
    subst AreShut (sym (parts_only Inner inner m.inside are))
    (by i.close (subst (λ (q : PartForm). IsPart level q rest) i.is is) (subst IsShut i.is shut))
  where
    by : (close : Option Token) → IsPart level (at_rule m.keyword m.prelude (block (media_is text p m e).first m.inside close)) rest
        → IsShut (at_rule m.keyword m.prelude (block (media_is text p m e).first m.inside close)) → AreShut (parts Inner m.inside)
    by None is shut = absurd shut
    by (Some c) (at_rule_part _ _ _ k r) shut = inside_shut Inner (media_is text p m e).first c m.inside rest r.ends

pub laid_moved_append : (text other : List ℕ) (f : ℕ → ℕ) (xs ys : List Laid) → LaidMoved text other f xs → LaidMoved text other f ys
    → LaidMoved text other f (xs ++ ys)
laid_moved_append text other f [] ys a b = b
laid_moved_append text other f (x ∷ xs) ys a b = (a.0, laid_moved_append text other f xs ys a.1 b)

-- nothing that is laid out from parts that are closed is ended by the text's end
pub laid_shut : (text other : List ℕ) (f : ℕ → ℕ) (around : Option ℕ) (k : ℕ) (ps : List PartForm) (ls : List Laid)
    → AreLaid text around k ps ls → (level : Level) → AreFlat level ps → AreShut ps → LaidMoved text other f ls
laid_shut text other f around k _ _ none_laid level all shut = tt
laid_shut text other f around k _ _ (part_laid p ps ls e more) level all shut =
    (shut_moved text other f p shut.0, laid_shut text other f around k ps ls more level all.1 shut.1)
laid_shut text other f around k _ _ (media_laid p m inner ps within ls e is own more) level all shut = (
  shut_moved text other f p shut.0,
  laid_moved_append text other f within ls
      (laid_shut text other f (Some k) (suc k) inner within own Inner (flat_of Inner inner m.inside is).1
      (media_shut level text p m inner (flat ps) e is all.0 shut.0))
      (laid_shut text other f around (suc k + length (media_in text within)) ps ls more level all.1 shut.1),
)

pub any_moved : (text other : List ℕ) (f : ℕ → ℕ) → f (length text) ≡ length other → (ls : List Laid) → LaidMoved text other f ls
any_moved text other f e [] = tt
any_moved text other f e (l ∷ ls) = (one l.part, any_moved text other f e ls)
  where
    one : (p : PartForm) → PartMoved text other f p
    one (passed t) = tt
    one (at_rule keyword prelude ending) = tt
    one (qualified prelude text_end) = tt
    one (qualified prelude (semicolon t)) = tt
    one (qualified prelude (block first within None)) = e
    one (qualified prelude (block first within (Some c))) = tt

-- behind the text's end nothing is laid out
pub none_behind : (text other : List ℕ) (f : ℕ → ℕ) (around : Option ℕ) (k : ℕ) (level : Level) (ps : List PartForm) (ls : List Laid)
    → AreFlat level ps → AreLaid text around k ps ls → (flat ps ≡ []) ⊎ (f (length text) ≡ length other) → LaidMoved text other f ls
none_behind text other f around k level ps ls all are (inr e) = any_moved text other f e ls
none_behind text other f around k level ps ls all are (inl e) =
    let none : ps ≡ parts level [] = parts_only level ps (flat ps) (flat_parts level ps all) ∙ ap (parts level) e in
    by ps ls are (none ∙ sym (parts_only level [] [] refl))
  where
    by : (ps : List PartForm) (ls : List Laid) → AreLaid text around k ps ls → ps ≡ [] → LaidMoved text other f ls
    by _ _ none_laid e = tt
    by _ _ (part_laid p ps ls a more) e = absurd (cc)
    by _ _ (media_laid p m inner ps within ls a is own more) e = absurd (cc)
