-- Parts that are laid out: the depth is deep enough, one part more, and the relation both ways.
use Rattle.std.proofs.Common.{◌≡◌, ℕ, zero, suc, ◌+◌, ◌<◌, ◌≤◌, Bool, true, false, cond, List, [], ◌∷◌, ◌++◌, length, drop}
use Rattle.std.proofs.Common.{Option, Some, None, refl, sym, ap, subst, ◌∙◌, length-append, length-drop, arith}
use Rattle.std.specs.Prelude.{option_to_list}
use Rattle.css_tokens.specs.declared.token.Token.{Token}
use Rattle.selectors.proofs.Choices.{none_some, some_is}
use Rattle.sheet_reader.specs.declared.parts.Level.{Level}
use Rattle.sheet_reader.specs.declared.parts.Level.TheVariants.{Inner}
use Rattle.sheet_reader.specs.Parts.{EndingForm, text_end, semicolon, block, PartForm, passed, at_rule, qualified, part_at, part_pieces}
use Rattle.sheet_reader.specs.Parts.{parts}
use Rattle.sheet_reader.specs.Parts.{parts_after}
use Rattle.sheet_reader.specs.Grammar.{AreParts}
use Rattle.sheet_reader.specs.Layout.{names_media, MediaForm, media_by, media_form, media_in, Laid, laid, level_of, laid_behind}
use Rattle.sheet_reader.specs.Layout.{laid_with, laid_to, laid_out, AreLaid, none_laid, part_laid, media_laid}
use Rattle.sheet_reader.proofs.PartLemmas.{part_front, part_some, parts_step, front_fits}
use Rattle.sheet_reader.proofs.GrammarForms.{parts_spelled, parts_only}

-- ---- a block is shorter than its rule

block_short : (keyword : Token) (prelude : List Token) (ending : EndingForm) (m : MediaForm) → media_by keyword prelude ending ≡ Some m
    → suc (length m.inside) < length (part_pieces (at_rule keyword prelude ending))
block_short keyword prelude text_end m e = absurd (none_some m e)
block_short keyword prelude (semicolon t) m e = absurd (none_some m e)
block_short keyword prelude (block first inside close) m e =
    let same : length inside ≡ length m.inside = ap (λ (x : MediaForm). length x.inside)
    (some_is (record { keyword = keyword; prelude = prelude; inside = inside }) m e) in
    let outer = length-append prelude (first ∷ (inside ++ option_to_list close)) in
    let inner = length-append inside (option_to_list close) in
    omega (arith, same, outer, inner)

pub media_short : (text : List ℕ) (p : PartForm) (m : MediaForm) → media_form text p ≡ Some m
    → suc (length m.inside) < length (part_pieces p)
unfolding media_form
media_short text (passed t) m e = absurd (none_some m e)
media_short text (qualified prelude ending) m e = absurd (none_some m e)
media_short text (at_rule keyword prelude ending) m e = by (names_media text keyword keyword.kind) e
  where
    by : (b : Bool) → cond b (media_by keyword prelude ending) None ≡ Some m
        → suc (length m.inside) < length (part_pieces (at_rule keyword prelude ending))
    by false e = absurd (none_some m e)
    by true e = block_short keyword prelude ending m e

AreWithin : ℕ → List PartForm → Type 0
AreWithin n [] = Unit {0}
AreWithin n (p ∷ ps) = (length (part_pieces p) ≤ n) × AreWithin n ps

within_is : (level : Level) (n : ℕ) (ps : List PartForm) (ts : List Token) → AreParts level ps ts → length ts ≤ n → AreWithin n ps
unfolding AreWithin
within_is level n [] ts is fits = tt
within_is level n (p ∷ ps) ts is fits =
    let len : length ts ≡ length (part_pieces p) + length is.0 =
    ap (λ (xs : List Token). length xs) is.1 ∙ length-append (part_pieces p) is.0 in
    (omega (arith, fits, len), within_is level n ps is.0 is.3 (omega (arith, fits, len)))

-- ---- the depth is deep enough

behind_same : (text : List ℕ) (f g : ℕ → List Token → List Laid) (k : ℕ) (others more : ℕ → List Laid) → ((j : ℕ) → others j ≡ more j)
    → (o : Option MediaForm) → ((m : MediaForm) → o ≡ Some m → f k m.inside ≡ g k m.inside)
    → laid_behind text f k o others ≡ laid_behind text g k o more
behind_same text f g k others more next None own = next k
behind_same text f g k others more next (Some m) own =
    ap (λ (w : List Laid). w ++ others (suc k + length (media_in text w))) (own m refl)
    ∙ ap (λ (ls : List Laid). g k m.inside ++ ls) (next (suc k + length (media_in text (g k m.inside))))

with_same : (text : List ℕ) (f g : ℕ → List Token → List Laid) (around : Option ℕ) (n : ℕ)
    → ((j : ℕ) (inside : List Token) → suc (length inside) < n → f j inside ≡ g j inside)
    → (ps : List PartForm) → AreWithin n ps → (k : ℕ) → laid_with text f around k ps ≡ laid_with text g around k ps
unfolding laid_with AreWithin
with_same text f g around n same [] within k = refl
with_same text f g around n same (p ∷ ps) within k =
    ap (λ (ls : List Laid). laid around p ∷ ls)
    (behind_same text f g k (λ j. laid_with text f around j ps) (λ j. laid_with text g around j ps)
    (λ j. with_same text f g around n same ps within.1 j) (media_form text p)
    (λ m e. same k m.inside (let short = media_short text p m e in omega (arith, short, within.0))))

depth_same : (d e : ℕ) (text : List ℕ) (around : Option ℕ) (level : Level) (ts : List Token) → length ts ≤ d → length ts ≤ e → (k : ℕ)
    → laid_to d text around k (parts level ts) ≡ laid_to e text around k (parts level ts)
unfolding laid_to laid_with parts_after
depth_same zero zero text around level ts a b k = refl
depth_same zero (suc e) text around level [] a b k = refl
depth_same zero (suc e) text around level (t ∷ ts) a b k = absurd (omega (arith, a))
depth_same (suc d) zero text around level [] a b k = refl
depth_same (suc d) zero text around level (t ∷ ts) a b k = absurd (omega (arith, b))
depth_same (suc d) (suc e) text around level ts a b k =
    with_same text (λ n inside. laid_to d text (Some n) (suc n) (parts Inner inside))
    (λ n inside. laid_to e text (Some n) (suc n) (parts Inner inside)) around (length ts)
    (λ j inside less. depth_same d e text (Some j) Inner inside (omega (arith, a, less)) (omega (arith, b, less)) (suc j))
    (parts level ts) (within_is level (length ts) (parts level ts) ts (parts_spelled level ts) (omega arith)) k

-- what stands in a block
abbrev pub block_laid : List ℕ → ℕ → List Token → List Laid
block_laid text n inside = laid_out text (Some n) (suc n) inside

pub out_with : (text : List ℕ) (around : Option ℕ) (k : ℕ) (ts : List Token)
    → laid_out text around k ts ≡ laid_with text (block_laid text) around k (parts (level_of around) ts)
unfolding laid_to laid_with parts_after
out_with text around k [] = refl
out_with text around k (t ∷ ts) =
    with_same text (λ n inside. laid_to (length ts) text (Some n) (suc n) (parts Inner inside)) (block_laid text) around (length (t ∷ ts))
    (λ j inside less. depth_same (length ts) (length inside) text (Some j) Inner inside (omega (arith, less)) (omega arith) (suc j))
    (parts (level_of around) (t ∷ ts))
    (within_is (level_of around) (length (t ∷ ts)) (parts (level_of around) (t ∷ ts)) (t ∷ ts)
    (parts_spelled (level_of around) (t ∷ ts)) (omega arith)) k

-- the pieces behind the first part
abbrev pub rest_of : Option ℕ → Token → List Token → List Token
rest_of around t ts = drop (length (part_pieces (part_at (level_of around) t ts))) (t ∷ ts)

-- one part more
pub laid_step : (text : List ℕ) (around : Option ℕ) (k : ℕ) (t : Token) (ts : List Token)
    → laid_out text around k (t ∷ ts)
    ≡ laid around (part_at (level_of around) t ts)
    ∷ laid_behind text (block_laid text) k (media_form text (part_at (level_of around) t ts))
    (λ j. laid_out text around j (rest_of around t ts))
unfolding laid_with
laid_step text around k t ts =
    let p = part_at (level_of around) t ts in
    out_with text around k (t ∷ ts)
    ∙ ap (laid_with text (block_laid text) around k) (parts_step (level_of around) t ts)
    ∙ ap (λ (ls : List Laid). laid around p ∷ ls)
    (behind_same text (block_laid text) (block_laid text) k
    (λ j. laid_with text (block_laid text) around j (parts (level_of around) (rest_of around t ts)))
    (λ j. laid_out text around j (rest_of around t ts)) (λ j. sym (out_with text around j (rest_of around t ts))) (media_form text p)
    (λ m e. refl))

-- ---- the relation, both ways

spelled_by : (text : List ℕ) (around : Option ℕ) (k : ℕ) (p : PartForm) (ps : List PartForm) (others : ℕ → List Laid)
    → ((j : ℕ) → AreLaid text around j ps (others j)) → (o : Option MediaForm) → media_form text p ≡ o
    → ((m : MediaForm) → media_form text p ≡ Some m → AreLaid text (Some k) (suc k) (parts Inner m.inside) (block_laid text k m.inside))
    → AreLaid text around k (p ∷ ps) (laid around p ∷ laid_behind text (block_laid text) k o others)
spelled_by text around k p ps others next None e own = part_laid p ps (others k) e (next k)
spelled_by text around k p ps others next (Some m) e own =
    media_laid p m (parts Inner m.inside) ps (block_laid text k m.inside)
    (others (suc k + length (media_in text (block_laid text k m.inside))))
    e (parts_spelled Inner m.inside) (own m e) (next (suc k + length (media_in text (block_laid text k m.inside))))

spelled_in : (n : ℕ) (text : List ℕ) (around : Option ℕ) (k : ℕ) (ts : List Token) → length ts ≤ n
    → AreLaid text around k (parts (level_of around) ts) (laid_out text around k ts)
unfolding laid_to parts_after
spelled_in n text around k [] fits = none_laid
spelled_in zero text around k (t ∷ ts) fits = absurd (omega (arith, fits))
spelled_in (suc n) text around k (t ∷ ts) fits =
    let level = level_of around in
    let p = part_at level t ts in
    let rest = rest_of around t ts in
    let some = part_some level t ts in
    let own = front_fits (part_pieces p) (t ∷ ts) (part_front level t ts) in
    let cut = length-drop (length (part_pieces p)) (t ∷ ts) in
    subst (λ (ps : List PartForm). AreLaid text around k ps (laid_out text around k (t ∷ ts))) (sym (parts_step level t ts))
    (subst (AreLaid text around k (p ∷ parts level rest)) (sym (laid_step text around k t ts))
    (spelled_by text around k p (parts level rest) (λ j. laid_out text around j rest)
    (λ j. spelled_in n text around j rest (omega (arith, fits, some, cut))) (media_form text p) refl
    (λ m e. spelled_in n text (Some k) (suc k) m.inside
    (let short = media_short text p m e in omega (arith, fits, own, short)))))

-- what is laid out is laid out by the relation
pub laid_spelled : (text : List ℕ) (around : Option ℕ) (k : ℕ) (ts : List Token)
    → AreLaid text around k (parts (level_of around) ts) (laid_out text around k ts)
laid_spelled text around k ts = spelled_in (length ts) text around k ts (omega arith)

only_with : (text : List ℕ) (around : Option ℕ) (k : ℕ) (ps : List PartForm) (ls : List Laid) → AreLaid text around k ps ls
    → ls ≡ laid_with text (block_laid text) around k ps
unfolding laid_with
only_with text around k _ _ none_laid = refl
only_with text around k _ _ (part_laid p ps ls e more) =
    ap (λ (xs : List Laid). laid around p ∷ xs)
    (only_with text around k ps ls more
    ∙ ap (λ (o : Option MediaForm). laid_behind text (block_laid text) k o (λ j. laid_with text (block_laid text) around j ps)) (sym e))
only_with text around k _ _ (media_laid p m inner ps within ls e is own more) =
    let same : within ≡ block_laid text k m.inside =
    only_with text (Some k) (suc k) inner within own
    ∙ ap (laid_with text (block_laid text) (Some k) (suc k)) (parts_only Inner inner m.inside is)
    ∙ sym (out_with text (Some k) (suc k) m.inside) in
    ap (λ (xs : List Laid). laid around p ∷ xs)
    (ap (λ (xs : List Laid). within ++ xs) (only_with text around (suc k + length (media_in text within)) ps ls more)
    ∙ ap (λ (w : List Laid). w ++ laid_with text (block_laid text) around (suc k + length (media_in text w)) ps) same
    ∙ ap (λ (o : Option MediaForm). laid_behind text (block_laid text) k o (λ j. laid_with text (block_laid text) around j ps)) (sym e))

-- and nothing else is
pub laid_only : (text : List ℕ) (around : Option ℕ) (k : ℕ) (ts : List Token) (ls : List Laid)
    → AreLaid text around k (parts (level_of around) ts) ls → ls ≡ laid_out text around k ts
laid_only text around k ts ls is =
    only_with text around k (parts (level_of around) ts) ls is ∙ sym (out_with text around k ts)
