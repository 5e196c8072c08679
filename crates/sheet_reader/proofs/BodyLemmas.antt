-- One item more of a body.
use Rattle.std.proofs.Common.{◌≡◌, ℕ, ◌<◌, ◌≤◌, List, [], ◌∷◌, ◌++◌, length, drop, get_or, All, sym, ap, subst, ◌∙◌, append_assoc}
use Rattle.std.proofs.Common.{append-nil, length-drop, arith}
use Rattle.std.specs.Prelude.{option_to_list}
use Rattle.css_tokens.specs.declared.token.Token.{Token}
use Rattle.sheet_reader.specs.declared.sheet.Property.{Property}
use Rattle.sheet_reader.specs.Declarations.{ItemForm, item_at, item_pieces, item_property, items_after, properties_in, declarations}
use Rattle.sheet_reader.proofs.PartLemmas.{item_front, item_some, items_step, front_fits, front_all}

pub item_all : (P : Token → Type 0) (left : List Token) (d : Token) (item : ItemForm) → 0 < length left
    → item ≡ item_at (get_or left 0 d) (drop 1 left) → All P left → All P (item_pieces item)
item_all P [] d item some e all = absurd (omega (arith, some))
item_all P (t ∷ ts) d item some e all = subst (λ (x : ItemForm). All P (item_pieces x)) (sym e)
    (front_all P (item_pieces (item_at t ts)) (t ∷ ts) (item_front t ts) all)

pub item_fits : (left : List Token) (d : Token) (item : ItemForm) → 0 < length left → item ≡ item_at (get_or left 0 d) (drop 1 left)
    → length (item_pieces item) ≤ length left
item_fits [] d item some e = absurd (omega (arith, some))
item_fits (t ∷ ts) d item some e =
    let fits = front_fits (item_pieces (item_at t ts)) (t ∷ ts) (item_front t ts) in
    let same = ap (λ (x : ItemForm). length (item_pieces x)) e in
    omega (arith, fits, same)

pub item_smaller : (left rest : List Token) (d : Token) (item : ItemForm) (n : ℕ) → 0 < length left
    → item ≡ item_at (get_or left 0 d) (drop 1 left) → n ≡ length (item_pieces item) → rest ≡ drop n left → length rest < length left
item_smaller [] rest d item n some e is_n is_rest = absurd (omega (arith, some))
item_smaller (t ∷ ts) rest d item n some e is_n is_rest =
    let own = item_some t ts in
    let same = ap (λ (x : ItemForm). length (item_pieces x)) e in
    let cut = ap (λ (x : List Token). length x) is_rest ∙ length-drop n (t ∷ ts) in
    omega (arith, own, same, is_n, cut)

declared_step : (text : List ℕ) (t : Token) (ts : List Token)
    → declarations text (t ∷ ts) ≡ option_to_list (item_property text (item_at t ts))
    ++ declarations text (drop (length (item_pieces (item_at t ts))) (t ∷ ts))
unfolding properties_in
declared_step text t ts = ap (properties_in text) (items_step t ts)

pub items_more : (text : List ℕ) (left rest : List Token) (d : Token) (item : ItemForm) (n : ℕ) (before after total : List Property)
    → 0 < length left → item ≡ item_at (get_or left 0 d) (drop 1 left) → n ≡ length (item_pieces item) → rest ≡ drop n left
    → after ≡ before ++ option_to_list (item_property text item) → before ++ declarations text left ≡ total
    → after ++ declarations text rest ≡ total
items_more text [] rest d item n before after total some e is_n is_rest is_after so_far = absurd (omega (arith, some))
items_more text (t ∷ ts) rest d item n before after total some e is_n is_rest is_after so_far =
    let count = is_n ∙ ap (λ (x : ItemForm). length (item_pieces x)) e in
    ap (λ (ps : List Property). ps ++ declarations text rest)
    (is_after ∙ ap (λ (x : ItemForm). before ++ option_to_list (item_property text x)) e)
    ∙ append_assoc before (option_to_list (item_property text (item_at t ts))) (declarations text rest)
    ∙ ap (λ (xs : List Token). before ++ (option_to_list (item_property text (item_at t ts)) ++ declarations text xs))
    (is_rest ∙ ap (λ (k : ℕ). drop k (t ∷ ts)) count)
    ∙ ap (λ (ps : List Property). before ++ ps) (sym (declared_step text t ts))
    ∙ so_far

pub items_done : (text : List ℕ) (left : List Token) (before total : List Property) → length left < 1
    → before ++ declarations text left ≡ total → before ≡ total
unfolding items_after properties_in
items_done text [] before total none so_far = sym (append-nil before) ∙ so_far
items_done text (t ∷ ts) before total none so_far = absurd (omega (arith, none))
