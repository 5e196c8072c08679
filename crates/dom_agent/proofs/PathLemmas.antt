-- Paths: their parts, their indices and names, and the walk.
use Rattle.std.proofs.Common.{◌≡◌, ℕ, zero, suc, ◌+◌, ◌-◌, ◌<◌, ◌≤◌, Bool, true, false, not, ◌==◌, cond, nat_lt, List, [], ◌∷◌, length}
use Rattle.std.proofs.Common.{take, drop, length-drop, Option, Some, None, option_map, refl, sym, ap, ◌∙◌, arith}
use Rattle.std.specs.List.{prefix_len, position, onto_first}
use Rattle.std.specs.Option.{option_and_then}
use Rattle.std.proofs.lemmas.List.{take_all}
use Rattle.std.proofs.lemmas.Bool.Decides.{nat_tests}
use Rattle.node_tree.specs.Nodes.{Nodes, none, node, Branch, tree_at, width}
use Rattle.page_tree.specs.Pages.{PageRow}
use Rattle.dom_agent.specs.Paths.{parts_of, parts_after_comma, PathStep, step_of, onto, steps_of, child_by, node_by}

-- ---- parts

abbrev no_comma : ℕ → Bool
no_comma b = not (b == 44)

parts_cut : (text : List ℕ) (k : ℕ) → k ≡ prefix_len no_comma text → k < length text
    → parts_of text ≡ take k text ∷ parts_of (drop (k + 1) text)
parts_cut [] k e h = absurd (omega arith)
parts_cut (b ∷ bs) zero e h =
    elim (b == 44) as (λ t. 0 ≡ cond {A = ℕ} (not t) (1 + prefix_len no_comma bs) 0
    → cond t ([] ∷ parts_of bs) (onto_first b (parts_of bs)) ≡ [] ∷ parts_of bs) [
      | true ↦ λ _. refl
      | false ↦ λ e. absurd (omega arith)
    ] e
parts_cut (b ∷ bs) (suc k) e h =
    let next : suc k + 1 ≡ suc (k + 1) = omega arith in
    elim (b == 44) as (λ t. suc k ≡ cond {A = ℕ} (not t) (1 + prefix_len no_comma bs) 0
    → cond t ([] ∷ parts_of bs) (onto_first b (parts_of bs)) ≡ (b ∷ take k bs) ∷ parts_of (drop (suc k + 1) (b ∷ bs))) [
      | true ↦ λ e. absurd (omega arith)
      | false ↦ λ e. ap (onto_first b) (parts_cut bs k (omega arith) (omega arith)) ∙ sym
          (ap (λ m. (b ∷ take k bs) ∷ parts_of (drop m (b ∷ bs))) next)
    ] e

parts_whole : (text : List ℕ) → length text ≤ prefix_len no_comma text → parts_of text ≡ text ∷ []
parts_whole [] h = refl
parts_whole (b ∷ bs) h =
    elim (b == 44) as (λ t. suc (length bs) ≤ cond {A = ℕ} (not t) (1 + prefix_len no_comma bs) 0
    → cond t ([] ∷ parts_of bs) (onto_first b (parts_of bs)) ≡ (b ∷ bs) ∷ []) [
      | true ↦ λ h. absurd (omega arith)
      | false ↦ λ h. ap (onto_first b) (parts_whole bs (omega arith))
    ] h

at_end : (text : List ℕ) (k : ℕ) → None ≡ cond (nat_lt k (length text)) (Some k) None → length text ≤ k
at_end text k e =
    elim (nat_lt k (length text)) as (λ t. nat_lt k (length text) ≡ t → None ≡ cond t (Some k) None → length text ≤ k) [
      | true ↦ λ _ e. absurd (cc)
      | false ↦ λ t _. grind (arith, nat_tests)
    ] refl e

at_place : (text : List ℕ) (k i : ℕ) → Some i ≡ cond (nat_lt k (length text)) (Some k) None → (i ≡ k) × (k < length text)
at_place text k i e =
    elim (nat_lt k (length text)) as (λ t. nat_lt k (length text) ≡ t → Some i ≡ cond t (Some k) None → (i ≡ k) × (k < length text)) [
      | true ↦ λ t e. (let same : i ≡ k = cc in same, let within : k < length text = grind (arith, nat_tests) in within)
      | false ↦ λ _ e. absurd (cc)
    ] refl e

pub parts_last : (text : List ℕ) → None ≡ position (λ byte. byte == 44) text → parts_of text ≡ text ∷ []
parts_last text e = parts_whole text (at_end text (prefix_len no_comma text) e)

pub parts_first : (text : List ℕ) (i : ℕ) → Some i ≡ position (λ byte. byte == 44) text
    → parts_of text ≡ take i text ∷ parts_of (take (length text - (i + 1)) (drop (i + 1) text))
parts_first text i e =
    let at = at_place text (prefix_len no_comma text) i e in
    let within : i < length text = omega (arith, at.0, at.1) in
    parts_cut text i at.0 within ∙ ap (λ l. take i text ∷ parts_of l)
    (sym (take_all (length text - (i + 1)) (drop (i + 1) text) (omega (arith, length-drop (i + 1) text))))

-- ---- the walk

pub tree_at-past : (n : Nodes PageRow) (i : ℕ) → width n ≤ i → tree_at i n ≡ None
tree_at-past none i h = refl
tree_at-past (node r c t) zero h = absurd (omega arith)
tree_at-past (node r c t) (suc i) h = tree_at-past t i (omega arith)

parts_some : (text : List ℕ) → (p : List ℕ) × ((ps : List (List ℕ)) × (parts_of text ≡ p ∷ ps))
parts_some [] = ([], ([], refl))
parts_some (b ∷ bs) =
    let rest = parts_some bs in
    elim (b == 44) as (λ t. (p : List ℕ) × ((ps : List (List ℕ)) × (cond t ([] ∷ parts_of bs) (onto_first b (parts_of bs)) ≡ p ∷ ps))) [
      | true ↦ ([], (parts_of bs, refl))
      | false ↦ (b ∷ rest.0, (rest.1.0, ap (onto_first b) rest.1.1))
    ]

onto_some : (s : Option PathStep) (steps : Option (List PathStep)) → onto s steps ≡ Some [] → ⊥
onto_some None steps e = absurd (cc)
onto_some (Some s) None e = absurd (cc)
onto_some (Some s) (Some ss) e = absurd (cc)

one_some : (s : Option PathStep) → option_map (λ s. s ∷ []) s ≡ Some [] → ⊥
one_some None e = absurd (cc)
one_some (Some s) e = absurd (cc)

steps_some : (ps : List (List ℕ)) → steps_of ps ≡ Some [] → ⊥
steps_some [] e = absurd (cc)
steps_some (i ∷ []) e = absurd (cc)
steps_some (i ∷ n ∷ []) e = one_some (step_of i n) e
steps_some (i ∷ n ∷ p ∷ ps) e = onto_some (step_of i n) (steps_of (p ∷ ps)) e

nowhere : {A B : Type 0} (o : Option A) → option_and_then {T = A} {U = B} (λ _. None) o ≡ None
nowhere None = refl
nowhere (Some x) = refl

walk_on : (n : Nodes PageRow) (s : Option PathStep) (steps : Option (List PathStep)) → (steps ≡ Some [] → ⊥)
    → option_and_then (λ ss. node_by ss n) (onto s steps)
    ≡ option_and_then (λ (b : Branch PageRow). option_and_then (λ ss. node_by ss b.children) steps) (option_and_then (λ s. child_by s n) s)
walk_on n None steps h = refl
walk_on n (Some s) None h = sym (nowhere (child_by s n))
walk_on n (Some s) (Some []) h = absurd (h refl)
walk_on n (Some s) (Some (next ∷ more)) h = refl

walk_last : (n : Nodes PageRow) (s : Option PathStep)
    → option_and_then (λ ss. node_by ss n) (option_map (λ s. s ∷ []) s) ≡ option_and_then (λ s. child_by s n) s
walk_last n None = refl
walk_last n (Some s) = refl

-- where no child is named so, a path leads nowhere
pub walk_nowhere : (n : Nodes PageRow) (path named index name : List ℕ) (rest : Option (List ℕ)) → parts_of path ≡ index ∷ parts_of named
    → parts_of named ≡ name ∷ parts_after_comma rest → None ≡ option_and_then (λ step. child_by step n) (step_of index name)
    → None ≡ option_and_then (λ steps. node_by steps n) (steps_of (parts_of path))
walk_nowhere n path named index name None first second missing =
    missing ∙ sym (walk_last n (step_of index name)) ∙ ap (λ ps. option_and_then (λ steps. node_by steps n) (steps_of ps))
    (sym (first ∙ ap (λ ps. index ∷ ps) second))
walk_nowhere n path named index name (Some text) first second missing =
    let more = parts_some text in
    ap (λ b. option_and_then (λ (b : Branch PageRow). option_and_then (λ ss. node_by ss b.children)
    (steps_of (more.0 ∷ more.1.0))) b) missing
    ∙ sym (walk_on n (step_of index name) (steps_of (more.0 ∷ more.1.0)) (steps_some (more.0 ∷ more.1.0)))
    ∙ ap (λ ps. option_and_then (λ steps. node_by steps n) (steps_of ps))
    (sym (first ∙ ap (λ ps. index ∷ ps) second ∙ ap (λ ps. index ∷ name ∷ ps) more.1.1))

pub walk_further : (n : Nodes PageRow) (path named index name text : List ℕ) (child : Branch PageRow) (result : Option (Branch PageRow))
    → parts_of path ≡ index ∷ parts_of named → parts_of named ≡ name ∷ parts_of text
    → Some child ≡ option_and_then (λ step. child_by step n) (step_of index name)
    → result ≡ option_and_then (λ steps. node_by steps child.children) (steps_of (parts_of text))
    → result ≡ option_and_then (λ steps. node_by steps n) (steps_of (parts_of path))
walk_further n path named index name text child result first second found below =
    let more = parts_some text in
    below
    ∙ ap (λ ps. option_and_then (λ steps. node_by steps child.children) (steps_of ps)) more.1.1
    ∙ ap (λ b. option_and_then (λ (b : Branch PageRow). option_and_then (λ ss. node_by ss b.children)
    (steps_of (more.0 ∷ more.1.0))) b) found
    ∙ sym (walk_on n (step_of index name) (steps_of (more.0 ∷ more.1.0)) (steps_some (more.0 ∷ more.1.0)))
    ∙ ap (λ ps. option_and_then (λ steps. node_by steps n) (steps_of ps))
    (sym (first ∙ ap (λ ps. index ∷ ps) second ∙ ap (λ ps. index ∷ name ∷ ps) more.1.1))
