-- Nodes are pushed.
use Rattle.std.proofs.Common.{◌≡◌, ℕ, suc, ◌+◌, ◌<◌, Bool, true, false, cond, List, [], ◌∷◌, ◌++◌, length, get_or, drop, drop-cons, add-one}
use Rattle.std.proofs.Common.{append_assoc, Some, None, refl, sym, ap, ◌∙◌, subst}
use Rattle.node_tree.specs.Nodes.{Branch, alone}
use Rattle.node_tree.specs.Keys.{has}
use Rattle.page_tree.specs.Pages.{PageRow, row_serial}
use Rattle.node_binding.specs.Bindings.{BindingValue, opened_in, id_in}
use Rattle.dom_agent.specs.Keepers.{binding_keeper}
use Rattle.dom_agent.specs.Requests.{Opening, Showing, Pushes, pushing, all_opened, pushed, and_id, all_pushed, frames_told}
use Rattle.dom_agent.proofs.OpeningLemmas.{pushing-absent}
use Rattle.dom_agent.proofs.ServingLemmas.{frames-cons}

-- what is given where the node is there
pub given : {A : Type 0} (there : Bool) (found all : List A) → Some found ≡ cond there (Some all) None → (there ≡ true) × (found ≡ all)
given true found all e = (refl, cc)
given false found all e = absurd (cc)

pub listed_above : (os : List Opening) (o : ℕ → Bool) (s : ℕ) (x y : Branch PageRow) → x ≡ y
    → Some os ≡ cond (has row_serial s (alone x)) (Some (pushing o s (alone x))) None
    → (has row_serial s (alone y) ≡ true) × (os ≡ pushing o s (alone y))
listed_above os o s x y same e =
    subst (λ (z : Branch PageRow). (has row_serial s (alone z) ≡ true) × (os ≡ pushing o s (alone z))) same
    (given (has row_serial s (alone x)) os (pushing o s (alone x)) e)

pub frames-append : (xs ys : List Showing) → frames_told (xs ++ ys) ≡ frames_told xs ++ frames_told ys
frames-append [] ys = refl
frames-append (x ∷ xs) ys =
    frames-cons x (xs ++ ys)
    ∙ ap (λ l. frames_told (x ∷ []) ++ l) (frames-append xs ys)
    ∙ sym (append_assoc (frames_told (x ∷ [])) (frames_told xs) (frames_told ys))
    ∙ ap (λ l. l ++ frames_told ys) (sym (frames-cons x xs))

module _ (tree : Branch PageRow) where
  pub pushed_absent : (s : ℕ) (b : BindingValue) → has row_serial s (alone tree) ≡ false
      → pushed (binding_keeper (alone tree)) tree s b ≡ record { state = b; shown = [] }
  pushed_absent s b absent = ap (λ xs. all_opened (binding_keeper (alone tree)) tree xs b)
      (pushing-absent (opened_in b) s (alone tree) absent)

  -- the first of several
  pub all_pushed-cons : (s : ℕ) (ss : List ℕ) (b : BindingValue) → all_pushed (binding_keeper (alone tree)) tree (s ∷ ss) b
      ≡ (let first = pushed (binding_keeper (alone tree)) tree s b in and_id (binding_keeper (alone tree)) tree
      (cond (has row_serial s (alone tree)) (id_in first.state s) 0) first
      (all_pushed (binding_keeper (alone tree)) tree ss first.state))
  all_pushed-cons s ss b =
      elim (has row_serial s (alone tree)) as (λ there. has row_serial s (alone tree) ≡ there → cond there
      (let first = pushed (binding_keeper (alone tree)) tree s b in and_id (binding_keeper (alone tree)) tree (id_in first.state s) first
      (all_pushed (binding_keeper (alone tree)) tree ss first.state))
      (and_id (binding_keeper (alone tree)) tree 0 (record { state = b; shown = [] }) (all_pushed (binding_keeper (alone tree)) tree ss b))
      ≡ (let first = pushed (binding_keeper (alone tree)) tree s b in and_id (binding_keeper (alone tree)) tree
      (cond there (id_in first.state s) 0) first (all_pushed (binding_keeper (alone tree)) tree ss first.state))) [
        | true ↦ λ _. refl
        | false ↦ λ absent. sym (ap (λ first. and_id (binding_keeper (alone tree)) tree 0 first
            (all_pushed (binding_keeper (alone tree)) tree ss first.state)) (pushed_absent s b absent))
      ] refl

  -- the serials that are left: with them, what is kept, what was sent and the ids so far come to what all come to
  pub record Left (left : List ℕ) (b : BindingValue) (out ids : List ℕ) (all : List ℕ) (begin : BindingValue) (sent : List ℕ) : Type 0 where
    pub state : (all_pushed (binding_keeper (alone tree)) tree left b).progress.state
        ≡ (all_pushed (binding_keeper (alone tree)) tree all begin).progress.state
    pub frames : out ++ frames_told (all_pushed (binding_keeper (alone tree)) tree left b).progress.shown
        ≡ sent ++ frames_told (all_pushed (binding_keeper (alone tree)) tree all begin).progress.shown
    pub numbers : ids ++ (all_pushed (binding_keeper (alone tree)) tree left b).ids
        ≡ (all_pushed (binding_keeper (alone tree)) tree all begin).ids

  pub left_start : (all : List ℕ) (b : BindingValue) (out : List ℕ) → Left (drop 0 all) b out [] all b out
  left_start all b out = record { state = refl; frames = refl; numbers = refl }

  next_left : (s : ℕ) (ss : List ℕ) (b b1 : BindingValue) (out out1 ids : List ℕ) (id : ℕ) (all : List ℕ) (begin : BindingValue)
      (sent : List ℕ) → b1 ≡ (pushed (binding_keeper (alone tree)) tree s b).state
      → out1 ≡ out ++ frames_told (pushed (binding_keeper (alone tree)) tree s b).shown
      → id ≡ cond (has row_serial s (alone tree)) (id_in b1 s) 0 → Left (s ∷ ss) b out ids all begin sent
      → Left ss b1 out1 (ids ++ id ∷ []) all begin sent
  next_left s ss b b1 out out1 ids id all begin sent known told is was =
      let after : BindingValue → Pushes BindingValue = λ m. all_pushed (binding_keeper (alone tree)) tree ss m in
      let first = pushed (binding_keeper (alone tree)) tree s b in
      let cons = all_pushed-cons s ss b in
      record {
        state = ap (λ m. (after m).progress.state) known ∙ sym (ap (λ (p : Pushes BindingValue). p.progress.state) cons) ∙ was.state;
        frames =
            ap (λ l. l ++ frames_told (after b1).progress.shown) told
            ∙ append_assoc out (frames_told first.shown) (frames_told (after b1).progress.shown)
            ∙ ap (λ m. out ++ (frames_told first.shown ++ frames_told (after m).progress.shown)) known
            ∙ ap (λ l. out ++ l) (sym (frames-append first.shown (after first.state).progress.shown))
            ∙ sym (ap (λ (p : Pushes BindingValue). out ++ frames_told p.progress.shown) cons)
            ∙ was.frames;
        numbers =
            append_assoc ids (id ∷ []) (after b1).ids
            ∙ ap (λ m. ids ++ id ∷ (after m).ids) known
            ∙ ap (λ n. ids ++ n ∷ (after first.state).ids) (is ∙ ap (λ m. cond (has row_serial s (alone tree)) (id_in m s) 0) known)
            ∙ sym (ap (λ (p : Pushes BindingValue). ids ++ p.ids) cons)
            ∙ was.numbers;
      }

  pub left_turn : (serials : List ℕ) (i s : ℕ) (b b1 : BindingValue) (out out1 ids ids1 : List ℕ) (id : ℕ) (all : List ℕ)
      (begin : BindingValue) (sent : List ℕ) → i < length serials → s ≡ get_or serials i 0
      → b1 ≡ (pushed (binding_keeper (alone tree)) tree s b).state
      → out1 ≡ out ++ frames_told (pushed (binding_keeper (alone tree)) tree s b).shown
      → id ≡ cond (has row_serial s (alone tree)) (id_in b1 s) 0 → ids1 ≡ ids ++ id ∷ [] → Left (drop i serials) b out ids all begin sent
      → Left (drop (i + 1) serials) b1 out1 ids1 all begin sent
  left_turn serials i s b b1 out out1 ids ids1 id all begin sent h at known told is more was =
      let split : drop i serials ≡ s
      ∷ drop (i + 1) serials = rw (add-one, drop-cons serials i 0) (ap (λ x. x ∷ drop (suc i) serials) (sym at)) in
      subst (λ l. Left (drop (i + 1) serials) b1 out1 l all begin sent) (sym more)
      (next_left s (drop (i + 1) serials) b b1 out out1 ids id all begin sent known told is
      (subst (λ l. Left l b out ids all begin sent) split was))

  pub left_end : (serials : List ℕ) (i : ℕ) (b : BindingValue) (out ids all : List ℕ) (begin : BindingValue) (sent : List ℕ)
      → drop i serials ≡ [] → Left (drop i serials) b out ids all begin sent → Left [] b out ids all begin sent
  left_end serials i b out ids all begin sent ended was = subst (λ l. Left l b out ids all begin sent) ended was
