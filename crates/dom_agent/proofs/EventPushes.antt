-- What several pushes tell.
use Rattle.std.proofs.Common.{◌≡◌, ℕ, ◌+◌, ◌<◌, ◌≤◌, ◌==◌, Bool, true, false, cond, not, ◌||◌, List, [], ◌∷◌, ◌++◌, map, append_assoc}
use Rattle.std.proofs.Common.{Option, Some, None, refl, sym, ap, subst, ◌∙◌, arith}
use Rattle.std.specs.List.{filter}
use Rattle.std.proofs.lemmas.Bool.{eqb-true}
use Rattle.std.proofs.lemmas.List.{map-append}
use Rattle.std.proofs.lemmas.List.Concat.{flat_map-append}
use Rattle.node_tree.specs.Nodes.{Nodes, none, node, Branch, alone}
use Rattle.node_tree.specs.Keys.{tally, has}
use Rattle.node_tree.specs.Seen.{Seen}
use Rattle.page_tree.specs.Pages.{PageRow, row_serial}
use Rattle.node_binding.specs.Counts.{times, stands_in}
use Rattle.node_binding.specs.Cuts.{known}
use Rattle.node_binding.specs.Sessions.{Session, IsSession, session_of, is_open, known_by, session_ids}
use Rattle.node_binding.proofs.Places.{first}
use Rattle.node_binding.proofs.BoundLemmas.{is_in-cons}
use Rattle.node_binding.proofs.OpeningLemmas.{AreDistinct}
use Rattle.node_binding.proofs.InViewLemmas.{roots_in_view}
use Rattle.dom_agent.specs.Keepers.{session_keeper}
use Rattle.dom_agent.specs.Requests.{Showing, Progress, Pushes, ancestors_down, pushing, pushed as push_of, all_pushed}
use Rattle.dom_agent.specs.Sets.{row_serials, children_in_turn}
use Rattle.dom_agent.specs.Events.{serials_in, serials_shown, children_told, container_serials, first_shut, ancestors_in_turn, TellsPushes}
use Rattle.dom_agent.specs.Events.{id_then}
use Rattle.dom_agent.proofs.OpeningLemmas.{ancestors-absent}
use Rattle.dom_agent.proofs.OpeningsLemmas.{AreContainers, opened_all, by_one, pushing-are}
use Rattle.dom_agent.proofs.KnownLemmas.{opened_after, pushed-known}
use Rattle.dom_agent.proofs.SetLemmas.{is_in-append, opened_all-set, pushing-set, ancestors-hold}
use Rattle.dom_agent.proofs.SetsLemmas.{one_level_each}
use Rattle.dom_agent.proofs.EventLemmas.{Shows, shows-none, shows-on, AllTold, told-later, told-join, are-told, nodes_of, told-openings}

-- ---- containers that are not opened, each where it comes first

or_false : (b : Bool) → (b || false) ≡ b
or_false true = refl
or_false false = refl

or_assoc : (a b c : Bool) → ((a || b) || c) ≡ (a || (b || c))
or_assoc true b c = refl
or_assoc false b c = refl

first_shut-same : (o p : ℕ → Bool) → ((s : ℕ) → o s ≡ p s) → (xs : List (Branch PageRow)) → first_shut o xs ≡ first_shut p xs
first_shut-same o p same xs =
    let tests : o ≡ p = λ i s. same s i in
    ap (λ (f : ℕ → Bool). first_shut f xs) tests

-- where none comes twice these are those that are not opened
first-filter : (o p : ℕ → Bool) (xs : List (Branch PageRow)) → ((s : ℕ) → times s (container_serials xs) ≤ 1)
    → ((s : ℕ) → 0 < times s (container_serials xs) → p s ≡ o s)
    → first_shut p xs ≡ filter (λ (x : Branch PageRow). not (o x.row.serial)) xs
first-filter o p [] single same = refl
first-filter o p (x ∷ xs) single same =
    ap (λ b. cond b (first_shut p xs) (x ∷ first_shut q xs)) (same x.row.serial (first x.row.serial (container_serials xs)))
    ∙ by (o x.row.serial) (λ r h. first-filter o r xs later h)
  where
    q : ℕ → Bool
    q s = p s || (x.row.serial == s)

    others : List (Branch PageRow)
    others = filter (λ (y : Branch PageRow). not (o y.row.serial)) xs

    one : (s : ℕ) → cond {A = ℕ} (x.row.serial == s) 1 0 + times s (container_serials xs) ≤ 1
    one s = single s

    later : (s : ℕ) → times s (container_serials xs) ≤ 1
    later s = omega (arith, one s)

    same_later : (s : ℕ) → 0 < times s (container_serials xs) → p s ≡ o s
    same_later s h =
        let there : 0 < cond {A = ℕ} (x.row.serial == s) 1 0 + times s (container_serials xs) = omega (arith, h) in same s there

    apart : (s : ℕ) → 0 < times s (container_serials xs) → (x.row.serial == s) ≡ false
    apart s h = elim (x.row.serial == s) as (λ b. cond {A = ℕ} b 1 0 + times s (container_serials xs) ≤ 1 → b ≡ false) [
      | true ↦ λ k. absurd (omega (arith, h, k))
      | false ↦ λ k. refl
    ] (one s)

    by : (b : Bool) → ((r : ℕ → Bool) → ((s : ℕ) → 0 < times s (container_serials xs) → r s ≡ o s) → first_shut r xs ≡ others)
        → cond b (first_shut p xs) (x ∷ first_shut q xs) ≡ cond (not b) (x ∷ others) others
    by true rest = rest p same_later
    by false rest = ap (λ l. x ∷ l)
        (rest q (λ s h. ap (λ b. p s || b) (apart s h) ∙ or_false (p s) ∙ same_later s h))

first_shut-append : (o : ℕ → Bool) (xs ys : List (Branch PageRow))
    → first_shut o (xs ++ ys) ≡ first_shut o xs ++ first_shut (λ s. o s || stands_in s (container_serials xs)) ys
first_shut-append o [] ys = first_shut-same o (λ s. o s || stands_in s []) (λ s. sym (or_false (o s))) ys
first_shut-append o (x ∷ xs) ys = by (o x.row.serial) refl (first_shut-append o xs ys) (first_shut-append q xs ys)
  where
    k : ℕ
    k = x.row.serial

    q : ℕ → Bool
    q s = o s || (k == s)

    ss : List ℕ
    ss = container_serials xs

    passed : o k ≡ true → (s : ℕ) (b : Bool) → (k == s) ≡ b → (o s || stands_in s ss) ≡ (o s || ((k == s) || stands_in s ss))
    passed is s true e =
        let same : o s ≡ true = ap o (sym (eqb-true k s e)) ∙ is in
        ap (λ v. v || stands_in s ss) same ∙ sym (ap (λ v. v || ((k == s) || stands_in s ss)) same)
    passed is s false e = ap (λ v. o s || (v || stands_in s ss)) (sym e)

    by : (b : Bool) → o k ≡ b → first_shut o (xs ++ ys) ≡ first_shut o xs ++ first_shut (λ s. o s || stands_in s ss) ys
        → first_shut q (xs ++ ys) ≡ first_shut q xs ++ first_shut (λ s. q s || stands_in s ss) ys
        → cond b (first_shut o (xs ++ ys)) (x ∷ first_shut q (xs ++ ys))
        ≡ cond b (first_shut o xs) (x ∷ first_shut q xs) ++ first_shut (λ s. o s || stands_in s (k ∷ ss)) ys
    by true is f g = f ∙ ap (λ l. first_shut o xs ++ l)
        (first_shut-same (λ s. o s || stands_in s ss) (λ s. o s || stands_in s (k ∷ ss))
        (λ s. passed is s (k == s) refl ∙ ap (λ v. o s || v) (sym (is_in-cons k s ss))) ys)
    by false is f g = ap (λ l. x ∷ l) (g ∙ ap (λ l. first_shut q xs ++ l)
        (first_shut-same (λ s. q s || stands_in s ss) (λ s. o s || stands_in s (k ∷ ss))
        (λ s. or_assoc (o s) (k == s) (stands_in s ss) ∙ ap (λ v. o s || v) (sym (is_in-cons k s ss))) ys))

-- ---- ancestors

either : {A : Type 0} (P : A → Type 0) (b : Bool) (x y : A) → (b ≡ true → P x) → (b ≡ false → P y) → P (cond b x y)
either P true x y f g = f refl
either P false x y f g = g refl

-- each is an ancestor once
ancestors-tally : (s k : ℕ) (n : Nodes PageRow) → times k (container_serials (ancestors_down s n)) ≤ tally row_serial k n
ancestors-tally s k none = omega arith
ancestors-tally s k (node r c t) =
    either (λ (l : List (Branch PageRow)). times k (container_serials l) ≤ tally row_serial k (node r c t)) (has row_serial s c)
    (record { row = r; children = c } ∷ ancestors_down s c) (ancestors_down s t)
    (λ _. omega (arith, ancestors-tally s k c)) (λ _. omega (arith, ancestors-tally s k t))

-- the containers of openings by one level
nodes-by_one : (xs : List (Branch PageRow)) → nodes_of (map by_one xs) ≡ xs
nodes-by_one [] = refl
nodes-by_one (x ∷ xs) = ap (λ l. x ∷ l) (nodes-by_one xs)

children-append : (xs ys : List (Branch PageRow)) → children_in_turn (xs ++ ys) ≡ children_in_turn xs ++ children_in_turn ys
children-append [] ys = refl
children-append (x ∷ xs) ys =
    ap (λ l. row_serials x.children ++ l) (children-append xs ys)
    ∙ sym (append_assoc (row_serials x.children) (children_in_turn xs) (children_in_turn ys))

-- ---- pushes

-- what pushes come to, of which these are the ancestors in turn
pub record ToldPushes (n : Nodes PageRow) (w : Session) (p : Progress Session) (xs : List (Branch PageRow)) : Type 0 where
  pub session : IsSession n p.state
  pub shows : Shows n w p.state (children_told p.shown)
  pub told : AllTold n p.state (first_shut (is_open w.opened) xs) p.shown
  pub levels : serials_shown (children_told p.shown) ≡ children_in_turn (first_shut (is_open w.opened) xs)
  pub opens : (t : ℕ) → is_open p.state.opened t ≡ (is_open w.opened t || stands_in t (container_serials xs))

told-none : (n : Nodes PageRow) (w : Session) → IsSession n w → ToldPushes n w (record { state = w; shown = [] }) []
told-none n w session = record {
  session = session;
  shows = shows-none n w;
  told = tt;
  levels = refl;
  opens = λ t. sym (or_false (is_open w.opened t));
}

serials-append : (xs ys : List (Branch PageRow)) → container_serials (xs ++ ys) ≡ container_serials xs ++ container_serials ys
serials-append xs ys = map-append (λ (x : Branch PageRow). x.row.serial) xs ys

told-on : (n : Nodes PageRow) (w : Session) (p q : Progress Session) (xs ys : List (Branch PageRow)) → ToldPushes n w p xs
    → ToldPushes n p.state q ys
    → ToldPushes n w (record { state = q.state; shown = p.shown ++ q.shown }) (xs ++ ys)
told-on n w p q xs ys f g =
    let o : ℕ → Bool = is_open w.opened in
    let cut : first_shut o (xs ++ ys) ≡ first_shut o xs ++ first_shut (is_open p.state.opened) ys =
    first_shut-append o xs ys
    ∙ ap (λ l. first_shut o xs ++ l)
    (first_shut-same (λ s. o s || stands_in s (container_serials xs)) (is_open p.state.opened) (λ s. sym (f.opens s)) ys) in
    let told : children_told (p.shown ++ q.shown) ≡ children_told p.shown ++ children_told q.shown =
    map-append (λ (e : Showing). e.children) p.shown q.shown in
    record {
      session = g.session;
      shows = subst (λ (l : List (Nodes Seen)). Shows n w q.state l) (sym told)
          (shows-on n w p.state q.state (children_told p.shown) (children_told q.shown) f.shows g.shows);
      told = subst (λ (l : List (Branch PageRow)). AllTold n q.state l (p.shown ++ q.shown)) (sym cut)
          (told-join n q.state (first_shut o xs) (first_shut (is_open p.state.opened) ys) p.shown q.shown
          (told-later n p.state q.state (children_told q.shown) g.shows (first_shut o xs) p.shown f.told) g.told);
      levels =
          ap serials_shown told
          ∙ flat_map-append serials_in (children_told p.shown) (children_told q.shown)
          ∙ ap (λ l. l ++ serials_shown (children_told q.shown)) f.levels
          ∙ ap (λ l. children_in_turn (first_shut o xs) ++ l) g.levels
          ∙ sym (children-append (first_shut o xs) (first_shut (is_open p.state.opened) ys))
          ∙ ap children_in_turn (sym cut);
      opens = λ t. g.opens t
          ∙ ap (λ b. b || stands_in t (container_serials ys)) (f.opens t)
          ∙ or_assoc (o t) (stands_in t (container_serials xs)) (stands_in t (container_serials ys))
          ∙ ap (λ b. o t || b) (sym (is_in-append t (container_serials xs) (container_serials ys)))
          ∙ ap (λ l. o t || stands_in t l) (sym (serials-append xs ys));
    }

module _ (document : Branch PageRow) (distinct : AreDistinct (alone document)) (containers : AreContainers (alone document)) where
  abbrev n : Nodes PageRow
  n = alone document

  -- one
  pub told-pushed : (s : ℕ) (o : ℕ → Bool) (pushed : List ℕ) (since : ℕ) → IsSession n (session_of o pushed since)
      → ToldPushes n (session_of o pushed since) (push_of (session_keeper n) document s (session_of o pushed since)) (ancestors_down s n)
  told-pushed s o pushed since session =
      let xs : List (Branch PageRow) = ancestors_down s n in
      let shut : List (Branch PageRow) = filter (λ (x : Branch PageRow). not (o x.row.serial)) xs in
      let p : Progress Session = push_of (session_keeper n) document s (session_of o pushed since) in
      let all = told-openings n distinct document (pushing o s n) o pushed since session
      (pushing-are n distinct o s n o containers distinct (roots_in_view o n) (λ k h. refl)) in
      let same : first_shut o xs ≡ shut = first-filter o o xs (λ k. omega (arith, ancestors-tally s k n, distinct k)) (λ k h. refl) in
      record {
        session = all.session;
        shows = all.shows;
        told = subst (λ (l : List (Branch PageRow)). AllTold n p.state l p.shown) (nodes-by_one shut ∙ sym same) all.told;
        levels = all.levels ∙ one_level_each shut ∙ ap children_in_turn (sym same);
        opens = λ t. ap (λ (q : Option (ℕ → Bool)). is_open q t) (opened_after n document (pushing o s n) o pushed since)
            ∙ opened_all-set (pushing o s n) o t
            ∙ pushing-set o t xs (ancestors-hold s n containers);
      }

  -- several
  pub told-all_pushed : (ss : List ℕ) (opened : Option (ℕ → Bool)) (pushed : List ℕ) (since : ℕ)
      → is_open opened document.row.serial ≡ true → IsSession n (record { opened = opened; pushed = pushed; since = since })
      → ToldPushes n (record { opened = opened; pushed = pushed; since = since })
      (all_pushed (session_keeper n) document ss (record { opened = opened; pushed = pushed; since = since })).progress
      (ancestors_in_turn document ss)
  told-all_pushed [] opened pushed since begun session = told-none n (record { opened = opened; pushed = pushed; since = since }) session
  told-all_pushed (s ∷ ss) None pushed since begun session = cc
  told-all_pushed (s ∷ ss) (Some o) pushed since begun session =
      let w : Session = session_of o pushed since in
      let xs : List (Branch PageRow) = ancestors_down s n in
      let one = told-pushed s o pushed since session in
      let first_of : Progress Session = push_of (session_keeper n) document s w in
      let still : is_open first_of.state.opened document.row.serial ≡ true =
      one.opens document.row.serial ∙ ap (λ b. b || stands_in document.row.serial (container_serials xs)) begun in
      let rest : Pushes Session = all_pushed (session_keeper n) document ss first_of.state in
      let more = told-all_pushed ss first_of.state.opened first_of.state.pushed first_of.state.since still one.session in
      let others : Pushes Session = all_pushed (session_keeper n) document ss w in
      let past = told-all_pushed ss (Some o) pushed since begun session in
      either (λ (q : Pushes Session). ToldPushes n w q.progress (ancestors_in_turn document (s ∷ ss))) (has row_serial s n)
      (record {
        progress = record { state = rest.progress.state; shown = first_of.shown ++ rest.progress.shown };
        ids = session_ids first_of.state s ∷ rest.ids;
      })
      (record { progress = record { state = others.progress.state; shown = others.progress.shown }; ids = 0 ∷ others.ids })
      (λ _. told-on n w first_of rest.progress xs (ancestors_in_turn document ss) one more)
      (λ absent. subst (λ (l : List (Branch PageRow)). ToldPushes n w others.progress (l ++ ancestors_in_turn document ss))
      (sym (ancestors-absent s n absent)) past)

  -- a node that was pushed is known
  pushed-there : (s : ℕ) (o : ℕ → Bool) (pushed : List ℕ) (since : ℕ) → has row_serial s n ≡ true
      → 0 < times s (known_by (push_of (session_keeper n) document s (session_of o pushed since)).state.opened n)
  pushed-there s o pushed since there =
      let q : ℕ → Bool = opened_all o (pushing o s n) in
      let known_now : 0 < times s (known q n) = pushed-known o s q n o containers distinct (λ k h. refl) (λ k e. e) there in
      subst (λ (u : Option (ℕ → Bool)). 0 < times s (known_by u n)) (sym (opened_after n document (pushing o s n) o pushed since)) known_now

  -- and has its id after further pushes still
  pub ids-all_pushed : (ss : List ℕ) (opened : Option (ℕ → Bool)) (pushed : List ℕ) (since : ℕ)
      → is_open opened document.row.serial ≡ true → IsSession n (record { opened = opened; pushed = pushed; since = since })
      → (let q = all_pushed (session_keeper n) document ss (record { opened = opened; pushed = pushed; since = since }) in
      q.ids ≡ map (id_then document q.progress.state) ss)
  ids-all_pushed [] opened pushed since begun session = refl
  ids-all_pushed (s ∷ ss) None pushed since begun session = cc
  ids-all_pushed (s ∷ ss) (Some o) pushed since begun session =
      let w : Session = session_of o pushed since in
      let xs : List (Branch PageRow) = ancestors_down s n in
      let one = told-pushed s o pushed since session in
      let first_of : Progress Session = push_of (session_keeper n) document s w in
      let still : is_open first_of.state.opened document.row.serial ≡ true =
      one.opens document.row.serial ∙ ap (λ b. b || stands_in document.row.serial (container_serials xs)) begun in
      let rest : Pushes Session = all_pushed (session_keeper n) document ss first_of.state in
      let more = told-all_pushed ss first_of.state.opened first_of.state.pushed first_of.state.since still one.session in
      let later_ids : rest.ids ≡ map (id_then document rest.progress.state) ss =
      ids-all_pushed ss first_of.state.opened first_of.state.pushed first_of.state.since still one.session in
      let others : Pushes Session = all_pushed (session_keeper n) document ss w in
      let past_ids : others.ids ≡ map (id_then document others.progress.state) ss =
      ids-all_pushed ss (Some o) pushed since begun session in
      either (λ (q : Pushes Session). q.ids ≡ map (id_then document q.progress.state) (s ∷ ss)) (has row_serial s n)
      (record {
        progress = record { state = rest.progress.state; shown = first_of.shown ++ rest.progress.shown };
        ids = session_ids first_of.state s ∷ rest.ids;
      })
      (record { progress = record { state = others.progress.state; shown = others.progress.shown }; ids = 0 ∷ others.ids })
      (λ there.
      let same : session_ids first_of.state s ≡ id_then document rest.progress.state s =
      more.shows.stay s (pushed-there s o pushed since there)
      ∙ sym (ap (λ b. cond {A = ℕ} b (session_ids rest.progress.state s) 0) there) in
      λ i. same i ∷ later_ids i)
      (λ absent.
      let same : 0 ≡ id_then document others.progress.state s =
      sym (ap (λ b. cond {A = ℕ} b (session_ids others.progress.state s) 0) absent) in
      λ i. same i ∷ past_ids i)

-- in the words of the law
pub pushes-told : (document : Branch PageRow) (ss : List ℕ) (w : Session) (p : Progress Session)
    → ToldPushes (alone document) w p (ancestors_in_turn document ss) → TellsPushes document ss w p.state p.shown
pushes-told document ss w p g = record {
  told = are-told (alone document) p.state (first_shut (is_open w.opened) (ancestors_in_turn document ss)) p.shown g.told;
  levels = g.levels;
}
