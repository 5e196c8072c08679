-- The steps of searches: each is valid, and is a list of moves.
use Rattle.std.proofs.Common.{◌≡◌, ℕ, ◌+◌, ◌<◌, ◌≤◌, ◌^◌, Bool, true, false, cond, List, [], ◌∷◌, length, Option, Some, None, refl, arith}
use Rattle.std.proofs.Common.{◌++◌, drop, get_or, lt-ltb, sym, ◌∙◌, ap}
use Rattle.std.proofs.lemmas.List.{drop_more, append_assoc}
use Rattle.std.specs.Prelude.{filter, is_some}
use Rattle.std.specs.FinMap as table
use Rattle.cdp_json.specs.Kinds.{is_counted}
use Rattle.cdp_json.proofs.Options.{both}
use Rattle.cdp_messages.specs.declared.command.Why.TheVariants.{NoSearch}
use Rattle.cdp_messages.specs.declared.down.ReplyBody.{ReplyBody}
use Rattle.cdp_messages.specs.declared.down.ReplyBody.TheVariants.{Nothing, Search}
use Rattle.cdp_messages.specs.SearchIds.{is_search}
use Rattle.cdp_messages.specs.Results.{search_result_kind}
use Rattle.client_views.specs.Moves.{replied, IsPlainReply, CanBeTold, goes, ends}
use Rattle.node_binding.proofs.StartLemmas.{count-alone}
use Rattle.node_tree.specs.Nodes.{node_count}
use Rattle.dom_search.specs.Found.{found_in}
use Rattle.dom_search.specs.Searches.{Kept as Searched, next_search, with_search, without_search}
use Rattle.dom_search.proofs.FoundCounts.{found-count}
use Rattle.back_end.specs.States.{State, page_nodes, view_of, HoldsNow, IsState}
use Rattle.back_end.specs.Steps.{is_shown_now, found_now, refusing, idle, replying, answering, with_searches, perform_step, discard_step}
use Rattle.back_end.specs.Laws.{HasRoom, MayAnswer}
use Rattle.back_end.proofs.AnsweredSteps.{Answered, refusal-answered}
use Rattle.back_end.proofs.KeptSteps.{Recalls, recalls-same}
use Rattle.back_end.proofs.WellSteps.{room-numbers, told-view}

-- what was found becomes another
pub searched-is : (searches : Searched) (state : State) → HoldsNow state → HoldsNow (with_searches searches state)
searched-is searches state is = record {
  page = is.page;
  texts = is.texts;
  sheets = is.sheets;
  session = is.session;
  off = is.off;
  css_off = is.css_off;
  all_shown = is.all_shown;
  watched = is.watched;
  none_watched = is.none_watched;
}

-- what passes a test is no longer
filter-step : (b : Bool) (x : ℕ) (ys : List ℕ) (n : ℕ) → length ys ≤ n → length (cond b (x ∷ ys) ys) ≤ n + 1
filter-step true x ys n h = omega (arith, h)
filter-step false x ys n h = omega (arith, h)

filter-short : (p : ℕ → Bool) (xs : List ℕ) → length (filter p xs) ≤ length xs
filter-short p [] = omega arith
filter-short p (x ∷ xs) = let step = filter-step (p x) x (filter p xs) (length xs) (filter-short p xs) in omega (arith, step)

one-kept : (b : Bool) (x : ℕ) (front rest : List ℕ) → (front ++ cond b (x ∷ []) []) ++ rest ≡ front ++ cond b (x ∷ rest) rest
one-kept true x front rest = append_assoc front (x ∷ []) rest
one-kept false x front rest = append_assoc front [] rest

-- the element at a place, where it passes, and then those behind it that pass
pub kept-turn : (p : ℕ → Bool) (xs : List ℕ) (i x : ℕ) (before after : List ℕ) → i < length xs → x ≡ get_or xs i 0
    → after ≡ before ++ cond (p x) (x ∷ []) []
    → after ++ filter p (drop (i + 1) xs) ≡ before ++ filter p (drop i xs)
kept-turn p xs i x before after inside is e =
    ap (λ (l : List ℕ). l ++ filter p (drop (i + 1) xs)) e ∙ one-kept (p x) x before (filter p (drop (i + 1) xs))
    ∙ sym (ap (λ (l : List ℕ). before ++ filter p l) (drop_more xs i 0 inside ∙ ap (λ (y : ℕ). y ∷ drop (i + 1) xs) (sym is)))

-- the number of the next search can be told
number-fits : (n : ℕ) → n + 1 < 2 ^ 50 → is_search (n + 1) ≡ true
number-fits n low = both (lt-ltb 0 (n + 1) (omega arith)) (lt-ltb (n + 1) (2 ^ 53) (omega (arith, low)))

module _ (method : List ℕ) (sheet : Option ℕ) (id : ℕ) (state : State) (is : IsState state) (room : HasRoom state)
    (small : is_counted id ≡ true) where
  -- what was found becomes another, and a result is told that tells nothing of the view
  told-answered : (body : ReplyBody) (searches : Searched) → searches.given ≤ state.client.searches.given + 1
      → MayAnswer method (replied id body) → IsPlainReply id body
      → Answered method sheet id 0 state (replying id body (idle (with_searches searches state)))
  told-answered body searches few can plain =
      let after : State = with_searches searches state in
      let told : CanBeTold (view_of state) = told-view state is.now (room-numbers state room) in
      let recalls : Recalls state after 0 0 = recalls-same state after is.history refl refl (omega arith) in
      record {
        well = record {
          is_state = record { now = searched-is searches state is.now; history = recalls.history };
          course = goes (replied id body) [] (view_of state) (view_of after) (view_of after) told (refl, plain)
              (ends (view_of after) told);
          ids = omega arith;
          serials = omega arith;
          sheets = omega arith;
          trees = omega (arith, recalls.few_trees);
          searches = few;
        };
        few = recalls.few_edits;
        once = refl;
        may = (can, tt);
        texts = (tt, tt);
      }

  -- `DOM.performSearch`
  pub perform-answered : (query : List ℕ) → ((search count : ℕ) → MayAnswer method (replied id (Search search count)))
      → Answered method sheet id 0 state (perform_step id query state)
  perform-answered query can =
      let found = found_now query state in
      let searches = state.client.searches in
      let all_found = found-count state.side.page.tree query in
      let some = filter-short (is_shown_now state) (found_in state.side.page.tree query) in
      let few : length found ≤ node_count (page_nodes state) = omega (arith, all_found, some) in
      let all : node_count (page_nodes state) ≤ 100000 = count-alone state.side.page is.now.page in
      let fits : search_result_kind.fits (length found, (next_search searches, tt)) ≡ true =
      both (lt-ltb (length found) (2 ^ 53) (omega (arith, few, all))) (both (number-fits searches.given room.searches) refl) in
      told-answered (Search (next_search searches) (length found)) (with_search found searches) (omega arith)
      (can (next_search searches) (length found))
      (record { id_fits = small; plain = refl; fits = fits; texts = tt; levels = omega arith })

  -- `DOM.discardSearchResults`
  pub discard-answered : MayAnswer method (replied id Nothing) → (o : Option ℕ) → Answered method sheet id 0 state (discard_step id o state)
  discard-answered can None = refusal-answered method sheet id 0 NoSearch state is room small
  discard-answered can (Some search) = at (is_some (table.get state.client.searches.lists search))
    where
      at : (b : Bool) → Answered method sheet id 0 state
          (cond b (answering id (idle (with_searches (without_search search state.client.searches) state)))
          (refusing (Some id) NoSearch state))
      at true = told-answered Nothing (without_search search state.client.searches) (omega arith) can
          (record { id_fits = small; plain = refl; fits = refl; texts = tt; levels = omega arith })
      at false = refusal-answered method sheet id 0 NoSearch state is room small
