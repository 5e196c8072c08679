-- What the moves of a step answer.
use Rattle.std.proofs.Common.{◌≡◌, ℕ, true, false, List, [], ◌∷◌, ◌++◌, Option, Some, codes, refl, sym, ap, ◌∙◌}
use Rattle.std.specs.List.{flat_map}
use Rattle.node_binding.specs.Sessions.{Session}
use Rattle.node_tree.specs.Nodes.{Branch}
use Rattle.node_tree.specs.Seen.{Seen}
use Rattle.cdp_messages.specs.declared.down.ReplyBody.TheVariants.{Root}
use Rattle.dom_objects.specs.Told.{told_branch}
use Rattle.cdp_messages.specs.declared.dom_ask.DomAsk.{DomAsk}
use Rattle.cdp_messages.specs.DomAsks.{ask_name}
use Rattle.cdp_messages.proofs.Commands.{either_ask, others-tell-no_view, asks-end-nothing}
use Rattle.cdp_messages.specs.Laws.{answers}
use Rattle.client_views.specs.Moves.{Move}
use Rattle.client_views.specs.declared.effects.Effect.TheVariants.{NothingElse}
use Rattle.client_views.specs.Effects.{effect_of_method}
use Rattle.client_views.proofs.EffectLemmas.{ends-nothing}
use Rattle.dom_agent.specs.Requests.{Showing, Outcome, shows_root, served, refused, opening_moves, moves_of}
use Rattle.dom_agent.specs.Laws.{IsReplyTo}
use Rattle.back_end.specs.States.{State}
use Rattle.back_end.specs.Steps.{Turn, turn_step}
use Rattle.back_end.specs.Laws.{reply_ids, MayAnswerAll, TellTextOf}
use Rattle.back_end.proofs.TurnAnswers.{events-answer, turn-events}

-- ---- events answer nothing

pub flat-append : (ms ks : List Move) → flat_map reply_ids ms ≡ []
    → flat_map reply_ids (ms ++ ks) ≡ flat_map reply_ids ms ++ flat_map reply_ids ks
flat-append [] ks h = refl
flat-append (m ∷ ms) ks h = at (reply_ids m) h (λ rest. flat-append ms ks rest) where
  at : (ids : List (Option ℕ)) → ids ++ flat_map reply_ids ms ≡ []
      → (flat_map reply_ids ms ≡ [] → flat_map reply_ids (ms ++ ks) ≡ flat_map reply_ids ms ++ flat_map reply_ids ks)
      → ids ++ flat_map reply_ids (ms ++ ks) ≡ (ids ++ flat_map reply_ids ms) ++ flat_map reply_ids ks
  at [] rest later = later rest
  at (id ∷ ids) rest later = absurd cc

pub turn-answers : (x : Turn) (state : State) → flat_map reply_ids (turn_step x state).moves ≡ []
turn-answers x state = events-answer (turn_step x state).moves (turn-events x state)

-- ---- a command is answered once

openings-answer : (xs : List Showing) (ms : List Move) → flat_map reply_ids (opening_moves xs ++ ms) ≡ flat_map reply_ids ms
openings-answer [] ms = refl
openings-answer (x ∷ xs) ms = openings-answer xs ms

pub openings-may : (method : List ℕ) (xs : List Showing) (ms : List Move) → MayAnswerAll method ms
    → MayAnswerAll method (opening_moves xs ++ ms)
openings-may method [] ms h = h
openings-may method (x ∷ xs) ms h = (tt, openings-may method xs ms h)

openings-text : (sheet : Option ℕ) (xs : List Showing) (ms : List Move) → TellTextOf sheet ms → TellTextOf sheet (opening_moves xs ++ ms)
openings-text sheet [] ms h = h
openings-text sheet (x ∷ xs) ms h = (tt, openings-text sheet xs ms h)

-- further pieces answer nothing
pieces-answer : (xs : List Showing) → flat_map reply_ids (opening_moves xs) ≡ []
pieces-answer [] = refl
pieces-answer (x ∷ xs) = pieces-answer xs

pieces-may : (method : List ℕ) (xs : List Showing) → MayAnswerAll method (opening_moves xs)
pieces-may method [] = tt
pieces-may method (x ∷ xs) = (tt, pieces-may method xs)

pieces-text : (sheet : Option ℕ) (xs : List Showing) → TellTextOf sheet (opening_moves xs)
pieces-text sheet [] = tt
pieces-text sheet (x ∷ xs) = (tt, pieces-text sheet xs)

-- the DOM agent tells no text of a sheet
pub outcome-text : (sheet : Option ℕ) (id : ℕ) (o : Outcome Session) → TellTextOf sheet (moves_of id o)
outcome-text sheet id (shows_root b p) = (tt, pieces-text sheet p.shown)
outcome-text sheet id (served p body) = openings-text sheet p.shown _ (tt, tt)
outcome-text sheet id (refused why) = (tt, tt)

pub outcome-answers : (id : ℕ) (o : Outcome Session) → flat_map reply_ids (moves_of id o) ≡ Some id ∷ []
outcome-answers id (shows_root b p) = ap (λ l. Some id ∷ l) (pieces-answer p.shown)
outcome-answers id (served p body) = openings-answer p.shown _
outcome-answers id (refused why) = refl

-- no ask of the agent ends anything by its method
ask-ends-nothing : (asked : DomAsk) → effect_of_method (ask_name asked) ≡ NothingElse
ask-ends-nothing asked = ends-nothing (ask_name asked) (asks-end-nothing asked)

-- a document answers one ask alone
root-asked : (asked : DomAsk) (b : Branch Seen) → answers (ask_name asked) (Root (told_branch 0 b)) ≡ true
    → ask_name asked ≡ codes "DOM.getDocument"
root-asked asked b =
    either_ask (λ a. answers (ask_name a) (Root (told_branch 0 b)) ≡ true → ask_name a ≡ codes "DOM.getDocument")
    (λ depth pierce e. refl)
    (λ a other e. (let no : false ≡ true = sym ((others-tell-no_view a other).0 (told_branch 0 b)) ∙ e in absurd cc)) asked

pub outcome-may : (id : ℕ) (ask : DomAsk) (o : Outcome Session) → IsReplyTo ask o → MayAnswerAll (ask_name ask) (moves_of id o)
outcome-may id asked (shows_root b p) is = (root-asked asked b is, pieces-may (ask_name asked) p.shown)
outcome-may id asked (served p body) is = openings-may (ask_name asked) p.shown _ ((is, ask-ends-nothing asked), tt)
outcome-may id ask (refused why) is = (tt, tt)
