-- A step that answers a command: it is well, few edits more are kept, and it is answered once, by what its method answers.
use Rattle.std.proofs.Common.{◌≡◌, ℕ, true, List, [], ◌∷◌, ◌++◌, Option, Some, refl, ◌∙◌, ap, arith}
use Rattle.std.specs.List.{flat_map}
use Rattle.cdp_json.specs.Kinds.{is_counted}
use Rattle.cdp_messages.specs.declared.command.Why.{Why}
use Rattle.cdp_messages.specs.declared.down.ReplyBody.{ReplyBody}
use Rattle.client_views.specs.Moves.{Move, replied, failed}
use Rattle.back_end.specs.States.{State, IsState}
use Rattle.back_end.specs.Steps.{Step, refusing, replying}
use Rattle.back_end.specs.Laws.{HasRoom, StepsWell, KeepsAtMost, MayAnswer, MayAnswerAll, TellTextOf, reply_ids}
use Rattle.back_end.proofs.TurnAnswers.{AreEvents, events-answer, events-may, events-text, may-append, texts-append}
use Rattle.back_end.proofs.AnswerLemmas.{flat-append}
use Rattle.back_end.proofs.WellSteps.{room-numbers, stays-with, more}
use Rattle.back_end.proofs.KeptSteps.{Recalls, recalls-same, steps-well}

pub record Answered (method : List ℕ) (sheet : Option ℕ) (id most : ℕ) (before : State) (done : Step) : Type 0 where
  pub well : StepsWell before done
  pub few : KeepsAtMost most before done.state
  pub once : flat_map reply_ids done.moves ≡ Some id ∷ []
  pub may : MayAnswerAll method done.moves
  pub texts : TellTextOf sheet done.moves

-- events, and then a reply
pub once-last : (id : ℕ) (ms : List Move) (m : Move) → AreEvents ms → reply_ids m ≡ Some id ∷ []
    → flat_map reply_ids (ms ++ m ∷ []) ≡ Some id ∷ []
once-last id ms m are is =
    let quiet : flat_map reply_ids ms ≡ [] = events-answer ms are in
    let own : flat_map reply_ids (m ∷ []) ≡ Some id ∷ [] = ap (λ ids. ids ++ []) is in
    flat-append ms (m ∷ []) quiet ∙ ap (λ ids. ids ++ flat_map reply_ids (m ∷ [])) quiet ∙ own

-- a step of events that is answered by a result of the method
pub reply-answered : (method : List ℕ) (sheet : Option ℕ) (id most : ℕ) (body : ReplyBody) (before : State) (done : Step)
    → MayAnswer method (replied 0 body) → AreEvents done.moves
    → StepsWell before (replying id body done) → KeepsAtMost most before done.state
    → Answered method sheet id most before (replying id body done)
reply-answered method sheet id most body before done can are well few = record {
  well = well;
  few = few;
  once = once-last id done.moves (replied id body) are refl;
  may = may-append method done.moves (replied id body ∷ []) (events-may method done.moves are) (can, tt);
  texts = texts-append sheet done.moves (replied id body ∷ []) (events-text sheet done.moves are) (tt, tt);
}

-- nothing is done
pub refusal-answered : (method : List ℕ) (sheet : Option ℕ) (id most : ℕ) (why : Why) (state : State) → IsState state → HasRoom state
    → is_counted id ≡ true
    → Answered method sheet id most state (refusing (Some id) why state)
refusal-answered method sheet id most why state is room small =
    let well = stays-with (failed (record { id = Some id; why = why })) state is.now (room-numbers state room) (refl, small) in
    let recalls : Recalls state state 0 0 = recalls-same state state is.history refl refl (omega arith) in
    record {
      well = steps-well {ids = 0} (omega arith) (omega arith) (more (omega arith) (omega arith) (omega arith) well) recalls;
      few = omega arith;
      once = refl;
      may = (tt, tt);
      texts = (tt, tt);
    }
