use Rattle.session_mux.proofs.AnswerTexts.{answers-are-messages}
use Rattle.session_mux.proofs.RouteLemmas.{attached-by-name, answered-at-once, one-answer, others-left, numbers-go-on}
use Rattle.session_mux.proofs.laws.route_law.Goals as goal

pub returns : goal.returns
returns c = record {
  attached = attached-by-name;
  answered = answered-at-once;
  answer = one-answer;
  messages = answers-are-messages;
  others = others-left;
  numbers = numbers-go-on;
}
