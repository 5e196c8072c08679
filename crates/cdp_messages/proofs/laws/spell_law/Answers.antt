use Rattle.cdp_messages.proofs.Commands.{asks_are_asked, commands_are_asked, asks_fit, parameters_are_read, parameters_are_plain}
use Rattle.cdp_messages.proofs.Commands.{commands_are_named}
use Rattle.cdp_messages.proofs.Depths.{events_are_shallow}
use Rattle.cdp_messages.proofs.Results.{replies_are_shallow}
use Rattle.cdp_messages.proofs.Messages.{replies_are_read, events_are_read, refusals_are_read, messages_are_read, faults_are_read}
use Rattle.cdp_messages.proofs.Messages.{objects_are_empty, results_are_read, messages_are_spelled, results_are_spelled, one_message}
use Rattle.cdp_messages.proofs.Messages.{one_result, message_again, spellings_are_read}
use Rattle.dom_objects.proofs.TellableLaws.{shown_trees_fit}
use Rattle.cdp_messages.proofs.NewsLaws.{shown_children_fit}
use Rattle.cdp_messages.proofs.TextsUtf8.{replies_are_utf8, events_are_utf8}
use Rattle.cdp_messages.proofs.ZeroFree.{texts_have_no_zero}
use Rattle.cdp_messages.proofs.laws.spell_law.Goals as goal

pub returns : goal.returns
returns c = record {
  asks = asks_are_asked;
  parameters = parameters_are_read;
  plain = parameters_are_plain;
  commands = commands_are_asked;
  named = commands_are_named;
  asks_fit = asks_fit;
  replies = replies_are_read;
  shallow = replies_are_shallow;
  events = events_are_read;
  events_shallow = events_are_shallow;
  events_utf8 = events_are_utf8;
  refusals = refusals_are_read;
  messages = messages_are_read;
  values = message_again;
  spellings = spellings_are_read;
  faults = faults_are_read;
  results = results_are_read;
  empty_results = objects_are_empty;
  messages_spelled = messages_are_spelled;
  results_spelled = results_are_spelled;
  one_message = one_message;
  one_result = one_result;
  no_zero = texts_have_no_zero;
  utf8 = replies_are_utf8;
  shown_trees_fit = shown_trees_fit;
  shown_children_fit = shown_children_fit;
}
