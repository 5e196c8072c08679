use Rattle.std.proofs.Common.{ℕ, List, Option, sym, ap, ◌∙◌}
use Rattle.std.specs.Borrow.{Bor}
use Rattle.std.specs.Option.{option_map, option_to_list}
use Rattle.css_agent.specs.ClassNames.{with_names}
use Rattle.css_agent.proofs.NameLemmas.{texts, insert-seen}
use Rattle.css_agent.proofs.class_names.add_name.Goals as goal

pub returns-in_ok-insert : goal.returns-in_ok-insert
returns-in_ok-insert c =
    ap texts c.in_ok-insert.ensures.keys ∙ insert-seen c.args.names.now.keys c.in-Some.name
    ∙ ap (λ (o : Option (Bor (List ℕ))). with_names (texts c.args.names.now.keys) (option_to_list (option_map (λ n. n.now) o)))
    (sym c.in-Some.is)
