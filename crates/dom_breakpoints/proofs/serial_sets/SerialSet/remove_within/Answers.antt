use Rattle.std.proofs.Common.{rules, ap, ◌∙◌}
use Rattle.std.proofs.lemmas.Fn.{filter_same}
use Rattle.std.specs.Prelude.{not}
use Rattle.std.specs.FinSet as set
use Rattle.dom_breakpoints.specs.Watched.{is_within, outside}
use Rattle.dom_breakpoints.proofs.SetLemmas.{from_list-filter}
use Rattle.dom_breakpoints.proofs.serial_sets.SerialSet.remove_within.Goals as goal

pub returns : goal.returns
returns c =
    let tree = c.args.page.now.tree in
    ap (λ ks. set.from_list ks) (filter_same _ (λ serial. not (is_within serial c.args.root tree)) _
    (λ x b f' k. search rules) _ _ c.retain.ensures.filtered)
    ∙ from_list-filter (λ serial. not (is_within serial c.args.root tree)) _
    ∙ ap (outside c.args.root tree) c.self.view_is
