-- `DOM.disable` is carried out, or refused while DOM is off.
use Rattle.std.proofs.Common.{refl, ap, ◌∙◌}
use Rattle.std.specs.Ordering.{nat_cmp}
use Rattle.std.specs.FinMap as map
use Rattle.shown_pages.specs.declared.modes.Mode.TheVariants.{All}
use Rattle.node_binding.specs.Bindings.{BindingValue, in_mode}
use Rattle.back_end.proofs.SeatLemmas.{disabled-stands}
use Rattle.back_end.proofs.KeepSeats.{disabled-both}
use Rattle.back_end.proofs.desk.Desk.disable.Goals as goal

pub returns-clause-stands : goal.returns-clause-stands
returns-clause-stands c = λ state both.
    disabled-both c.args.self.now (record {
      alloc = _;
      is_on = _;
      css = _;
      agent = _;
      watches = _;
      searches = _;
    }) c.clear-3.new.self c.args.side.now c.args.side.now state c.args.id both.stands c.requires.on c.clear-3.ensures
    (disabled-stands c.args.self.now
    (record { alloc = _; is_on = _; css = _; agent = _; watches = _; searches = _ })
    c.args.side.now c.args.side.now state c.args.id both.stands
    c.requires.on refl refl refl (c.in_ok-switch.ensures {u = tt}).on c.clear.ensures c.clear-2.ensures
    (c.set_mode.ensures ∙ ap (in_mode All) c.reset.ensures))

-- after a reset nothing is known
pub set_mode-requires : goal.set_mode-requires
set_mode-requires c = λ k. ap (λ (b : BindingValue). map.get b.ids k) c.reset.ensures ∙ map.get-empty nat_cmp k
