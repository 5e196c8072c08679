-- A serial is kept where its node is shown.
use Rattle.std.proofs.Common.{Bool, [], ◌∷◌, ◌++◌, cond, get_or, refl, ap, ◌∙◌}
use Rattle.std.specs.Prelude.{is_some}
use Rattle.page_tree.specs.Pages.{find_in}
use Rattle.shown_pages.specs.ShownPages.{shown_page}
use Rattle.back_end.proofs.SearchSteps.{kept-turn}
use Rattle.back_end.proofs.searching.shown_among.Goals as goal

pub loop-serial-preserved : goal.loop-serial-preserved
loop-serial-preserved c =
    let serial = get_or c.args.serials.now c.loop-serial.serial-index 0 in
    kept-turn (λ s. is_some (find_in s (shown_page c.args.mode c.args.page.now).tree)) c.args.serials.now c.loop-serial.serial-index
    serial c.loop-serial.shown.items c.push_if.new.shown.items c.loop-serial-test.true refl
    (c.in_ok-push_if.ensures {u = tt} ∙ ap (λ (b : Bool). c.loop-serial.shown.items ++ cond b (serial ∷ []) [])
    (c.is_some-is_shown.ensures ∙ ap (λ o. is_some o) c.find.ensures))
    ∙ c.loop-serial.invariant
