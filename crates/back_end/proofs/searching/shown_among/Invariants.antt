-- Those found so far and those that are left make up the whole.
use Rattle.std.proofs.Common.{◌≡◌, ◌++◌, drop}
use Rattle.std.specs.Prelude.{filter, is_some}
use Rattle.page_tree.specs.Pages.{find_in}
use Rattle.shown_pages.specs.ShownPages.{shown_page}
use Rattle.back_end.proofs.searching.shown_among.Given as goal

abbrev pub invariant-loop-serial : goal.invariant-loop-serial
invariant-loop-serial l =
    l.shown.items ++ filter (λ s. is_some (find_in s (shown_page l.mode l.page).tree)) (drop l.serial-index l.serials)
    ≡ filter (λ s. is_some (find_in s (shown_page l.mode l.page).tree)) l.serials
