-- The first line of a script with two front ends loads a page.
use Rattle.std.proofs.Common.{◌≡◌, ℕ, List, Option, Some, None, sym, ◌∙◌, ap, subst}
use Rattle.page_forms.specs.Pages.{LoadedPage, CanLoadPage}
use Rattle.replay_script.specs.Forms.{load}
use Rattle.replay_script.specs.PairLines.{PairForm, of_first, pair_line_form, pair_line_fault}
use Rattle.replay_script.specs.PairSeen.{IsPairSound}
use Rattle.replay_script.proofs.PairLemmas.{pair_first_is_load}
use Rattle.pair_world.specs.PairScripts.{pair_page}

pub loads-not : (line : List ℕ) (form : PairForm) → pair_line_fault 1 line ≡ None → pair_line_form line ≡ Some form → pair_page form ≡ None
    → ⊥
loads-not line form good is none =
    let l = pair_first_is_load line form good is in
    let no : ◌≡◌ {A = Option LoadedPage} None (Some l.0) = sym none ∙ ap pair_page l.1 in
    cc

-- it is this page
this-page : (line : List ℕ) (form : PairForm) (page : LoadedPage) → pair_line_fault 1 line ≡ None → pair_line_form line ≡ Some form
    → pair_page form ≡ Some page → form ≡ of_first (load page)
this-page line form page good is some =
    let l = pair_first_is_load line form good is in
    let both : ◌≡◌ {A = Option LoadedPage} (Some page) (Some l.0) = sym some ∙ ap pair_page l.1 in
    let same : page ≡ l.0 = cc in
    l.1 ∙ ap (λ n. of_first (load n)) (sym same)

pub loads-these : (line : List ℕ) (form : PairForm) (page : LoadedPage) → pair_line_fault 1 line ≡ None → pair_line_form line ≡ Some form
    → pair_page form ≡ Some page → pair_line_form line ≡ Some (of_first (load page))
loads-these line form page good is some = is ∙ ap (λ f. Some f) (this-page line form page good is some)

pub loads-can : (line : List ℕ) (form : PairForm) (page : LoadedPage) → pair_line_fault 1 line ≡ None → pair_line_form line ≡ Some form
    → IsPairSound form → pair_page form ≡ Some page → CanLoadPage page
loads-can line form page good is sound some = (subst IsPairSound (this-page line form page good is some) sound).0.can
