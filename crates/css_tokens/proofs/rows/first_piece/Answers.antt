use Rattle.std.proofs.Common.{Option, ap, ◌∙◌}
use Rattle.css_tokens.specs.declared.token.Piece.{Piece}
use Rattle.css_tokens.specs.declared.rows.First.TheVariants.{Slash, White, Quote, Number, Dash, Name, Back, Pound, Less, At, Other}
use Rattle.css_tokens.specs.Rows.{◌or◌, mark}
use Rattle.css_tokens.proofs.FirstRow.{tried_is_first, none_first}
use Rattle.css_tokens.proofs.rows.first_piece.Goals as goal

pub returns-in_default-clause-value : goal.returns-in_default-clause-value
returns-in_default-clause-value c = none_first c.args.text.now c.in_default.len_below

pub returns-in-Name-clause-value : goal.returns-in-Name-clause-value
returns-in-Name-clause-value c = c.named.ensures.value ∙ tried_is_first Name c.args.text.now c.in-len1-up.len_at_least c.in-Name.ensures

pub returns-in-White-clause-value : goal.returns-in-White-clause-value
returns-in-White-clause-value c = c.white_space.ensures.value ∙ tried_is_first White c.args.text.now c.in-len1-up.len_at_least
    c.in-White.ensures

pub returns-in-Quote-clause-value : goal.returns-in-Quote-clause-value
returns-in-Quote-clause-value c = c.string.ensures.value ∙ tried_is_first Quote c.args.text.now c.in-len1-up.len_at_least c.in-Quote.ensures

pub returns-in-Number-clause-value : goal.returns-in-Number-clause-value
returns-in-Number-clause-value c =
    c.or_mark.ensures.value ∙ ap (λ
    (row : Option Piece). row or mark c.args.text.now) c.numeric.ensures.value ∙ tried_is_first Number c.args.text.now
    c.in-len1-up.len_at_least c.in-Number.ensures

pub returns-in-Dash-clause-value : goal.returns-in-Dash-clause-value
returns-in-Dash-clause-value c =
    c.or_mark-in-Dash.ensures.value ∙ ap
    (λ (row : Option Piece). row or mark c.args.text.now) c.dashed.ensures.value ∙ tried_is_first Dash c.args.text.now
    c.in-len1-up.len_at_least c.in-Dash.ensures

pub returns-in-Slash-clause-value : goal.returns-in-Slash-clause-value
returns-in-Slash-clause-value c =
    c.or_mark-in-Slash.ensures.value ∙ ap
    (λ (row : Option Piece). row or mark c.args.text.now) c.comment.ensures.value ∙ tried_is_first Slash c.args.text.now
    c.in-len1-up.len_at_least c.in-Slash.ensures

pub returns-in-Pound-clause-value : goal.returns-in-Pound-clause-value
returns-in-Pound-clause-value c =
    c.or_mark-in-Pound.ensures.value ∙ ap
    (λ (row : Option Piece). row or mark c.args.text.now) c.hash.ensures.value ∙ tried_is_first Pound c.args.text.now
    c.in-len1-up.len_at_least c.in-Pound.ensures

pub returns-in-At-clause-value : goal.returns-in-At-clause-value
returns-in-At-clause-value c =
    c.or_mark-in-At.ensures.value ∙ ap
    (λ (row : Option Piece). row or mark c.args.text.now) c.at_keyword.ensures.value ∙ tried_is_first At c.args.text.now
    c.in-len1-up.len_at_least c.in-At.ensures

pub returns-in-Back-clause-value : goal.returns-in-Back-clause-value
returns-in-Back-clause-value c =
    c.or_mark-in-Back.ensures.value ∙ ap
    (λ (row : Option Piece). row or mark c.args.text.now) c.named-in-Back.ensures.value ∙ tried_is_first Back c.args.text.now
    c.in-len1-up.len_at_least c.in-Back.ensures

pub returns-in-Less-clause-value : goal.returns-in-Less-clause-value
returns-in-Less-clause-value c =
    c.or_mark-in-Less.ensures.value ∙ ap
    (λ (row : Option Piece). row or mark c.args.text.now) c.cdo.ensures.value ∙ tried_is_first Less c.args.text.now
    c.in-len1-up.len_at_least c.in-Less.ensures

pub returns-in-Other-clause-value : goal.returns-in-Other-clause-value
returns-in-Other-clause-value c = c.mark.ensures.value ∙ tried_is_first Other c.args.text.now c.in-len1-up.len_at_least c.in-Other.ensures
