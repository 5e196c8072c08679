use Rattle.std.proofs.Common.{◌≡◌, ◌-◌, ◌≤◌, ◌++◌, List, ℕ, slice_index, take, drop, length, sym, ap, ◌∙◌, refl, arith}
use Rattle.std.specs.String.{string_bytes}
use Rattle.css_tokens.specs.Codes.{begins, is_newline}
use Rattle.css_tokens.specs.Escapes.{newline_len}
use Rattle.css_tokens.proofs.RunSteps.{between_to_end}
use Rattle.css_tokens.proofs.Unescaping.{by_line, by_plain, plain_end, plain_len}
use Rattle.css_tokens.proofs.values.unescape_front.Goals as goal

pub range-requires-clause-end_boundary : goal.range-requires-clause-end_boundary
range-requires-clause-end_boundary c = plain_end c.args.rest.now c.plain_len-n.result
    (c.plain_len-n.ensures.value ∙ ap plain_len c.as_bytes-bytes.ensures.value)

pub returns-then-bytes-ne92 : goal.returns-then-bytes-ne92
returns-then-bytes-ne92 c =
    let rest = c.args.rest.now in
    let out = string_bytes c.args.out.now in
    let count : c.plain_len-n.result - 0 ≡ c.plain_len-n.result = omega arith in
    let copied = ap (λ (xs : List ℕ). out ++ xs) (c.range.ensures.value ∙ ap (λ (k : ℕ). take k rest) count) in
    by_plain out _ rest c.plain_len-n.result c.requires
    (λ back. c.if-bytes-ne92.true (ap (λ (xs : List ℕ). slice_index xs 0) c.as_bytes-bytes.ensures.value ∙ back))
    (c.plain_len-n.ensures.value ∙ ap plain_len c.as_bytes-bytes.ensures.value) (c.in_ok-push_str.ensures.bytes ∙ copied)

pub returns-then-begins_newline : goal.returns-then-begins_newline
returns-then-begins_newline c =
    let rest = c.args.rest.now in
    let tail = between_to_end c.as_bytes-bytes.result.now 1 (length c.as_bytes-bytes.result.now) refl ∙ ap
    (drop 1) c.as_bytes-bytes.ensures.value in
    let fits : c.newline_len.result ≤ length (drop 1 rest) = omega (arith, ap length tail) in
    by_line (string_bytes c.args.out.now) rest c.newline_len.result c.utf8.rest c.requires
    (sym (ap (λ (xs : List ℕ). slice_index xs 0) c.as_bytes-bytes.ensures.value) ∙ c.if-bytes-ne92.false)
    (sym (ap (begins is_newline) tail) ∙ sym c.begins_newline.ensures ∙ c.if-begins_newline.true)
    (c.newline_len.ensures.value ∙ ap newline_len tail) fits
