use Rattle.std.proofs.Common.{◌≡◌, ◌-◌, ◌+◌, ◌≤◌, ◌++◌, List, ℕ, take, drop, length, true, false, sym, ap, ◌∙◌, refl, arith}
use Rattle.std.specs.String.{string_bytes}
use Rattle.css_tokens.specs.Escapes.{is_coded, escape_bytes, escape_tail}
use Rattle.css_tokens.proofs.RunSteps.{between_to_end}
use Rattle.css_tokens.proofs.Unescaping.{by_code, by_character, character_end, back_cut, uncoded_two, plain_len}
use Rattle.css_tokens.proofs.values.push_escape.Goals as goal

tail_is : (bytes rest : List ℕ) (i : ℕ) → bytes ≡ rest → take (length bytes - i) (drop i bytes) ≡ drop i rest
tail_is bytes rest i same = between_to_end bytes i (length bytes) refl ∙ ap (drop i) same

pub range-requires-clause-start_boundary : goal.range-requires-clause-start_boundary
range-requires-clause-start_boundary c = λ _. back_cut c.args.rest.now c.utf8.rest c.requires.escape

pub range-requires-clause-end_boundary : goal.range-requires-clause-end_boundary
range-requires-clause-end_boundary c =
    let rest = c.args.rest.now in
    let tail = tail_is c.as_bytes-bytes.result.now rest 1 c.as_bytes-bytes.ensures.value in
    let more = tail_is c.as_bytes-bytes.result.now rest 2 c.as_bytes-bytes.ensures.value in
    let coded : is_coded (drop 1 rest) ≡ false = sym (ap is_coded tail) ∙ c.in-None.ensures in
    character_end rest c.plain_len-n.result (uncoded_two rest c.requires.escape coded) (c.plain_len-n.ensures.value ∙ ap plain_len more)

pub returns-in_ok-push-in-Some : goal.returns-in_ok-push-in-Some
returns-in_ok-push-in-Some c =
    let rest = c.args.rest.now in
    let tail = tail_is c.as_bytes-bytes.result.now rest 1 c.as_bytes-bytes.ensures.value in
    let coded : is_coded (drop 1 rest) ≡ true = sym (ap is_coded tail) ∙ c.in-Some.ensures.0 in
    let fits : c.escape_tail.result ≤ length (drop 1 rest) = omega (arith, ap length tail) in
    by_code _ _ _ rest c.escape_tail.result c.utf8.rest c.requires.escape coded (sym (ap escape_bytes tail) ∙ c.in-Some.ensures.1)
    (c.escape_tail.ensures.value ∙ ap escape_tail tail) fits c.in_ok-push-in-Some.ensures.bytes

pub returns-in_ok-push_str-in-None : goal.returns-in_ok-push_str-in-None
returns-in_ok-push_str-in-None c =
    let rest = c.args.rest.now in
    let tail = tail_is c.as_bytes-bytes.result.now rest 1 c.as_bytes-bytes.ensures.value in
    let more = tail_is c.as_bytes-bytes.result.now rest 2 c.as_bytes-bytes.ensures.value in
    let coded : is_coded (drop 1 rest) ≡ false = sym (ap is_coded tail) ∙ c.in-None.ensures in
    let out = string_bytes c.args.out.now in
    let count : 2 + c.plain_len-n.result - 1 ≡ 1 + c.plain_len-n.result = omega arith in
    let copied = ap (λ (xs : List ℕ). out ++ xs) (c.range.ensures.value ∙ ap (λ (k : ℕ). take k (drop 1 rest)) count) in
    by_character out _ rest c.plain_len-n.result c.utf8.rest c.requires.escape coded (c.plain_len-n.ensures.value ∙ ap plain_len more)
    (c.in_ok-push_str-in-None.ensures.bytes ∙ copied)
