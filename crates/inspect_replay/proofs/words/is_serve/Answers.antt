-- One word is not two.
use Rattle.std.proofs.Common.{◌≡◌, ◌∙◌, List, ℕ, true, false, length, codes, ap, sym, subst, arith}
use Rattle.std.specs.Prelude.{bytes_eq, string_bytes}
use Rattle.inspect_replay.specs.Words.{is_share}
use Rattle.inspect_replay.proofs.WordLemmas.{one-item, serve-not-share}
use Rattle.inspect_replay.proofs.words.is_serve.Goals as goal

pub returns-in-len1-clause-not_share : goal.returns-in-len1-clause-not_share
returns-in-len1-clause-not_share c = λ is.
    let one : length c.args.words.now ≡ 1 = omega (arith, c.in-len1.len_at_least, c.in-len1.len_below) in
    let serve : bytes_eq (string_bytes c.word-item.result) (codes "serve") ≡ true =
    ap (λ (word : List ℕ). bytes_eq word (codes "serve")) (sym c.as_str.ensures.value) ∙ sym c.eq.ensures ∙ is in
    subst (λ (words : List (List ℕ)). is_share words ≡ false)
    (sym (one-item string_bytes c.args.words.now c.word-item.result one c.word-item.is))
    (serve-not-share (string_bytes c.word-item.result) serve)
