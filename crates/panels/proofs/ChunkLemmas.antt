-- Chunks of a text, and some of them put in place of others.
use Rattle.std.proofs.Common.{◌≡◌, ℕ, ◌+◌, ◌-◌, ◌<◌, ◌≤◌, List, [], ◌∷◌, ◌++◌, length, take, drop, count_by, get_or}
use Rattle.std.proofs.Common.{refl, sym, ap, subst, ◌∙◌, arith, append_assoc, length-append, length-drop, take-append-drop, drop-drop}
use Rattle.std.proofs.Common.{take_all, take-add, take-take, drop_at, length-take-le}
use Rattle.std.proofs.lemmas.List.{drop_all, drop_more, take_more, take-append-le, drop-append-le}
use Rattle.std.specs.List.{replace_range}
use Rattle.panels.specs.declared.chunks.Chunk.{Chunk}
use Rattle.panels.specs.Chunks.{is_feed, AreChunks, IsEdge}

-- ---- texts behind one another

pub cut_append : (xs ys : List Chunk) (p q : List ℕ) → AreChunks p xs → AreChunks q ys → AreChunks (p ++ q) (xs ++ ys)
cut_append [] ys p q c d = subst (λ x. AreChunks (x ++ q) ys) (sym c) d
cut_append (b ∷ xs) ys p q c d = (
  (let n = length-append p q in let low = c.0 in omega (arith, low)),
  c.1 ∙ ap (λ (x : List ℕ). count_by is_feed x) (sym (take-append-le b.bytes p q c.0)),
  subst (λ x. AreChunks x (xs ++ ys)) (sym (drop-append-le b.bytes p q c.0)) (cut_append xs ys (drop b.bytes p) q c.2 d),
)

cut_one : (b : Chunk) (text : List ℕ) → b.bytes ≡ length text → b.lines ≡ count_by is_feed text → AreChunks text (b ∷ [])
cut_one b text size counted = (
  omega (arith, size),
  counted ∙ ap (λ (x : List ℕ). count_by is_feed x) (sym (take_all b.bytes text (omega (arith, size)))),
  drop_all b.bytes text (omega (arith, size)),
)

-- one chunk more of a text
pub cut_more : (text part : List ℕ) (start size : ℕ) (chunks : List Chunk) (b : Chunk) → AreChunks (take start text) chunks
    → part ≡ take size (drop start text) → b.bytes ≡ length part → b.lines ≡ count_by is_feed part
    → AreChunks (take (start + size) text) (chunks ++ b ∷ [])
cut_more text part start size chunks b cut is bytes counted =
    subst (λ x. AreChunks x (chunks ++ b ∷ [])) (sym (take-add start size text))
    (cut_append chunks (b ∷ []) (take start text) (take size (drop start text)) cut
    (cut_one b (take size (drop start text)) (bytes ∙ ap (λ (x : List ℕ). length x) is)
    (counted ∙ ap (λ (x : List ℕ). count_by is_feed x) is)))

-- and the last one
pub cut_last : (text part : List ℕ) (start : ℕ) (chunks : List Chunk) (b : Chunk) → AreChunks (take start text) chunks
    → part ≡ drop start text → b.bytes ≡ length part → b.lines ≡ count_by is_feed part → AreChunks text (chunks ++ b ∷ [])
cut_last text part start chunks b cut is bytes counted =
    subst (λ x. AreChunks x (chunks ++ b ∷ [])) (take-append-drop start text)
    (cut_append chunks (b ∷ []) (take start text) (drop start text) cut
    (cut_one b (drop start text) (bytes ∙ ap (λ (x : List ℕ). length x) is)
    (counted ∙ ap (λ (x : List ℕ). count_by is_feed x) is)))

-- ---- edges

-- What a chunk says of the text behind an edge.
pub record NextChunk (text : List ℕ) (chunks : List Chunk) (chunk byte : ℕ) (b : Chunk) : Type 0 where
  pub low : b.bytes ≤ length (drop byte text)
  pub counted : b.lines ≡ count_by is_feed (take b.bytes (drop byte text))
  pub fits : byte + b.bytes ≤ length text
  pub edge : IsEdge text chunks (chunk + 1) (byte + b.bytes)

pub next_chunk : (text : List ℕ) (chunks : List Chunk) (chunk byte : ℕ) (b d : Chunk) → IsEdge text chunks chunk byte
    → chunk < length chunks → b ≡ get_or chunks chunk d → NextChunk text chunks chunk byte b
next_chunk text chunks chunk byte b d e less is =
    let parts : drop chunk chunks ≡ b ∷ drop (chunk + 1) chunks =
    drop_more chunks chunk d less ∙ ap (λ x. x ∷ drop (chunk + 1) chunks) (sym is)
    in
    let more : take (chunk + 1) chunks ≡ take chunk chunks ++ b ∷ [] =
    take_more chunks chunk d less ∙ ap (λ x. take chunk chunks ++ x ∷ []) (sym is)
    in
    let here : AreChunks (drop byte text) (b ∷ drop (chunk + 1) chunks) = subst (AreChunks (drop byte text)) parts e.rest in
    let size = length-drop byte text in
    let inside = e.inside in
    let low : b.bytes ≤ length (drop byte text) = here.0 in
    let fits : byte + b.bytes ≤ length text = omega (arith, size, inside, low) in
    record {
      low = low;
      counted = here.1;
      fits = fits;
      edge = record {
        inside = fits;
        known = omega arith;
        front =
            subst (λ x. AreChunks x (take (chunk + 1) chunks)) (sym (take-add byte b.bytes text))
            (subst (AreChunks (take byte text ++ take b.bytes (drop byte text))) (sym more)
            (cut_append (take chunk chunks) (b ∷ []) (take byte text) (take b.bytes (drop byte text)) e.front
            (cut_one b (take b.bytes (drop byte text)) (sym (length-take-le b.bytes (drop byte text) low)) here.1)));
        rest = subst (λ x. AreChunks x (drop (chunk + 1) chunks)) (drop-drop b.bytes byte text) here.2;
      };
    }

-- behind the last chunk nothing stands
pub edge_last : (text : List ℕ) (chunks : List Chunk) (chunk byte : ℕ) → IsEdge text chunks chunk byte → length chunks ≤ chunk
    → length text ≤ byte
edge_last text chunks chunk byte e past =
    let none : AreChunks (drop byte text) [] = subst (AreChunks (drop byte text)) (drop_all chunk chunks past) e.rest in
    let size : length (drop byte text) ≡ 0 = ap (λ (x : List ℕ). length x) none in
    let l = length-drop byte text in
    omega (arith, size, l)

-- ---- chunks in place of others

three_parts : (start stop : ℕ) (text : List ℕ) → start ≤ stop
    → take start text ++ (take (stop - start) (drop start text) ++ drop stop text) ≡ text
three_parts start stop text order =
    let s : start + (stop - start) ≡ stop = omega (arith, order) in
    let behind : drop stop text ≡ drop (stop - start) (drop start text) =
    sym (drop-drop (stop - start) start text ∙ ap (λ i. drop i text) s)
    in
    ap (λ l. take start text ++ (take (stop - start) (drop start text) ++ l)) behind
    ∙ ap (λ l. take start text ++ l) (take-append-drop (stop - start) (drop start text))
    ∙ take-append-drop start text

pub cut_mended : (text part : List ℕ) (start stop : ℕ) (front new rest chunks : List Chunk) → start ≤ stop
    → part ≡ take (stop - start) (drop start text) → AreChunks (take start text) front → AreChunks part new
    → AreChunks (drop stop text) rest → chunks ≡ front ++ (new ++ rest) → AreChunks text chunks
cut_mended text part start stop front new rest chunks order is before mid behind made =
    subst (λ x. AreChunks x chunks) (three_parts start stop text order)
    (subst (AreChunks (take start text ++ (take (stop - start) (drop start text) ++ drop stop text))) (sym made)
    (cut_append front (new ++ rest) (take start text) (take (stop - start) (drop start text) ++ drop stop text) before
    (cut_append new rest (take (stop - start) (drop start text)) (drop stop text) (subst (λ x. AreChunks x new) is mid) behind)))

-- What stays of a text when another part comes into its midst.
pub record Around (text new : List ℕ) (start stop end : ℕ) : Type 0 where
  pub order : start ≤ end
  pub inside : end ≤ length new
  pub front : take start text ≡ take start new
  pub rest : drop stop text ≡ drop end new

module _ (text more : List ℕ) (from to start stop : ℕ) (before : start ≤ from) (order : from ≤ to) (behind : to ≤ stop)
    (inside : stop ≤ length text) where
  abbrev lead : List ℕ
  lead = take from text ++ more

  lead_size : length lead ≡ from + length more
  lead_size =
      let a = length-append (take from text) more in
      let b = length-take-le from text (omega (arith, order, behind, inside)) in
      omega (arith, a, b)

  pub around : Around text (replace_range text from to more) start stop (length (replace_range text from to more) - (length text - stop))
  around =
      let l = lead_size in
      let a = length-append lead (drop to text) in
      let d = length-drop to text in
      let at : length (replace_range text from to more) - (length text - stop) ≡ length lead + (stop - to) =
      omega (arith, a, d, behind, inside)
      in
      let low : start ≤ length (take from text) =
      let b = length-take-le from text (omega (arith, order, behind, inside)) in omega (arith, b, before)
      in
      let back : to + (stop - to) ≡ stop = omega (arith, behind) in
      record {
        order = omega (arith, l, at, before);
        inside = omega arith;
        front =
            sym (ap (take start) (append_assoc (take from text) more (drop to text))
            ∙ take-append-le start (take from text) (more ++ drop to text) low ∙ take-take start from text before);
        rest =
            sym (ap (λ i. drop i (replace_range text from to more)) at
            ∙ sym (drop-drop (stop - to) (length lead) (lead ++ drop to text))
            ∙ ap (drop (stop - to)) (drop_at lead (drop to text) (length lead) refl)
            ∙ drop-drop (stop - to) to text ∙ ap (λ i. drop i text) back);
      }
