-- What each line of a drill is, that it may be carried out, and how many there are.
use Rattle.std.proofs.Common.{◌≡◌, ℕ, zero, suc, ◌+◌, ◌-◌, ◌*◌, ◌<◌, ◌≤◌, ◌%◌, ◌^◌, min, true, List, [], ◌∷◌, ◌++◌, length}
use Rattle.std.proofs.Common.{codes, Some, None, refl, arith, lt-ltb}
use Rattle.std.specs.Prelude.{IsUtf8}
use Rattle.std.proofs.lemmas.List.{length-append}
use Rattle.json.proofs.Printed.Utf8.{IsUtf8-are_ascii}
use Rattle.serde_json.specs.Data.{object, Members, depth}
use Rattle.cdp_json.specs.Plain.{is_plain, HasUtf8}
use Rattle.cdp_json.proofs.ReadBack.{IsUtf8-compact_text}
use Rattle.cdp_messages.specs.Asked.{command_value}
use Rattle.cdp_messages.proofs.Commands.{ask_plain}
use Rattle.replay_script.specs.Forms.{LineForm}
use Rattle.replay_script.specs.Script.{closed_by, styles_ask}
use Rattle.replay_script.specs.Sound.{CanSend, IsSound}
use Rattle.drill_script.specs.Draws.{next_number, drawn}
use Rattle.drill_script.specs.Divs.{after_divs}
use Rattle.drill_script.specs.DrillLines.{div_drawn}
use Rattle.drill_script.specs.DrillLines.{turn_lines, after_turn, turns, most_turns, drill_lines}
use Rattle.drill_script.specs.Given.{is_drill}
use Rattle.drill_script.specs.LineKinds.{IsDrillLine, document, styles, watch, settling, class, title, matched, text, rising, falling}
use Rattle.drill_script.specs.LineKinds.{AreDrillLines, serials_end, most_lines}
use Rattle.drill_script.proofs.DrawLemmas.{drawn-below}
use Rattle.drill_script.proofs.LineLaws.{divs-some, divs-few}
use Rattle.drill_script.proofs.NodeLaws.{numbered-utf8}

-- ---- which lines there are

div-low : (divs x : ℕ) → 0 < divs → divs ≤ 50000 → div_drawn divs x < serials_end
div-low divs x some few = omega (arith, drawn-below x divs some)

turn-kinds : (k divs x : ℕ) → 0 < divs → divs ≤ 50000 → AreDrillLines (turn_lines k divs x)
turn-kinds zero divs x some few =
    (class (div_drawn divs x) (drawn (next_number x) 8) (div-low divs x some few) (drawn-below (next_number x) 8 (omega arith)), tt)
turn-kinds (suc zero) divs x some few =
    (title (div_drawn divs x) (drawn (next_number x) 10) (div-low divs x some few) (drawn-below (next_number x) 10 (omega arith)), tt)
turn-kinds (suc (suc zero)) divs x some few = (matched (div_drawn divs x) (div-low divs x some few), tt)
turn-kinds (suc (suc (suc k))) divs x some few = (
  text,
  (
    rising (drawn x 64) (drawn-below x 64 (omega arith)),
    (falling (drawn (next_number x) 4096) (drawn-below (next_number x) 4096 (omega arith)), tt),
  ),
)

kinds-append : (xs ys : List LineForm) → AreDrillLines xs → AreDrillLines ys → AreDrillLines (xs ++ ys)
kinds-append [] ys a b = b
kinds-append (x ∷ xs) ys a b = (a.0, kinds-append xs ys a.1 b)

turns-kinds : (divs n r x : ℕ) → 0 < divs → divs ≤ 50000 → AreDrillLines (turns divs n r x)
turns-kinds divs zero r x some few = (settling, tt)
turns-kinds divs (suc n) r x some few =
    kinds-append (turn_lines (r % 4) divs x) (turns divs n (r + 1) (after_turn (r % 4) x)) (turn-kinds (r % 4) divs x some few)
    (turns-kinds divs n (r + 1) (after_turn (r % 4) x) some few)

-- each line after the load is one of these
pub drill-kinds : (n : ℕ) → is_drill n ≡ true → AreDrillLines (drill_lines n)
unfolding drill_lines
drill-kinds n h =
    (document, (styles, (watch, (settling, turns-kinds n (min n most_turns - 0) 0 (after_divs n n) (divs-some n h) (divs-few n h)))))

-- ---- how many

turn-few : (k divs x : ℕ) → length (turn_lines k divs x) ≤ 3
turn-few zero divs x = omega arith
turn-few (suc zero) divs x = omega arith
turn-few (suc (suc zero)) divs x = omega arith
turn-few (suc (suc (suc k))) divs x = omega arith

turns-few : (divs n r x : ℕ) → length (turns divs n r x) ≤ 3 * n + 1
turns-few divs zero r x = omega arith
turns-few divs (suc n) r x =
    let rest = turns divs n (r + 1) (after_turn (r % 4) x) in
    omega (arith, length-append (turn_lines (r % 4) divs x) rest, turn-few (r % 4) divs x, turns-few divs n (r + 1) (after_turn (r % 4) x))

-- no more than that
pub drill-few : (n : ℕ) → length (drill_lines n) ≤ most_lines
unfolding drill_lines
drill-few n = omega (arith, turns-few n (min n most_turns - 0) 0 (after_divs n n))

-- ---- none of them shows anything or drops a panel

pub line-shows : (line : LineForm) → IsDrillLine line → (closed_by line ≡ None) × (styles_ask line ≡ None)
line-shows line document = (refl, refl)
line-shows line styles = (refl, refl)
line-shows line watch = (refl, refl)
line-shows line settling = (refl, refl)
line-shows line (class s digit a b) = (refl, refl)
line-shows line (title s digit a b) = (refl, refl)
line-shows line (matched s a) = (refl, refl)
line-shows line text = (refl, refl)
line-shows line (rising n a) = (refl, refl)
line-shows line (falling n a) = (refl, refl)

-- ---- each may be carried out

-- an ask whose parameters are plain, UTF-8 and flat
ask-can : (method : List ℕ) (params : Members) → IsUtf8 method → is_plain (object params) ≡ true → depth (object params) ≤ 10
    → HasUtf8 (object params) → CanSend (record { method = method; params = Some (object params); session = None })
ask-can method params m plain deep u = record {
  params = plain;
  session = refl;
  shallow = λ id. omega (arith, deep);
  texts = λ id c. IsUtf8-compact_text (command_value id method (Some (object params)) None)
      (ask_plain id method (Some (object params)) None c plain refl) (
        IsUtf8-are_ascii (codes "id") refl,
        tt,
        (
          IsUtf8-are_ascii (codes "method") refl,
          m,
          (IsUtf8-are_ascii (codes "params") refl, u, tt),
        ),
      );
}

serial-fits : (s : ℕ) → s < serials_end → s < 2 ^ 64
serial-fits s h = omega arith

-- each line may be carried out
pub line-sound : (line : LineForm) → IsDrillLine line → IsSound line
line-sound line document =
    ask-can (codes "DOM.getDocument") _ (IsUtf8-are_ascii (codes "DOM.getDocument") refl) refl (omega arith)
    (IsUtf8-are_ascii (codes "depth") refl, tt, tt)
line-sound line styles = ask-can (codes "CSS.enable") _ (IsUtf8-are_ascii (codes "CSS.enable") refl) refl (omega arith) tt
line-sound line watch =
    ask-can (codes "DOMDebugger.setDOMBreakpoint") _ (IsUtf8-are_ascii (codes "DOMDebugger.setDOMBreakpoint") refl) refl (omega arith) (
      IsUtf8-are_ascii (codes "nodeId") refl,
      tt,
      (IsUtf8-are_ascii (codes "type") refl, IsUtf8-are_ascii (codes "subtree-modified") refl, tt),
    )
line-sound line settling = tt
line-sound line (class s digit a b) = record {
  insertable = tt;
  texts = (IsUtf8-are_ascii (codes "class") refl, numbered-utf8 (codes "k") digit (IsUtf8-are_ascii (codes "k") refl) (omega arith));
}
line-sound line (title s digit a b) =
    ask-can (codes "DOM.setAttributeValue") _ (IsUtf8-are_ascii (codes "DOM.setAttributeValue") refl)
    (rw (lt-ltb s (2 ^ 64) (serial-fits s a)) refl) (omega arith) (
      IsUtf8-are_ascii (codes "name") refl,
      IsUtf8-are_ascii (codes "title") refl,
      (
        IsUtf8-are_ascii (codes "nodeId") refl,
        tt,
        (IsUtf8-are_ascii (codes "value") refl, numbered-utf8 (codes "t") digit (IsUtf8-are_ascii (codes "t") refl) (omega arith), tt),
      ),
    )
line-sound line (matched s a) =
    ask-can (codes "CSS.getMatchedStylesForNode") _ (IsUtf8-are_ascii (codes "CSS.getMatchedStylesForNode") refl)
    (rw (lt-ltb s (2 ^ 64) (serial-fits s a)) refl) (omega arith) (IsUtf8-are_ascii (codes "nodeId") refl, tt, tt)
line-sound line text = record {
  insertable = refl;
  texts = ((IsUtf8-are_ascii [] refl, IsUtf8-are_ascii (codes "x") refl, tt), tt);
}
line-sound line (rising n a) = tt
line-sound line (falling n a) = tt
