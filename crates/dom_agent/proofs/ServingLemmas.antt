-- Openings one after the other.
use Rattle.std.proofs.Common.{◌≡◌, ℕ, suc, ◌+◌, ◌<◌, ◌≤◌, ◌^◌, List, [], ◌∷◌, ◌++◌, All, map, sum_by, length, get_or}
use Rattle.std.proofs.Common.{drop, drop-cons, add-one}
use Rattle.std.proofs.Common.{append_assoc, append-nil, refl, sym, ap, ◌∙◌, subst, arith}
use Rattle.std.proofs.lemmas.List.Elements.{All-head, All-tail}
use Rattle.std.proofs.lemmas.List.Sums.{sum_by-cons}
use Rattle.node_tree.specs.Nodes.{Nodes, Branch, node_count}
use Rattle.page_tree.specs.Pages.{PageRow}
use Rattle.node_binding.specs.Bindings.{BindingValue, opened_down}
use Rattle.node_binding.proofs.OpenDownLemmas.{opened_down-next}
use Rattle.pipe_frames.specs.Frames.{framed}
use Rattle.client_views.specs.Moves.{move_text}
use Rattle.dom_agent.specs.Keepers.{binding_keeper}
use Rattle.dom_agent.specs.Requests.{Opening, Showing, told_of, all_opened, opening_move, frames_told}
use Rattle.node_binding.specs.declared.pieces.Opening as held
use Rattle.dom_agent.specs.Openings.{opening_of, IsOfContainer}

abbrev below : Opening → ℕ
below x = node_count x.node.children

-- the openings that are left: with them, what is kept and what was sent come to what all come to
pub record Opens (left : List Opening) (b : BindingValue) (out : List ℕ) (all : List Opening) (begin : BindingValue)
    (sent : List ℕ) : Type 0 where
  pub state : (n : Nodes PageRow) (d : Branch PageRow)
      → (all_opened (binding_keeper n) d left b).state ≡ (all_opened (binding_keeper n) d all begin).state
  pub frames : (n : Nodes PageRow) (d : Branch PageRow)
      → out ++ frames_told (all_opened (binding_keeper n) d left b).shown
      ≡ sent ++ frames_told (all_opened (binding_keeper n) d all begin).shown
  pub containers : All IsOfContainer left
  pub room : b.next + sum_by below left < 2 ^ 63
  pub few : b.next + sum_by below left ≤ begin.next + sum_by below all

pub opens_start : (os : List held.Opening) (b : BindingValue) (out : List ℕ) → All IsOfContainer (map opening_of os)
    → b.next + sum_by (λ x. node_count x.node.children) (map opening_of os) < 2 ^ 63
    → Opens (map opening_of (drop 0 os)) b out (map opening_of os) b out
opens_start os b out containers room =
    record { state = λ n d. refl; frames = λ n d. refl; containers = containers; room = room; few = omega arith }

-- the frame of the first, and then those of the others
pub frames-cons : (x : Showing) (xs : List Showing) → frames_told (x ∷ xs) ≡ frames_told (x ∷ []) ++ frames_told xs
frames-cons x xs = ap (λ l. l ++ frames_told xs) (sym (append-nil (framed (move_text (opening_move x)))))

-- one opening more
opened_next : (x : Opening) (xs : List Opening) (b b1 : BindingValue) (out out1 : List ℕ) (all : List Opening) (begin : BindingValue)
    (sent : List ℕ) → b1 ≡ opened_down x.levels x.node b
    → ((n : Nodes PageRow) (d : Branch PageRow) → out1 ≡ out ++ frames_told (told_of (binding_keeper n) d x.node b1 ∷ []))
    → Opens (x ∷ xs) b out all begin sent → Opens xs b1 out1 all begin sent
opened_next x xs b b1 out out1 all begin sent opened told was = record {
  state = λ n d. ap (λ m. (all_opened (binding_keeper n) d xs m).state) opened ∙ was.state n d;
  frames = λ n d.
      ap (λ l. l ++ frames_told (all_opened (binding_keeper n) d xs b1).shown) (told n d)
      ∙ append_assoc out (frames_told (told_of (binding_keeper n) d x.node b1 ∷ []))
      (frames_told (all_opened (binding_keeper n) d xs b1).shown)
      ∙ ap (λ l. out ++ l) (sym (frames-cons (told_of (binding_keeper n) d x.node b1) (all_opened (binding_keeper n) d xs b1).shown))
      ∙ ap (λ m. out ++ frames_told (told_of (binding_keeper n) d x.node m ∷ (all_opened (binding_keeper n) d xs m).shown)) opened
      ∙ was.frames n d;
  containers = All-tail IsOfContainer x xs was.containers;
  room = omega (arith, was.room, sum_by-cons below x xs, opened_down-next x.levels x.node b, ap (λ m. m.next) opened);
  few = omega (arith, was.few, sum_by-cons below x xs, opened_down-next x.levels x.node b, ap (λ m. m.next) opened);
}

split : (os : List held.Opening) (i : ℕ) (x : held.Opening) → i < length os → x ≡ get_or os i x
    → map opening_of (drop i os) ≡ opening_of x ∷ map opening_of (drop (i + 1) os)
split os i x h is = rw (add-one, drop-cons os i x) (ap (λ y. opening_of y ∷ map opening_of (drop (suc i) os)) (sym is))

module _ (os : List held.Opening) (i : ℕ) (x : held.Opening) (b : BindingValue) (out : List ℕ) (all : List Opening) (begin : BindingValue)
    (sent : List ℕ) (h : i < length os) (is : x ≡ get_or os i x) (was : Opens (map opening_of (drop i os)) b out all begin sent) where
  parted : Opens (opening_of x ∷ map opening_of (drop (i + 1) os)) b out all begin sent
  parted = subst (λ l. Opens l b out all begin sent) (split os i x h is) was

  pub next_container : IsOfContainer (opening_of x)
  next_container = All-head IsOfContainer (opening_of x) (map opening_of (drop (i + 1) os)) parted.containers

  pub next_room : b.next + node_count x.node.children < 2 ^ 63
  next_room = omega (arith, parted.room, sum_by-cons below (opening_of x) (map opening_of (drop (i + 1) os)))

  pub opens_turn : (b1 : BindingValue) (out1 : List ℕ) → b1 ≡ opened_down x.levels x.node b
      → ((n : Nodes PageRow) (d : Branch PageRow) → out1 ≡ out ++ frames_told (told_of (binding_keeper n) d x.node b1 ∷ []))
      → Opens (map opening_of (drop (i + 1) os)) b1 out1 all begin sent
  opens_turn b1 out1 opened told = opened_next (opening_of x)
      (map opening_of (drop (i + 1) os)) b b1 out out1 all begin sent opened told parted

pub opens_end : (os : List held.Opening) (i : ℕ) (b : BindingValue) (out : List ℕ) (all : List Opening) (begin : BindingValue)
    (sent : List ℕ) → drop i os ≡ [] → Opens (map opening_of (drop i os)) b out all begin sent → Opens [] b out all begin sent
opens_end os i b out all begin sent framed was = subst (λ l. Opens (map opening_of l) b out all begin sent) framed was
