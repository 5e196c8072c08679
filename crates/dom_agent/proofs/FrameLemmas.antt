-- The frames of what a command is answered with.
use Rattle.std.proofs.Common.{◌≡◌, ℕ, List, [], ◌∷◌, ◌++◌, Result, Ok, Err, OnOk, append_assoc, append-nil, sym, ap, subst, ◌∙◌}
use Rattle.std.proofs.lemmas.List.Concat.{flat_map-append}
use Rattle.json.specs.Token.{Token}
use Rattle.serde_json.specs.Data.{Data}
use Rattle.serde_json.specs.Written.{compact_text}
use Rattle.node_tree.specs.Nodes.{Nodes, Branch}
use Rattle.page_tree.specs.Pages.{PageRow}
use Rattle.node_binding.specs.Cuts.{cut}
use Rattle.node_binding.specs.Bindings.{BindingValue, opened_in, id_in}
use Rattle.cdp_messages.specs.declared.down.ReplyBody.{ReplyBody}
use Rattle.pipe_frames.specs.Frames.{framed}
use Rattle.dom_objects.specs.Tokens.{data_tokens}
use Rattle.client_views.specs.Moves.{Move, change, shows, replied, move_text, frames_of_moves}
use Rattle.dom_objects.proofs.TokenLists.{frame_sent}
use Rattle.dom_agent.specs.Keepers.{binding_keeper}
use Rattle.dom_agent.specs.Requests.{Showing, told_of, opening_moves, frames_told}

-- one move
pub move_sent : (m : Move) (out out2 : List ℕ) → out2 ≡ out ++ framed (move_text m) → out2 ≡ out ++ frames_of_moves (m ∷ [])
move_sent m out out2 sent = sent ∙ ap (λ l. out ++ l) (sym (append-nil (framed (move_text m))))

-- one move whose message was written token by token
pub move_written : {E : Type 0} (written result : Result (Unit {0}) E) (old before now : List ℕ) (us ts : List Token) (d : Data) (m : Move)
    → compact_text d ≡ move_text m → us ≡ [] → OnOk written (ts ≡ us ++ data_tokens d) → before ≡ old
    → (OnOk written (ts ≡ data_tokens d) → OnOk result (now ≡ before ++ framed (compact_text d)))
    → OnOk result (now ≡ old ++ frames_of_moves (m ∷ []))
move_written written result old before now us ts d m same begun wrote kept done = by result
    (frame_sent written result old before now us ts d begun wrote kept done)
  where
    by : {E : Type 0} (r : Result (Unit {0}) E) → OnOk r (now ≡ old ++ framed (compact_text d))
        → OnOk r (now ≡ old ++ frames_of_moves (m ∷ []))
    by (Ok u) sent = move_sent m old now (sent ∙ ap (λ t. old ++ framed t) same)
    by (Err e) sent = tt

-- the children of an opened node
pub shows_sent : {E : Type 0} (r : Result (Unit {0}) E) (b : BindingValue) (parent : ℕ) (x : Branch PageRow) (kids : Nodes PageRow)
    (out out2 : List ℕ) → parent ≡ id_in b x.row.serial → kids ≡ x.children
    → OnOk r (out2 ≡ out ++ frames_of_moves (change parent (shows (cut (opened_in b) (id_in b) kids)) ∷ []))
    → (n : Nodes PageRow) (d : Branch PageRow) → OnOk r (out2 ≡ out ++ frames_told (told_of (binding_keeper n) d x b ∷ []))
shows_sent r b parent x kids out out2 parent_is kids_are sent n d =
    subst (λ (m : Move). OnOk r (out2 ≡ out ++ frames_of_moves (m ∷ [])))
    (λ k. change (parent_is k) (shows (cut (opened_in b) (id_in b) (kids_are k)))) sent

-- openings, and then the reply
pub served_sent : (xs : List Showing) (id : ℕ) (body : ReplyBody) (out out1 out2 : List ℕ) → out1 ≡ out ++ frames_told xs
    → out2 ≡ out1 ++ frames_of_moves (replied id body ∷ []) → out2 ≡ out ++ frames_of_moves (opening_moves xs ++ replied id body ∷ [])
served_sent xs id body out out1 out2 first reply =
    reply
    ∙ ap (λ l. l ++ frames_of_moves (replied id body ∷ [])) first
    ∙ append_assoc out (frames_told xs) (frames_of_moves (replied id body ∷ []))
    ∙ ap (λ l. out ++ l) (sym (flat_map-append (λ m. framed (move_text m)) (opening_moves xs) (replied id body ∷ [])))
