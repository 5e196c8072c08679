-- A frame that asks anything is the root's: it names no session, and its method is none of the two by which one is attached and detached.
use Rattle.std.proofs.Common.{◌≡◌, ℕ, List, codes, Bool, true, false, Option, Some, None, option_map, Result, Ok, Err}
use Rattle.std.proofs.Common.{refl, sym, ap, subst, ◌∙◌}
use Rattle.std.specs.Prelude.{cond, option_and_then, bytes_eq}
use Rattle.std.proofs.lemmas.Slice.Eq.{bytes_eq-Decides}
use Rattle.serde_json.specs.Data.{Data, Members}
use Rattle.serde_json.specs.Find.{get_member, as_str, as_object}
use Rattle.cdp_json.specs.declared.fields.Field.{Field}
use Rattle.cdp_json.specs.declared.fields.Field.TheVariants.{Is, Missing, WrongKind}
use Rattle.cdp_json.specs.Fields.{field_if, field_from, field_of}
use Rattle.cdp_json.specs.Kinds.{as_whole}
use Rattle.cdp_json.specs.Lookups.{then_ok}
use Rattle.cdp_messages.specs.declared.command.Asked.{Asked}
use Rattle.cdp_messages.specs.declared.command.Command.{Command}
use Rattle.cdp_messages.specs.declared.command.Refused.{Refused}
use Rattle.cdp_messages.specs.declared.command.Why.{Why}
use Rattle.cdp_messages.specs.declared.method.Method.{Method}
use Rattle.cdp_messages.specs.Asked.{json_of, of_method, command_for, unless_session, or_bad_request, command_of, method_in, command_in}
use Rattle.cdp_messages.specs.Asked.{asked_by, with_id, asked_in, asked_value, asked}
use Rattle.cdp_messages.specs.Methods.{known_method}
use Rattle.cdp_messages.specs.SessionFrames.{session_name}
use Rattle.session_mux.specs.declared.router.Routed.TheVariants.{Root}
use Rattle.session_mux.specs.Sessions.{Sessions}
use Rattle.session_mux.specs.Targets.{target_named}
use Rattle.session_mux.specs.Routes.{Request, if_is, params_in, request_in, Routing, left_to, by_method, by_session, routing_by, routing}
use Rattle.back_end.specs.Pairs.{Pair, root_step, routed_step, pair_step}

-- the method by which a session is attached
abbrev attach_name : List ℕ
attach_name = codes "Target.attachToTarget"

-- and the one by which it is detached
abbrev detach_name : List ℕ
detach_name = codes "Target.detachFromTarget"

-- a method that is known has a name that is known
other-name : (own : Bool) (unknown name : List ℕ) (m : Method) (b : Bool) → known_method own unknown ≡ None → bytes_eq unknown name ≡ b
    → known_method own name ≡ Some m → b ≡ false
other-name own unknown name m false none is known = refl
other-name own unknown name m true none is known =
    let no : ◌≡◌ {A = Option Method} None (Some m) =
    sym none ∙ ap (known_method own) ((bytes_eq-Decides unknown name).0 is) ∙ known in
    absurd cc

-- a value by one of two names, where neither is the one
neither : {T : Type 0} (first other : Bool) (x y : T) → first ≡ false → other ≡ false
    → cond first (Some x) (cond other (Some y) None) ≡ None
neither first other x y p q = ap (λ b. cond b (Some x) (cond other (Some y) None)) p ∙ ap (λ b. cond b (Some y) None) q

-- so it is that of none of the two
of-known : (own : Bool) (name : List ℕ) (o : Option Method) (params : Members) (c : Command) → known_method own name ≡ o
    → of_method o params ≡ Ok c → target_named name ≡ None
of-known own name None params c known is = absurd cc
of-known own name (Some m) params c known is =
    neither (bytes_eq attach_name name) (bytes_eq detach_name name) _ _ (other-name own attach_name name m _ refl refl known)
    (other-name own detach_name name m _ refl refl known)

-- what comes of a frame's fields, one after the other
of-session : (own : Bool) (s : Sessions) (id : ℕ) (method : List ℕ) (params : Members) (session : Option Data) (c : Command)
    → unless_session session (command_for own method params) ≡ Ok c
    → by_session (field_from as_str session) id method params s ≡ left_to Root s
of-session own s id method params None c is =
    ap (λ t. by_method t id params s) (of-known own method (known_method own method) params c refl is)
of-session own s id method params (Some session) c is = absurd cc

-- the request of these fields
abbrev request_with : ℕ → List ℕ → Option Data → Field Members → Option Request
request_with id method session params =
    option_map (λ ps. record { id = id; method = method; params = ps; session = field_from as_str session }) (params_in params)

of-object : (own : Bool) (s : Sessions) (id : ℕ) (method : List ℕ) (o : Option Members) (session : Option Data) (c : Command)
    → then_ok (or_bad_request o) (λ ps. unless_session session (command_for own method ps)) ≡ Ok c
    → routing_by (request_with id method session (field_if o)) s ≡ left_to Root s
of-object own s id method None session c is = absurd cc
of-object own s id method (Some params) session c is = of-session own s id method params session c is

of-params : (own : Bool) (s : Sessions) (id : ℕ) (method : List ℕ) (params session : Option Data) (c : Command)
    → command_of own method params session ≡ Ok c
    → routing_by (request_with id method session (field_from as_object params)) s ≡ left_to Root s
of-params own s id method None session c is = of-session own s id method _ session c is
of-params own s id method (Some d) session c is = of-object own s id method (as_object d) session c is

-- the request of an object with this method
abbrev request_of_method : Members → ℕ → Field (List ℕ) → Option Request
request_of_method frame id method =
    if_is method (λ name. request_with id name (get_member session_name frame) (field_of as_object (codes "params") frame))

of-named : (own : Bool) (s : Sessions) (frame : Members) (id : ℕ) (method : Field (List ℕ)) (c : Command)
    → then_ok (method_in method)
    (λ name. command_of own name (get_member (codes "params") frame) (get_member (codes "sessionId") frame)) ≡ Ok c
    → routing_by (request_of_method frame id method) s ≡ left_to Root s
of-named own s frame id Missing c is = absurd cc
of-named own s frame id WrongKind c is = absurd cc
of-named own s frame id (Is name) c is =
    of-params own s id name (get_member (codes "params") frame) (get_member session_name frame) c is

of-command : (own : Bool) (s : Sessions) (frame : Members) (id : ℕ) (r : Result Command Why) (a : Asked) → command_in own frame ≡ r
    → asked_by id r ≡ Ok a
    → routing_by (request_of_method frame id (field_of as_str (codes "method") frame)) s ≡ left_to Root s
of-command own s frame id (Ok c) a is asks = of-named own s frame id (field_of as_str (codes "method") frame) c is
of-command own s frame id (Err why) a is asks = absurd cc

of-id : (own : Bool) (s : Sessions) (frame : Members) (id : Field ℕ) (a : Asked) → with_id id (command_in own frame) ≡ Ok a
    → routing_by (if_is id (λ k. request_of_method frame k (field_of as_str (codes "method") frame))) s ≡ left_to Root s
of-id own s frame Missing a is = absurd cc
of-id own s frame WrongKind a is = absurd cc
of-id own s frame (Is id) a is = of-command own s frame id (command_in own frame) a refl is

of-members : (own : Bool) (s : Sessions) (o : Option Members) (a : Asked) → asked_in own o ≡ Ok a
    → routing_by (option_and_then request_in o) s ≡ left_to Root s
of-members own s None a is = absurd cc
of-members own s (Some frame) a is = of-id own s frame (field_of as_whole (codes "id") frame) a is

of-value : (own : Bool) (s : Sessions) (o : Option Data) (a : Asked) → asked_value own o ≡ Ok a
    → routing_by (option_and_then request_in (option_and_then as_object o)) s ≡ left_to Root s
of-value own s None a is = absurd cc
of-value own s (Some d) a is = of-members own s (as_object d) a is

-- a frame that asks anything is the root's
pub command-routes : (own : Bool) (frame : List ℕ) (s : Sessions) (a : Asked) → asked frame own ≡ Ok a → routing frame s ≡ left_to Root s
command-routes own frame s a is = of-value own s (json_of frame) a is

-- and the step on it the root's
pub root-routed : (own : Bool) (frame : List ℕ) (p : Pair) (a : Asked) → asked frame own ≡ Ok a
    → root_step (asked frame own) p ≡ pair_step own frame p
root-routed own frame p a is =
    ap (λ (r : Routing). routed_step r.routed own frame p) (sym (command-routes own frame p.sessions a is))

-- also where our own two methods are known
pub load-routed : (own : Bool) (frame : List ℕ) (p : Pair) (a : Asked) → own ≡ true → asked frame true ≡ Ok a
    → root_step (asked frame own) p ≡ pair_step own frame p
load-routed own frame p a known is = root-routed own frame p a (subst (λ (b : Bool). asked frame b ≡ Ok a) (sym known) is)

-- and it is that on what it asks
pub command-step : (own : Bool) (frame : List ℕ) (p : Pair) (a : Asked) → asked frame own ≡ Ok a
    → root_step (Ok a) p ≡ pair_step own frame p
command-step own frame p a is = ap (λ (r : Result Asked Refused). root_step r p) (sym is) ∙ root-routed own frame p a is
