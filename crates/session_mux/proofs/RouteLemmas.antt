-- Whose a frame is, by cases on what it says.
use Rattle.std.proofs.Common.{◌≡◌, ℕ, ◌≤◌, List, [], ◌∷◌, Bool, true, false, bytes_eq, true≢false, Option, Some, None, inl, inr, refl}
use Rattle.std.proofs.Common.{sym, ◌∙◌, ap, subst, arith}
use Rattle.std.specs.Prelude.{◌≢◌, ◌⊎◌}
use Rattle.std.specs.Cmp.Lexicographic.{nat_list_eq_equiv}
use Rattle.std.proofs.lemmas.Slice.Eq.{bytes_eq-Decides}
use Rattle.serde_json.specs.Data.{Members}
use Rattle.cdp_json.specs.declared.fields.Field.{Field}
use Rattle.cdp_json.specs.declared.fields.Field.TheVariants.{Is, Missing, WrongKind}
use Rattle.cdp_messages.specs.declared.command.Why.{Why}
use Rattle.cdp_messages.specs.declared.command.Why.TheVariants.{NoSession}
use Rattle.cdp_messages.specs.Asked.{refusal}
use Rattle.cdp_messages.specs.Replies.{Message, reply, refusal_message}
use Rattle.session_mux.specs.declared.router.Routed.{Routed}
use Rattle.session_mux.specs.declared.router.Routed.TheVariants.{Root, Attached, Answered}
use Rattle.session_mux.specs.declared.targets.Target.{Target}
use Rattle.session_mux.specs.declared.targets.Target.TheVariants.{Attach, Detach}
use Rattle.session_mux.specs.Sessions.{Sessions, session_text, is_attached, one_attached, none_attached}
use Rattle.session_mux.specs.Targets.{target_named, target_refusal, target_result}
use Rattle.session_mux.specs.Routes.{Request, request_of, Routing, left_to, answered, by_refusal, by_method, by_name}
use Rattle.session_mux.specs.Routes.{by_session, routing_by, routing}
use Rattle.session_mux.specs.Laws.{IsOfAttached, IsOfNone, IsOfTarget, AttachedByName, AnsweredAtOnce, OneAnswer, OthersLeft}
use Rattle.session_mux.specs.Laws.{AreInOrder, NumbersGoOn}

-- ---- names

-- a text that is the attached session's is made of its number
its-text : (attached : Option ℕ) (text : List ℕ) → is_attached attached text ≡ true
    → (n : ℕ) × (attached ≡ Some n) × (text ≡ session_text n)
its-text None text e = absurd (true≢false (sym e))
its-text (Some n) text e = (n, refl, sym ((bytes_eq-Decides (session_text n) text).0 e))

-- its text is found to be that
text-its : (attached : Option ℕ) (text : List ℕ) (n : ℕ) → attached ≡ Some n → text ≡ session_text n → is_attached attached text ≡ true
text-its attached text n is same =
    ap (λ a. is_attached a text) is ∙ ap (λ x. bytes_eq (session_text n) x) same ∙ nat_list_eq_equiv.refl (session_text n)

-- a text that is made of no attached number is not
not-its : (attached : Option ℕ) (text : List ℕ) (b : Bool) → is_attached attached text ≡ b
    → ((n : ℕ) → attached ≡ Some n → text ≢ session_text n) → is_attached attached text ≡ false
not-its attached text true e other = let p = its-text attached text e in absurd (other p.0 p.1 p.2)
not-its attached text false e other = e

-- a field with one text has no other
same-text : (x y : List ℕ) → Is x ≡ Is y → x ≡ y
same-text x y e = cc

-- ---- the attached session's frames

attached-method : (target : Option Target) (id : ℕ) (params : Members) (s : Sessions) → (by_method target id params s).routed ≢ Attached
attached-method None id params s = λ (e : Root ≡ Attached). absurd cc
attached-method (Some target) id params s = at (target_refusal target params s.attached) where
  at : (why : Option Why) → (by_refusal why id target s).routed ≢ Attached
  at None = λ (e : Answered ≡ Attached). absurd cc
  at (Some why) = λ (e : Answered ≡ Attached). absurd cc

attached-name : (bytes : List ℕ) (s : Sessions) (r : Request) → request_of bytes ≡ Some r → (text : List ℕ) → r.session ≡ Is text
    → (b : Bool) → is_attached s.attached text ≡ b → (by_name b r.id s).routed ≡ Attached → IsOfAttached bytes s
attached-name bytes s r is text names true its e =
    let p = its-text s.attached text its in
    record { request = r; number = p.0; is = is; attached = p.1; names = names ∙ ap (λ (x : List ℕ). Is x) p.2 }
attached-name bytes s r is text names false its e = absurd cc

attached-request : (bytes : List ℕ) (s : Sessions) (r : Request) → request_of bytes ≡ Some r → (session : Field (List ℕ))
    → r.session ≡ session → (by_session session r.id r.method r.params s).routed ≡ Attached → IsOfAttached bytes s
attached-request bytes s r is Missing names e = absurd (attached-method (target_named r.method) r.id r.params s e)
attached-request bytes s r is WrongKind names e = absurd cc
attached-request bytes s r is (Is text) names e = attached-name bytes s r is text names (is_attached s.attached text) refl e

attached-frame : (bytes : List ℕ) (s : Sessions) (o : Option Request) → request_of bytes ≡ o → (routing_by o s).routed ≡ Attached
    → IsOfAttached bytes s
attached-frame bytes s None is e = absurd cc
attached-frame bytes s (Some r) is e = attached-request bytes s r is r.session refl e

-- the step on a request, by the session that it names
step-of : (bytes : List ℕ) (s : Sessions) (r : Request) (session : Field (List ℕ)) → request_of bytes ≡ Some r → r.session ≡ session
    → routing bytes s ≡ by_session session r.id r.method r.params s
step-of bytes s r session is names =
    ap (λ o. routing_by o s) is ∙ ap (λ o. by_session o r.id r.method r.params s) names

frame-attached : (bytes : List ℕ) (s : Sessions) → IsOfAttached bytes s → (routing bytes s).routed ≡ Attached
frame-attached bytes s f =
    let text = session_text f.number in
    ap (λ x. x.routed) (step-of bytes s f.request (Is text) f.is f.names)
    ∙ ap (λ b. (by_name b f.request.id s).routed) (text-its s.attached text f.number f.attached refl)

pub attached-by-name : AttachedByName
attached-by-name bytes s = (attached-frame bytes s (request_of bytes) refl, frame-attached bytes s)

-- ---- frames that are answered at once

answered-refusal : (why : Option Why) (id : ℕ) (target : Target) (s : Sessions) → (by_refusal why id target s).routed ≡ Answered
answered-refusal None id target s = refl
answered-refusal (Some why) id target s = refl

answered-method : (bytes : List ℕ) (s : Sessions) (r : Request) → request_of bytes ≡ Some r → r.session ≡ Missing
    → (target : Option Target) → target_named r.method ≡ target → (by_method target r.id r.params s).routed ≡ Answered → IsOfTarget bytes
answered-method bytes s r is names None method e = absurd cc
answered-method bytes s r is names (Some target) method e =
    record { request = r; target = target; is = is; names = names; method = method }

answered-name : (bytes : List ℕ) (s : Sessions) (r : Request) → request_of bytes ≡ Some r → (text : List ℕ) → r.session ≡ Is text
    → (b : Bool) → is_attached s.attached text ≡ b → (by_name b r.id s).routed ≡ Answered → IsOfNone bytes s
answered-name bytes s r is text names true its e = absurd cc
answered-name bytes s r is text names false its e = record {
  request = r;
  is = is;
  names = λ none. let no : Is text ≡ Missing = sym names ∙ none in absurd cc;
  other = λ n attached same.
      true≢false (sym (text-its s.attached text n attached (same-text text (session_text n) (sym names ∙ same))) ∙ its);
}

answered-request : (bytes : List ℕ) (s : Sessions) (r : Request) → request_of bytes ≡ Some r → (session : Field (List ℕ))
    → r.session ≡ session → (by_session session r.id r.method r.params s).routed ≡ Answered → IsOfNone bytes s ⊎ IsOfTarget bytes
answered-request bytes s r is Missing names e = inr (answered-method bytes s r is names (target_named r.method) refl e)
answered-request bytes s r is WrongKind names e = inl (record {
  request = r;
  is = is;
  names = λ none. let no : ◌≡◌ {A = Field (List ℕ)} WrongKind Missing = sym names ∙ none in absurd cc;
  other = λ n attached same. let no : WrongKind ≡ Is (session_text n) = sym names ∙ same in absurd cc;
})
answered-request bytes s r is (Is text) names e =
    inl (answered-name bytes s r is text names (is_attached s.attached text) refl e)

answered-frame : (bytes : List ℕ) (s : Sessions) (o : Option Request) → request_of bytes ≡ o → (routing_by o s).routed ≡ Answered
    → IsOfNone bytes s ⊎ IsOfTarget bytes
answered-frame bytes s None is e = absurd cc
answered-frame bytes s (Some r) is e = answered-request bytes s r is r.session refl e

none-by : (bytes : List ℕ) (s : Sessions) (f : IsOfNone bytes s) (session : Field (List ℕ)) → f.request.session ≡ session
    → (by_session session f.request.id f.request.method f.request.params s).routed ≡ Answered
none-by bytes s f Missing names = absurd (f.names names)
none-by bytes s f WrongKind names = refl
none-by bytes s f (Is text) names =
    ap (λ b. (by_name b f.request.id s).routed)
    (not-its s.attached text (is_attached s.attached text) refl
    (λ n attached same. f.other n attached (names ∙ ap (λ (x : List ℕ). Is x) same)))

none-answered : (bytes : List ℕ) (s : Sessions) → IsOfNone bytes s → (routing bytes s).routed ≡ Answered
none-answered bytes s f =
    ap (λ x. x.routed) (step-of bytes s f.request f.request.session f.is refl) ∙ none-by bytes s f f.request.session refl

target-answered : (bytes : List ℕ) (s : Sessions) → IsOfTarget bytes → (routing bytes s).routed ≡ Answered
target-answered bytes s f =
    ap (λ x. x.routed) (step-of bytes s f.request Missing f.is f.names)
    ∙ ap (λ o. (by_method o f.request.id f.request.params s).routed) f.method
    ∙ answered-refusal (target_refusal f.target f.request.params s.attached) f.request.id f.target s

frame-answered : (bytes : List ℕ) (s : Sessions) → IsOfNone bytes s ⊎ IsOfTarget bytes → (routing bytes s).routed ≡ Answered
frame-answered bytes s (inl f) = none-answered bytes s f
frame-answered bytes s (inr f) = target-answered bytes s f

pub answered-at-once : AnsweredAtOnce
answered-at-once bytes s = (answered-frame bytes s (request_of bytes) refl, frame-answered bytes s)

-- ---- what a step says and changes

-- one message, or nothing at all
abbrev OneOrNone : Sessions → Routing → Type 0
OneOrNone s x = ((m : Message) × (x ≡ answered m x.sessions)) ⊎ ((w : Routed) × (w ≢ Answered) × (x ≡ left_to w s))

-- the sessions stay, or the next is attached, or none any more
abbrev Goes : Sessions → Sessions → Type 0
Goes s after = (after ≡ s) ⊎ ((after ≡ one_attached s) ⊎ (after ≡ none_attached s))

said-by : (s : Sessions) (o : Option Request) → OneOrNone s (routing_by o s)
said-by s None = inr (Root, (λ (e : Root ≡ Answered). absurd cc), refl)
said-by s (Some r) = by r.session where
  refused-or : (why : Option Why) (target : Target) → OneOrNone s (by_refusal why r.id target s)
  refused-or None target = inl (reply r.id (target_result target s), refl)
  refused-or (Some why) target = inl (refusal_message (refusal (Some r.id) why), refl)

  method : (target : Option Target) → OneOrNone s (by_method target r.id r.params s)
  method None = inr (Root, (λ (e : Root ≡ Answered). absurd cc), refl)
  method (Some target) = refused-or (target_refusal target r.params s.attached) target

  name : (b : Bool) → OneOrNone s (by_name b r.id s)
  name true = inr (Attached, (λ (e : Attached ≡ Answered). absurd cc), refl)
  name false = inl (refusal_message (refusal (Some r.id) NoSession), refl)

  by : (session : Field (List ℕ)) → OneOrNone s (by_session session r.id r.method r.params s)
  by Missing = method (target_named r.method)
  by WrongKind = inl (refusal_message (refusal (Some r.id) NoSession), refl)
  by (Is text) = name (is_attached s.attached text)

said-one : (s : Sessions) (x : Routing) → OneOrNone s x → x.routed ≡ Answered → (m : Message) × (x.said ≡ m ∷ [])
said-one s x (inl p) e = (p.0, ap (λ y. y.said) p.1)
said-one s x (inr p) e = absurd (p.1 (sym (ap (λ y. y.routed) p.2) ∙ e))

said-none : (s : Sessions) (x : Routing) → OneOrNone s x → x.routed ≢ Answered → (x.said ≡ []) × (x.sessions ≡ s)
said-none s x (inl p) other = absurd (other (ap (λ y. y.routed) p.1))
said-none s x (inr p) other = (ap (λ y. y.said) p.2, ap (λ y. y.sessions) p.2)

pub one-answer : OneAnswer
one-answer bytes s = said-one s (routing bytes s) (said-by s (request_of bytes))

pub others-left : OthersLeft
others-left bytes s = said-none s (routing bytes s) (said-by s (request_of bytes))

goes-by : (s : Sessions) (o : Option Request) → Goes s (routing_by o s).sessions
goes-by s None = inl refl
goes-by s (Some r) = by r.session where
  refused-or : (why : Option Why) (target : Target) → Goes s (by_refusal why r.id target s).sessions
  refused-or None Attach = inr (inl refl)
  refused-or None Detach = inr (inr refl)
  refused-or (Some why) target = inl refl

  method : (target : Option Target) → Goes s (by_method target r.id r.params s).sessions
  method None = inl refl
  method (Some target) = refused-or (target_refusal target r.params s.attached) target

  name : (b : Bool) → Goes s (by_name b r.id s).sessions
  name true = inl refl
  name false = inl refl

  by : (session : Field (List ℕ)) → Goes s (by_session session r.id r.method r.params s).sessions
  by Missing = method (target_named r.method)
  by WrongKind = inl refl
  by (Is text) = name (is_attached s.attached text)

-- what holds of the numbers after a step
abbrev GoOn : Sessions → Sessions → Type 0
GoOn s after =
    AreInOrder after × (s.next ≤ after.next) × ((n : ℕ) → after.attached ≡ Some n → (s.attached ≡ Some n) ⊎ (s.next ≤ n))

the-next : (m n : ℕ) → Some m ≡ Some n → m ≤ n
the-next m n e = let same : m ≡ n = cc in omega (arith, same)

go-on : (s after : Sessions) → AreInOrder s → Goes s after → GoOn s after
go-on s after order (inl e) = subst (λ x. GoOn s x) (sym e) (order, omega arith, λ n is. inl is)
go-on s after order (inr (inl e)) =
    subst (λ x. GoOn s x) (sym e) (omega arith, omega arith, λ n is. inr (the-next s.next n is))
go-on s after order (inr (inr e)) = subst (λ x. GoOn s x) (sym e) (tt, omega arith, λ n (is : None ≡ Some n). absurd cc)

pub numbers-go-on : NumbersGoOn
numbers-go-on bytes s order = go-on s (routing bytes s).sessions order (goes-by s (request_of bytes))
