-- The two methods by which the root attaches a session and detaches it: their parameters, and what each comes to.
use Rattle.std.specs.Prelude.{ℕ, List, [], ◌∷◌, codes, cond, Option, Some, None, Result, Ok, Err, ⊤, bytes_eq}
use Rattle.serde_json.specs.Data.{Data, object, Members, no_members}
use Rattle.cdp_json.specs.Kinds.{Kind, text, only_true, named}
use Rattle.cdp_json.specs.Lookups.{Lookups, no_lookups}
use Rattle.cdp_json.specs.Rows.{ends, and_need, object_of}
use Rattle.cdp_messages.specs.declared.command.Param.TheVariants as param
use Rattle.cdp_messages.specs.declared.command.Why.{Why}
use Rattle.cdp_messages.specs.declared.command.Why.TheVariants.{NoTarget, SessionTaken, NoTargetSession}
use Rattle.cdp_messages.specs.Parameters.{needed}
use Rattle.cdp_messages.specs.SessionFrames.{session_name}
use Rattle.session_mux.specs.declared.targets.Target.{Target}
use Rattle.session_mux.specs.declared.targets.Target.TheVariants.{Attach, Detach}
use Rattle.session_mux.specs.Sessions.{Sessions, one_attached, none_attached, session_text, is_attached}

-- a method's name
abbrev pub target_name : Target → List ℕ
target_name Attach = codes "Target.attachToTarget"
target_name Detach = codes "Target.detachFromTarget"

-- each method once
abbrev pub all_targets : List Target
all_targets = Attach ∷ Detach ∷ []

-- the method of that name
abbrev pub target_named : List ℕ → Option Target
target_named = named target_name all_targets

-- of `Target.attachToTarget`: the target, and a flag that has to be true
abbrev pub attach_fields : Lookups Why (List ℕ × (⊤ × ⊤))
attach_fields = needed param.TargetId text (needed param.Flatten only_true no_lookups)

-- of `Target.detachFromTarget`: the session
abbrev pub detach_fields : Lookups Why (List ℕ × ⊤)
detach_fields = needed param.SessionId text no_lookups

-- the one target
abbrev pub page_target : List ℕ
page_target = codes "page"

-- the result of `Target.attachToTarget`: the session's text
abbrev pub attached_kind : Kind (List ℕ × ⊤)
attached_kind = object_of (and_need session_name text ends)

-- the result by which the session of that number is attached
abbrev pub attached_result : ℕ → Data
attached_result n = attached_kind.spell (session_text n, tt)

-- ---- refusals, in their order

-- the refusal of the parameters, or else that of what they say
abbrev pub or_refusal : {A : Type 0} → Result A Why → (A → Option Why) → Option Why
or_refusal (Ok x) f = f x
or_refusal (Err why) f = Some why

-- at most one session is attached
abbrev pub unless_taken : Option ℕ → Option Why
unless_taken None = None
unless_taken (Some n) = Some SessionTaken

-- why a session is not attached, if it is not, where that one is attached
abbrev pub attach_refusal : Members → Option ℕ → Option Why
attach_refusal params attached =
    or_refusal (attach_fields.gets params) (λ p. cond (bytes_eq p.0 page_target) (unless_taken attached) (Some NoTarget))

-- why the session with the given text is not detached, if it is not
abbrev pub detach_refusal : Members → Option ℕ → Option Why
detach_refusal params attached =
    or_refusal (detach_fields.gets params) (λ p. cond (is_attached attached p.0) None (Some NoTargetSession))

-- why a method with these parameters is not carried out, if it is not
abbrev pub target_refusal : Target → Members → Option ℕ → Option Why
target_refusal Attach params attached = attach_refusal params attached
target_refusal Detach params attached = detach_refusal params attached

-- ---- what is done where nothing is refused

-- the result: of an attach the session's text, of a detach the empty object
abbrev pub target_result : Target → Sessions → Data
target_result Attach s = attached_result s.next
target_result Detach s = object no_members

-- the sessions afterwards
abbrev pub target_after : Target → Sessions → Sessions
target_after Attach s = one_attached s
target_after Detach s = none_attached s
