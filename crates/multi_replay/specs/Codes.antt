-- How the values of two fronts are coded, so that a model can have them.
use Rattle.std.specs.Prelude.{ℕ, Bool, true, false, List, Option, refl, ◌≡◌}
use Rattle.std.specs.Coded.{Coded, code_by, coded×, coded_list, coded_option, coded_bool, coded_ℕ}
use Rattle.front_mirror.specs.declared.replies.Ask.{Ask}
use Rattle.front_mirror.specs.declared.faults.FrontFault.{FrontFault}
use Rattle.front_mirror.specs.Front.{FrontState}
use Rattle.front_mirror.specs.Codes.{coded_ask, coded_fault, coded_front}
use Rattle.session_runs.specs.Pairs.{TargetKind, attach, detach, WaitingTarget, SessionAsks, Second, front_pair}
use Rattle.multi_replay.specs.States.{StatePair, FrontsState}

-- whether a command is an attach
abbrev pub is_attach : TargetKind → Bool
is_attach attach = true
is_attach detach = false

-- the command that is an attach, or is none
abbrev pub kind_by : Bool → TargetKind
kind_by true = attach
kind_by false = detach

-- a command is the one of its kind
pub kind_is : (kind : TargetKind) → kind_by (is_attach kind) ≡ kind
kind_is attach = refl
kind_is detach = refl

-- a kind by whether it is an attach
abbrev pub coded_kind : Coded TargetKind
coded_kind = code_by Bool coded_bool is_attach kind_by kind_is

-- a command that waits by its parts
abbrev pub coded_waiting : Coded WaitingTarget
coded_waiting =
    code_by (ℕ × TargetKind) (coded× coded_ℕ coded_kind) (λ w. (w.id, w.kind)) (λ p. record { id = p.0; kind = p.1 }) (λ _. refl)

-- asks of a session by their parts
abbrev pub coded_asks : Coded (SessionAsks Ask (List ℕ))
coded_asks =
    code_by (List ℕ × List Ask) (coded× (coded_list coded_ℕ) (coded_list coded_ask)) (λ a. (a.text, a.asks))
    (λ p. record { text = p.0; asks = p.1 }) (λ _. refl)

-- the second front by its parts
abbrev pub coded_second : Coded (Second FrontState (List ℕ))
coded_second =
    code_by (List ℕ × FrontState) (coded× (coded_list coded_ℕ) coded_front) (λ w. (w.text, w.value))
    (λ p. record { text = p.0; value = p.1 }) (λ _. refl)

-- two fronts by their parts
abbrev pub coded_pair : Coded StatePair
coded_pair =
    code_by ((FrontState × Option (Second FrontState (List ℕ))) × (List WaitingTarget × (List (SessionAsks Ask (List ℕ)) × ℕ)))
    (coded× (coded× coded_front (coded_option coded_second)) (coded× (coded_list coded_waiting) (coded× (coded_list coded_asks) coded_ℕ)))
    (λ p. ((p.one, p.two), (p.waiting, (p.asked, p.top))))
    (λ p. front_pair p.0.0 p.0.1 p.1.0 p.1.1.0 p.1.1.1) (λ _. refl)

-- two fronts that run by their parts
abbrev pub coded_fronts : Coded FrontsState
coded_fronts =
    code_by ((StatePair × ℕ) × ((List ℕ × Option FrontFault) × (ℕ × Bool)))
    (coded× (coded× coded_pair coded_ℕ) (coded× (coded× (coded_list coded_ℕ) (coded_option coded_fault)) (coded× coded_ℕ coded_bool)))
    (λ s. ((s.pair, s.taken), ((s.rest, s.fault), (s.next, s.dead))))
    (λ p. record {
      pair = p.0.0;
      taken = p.0.1;
      rest = p.1.0.0;
      fault = p.1.0.1;
      next = p.1.1.0;
      dead = p.1.1.1;
    })
    (λ _. refl)
