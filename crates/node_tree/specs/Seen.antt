-- A node as it is shown to a client.
use Rattle.std.specs.Prelude.{◌≡◌, ℕ, Bool, true, false, Option, Some, None, refl}
use Rattle.std.specs.Coded.{Coded, code_by, coded×, coded_option, coded_ℕ}
use Rattle.node_tree.specs.Labels.{Label, coded_label}

-- What is shown below a node: it can hold nothing; its number of children; the children themselves.
pub data Hold : Type 0 where
  leaf : Hold
  counted : ℕ → Hold
  opened : Hold

-- a node's row: its id in the session, its serial in the page, what it is, and what is shown below it
pub record Seen : Type 0 where
  pub id : ℕ
  pub serial : ℕ
  pub label : Label
  pub hold : Hold

-- a node's children are shown
abbrev pub is_opened : Hold → Bool
is_opened leaf = false
is_opened (counted n) = false
is_opened opened = true

-- only the number of its children is shown
abbrev pub shows_count : Hold → Bool
shows_count leaf = false
shows_count (counted n) = true
shows_count opened = false

-- the keys by which a shown node is found
abbrev pub seen_id : Seen → ℕ
seen_id r = r.id

-- a shown node's serial
abbrev pub seen_serial : Seen → ℕ
seen_serial r = r.serial

-- ---- codes

-- a hold as code writes it: None for a leaf, Some (Some n) for n children that are not shown, Some None for children that are
abbrev pub hold_code : Hold → Option (Option ℕ)
hold_code leaf = None
hold_code (counted n) = Some (Some n)
hold_code opened = Some None

-- a hold read back from how code writes it
abbrev pub code_hold : Option (Option ℕ) → Hold
code_hold None = leaf
code_hold (Some None) = opened
code_hold (Some (Some n)) = counted n

-- what code writes of what is shown below a node is read back as the same
pub code_hold-hold_code : (h : Hold) → code_hold (hold_code h) ≡ h
code_hold-hold_code leaf = refl
code_hold-hold_code (counted n) = refl
code_hold-hold_code opened = refl

-- what is shown below a node, as code writes it
abbrev pub coded_hold : Coded Hold
coded_hold = code_by (Option (Option ℕ)) (coded_option (coded_option coded_ℕ)) hold_code code_hold code_hold-hold_code

-- a shown row by its parts
abbrev pub coded_seen : Coded Seen
coded_seen =
    code_by ((ℕ × ℕ) × (Label × Hold)) (coded× (coded× coded_ℕ coded_ℕ) (coded× coded_label coded_hold))
    (λ r. ((r.id, r.serial), (r.label, r.hold)))
    (λ p. record { id = p.0.0; serial = p.0.1; label = p.1.0; hold = p.1.1 })
    (λ _. refl)
