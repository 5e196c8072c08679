-- How the values of a front are coded, so that a model can have them.
use Rattle.std.specs.Prelude.{ℕ, Bool, List, Option, refl}
use Rattle.std.specs.Coded.{Coded, code_by, coded×, coded_list, coded_option, coded_bool, coded_ℕ}
use Rattle.node_tree.specs.Nodes.{Nodes, coded_nodes}
use Rattle.node_tree.specs.Seen.{Seen, coded_seen}
use Rattle.front_mirror.specs.contracts.faults.FrontKind as kind
use Rattle.front_mirror.specs.contracts.panels.PanelKind as panel
use Rattle.front_mirror.specs.declared.panels.PanelKind.{PanelKind}
use Rattle.node_tree.specs.declared.origins.Origin.{Origin}
use Rattle.node_tree.specs.contracts.origins.Origin as origin
use Rattle.css_objects.specs.declared.rules.Matched.{Matched}
use Rattle.css_objects.specs.contracts.rules.Matched as matched
use Rattle.front_mirror.specs.declared.sheets.KnownSheet.{KnownSheet}
use Rattle.front_mirror.specs.declared.replies.Ask.{Ask}
use Rattle.front_mirror.specs.declared.replies.Kept.{Kept}
use Rattle.front_mirror.specs.declared.replies.MatchedReply.{MatchedReply}
use Rattle.front_mirror.specs.declared.pauses.SeenPause.{SeenPause}
use Rattle.node_tree.specs.declared.watches.WatchKind.{WatchKind}
use Rattle.node_tree.specs.contracts.watches.WatchKind as watch
use Rattle.front_mirror.specs.declared.faults.FrontKind.{FrontKind}
use Rattle.front_mirror.specs.declared.faults.FrontFault.{FrontFault}
use Rattle.front_mirror.specs.Front.{FrontValue, FrontState}

-- an ask by its parts
abbrev pub coded_ask : Coded Ask
coded_ask =
    code_by (ℕ × (List ℕ × Option ℕ)) (coded× coded_ℕ (coded× (coded_list coded_ℕ) (coded_option coded_ℕ)))
    (λ a. (a.id, (a.method, a.sheet)))
    (λ p. record { id = p.0; method = p.1.0; sheet = p.1.1 }) (λ _. refl)

-- a kept reply by its parts
abbrev pub coded_kept : Coded Kept
coded_kept =
    code_by ((Option ℕ × Option (List ℕ)) × (List ℕ × Bool))
    (coded× (coded× (coded_option coded_ℕ) (coded_option (coded_list coded_ℕ))) (coded× (coded_list coded_ℕ) coded_bool))
    (λ k. ((k.id, k.method), (k.text, k.good)))
    (λ p. record { id = p.0.0; method = p.0.1; text = p.1.0; good = p.1.1 })
    (λ _. refl)

-- a sheet by its parts
abbrev pub coded_sheet : Coded KnownSheet
coded_sheet =
    code_by ((ℕ × Origin) × (Option (List ℕ) × Bool))
    (coded× (coded× coded_ℕ origin.the_row.coded) (coded× (coded_option (coded_list coded_ℕ)) coded_bool))
    (λ s. ((s.number, s.origin), (s.text, s.stale)))
    (λ p. record { number = p.0.0; origin = p.0.1; text = p.1.0; stale = p.1.1 })
    (λ _. refl)

-- a pause by its parts
abbrev pub coded_pause : Coded SeenPause
coded_pause =
    code_by ((WatchKind × ℕ) × (Option ℕ × Bool)) (coded× (coded× watch.the_row.coded coded_ℕ) (coded× (coded_option coded_ℕ) coded_bool))
    (λ p. ((p.kind, p.node), (p.target, p.insertion)))
    (λ p. record { kind = p.0.0; node = p.0.1; target = p.1.0; insertion = p.1.1 })
    (λ _. refl)

-- a reply that told matched styles by its ask and the styles
abbrev pub coded_matched : Coded MatchedReply
coded_matched =
    code_by (ℕ × Matched) (coded× coded_ℕ matched.the_row.coded) (λ r. (r.ask, r.matched)) (λ p. record { ask = p.0; matched = p.1 })
    (λ _. refl)

-- a fault by its place and kind
abbrev pub coded_fault : Coded FrontFault
coded_fault = code_by (ℕ × FrontKind) (coded× coded_ℕ kind.the_row.coded) (λ f. (f.place, f.kind))
    (λ p. record { place = p.0; kind = p.1 }) (λ _. refl)

-- what a front shows, by its parts
abbrev pub coded_value : Coded FrontValue
coded_value =
    code_by ((Nodes Seen × (List KnownSheet × List Ask)) × ((List Kept × List SeenPause) × (List MatchedReply × ℕ)))
    (coded×
    (coded× (coded_nodes coded_seen) (coded× (coded_list coded_sheet) (coded_list coded_ask)))
    (coded× (coded× (coded_list coded_kept) (coded_list coded_pause)) (coded× (coded_list coded_matched) coded_ℕ)))
    (λ v. ((v.tree, (v.sheets, v.asks)), ((v.replies, v.pauses), (v.matched, v.taken))))
    (λ p. record {
      tree = p.0.0;
      sheets = p.0.1.0;
      asks = p.0.1.1;
      replies = p.1.0.0;
      pauses = p.1.0.1;
      matched = p.1.1.0;
      taken = p.1.1.1;
    })
    (λ _. refl)

-- a front by its parts
abbrev pub coded_front : Coded FrontState
coded_front =
    code_by ((FrontValue × (List ℕ × List (Option PanelKind))) × (Option FrontFault × (ℕ × (ℕ × Bool))))
    (coded× (coded× coded_value (coded× (coded_list coded_ℕ) (coded_list (coded_option panel.the_row.coded))))
    (coded× (coded_option coded_fault) (coded× coded_ℕ (coded× coded_ℕ coded_bool))))
    (λ s. ((s.value, (s.rest, s.panels)), (s.fault, (s.next, (s.fetches, s.dead)))))
    (λ p. record {
      value = p.0.0;
      rest = p.0.1.0;
      fault = p.1.0;
      next = p.1.1.0;
      fetches = p.1.1.1.0;
      dead = p.1.1.1.1;
      panels = p.0.1.1;
    })
    (λ _. refl)
