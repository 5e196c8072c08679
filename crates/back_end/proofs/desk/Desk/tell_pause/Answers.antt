-- A pause by each kind of watch is told.
use Rattle.node_tree.specs.declared.watches.WatchKind.TheVariants.{Subtree, Attribute, Removed}
use Rattle.back_end.proofs.SeatLemmas.{on_ok}
use Rattle.back_end.proofs.PauseSeats.{watched-can, attribute-is, removal-is, subtree-is, told-stands, told-sent}
use Rattle.back_end.proofs.desk.Desk.tell_pause.Goals as goal

pub returns-in-Attribute-default-clause-stands : goal.returns-in-Attribute-default-clause-stands
returns-in-Attribute-default-clause-stands c = λ state stands is.
    let p = attribute-is c.args.pause c.in-Attribute-default.is-0 is in
    on_ok c.tell_attribute.result _ _
    (c.tell_attribute.ensures.stands state stands (watched-can state Attribute c.args.pause.node stands.now p.1))
    (told-stands c.tell_attribute.new.self c.args.side.now state c.args.pause _ p.0)

pub returns-in-Attribute-default-clause-sent : goal.returns-in-Attribute-default-clause-sent
returns-in-Attribute-default-clause-sent c = λ state stands is.
    let p = attribute-is c.args.pause c.in-Attribute-default.is-0 is in
    on_ok c.tell_attribute.result _ _
    (c.tell_attribute.ensures.sent state stands (watched-can state Attribute c.args.pause.node stands.now p.1))
    (told-sent state c.args.pause _ c.args.out.now.items c.tell_attribute.new.out.items p.0)

pub returns-in-Removed-default-clause-stands : goal.returns-in-Removed-default-clause-stands
returns-in-Removed-default-clause-stands c = λ state stands is.
    let p = removal-is c.args.pause c.in-Removed-default.is-0 is in
    on_ok c.tell_removal.result _ _
    (c.tell_removal.ensures.stands state stands (watched-can state Removed c.args.pause.node stands.now p.1))
    (told-stands c.tell_removal.new.self c.args.side.now state c.args.pause _ p.0)

pub returns-in-Removed-default-clause-sent : goal.returns-in-Removed-default-clause-sent
returns-in-Removed-default-clause-sent c = λ state stands is.
    let p = removal-is c.args.pause c.in-Removed-default.is-0 is in
    on_ok c.tell_removal.result _ _ (c.tell_removal.ensures.sent state stands (watched-can state Removed c.args.pause.node stands.now p.1))
    (told-sent state c.args.pause _ c.args.out.now.items c.tell_removal.new.out.items p.0)

pub returns-in-Subtree-Some-clause-stands : goal.returns-in-Subtree-Some-clause-stands
returns-in-Subtree-Some-clause-stands c = λ state stands is.
    let p = subtree-is c.args.pause c.in-Subtree-Some.target c.in-Subtree-Some.is-1 is in
    let can = watched-can state Subtree c.args.pause.node stands.now p.1 in
    on_ok c.tell_subtree.result _ _ (c.tell_subtree.ensures.stands state stands can)
    (told-stands c.tell_subtree.new.self c.args.side.now state c.args.pause _ p.0)

pub returns-in-Subtree-Some-clause-sent : goal.returns-in-Subtree-Some-clause-sent
returns-in-Subtree-Some-clause-sent c = λ state stands is.
    let p = subtree-is c.args.pause c.in-Subtree-Some.target c.in-Subtree-Some.is-1 is in
    let can = watched-can state Subtree c.args.pause.node stands.now p.1 in
    on_ok c.tell_subtree.result _ _ (c.tell_subtree.ensures.sent state stands can)
    (told-sent state c.args.pause _ c.args.out.now.items c.tell_subtree.new.out.items p.0)
