-- Edits that are kept for a history are kept for it after each change.
use Rattle.std.proofs.Common.{◌≡◌, ◌+◌, ◌==◌, Bool, true, false, not, ◌&&◌, ◌||◌, cond, List, [], ◌∷◌, length, map, reverse, Some, None}
use Rattle.std.proofs.Common.{refl, sym, ap, ◌∙◌, subst, append_assoc, arith}
use Rattle.std.proofs.lemmas.List.{length-map, length-reverse, map-append, reverse-reverse}
use Rattle.undo_marks.specs.Marks.{Marks, entry_count, onto_newest, handed_out, noted, noted_singly, edited, marked, crossed_over}
use Rattle.undo_marks.specs.Changes.{HistoryEntry, end_of, after_all, change_on, changes_on, back_all, AllTaken, LeadsOn, LeadHere}
use Rattle.undo_marks.specs.Changes.{LeadFrom, IsHistory, backs_of, again_of, kept_of, KeptFor, AreBacks, IsUndo, IsRedo, IsNoUndo}
use Rattle.undo_marks.specs.Changes.{IsNoRedo, StaysKept, KeepsOn}
use Rattle.undo_marks.proofs.RunLemmas.{undo_group, redo_group, leads_append, leads_end}

-- ---- notes

module _ {A : Type 0} where
  onto_newest-twice : (going : Bool) (past : List (List A)) (x y : A) (ys : List A)
      → onto_newest (y ∷ ys) (cond going (onto_newest (x ∷ []) past) ((x ∷ []) ∷ past))
      ≡ cond going (onto_newest (x ∷ y ∷ ys) past) ((x ∷ y ∷ ys) ∷ past)
  onto_newest-twice false past x y ys = refl
  onto_newest-twice true [] x y ys = refl
  onto_newest-twice true (g ∷ gs) x y ys = ap (λ l. l ∷ gs) (append_assoc g (x ∷ []) (y ∷ ys))

  edited-noted : (xs : List A) (x : A) (m : Marks A) → edited xs (noted x m) ≡ edited (x ∷ xs) m
  edited-noted [] x m = refl
  edited-noted (y ∷ ys) x m = λ i. record { past = onto_newest-twice m.going m.past x y ys i; future = []; going = true; crossed = false }

  -- entries noted singly are one edit with these entries
  pub noted_singly-edited : (xs : List A) (m : Marks A) → noted_singly xs m ≡ edited xs m
  noted_singly-edited [] m = refl
  noted_singly-edited (x ∷ xs) m = noted_singly-edited xs (noted x m) ∙ edited-noted xs x m

  entry_count-map : {B : Type 0} (f : List A → List B) → ((g : List A) → length (f g) ≡ length g) → (gs : List (List A))
      → entry_count (map f gs) ≡ entry_count gs
  entry_count-map f same [] = refl
  entry_count-map f same (g ∷ gs) = omega (arith, same g, entry_count-map f same gs)

and-true : (b : Bool) → (b && true) ≡ b
and-true true = refl
and-true false = refl

module _ {P E : Type 0} (after : E → P → P) (back : E → P → E) (Takes : E → P → Type 0) where
  -- ---- what is kept

  kept-onto_newest : (going : Bool) (past : List (List (HistoryEntry P E))) (c : HistoryEntry P E)
      → cond going (onto_newest (back c.edit c.before ∷ []) (map (backs_of back) past))
      ((back c.edit c.before ∷ []) ∷ map (backs_of back) past)
      ≡ map (backs_of back) (cond going (onto_newest (c ∷ []) past) ((c ∷ []) ∷ past))
  kept-onto_newest false past c = refl
  kept-onto_newest true [] c = refl
  kept-onto_newest true (g ∷ gs) c = ap (λ l. l ∷ map (backs_of back) gs)
      (sym (map-append (λ (e : HistoryEntry P E). back e.edit e.before) g (c ∷ [])))

  noted-kept_of : (m : Marks (HistoryEntry P E)) (c : HistoryEntry P E)
      → noted (back c.edit c.before) (kept_of back m) ≡ kept_of back (noted c m)
  noted-kept_of m c = λ i. record { past = kept-onto_newest m.going m.past c i; future = []; going = true; crossed = false }

  crossed_over-kept_of : (m : Marks (HistoryEntry P E)) → crossed_over (kept_of back m) ≡ kept_of back (crossed_over m)
  crossed_over-kept_of m =
      let past = entry_count-map (backs_of back) (λ g. length-map g (λ e. back e.edit e.before)) m.past in
      let future = entry_count-map (again_of back) (λ g. length-reverse (map (λ e. e.edit) g) ∙ length-map g (λ e. e.edit)) m.future in
      λ i. record { past = []; future = []; going = false; crossed = m.crossed || not (past i + future i == 0) }

  -- ---- where a noted entry leads

  pub record LeadsOnTo (past : List (List (HistoryEntry P E))) (page : P) : Type 0 where
    pub leads : LeadHere after Takes past page
    pub filled : past ≡ [] → ⊥

  noted_leads : (going : Bool) (past : List (List (HistoryEntry P E))) (page : P) (e : E) → LeadHere after Takes past page → Takes e page
      → (let c : HistoryEntry P E = change_on after e page in LeadsOnTo (cond going (onto_newest (c ∷ []) past) ((c ∷ []) ∷ past))
      (after e page))
  noted_leads false past page e h t = record { leads = ((refl, record { taken = t; made = refl }, refl), h); filled = λ n. cc }
  noted_leads true [] page e h t = record { leads = ((refl, record { taken = t; made = refl }, refl), tt); filled = λ n. cc }
  noted_leads true ([] ∷ gs) page e h t = absurd h
  noted_leads true ((y ∷ ys) ∷ gs) page e h t = record {
    leads = (
      leads_append after Takes (y ∷ ys) (change_on after e page ∷ []) y.before page (after e page) h.0
          (refl, record { taken = t; made = refl }, refl),
      h.1,
    );
    filled = λ n. cc;
  }

  kept_noted : (kept : Marks E) (m : Marks (HistoryEntry P E)) (page : P) (e : E) → KeptFor after back Takes kept m page → Takes e page
      → KeptFor after back Takes (noted (back e page) kept) (noted (change_on after e page) m) (after e page)
  kept_noted kept m page e k t =
      let l = noted_leads m.going m.past page e k.history.past t in
      record {
        edits = ap (noted (back e page)) k.edits ∙ noted-kept_of m (change_on after e page);
        history = record { past = l.leads; future = tt; going = λ _. l.filled };
      }

  kept_singly : (es : List E) (kept : Marks E) (m : Marks (HistoryEntry P E)) (page : P) → KeptFor after back Takes kept m page
      → AllTaken after Takes es page
      → KeptFor after back Takes (noted_singly (back_all after back es page) kept) (noted_singly (changes_on after es page) m)
      (after_all after es page)
  kept_singly [] kept m page k t = k
  kept_singly (e ∷ es) kept m page k t = kept_singly es _ _ (after e page) (kept_noted kept m page e k t.0) t.1

  -- ---- undo and redo

  undo_step : AreBacks after back Takes → (past future : List (List (HistoryEntry P E))) (going crossed : Bool) (page : P) (es : List E)
      → (let m : Marks (HistoryEntry P E) = record { past = past; future = future; going = going; crossed = crossed } in
      IsHistory after Takes m page → handed_out (map (backs_of back) past) ≡ Some es → IsUndo after back Takes es (kept_of back m) m page)
  undo_step laws [] future going crossed page es h out = absurd (cc)
  undo_step laws ([] ∷ gs) future going crossed page es h out = absurd h.past
  undo_step laws ((e ∷ g) ∷ gs) future going crossed page es h out =
      let m : Marks (HistoryEntry P E) = record { past = (e ∷ g) ∷ gs; future = future; going = going; crossed = crossed } in
      let here : reverse (backs_of back (e ∷ g)) ≡ es = cc in
      let run = undo_group after back Takes laws (e ∷ g) e.before page h.past.0 in
      let end : page ≡ end_of g e.after = sym (leads_end after Takes (e ∷ g) e.before page h.past.0) in
      subst (λ xs. IsUndo after back Takes xs (kept_of back m) m page) here
      (record {
        taken = run.taken;
        through = run.through;
        ends = run.ends;
        kept_on = record {
          edits = λ i. record {
            past = map (backs_of back) gs;
            future = run.gives i ∷ map (again_of back) future;
            going = false;
            crossed = crossed;
          };
          history = record {
            past = h.past.1;
            future = (
              subst (λ p. LeadsOn after Takes e.before (e ∷ g) p) end h.past.0,
              subst
                  (λ p. LeadFrom after Takes future p) end h.future,
            );
            going = λ t n. cc;
          };
        };
      })

  redo_step : (past future : List (List (HistoryEntry P E))) (going crossed : Bool) (page : P) (es : List E)
      → (let m : Marks (HistoryEntry P E) = record { past = past; future = future; going = going; crossed = crossed } in
      IsHistory after Takes m page → handed_out (map (again_of back) future) ≡ Some es → IsRedo after back Takes es (kept_of back m) m page)
  redo_step past [] going crossed page es h out = absurd (cc)
  redo_step past ([] ∷ gs) going crossed page es h out = absurd h.future
  redo_step past ((e ∷ g) ∷ gs) going crossed page es h out =
      let m : Marks (HistoryEntry P E) = record { past = past; future = (e ∷ g) ∷ gs; going = going; crossed = crossed } in
      let first : reverse (again_of back (e ∷ g)) ≡ es = cc in
      let here : map (λ (c : HistoryEntry P E). c.edit) (e ∷ g)
      ≡ es = sym (reverse-reverse (map (λ (c : HistoryEntry P E). c.edit) (e ∷ g))) ∙ first in
      let run = redo_group after back Takes (e ∷ g) page (end_of g e.after) h.future.0 in
      subst (λ xs. IsRedo after back Takes xs (kept_of back m) m page) here
      (record {
        taken = run.taken;
        through = run.through;
        ends = run.ends;
        kept_on = record {
          edits = λ i. record {
            past = run.gives i ∷ map (backs_of back) past;
            future = map (again_of back) gs;
            going = false;
            crossed = crossed;
          };
          history = record {
            past = ((refl, h.future.0.1, h.future.0.2), subst (λ p. LeadHere after Takes past p) (sym h.future.0.0) h.past);
            future = h.future.1;
            going = λ t n. cc;
          };
        };
      })

  no_undo_step : (past future : List (List (HistoryEntry P E))) (going crossed : Bool) (page : P)
      → (let m : Marks (HistoryEntry P E) = record { past = past; future = future; going = going; crossed = crossed } in
      handed_out (map (backs_of back) past) ≡ None → IsNoUndo after back Takes (kept_of back m) m page)
  no_undo_step [] future going crossed page out = record {
    none_saved = refl;
    stays = refl;
    kept_stays = λ i. record { past = []; future = map (again_of back) future; going = and-true going i; crossed = crossed };
  }
  no_undo_step (g ∷ gs) future going crossed page out = absurd (cc)

  no_redo_step : (past future : List (List (HistoryEntry P E))) (going crossed : Bool) (page : P)
      → (let m : Marks (HistoryEntry P E) = record { past = past; future = future; going = going; crossed = crossed } in
      handed_out (map (again_of back) future) ≡ None → IsNoRedo after back Takes (kept_of back m) m page)
  no_redo_step past [] going crossed page out = record {
    none_saved = refl;
    stays = refl;
    kept_stays = λ i. record { past = map (backs_of back) past; future = []; going = and-true going i; crossed = crossed };
  }
  no_redo_step past (g ∷ gs) going crossed page out = absurd (cc)

  -- ---- all changes

  stays_kept : AreBacks after back Takes → (kept : Marks E) (m : Marks (HistoryEntry P E)) (page : P) → KeptFor after back Takes kept m page
      → StaysKept after back Takes kept m page
  stays_kept laws kept m page k = record {
    flags = (ap (λ x. x.going) k.edits, ap (λ x. x.crossed) k.edits);
    after_note = λ e t. kept_noted kept m page e k t;
    after_notes = λ es t.
        let all = changes_on after es page in
        let backs = noted_singly (back_all after back es page) kept in
        subst (λ x. KeptFor after back Takes backs x (after_all after es page)) (noted_singly-edited all m)
        (kept_singly es kept m page k t);
    after_mark = record {
      edits = ap marked k.edits;
      history = record { past = k.history.past; future = k.history.future; going = λ t n. cc };
    };
    after_cross = λ other. record {
      edits = ap crossed_over k.edits ∙ crossed_over-kept_of m;
      history = record { past = tt; future = tt; going = λ t n. cc };
    };
    after_undo = λ es out.
        subst (λ x. IsUndo after back Takes es x m page) (sym k.edits)
        (undo_step laws m.past m.future m.going m.crossed page es k.history (ap (λ x. handed_out x.past) (sym k.edits) ∙ out));
    after_redo = λ es out.
        subst (λ x. IsRedo after back Takes es x m page) (sym k.edits)
        (redo_step m.past m.future m.going m.crossed page es k.history (ap (λ x. handed_out x.future) (sym k.edits) ∙ out));
    at_no_past = λ out.
        subst (λ x. IsNoUndo after back Takes x m page) (sym k.edits)
        (no_undo_step m.past m.future m.going m.crossed page (ap (λ x. handed_out x.past) (sym k.edits) ∙ out));
    at_no_future = λ out.
        subst (λ x. IsNoRedo after back Takes x m page) (sym k.edits)
        (no_redo_step m.past m.future m.going m.crossed page (ap (λ x. handed_out x.future) (sym k.edits) ∙ out));
  }

  pub keeps_on : AreBacks after back Takes → KeepsOn after back Takes
  keeps_on laws = record {
    at_start = λ page. record { edits = refl; history = record { past = tt; future = tt; going = λ t n. cc } };
    after_changes = stays_kept laws;
  }

-- ---- where more edits are taken

module _ {P E : Type 0} (after : E → P → P) (back : E → P → E) (Takes More : E → P → Type 0)
    (more : (e : E) (page : P) → Takes e page → More e page) where
  leads_grow : (g : List (HistoryEntry P E)) (page end : P) → LeadsOn after Takes page g end → LeadsOn after More page g end
  leads_grow [] page end h = h
  leads_grow (e ∷ es) page end h = (h.0, record { taken = more e.edit e.before h.1.taken; made = h.1.made }, leads_grow es e.after end h.2)

  here_grow : (gs : List (List (HistoryEntry P E))) (page : P) → LeadHere after Takes gs page → LeadHere after More gs page
  here_grow [] page h = tt
  here_grow ([] ∷ gs) page h = h
  here_grow ((e ∷ es) ∷ gs) page h = (leads_grow (e ∷ es) e.before page h.0, here_grow gs e.before h.1)

  from_grow : (gs : List (List (HistoryEntry P E))) (page : P) → LeadFrom after Takes gs page → LeadFrom after More gs page
  from_grow [] page h = tt
  from_grow ([] ∷ gs) page h = h
  from_grow ((e ∷ es) ∷ gs) page h = (leads_grow (e ∷ es) page (end_of es e.after) h.0, from_grow gs (end_of es e.after) h.1)

  pub kept_grow : (kept : Marks E) (m : Marks (HistoryEntry P E)) (page : P) → KeptFor after back Takes kept m page
      → KeptFor after back More kept m page
  kept_grow kept m page k = record {
    edits = k.edits;
    history = record {
      past = here_grow m.past page k.history.past;
      future = from_grow m.future page k.history.future;
      going = k.history.going;
    };
  }
