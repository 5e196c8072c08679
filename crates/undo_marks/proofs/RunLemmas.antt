-- A group of a history, taken back and done again.
use Rattle.std.proofs.Common.{◌≡◌, List, [], ◌∷◌, ◌++◌, map, reverse, refl, sym, ap, ◌∙◌, subst}
use Rattle.std.proofs.lemmas.Grind.{reverse_onto}
use Rattle.undo_marks.specs.Changes.{HistoryEntry, saved_after, saved_before, end_of, after_all, pages_on, back_all, AllTaken, IsChange}
use Rattle.undo_marks.specs.Changes.{LeadsOn, backs_of, again_of, AreBacks}

module _ {P E : Type 0} (after : E → P → P) (back : E → P → E) (Takes : E → P → Type 0) where
  -- From the page the edits meet no fault, lead to the end through these pages, and give these inverses.
  pub record RunsTo (es : List E) (page end : P) (pages : List P) (backs : List E) : Type 0 where
    pub taken : AllTaken after Takes es page
    pub ends : after_all after es page ≡ end
    pub through : pages_on after es page ≡ pages
    pub gives : back_all after back es page ≡ backs

  -- ---- one run after another

  taken_append : (xs ys : List E) (page : P) → AllTaken after Takes xs page → AllTaken after Takes ys (after_all after xs page)
      → AllTaken after Takes (xs ++ ys) page
  taken_append [] ys page t u = u
  taken_append (x ∷ xs) ys page t u = (t.0, taken_append xs ys (after x page) t.1 u)

  after_all-append : (xs ys : List E) (page : P) → after_all after (xs ++ ys) page ≡ after_all after ys (after_all after xs page)
  after_all-append [] ys page = refl
  after_all-append (x ∷ xs) ys page = after_all-append xs ys (after x page)

  pages_on-append : (xs ys : List E) (page : P)
      → pages_on after (xs ++ ys) page ≡ pages_on after xs page ++ pages_on after ys (after_all after xs page)
  pages_on-append [] ys page = refl
  pages_on-append (x ∷ xs) ys page = ap (λ l. after x page ∷ l) (pages_on-append xs ys (after x page))

  back_all-append : (xs ys : List E) (page : P)
      → back_all after back (xs ++ ys) page ≡ back_all after back xs page ++ back_all after back ys (after_all after xs page)
  back_all-append [] ys page = refl
  back_all-append (x ∷ xs) ys page = ap (λ l. back x page ∷ l) (back_all-append xs ys (after x page))

  runs-append : (xs ys : List E) (page middle end : P) (ps qs : List P) (bs cs : List E) → RunsTo xs page middle ps bs
      → RunsTo ys middle end qs cs → RunsTo (xs ++ ys) page end (ps ++ qs) (bs ++ cs)
  runs-append xs ys page middle end ps qs bs cs a b = record {
    taken = taken_append xs ys page a.taken (subst (λ p. AllTaken after Takes ys p) (sym a.ends) b.taken);
    ends = after_all-append xs ys page ∙ ap (after_all after ys) a.ends ∙ b.ends;
    through = pages_on-append xs ys page ∙ ap (λ l. l ++ pages_on after ys (after_all after xs page)) a.through ∙ ap (λ l. ps ++ l)
        (ap (pages_on after ys) a.ends ∙ b.through);
    gives = back_all-append xs ys page ∙ ap (λ l. l ++ back_all after back ys (after_all after xs page)) a.gives ∙ ap (λ l. bs ++ l)
        (ap (back_all after back ys) a.ends ∙ b.gives);
  }

  runs_along : (es fs : List E) (page end : P) (ps qs : List P) (bs cs : List E) → es ≡ fs → ps ≡ qs → bs ≡ cs → RunsTo es page end ps bs
      → RunsTo fs page end qs cs
  runs_along es fs page end ps qs bs cs same pages backs r =
      let s : RunsTo fs page end ps bs = subst (λ xs. RunsTo xs page end ps bs) same r in
      record { taken = s.taken; ends = s.ends; through = s.through ∙ pages; gives = s.gives ∙ backs }

  -- ---- a group

  last_back : AreBacks after back Takes → (e : HistoryEntry P E) (page : P) → e.before ≡ page → IsChange after Takes e
      → RunsTo (back e.edit e.before ∷ []) e.after page (e.before ∷ []) (e.edit ∷ [])
  last_back laws e page here c =
      let b : E = back e.edit e.before in
      let leads : after b e.after ≡ e.before = ap (after b) (sym c.made) ∙ laws.leads_back e.edit e.before c.taken in
      let again : back b e.after ≡ e.edit = ap (back b) (sym c.made) ∙ laws.back_back e.edit e.before c.taken in
      record {
        taken = (subst (λ p. Takes b p) c.made (laws.takes_back e.edit e.before c.taken), tt);
        ends = leads ∙ here;
        through = ap (λ p. p ∷ []) leads;
        gives = ap (λ x. x ∷ []) again;
      }

  -- the inverses of a group, the last first, lead back through the pages saved before
  pub undo_group : AreBacks after back Takes → (g : List (HistoryEntry P E)) (page end : P) → LeadsOn after Takes page g end
      → RunsTo (reverse (backs_of back g)) end page (saved_before g) (again_of back g)
  undo_group laws [] page end h = record { taken = tt; ends = sym h; through = refl; gives = refl }
  undo_group laws (e ∷ es) page end h =
      runs_along _ _ end page _ _ _ _ (sym (reverse_onto (backs_of back es) (back e.edit e.before) []))
      (sym (reverse_onto (map (λ c. c.before) es) e.before [])) (sym (reverse_onto (map (λ c. c.edit) es) e.edit []))
      (runs-append (reverse (backs_of back es)) (back e.edit e.before ∷ []) end e.after page (saved_before es) (e.before ∷ [])
      (again_of back es) (e.edit ∷ [])
      (undo_group laws es e.after end h.2)
      (last_back laws e page h.0 h.1))

  -- the edits of a group lead on through the pages saved after
  pub redo_group : (g : List (HistoryEntry P E)) (page end : P) → LeadsOn after Takes page g end
      → RunsTo (map (λ e. e.edit) g) page end (saved_after g) (backs_of back g)
  redo_group [] page end h = record { taken = tt; ends = h; through = refl; gives = refl }
  redo_group (e ∷ es) page end h =
      let step : after e.edit page ≡ e.after = ap (after e.edit) (sym h.0) ∙ h.1.made in
      let rest = redo_group es e.after end h.2 in
      let edits : List E = map (λ c. c.edit) es in
      record {
        taken = (subst (λ p. Takes e.edit p) h.0 h.1.taken, subst (λ p. AllTaken after Takes edits p) (sym step) rest.taken);
        ends = ap (after_all after edits) step ∙ rest.ends;
        through = ap (λ p. p ∷ pages_on after edits p) step ∙ ap (λ l. e.after ∷ l) rest.through;
        gives = ap (λ x. x ∷ back_all after back edits (after e.edit page)) (ap (back e.edit) (sym h.0)) ∙ ap
            (λ l. back e.edit e.before ∷ l) (ap (back_all after back edits) step ∙ rest.gives);
      }

-- ---- where a group leads

module _ {P E : Type 0} (after : E → P → P) (Takes : E → P → Type 0) where
  pub leads_append : (g h : List (HistoryEntry P E)) (page middle end : P) → LeadsOn after Takes page g middle
      → LeadsOn after Takes middle h end → LeadsOn after Takes page (g ++ h) end
  leads_append [] h page middle end a b = subst (λ p. LeadsOn after Takes p h end) (sym a) b
  leads_append (e ∷ es) h page middle end a b = (a.0, a.1, leads_append es h e.after middle end a.2 b)

  pub leads_end : (g : List (HistoryEntry P E)) (page end : P) → LeadsOn after Takes page g end → end_of g page ≡ end
  leads_end [] page end h = h
  leads_end (e ∷ es) page end h = leads_end es e.after end h.2
