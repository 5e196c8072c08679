-- A line that is carried out is as long as what it says costs.
use Rattle.std.proofs.Common.{◌≡◌, ℕ, ◌+◌, ◌≤◌, Bool, true, false, cond, List, length, bytes_eq, codes, Option, Some, None, option_map}
use Rattle.std.proofs.Common.{option_and_then, if◌then◌else◌, Result, Ok, Err, refl, ap, subst, arith}
use Rattle.std.specs.Str.{is_utf8}
use Rattle.serde_json.specs.Data.{Data, null, boolean, number, string, array, object, no_members, member}
use Rattle.serde_json.specs.Find.{as_str}
use Rattle.serde_json.specs.Read.{read}
use Rattle.cdp_json.specs.Kinds.{as_whole, as_true, named}
use Rattle.cdp_json.proofs.Options.{and_then_some, map_some}
use Rattle.cdp_messages.specs.declared.command.Command.{Command}
use Rattle.cdp_messages.specs.declared.command.Why.{Why}
use Rattle.cdp_messages.specs.Asked.{json_of, command_of}
use Rattle.page_forms.specs.Acts.{act_in}
use Rattle.page_forms.specs.Pages.{page_in}
use Rattle.node_tree.specs.Keys.{first_of}
use Rattle.replay_script.specs.declared.line_kinds.LineKind.{LineKind}
use Rattle.replay_script.specs.declared.line_kinds.LineKind.TheVariants as kind
use Rattle.replay_script.specs.Kinds.{line_kind_name, all_line_kinds, sole, styles_in, kind_said}
use Rattle.replay_script.specs.Forms as forms
use Rattle.replay_script.specs.Forms.{AskForm, AskParts, LineForm, load, ask, up, down, settle, show_front, show_page, show_sheets}
use Rattle.replay_script.specs.Forms.{show_replies, show_pauses, show_panels, show_styles, close, ask_kind, ask_from, ask_in, show_from}
use Rattle.replay_script.specs.Forms.{form_by, form_of, line_form}
use Rattle.back_end.proofs.FrameSizes.{data_size, read-long}
use Rattle.back_end.proofs.EditSizes.{params_size, edits-params}
use Rattle.inspect_world.specs.Costs.{edits_commanded, ask_edits, line_cost}
use Rattle.inspect_world.proofs.SendForms.{ask_lawful, spelled}

-- ---- an ask

-- an ask comes to no more edits than its parameters are large
edits-small : (a : AskForm) (r : Result Command Why) → command_of false a.method a.params a.session ≡ r
    → edits_commanded r ≤ params_size a.params
edits-small a (Ok c) is = edits-params false a.method a.params a.session c is
edits-small a (Err why) is = omega arith

ask-small : (a : AskForm) → ask_edits a ≤ params_size a.params
unfolding ask_edits
ask-small a = edits-small a (command_of false a.method a.params a.session) refl

spelled-size : (m : List ℕ) (params session : Option Data) → 2 + params_size params ≤ data_size (spelled m params session)
spelled-size m None None = omega arith
spelled-size m (Some p) None = omega arith
spelled-size m None (Some s) = omega arith
spelled-size m (Some p) (Some s) = omega arith

parts-size : (p : AskParts) (a : AskForm) → ask_from p ≡ a → 2 + params_size a.params ≤ data_size (ask_kind.spell p)
parts-size (m, (params, (session, end))) a is =
    subst (λ (o : Option Data). 2 + params_size o ≤ data_size (spelled m params session)) (ap (λ (x : AskForm). x.params) is)
    (spelled-size m params session)

-- the value that spells an ask
ask-size : (d : Data) (a : AskForm) → ask_in d ≡ Some a → 2 + ask_edits a ≤ data_size d
ask-size d a is =
    let parts = map_some ask_from (ask_kind.reads d) a is in
    let same : ask_kind.spell parts.0 ≡ d = (ask_lawful.takes d parts.0 parts.1).0 in
    let size : 2 + params_size a.params
    ≤ data_size d = subst (λ e. 2 + params_size a.params ≤ data_size e) same (parts-size parts.0 a parts.2) in
    let small = ask-small a in
    omega (arith, size, small)

-- ---- a line's value

-- the value of an object's one property, and any object at all that tells a line
sole-size : (d : Data) (p : List ℕ × Data) → sole d ≡ Some p → 4 + data_size p.1 ≤ data_size d
sole-size null p e = absurd cc
sole-size (boolean b) p e = absurd cc
sole-size (number n) p e = absurd cc
sole-size (string s) p e = absurd cc
sole-size (array ds) p e = absurd cc
sole-size (object no_members) p e = absurd cc
sole-size (object (member k v no_members)) p e =
    let same : (k, v) ≡ p = cc e in subst (λ (q : List ℕ × Data). 4 + data_size q.1 ≤ data_size (object (member k v no_members))) same
    (omega arith)
sole-size (object (member k d (member l e ms))) p h = absurd cc

-- a form that costs the least
least : (form made : LineForm) (n : ℕ) → line_cost made ≤ 4 → 4 ≤ n → made ≡ form → line_cost form ≤ n
least form made n low most is = subst (λ f. line_cost f ≤ n) is (omega (arith, low, most))

show-cost : (b c s d p q : Bool) (form : LineForm) (n : ℕ) → 4 ≤ n
    → (if b then Some show_front else if c then Some show_page else if s then Some show_sheets else if d then Some show_replies else if p
    then Some show_pauses else if q then Some show_panels else None) ≡ Some form → line_cost form ≤ n
show-cost true c s d p q form n most is =
    let same : show_front ≡ form = cc is in least form show_front n (omega arith) most same
show-cost false true s d p q form n most is =
    let same : show_page ≡ form = cc is in least form show_page n (omega arith) most same
show-cost false false true d p q form n most is =
    let same : show_sheets ≡ form = cc is in least form show_sheets n (omega arith) most same
show-cost false false false true p q form n most is =
    let same : show_replies ≡ form = cc is in least form show_replies n (omega arith) most same
show-cost false false false false true q form n most is =
    let same : show_pauses ≡ form = cc is in least form show_pauses n (omega arith) most same
show-cost false false false false false true form n most is =
    let same : show_panels ≡ form = cc is in least form show_panels n (omega arith) most same
show-cost false false false false false false form n most is = absurd cc

-- what a line costs, by its kind and its value
kind-cost : (k : LineKind) (v : Data) (form : LineForm) (n : ℕ) → 4 + data_size v ≤ n → form_by k v ≡ Some form → line_cost form ≤ n
kind-cost kind.Load v form n size is = let p = map_some load (page_in v) form is in least form (load p.0) n (omega arith)
    (omega (arith, size)) p.2
kind-cost kind.Act v form n size is = let p = map_some forms.act (act_in v) form is in least form (forms.act p.0) n (omega arith)
    (omega (arith, size)) p.2
kind-cost kind.Ask v form n size is =
    let p = map_some ask (ask_in v) form is in
    let cost : 2 + ask_edits p.0 ≤ data_size v = ask-size v p.0 p.1 in
    let all : line_cost (ask p.0) ≤ n = omega (arith, cost, size) in
    subst (λ f. line_cost f ≤ n) p.2 all
kind-cost kind.Raw v form n size is = let p = map_some forms.raw (as_str v) form is in least form (forms.raw p.0) n (omega arith)
    (omega (arith, size)) p.2
kind-cost kind.Up v form n size is = let p = map_some up (as_whole v) form is in least form (up p.0) n (omega arith)
    (omega (arith, size)) p.2
kind-cost kind.Down v form n size is = let p = map_some down (as_whole v) form is in least form (down p.0) n (omega arith)
    (omega (arith, size)) p.2
kind-cost kind.Settle v form n size is = let p = map_some (λ _. settle) (as_true v) form is in least form settle n (omega arith)
    (omega (arith, size)) p.2
kind-cost kind.Show v form n size is =
    let p = and_then_some show_from (as_str v) form is in
    show-cost (bytes_eq p.0 (codes "front")) (bytes_eq p.0 (codes "page")) (bytes_eq p.0 (codes "sheets")) (bytes_eq p.0 (codes "replies"))
    (bytes_eq p.0 (codes "pauses")) (bytes_eq p.0 (codes "panels")) form n (omega (arith, size)) p.2
kind-cost kind.Close v form n size is = let p = map_some close (as_whole v) form is in least form (close p.0) n (omega arith)
    (omega (arith, size)) p.2
kind-cost kind.Styles v form n size is = let p = map_some show_styles (as_whole v) form is in least form (show_styles p.0) n (omega arith)
    (omega (arith, size)) p.2

-- a show of styles has properties
styles-size : (d asked : Data) → styles_in d ≡ Some asked → 4 ≤ data_size d
styles-size null asked e = absurd cc
styles-size (boolean b) asked e = absurd cc
styles-size (number n) asked e = absurd cc
styles-size (string s) asked e = absurd cc
styles-size (array ds) asked e = absurd cc
styles-size (object no_members) asked e = absurd cc
styles-size (object (member k v ms)) asked e = omega arith

sole-cost : (d : Data) (form : LineForm)
    → option_and_then (λ (s : LineKind × Data). form_by s.0 s.1) (option_and_then kind_said (sole d)) ≡ Some form
    → line_cost form ≤ data_size d
sole-cost d form is =
    let p = and_then_some (λ (s : LineKind × Data). form_by s.0 s.1) (option_and_then kind_said (sole d)) form is in
    let q = and_then_some kind_said (sole d) p.0 p.1 in
    let r = map_some (λ (name : LineKind). (name, q.0.1)) (named line_kind_name all_line_kinds q.0.0) p.0 q.2 in
    let value : q.0.1 ≡ p.0.1 = ap (λ (t : LineKind × Data). t.1) r.2 in
    let size : 4 + data_size p.0.1 ≤ data_size d = subst (λ v. 4 + data_size v ≤ data_size d) value (sole-size d q.0 q.1) in
    kind-cost p.0.0 p.0.1 form (data_size d) size p.2

form-cost : (d : Data) (form : LineForm) → form_of d ≡ Some form → line_cost form ≤ data_size d
form-cost d form is = by (styles_in d) refl is where
  by : (styles : Option Data) → styles_in d ≡ styles
      → option_and_then (λ (s : LineKind × Data). form_by s.0 s.1)
      (first_of (option_map (λ asked. (kind.Styles, asked)) styles) (option_and_then kind_said (sole d))) ≡ Some form
      → line_cost form ≤ data_size d
  by None e is = sole-cost d form is
  by (Some asked) e is =
      let p = map_some show_styles (as_whole asked) form is in
      least form (show_styles p.0) (data_size d) (omega arith) (styles-size d asked e) p.2

-- ---- a line

read-of : (b : Bool) (o : Option Data) (d : Data) → cond b o None ≡ Some d → o ≡ Some d
read-of true o d e = e
read-of false o d e = absurd cc

pub line-long : (line : List ℕ) (form : LineForm) → line_form line ≡ Some form → line_cost form ≤ length line
line-long line form is =
    let p = and_then_some form_of (json_of line) form is in
    let long : data_size p.0 ≤ length line = read-long line p.0 (read-of (is_utf8 line) (read line) p.0 p.1) in
    let cost : line_cost form ≤ data_size p.0 = form-cost p.0 form p.2 in
    omega (arith, long, cost)
