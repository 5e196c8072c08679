-- A line that shows no matched styles and drops no panel is carried out, and prints what it prints.
use Rattle.std.proofs.Common.{rules, refl, ap, subst}
use Rattle.page_forms.specs.Pages.{loaded_page}
use Rattle.replay_script.specs.Forms as forms
use Rattle.replay_script.specs.Forms.{load, ask, up, down, settle, show_front, show_page, show_sheets, show_replies, show_pauses}
use Rattle.replay_script.specs.Forms.{show_panels}
use Rattle.replay_script.specs.Seen.{seen, seen_ask}
use Rattle.session_runs.specs.World.{delivered_up, delivered_down}
use Rattle.inspect_world.specs.World.{raw, turned}
use Rattle.inspect_world.specs.FreshRuns.{front_fetcher, refreshes}
use Rattle.inspect_world.proofs.FetchesFit.{refreshed-told}
use Rattle.inspect_world.specs.Scripts.{sends}
use Rattle.inspect_world.specs.ScriptsFit.{IsLater}
use Rattle.back_end.specs.Steps.{loads}
use Rattle.inspect_world.specs.RunStates.{run_step, run_turn}
use Rattle.std.proofs.Common.{◌≡◌, ℕ, Option, Some, None, sym, ◌∙◌}
use Rattle.replay_script.specs.Script.{styles_ask, closed_by}
use Rattle.inspect_replay.proofs.RunLemmas.{spend-carries, move-carries, settles-spend, same-carries, page-carries}
use Rattle.inspect_replay.proofs.FollowLemmas.{kept-run, run-fewer}
use Rattle.replay_parts.proofs.CauseLemmas.{link-cause, sink-cause}
use Rattle.replay_parts.proofs.StopLemmas.{some-printed, none-printed}
use Rattle.inspect_replay.proofs.run.carry_plain.Goals as goal

pub load_page-requires : goal.load_page-requires
load_page-requires g c = subst IsLater (ap seen c.in-Load.is) c.requires.later

pub carry_act-requires : goal.carry_act-requires
carry_act-requires g c = subst IsLater (ap seen c.in-Act.is) c.requires.later

pub carry_ask-requires : goal.carry_ask-requires
carry_ask-requires g c = subst IsLater (ap seen c.in-Ask.is) c.requires.later

pub carry_raw-requires-clause-text : goal.carry_raw-requires-clause-text
carry_raw-requires-clause-text g c = (subst IsLater (ap seen c.in-Raw.is) c.requires.later).0

pub carry_raw-requires-clause-bare : goal.carry_raw-requires-clause-bare
carry_raw-requires-clause-bare g c = (subst IsLater (ap seen c.in-Raw.is) c.requires.later).1

pub returns-in-Load : goal.returns-in-Load
returns-in-Load g c = record {
  honest = search rules;
  cause = link-cause c.load_page.result _ _ _ c.load_page.ensures.cause;
  follows = c.load_page.ensures.follows;
  some = none-printed c.load_page.result _;
  runs = spend-carries c.load_page.result _ _ _ _ _ _ _ c.args.ends.now c.load_page.new.self
      (λ w. turned run_turn (loads (loaded_page c.in-Load.page)) w) c.args.number
      (load (loaded_page c.in-Load.page)) (seen c.args.line) (subst IsLater (ap seen c.in-Load.is) c.requires.later) (λ w. refl) (λ w. refl)
      (λ w. refl) (λ w. refl) (ap seen c.in-Load.is) c.load_page.ensures.steps;
}

pub returns-in-Act : goal.returns-in-Act
returns-in-Act g c = record {
  honest = search rules;
  cause = c.carry_act.ensures.cause;
  follows = c.carry_act.ensures.follows;
  some = c.carry_act.ensures.some;
  runs = same-carries c.carry_act.result _ _ _ _ _ _ _ _ c.args.ends.now c.carry_act.new.ends c.args.number (forms.act c.in-Act.act)
      (seen c.args.line) (ap seen c.in-Act.is) c.carry_act.ensures.runs;
}

pub returns-in-Ask : goal.returns-in-Ask
returns-in-Ask g c = record {
  honest = search rules;
  cause = link-cause c.carry_ask.result _ _ _ c.carry_ask.ensures.cause;
  follows = λ state0 up0 down0 run. c.carry_ask.ensures.follows state0 up0 down0
      (run-fewer state0 up0 down0 _ _ c.args.ends.now run);
  some = none-printed c.carry_ask.result _;
  runs = spend-carries c.carry_ask.result _ _ _ _ _ _ _ c.args.ends.now c.carry_ask.new.ends (λ w. sends (seen_ask c.in-Ask.ask) w)
      c.args.number
      (ask (seen_ask c.in-Ask.ask)) (seen c.args.line) (subst IsLater (ap seen c.in-Ask.is) c.requires.later) (λ w. refl) (λ w. refl)
      (λ w. refl) (λ w. refl) (ap seen c.in-Ask.is) c.carry_ask.ensures.steps;
}

pub returns-in-Raw : goal.returns-in-Raw
returns-in-Raw g c = record {
  honest = search rules;
  cause = link-cause c.carry_raw.result _ _ _ c.carry_raw.ensures.cause;
  follows = λ state0 up0 down0 run. c.carry_raw.ensures.follows state0 up0 down0
      (run-fewer state0 up0 down0 _ _ c.args.ends.now run);
  some = none-printed c.carry_raw.result _;
  runs = spend-carries c.carry_raw.result _ _ _ _ _ _ _ c.args.ends.now c.carry_raw.new.ends (λ w. raw c.in-Raw.text w) c.args.number
      (forms.raw c.in-Raw.text) (seen c.args.line) (subst IsLater (ap seen c.in-Raw.is) c.requires.later) (λ w. refl) (λ w. refl)
      (λ w. refl)
      (λ w. refl) (ap seen c.in-Raw.is) c.carry_raw.ensures.steps;
}

pub returns-in-Up : goal.returns-in-Up
returns-in-Up g c = record {
  honest = search rules;
  cause = link-cause c.deliver_up.result _ _ _ c.deliver_up.ensures.cause;
  follows = λ state0 up0 down0 run. c.deliver_up.ensures.follows state0 up0 down0
      (run-fewer state0 up0 down0 _ _ c.args.ends.now run);
  some = none-printed c.deliver_up.result _;
  runs = move-carries c.deliver_up.result _ _ _ _ _ _ _ c.args.ends.now c.deliver_up.new.self
      (λ w. delivered_up run_step c.in-Up.n w) c.args.number (up c.in-Up.n) (seen c.args.line)
      (subst IsLater (ap seen c.in-Up.is) c.requires.later) (λ w. refl) (λ w. refl) (λ w. refl) (λ w. refl)
      (ap seen c.in-Up.is) c.deliver_up.ensures.steps;
}

pub returns-in-Down : goal.returns-in-Down
returns-in-Down g c = record {
  honest = search rules;
  cause = link-cause c.deliver_down.result _ _ _ c.deliver_down.ensures.cause;
  follows = λ state0 up0 down0 run. c.deliver_down.ensures.follows state0 up0 down0
      (run-fewer state0 up0 down0 _ _ c.args.ends.now run);
  some = none-printed c.deliver_down.result _;
  runs = move-carries c.deliver_down.result _ _ _ _ _ _ _ c.args.ends.now c.deliver_down.new.self
      (λ w. delivered_down c.in-Down.n w) c.args.number (down c.in-Down.n) (seen c.args.line)
      (subst IsLater (ap seen c.in-Down.is) c.requires.later) (λ w. refl) (λ w. refl) (λ w. refl) (λ w. refl)
      (ap seen c.in-Down.is) c.deliver_down.ensures.steps;
}

pub returns-in-Settle : goal.returns-in-Settle
returns-in-Settle g c = record {
  honest = search rules;
  cause = link-cause c.settle.result _ _ _ c.settle.ensures.cause;
  follows = λ state0 up0 down0 run. c.settle.ensures.follows state0 up0 down0
      (run-fewer state0 up0 down0 _ _ c.args.ends.now run);
  some = none-printed c.settle.result _;
  runs = spend-carries c.settle.result _ _ _ _ _ _ _ c.args.ends.now c.settle.new.self (refreshes front_fetcher) c.args.number settle
      (seen c.args.line)
      tt (λ w. refl) refreshed-told (λ w. refl) (λ w. refl) (ap seen c.in-Settle.is)
      (settles-spend c.settle.result _ _ _ _ _ _ c.args.ends.now c.settle.new.self c.settle.ensures.steps);
}

pub returns-in-ShowFront : goal.returns-in-ShowFront
returns-in-ShowFront g c = record {
  honest = search rules;
  cause = c.show_front.ensures.cause;
  follows = λ state0 up0 down0 run. c.show_front.ensures.follows state0 up0 down0
      (run-fewer state0 up0 down0 _ _ c.args.ends.now run);
  some = c.show_front.ensures.some;
  runs = same-carries c.show_front.result _ _ _ _ _ _ _ _ c.args.ends.now c.show_front.new.ends c.args.number show_front (seen c.args.line)
      (ap seen c.in-ShowFront.is) (c.show_front.ensures.runs c.args.number);
}

pub returns-in-ShowPage : goal.returns-in-ShowPage
returns-in-ShowPage g c = record {
  honest = search rules;
  cause = sink-cause c.print_page.result _ _ _ c.print_page.ensures.cause;
  follows = λ state0 up0 down0 run.
      kept-run c.print_page.result state0 up0 down0 _ _ c.args.ends.now c.print_page.ensures.never
      (run-fewer state0 up0 down0 _ _ c.args.ends.now run);
  some = some-printed c.print_page.result _ _ _ c.print_page.ensures.ok;
  runs = same-carries c.print_page.result _ _ _ _ _ _ _ _ c.args.ends.now c.args.ends.now c.args.number show_page (seen c.args.line)
      (ap seen c.in-ShowPage.is)
      (page-carries c.print_page.result _ _ _ _ _ c.args.ends.now c.args.number c.page.result.now c.page.ensures c.print_page.ensures.never
      c.print_page.ensures.ok c.print_page.ensures.err);
}

pub returns-in-ShowReplies : goal.returns-in-ShowReplies
returns-in-ShowReplies g c = record {
  honest = search rules;
  cause = c.show_replies.ensures.cause;
  follows = λ state0 up0 down0 run. c.show_replies.ensures.follows state0 up0 down0
      (run-fewer state0 up0 down0 _ _ c.args.ends.now run);
  some = c.show_replies.ensures.some;
  runs = same-carries c.show_replies.result _ _ _ _ _ _ _ _ c.args.ends.now c.show_replies.new.ends c.args.number show_replies
      (seen c.args.line) (ap seen c.in-ShowReplies.is) (c.show_replies.ensures.runs c.args.number);
}

pub returns-in-ShowSheets : goal.returns-in-ShowSheets
returns-in-ShowSheets g c = record {
  honest = search rules;
  cause = c.show_sheets.ensures.cause;
  follows = λ state0 up0 down0 run. c.show_sheets.ensures.follows state0 up0 down0
      (run-fewer state0 up0 down0 _ _ c.args.ends.now run);
  some = c.show_sheets.ensures.some;
  runs = same-carries c.show_sheets.result _ _ _ _ _ _ _ _ c.args.ends.now c.show_sheets.new.ends c.args.number show_sheets
      (seen c.args.line)
      (ap seen c.in-ShowSheets.is) (c.show_sheets.ensures.runs c.args.number);
}

pub returns-in-ShowPauses : goal.returns-in-ShowPauses
returns-in-ShowPauses g c = record {
  honest = search rules;
  cause = c.show_pauses.ensures.cause;
  follows = λ state0 up0 down0 run. c.show_pauses.ensures.follows state0 up0 down0
      (run-fewer state0 up0 down0 _ _ c.args.ends.now run);
  some = c.show_pauses.ensures.some;
  runs = same-carries c.show_pauses.result _ _ _ _ _ _ _ _ c.args.ends.now c.show_pauses.new.ends c.args.number show_pauses
      (seen c.args.line)
      (ap seen c.in-ShowPauses.is) (c.show_pauses.ensures.runs c.args.number);
}

pub returns-in-ShowPanels : goal.returns-in-ShowPanels
returns-in-ShowPanels g c = record {
  honest = search rules;
  cause = c.show_panels.ensures.cause;
  follows = λ state0 up0 down0 run. c.show_panels.ensures.follows state0 up0 down0
      (run-fewer state0 up0 down0 _ _ c.args.ends.now run);
  some = c.show_panels.ensures.some;
  runs = same-carries c.show_panels.result _ _ _ _ _ _ _ _ c.args.ends.now c.show_panels.new.ends c.args.number show_panels
      (seen c.args.line)
      (ap seen c.in-ShowPanels.is) (c.show_panels.ensures.runs c.args.number);
}

pub unreachable-requires : goal.unreachable-requires
unreachable-requires g c =
    let shows : ◌≡◌ {A = Option ℕ} (Some c.in-ShowStyles.field-0) None = sym
    (ap (λ line. styles_ask (seen line)) c.in-ShowStyles.is) ∙ c.requires.plain in absurd cc

pub unreachable-requires-in-Close : goal.unreachable-requires-in-Close
unreachable-requires-in-Close g c =
    let drops : ◌≡◌ {A = Option ℕ} (Some c.in-Close.field-0) None = sym
    (ap (λ line. closed_by (seen line)) c.in-Close.is) ∙ c.requires.keeps in absurd cc
