-- `with` makes the struct of no bytes, with the ghost bytes that its clause names.
use Rattle.std.proofs.Common.{[], ◌∷◌, ◌++◌, refl}
use Rattle.std.proofs.raw_atomic.Walks.{proved}
use Rattle.std.specs.contracts.alloc.Global as global
use Rattle.std.specs.contracts.impls.GlobalAllocator.TheImpl as for_global
use Rattle.std.specs.contracts.vec.Vec as vec
use Rattle.pipe_frames.specs.contracts.given.Given as given
use Rattle.pipe_frames.specs.contracts.given.Given.with as f
use Rattle.pipe_frames.proofs.given.Given.with.Statement.{statement}
use Rattle.pipe_frames.proofs.given.Given.with.Code as code
use base.Logic.{emp}
use denote.Builtin.{u8}
use denote.Exit.{yes}
use denote.RattleType.{RattleType, owns}
use denote.Ref.{shr_vals, shr_Tells}
use denote.Shadow.{pure_i}
use denote.Signature.{plain, types_at}
use denote.Triple.Entry.{alive}
use denote.Triple.Walked.{says, stay_none_ref, Goes-none_ref, Stays, walk_of, ends_at}
use mir.Syntax.{named}
use mir.Val.{vptr, vstruct, vnil}
use types.ByLocal.{alloc_all, pass_all, free_all, look_at, sets}
use types.Kit.{‵, raw, ◌⊛◌, ◌$◌, ◌∵◌, !, qed, done, drop, move, split, suffices}
use types.Part.{agg}
use types.Run.{enter, no_more, returns}

abbrev bytes_row : RattleType
bytes_row = vec.the_row u8 global.the_row for_global.ghosts

abbrev stayed : Stays f.ended.signature.params f.ended.kept
stayed = (
  stay_none_ref (0 ∷ []) tt (plain (λ _. given.the_row)) yes,
  (stay_none_ref (1 ∷ []) tt (plain (λ _. bytes_row)) yes, tt),
)

pub with_spec : {M : Type 1} → statement M
with_spec 𝓤 𝓛 𝓜 𝓡 wired =
    let c = f.clauses 𝓛 𝓜.mem 𝓡.returns in let W = walk_of 𝓛 f.ended stayed c in
    proved 𝓛 f.ended stayed c 𝓜 𝓡 (
      Goes-none_ref 𝓛 2 (0 ∷ []) tt (plain (λ _. given.the_row)) yes,
      (Goes-none_ref 𝓛 2 (1 ∷ []) tt (plain (λ _. bytes_row)) yes, tt),
    ) f.Key.name code.function (code.unfolded 𝓤 𝓛.H 𝓜 𝓡 wired)
    (λ κs. (shr_vals, (shr_vals, tt)))
    (λ κs. (shr_Tells (named 0) κs.0 given.the_row, (shr_Tells (named 1) κs.1.0 bytes_row, tt)))
    (λ κs qs bounds a _ are.
    let before = vptr a.0.ref_ptr.0 a.0.ref_ptr.1 in let more = vptr a.1.0.ref_ptr.0 a.1.0.ref_ptr.1 in
    let y : W.Ghost = ((κs, qs, bounds, a, (before ∷ [], (more ∷ [], tt))), tt) in
    let made : given.the_row.Denot = record { bytes = a.0.now.bytes ++ a.1.0.now.items } in
    qed 𝓛 ((raw (alive 𝓛 f.signature κs qs) ⊛ ‵ (owns (types_at f.signature.params κs) a y.0.4)) ∷ raw (emp 𝓤) ∷ []) ∵
    move ! (1 ∷ []) $ drop ! $ split ! $
    enter ! _ _ _ _ _ $ alloc_all ! (λ l. pass_all ! refl ((tt, tt), ((tt, tt), tt)) $
    sets ! (agg ! (no_more !)) refl (tt, tt) $
    returns ! (look_at ! 0 refl) $ free_all ! refl $
    suffices ! _ (ends_at 𝓛 f.ended stayed c y (vstruct vnil) made (tt, (tt, tt)) (tt, (tt, tt))) $ says ! refl $
    pure_i ! (given.the_row.own_val made (vstruct vnil ∷ [])) ((λ vss. (tt, tt)), tt) ((tt, (refl, tt)), tt) $
    move ! (1 ∷ 2 ∷ 0 ∷ []) $ done !))
