-- `new` makes a value of no bytes, at these flushes. It is proved by hand, since the value holds what only proofs read. Assumes `Logic`.
use Rattle.std.proofs.Common.{false, [], ◌∷◌, refl}
use Rattle.std.proofs.raw_atomic.Walks.{proved}
use contract.Running.{tables}
use denote.Shadow.{pure_i}
use denote.Steps.{nothing}
use denote.Triple.Entry.{on_entry}
use denote.Triple.Walked.{says, ends_at}
use mir.Val.{vstruct, vnil}
use types.ByLocal.{alloc_all, pass_all, free_all, look_at, sets}
use types.Kit.{raw, ◌$◌, ◌∵◌, !, qed, keep, join, suffices, done}
use types.Part.{agg}
use types.Run.{no_more, returns, enter}
use Rattle.tl_program.specs.declared.program.flush_count.Flushes.{Flushes}
use Rattle.tl_program.specs.contracts.program.flush_count.Flushes.{the_row as R}
use Rattle.tl_program.specs.contracts.program.flush_count.Flushes.new as f
use Rattle.tl_program.proofs.program.flush_count.Flushes.new.Code as code
use Rattle.tl_program.proofs.program.flush_count.Flushes.new.Statement.{statement}

abbrev made : Flushes
made = record { count = 0; is_last = false }

pub new_spec : {M : Type 1} → statement M
new_spec 𝓤 𝓛 𝓜 𝓡 wired =
    let c = f.clauses 𝓛 𝓜.mem 𝓡.returns in let 𝓣 = tables 𝓤 𝓛.H 𝓜 𝓡 𝓡.env in
    proved 𝓛 f.ended tt c 𝓜 𝓡 tt f.Key.name code.function (code.unfolded 𝓤 𝓛.H 𝓜 𝓡 wired)
    (λ κs. tt) (λ κs. tt) (λ κs qs bounds a g _.
    qed 𝓛 (raw (on_entry 𝓛 f.signature κs qs a tt) ∷ raw ((c κs a).requires g) ∷ []) ∵ keep ! [] $
    enter ! 𝓣.C 𝓣.Λ code.function [] _ $ alloc_all ! (λ l. pass_all ! refl tt $
    sets ! (agg ! (no_more !)) refl (tt, tt) $
    returns ! (look_at ! 0 refl) $ free_all ! refl $
    pure_i ! (R.own_val made (vstruct vnil ∷ [])) ((λ vss. (tt, tt)), tt) ((tt, (refl, tt)), tt) $
    suffices ! _ (ends_at 𝓛 f.ended tt c ((κs, qs, bounds, a, tt), g) (vstruct vnil) made tt tt) $ says ! refl $
    nothing ! $ join ! $ nothing ! $ done !))
