-- `get_mut` hands its table and its handle on, and lends what that call lends. It is proved by hand, since the table isn't its first parameter. Assumes `Logic`.
use Rattle.std.proofs.Common.{[], ◌∷◌, refl}
use Rattle.std.proofs.raw_atomic.Walks.{proved, leaves}
use Rattle.std.specs.contracts.option.Option as option
use Rattle.std.proofs.option.Option.TheLaws.{the_row_laws as option_laws}
use base.Fml.{Lft}
use base.Logic.{id⊢}
use contract.Running.{tables}
use denote.Builtin.{RefMutOf}
use denote.Exit.{yes, no}
use denote.Laws.{Is, shows}
use denote.Param.{param, bounded}
use denote.Param.Laws.{Laws, of_field, param_laws, row_shared}
use denote.Param.Shared.{mut_ref_shared}
use denote.RattleType.{RattleType, owns}
use denote.Ref.{NamedLft, MutRef, mut_vals, mut_Tells}
use denote.Signature.{plain, types_at}
use denote.Steps.{nothing, peeks}
use denote.Struct.Field.{mut_ref_field}
use denote.Struct.Laws.{mut_ref_laws}
use denote.Triple.Call.{calls_at}
use denote.Triple.Clauses.{Lasts, lasts, at_exit}
use denote.Triple.Entry.{alive}
use denote.Triple.Spec.{triple_of}
use denote.Triple.Table.{framed}
use denote.Triple.Walked.{Stays, stay_dropped, walk_of, Goes-dropped, Goes-spent_ref}
use mir.MapTy.{inst_fn}
use mir.Syntax.{Dict, a_type, dcons, dnil, named}
use types.ByLocal.{alloc_all, pass_all, free_all, look_at, get, through, sets, lands_as}
use types.Kit.{‵, raw, ◌⊛◌, some, later, ◌$◌, ◌∵◌, !, qed, by, move, keep, use1, use2, split, join, fsplit, fjoin, pick, await}
use types.Run.{enter, addr, stop, no_more, and_then, returns}
use Rattle.tl_table.specs.contracts.handle.NodeHandle.{the_row as handle_row}
use Rattle.tl_table.proofs.handle.NodeHandle.TheLaws.{the_told as handle_told, the_row_laws as handle_laws}
use Rattle.tl_table.specs.contracts.handle.NodeHandle.get_mut as f
use Rattle.tl_table.specs.contracts.handle.node_mut as g
use Rattle.tl_table.proofs.handle.node_mut.Met.{met}
use Rattle.tl_table.specs.declared.table.Table.{Ghosts}
use Rattle.tl_table.proofs.handle.NodeHandle.get_mut.Code as code
use Rattle.tl_table.proofs.handle.NodeHandle.get_mut.Statement.{statement}

module _ (T N : RattleType) where
  abbrev Node : RattleType
  Node = param 1 N

  abbrev Table : RattleType
  Table = param 0 T

  -- the type of what is lent
  abbrev Lent : Lft → RattleType
  Lent κ = option.the_row (MutRef (named 0) κ Node)

  lent_laws : Laws N → (κ : Lft) → Laws (Lent κ)
  lent_laws LN κ =
      let to : NamedLft = record { mir = named 0; lft = κ } in
      option_laws (MutRef (named 0) κ Node) (of_field (mut_ref_field to Node tt) (mut_ref_laws to Node tt) refl (mut_ref_shared to Node tt (row_shared Node (param_laws 1 N LN))))

  module _ (o : Ghosts T.Denot N.Denot) (d : Dict) where
    abbrev stayed : Stays (f.ended T N o d).signature.params (f.ended T N o d).kept
    stayed = (stay_dropped (plain (λ _. handle_row)) yes, (stay_dropped (RefMutOf (0 ∷ []) tt (plain (λ _. Table)) (λ _. tt)) no, tt))

pub get_mut_spec : {M : Type 1} → statement M
get_mut_spec 𝓤 𝓛 𝓜 𝓡 wired T N LT LN o d met_o =
    let H = 𝓛.H in
    let 𝓣 = tables 𝓤 H 𝓜 𝓡 𝓡.env in
    let En = f.ended T N o d in
    let inst = bounded (a_type ∷ a_type ∷ []) (T, (N, tt)) (dcons d dnil) in
    let fn = inst_fn inst code.function in
    let clauses = f.clauses T N o d 𝓛 𝓜.mem 𝓡.returns in
    let hs = stayed T N o d in
    proved 𝓛 En hs clauses 𝓜 𝓡
    (Goes-dropped 𝓛 3 (plain (λ _. handle_row)) yes (λ κs x h. refl), (Goes-spent_ref 𝓛 3 (0 ∷ []) tt (plain (λ _. Table T N)), tt))
    (f.Key.name inst) fn (code.unfolded 𝓤 H 𝓜 𝓡 wired (T, (N, tt)) d)
    (λ κs. ((λ x. handle_told.val x ∷ []), (mut_vals, tt))) (λ κs. (handle_told.tells, (mut_Tells (named 0) κs.0 (Table T N), tt)))
    (λ κs qs bounds a gh are.
    let handle = handle_told.val a.0 in
    let ptr = mut_vals a.1.0 in
    let y : (walk_of 𝓛 En hs clauses).Ghost = ((κs, qs, bounds, a, (handle ∷ [], (ptr, tt))), gh) in
    let Opt = Lent T N κs.0 in
    let G = triple_of 𝓛 (g.signature T N) (g.spec T N o d 𝓛 𝓜.mem 𝓡.returns) in
    let z : G.Ghost = ((κs, qs, bounds, (a.1.0, (a.0, tt)), (ptr, (handle ∷ [], tt))), gh) in
    qed 𝓛 ((raw (alive 𝓛 En.signature κs qs) ⊛ ‵ (owns (types_at En.signature.params κs) a y.0.4)) ∷ raw ((clauses κs a).requires gh) ∷ []) ∵
    split ! $ move ! (1 ∷ []) $ fsplit ! $ move ! (1 ∷ []) $ fsplit ! $ keep ! (3 ∷ 0 ∷ 2 ∷ 4 ∷ []) $
    enter ! _ _ _ _ _ $ alloc_all ! (λ l. pass_all ! refl (((handle_laws.lawful 𝓛).typed a.0 (handle ∷ []) are.0).0, ((tt, tt), tt)) $
    sets ! (addr ! (through ! refl (stop !))) refl (tt, tt) $
    -- [the tokens; the table's reference; the number; the bounds on lifetimes; the locals]
    move ! (2 ∷ []) $ nothing ! $ move ! (1 ∷ 0 ∷ []) $ fjoin ! $ move ! (2 ∷ 0 ∷ []) $ fjoin ! $ move ! (1 ∷ 0 ∷ []) $ join ! $ use2 𝓛 (raw (G.pre z)) (id⊢ 𝓤 _) $
    calls_at ! (framed 𝓤 H 𝓜 𝓣) G (met 𝓤 𝓛 𝓜 𝓡 (code.calls-tl_table::handle::node_mut 𝓡.env wired) T N LT LN o d met_o) z
    (and_then ! (get ! refl) (and_then ! (get ! refl) (no_more !))) (λ v.
    use1 𝓛 (later (some (λ (r : Opt.Denot). (raw (alive 𝓛 En.signature κs qs) ⊛ ‵ (Opt.own_val r (v ∷ []))) ⊛
    some (λ (ws : Lasts (g.ended T N o d) κs z.0.3). ‵ (lasts (g.ended T N o d) κs z.0.3 ws) ⊛ raw ((g.clauses T N o d 𝓛 𝓜.mem 𝓡.returns κs z.0.3).ensures gh r (at_exit (g.ended T N o d) κs z.0.3 ws)))))) (id⊢ 𝓤 _) $
    await ! tt $ pick ! (λ r. split ! $ split ! $ move ! (1 ∷ []) $ peeks ! Opt (Is Opt) (shows 𝓛 Opt) r (v ∷ []) (λ is.
    lands_as ! refl refl (((lent_laws T N LN κs.0).lawful 𝓛).typed r (v ∷ []) is).0 $
    returns ! (look_at ! 0 refl) $ free_all ! refl $
    -- [what is lent; the tokens; what the call ensures]
    move ! (2 ∷ []) $ pick ! (λ ws. split ! $ nothing ! $ nothing ! $ fjoin ! $ nothing ! $ fjoin ! $
    -- [what is left of the parameters: nothing; the same of the call's; what it ensures; what is lent; the tokens]
    keep ! (4 ∷ 0 ∷ 3 ∷ 2 ∷ []) $ by ! (leaves 𝓛 En hs clauses y v r (tt, (tt, tt)) (tt, (tt, tt)))))))))
