-- `get_mut` hands its table and its key on, and lends what that call lends. It is proved by hand, since it returns an `Option` of an `Option` of a `&mut`. Assumes `Logic`.
use Prim.Native.Nat.{◌<◌, ◌^◌}
use Rattle.std.proofs.Common.{◌≡◌, ◌∙◌, List, [], ◌∷◌, ◌++◌, refl, sym, ap, subst, Bool, true, false}
use Rattle.std.proofs.raw_atomic.Walks.{proved_at, leaves}
use Rattle.std.specs.Prelude.{Option, Result, Ok, Err, option_map}
use Rattle.std.specs.Option.{option_copied_mut, option_flatten, ghost_name_of}
use Rattle.std.specs.Borrow.{follows_if, name_if_ok}
use Rattle.std.specs.contracts.option.Option as option
use Rattle.std.specs.contracts.result.Result as result
use Rattle.std.proofs.option.Option.TheLaws.{the_row_laws as option_laws}
use Rattle.std.proofs.result.Result.TheLaws.{the_row_laws as result_laws}
use base.Fml.{Fml, GName, Lft, ftrue}
use base.Logic.{ent, emp, id⊢}
use contract.BorrowLft.{◌⊑◌}
use contract.Monad.{fact, fact_i}
use contract.Running.{tables}
use mathlib.Core.Option
use denote.Builtin.{RefMutOf, bool}
use denote.Exit.{no}
use denote.Laws.{Is, shows}
use denote.Param.{param, layout, bounded}
use denote.Param.Laws.{Laws, of_field, param_laws, row_shared}
use denote.Param.Shared.{mut_ref_shared, copy_shared}
use denote.RattleType.{RattleType, owns}
use denote.Ref.{NamedLft, MutRef, MutBor, mut_vals, mut_Tells}
use denote.Signature.{plain, types_at}
use denote.Steps.{nothing, only, heard, peeks}
use denote.Struct.Field.{bool-field, mut_ref_field}
use denote.Struct.Laws.{bool-laws, bool-copy, mut_ref_laws}
use denote.Struct.Members.{Lone}
use denote.Triple.Call.{calls_at}
use denote.Triple.Clauses.{Lasts, lasts}
use denote.Triple.Entry.{alive}
use denote.Triple.Spec.{triple_of}
use denote.Triple.Table.{framed}
use denote.Triple.Walked.{Stays, stay_dropped, walk_of, Goes-dropped, Goes-spent_ref}
use mir.MapTy.{inst_fn}
use mir.Syntax.{a_type, dcons, dnil, named}
use mir.Val.{Val}
use prog.Memory.{size}
use prog.Wp.{WpFn}
use types.ByLocal.{alloc_all, pass_all, free_all, look_at, get, through, sets, lands_as}
use types.Kit.{‵, raw, ◌⊛◌, some, later, ◌$◌, ◌∵◌, !, qed, by, move, keep, drop, use0, use1, split, join, fsplit, fjoin, pick, await, rewrite}
use types.Run.{enter, addr, stop, of_opd, no_more, and_then, returns}
use Rattle.tl_spec.specs.Edit.Attribute.{value_at, with_value_at}
use Rattle.tl_attributes.specs.Attributes.{nest}
use Rattle.tl_attributes.specs.Inner.AttributesLends.{LendsValueAtOk, PieceMembers}
use Rattle.tl_attributes.specs.contracts.attributes.AttributesOf.{the_row as attributes_row}
use Rattle.tl_attributes.specs.contracts.attributes.AttributesOf.get_mut as f
use Rattle.tl_attributes.specs.contracts.attributes.AttributesOf.value_or_presence_mut as g
use Rattle.tl_attributes.specs.contracts.attributes.nest as h
use Rattle.tl_attributes.proofs.attributes.AttributesOf.value_or_presence_mut.Met.{met as met_lends}
use Rattle.tl_attributes.proofs.attributes.nest.Met.{met as met_wraps}
use Rattle.tl_attributes.proofs.attributes.AttributesOf.get_mut.Code as code
use Rattle.tl_attributes.proofs.attributes.AttributesOf.get_mut.Statement.{statement}

-- the wrap keeps the name of what is lent
named_alike : {D : Type 0} (r : Result (MutBor D) Bool) → name_if_ok (λ x. x.ghost_name) r ≡ ghost_name_of (option_flatten (nest r))
named_alike (Ok x) = refl
named_alike (Err true) = refl
named_alike (Err false) = refl

module _ (B : RattleType) (LB : Laws B) (κ : Lft) where
  abbrev Mut : RattleType
  Mut = MutRef (named 0) κ (param 0 B)

  mut_laws : Laws Mut
  mut_laws =
      let to : NamedLft = record { mir = named 0; lft = κ } in
      of_field (mut_ref_field to (param 0 B) tt) (mut_ref_laws to (param 0 B) tt) refl (mut_ref_shared to (param 0 B) tt (row_shared (param 0 B) (param_laws 0 B LB)))

  -- what the first call answers, and what is returned
  abbrev Answer : RattleType
  Answer = result.the_row Mut bool

  abbrev Lent : RattleType
  Lent = option.the_row (option.the_row Mut)

  answer_laws : Laws Answer
  answer_laws = result_laws Mut bool mut_laws (of_field bool-field bool-laws refl (copy_shared bool-field bool-copy))

  lent_laws : Laws Lent
  lent_laws = option_laws (option.the_row Mut) (option_laws Mut mut_laws)

-- a value of a parameter's type is stored as one machine value
one_value : (vs : List Val) → Lone vs → vs ≡ only vs ∷ []
one_value [] l = absurd l
one_value (v ∷ []) l = refl
one_value (v ∷ u ∷ us) l = absurd l

pub get_mut_spec : {M : Type 1} → statement M
get_mut_spec 𝓤 𝓛 𝓜 𝓡 wired B LB p dp e de q dq k dk dd mp me mq mk md =
    let H = 𝓛.H in
    let 𝓣 = tables 𝓤 H 𝓜 𝓡 𝓡.env in
    let En = f.ended B p dp e de q dq k dk dd in
    let inst = bounded (a_type ∷ []) (B, tt) (dcons dp (dcons de (dcons dq (dcons dk (dcons dd dnil))))) in
    let fn = inst_fn inst code.function in
    let c = f.clauses B p dp e de q dq k dk dd 𝓛 𝓜.mem 𝓡.returns in
    let P : RattleType = param 0 B in
    let Row : RattleType = attributes_row P p q k in
    let hs : Stays En.signature.params En.kept = (stay_dropped (RefMutOf (0 ∷ []) tt (plain (λ _. Row)) (λ _. tt)) no, (stay_dropped (plain (λ _. P)) no, tt)) in
    let W = walk_of 𝓛 En hs c in
    let lends = met_lends 𝓤 𝓛 𝓜 𝓡 (code.calls-tl_attributes::attributes::AttributesOf::value_or_presence_mut 𝓡.env wired) B LB p dp e de q dq k dk dd mp me mq mk md in
    let wraps = met_wraps 𝓤 𝓛 𝓜 𝓡 (code.calls-tl_attributes::attributes::nest 𝓡.env wired) B LB in
    let G = triple_of 𝓛 (g.signature B p dp e de q dq k dk dd) (g.spec B p dp e de q dq k dk dd 𝓛 𝓜.mem 𝓡.returns) in
    let N = triple_of 𝓛 (h.signature B) (h.spec B 𝓛 𝓜.mem 𝓡.returns) in
    proved_at 𝓛 En hs c 𝓜 𝓡 (Goes-spent_ref 𝓛 2 (0 ∷ []) tt (plain (λ _. Row)), (Goes-dropped 𝓛 2 (plain (λ _. P)) no (λ κs x w. refl), tt))
    (f.Key.name inst) fn (code.unfolded 𝓤 H 𝓜 𝓡 wired (B, tt) dp de dq dk dd)
    (λ z are.
    let κs = z.0.0 in
    let qs = z.0.1 in
    let bounds = z.0.2 in
    let self = z.0.3.0 in
    let key = z.0.3.1.0 in
    let Ans = Answer B LB κs.0 in
    let Opt = Lent B LB κs.0 in
    let inside = κs.1.0 ⊑ B.lives in
    let small = size (layout Row) < 2 ^ 63 in
    let tokens = raw (alive 𝓛 En.signature κs qs) in
    let value : Option (Option (MutBor B.Denot)) → Type 0 = λ r. option_map option_copied_mut r ≡ value_at p.list q.eq self.now key in
    let members : PieceMembers B.Denot = record { hash_input = k.hash_input; eq = q.eq; list = p.list } in
    let Follows : mathlib.Core.Option.Option GName → Fml = λ m. follows_if Row P self.ghost_name m (with_value_at p.list q.eq self.now key) self.now in
    let ghost : List Val → List Val → W.Ghost = λ us ws. ((κs, qs, bounds, (self, (key, tt)), (us, (ws, tt))), tt) in
    let Goes = λ (us : List Val) (ws : List Val). ent 𝓤 (W.pre (ghost us ws)) (WpFn 𝓤 H 𝓣.C 𝓣.Λ fn (us ++ (ws ++ [])) (W.post (ghost us ws))) in
    let walk : (v : Val) → Is P key (v ∷ []) → Goes (mut_vals self) (v ∷ []) = λ v is-key.
    let y = ghost (mut_vals self) (v ∷ []) in
    let z₁ : G.Ghost = ((κs, qs, bounds, (self, (key, tt)), (mut_vals self, (v ∷ [], tt))), tt) in
    let fits = (((param_laws 0 B LB).lawful 𝓛).typed key (v ∷ []) is-key).0 in
    qed 𝓛 ((tokens ⊛ ‵ (owns (types_at En.signature.params κs) (self, (key, tt)) y.0.4)) ∷ raw (fact 𝓤 inside) ∷ raw (fact 𝓤 small) ∷ ‵ ftrue ∷ []) ∵
    move ! (1 ∷ 2 ∷ []) $ heard ! inside (λ is-inside. heard ! small (λ is-small.
    split ! $ move ! (1 ∷ []) $ fsplit ! $ move ! (1 ∷ []) $ fsplit ! $ keep ! (3 ∷ 2 ∷ 0 ∷ []) $
    enter ! _ _ _ _ _ $ alloc_all ! (λ l. pass_all ! refl ((tt, tt), (fits, tt)) $
    sets ! (addr ! (through ! refl (stop !))) refl (tt, tt) $ sets ! (of_opd ! (get ! refl)) refl fits $
    -- [the tokens; the attributes' reference; the key; the locals]
    nothing ! $ move ! (3 ∷ 0 ∷ []) $ fjoin ! $ move ! (2 ∷ 0 ∷ []) $ fjoin ! $ move ! (1 ∷ 0 ∷ []) $ join ! $
    nothing ! $ use0 𝓛 (raw (fact 𝓤 small)) (fact_i 𝓤 small (emp 𝓤) is-small) $ join ! $ use0 𝓛 (raw (fact 𝓤 inside)) (fact_i 𝓤 inside (emp 𝓤) is-inside) $ join ! $
    move ! (1 ∷ 0 ∷ []) $ join ! $ use1 𝓛 (raw (G.pre z₁)) (id⊢ 𝓤 _) $
    calls_at ! (framed 𝓤 H 𝓜 𝓣) G lends z₁ (and_then ! (get ! refl) (and_then ! (get ! refl) (no_more !))) (λ u.
    use1 𝓛 (later (some (λ (r : Ans.Denot). (tokens ⊛ ‵ (Ans.own_val r (u ∷ []))) ⊛
    some (λ (ws : Lasts (g.ended B p dp e de q dq k dk dd) κs z₁.0.3). ‵ (lasts (g.ended B p dp e de q dq k dk dd) κs z₁.0.3 ws) ⊛
    (‵ (LendsValueAtOk P members self key r) ⊛ raw (fact 𝓤 (value (nest r)))))))) (id⊢ 𝓤 _) $
    await ! tt $ pick ! (λ r. split ! $ split ! $ move ! (1 ∷ []) $ peeks ! Ans (Is Ans) (shows 𝓛 Ans) r (u ∷ []) (λ is-answer.
    let answer-fits = (((answer_laws B LB κs.0).lawful 𝓛).typed r (u ∷ []) is-answer).0 in
    let z₂ : N.Ghost = ((κs, qs, bounds, (r, tt), (u ∷ [], tt)), tt) in
    lands_as ! refl refl answer-fits $
    move ! (2 ∷ []) $ pick ! (λ ws. split ! $ drop ! $ split ! $ move ! (1 ∷ []) $ heard ! (value (nest r)) (λ is-value.
    -- [how the attributes follow what is lent; the answer; the tokens; the locals]
    nothing ! $ move ! (2 ∷ 0 ∷ []) $ fjoin ! $ move ! (2 ∷ 0 ∷ []) $ join ! $
    nothing ! $ use0 𝓛 (raw (fact 𝓤 inside)) (fact_i 𝓤 inside (emp 𝓤) is-inside) $ join ! $
    move ! (1 ∷ 0 ∷ []) $ join ! $ use1 𝓛 (raw (N.pre z₂)) (id⊢ 𝓤 _) $
    calls_at ! (framed 𝓤 H 𝓜 𝓣) N wraps z₂ (and_then ! (get ! refl) (no_more !)) (λ w.
    use1 𝓛 (later (some (λ (x : Opt.Denot). (tokens ⊛ ‵ (Opt.own_val x (w ∷ []))) ⊛
    some (λ (vs : Lasts (h.ended B) κs z₂.0.3). ‵ (lasts (h.ended B) κs z₂.0.3 vs) ⊛ raw (fact 𝓤 (x ≡ nest r)))))) (id⊢ 𝓤 _) $
    await ! tt $ pick ! (λ x. split ! $ split ! $ move ! (1 ∷ []) $ peeks ! Opt (Is Opt) (shows 𝓛 Opt) x (w ∷ []) (λ is-lent.
    lands_as ! refl refl (((lent_laws B LB κs.0).lawful 𝓛).typed x (w ∷ []) is-lent).0 $
    move ! (2 ∷ []) $ pick ! (λ vs. split ! $ drop ! $ heard ! (x ≡ nest r) (λ is-nested.
    returns ! (look_at ! 0 refl) $ free_all ! refl $
    -- [what is lent; the tokens; how the attributes follow it]
    move ! (2 ∷ []) $ rewrite ! 0 (λ (m : mathlib.Core.Option.Option GName). ‵ (Follows m)) (named_alike r ∙ ap (λ t. ghost_name_of (option_flatten t)) (sym is-nested)) refl $
    let Shown = value x in
    use0 𝓛 (raw (fact 𝓤 Shown)) (fact_i 𝓤 Shown (emp 𝓤) (ap (option_map option_copied_mut) is-nested ∙ is-value)) $ move ! (1 ∷ 0 ∷ []) $ join ! $
    nothing ! $ nothing ! $ fjoin ! $ nothing ! $ fjoin ! $
    keep ! (3 ∷ 0 ∷ 2 ∷ 1 ∷ []) $ by ! (leaves 𝓛 En hs c y w x (tt, (tt, tt)) (tt, (tt, tt))))))))))))))))
    in
    subst (λ (us : List Val). Goes us z.0.4.1.0) (sym (mut_Tells (named 0) κs.0 Row self z.0.4.0 are.0))
    (subst (λ (ws : List Val). Is P key ws → Goes (mut_vals self) ws) (sym (one_value z.0.4.1.0 (LB.single key z.0.4.1.0 are.1.0))) (walk (only z.0.4.1.0)) are.1.0))
