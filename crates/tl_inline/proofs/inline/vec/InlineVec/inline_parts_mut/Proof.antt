-- `inline_parts_mut` hands on the items that `items_mut` lends where they lie inline, and gives them up where they lie on the heap. It is proved by hand, since it returns an `Option` of a `&mut [T]`. Assumes `Logic`.
use Rattle.std.proofs.Common.{◌≡◌, ◌∙◌, ◌<◌, ◌^◌, ◌++◌, ℕ, Bool, true, false, List, [], ◌∷◌, refl, sym, ap, lit<, length, drop as list_drop}
use Rattle.std.proofs.Math.Seq.{take-append_seam}
use Rattle.std.proofs.raw_atomic.Walks.{proved, leaves}
use Rattle.std.proofs.VecSteps.Shapes.{after}
use Rattle.std.specs.Prelude.{Option, None, Some, not, is_some}
use Rattle.std.specs.contracts.option.Option as option
use base.Fml.{Lft, fres}
use base.Logic.{id⊢, emp, ent}
use contract.Monad.{fact, fact_i}
use contract.Running.{tables}
use denote.Builtin.{RefMutOf, bool}
use denote.Exit.{no}
use denote.Follow.{follows_by}
use denote.FollowSlice.{slice_given_up}
use denote.Laws.{Is, shows}
use denote.Param.{param, number, layouts}
use denote.RattleType.{RattleType, Valss, owns}
use denote.Enum.Row.{tagged_with}
use denote.Enum.Enum.{form_of, in_a_row}
use denote.Enum.Declared.{shape}
use seplogic.Ra.Ura.{Ura}
use types.Logic.{Logic, sem}
use lib.Dec.{T as Holds}
use denote.Ref.{mut_vals, mut_Tells}
use denote.Signature.{plain}
use denote.Slice.{MutSlice, slice_val, mut_slice_vals}
use denote.Steps.{nothing, heard, peeks, only}
use denote.Struct.Tuple.{Tuple}
use denote.Triple.Call.{calls_at}
use denote.Triple.Clauses.{Lasts, lasts}
use denote.Triple.Entry.{alive}
use denote.Triple.Spec.{triple_of}
use denote.Triple.Table.{framed}
use denote.Triple.Walked.{Stays, stay_dropped, walk_of, Goes-spent_ref}
use mir.MapTy.{inst_fn}
use mir.Syntax.{a_type, a_number, named}
use mir.Val.{Val, vbool, vstruct, vcons, vnil, of_list}
use prog.Wp.{Env}
use types.ByLocal.{alloc_all, pass_all, free_all, look_at, look_in_at, get, get_in, through, sets, sets_last, lands_as, env}
use types.Kit.{‵, raw, ◌⊛◌, some, given, later, at_ret, ◌$◌, ◌∵◌, !, qed, by, move, keep, drop, use0, use1, use2, split, join, fsplit, fjoin, feq_l, fpick, fpack, feq_i, done, pick, await, learn, rewrite}
use types.Match.{live}
use types.Part.{agg, sub, whole}
use types.Run.{addr, and_then, branches, enter, exec, first, fld, from, hop, lit, no_more, of_opd, returns, stop}
use Rattle.tl_spec.specs.Tree.Inline.{InlineVec, with_items}
use Rattle.tl_inline.specs.Inner.InlineVecLends.{lends_items}
use Rattle.tl_inline.specs.contracts.inline.vec.InlineVec.{the_row}
use Rattle.tl_inline.specs.contracts.inline.vec.InlineVec.inline_parts_mut as f
use Rattle.tl_inline.specs.contracts.inline.vec.InlineVec.items_mut as g
use Rattle.tl_inline.proofs.inline.vec.InlineVec.items_mut.Met.{met}
use Rattle.tl_inline.proofs.inline.vec.InlineVec.inline_parts_mut.Code as code
use Rattle.tl_inline.proofs.inline.vec.InlineVec.inline_parts_mut.Statement.{statement}

module _ (T : RattleType) (n : ℕ) where
  abbrev Row : RattleType
  Row = the_row (param 0 T) (param 1 (number n))

  abbrev Items : Lft → RattleType
  Items κ = MutSlice (named 0) κ (param 0 T)

  -- what is lent, and what is returned
  abbrev Pair : Lft → RattleType
  Pair κ = Tuple (Items κ ∷ bool ∷ [])

  abbrev Lent : Lft → RattleType
  Lent κ = option.the_row (Items κ)

  abbrev stayed : Stays (f.ended T (number n)).signature.params (f.ended T (number n)).kept
  stayed = (stay_dropped (RefMutOf (0 ∷ []) tt (plain (λ _. Row)) (λ _. tt)) no, tt)

-- a vector whose items are written as they are is as it was
kept : {X : Type 0} (v : InlineVec X) → with_items v v.items ≡ v
kept v = ap (λ (xs : List _). record v { items = xs }) (take-append_seam v.items (list_drop (length v.items) v.items))

-- how the test came out
held_is : (b : Bool) → Holds b → b ≡ true
held_is true h = refl
held_is false h = absurd h

failed_is : (b : Bool) → Holds (not b) → b ≡ false
failed_is false h = refl
failed_is true h = absurd h

-- an option of what is owned, and of nothing
module _ {M : Type 1} {𝓤 : Ura M} (𝓛 : Logic 𝓤) (X : RattleType) where
  some_of : (x : X.Denot) (v : Val) → ent 𝓤 (sem 𝓛 (X.own_val x (v ∷ []))) (sem 𝓛 ((option.the_row X).own_val (Some x) (live 1 (of_list (v ∷ [])) ∷ [])))
  some_of x v =
      qed 𝓛 (‵ (X.own_val x (v ∷ [])) ∷ []) ∵ nothing ! $ move ! (1 ∷ 0 ∷ []) $ fjoin ! $ feq_i ! (List Val) (v ∷ []) (v ∷ []) refl $ fjoin ! $
      fpack ! (Valss (X ∷ [])) (in_a_row (X ∷ []) (owns (X ∷ []) (x, tt)) (v ∷ [])) (v ∷ [], tt) $
      feq_i ! (List Val) (live 1 (of_list (v ∷ [])) ∷ []) (live 1 (of_list (v ∷ [])) ∷ []) refl $ fjoin ! $
      fpack ! (List Val) (tagged_with (form_of (shape (option.the_type X))) (form_of (shape (option.the_type X))).payload ((option.the_type X).to (Some x)) (live 1 (of_list (v ∷ [])) ∷ [])) (v ∷ []) $ done !

  none_of : ent 𝓤 (emp 𝓤) (sem 𝓛 ((option.the_row X).own_val None (live 0 (of_list []) ∷ [])))
  none_of =
      qed 𝓛 [] ∵ nothing ! $ feq_i ! (List Val) [] [] refl $ fjoin ! $ fpack ! (Valss []) (in_a_row [] (owns [] tt) []) tt $
      feq_i ! (List Val) (live 0 (of_list []) ∷ []) (live 0 (of_list []) ∷ []) refl $ fjoin ! $
      fpack ! (List Val) (tagged_with (form_of (shape (option.the_type X))) (form_of (shape (option.the_type X))).payload ((option.the_type X).to None) (live 0 (of_list []) ∷ [])) [] $ done !

pub inline_parts_mut_spec : {M : Type 1} → statement M
unfolding follows_by
inline_parts_mut_spec 𝓤 𝓛 𝓜 𝓡 wired T n LT fits =
    let N = number n in
    let H = 𝓛.H in
    let 𝓣 = tables 𝓤 H 𝓜 𝓡 𝓡.env in
    let En = f.ended T N in
    let inst = layouts (a_type ∷ a_number ∷ []) (T, (N, tt)) in
    let fn = inst_fn inst code.function in
    let c = f.clauses T N 𝓛 𝓜.mem 𝓡.returns in
    let hs = stayed T n in
    proved 𝓛 En hs c 𝓜 𝓡 (Goes-spent_ref 𝓛 3 (0 ∷ []) tt (plain (λ _. Row T n)), tt)
    (f.Key.name inst) fn (code.unfolded 𝓤 H 𝓜 𝓡 wired (T, (N, tt)))
    (λ κs. (mut_vals, tt)) (λ κs. (mut_Tells (named 0) κs.0 (Row T n), tt))
    (λ κs qs bounds a gh are.
    let self = a.0 in
    let ptr = mut_vals self in
    let y : (walk_of 𝓛 En hs c).Ghost = ((κs, qs, bounds, a, (ptr, tt)), gh) in
    let G = triple_of 𝓛 (g.signature T N) (g.spec T N 𝓛 𝓜.mem 𝓡.returns) in
    let z : G.Ghost = ((κs, qs, bounds, (self, tt), (ptr, tt)), gh) in
    let W = walk_of 𝓛 En hs c in
    let tokens = raw (alive 𝓛 En.signature κs qs) in
    let Lender = Row T n in
    let Slice = Items T n κs.0 in
    qed 𝓛 (raw (G.pre z) ∷ []) ∵
    enter ! _ _ _ _ _ $ alloc_all ! (λ l. pass_all ! refl ((tt, tt), tt) $
    let E : Env 𝓤 H = env fn.locals l in
    sets ! (addr ! (through ! refl (stop !))) refl (tt, tt) $
    calls_at ! (framed 𝓤 H 𝓜 𝓣) G (met 𝓤 𝓛 𝓜 𝓡 (code.calls-tl_inline::inline::vec::InlineVec::items_mut 𝓡.env wired) T n LT fits) z
    (and_then ! (get ! refl) (no_more !)) (λ v.
    use1 𝓛 (later (some (λ (r : (Pair T n κs.0).Denot). (tokens ⊛ ‵ ((Pair T n κs.0).own_val r (v ∷ []))) ⊛
    some (λ (ws : Lasts (g.ended T N) κs z.0.3). ‵ (lasts (g.ended T N) κs z.0.3 ws) ⊛
    (‵ (lends_items (param 0 T) (param 1 N) self r) ⊛ (raw (fact 𝓤 (r.0.now ≡ self.now.items)) ⊛ raw (fact 𝓤 (r.1 ≡ self.now.on_heap)))))))) (id⊢ 𝓤 _) $
    await ! tt $ pick ! (λ r. split ! $ split ! $ move ! (1 ∷ []) $ fpick ! (λ vss. fsplit ! $ feq_l ! (λ made. fsplit ! $
    peeks ! Slice (Is Slice) (shows 𝓛 Slice) r.0 vss.0 (λ is-slice. move ! (1 ∷ []) $ fsplit ! $
    feq_l ! (λ is-flag. drop ! $
    let count : ℕ = length r.0.now in
    let place : Val = slice_val r.0.ref_ptr count in
    let is-pair : v ∷ [] ≡ vstruct (vcons place (vcons (vbool r.1) vnil)) ∷ [] = made ∙ (λ i. vstruct (of_list (is-slice.0.0 i ++ (is-flag i ++ []))) ∷ []) in
    let small : count < 2 ^ 64 = is-slice.0.1.0 in
    lands_as ! (ap only is-pair) refl (tt, ((tt, (record { fits = small }, tt)), (tt, tt))) $
    -- [the slice; the tokens; what the call ensures; the locals]
    move ! (2 ∷ []) $ pick ! (λ ws. split ! $ drop ! $ split ! $ move ! (1 ∷ []) $ split ! $ heard ! (r.0.now ≡ self.now.items) (λ same-items. heard ! (r.1 ≡ self.now.on_heap) (λ same-place.
    -- [how the vector follows the slice; the slice; the tokens; the locals]
    sets ! (of_opd ! (get_in ! (fld ! refl (stop !)) (sub ! 0 refl (whole !)))) refl (tt, (tt, (record { fits = small }, tt))) $
    sets ! (of_opd ! (get_in ! (fld ! refl (stop !)) (sub ! 1 refl (whole !)))) refl (tt, tt) $
    sets ! (of_opd ! (get ! refl)) refl (tt, tt) $
    first ! $ branches ! (get ! refl)
    (λ on-heap. move ! (1 ∷ 0 ∷ []) $
    -- the slice is given up as it is, so the vector stays as it is
    use2 𝓛 (later (given (vss.0 ≡ mut_slice_vals r.0) (‵ (fres self.ghost_name (Lender.coded.code (with_items self.now r.0.now))))))
    (slice_given_up 𝓛 Lender (param 0 T) (with_items self.now) (named 0) κs.0 self.ghost_name r.0 vss.0) $ await ! tt $ learn ! (λ _.
    rewrite ! 0 (λ (w : InlineVec T.Denot). ‵ (fres self.ghost_name (Lender.coded.code w))) (ap (with_items self.now) same-items ∙ kept self.now) refl $
    sets_last ! (agg ! (and_then ! (lit ! tt) (no_more !))) refl (tt, (record { fits = lit< tt }, tt)) $
    exec ! 𝓣.C 𝓣.Λ E (after 6 fn.body) (at_ret E (W.post y)) $
    sets ! (of_opd ! (get ! refl)) refl (tt, (record { fits = lit< tt }, tt)) $
    returns ! (look_at ! 0 refl) $ free_all ! refl $
    -- [what the vector ends as; the tokens]
    let none : Option Slice.Denot = None in
    let Variant = is_some none ≡ not self.now.on_heap in
    use0 𝓛 (raw (fact 𝓤 Variant)) (fact_i 𝓤 Variant (emp 𝓤) (ap not (sym (held_is r.1 on-heap) ∙ same-place))) $
    use0 𝓛 (raw (fact 𝓤 (Unit {0}))) (fact_i 𝓤 (Unit {0}) (emp 𝓤) tt) $
    move ! (1 ∷ 0 ∷ []) $ join ! $ move ! (1 ∷ 0 ∷ []) $ join ! $
    use0 𝓛 (‵ ((Lent T n κs.0).own_val None (live 0 (of_list []) ∷ []))) (none_of 𝓛 Slice) $
    nothing ! $ nothing ! $ fjoin ! $ keep ! (3 ∷ 0 ∷ 1 ∷ 2 ∷ []) $ by ! (leaves 𝓛 En hs c y (live 0 (of_list [])) None (tt, tt) (tt, tt))))
    (λ inline.
    sets ! (addr ! (from ! (fld ! refl (hop ! (look_in_at ! 2 (sub ! 0 refl (whole !))) (stop !))))) refl (tt, tt) $
    sets ! (agg ! (and_then ! (get ! refl) (and_then ! (get_in ! (fld ! refl (stop !)) (sub ! 1 refl (whole !))) (no_more !)))) refl (tt, (tt, (record { fits = small }, tt))) $
    sets_last ! (agg ! (and_then ! (lit ! tt) (and_then ! (get ! refl) (no_more !)))) refl (tt, (record { fits = lit< tt }, ((tt, (record { fits = small }, tt)), tt))) $
    exec ! 𝓣.C 𝓣.Λ E (after 6 fn.body) (at_ret E (W.post y)) $
    sets ! (of_opd ! (get ! refl)) refl (tt, (record { fits = lit< tt }, ((tt, (record { fits = small }, tt)), tt))) $
    returns ! (look_at ! 0 refl) $ free_all ! refl $
    -- [how the vector follows the slice; the slice; the tokens]
    rewrite ! 1 (λ (us : List Val). ‵ (Slice.own_val r.0 us)) is-slice.0.0 refl $ move ! (1 ∷ []) $
    use1 𝓛 (‵ ((Lent T n κs.0).own_val (Some r.0) (live 1 (of_list (place ∷ [])) ∷ []))) (some_of 𝓛 Slice r.0 place) $
    let Variant = is_some (Some r.0) ≡ not self.now.on_heap in
    use0 𝓛 (raw (fact 𝓤 (r.0.now ≡ self.now.items))) (fact_i 𝓤 (r.0.now ≡ self.now.items) (emp 𝓤) same-items) $
    use0 𝓛 (raw (fact 𝓤 Variant)) (fact_i 𝓤 Variant (emp 𝓤) (ap not (sym (failed_is r.1 inline) ∙ same-place))) $
    join ! $ move ! (2 ∷ 0 ∷ []) $ join ! $
    nothing ! $ nothing ! $ fjoin ! $ keep ! (3 ∷ 0 ∷ 2 ∷ 1 ∷ []) $ by ! (leaves 𝓛 En hs c y (live 1 (of_list (place ∷ []))) (Some r.0) (tt, tt) (tt, tt))))))))))))))
