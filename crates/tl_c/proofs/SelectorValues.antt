-- The machine values of a `Compiled`. Assumes `Logic`.
use Rattle.std.proofs.Common.{◌≡◌, ℕ, List, [], ◌∷◌, ◌++◌, refl, subst, lit<}
use mathlib.Core.Bool.{true, ◌&&◌}
use lib.Dec.{T}
use seplogic.Ra.Ura.{Ura}
use mir.Syntax.{impl, ty_ptr, tnil, dnil}
use mir.Raw.{raw as bare}
use mir.Val.{Val, vptr, vnull, vstruct, vcons, vnil, of_list, has_ty, WT}
use base.Fraction.{full_share}
use base.Fml.{ftrue}
use base.Logic.{ent, guard, guard_i, never, via, fst∗, snd∗}
use types.Logic.{Logic, sem}
use types.Kit.{Item, Goal, Seq, Step, step, ‵, given, ◌$◌, move, drop, use1, learn, fsplit, fjoin, fpick, fpack, feq_i, feq_l}
use contract.Monad.{fact_use}
use denote.RattleType.{RattleType, Valss}
use denote.Builtin.{RawPtr}
use denote.Memory.{lone}
use denote.RawPtr.{Ptr, block_ptr, null_ptr, ptr_val, in_a_block, lies_at, Testable}
use denote.Steps.{nothing}
use denote.Param.{layout}
use denote.Param.Laws.{Laws}
use denote.Struct.Struct.{within}
use denote.Struct.Owning.{fields, shape, to}
use Rattle.std.specs.declared.alloc.Allocator.{Ghosts}
use Rattle.std.proofs.alloc.Calls.{Al, handle_tells}
use Rattle.std.proofs.cell.Inside.{Good}
use Rattle.std.specs.Prelude.{Option, None, Some}
use Rattle.std.specs.declared.alloc.Global.{Global}
use Rattle.std.specs.contracts.alloc.Global as heap
use Rattle.std.proofs.alloc.Global.TheLaws as heap_laws
use Rattle.std.specs.contracts.impls.GlobalAllocator.TheImpl.{ghosts}
use Rattle.std.proofs.GlobalToken.{dealloc_token-Testable}
use Rattle.std.specs.Box.Ownership.{box_owns}
use Rattle.std.proofs.ResultValues.{and_tt}
use Rattle.tl_c.specs.Owned.{boxed_selector, selector_owned_at}
use Rattle.tl_c.specs.declared.parsed_selector.ParsedSelector.{ParsedSelector}
use Rattle.tl_c.specs.contracts.parsed_selector.ParsedSelector as parsed_selector
use Rattle.tl_c.specs.contracts.compiled.Compiled as compiled
use Rattle.tl_c.proofs.Values.{Heap, both, heap_al}

-- a selector that was read
abbrev pub Own : RattleType
Own = parsed_selector.the_row

-- what the heap may free may be compared with null
module _ {M : Type 1} {𝓤 : Ura M} (𝓛 : Logic 𝓤) (a : Global) where
  pub tested : (p : Ptr) (x : ParsedSelector) → ent 𝓤 (sem 𝓛 (boxed_selector a p x)) (guard 𝓤 (Testable p) (sem 𝓛 (boxed_selector a p x)))
  tested p x = fact_use 𝓤 (Testable p)
      (via 𝓤 _ (snd∗ 𝓤 (sem 𝓛 (lies_at Own full_share p x)) (sem 𝓛 (ghosts.dealloc_token a (bare (lone Own.mir)) p))) (dealloc_token-Testable 𝓛 a (bare (lone Own.mir)) p))
      (guard_i 𝓤 (Testable p) (sem 𝓛 (boxed_selector a p x)))

abbrev pub Compiled : RattleType
Compiled = compiled.the_row

module _ {M : Type 1} {𝓤 : Ura M} {𝓛 : Logic 𝓤} {K : Type 0} {Γ : List (Item 𝓤)} {G : Goal 𝓤 𝓛.H} where
  -- a compiled selector holds nothing at null, or one in a block
  either_held : K → (a : Global) (p : Ptr) (held : Option ParsedSelector)
      → (p ≡ null_ptr → held ≡ None → Seq K 𝓛 Γ G)
      → ((b o : ℕ) (x : ParsedSelector) → p ≡ block_ptr b o → held ≡ Some x → Testable (block_ptr b o) → Seq K 𝓛 (‵ (boxed_selector a (block_ptr b o) x) ∷ Γ) G)
      → Seq K 𝓛 (‵ (selector_owned_at a p held) ∷ Γ) G
  either_held t a p None nothing_held one_held = fpick t (λ e. drop t $ nothing_held e refl)
  either_held t a p (Some x) nothing_held one_held =
      in_a_block t p (λ q. boxed_selector a q x) (fst∗ 𝓤 (never 𝓤) (sem 𝓛 (ghosts.dealloc_token a (bare (lone Own.mir)) null_ptr))) (λ b o e.
      use1 𝓛 (given (Testable (block_ptr b o)) (‵ (boxed_selector a (block_ptr b o) x))) (tested 𝓛 a (block_ptr b o) x) $ learn t (λ y. one_held b o x e refl y))

module _ {M : Type 1} {𝓤 : Ura M} {𝓛 : Logic 𝓤} {K : Type 0} {Γ : List (Item 𝓤)} {G : Goal 𝓤 𝓛.H} where
  pub compiled_out : K → (d : Compiled.Denot) (vs : List Val)
      → ((h : Val) → d.held ≡ None → vs ≡ both vnull h ∷ [] → Good (layout Heap) h → Seq K 𝓛 (‵ (Heap.own_val d.alloc (h ∷ [])) ∷ Γ) G)
      → ((b o : ℕ) (h : Val) (x : ParsedSelector) → d.held ≡ Some x → vs ≡ both (vptr b o) h ∷ [] → Good (layout Heap) h → Testable (block_ptr b o)
      → Seq K 𝓛 (‵ (boxed_selector d.alloc (block_ptr b o) x) ∷ ‵ (Heap.own_val d.alloc (h ∷ [])) ∷ Γ) G)
      → Seq K 𝓛 (‵ (Compiled.own_val d vs) ∷ Γ) G
  compiled_out t d vs nothing_held one_held =
      fsplit t $ fpick t (λ vss. fsplit t $ feq_l t (λ ev. fsplit t $ feq_l t (λ ep. fsplit t $ handle_tells heap_al t d.alloc vss.1.0 (λ h ea fits. move t (1 ∷ []) $ drop t $ move t (1 ∷ []) $
      let is_at : (p : Ptr) → d.at ≡ p → vs ≡ both (ptr_val p) h ∷ [] = λ p e. subst (λ (q : Ptr). vs ≡ vstruct (of_list (ptr_val q ∷ h ∷ [])) ∷ []) e
      (subst (λ (ws : List Val). vs ≡ vstruct (of_list (ptr_val d.at ∷ (ws ++ []))) ∷ []) ea (subst (λ (ps : List Val). vs ≡ vstruct (of_list (ps ++ (vss.1.0 ++ []))) ∷ []) ep ev)) in
      either_held t d.alloc d.at d.held (λ e is. nothing_held h is (is_at null_ptr e) fits) (λ b o x e is y. one_held b o h x is (is_at (block_ptr b o) e) fits y)))))

  pub none_in : K → (h : Val) (a : Global)
      → Step K 𝓛 (‵ (Compiled.own_val (record { at = null_ptr; alloc = a; held = None }) (both vnull h ∷ [])) ∷ Γ) G (‵ (Heap.own_val a (h ∷ [])) ∷ Γ) G
  none_in t h a = step (λ s. let v : Val = both vnull h in
      nothing t $ move t (1 ∷ 0 ∷ []) $ fjoin t $ feq_i t (List Val) (vnull ∷ []) (vnull ∷ []) refl $ fjoin t $ feq_i t (List Val) (v ∷ []) (v ∷ []) refl $ fjoin t $
      fpack t (Valss (fields compiled.the_type)) (within (shape compiled.the_type) (to compiled.the_type (record { at = null_ptr; alloc = a; held = None })) (v ∷ [])) (vnull ∷ [], (h ∷ [], tt)) $
      nothing t $ fpack t (null_ptr ≡ null_ptr) (λ _. ftrue) refl $ move t (1 ∷ 0 ∷ []) $ fjoin t $ s)

  pub some_in : K → (b o : ℕ) (h : Val) (a : Global) (x : ParsedSelector)
      → Step K 𝓛 (‵ (Compiled.own_val (record { at = block_ptr b o; alloc = a; held = Some x }) (both (vptr b o) h ∷ [])) ∷ Γ) G (‵ (boxed_selector a (block_ptr b o) x) ∷ ‵ (Heap.own_val a (h ∷ [])) ∷ Γ) G
  some_in t b o h a x = step (λ s. let v : Val = both (vptr b o) h in
      nothing t $ move t (2 ∷ 0 ∷ []) $ fjoin t $ feq_i t (List Val) (vptr b o ∷ []) (vptr b o ∷ []) refl $ fjoin t $ feq_i t (List Val) (v ∷ []) (v ∷ []) refl $ fjoin t $
      fpack t (Valss (fields compiled.the_type)) (within (shape compiled.the_type) (to compiled.the_type (record { at = block_ptr b o; alloc = a; held = Some x })) (v ∷ [])) (vptr b o ∷ [], (h ∷ [], tt)) $ fjoin t $ s)
