-- `Shared::as_ref` at a call. Assumes `Logic`.
--     Lends, at_lent, lent_goes, lent_gives      its contract, what it is handed, and the allocator that it shows
use mathlib.Core.Path.{◌≡◌, refl, ap}
use mathlib.Core.List.{List, [], ◌∷◌}
use Prim.Native.Nat.{ℕ}
use seplogic.Ra.Ura.{Ura}
use mir.Syntax.{Callee, a_type, named}
use mir.Val.{Val, vptr}
use base.Logic.{SProp, ent, sep, ex, guard, emp, id⊢}
use base.Fml.{Lft, Share, ftrue, fsep}
use prog.Memory.{Memory}
use prog.Routine.{Routine}
use types.Logic.{Logic, sem}
use contract.BorrowLft.{◌⊑◌}
use contract.Monad.{Fun, fact, fact_i}
use types.Kit.{‵, raw, ◌⊛◌, some, later, given, ◌$◌, ◌∵◌, !, qed, move, keep, use0, use1, split, join, pick, learn, rewrite, fsplit, fjoin, feq_l, feq_i, check, show, await, updating, now as at_once, done}
use denote.RattleType.{RattleType}
use denote.Memory.{hidden_shr}
use denote.Param.{layouts, param}
use denote.Ref.{Bor, ShrRef, shr_vals}
use denote.Steps.{only, nothing}
use denote.Triple.Statement.{Contract}
use denote.Triple.Spec.{triple_of}
use Rattle.std.proofs.alloc.Calls.{Al, seen}
use Rattle.tl_room.specs.contracts.shared.Shared as S
use Rattle.tl_room.specs.contracts.shared.Shared.as_ref as F
use Rattle.tl_room.specs.contracts.shared.Shared.as_ref.Key as key

module _ (Z : Al) where
  abbrev pub lent_key : Callee
  lent_key = key.name (layouts (a_type ∷ []) (Z.row, tt))

  abbrev pub Lent : Lft → RattleType
  Lent κ = ShrRef (named 0) κ (param 0 Z.row)

module _ (Z : Al) {M : Type 1} {𝓤 : Ura M} (𝓛 : Logic 𝓤) (at_mem : Memory → SProp 𝓤) (run : Routine → Fun 𝓤) where
  open 𝓛 use {H, A}

  abbrev pub Lends : Contract 𝓤
  Lends = triple_of 𝓛 (F.signature Z.row) (F.spec Z.row 𝓛 at_mem run)

  module _ (κ ρ : Lft) (q s : Share) (out : κ ⊑ ρ) (r : Bor Z.row.Denot) where
    abbrev pub at_lent : Lends.Ghost
    at_lent = (((κ, (ρ, tt)), (q, (s, tt)), (out, tt), (r, tt), (shr_vals r, tt)), tt)

    abbrev Tokens : SProp 𝓤
    Tokens = sep 𝓤 (A.lft κ q) (sep 𝓤 (A.lft ρ s) (emp 𝓤))

    pub lent_goes : ρ ⊑ Z.row.lives → ent 𝓤 (sep 𝓤 (sem 𝓛 (hidden_shr (S.the_row (param 0 Z.row)) κ r.now r.ref_ptr.0 r.ref_ptr.1)) Tokens) (Lends.pre at_lent)
    lent_goes le = qed 𝓛 (‵ (hidden_shr (S.the_row (param 0 Z.row)) κ r.now r.ref_ptr.0 r.ref_ptr.1) ∷ raw Tokens ∷ []) ∵
        feq_i ! (List Val) (shr_vals r) (shr_vals r) refl $ fjoin ! $ nothing ! $ move ! (1 ∷ 0 ∷ []) $ fjoin ! $ move ! (1 ∷ 0 ∷ []) $ join ! $
        nothing ! $ use0 𝓛 (raw (fact 𝓤 (ρ ⊑ Z.row.lives))) (fact_i 𝓤 (ρ ⊑ Z.row.lives) (emp 𝓤) le) $ join ! $ move ! (1 ∷ 0 ∷ []) $ done !

    -- the allocator at `p`, which is the one that the handle shows
    abbrev pub Found : Val → ℕ × ℕ → SProp 𝓤
    Found v p = guard 𝓤 (v ≡ vptr p.0 p.1) (sep 𝓤 (sem 𝓛 (seen Z κ p r.now)) Tokens)

    pub lent_gives : (v : Val) → ent 𝓤 (Lends.post at_lent v) (H.⇛ (ex 𝓤 (Found v)))
    lent_gives v = qed 𝓛 (raw (Lends.post at_lent v) ∷ []) ∵ updating ! $
        use1 𝓛 (later (some (λ (b : Bor Z.row.Denot). (raw Tokens ⊛ ‵ ((Lent Z κ).own_val b (v ∷ []))) ⊛ some (λ (ws : Unit {0} × Unit {0}). ‵ (fsep ftrue ftrue) ⊛ given (b.now ≡ r.now) (‵ ftrue))))) (id⊢ 𝓤 _) $ await ! tt $ pick ! (λ b.
        split ! $ split ! $ move ! (1 ∷ []) $ fsplit ! $ feq_l ! (λ e. move ! (2 ∷ []) $ pick ! (λ ws. split ! $ move ! (1 ∷ []) $ learn ! (λ k. move ! (2 ∷ []) $
        rewrite ! 0 (λ (x : Z.row.Denot). ‵ (seen Z κ b.ref_ptr x)) k refl $
        at_once ! $ show ! (Found v) b.ref_ptr $ check ! (ap only e) $ keep ! (0 ∷ 3 ∷ []) $ done !))))
