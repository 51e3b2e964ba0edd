-- A map with one more tag under a member.
use Rattle.std.proofs.Common.{◌≡◌, ℕ, Bool, true, false, cond, List, [], ◌∷◌, Some, Result, Ok, Err, OnOk, OnErr, refl, sym, ◌∙◌, ap}
use Rattle.std.specs.Cmp.{IsEquivalence}
use Rattle.std.specs.Map.{lookup}
use Rattle.std.specs.HashMap.{HashMap, UpdatesBy}
use Rattle.tl_spec.specs.Tree.Inline.{InlineVec}
use Rattle.tl_tracking.specs.Tracking.{AddsMember, numbers_of, class_at, with_number}

module _ {B : Type 0} (eq : B → B → Bool) (laws : IsEquivalence eq) where
  -- equal keys have one value
  pub lookup-same : {X : Type 0} (k key : B) → eq k key ≡ true → (es : List (B × X)) → lookup (eq k) es ≡ lookup (eq key) es
  lookup-same k key f [] = refl
  lookup-same k key f (e ∷ es) =
      ap (λ b. cond b (Some e.1) (lookup (eq k) es)) (laws.congr k key e.0 f) ∙ ap (cond (eq key e.0) (Some e.1)) (lookup-same k key f es)

  pub put_member : {S : Type 0} (m n : HashMap B (InlineVec ℕ) S) (k : B) (v : InlineVec ℕ) (number : ℕ) → UpdatesBy eq (eq k) m n (Some v)
      → v.items ≡ with_number number (class_at eq m.entries k)
      → AddsMember eq k number m.entries n.entries
  put_member m n k v number u e key = ap numbers_of (u.0 key) ∙ one (eq k key) refl
    where
      one : (b : Bool) → eq k key ≡ b → numbers_of (cond b (Some v) (lookup (eq key) m.entries)) ≡ cond (eq key k) (with_number number (class_at eq m.entries key)) (class_at eq m.entries key)
      one true f =
          e
          ∙ ap (λ o. with_number number (numbers_of o)) (lookup-same k key f m.entries)
          ∙ ap (λ b. cond b (with_number number (class_at eq m.entries key)) (class_at eq m.entries key)) (sym (laws.symm key k ∙ f))
      one false f = ap (λ b. cond b (with_number number (class_at eq m.entries key)) (class_at eq m.entries key)) (sym (laws.symm key k ∙ f))

pub on_ok : {A E : Type 0} {P Q : Type 0} (r : Result A E) → OnOk r P → (P → Q) → OnOk r Q
on_ok (Ok x) h f = f h
on_ok (Err e) h f = tt

pub on_err : {A E : Type 0} {P Q : Type 0} (r : Result A E) → OnErr r P → (P → Q) → OnErr r Q
on_err (Ok x) h f = tt
on_err (Err e) h f = f h
