-- One step down from the nodes that are left.
use Rattle.std.proofs.Common.{◌≡◌, ◌⊎◌, ℕ, Bool, true, List, [], ◌∷◌, ◌++◌, length, sym, subst, ◌∙◌, arith, inl, inr}
use Rattle.tl_spec.specs.Tree.Document.{Node}
use Rattle.tl_spec.specs.Select.Meaning.{IsChild}
use Rattle.tl_selector.specs.NodeSet.{children_at, is_in, is_at, IsUnderMark, spread}
use Rattle.tl_selector.proofs.Children.{child_listed, listed_child}
use Rattle.tl_selector.proofs.Spreads.{at-within, in-push, push-in, push-last, Spreads, spreads}

pub record Under (g : List Node) (holds marks : List Bool) (queue : List ℕ) : Type 0 where
  pub len : length marks ≡ length g
  pub held : (m : ℕ) → is_in queue m ≡ true → is_at holds m ≡ true
  pub sound : (n : ℕ) → is_at marks n ≡ true → IsUnderMark g holds n
  pub complete : (m n : ℕ) → is_at holds m ≡ true → IsChild g m n → (is_at marks n ≡ true) ⊎ (is_in queue m ≡ true)

pub under_step : (g : List Node) (holds marks : List Bool) (queue found : List ℕ) (m : ℕ) (t : List Bool × List ℕ) → Under g holds marks (queue ++ m ∷ []) → t ≡ spread (children_at g m) (marks, found) → Under g holds t.0 queue
under_step g holds marks queue found m t w e =
    let s : Spreads (children_at g m) (marks, found) t = subst (Spreads (children_at g m) (marks, found)) (sym e) (spreads (children_at g m) (marks, found)) in
    record {
      len = s.len ∙ w.len;
      held = λ a h. w.held a (push-in queue m a h);
      sound = λ n h. elim (s.fresh n h) [
        | inl k ↦ w.sound n k
        | inr k ↦ (m, w.held m (push-last queue m), listed_child g m n (let low = at-within t.0 n h in omega (arith, s.len, w.len)) k.0)
      ];
      complete = λ a n h child. elim (w.complete a n h child) [
        | inl k ↦ inl (s.kept n k)
        | inr k ↦ elim (in-push queue m a k) [
          | inl i ↦ inr i
          | inr i ↦ inl (s.full n (subst (λ x. is_in (children_at g x) n ≡ true) i (child_listed g a n child)) (let b = child.within in omega (arith, w.len)))
        ]
      ];
    }
