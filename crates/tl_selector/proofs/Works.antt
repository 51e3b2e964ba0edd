-- The work that is left when the queue holds the nodes whose children aren't marked yet.
use Rattle.std.proofs.Common.{◌≡◌, ◌<◌, ◌⊎◌, ℕ, zero, suc, Bool, true, List, [], ◌∷◌, ◌++◌, length, sym, subst, ◌∙◌, arith, inl, inr}
use Rattle.tl_spec.specs.Tree.Document.{Node}
use Rattle.tl_spec.specs.Select.Meaning.{IsChild, IsChain}
use Rattle.tl_selector.specs.NodeSet.{children_at, is_in, is_at, IsBelowMark, spread}
use Rattle.tl_selector.proofs.Children.{child_listed, listed_child}
use Rattle.tl_selector.proofs.Spreads.{at-within, in-push, push-in, push-last, Spreads, spreads}

-- something holds there, or it has a mark
abbrev pub IsSource : List Bool → List Bool → ℕ → Type 0
IsSource holds marks m = (is_at holds m ≡ true) ⊎ (is_at marks m ≡ true)

pub record Work (g : List Node) (holds marks : List Bool) (queue : List ℕ) : Type 0 where
  pub len : length marks ≡ length g
  pub small : (m : ℕ) → is_in queue m ≡ true → m < length g
  pub source : (m : ℕ) → is_in queue m ≡ true → IsSource holds marks m
  pub sound : (n : ℕ) → is_at marks n ≡ true → IsBelowMark g holds n
  pub closed : (m c : ℕ) → IsSource holds marks m → IsChild g m c → (is_at marks c ≡ true) ⊎ (is_in queue m ≡ true)

child_below : (g : List Node) (holds marks : List Bool) (m n : ℕ) → ((n : ℕ) → is_at marks n ≡ true → IsBelowMark g holds n) → IsSource holds marks m → IsChild g m n → IsBelowMark g holds n
child_below g holds marks m n sound (inl h) c = (m, 0, h, c)
child_below g holds marks m n sound (inr h) c = let b = sound m h in (b.0, suc b.1, b.2, (m, b.3, c))

pub work_step : (g : List Node) (holds marks : List Bool) (queue : List ℕ) (m : ℕ) (t : List Bool × List ℕ) → Work g holds marks (queue ++ m ∷ []) → t ≡ spread (children_at g m) (marks, queue) → Work g holds t.0 t.1
work_step g holds marks queue m t w e =
    let s : Spreads (children_at g m) (marks, queue) t = subst (Spreads (children_at g m) (marks, queue)) (sym e) (spreads (children_at g m) (marks, queue)) in
    let at_m : IsSource holds marks m = w.source m (push-last queue m) in
    let low : (n : ℕ) → is_at t.0 n ≡ true → n < length g = λ n h. let k = at-within t.0 n h in omega (arith, s.len, w.len) in
    record {
      len = s.len ∙ w.len;
      small = λ n h. elim (s.pushed n h) [ inl k ↦ w.small n (push-in queue m n k) | inr k ↦ low n k ];
      source = λ n h. elim (s.pushed n h) [
        | inl k ↦ elim (w.source n (push-in queue m n k)) [ inl a ↦ inl a | inr a ↦ inr (s.kept n a) ]
        | inr k ↦ inr k
      ];
      sound = λ n h. elim (s.fresh n h) [
        | inl k ↦ w.sound n k
        | inr k ↦ child_below g holds marks m n w.sound at_m (listed_child g m n (low n h) k.0)
      ];
      closed = λ a c src child.
          let old : IsSource holds marks a → (is_at t.0 c ≡ true) ⊎ (is_in t.1 a ≡ true) = λ o.
          elim (w.closed a c o child) [
            | inl k ↦ inl (s.kept c k)
            | inr k ↦ elim (in-push queue m a k) [
              | inl i ↦ inr (s.queue a i)
              | inr i ↦ inl (s.full c (subst (λ x. is_in (children_at g x) c ≡ true) i (child_listed g a c child)) (let b = child.within in omega (arith, w.len)))
            ]
          ] in
          elim src [
            | inl h ↦ old (inl h)
            | inr h ↦ elim (s.fresh a h) [ inl k ↦ old (inr k) | inr k ↦ inr k.1 ]
          ];
    }

chain_done : (g : List Node) (holds marks : List Bool) → Work g holds marks [] → (a b k : ℕ) → is_at holds a ≡ true → IsChain g k a b → is_at marks b ≡ true
chain_done g holds marks w a b zero h c = elim (w.closed a b (inl h) c) [ inl k ↦ k | inr k ↦ cc ]
chain_done g holds marks w a b (suc k) h c =
    let i = chain_done g holds marks w a c.0 k h c.1 in
    elim (w.closed c.0 b (inr i) c.2) [ inl k ↦ k | inr k ↦ cc ]

pub work_done : (g : List Node) (holds marks : List Bool) → Work g holds marks [] → (n : ℕ) → IsBelowMark g holds n → is_at marks n ≡ true
work_done g holds marks w n b = chain_done g holds marks w b.0 n b.1 b.2 b.3
