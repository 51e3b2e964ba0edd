-- A step of a walk over the elements or the texts below a row.
use Rattle.std.proofs.Common.{Bool, List, None, Option, Some, [], ap, arith, false, if◌then◌else◌, inl, inr, nat_lt, refl, suc, sym, true, zero, ℕ, ◌+◌, ◌-◌, ◌<◌, ◌∙◌, ◌≡◌, ◌≤◌, ◌∷◌}
use Rattle.std.proofs.lemmas.Bool.{lt-ltb, ltb-true}
use Rattle.tl_tree.proofs.Walked.{bool-cases, down-end, not-past, or-less}
use Rattle.std.specs.Option.{option_map, unwrap_or}
use Rattle.tl_tree.specs.Asked.{end_at, end_or, kind_of, node_at}
use Rattle.tl_tree.specs.Below.{has_kind, is_contents, is_sought, next_outside, sought_from, sought_up_to}
use Rattle.tl_tree.specs.Rows.{Row}
use Rattle.tl_tree.specs.TreeView.{rows_in}
use Rattle.tl_tree.specs.declared.kind.Kind as kind
use Rattle.tl_tree.specs.declared.kind.Kind.TheVariants.{Comment, Contents, Doctype, Element, Text}
use Rattle.tl_tree.specs.declared.tree.Tree.{Tree}

abbrev IsDown : List Row → Type 0
IsDown rows = (n e : ℕ) → end_at rows n ≡ Some e → n < e

-- a row, if it is sought, and what comes behind it
abbrev one-more : Bool → ℕ → List ℕ → List ℕ
one-more b n more = if b then n ∷ more else more

when-true : (b : Bool) (x : List ℕ) → b ≡ true → (elim b as (λ _. List ℕ) [ true ↦ x | false ↦ [] ]) ≡ x
when-true true x e = refl
when-true false x e = cc

when-false : (b : Bool) (x : List ℕ) → b ≡ false → (elim b as (λ _. List ℕ) [ true ↦ x | false ↦ [] ]) ≡ []
when-false true x e = cc
when-false false x e = refl

further-if : (b : Bool) (n e : ℕ) → n < e → n < (if b then e else n + 1)
further-if true n e l = l
further-if false n e l = omega arith

further : (rows : List Row) → IsDown rows → (n end : ℕ) → n < end → n < next_outside rows n end
further rows down n end l = further-if (has_kind is_contents rows n) n (end_or rows n end) (or-less (end_at rows n) n end (down n) l)

enough : (t : Bool) (rows : List Row) → IsDown rows → (f g n end : ℕ) → end ≤ n + f → end ≤ n + g → sought_from t rows f n end ≡ sought_from t rows g n end
enough t rows down zero zero n end a b = refl
enough t rows down zero (suc g) n end a b = sym (when-false (nat_lt n end) _ (not-past n end (omega (arith, a))))
enough t rows down (suc f) zero n end a b = when-false (nat_lt n end) _ (not-past n end (omega (arith, b)))
enough t rows down (suc f) (suc g) n end a b = elim (bool-cases (nat_lt n end)) [
  | inl e ↦
      let more = further rows down n end (ltb-true n end e) in
      when-true (nat_lt n end) _ e
      ∙ ap (one-more (has_kind (is_sought t) rows n) n) (enough t rows down f g (next_outside rows n end) end (omega (arith, a, more)) (omega (arith, b, more)))
      ∙ sym (when-true (nat_lt n end) _ e)
  | inr e ↦ when-false (nat_lt n end) _ e ∙ sym (when-false (nat_lt n end) _ e)
]

sought-step : (k : Tree) (t : Bool) (n end : ℕ) → n < end → sought_up_to t (rows_in k) n end ≡ one-more (has_kind (is_sought t) (rows_in k) n) n (sought_up_to t (rows_in k) (next_outside (rows_in k) n end) end)
sought-step k t n end l =
    let rows = rows_in k in
    let most : end - n ≡ suc (end - n - 1) = omega (arith, l) in
    let more = further rows (down-end k) n end l in
    let next = next_outside rows n end in
    ap (λ v. sought_from t rows v n end) most
    ∙ when-true (nat_lt n end) _ (lt-ltb n end l)
    ∙ ap (one-more (has_kind (is_sought t) rows n) n) (enough t rows (down-end k) (end - n - 1) (end - next) next end (omega (arith, more, l)) (omega arith))

pub sought-past : (rows : List Row) (t : Bool) (n end : ℕ) → end ≤ n → sought_up_to t rows n end ≡ []
sought-past rows t n end l =
    let none : end - n ≡ 0 = omega arith in
    ap (λ f. sought_from t rows f n end) none

-- what is sought is no contents
no-contents-of : (t : Bool) (o : Option kind.Kind) → unwrap_or (option_map (is_sought t) o) false ≡ true → unwrap_or (option_map is_contents o) false ≡ false
no-contents-of t None e = refl
no-contents-of true (Some Contents) e = cc
no-contents-of false (Some Contents) e = cc
no-contents-of t (Some Element) e = refl
no-contents-of t (Some Text) e = refl
no-contents-of t (Some Comment) e = refl
no-contents-of t (Some Doctype) e = refl

if-true : (b : Bool) (x y : List ℕ) → b ≡ true → (if b then x else y) ≡ x
if-true true x y e = refl
if-true false x y e = cc

pub sought-here : (k : Tree) (t : Bool) (n end : ℕ) → n < end → has_kind (is_sought t) (rows_in k) n ≡ true →
    sought_up_to t (rows_in k) n end ≡ (if nat_lt n end then n ∷ sought_up_to t (rows_in k) (n + 1) end else [])
sought-here k t n end l is =
    let other = no-contents-of t (option_map kind_of (node_at (rows_in k) n)) is in
    sought-step k t n end l
    ∙ ap (λ b. one-more b n (sought_up_to t (rows_in k) (next_outside (rows_in k) n end) end)) is
    ∙ ap (λ b. n ∷ sought_up_to t (rows_in k) (if b then end_or (rows_in k) n end else n + 1) end) other
    ∙ sym (if-true (nat_lt n end) (n ∷ sought_up_to t (rows_in k) (n + 1) end) [] (lt-ltb n end l))

-- another one, and the contents of a template
pub sought-not : (k : Tree) (t : Bool) (n end next : ℕ) → n < end → has_kind (is_sought t) (rows_in k) n ≡ false → next ≡ next_outside (rows_in k) n end → sought_up_to t (rows_in k) n end ≡ sought_up_to t (rows_in k) next end
sought-not k t n end next l other is =
    sought-step k t n end l
    ∙ ap (λ b. one-more b n (sought_up_to t (rows_in k) (next_outside (rows_in k) n end) end)) other
    ∙ ap (λ v. sought_up_to t (rows_in k) v end) (sym is)

pub goes-further : (k : Tree) (n end : ℕ) → n < end → n < next_outside (rows_in k) n end
goes-further k n end l = further (rows_in k) (down-end k) n end l
