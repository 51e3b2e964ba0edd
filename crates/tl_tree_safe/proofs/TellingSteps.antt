-- A step of a walk that tells what goes.
use Rattle.std.proofs.Common.{Bool, List, None, Option, Some, [], ap, ap₂, append_assoc, arith, false, flat_map, if◌then◌else◌, inl, inr, length, map, nat_lt, not, refl, suc, sym, true, zero, ℕ, ◌+◌, ◌-◌, ◌++◌, ◌<◌, ◌∙◌, ◌≡◌, ◌≤◌, ◌∷◌}
use Rattle.std.proofs.lemmas.Bool.{cases_Bool, le-ltb, lt-ltb}
use Rattle.std.specs.Option.{option_and_then, option_map, unwrap_or}
use Rattle.std.specs.Prelude.{slice_get}
use Rattle.tl_dom_spec.specs.Tags.{Attribute, Tag, is_html}
use Rattle.tl_html_print.specs.Inner.Printed.{html_name}
use Rattle.tl_tree.specs.Asked.{attributes_at, attributes_of, kind_of, node_at}
use Rattle.tl_tree.specs.Rows.{Node, Row, a_comment, a_doctype, a_text, an_element, contents}
use Rattle.tl_tree.specs.declared.kind.Kind.{Kind}
use Rattle.tl_tree.specs.declared.kind.Kind.TheVariants.{Element}
use Rattle.tl_tree_safe.proofs.WalkRows.{IsElement, element_of, fate_by}
use Rattle.tl_tree_safe.proofs.WalkSteps.{next_further}
use Rattle.tl_tree_safe.specs.Inner.Telling.{cause_at, fate_told, fate_told_at, named_cause, node_told, row_told, told_from, told_up_to}
use Rattle.tl_tree_safe.specs.Inner.Walk.{Spot, behind_row, ended, fate_at, fate_of, next_by, next_row, is_passed_at}
use Rattle.tl_tree_safe.specs.Lists.{ListedWords}
use Rattle.tl_tree_safe.specs.Removed.{Gone, attribute_gone, attributes_gone, element_cause, element_gone, lone_gone}
use Rattle.tl_tree_safe.specs.declared.fate.Fate.{Fate}
use Rattle.tl_tree_safe.specs.declared.removal.Cause.{Cause}
use Rattle.tl_tree_safe.specs.declared.removal.Cause.TheVariants.{ForeignTag}

when-true : (b : Bool) (x y : List Gone) → b ≡ true → (elim b as (λ _. List Gone) [ true ↦ x | false ↦ y ]) ≡ x
when-true true x y e = refl
when-true false x y e = cc

when-false : (b : Bool) (x y : List Gone) → b ≡ false → (elim b as (λ _. List Gone) [ true ↦ x | false ↦ y ]) ≡ y
when-false true x y e = cc
when-false false x y e = refl

-- how many rows may be walked over makes no difference, where all may be
enough : (p : ListedWords) (R : List Row) (f g n : ℕ) (spot : Spot) → length R ≤ n + f → length R ≤ n + g → told_up_to p R f n spot ≡ told_up_to p R g n spot
enough p R zero zero n spot h k = refl
enough p R zero (suc g) n spot h k = sym (when-false (nat_lt n (length R)) _ _ (le-ltb n (length R) (omega arith)))
enough p R (suc f) zero n spot h k = when-false (nat_lt n (length R)) _ _ (le-ltb n (length R) (omega arith))
enough p R (suc f) (suc g) n spot h k = elim (cases_Bool (nat_lt n (length R))) [
  | inl less ↦
      let here = ended n spot in
      let next = next_row p R here n in
      let l = next_further p R here n in
      when-true (nat_lt n (length R)) _ _ less
      ∙ ap (λ x. row_told p R here n ++ x) (enough p R f g next (behind_row p R here n) (omega (arith, l)) (omega (arith, l)))
      ∙ sym (when-true (nat_lt n (length R)) _ _ less)
  | inr more ↦ when-false (nat_lt n (length R)) _ _ more ∙ sym (when-false (nat_lt n (length R)) _ _ more)
]

pub tell_more : (p : ListedWords) (R : List Row) (n : ℕ) (spot : Spot) → n < length R →
    told_from p R n spot ≡ row_told p R (ended n spot) n ++ told_from p R (next_row p R (ended n spot) n) (behind_row p R (ended n spot) n)
tell_more p R n spot h =
    let here = ended n spot in
    let next = next_row p R here n in
    let l = next_further p R here n in
    let most : length R - n ≡ suc (length R - n - 1) = omega arith in
    ap (λ f. told_up_to p R f n spot) most
    ∙ when-true (nat_lt n (length R)) _ _ (lt-ltb n (length R) h)
    ∙ ap (λ x. row_told p R here n ++ x) (enough p R (length R - n - 1) (length R - next) next (behind_row p R here n) (omega (arith, l)) (omega (arith, l)))

pub tell_none : (p : ListedWords) (R : List Row) (n : ℕ) (spot : Spot) → length R ≤ n → told_from p R n spot ≡ []
tell_none p R n spot h =
    let none : length R - n ≡ 0 = omega arith in
    ap (λ f. told_up_to p R f n spot) none

-- a row by its number
pub told_is : (p : ListedWords) (R : List Row) (n : ℕ) (row : Row) → slice_get R n ≡ Some row → (spot : Spot) → row_told p R spot n ≡ node_told p spot n row.node
told_is p R n row at spot =
    ap (λ o. unwrap_or (option_map (node_told p spot n) (option_map (λ (r : Row). r.node) o)) []) at

-- What a loop has told

module _ (p : ListedWords) (R : List Row) (n : ℕ) (s : Spot) (all o : List Gone) (so_far : all ≡ o ++ told_from p R n s) where
  pub one_told : (b : List Gone) (t u : Spot) (passed : Bool) (next : ℕ) → n < length R →
      t ≡ ended n s → b ≡ o ++ row_told p R t n → u ≡ behind_row p R t n → passed ≡ is_passed_at p R t n → next ≡ next_by R n passed →
      all ≡ b ++ told_from p R next u
  one_told b t u passed next l left told behind is to =
      let here = ended n s in
      so_far
      ∙ ap (λ x. o ++ x) (tell_more p R n s l)
      ∙ sym (append_assoc o (row_told p R here n) (told_from p R (next_row p R here n) (behind_row p R here n)))
      ∙ ap (λ (v : Spot). (o ++ row_told p R v n) ++ told_from p R (next_row p R v n) (behind_row p R v n)) (sym left)
      ∙ ap (λ x. x ++ told_from p R (next_row p R t n) (behind_row p R t n)) (sym told)
      ∙ ap₂ (λ (k : ℕ) (v : Spot). b ++ told_from p R k v) (ap (next_by R n) (sym is) ∙ sym to) (sym behind)

  pub all_told : length R ≤ n → all ≡ o
  all_told l = so_far ∙ ap (λ x. o ++ x) (tell_none p R n s l) ∙ nothing o
    where
      nothing : (xs : List Gone) → xs ++ [] ≡ xs
      nothing [] = refl
      nothing (x ∷ xs) = ap (λ (ys : List Gone). x ∷ ys) (nothing xs)

-- Elements

cause_same : (p : ListedWords) (tag : Tag) → unwrap_or (option_map (named_cause p) (if is_html tag then Some tag.name else None)) ForeignTag ≡ element_cause p tag
cause_same p tag = here (is_html tag)
  where
    here : (h : Bool) → unwrap_or (option_map (named_cause p) (if h then Some tag.name else None)) ForeignTag ≡ (if not h then ForeignTag else named_cause p tag.name)
    here true = refl
    here false = refl

module _ (p : ListedWords) (R : List Row) (spot : Spot) (n : ℕ) where
  pub element_told : option_map kind_of (node_at R n) ≡ Some Element → fate_told_at p R n (fate_at p R spot.level n) ≡ row_told p R spot n
  element_told is =
      let own = element_of (node_at R n) is in
      ap (λ (o : Option Node). fate_told (attributes_gone p n (unwrap_or (option_map attributes_of o) [])) (lone_gone n (unwrap_or (option_map (named_cause p) (option_and_then html_name o)) ForeignTag)) (fate_at p R spot.level n)) own.is
      ∙ ap (λ (cause : Cause). fate_told (attributes_gone p n own.tag.attributes) (lone_gone n cause) (fate_at p R spot.level n)) (cause_same p own.tag)
      ∙ ap (λ (f : Fate). fate_told (attributes_gone p n own.tag.attributes) (element_gone p n own.tag) f) (fate_by p R spot n own.tag own.is)
      ∙ sym (ap (λ o. unwrap_or (option_map (node_told p spot n) o) []) own.is)

  pub others_told : (option_map kind_of (node_at R n) ≡ Some Element → ⊥) → row_told p R spot n ≡ []
  others_told = here (node_at R n)
    where
      here : (o : Option Node) → (option_map kind_of o ≡ Some Element → ⊥) → unwrap_or (option_map (node_told p spot n) o) [] ≡ []
      here None e = refl
      here (Some (an_element tag)) e = absurd (e refl)
      here (Some contents) e = refl
      here (Some (a_text own)) e = refl
      here (Some (a_comment own)) e = refl
      here (Some (a_doctype own)) e = refl

-- Attributes

-- where one more is told
pub attribute_told : (p : ListedWords) (n : ℕ) (all before now : List Gone) (left : List Attribute) (a : Attribute) (more : List Attribute) →
    all ≡ before ++ attributes_gone p n left → left ≡ a ∷ more → now ≡ before ++ attribute_gone p n a →
    all ≡ now ++ attributes_gone p n more
attribute_told p n all before now left a more h e w =
    h
    ∙ ap (λ (xs : List Attribute). before ++ attributes_gone p n xs) e
    ∙ sym (append_assoc before (attribute_gone p n a) (attributes_gone p n more))
    ∙ ap (λ (x : List Gone). x ++ attributes_gone p n more) (sym w)
