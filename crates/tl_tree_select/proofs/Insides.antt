-- Marks of the elements that stand in marked ones.
use Rattle.std.proofs.Common.{◌≡◌, ◌<◌, ◌↔◌, ◌+◌, ◌&&◌, ℕ, zero, suc, Bool, true, false, List, Option, None, Some, length, sym, ap, ◌∙◌, arith, inl, inr, refl, subst, slice_set}
use Rattle.std.specs.Option.{option_map_or}
use Rattle.std.proofs.lemmas.Bool.{and_from, and_parts, cases_lt, false≢true, or_cases, or_left, or_right}
use Rattle.std.proofs.lemmas.List.{get_or-set_other, get_or-set_same}
use Rattle.tl_css.specs.Selector.{Css, At}
use Rattle.tl_css.specs.declared.selector.Link.{Link}
use Rattle.tl_css.specs.declared.selector.Link.TheVariants.{Parent, Sibling, Twin}
use Rattle.tl_css.specs.declared.selector.Reach.{Reach}
use Rattle.tl_css.specs.declared.selector.Reach.TheVariants.{Once, Often}
use Rattle.tl_css.specs.declared.selector.Way.{Way}
use Rattle.tl_css.specs.declared.selector.Way.TheVariants.{From, To}
use Rattle.tl_tree.specs.Asked.{parent_at}
use Rattle.tl_tree_select.specs.Inner.Columns.{AreMarks, is_inside, is_often}
use Rattle.tl_tree_select.specs.Inner.Kin.{is_element_at, is_read}
use Rattle.tl_tree_select.specs.Inner.Links.{is_at, passes_on}
use Rattle.tl_tree_select.specs.Meaning.{AreLinks, Holds, IsElement}
use Rattle.tl_tree_select.specs.Page.{Page}
use Rattle.tl_tree_select.proofs.Marks.{holds_element}
use Rattle.tl_tree_select.proofs.Outwards.{is_link}
use Rattle.tl_tree_select.proofs.Siblings.{is_element_is}
use Rattle.tl_tree_select.proofs.Trees.{AreParentsBefore}

module _ (page : Page) (up : AreParentsBefore page) (e : Css) (marks : List Bool) (are : AreMarks page e marks) where
  -- found marks are right up to a row
  abbrev pub AreUpTo : Reach → List Bool → ℕ → Type 0
  AreUpTo reach found n = (i : ℕ) → i < n → (is_at found i ≡ true) ↔ Holds page (At From Parent reach e) i

  inside_by : (reach : Reach) (found : List Bool) (n : ℕ) (o : Option ℕ) → parent_at page.rows n ≡ o → IsElement page n → AreUpTo reach found n
      → option_map_or (passes_on marks (is_often reach) found) o false ≡ true → Holds page (At From Parent reach e) n
  inside_by reach found n None at own each h = absurd (false≢true h)
  inside_by Once found n (Some p) at own each h = elim (or_cases (is_at marks p) (false && is_at found p) h) as (λ _. Holds page (At From Parent Once e) n) [
    | inl mark ↦ (let in_it = (are.each p).0 mark in (own, p, is_link page p n (holds_element page e p in_it, at), in_it))
    | inr more ↦ absurd (false≢true more)
  ]
  inside_by Often found n (Some p) at own each h = elim (or_cases (is_at marks p) (true && is_at found p) h) as (λ _. Holds page (At From Parent Often e) n) [
    | inl mark ↦ (let in_it = (are.each p).0 mark in (own, p, (0, is_link page p n (holds_element page e p in_it, at)), in_it))
    | inr more ↦ (
        let deep = (each p (up n p at)).0 ((and_parts true (is_at found p) more).1) in
        (own, deep.1, (suc deep.2.0, (p, is_link page p n (deep.0, at), deep.2.1)), deep.3))
  ]

  at_links : (found : List Bool) (k m n : ℕ) → AreUpTo Often found n → Holds page e m → AreLinks page Parent k m n
      → option_map_or (passes_on marks true found) (parent_at page.rows n) false ≡ true
  at_links found zero m n each holds link =
      ap (λ (o : Option ℕ). option_map_or (passes_on marks true found) o false) link.0.1
      ∙ or_left (is_at marks m) (true && is_at found m) ((are.each m).1 holds)
  at_links found (suc k) m n each holds links =
      let j = links.0 in
      ap (λ (o : Option ℕ). option_map_or (passes_on marks true found) o false) links.1.0.1
      ∙ or_right (is_at marks j) (true && is_at found j) ((each j (up n j links.1.0.1)).1 (links.1.0.0, m, (k, links.2), holds))

  of_inside : (reach : Reach) (found : List Bool) (n : ℕ) → AreUpTo reach found n → Holds page (At From Parent reach e) n
      → option_map_or (passes_on marks (is_often reach) found) (parent_at page.rows n) false ≡ true
  of_inside Once found n each h =
      ap (λ (o : Option ℕ). option_map_or (passes_on marks false found) o false) h.2.0.1
      ∙ or_left (is_at marks h.1) (false && is_at found h.1) ((are.each h.1).1 h.3)
  of_inside Often found n each h = at_links found h.2.0 h.1 n each h.3 h.2.1

  pub inside_is : (reach : Reach) (found : List Bool) (n : ℕ) → AreUpTo reach found n
      → (is_inside page marks (is_often reach) found n ≡ true) ↔ Holds page (At From Parent reach e) n
  inside_is reach found n each =
      let passed = option_map_or (passes_on marks (is_often reach) found) (parent_at page.rows n) false in (
        λ h.
            let parts = and_parts (is_element_at page n) passed h in
            inside_by reach found n (parent_at page.rows n) refl ((is_element_is page n).0 parts.0) each parts.1,
        λ h. and_from (is_element_at page n) passed ((is_element_is page n).1 h.0) (of_inside reach found n each h),
      )

-- which links are read from the rows
pub read_is : (way : Way) (link : Link) → is_read way link ≡ true → (way ≡ From) × (link ≡ Parent)
read_is From Parent h = (refl, refl)
read_is From Sibling h = absurd (false≢true h)
read_is From Twin h = absurd (false≢true h)
read_is To link h = absurd (false≢true h)

-- a mark in the place of another
module _ (P : ℕ → Type 0) (old marks : List Bool) (x : Bool) (n : ℕ) where
  pub set_done : n < length marks → ((i : ℕ) → i < n → (is_at marks i ≡ true) ↔ ((is_at old i ≡ true) × P i)) → ((x ≡ true) ↔ ((is_at old n ≡ true) × P n))
      → (i : ℕ) → i < n + 1 → (is_at (slice_set marks n x) i ≡ true) ↔ ((is_at old i ≡ true) × P i)
  set_done w each new i lt = elim (cases_lt i n) [
    | inl less ↦
        (let same = get_or-set_other marks n i x false (λ e. omega (arith, e, less)) in
        (λ mark. (each i less).0 (sym same ∙ mark), λ h. same ∙ (each i less).1 h))
    | inr ge ↦
        (let here : n ≡ i = omega (arith, lt, ge) in
        subst (λ (i : ℕ). (is_at (slice_set marks n x) i ≡ true) ↔ ((is_at old i ≡ true) × P i)) here
        (let same = get_or-set_same marks n x false w in (λ mark. new.0 (sym same ∙ mark), λ h. same ∙ new.1 h)))
  ]
