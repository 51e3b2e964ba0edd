-- Links to parents, and to the sibling before.
use Rattle.std.proofs.Common.{◌≡◌, ◌<◌, ◌≤◌, ◌↔◌, ◌+◌, ◌^◌, ℕ, zero, suc, Bool, true, false, if◌then◌else◌, List, [], ◌∷◌, length, sym, ap, ◌∙◌, arith, refl, subst, Option, None, Some, IfSome, slice_index_or}
use Rattle.std.specs.Option.{IsSome, IsSomeAnd, option_map_or}
use Rattle.std.proofs.lemmas.Bool.{false≢true}
use Rattle.std.proofs.lemmas.Option.{none-some, same_Some}
use Rattle.tl_css.specs.declared.selector.Link.{Link}
use Rattle.tl_css.specs.declared.selector.Link.TheVariants.{Parent, Sibling, Twin}
use Rattle.tl_tree.specs.Asked.{name_of, node_at, parent_at}
use Rattle.tl_tree.specs.Rows.{Node, Row, a_comment, a_doctype, a_text, an_element, contents}
use Rattle.tl_tree_select.specs.Page.{Page}
use Rattle.tl_tree_select.specs.Meaning.{AreSiblings, IsBefore, IsElement, is_element}
use Rattle.tl_tree_select.specs.Inner.Links.{AreLower, AreGrouped, AreToLast, link_at, link_or_none, no_link}
use Rattle.tl_tree_select.specs.Inner.Kin.{AreLinksOf, AreSiblingGroups, is_element_at, parent_link, sibling_group}
use Rattle.tl_tree_select.proofs.Previous.{link_read, link_is}
use Rattle.tl_tree_select.proofs.Sources.{link_within}
use Rattle.tl_tree_select.proofs.Trees.{AreParentsBefore}

-- Elements

tag_by : (o : Option Node) → option_map_or is_element o false ≡ true → IsSomeAnd o (λ node. IsSome (name_of node))
tag_by None h = absurd (false≢true h)
tag_by (Some (an_element tag)) h = refl
tag_by (Some contents) h = absurd (false≢true h)
tag_by (Some (a_text bytes)) h = absurd (false≢true h)
tag_by (Some (a_comment bytes)) h = absurd (false≢true h)
tag_by (Some (a_doctype own)) h = absurd (false≢true h)

by_tag : (o : Option Node) → IsSomeAnd o (λ node. IsSome (name_of node)) → option_map_or is_element o false ≡ true
by_tag None h = absurd h
by_tag (Some (an_element tag)) h = refl
by_tag (Some contents) h = absurd (false≢true h)
by_tag (Some (a_text bytes)) h = absurd (false≢true h)
by_tag (Some (a_comment bytes)) h = absurd (false≢true h)
by_tag (Some (a_doctype own)) h = absurd (false≢true h)

pub is_element_is : (page : Page) (n : ℕ) → (is_element_at page n ≡ true) ↔ IsElement page n
is_element_is page n = (tag_by (node_at page.rows n), by_tag (node_at page.rows n))

row_within : (rows : List Row) (n : ℕ) → IsSomeAnd (node_at rows n) (λ node. IsSome (name_of node)) → n < length rows
row_within [] n h = absurd h
row_within (x ∷ rows) zero h = omega arith
row_within (x ∷ rows) (suc n) h = let l = row_within rows n h in omega (arith, l)

pub element_within : (page : Page) (n : ℕ) → IsElement page n → n < length page.rows
element_within page n h = row_within page.rows n h

child_within : (rows : List Row) (n p : ℕ) → parent_at rows n ≡ Some p → n < length rows
child_within [] n p e = absurd (none-some p e)
child_within (row ∷ rows) zero p e = omega arith
child_within (row ∷ rows) (suc n) p e = let w = child_within rows n p e in omega (arith, w)

-- Links lead to lower numbers

pub lower_before : (page : Page) → AreParentsBefore page → (link : Link) (m n : ℕ) → IsBefore page link m n → m < n
lower_before page up Parent m n h = up n m h.1
lower_before page up Sibling m n h = h.0
lower_before page up Twin m n h = h.0

some_by : (o : Option ℕ) (P : ℕ → Type 0) → ((to : ℕ) → o ≡ Some to → P to) → IfSome o P
some_by None P h = tt
some_by (Some to) P h = h to refl

pub links_lower : (page : Page) → AreParentsBefore page → (link : Link) (links : List ℕ) → AreLinksOf page link links → AreLower links
links_lower page up link links are n =
    some_by (link_at links n) (λ to. to < n) (λ to e. lower_before page up link to n ((are.each to n).0 e).0)

-- Parents

module _ (page : Page) (up : AreParentsBefore page) (small : length page.rows < 2 ^ 32)
    (links : List ℕ) (len : length links ≡ length page.rows) (each : (n : ℕ) → n < length page.rows → slice_index_or links n no_link ≡ parent_link page n) where
  -- a link by the parent and whether that is an element
  link_by : (n : ℕ) → n < length page.rows → (o : Option ℕ) → parent_at page.rows n ≡ o → (b : Bool) → option_map_or (is_element_at page) o false ≡ b
      → link_at links n ≡ (if b then o else None)
  link_by n w None e true t = absurd (false≢true t)
  link_by n w None e false t =
      link_read links n ∙ ap link_or_none (each n w ∙ ap (λ (o : Option ℕ). option_map_or (λ p. if is_element_at page p then p else no_link) o no_link) e)
  link_by n w (Some p) e true t =
      let low = up n p e in
      link_read links n ∙ ap link_or_none (each n w ∙ ap (λ (o : Option ℕ). option_map_or (λ p. if is_element_at page p then p else no_link) o no_link) e
      ∙ ap (λ (b : Bool). if b then p else no_link) t)
      ∙ link_is p (omega (arith, low, w, small))
  link_by n w (Some p) e false t =
      link_read links n ∙ ap link_or_none (each n w ∙ ap (λ (o : Option ℕ). option_map_or (λ p. if is_element_at page p then p else no_link) o no_link) e
      ∙ ap (λ (b : Bool). if b then p else no_link) t)

  from_link : (n m : ℕ) → n < length page.rows → link_at links n ≡ Some m → (o : Option ℕ) → parent_at page.rows n ≡ o → (b : Bool) → option_map_or (is_element_at page) o false ≡ b
      → IsElement page m × (o ≡ Some m)
  from_link n m w h None e true t = absurd (false≢true t)
  from_link n m w h None e false t = absurd (none-some m (sym (link_by n w None e false t) ∙ h))
  from_link n m w h (Some p) e true t =
      let same = same_Some p m (sym (link_by n w (Some p) e true t) ∙ h) in
      (subst (λ (k : ℕ). IsElement page k) same ((is_element_is page p).0 t), ap Some same)
  from_link n m w h (Some p) e false t = absurd (none-some m (sym (link_by n w (Some p) e false t) ∙ h))

  link_before : (m n : ℕ) → link_at links n ≡ Some m → IsBefore page Parent m n
  link_before m n h =
      let w : n < length page.rows = let l = link_within links n m h in omega (arith, l, len) in
      from_link n m w h (parent_at page.rows n) refl (option_map_or (is_element_at page) (parent_at page.rows n) false) refl

  before_link : (m n : ℕ) → IsBefore page Parent m n → link_at links n ≡ Some m
  before_link m n h =
      link_by n (child_within page.rows n m h.1) (Some m) h.1 true ((is_element_is page m).1 h.0)

  pub parents_linked : AreLinksOf page Parent links
  parents_linked = record {
    len = len;
    each = λ m n. (
      λ e. (
        link_before m n e,
        λ k h. (let same = same_Some k m (sym h.1 ∙ (link_before m n e).1) in omega (arith, same)),
      ),
      λ h. before_link m n h.0,
    );
    none = λ k n e h. absurd (none-some k (sym e ∙ before_link k n h));
  }

-- Groups of siblings

module _ (page : Page) (up : AreParentsBefore page) (small : length page.rows < 2 ^ 32)
    (groups : List ℕ) (len : length groups ≡ length page.rows) (each : (n : ℕ) → n < length page.rows → slice_index_or groups n no_link ≡ sibling_group page n) where
  own : ℕ → ℕ
  own n = option_map_or (λ p. p + 1) (parent_at page.rows n) 0

  own_by : (n : ℕ) (o : Option ℕ) → parent_at page.rows n ≡ o → n < length page.rows → (option_map_or (λ p. p + 1) o 0 ≤ n) × (option_map_or (λ p. p + 1) o 0 < no_link)
  own_by n None e w = (omega arith, omega arith)
  own_by n (Some p) e w = let low = up n p e in (omega (arith, low), omega (arith, low, w, small))

  -- the group of an element, and of an element alone
  group_of : (n : ℕ) → n < length page.rows → (b : Bool) → is_element_at page n ≡ b → link_at groups n ≡ (if b then Some (own n) else None)
  unfolding own
  group_of n w true t =
      link_read groups n ∙ ap link_or_none (each n w ∙ ap (λ (b : Bool). if b then option_map_or (λ p. p + 1) (parent_at page.rows n) 0 else no_link) t)
      ∙ link_is (own n) (own_by n (parent_at page.rows n) refl w).1
  group_of n w false t =
      link_read groups n ∙ ap link_or_none (each n w ∙ ap (λ (b : Bool). if b then option_map_or (λ p. p + 1) (parent_at page.rows n) 0 else no_link) t)

  grouped : (n g : ℕ) → link_at groups n ≡ Some g → (b : Bool) → is_element_at page n ≡ b → IsElement page n × (own n ≡ g)
  grouped n g e true t =
      let w : n < length page.rows = let l = link_within groups n g e in omega (arith, l, len) in
      ((is_element_is page n).0 t, same_Some (own n) g (sym (group_of n w true t) ∙ e))
  grouped n g e false t =
      let w : n < length page.rows = let l = link_within groups n g e in omega (arith, l, len) in
      absurd (none-some g (sym (group_of n w false t) ∙ e))

  few : (n : ℕ) → IfSome (link_at groups n) (λ g. g < length groups)
  unfolding own
  few n = some_by (link_at groups n) (λ g. g < length groups) (λ g e.
      let w = link_within groups n g e in
      let same = (grouped n g e (is_element_at page n) refl).1 in
      let le = (own_by n (parent_at page.rows n) refl (omega (arith, w, len))).0 in
      omega (arith, w, same, le))

  same_by : (a b : Option ℕ) → option_map_or (λ p. p + 1) a 0 ≡ option_map_or (λ p. p + 1) b 0 → a ≡ b
  same_by None None e = refl
  same_by None (Some q) e = absurd (omega (arith, e))
  same_by (Some p) None e = absurd (omega (arith, e))
  same_by (Some p) (Some q) e = let same : p ≡ q = omega (arith, e) in ap Some same

  grouped_siblings : (m n : ℕ) → AreGrouped (link_at groups) m n ↔ AreSiblings page m n
  unfolding own
  grouped_siblings m n = (
    λ h.
        let a = grouped m h.0 h.1 (is_element_at page m) refl in
        let b = grouped n h.0 h.2 (is_element_at page n) refl in
        record { first = a.0; second = b.0; parents = same_by (parent_at page.rows m) (parent_at page.rows n) (a.1 ∙ sym b.1) },
    λ s. (
      own n,
      group_of m (element_within page m s.first) true ((is_element_is page m).1 s.first) ∙ ap (λ (o : Option ℕ). Some (option_map_or (λ p. p + 1) o 0)) s.parents,
      group_of n (element_within page n s.second) true ((is_element_is page n).1 s.second),
    ),
  )

  pub are_groups : AreSiblingGroups page groups
  are_groups = record { len = len; few = few; grouped = grouped_siblings }

-- links to the last one before that is related, where this relation is that of a kind of links
pub links_to_last : (page : Page) (link : Link) (R : ℕ → ℕ → Type 0) (links : List ℕ) → length links ≡ length page.rows
    → ((m n : ℕ) → ((m < n) × R m n) ↔ IsBefore page link m n) → AreToLast R links → AreLinksOf page link links
links_to_last page link R links len same last = record {
  len = len;
  each = λ m n. (
    λ e. (let l = (last.each m n).0 e in ((same m n).0 l.0, λ k h. l.1 k ((same k n).1 h))),
    λ h. (last.each m n).1 ((same m n).1 h.0, λ k l. h.1 k ((same k n).0 l)),
  );
  none = λ k n e h. (let l = (same k n).1 h in last.none k n e l.0 l.1);
}

pub siblings_to_last : (page : Page) (groups links : List ℕ) → AreSiblingGroups page groups → length links ≡ length groups
    → AreToLast (AreGrouped (link_at groups)) links → AreLinksOf page Sibling links
siblings_to_last page groups links are len last =
    links_to_last page Sibling (AreGrouped (link_at groups)) links (len ∙ are.len)
    (λ m n. (λ h. (h.0, (are.grouped m n).0 h.1), λ h. (h.0, (are.grouped m n).1 h.1))) last
