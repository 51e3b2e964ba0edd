-- The walk of a table that trees gave is these trees.
use Rattle.std.proofs.Common.{◌≡◌, ℕ, ◌+◌, ◌<◌, ◌≤◌, Bool, true, false, List, [], ◌∷◌, ◌++◌, length, slice_get, Option, Some, None, refl, ap, ap₂, sym, ◌∙◌, subst, arith, append_assoc, append-nil, length-append, ne_eqb, inl, inr, take, drop, take_at, drop_at, Ok}
use Rattle.std.specs.Prelude.{⊤}
use Rattle.std.specs.List.{All}
use Rattle.std.proofs.Math.Nat.{eq-or-lt_of_le}
use Rattle.std.proofs.lemmas.Bool.{cases_lt}
use Rattle.std.proofs.lemmas.List.Elements.{All-nil, All-cons}
use Rattle.std.proofs.lemmas.Option.{slice_get_within}
use Rattle.tl_spec.specs.Tree.Order.{ChildrenFollowParents, DescendantsAreContiguous}
use Rattle.tl_spec.specs.Lex.ByteClass.{is_void}
use Rattle.tl_spec.specs.Print.Clean.{IsClean, IsCleanTable, IsCleanWalk, IsTame}
use Rattle.tl_spec.specs.Tree.Document.{Comment, Node, Raw, Tag, TagNode, document, nodes, numbers, size, tag_node}
use Rattle.tl_spec.specs.Tree.Forest.{Forest, SourceTag, comment, forest, none, plain, plain_tag, tag, text}
use Rattle.tl_spec.specs.Lex.Token.{tokens}
use Rattle.tl_spec.specs.Walk.{Walk, end, all_tags, first_fault, meets_comment, meets_tag, meets_text, earlier_fault, passes_tag, prints_children, stands_on, tag_walk, trees, visits, visits_from, walk}
use Rattle.tl_spec.proofs.Print.Fresh.{fresh_is_clean}
use Rattle.tl_spec.proofs.Walk.Walks.{walk-cons, walk-nil}

-- the numbers of the path are below i
abbrev pub AreBelow : ℕ → List ℕ → Type 0
AreBelow i [] = ⊤
AreBelow i (g ∷ gs) = (g < i) × AreBelow i gs

pub AreBelow-le : (i j : ℕ) (gs : List ℕ) → i ≤ j → AreBelow i gs → AreBelow j gs
AreBelow-le i j [] l h = tt
AreBelow-le i j (g ∷ gs) l h = (omega (arith, h.0), AreBelow-le i j gs l h.1)

AreBelow-add : (i : ℕ) (gs : List ℕ) → AreBelow i gs → AreBelow (i + 1) (i ∷ gs)
AreBelow-add i gs h = (omega arith, AreBelow-le i (i + 1) gs (omega arith) h)

pub off_path : (i : ℕ) (gs : List ℕ) → AreBelow i gs → stands_on gs i ≡ false
off_path i [] h = refl
off_path i (g ∷ gs) h = rw (ne_eqb g i (omega (arith, h.0))) (off_path i gs h.1)

get_at : (pre : List Node) (x : Node) (post : List Node) → slice_get (pre ++ x ∷ post) (length pre) ≡ Some x
get_at [] x post = refl
get_at (y ∷ pre) x post = get_at pre x post

module _ (t : List ℕ) where
  pub length-nodes : (f : Forest SourceTag) (i : ℕ) → length (nodes t i f) ≡ size f
  length-nodes none i = refl
  length-nodes (text b more) i = omega (arith, length-nodes more (i + 1))
  length-nodes (comment b more) i = omega (arith, length-nodes more (i + 1))
  length-nodes (tag own children more) i =
      omega (arith, length-nodes children (i + 1), length-nodes more (i + 1 + size children), length-append (nodes t (i + 1) children) (nodes t (i + 1 + size children) more))

  -- the table has the nodes of f from i on
  record Stands (table : List Node) (i : ℕ) (f : Forest SourceTag) : Type 0 where
    pre : List Node
    post : List Node
    is : table ≡ pre ++ (nodes t i f ++ post)
    at : length pre ≡ i

  get-first : (table : List Node) (i : ℕ) (x : Node) (pre post : List Node) → table ≡ pre ++ x ∷ post → length pre ≡ i → slice_get table i ≡ Some x
  get-first table i x pre post e l = ap₂ slice_get e (sym l) ∙ get_at pre x post

  after-one : (table : List Node) (i : ℕ) (x : Node) (f : Forest SourceTag) (pre post : List Node) → table ≡ pre ++ x ∷ (nodes t (i + 1) f ++ post) → length pre ≡ i → Stands table (i + 1) f
  after-one table i x f pre post e l = record {
    pre = pre ++ x ∷ [];
    post = post;
    is = e ∙ sym (append_assoc pre (x ∷ []) (nodes t (i + 1) f ++ post));
    at = length-append pre (x ∷ []) ∙ omega arith;
  }

  after-children : (table : List Node) (i : ℕ) (x : Node) (children more : Forest SourceTag) (pre post : List Node)
      → table ≡ pre ++ x ∷ (nodes t (i + 1) children ++ (nodes t (i + 1 + size children) more ++ post)) → length pre ≡ i → Stands table (i + 1 + size children) more
  after-children table i x children more pre post e l =
      let ks = nodes t (i + 1) children in
      record {
        pre = pre ++ x ∷ ks;
        post = post;
        is = e ∙ sym (append_assoc pre (x ∷ ks) (nodes t (i + 1 + size children) more ++ post));
        at = length-append pre (x ∷ ks) ∙ omega (arith, length-nodes children (i + 1));
      }

  module _ (enters : List ℕ → Bool) where
    -- the walk of trees in preorder, where the first has the number n
    tree_walk : ℕ → Forest SourceTag → Walk
    tree_walk n none = end
    tree_walk n (text b more) = meets_text n b (tree_walk (n + 1) more)
    tree_walk n (comment b more) = meets_comment n b (tree_walk (n + 1) more)
    tree_walk n (tag own children more) =
        tag_walk enters [] (λ _. tree_walk (n + 1) children) n (tree_walk (n + 1 + size children) more) (tag_node t own (numbers (n + 1) children)) (enters own.name)

    module _ (table : List Node) where
      -- a tag over the table, and as the trees have it
      tag-same : (f g : List ℕ → Walk) (h : ℕ) (m k : Walk) (own : TagNode) → f own.children.items ≡ g own.children.items → m ≡ k → (b : Bool) →
          tag_walk enters table f h m own b ≡ tag_walk enters [] g h k own b
      tag-same f g h m k own below after true = ap₂ (meets_tag h own) below after
      tag-same f g h m k own below after false = ap (passes_tag h own) after

      walk-trees : (f : Forest SourceTag) (n : ℕ) (path : List ℕ) → Stands table n f → AreBelow n path → walk enters table path (numbers n f) ≡ tree_walk n f
      unfolding tree_walk
      walk-trees none n path s b = walk-nil enters table path
      walk-trees (text u more) n path s b =
          walk-cons enters table path n (numbers (n + 1) more) false (Some (Raw u)) (off_path n path b) (get-first table n (Raw u) s.pre _ s.is s.at)
          ∙ ap (meets_text n u) (walk-trees more (n + 1) path (after-one table n (Raw u) more s.pre s.post s.is s.at) (AreBelow-le n (n + 1) path (omega arith) b))
      walk-trees (comment u more) n path s b =
          walk-cons enters table path n (numbers (n + 1) more) false (Some (Comment u)) (off_path n path b) (get-first table n (Comment u) s.pre _ s.is s.at)
          ∙ ap (meets_comment n u) (walk-trees more (n + 1) path (after-one table n (Comment u) more s.pre s.post s.is s.at) (AreBelow-le n (n + 1) path (omega arith) b))
      walk-trees (tag own children more) n path s b =
          let cs : List ℕ = numbers (n + 1) children in
          let x : Node = Tag (tag_node t own cs) in
          let later : List Node = nodes t (n + 1 + size children) more ++ s.post in
          let e : table ≡ s.pre ++ x ∷ (nodes t (n + 1) children ++ later) = s.is ∙ ap (λ y. s.pre ++ x ∷ y) (append_assoc (nodes t (n + 1) children) (nodes t (n + 1 + size children) more) s.post) in
          let inside : walk enters table (n ∷ path) cs ≡ tree_walk (n + 1) children =
          walk-trees children (n + 1) (n ∷ path) (after-one table n x children s.pre later e s.at) (AreBelow-add n path b) in
          let after = walk-trees more (n + 1 + size children) path (after-children table n x children more s.pre s.post e s.at) (AreBelow-le n (n + 1 + size children) path (omega arith) b) in
          walk-cons enters table path n (numbers (n + 1 + size children) more) false (Some x) (off_path n path b) (get-first table n x s.pre _ s.is s.at)
          ∙ tag-same (walk enters table (n ∷ path)) (λ _. tree_walk (n + 1) children) n _ _ (tag_node t own cs) inside after (enters own.name)

  whole : (f : Forest SourceTag) → Stands (nodes t 0 f) 0 f
  whole f = record { pre = []; post = []; is = sym (append-nil (nodes t 0 f)); at = refl }

  tree_walk-faultless : (f : Forest SourceTag) (n : ℕ) → first_fault (tree_walk all_tags n f) ≡ None
  unfolding tree_walk
  tree_walk-faultless none n = refl
  tree_walk-faultless (text u more) n = tree_walk-faultless more (n + 1)
  tree_walk-faultless (comment u more) n = tree_walk-faultless more (n + 1)
  tree_walk-faultless (tag own children more) n = ap₂ earlier_fault (tree_walk-faultless children (n + 1)) (tree_walk-faultless more (n + 1 + size children))

  tree_walk-trees : (f : Forest SourceTag) (n : ℕ) → trees (tree_walk all_tags n f) ≡ plain f
  unfolding tree_walk
  tree_walk-trees none n = refl
  tree_walk-trees (text u more) n = ap (text u) (tree_walk-trees more (n + 1))
  tree_walk-trees (comment u more) n = ap (comment u) (tree_walk-trees more (n + 1))
  tree_walk-trees (tag own children more) n = ap₂ (tag (plain_tag own)) (tree_walk-trees children (n + 1)) (tree_walk-trees more (n + 1 + size children))

  visits-append : (xs ys : List Node) (n : ℕ) → visits_from n (xs ++ ys) ≡ visits_from n xs ++ visits_from (n + length xs) ys
  visits-append [] ys n = ap (λ m. visits_from m ys) (omega arith)
  visits-append (x ∷ xs) ys n = ap (λ vs. Ok (n, x) ∷ vs) (visits-append xs ys (n + 1) ∙ ap (λ m. visits_from (n + 1) xs ++ visits_from m ys) (omega arith))

  tree_walk-visits : (f : Forest SourceTag) (n : ℕ) → visits (tree_walk all_tags n f) ≡ visits_from n (nodes t n f)
  unfolding tree_walk
  tree_walk-visits none n = refl
  tree_walk-visits (text u more) n = ap (λ xs. Ok (n, Raw u) ∷ xs) (tree_walk-visits more (n + 1))
  tree_walk-visits (comment u more) n = ap (λ xs. Ok (n, Comment u) ∷ xs) (tree_walk-visits more (n + 1))
  tree_walk-visits (tag own children more) n =
      let x : Node = Tag (tag_node t own (numbers (n + 1) children)) in
      let place : n + 1 + size children ≡ n + 1 + length (nodes t (n + 1) children) = omega (arith, length-nodes children (n + 1)) in
      ap₂ (λ xs ys. Ok (n, x) ∷ xs ++ ys) (tree_walk-visits children (n + 1))
      (tree_walk-visits more (n + 1 + size children) ∙ ap (λ m. visits_from m (nodes t (n + 1 + size children) more)) place)
      ∙ ap (λ vs. Ok (n, x) ∷ vs) (sym (visits-append (nodes t (n + 1) children) (nodes t (n + 1 + size children) more) (n + 1)))

  numbers-none : (f : Forest SourceTag) (n : ℕ) → plain f ≡ none → numbers n f ≡ []
  numbers-none none n e = refl
  numbers-none (text u more) n e = absurd (cc)
  numbers-none (comment u more) n e = absurd (cc)
  numbers-none (tag own children more) n e = absurd (cc)

  tree_walk-clean : (f : Forest SourceTag) (n : ℕ) → IsClean (plain f) → IsCleanWalk (tree_walk prints_children n f)
  unfolding tree_walk
  tree_walk-clean none n h = tt
  tree_walk-clean (text u more) n h = (h.0, tree_walk-clean more (n + 1) h.1)
  tree_walk-clean (comment u more) n h = (h.0, tree_walk-clean more (n + 1) h.1)
  tree_walk-clean (tag own children more) n h =
      let node : TagNode = tag_node t own (numbers (n + 1) children) in
      let childless : is_void own.name ≡ true → node.children.items ≡ [] = λ v. numbers-none children (n + 1) (h.1 v) in
      let after = tree_walk-clean more (n + 1 + size children) h.3 in
      let here : (b : Bool) → IsCleanWalk (tag_walk prints_children [] (λ _. tree_walk prints_children (n + 1) children) n (tree_walk prints_children (n + 1 + size children) more) node b) = elim [
        | true ↦ (h.0, childless, tree_walk-clean children (n + 1) h.2, after)
        | false ↦ (h.0, childless, after)
      ] in
      here (prints_children own.name)

document_walk : (enters : List ℕ → Bool) (t : List ℕ) → walk enters (document t).nodes [] (document t).top ≡ tree_walk t enters 0 (forest (tokens t))
document_walk enters t = let f = forest (tokens t) in walk-trees t enters (nodes t 0 f) f 0 [] (whole t f) tt

pub document-faultless : (t : List ℕ) → first_fault (walk all_tags (document t).nodes [] (document t).top) ≡ None
document-faultless t = ap first_fault (document_walk all_tags t) ∙ tree_walk-faultless t (forest (tokens t)) 0

pub document-ordered : (t : List ℕ) → visits (walk all_tags (document t).nodes [] (document t).top) ≡ visits_from 0 (document t).nodes
document-ordered t = ap visits (document_walk all_tags t) ∙ tree_walk-visits t (forest (tokens t)) 0

pub document-whole : (t : List ℕ) → trees (walk all_tags (document t).nodes [] (document t).top) ≡ plain (forest (tokens t))
document-whole t = ap trees (document_walk all_tags t) ∙ tree_walk-trees t (forest (tokens t)) 0

pub fresh_table : (t : List ℕ) → IsTame (plain (forest (tokens t))) → IsCleanTable (document t).nodes (document t).top
fresh_table t h = subst IsCleanWalk (sym (document_walk prints_children t)) (tree_walk-clean t (forest (tokens t)) 0 (fresh_is_clean t h))

-- below a tag

numbers-above : (f : Forest SourceTag) (m n : ℕ) → m < n → All (λ c. m < c) (numbers n f)
numbers-above none m n l = All-nil (λ c. m < c)
numbers-above (text u more) m n l = All-cons (λ c. m < c) n (numbers (n + 1) more) l (numbers-above more m (n + 1) (omega arith))
numbers-above (comment u more) m n l = All-cons (λ c. m < c) n (numbers (n + 1) more) l (numbers-above more m (n + 1) (omega arith))
numbers-above (tag own children more) m n l = All-cons (λ c. m < c) n (numbers (n + 1 + size children) more) l (numbers-above more m (n + 1 + size children) (omega arith))

module _ (t : List ℕ) (table : List Node) where
  -- a tag of the table, as the trees have it
  record Found (m : ℕ) (own : TagNode) : Type 0 where
    children : Forest SourceTag
    children_are : own.children.items ≡ numbers (m + 1) children
    stands : Stands t table (m + 1) children

  some_tag : Option Node → TagNode → TagNode
  some_tag (Some (Tag own)) other = own
  some_tag (Some (Raw u)) other = other
  some_tag (Some (Comment u)) other = other
  some_tag None other = other

  found : (f : Forest SourceTag) (i m : ℕ) (own : TagNode) → Stands t table i f → i ≤ m → m < i + size f → slice_get table m ≡ Some (Tag own) → Found m own
  unfolding some_tag
  found none i m own s lo hi e = absurd (omega arith)
  found (text u more) i m own s lo hi e = elim (eq-or-lt_of_le lo) [
    | inr l ↦ found more (i + 1) m own (after-one t table i (Raw u) more s.pre s.post s.is s.at) (omega arith) (omega arith) e
    | inl same ↦ absurd (let is : Some (Raw u) ≡ Some (Tag own) = sym (get-first t table i (Raw u) s.pre _ s.is s.at) ∙ ap (slice_get table) same ∙ e in cc)
  ]
  found (comment u more) i m own s lo hi e = elim (eq-or-lt_of_le lo) [
    | inr l ↦ found more (i + 1) m own (after-one t table i (Comment u) more s.pre s.post s.is s.at) (omega arith) (omega arith) e
    | inl same ↦ absurd (let is : Some (Comment u) ≡ Some (Tag own) = sym (get-first t table i (Comment u) s.pre _ s.is s.at) ∙ ap (slice_get table) same ∙ e in cc)
  ]
  found (tag read children more) i m own s lo hi e =
      let cs : List ℕ = numbers (i + 1) children in
      let x : Node = Tag (tag_node t read cs) in
      let later : List Node = nodes t (i + 1 + size children) more ++ s.post in
      let split : table ≡ s.pre ++ x ∷ (nodes t (i + 1) children ++ later) = s.is ∙ ap (λ y. s.pre ++ x ∷ y) (append_assoc (nodes t (i + 1) children) (nodes t (i + 1 + size children) more) s.post) in
      let inside : Stands t table (i + 1) children = after-one t table i x children s.pre later split s.at in
      elim (eq-or-lt_of_le lo) [
        | inr l ↦ elim (cases_lt m (i + 1 + size children)) [
          | inl below ↦ found children (i + 1) m own inside (omega arith) (omega arith) e
          | inr above ↦ found more (i + 1 + size children) m own (after-children t table i x children more s.pre s.post split s.at) above (omega arith) e
        ]
        | inl same ↦ (
            let is : Some x ≡ Some (Tag own) = sym (get-first t table i x s.pre _ split s.at) ∙ ap (slice_get table) same ∙ e in
            let own_is : tag_node t read cs ≡ own = ap (λ o. some_tag o own) is in
            subst (λ m. Found m own) same (record { children = children; children_are = ap (λ (g : TagNode). g.children.items) (sym own_is); stands = inside }))
      ]

document_tag : (t : List ℕ) (n : ℕ) (own : TagNode) → slice_get (document t).nodes n ≡ Some (Tag own) → Found t (document t).nodes n own
document_tag t n own e =
    let f = forest (tokens t) in
    let within : n < length (nodes t 0 f) = slice_get_within (nodes t 0 f) n (Tag own) e in
    let all : length (nodes t 0 f) ≡ size f = length-nodes t f 0 in
    found t (nodes t 0 f) f 0 n own (whole t f) (omega arith) (omega arith) e

-- a child's number is above its parent's
pub children-above : (t : List ℕ) → ChildrenFollowParents (document t).nodes
children-above t n own e =
    let g = document_tag t n own e in
    subst (All (λ c. n < c)) (sym g.children_are) (numbers-above g.children n (n + 1) (omega arith))

front_of : (pre xs post : List Node) (m : ℕ) → length pre ≡ m → take (length xs) (drop m (pre ++ (xs ++ post))) ≡ xs
front_of pre xs post m e = ap (λ n. take (length xs) (drop n (pre ++ (xs ++ post)))) (sym e) ∙ ap (take (length xs)) (drop_at pre (xs ++ post) (length pre) refl) ∙ take_at xs post (length xs) refl

-- a tag's descendants are the nodes right after it
pub descendants-interval : (t : List ℕ) → DescendantsAreContiguous (document t).nodes
descendants-interval t n own e =
    let g = document_tag t n own e in
    let table : List Node = (document t).nodes in
    let xs : List Node = nodes t (n + 1) g.children in
    let is : take (length xs) (drop (n + 1) table) ≡ xs = ap (λ ys. take (length xs) (drop (n + 1) ys)) g.stands.is ∙ front_of g.stands.pre xs g.stands.post (n + 1) g.stands.at in (
      length xs,
      ap (λ cs. visits (walk all_tags table [] cs)) g.children_are
          ∙ ap visits (walk-trees t all_tags table g.children (n + 1) [] g.stands tt)
          ∙ tree_walk-visits t g.children (n + 1)
          ∙ ap (visits_from (n + 1)) (sym is),
    )
