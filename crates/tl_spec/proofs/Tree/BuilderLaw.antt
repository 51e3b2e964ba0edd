-- The machine that writes a document token by token writes the nodes and the top list of the trees of the tokens.
use Rattle.std.proofs.Common.{◌≡◌, ℕ, ◌+◌, ◌||◌, ◌==◌, Bool, false, List, [], ◌∷◌, ◌++◌, length, Option, None, Some, unwrap_or, refl, sym, ◌∙◌, ap, arith, append_assoc, append-nil, length-append}
use Rattle.std.specs.Prelude.{nat_lt}
use Rattle.std.proofs.lemmas.Bool.Decides.{nat_tests}
use Rattle.std.proofs.lemmas.Slice.Eq.{bytes_eq-Decides}
use Rattle.tl_spec.specs.Tree.Inline.{room, with_last}
use Rattle.tl_spec.specs.Lex.Token.{PlacedToken, Start}
use Rattle.tl_spec.specs.Tree.Forest.{Forest, none, text, comment, tag, SourceTag, Siblings, with_tree, source_tag, closes, siblings, forest, ParsesTo, over, a_text, a_comment, alone, opened, ended, stray, a_doctype, dropped}
use Rattle.tl_spec.specs.Tree.Document.{Node, Tag, Raw, Comment as Remark, held_items, size, numbers, tag_node, nodes}
use Rattle.tl_spec.specs.Tree.Builder.{State, start, map_at, with_child, with_raw_to, name_if_tag, enclosing_name, with_next_node, with_open_tag as entered, with_innermost_closed, after_start, after_end, run}
use Rattle.tl_spec.proofs.Tree.Builder.{map_at-middle, slice_get-middle}
use Rattle.tl_spec.proofs.Tree.Siblings.{closes-stray, siblings-ParsesTo}

-- one more item
pub with_last-held : (xs : List ℕ) (x : ℕ) → with_last room (held_items xs) x ≡ held_items (xs ++ x ∷ [])
with_last-held xs x =
    let longer = length-append xs (x ∷ []) in
    let flag : (nat_lt 2 (length xs) || (length xs == 2)) ≡ nat_lt 2 (length (xs ++ x ∷ [])) = grind (arith, nat_tests) in
    ap (λ on_heap. record { items = xs ++ x ∷ []; on_heap = on_heap }) flag

-- what stands around the trees that are written: the top list alone, or also nodes, an open tag after them with its first children, and the tags around it
data Frame : Type 0 where
  at_top : (top : List ℕ) → Frame
  inside : (before : List Node) (own : SourceTag) (children outer top : List ℕ) → Frame

-- more numbers at the end of the innermost list
abbrev adopting : Frame → List ℕ → Frame
adopting (at_top top) ns = at_top (top ++ ns)
adopting (inside before own children outer top) ns = inside before own (children ++ ns) outer top

abbrev name_at : Frame → Option (List ℕ)
name_at (at_top top) = None
name_at (inside before own children outer top) = Some own.name

abbrev open_at : Frame → List ℕ
open_at (at_top top) = []
open_at (inside before own children outer top) = length before ∷ outer

abbrev top_at : Frame → List ℕ
top_at (at_top top) = top
top_at (inside before own children outer top) = top

adopting-nil : (p : Frame) → adopting p [] ≡ p
adopting-nil (at_top top) = ap at_top (append-nil top)
adopting-nil (inside before own children outer top) = ap (λ cs. inside before own cs outer top) (append-nil children)

adopting-twice : (p : Frame) (ms ns : List ℕ) → adopting (adopting p ms) ns ≡ adopting p (ms ++ ns)
adopting-twice (at_top top) ms ns = ap at_top (append_assoc top ms ns)
adopting-twice (inside before own children outer top) ms ns = ap (λ cs. inside before own cs outer top) (append_assoc children ms ns)

name_at-adopting : (p : Frame) (ns : List ℕ) → name_at (adopting p ns) ≡ name_at p
name_at-adopting (at_top top) ns = refl
name_at-adopting (inside before own children outer top) ns = refl

-- what counts at the end
abbrev written : State → List Node × List ℕ
written s = (s.nodes, s.top)

module _ (t : List ℕ) where
  -- all nodes, where bs are those after the open tag
  abbrev nodes_at : Frame → List Node → List Node
  nodes_at (at_top top) bs = bs
  nodes_at (inside before own children outer top) bs = before ++ Tag (tag_node t own children) ∷ bs

  abbrev count_at : Frame → List Node → ℕ
  count_at p bs = length (nodes_at p bs)

  abbrev state : Frame → List Node → Bool → State
  state p bs v = record { nodes = nodes_at p bs; open_tags = open_at p; top = top_at p; is_html5 = v }

  nodes_at-append : (p : Frame) (bs cs : List Node) → nodes_at p bs ++ cs ≡ nodes_at p (bs ++ cs)
  nodes_at-append (at_top top) bs cs = refl
  nodes_at-append (inside before own children outer top) bs cs = append_assoc before (Tag (tag_node t own children) ∷ bs) cs

  count_at-append : (p : Frame) (ns : List ℕ) (bs cs : List Node) → count_at (adopting p ns) (bs ++ cs) ≡ count_at p bs + length cs
  count_at-append (at_top top) ns bs cs = length-append bs cs
  count_at-append (inside before own children outer top) ns bs cs = omega (arith, length-append {A = Node})

  count_at-adopting : (p : Frame) (ns : List ℕ) (bs : List Node) → count_at (adopting p ns) bs ≡ count_at p bs
  count_at-adopting (at_top top) ns bs = refl
  count_at-adopting (inside before own children outer top) ns bs = omega (arith, length-append {A = Node})

  length-nodes : (n : ℕ) (f : Forest SourceTag) → length (nodes t n f) ≡ size f
  length-nodes n none = refl
  length-nodes n (text bytes more) = omega (arith, length-nodes (n + 1) more)
  length-nodes n (comment bytes more) = omega (arith, length-nodes (n + 1) more)
  length-nodes n (tag own children more) =
      omega (arith, length-append (nodes t (n + 1) children) (nodes t (n + 1 + size children) more), length-nodes (n + 1) children, length-nodes (n + 1 + size children) more)

  -- one step of the machine there

  enclosing_name-is : (p : Frame) (bs : List Node) → enclosing_name (nodes_at p bs) (open_at p) ≡ name_at p
  enclosing_name-is (at_top top) bs = refl
  enclosing_name-is (inside before own children outer top) bs = ap name_if_tag (slice_get-middle before (Tag (tag_node t own children)) bs)

  child-is : (own : SourceTag) (children : List ℕ) (n : ℕ) (before bs : List Node) →
      map_at (with_child n) (length before) (before ++ Tag (tag_node t own children) ∷ bs) ≡ before ++ Tag (tag_node t own (children ++ n ∷ [])) ∷ bs
  child-is own children n before bs =
      map_at-middle (with_child n) before (Tag (tag_node t own children)) bs
      ∙ ap (λ held. before ++ Tag (record (tag_node t own []) { children = held }) ∷ bs) (with_last-held children n)

  added-is : (p : Frame) (bs : List Node) (v : Bool) (x : Node) → with_next_node x (state p bs v) ≡ state (adopting p (count_at p bs ∷ [])) (bs ++ x ∷ []) v
  added-is (at_top top) bs v x = refl
  added-is (inside before own children outer top) bs v x =
      let p : Frame = inside before own children outer top in
      let n : ℕ = count_at p bs in
      let with_nodes : List Node → State = λ xs. record (state p bs v) { nodes = xs } in
      ap (λ xs. with_nodes (xs ++ x ∷ [])) (child-is own children n before bs)
      ∙ ap with_nodes (nodes_at-append (adopting p (n ∷ [])) bs (x ∷ []))

  -- inside a tag that opens
  abbrev within : Frame → List Node → SourceTag → Frame
  within p bs own = let q = adopting p (count_at p bs ∷ []) in inside (nodes_at q bs) own [] (open_at q) (top_at q)

  entered-is : (p : Frame) (bs : List Node) (v : Bool) (own : SourceTag) → entered (Tag (tag_node t own [])) (state p bs v) ≡ state (within p bs own) [] v
  entered-is (at_top top) bs v own = refl
  entered-is (inside before around children outer top) bs v own =
      let p : Frame = inside before around children outer top in
      let n : ℕ = count_at p bs in
      let q : Frame = adopting p (n ∷ []) in
      let x : Node = Tag (tag_node t own []) in
      let made : ℕ → List Node → State = λ i xs. record { nodes = xs ++ x ∷ []; open_tags = i ∷ open_at q; top = top; is_html5 = v } in
      ap (made n) (child-is around children n before bs) ∙ ap (λ i. made i (nodes_at q bs)) (sym (count_at-adopting p (n ∷ []) bs))

  count_at-within : (p : Frame) (bs : List Node) (own : SourceTag) → count_at (within p bs own) [] ≡ count_at p bs + 1
  count_at-within p bs own =
      let q : Frame = adopting p (count_at p bs ∷ []) in
      length-append (nodes_at q bs) (Tag (tag_node t own []) ∷ []) ∙ ap (λ n. n + 1) (count_at-adopting p (count_at p bs ∷ []) bs)

  -- the machine after trees

  abbrev grown : Frame → List Node → Bool → Forest SourceTag → State
  grown p bs v f = state (adopting p (numbers (count_at p bs) f)) (bs ++ nodes t (count_at p bs) f) v

  grown-none : (p : Frame) (bs : List Node) (v : Bool) → grown p bs v none ≡ state p bs v
  grown-none p bs v = ap (λ q. state q (bs ++ []) v) (adopting-nil p) ∙ ap (λ xs. state p xs v) (append-nil bs)

  -- after one tree of the nodes xs
  grown-after : (p : Frame) (bs xs : List Node) (v : Bool) (f : Forest SourceTag) (n : ℕ) → count_at p bs + length xs ≡ n →
      grown (adopting p (count_at p bs ∷ [])) (bs ++ xs) v f ≡ state (adopting p (count_at p bs ∷ numbers n f)) (bs ++ (xs ++ nodes t n f)) v
  grown-after p bs xs v f n e =
      let one : List ℕ = count_at p bs ∷ [] in
      ap (λ m. state (adopting (adopting p one) (numbers m f)) ((bs ++ xs) ++ nodes t m f) v) (count_at-append p one bs xs ∙ e)
      ∙ ap (λ q. state q ((bs ++ xs) ++ nodes t n f) v) (adopting-twice p one (numbers n f))
      ∙ ap (λ ys. state (adopting p (count_at p bs ∷ numbers n f)) ys v) (append_assoc bs xs (nodes t n f))

  -- the node of a tag, and those of its children
  abbrev tag_nodes : ℕ → SourceTag → Forest SourceTag → List Node
  tag_nodes n own children = Tag (tag_node t own (numbers (n + 1) children)) ∷ nodes t (n + 1) children

  grown-tag : (p : Frame) (bs : List Node) (own : SourceTag) (children : Forest SourceTag) (v : Bool) (f : Forest SourceTag) →
      grown (adopting p (count_at p bs ∷ [])) (bs ++ tag_nodes (count_at p bs) own children) v f ≡ grown p bs v (tag own children f)
  grown-tag p bs own children v f =
      let n : ℕ = count_at p bs in
      grown-after p bs (tag_nodes n own children) v f (n + 1 + size children) (omega (arith, length-nodes (n + 1) children))

  -- an end tag that ends at a place, if there was one
  abbrev shut : Option ℕ → State → State
  shut None s = s
  shut (Some to) s = with_innermost_closed t to s

  closed-is : (p : Frame) (bs : List Node) (own : SourceTag) (to : ℕ) (ns : List ℕ) (xs : List Node) (v : Bool) →
      with_innermost_closed t to (state (adopting (within p bs own) ns) xs v) ≡ state (adopting p (count_at p bs ∷ [])) (bs ++ Tag (tag_node t (record own { to = to }) ns) ∷ xs) v
  closed-is p bs own to ns xs v =
      let q : Frame = adopting p (count_at p bs ∷ []) in
      let with_nodes : List Node → State = λ ys. record (state q [] v) { nodes = ys } in
      ap with_nodes (map_at-middle (with_raw_to t to) (nodes_at q bs) (Tag (tag_node t own ns)) xs
      ∙ nodes_at-append q bs (Tag (tag_node t (record own { to = to }) ns) ∷ xs))

  -- the rest of the tokens after a tag's children and its end
  after-children : (p : Frame) (bs : List Node) (own : SourceTag) (f : Forest SourceTag) (v : Bool) (closed_at : Option ℕ) (left : List PlacedToken) → (closed_at ≡ None → left ≡ []) →
      written (run t (shut closed_at (grown (within p bs own) [] v f)) left)
      ≡ written (run t (state (adopting p (count_at p bs ∷ [])) (bs ++ tag_nodes (count_at p bs) (record own { to = unwrap_or closed_at own.to }) f) v) left)
  after-children p bs own f v (Some to) left rests =
      let made : ℕ → State = λ n. state (adopting (within p bs own) (numbers n f)) (nodes t n f) v in
      let n : ℕ = count_at p bs + 1 in
      ap (λ n. written (run t (with_innermost_closed t to (made n)) left)) (count_at-within p bs own)
      ∙ ap (λ s. written (run t s left)) (closed-is p bs own to (numbers n f) (nodes t n f) v)
  after-children p bs own f v None left rests =
      let q : Frame = adopting p (count_at p bs ∷ []) in
      let made : ℕ → State = λ n. state (adopting (within p bs own) (numbers n f)) (nodes t n f) v in
      let last : State = state q (bs ++ tag_nodes (count_at p bs) own f) v in
      ap (λ ks. written (run t (grown (within p bs own) [] v f) ks)) (rests refl)
      ∙ ap (λ n. written (made n)) (count_at-within p bs own)
      ∙ ap (λ xs. (xs, top_at q)) (nodes_at-append q bs (tag_nodes (count_at p bs) own f))
      ∙ ap (λ ks. written (run t last ks)) (sym (rests refl))

-- trees that no end tag ended leave no token
left-none : {o : Option (List ℕ)} {ks : List PlacedToken} {s : Siblings} → ParsesTo o ks s → s.closed_at ≡ None → s.left ≡ []
left-none over e = refl
left-none (a_text m) e = left-none m e
left-none (a_comment m) e = left-none m e
left-none (alone v m) e = left-none m e
left-none (opened v inner m) e = left-none m e
left-none ended e = cc
left-none (stray h m) e = left-none m e
left-none (a_doctype m) e = left-none m e
left-none (dropped m) e = left-none m e

-- at the top no end tag ends the trees
closed_at-top : {o : Option (List ℕ)} {ks : List PlacedToken} {s : Siblings} → ParsesTo o ks s → o ≡ None → s.closed_at ≡ None
closed_at-top over e = refl
closed_at-top (a_text m) e = closed_at-top m e
closed_at-top (a_comment m) e = closed_at-top m e
closed_at-top (alone v m) e = closed_at-top m e
closed_at-top (opened v inner m) e = closed_at-top m e
closed_at-top ended e = absurd (cc)
closed_at-top (stray h m) e = closed_at-top m e
closed_at-top (a_doctype m) e = closed_at-top m e
closed_at-top (dropped m) e = closed_at-top m e

module _ (t : List ℕ) where
  -- the run goes on after the siblings
  abbrev after : Siblings → Frame → List Node → Bool → List Node × List ℕ
  after s p bs v = written (run t (shut t s.closed_at (grown t p bs v s.trees)) s.left)

  -- with some version, which nothing but a doctype looks at
  abbrev Leads : List Node × List ℕ → Siblings → Frame → List Node → Type 0
  Leads found s p bs = (v : Bool) × (found ≡ after s p bs v)

  abbrev next : Frame → List Node → Frame
  next p bs = adopting p (count_at t p bs ∷ [])

  -- one tree more, of the nodes xs
  one-more : (tree : Forest SourceTag → Forest SourceTag) (p : Frame) (bs xs : List Node) →
      ((v : Bool) (f : Forest SourceTag) → grown t (next p bs) (bs ++ xs) v f ≡ grown t p bs v (tree f)) →
      (s : Siblings) (found more : List Node × List ℕ) → found ≡ more → Leads more s (next p bs) (bs ++ xs) → Leads found (with_tree tree s) p bs
  one-more tree p bs xs grows s found more e h =
      (h.0, e ∙ h.1 ∙ ap (λ g. written (run t (shut t s.closed_at g) s.left)) (grows h.0 s.trees))

  writes : {o : Option (List ℕ)} {ks : List PlacedToken} {s : Siblings} → ParsesTo o ks s → (p : Frame) → name_at p ≡ o → (bs : List Node) (v : Bool) →
      Leads (written (run t (state t p bs v) ks)) s p bs
  writes over p e bs v = (v, ap written (sym (grown-none t p bs v)))
  writes (a_text {bytes = bytes} {ks = ks} {s = s} m) p e bs v =
      let x : Node = Raw bytes in
      one-more (text bytes) p bs (x ∷ []) (λ w f. grown-after t p bs (x ∷ []) w f (count_at t p bs + 1) refl) s _ _
      (ap (λ s. written (run t s ks)) (added-is t p bs v x))
      (writes m (next p bs) (name_at-adopting p (count_at t p bs ∷ []) ∙ e) (bs ++ x ∷ []) v)
  writes (a_comment {bytes = bytes} {ks = ks} {s = s} m) p e bs v =
      let x : Node = Remark bytes in
      one-more (comment bytes) p bs (x ∷ []) (λ w f. grown-after t p bs (x ∷ []) w f (count_at t p bs + 1) refl) s _ _
      (ap (λ s. written (run t s ks)) (added-is t p bs v x))
      (writes m (next p bs) (name_at-adopting p (count_at t p bs ∷ []) ∙ e) (bs ++ x ∷ []) v)
  writes (alone {name = name} {pairs = pairs} {c = c} {i = i} {j = j} {ks = ks} {s = s} stands m) p e bs v =
      let own : SourceTag = source_tag (record { token = Start name pairs c; from = i; to = j }) name pairs in
      let x : Node = Tag (tag_node t own []) in
      one-more (tag own none) p bs (x ∷ []) (grown-tag t p bs own none) s _ _
      (ap (λ b. written (run t (after_start t x (state t p bs v) b) ks)) stands ∙ ap (λ s. written (run t s ks)) (added-is t p bs v x))
      (writes m (next p bs) (name_at-adopting p (count_at t p bs ∷ []) ∙ e) (bs ++ x ∷ []) v)
  writes (opened {name = name} {pairs = pairs} {c = c} {i = i} {j = j} {ks = ks} {inner = inner} {s = s} opens children m) p e bs v =
      let own : SourceTag = source_tag (record { token = Start name pairs c; from = i; to = j }) name pairs in
      let whole : SourceTag = record own { to = unwrap_or inner.closed_at j } in
      let x : Node = Tag (tag_node t own []) in
      let xs : List Node = tag_nodes t (count_at t p bs) whole inner.trees in
      let below = writes children (within t p bs own) refl [] v in
      one-more (tag whole inner.trees) p bs xs (grown-tag t p bs whole inner.trees) s _ _
      (ap (λ b. written (run t (after_start t x (state t p bs v) b) ks)) opens
      ∙ ap (λ s. written (run t s ks)) (entered-is t p bs v own)
      ∙ below.1
      ∙ after-children t p bs own inner.trees below.0 inner.closed_at inner.left (left-none children))
      (writes m (next p bs) (name_at-adopting p (count_at t p bs ∷ []) ∙ e) (bs ++ xs) below.0)
  writes (ended {name = name} {i = i} {j = j} {ks = ks}) p e bs v =
      let s : State = state t p bs v in (
        v,
        ap (λ o. written (run t (after_end t j s (closes name o)) ks)) (enclosing_name-is t p bs ∙ e)
            ∙ ap (λ b. written (run t (after_end t j s b) ks)) ((bytes_eq-Decides name name).1 refl)
            ∙ ap (λ s. written (run t (with_innermost_closed t j s) ks)) (sym (grown-none t p bs v)),
      )
  writes (stray {o = o} {name = name} {i = i} {j = j} {ks = ks} h m) p e bs v =
      let s : State = state t p bs v in
      let more = writes m p e bs v in (
        more.0,
        ap (λ o. written (run t (after_end t j s (closes name o)) ks)) (enclosing_name-is t p bs ∙ e)
            ∙ ap (λ b. written (run t (after_end t j s b) ks)) (closes-stray name o h)
            ∙ more.1,
      )
  writes (a_doctype {html = html} m) p e bs v = writes m p e bs (v || html)
  writes (dropped m) p e bs v = writes m p e bs v

  -- the whole run
  pub run-writes : (ks : List PlacedToken) → written (run t start ks) ≡ (nodes t 0 (forest ks), numbers 0 (forest ks))
  run-writes ks =
      let made = siblings-ParsesTo None ks in
      let s : Siblings = siblings None ks in
      let found = writes made (at_top []) refl [] false in
      let open_end = closed_at-top made refl in
      found.1
      ∙ ap (λ o. written (run t (shut t o (grown t (at_top []) [] found.0 s.trees)) s.left)) open_end
      ∙ ap (λ left. written (run t (grown t (at_top []) [] found.0 s.trees) left)) (left-none made open_end)
