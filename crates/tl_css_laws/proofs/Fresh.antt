-- What was just read is a forest.
use Rattle.std.proofs.Common.{◌≡◌, ◌<◌, ◌≤◌, ◌+◌, ◌-◌, ◌++◌, ℕ, zero, suc, List, [], ◌∷◌, length, length-append, sym, ap, ◌∙◌, arith, inl, inr, refl, subst, Option, None, Some, slice_get, slice_index_or}
use Rattle.std.specs.List.{All, AllPairs, Contains}
use Rattle.std.specs.Option.{IsSomeAnd}
use Rattle.std.proofs.lemmas.Bool.{cases_lt}
use Rattle.std.proofs.lemmas.List.Elements.{All-cons, All-nil}
use Rattle.std.proofs.lemmas.List.Kept.{AllPairs-cons}
use Rattle.tl_spec.specs.Lex.Token.{tokens}
use Rattle.tl_spec.specs.Select.Meaning.{IsChild}
use Rattle.tl_spec.specs.Tree.Document.{Node, Tag, Raw, Comment, TagNode, document, nodes, numbers, size, tag_node}
use Rattle.tl_spec.specs.Tree.Element.{children_of}
use Rattle.tl_spec.specs.Tree.Forest.{Forest, SourceTag, comment, forest, none, tag, text}
use Rattle.tl_spec.proofs.Tree.Builder.{slice_get-append}
use Rattle.tl_spec.proofs.Tree.Order.{length-nodes}
use Rattle.tl_css.specs.Meaning.{AreChildrenRising, IsForest}

-- an item among the first ones
cut : {A : Type 0} (xs ys : List A) (k : ℕ) → k < length xs → slice_get (xs ++ ys) k ≡ slice_get xs k
cut [] ys k w = absurd (omega (arith, w))
cut (x ∷ xs) ys zero w = refl
cut (x ∷ xs) ys (suc k) w = cut xs ys k (omega (arith, w))

-- an item behind some others
behind : {A : Type 0} (xs ys : List A) (n k : ℕ) → length xs ≡ n → slice_get (xs ++ ys) (n + k) ≡ slice_get ys k
behind [] ys n k e = ap (slice_get ys) (let z : n + k ≡ k = omega (arith, e) in z)
behind (x ∷ xs) ys zero k e = absurd (omega (arith, e))
behind (x ∷ xs) ys (suc n) k e =
    let same : suc n + k ≡ suc (n + k) = omega arith in
    ap (slice_get (x ∷ (xs ++ ys))) same ∙ behind xs ys n k (omega (arith, e))

-- numbers rise above the last one, and are below len
abbrev Between : ℕ → ℕ → List ℕ → Type 0
Between last len cs = AllPairs (λ a b. a < b) (last ∷ cs) × All (λ c. c < len) cs

none_between : (last len : ℕ) → Between last len []
none_between last len =
    (AllPairs-cons (λ a b. a < b) last [] (All-nil (λ c. last < c)) (λ i j d lt w. absurd (omega (arith, w))), All-nil (λ c. c < len))

one_between : (last len n : ℕ) (cs : List ℕ) → last < n → n < len → Between n len cs → Between last len (n ∷ cs)
one_between last len n cs low high rest =
    let above : All (λ c. last < c) cs = λ k d w. let h = rest.0 0 (suc k) d (omega arith) (omega (arith, w)) in omega (arith, low, h) in
    (AllPairs-cons (λ a b. a < b) last (n ∷ cs) (All-cons (λ c. last < c) n cs low above) rest.0, All-cons (λ c. c < len) n cs high rest.1)

-- the numbers of trees rise, above one and below another
numbers_rise : (f : Forest SourceTag) (last n len : ℕ) → last < n → n + size f ≤ len → Between last len (numbers n f)
numbers_rise none last n len low high = none_between last len
numbers_rise (text bytes more) last n len low high =
    one_between last len n (numbers (n + 1) more) low (omega (arith, high)) (numbers_rise more n (n + 1) len (omega arith) (omega (arith, high)))
numbers_rise (comment bytes more) last n len low high =
    one_between last len n (numbers (n + 1) more) low (omega (arith, high)) (numbers_rise more n (n + 1) len (omega arith) (omega (arith, high)))
numbers_rise (tag own children more) last n len low high =
    one_between last len n (numbers (n + 1 + size children) more) low (omega (arith, high))
    (numbers_rise more n (n + 1 + size children) len (omega arith) (omega (arith, high)))

-- what has a child is a tag with children
parent_tag : (o : Option Node) (n : ℕ) → IsSomeAnd o (λ node. Contains (children_of node) n) → (own : TagNode) × (o ≡ Some (Tag own)) × Contains own.children.items n
parent_tag None n h = absurd h
parent_tag (Some (Tag own)) n h = (own, refl, h)
parent_tag (Some (Raw bytes)) n h = absurd (omega (arith, h.1))
parent_tag (Some (Comment bytes)) n h = absurd (omega (arith, h.1))

-- the parent of each node, in preorder; p is that of the trees themselves
abbrev parents : Option ℕ → ℕ → Forest SourceTag → List (Option ℕ)
parents p i none = []
parents p i (text bytes more) = p ∷ parents p (i + 1) more
parents p i (comment bytes more) = p ∷ parents p (i + 1) more
parents p i (tag own children more) = p ∷ (parents (Some i) (i + 1) children ++ parents p (i + 1 + size children) more)

length-parents : (f : Forest SourceTag) (p : Option ℕ) (i : ℕ) → length (parents p i f) ≡ size f
length-parents none p i = refl
length-parents (text bytes more) p i = omega (arith, length-parents more p (i + 1))
length-parents (comment bytes more) p i = omega (arith, length-parents more p (i + 1))
length-parents (tag own children more) p i =
    omega (arith, length-parents children (Some i) (i + 1), length-parents more p (i + 1 + size children), length-append (parents (Some i) (i + 1) children) (parents p (i + 1 + size children) more))

-- the node c has this parent, where the first node is i
record HasParent (ps : List (Option ℕ)) (i c : ℕ) (p : Option ℕ) : Type 0 where
  place : ℕ
  is : c ≡ i + place
  at : slice_get ps place ≡ Some p

module _ (i c : ℕ) (q : Option ℕ) where
  first_has : (ps : List (Option ℕ)) → i ≡ c → HasParent (q ∷ ps) i c q
  first_has ps e = record { place = 0; is = omega (arith, e); at = refl }

  next_has : (p : Option ℕ) (ps : List (Option ℕ)) → HasParent ps (i + 1) c q → HasParent (p ∷ ps) i c q
  next_has p ps h = record { place = suc h.place; is = (let e = h.is in omega (arith, e)); at = h.at }

  front_has : (p : Option ℕ) (ps qs : List (Option ℕ)) → HasParent ps (i + 1) c q → HasParent (p ∷ (ps ++ qs)) i c q
  front_has p ps qs h = record { place = suc h.place; is = (let e = h.is in omega (arith, e)); at = slice_get-append ps qs h.place q h.at }

  back_has : (p : Option ℕ) (ps qs : List (Option ℕ)) (n : ℕ) → length ps ≡ n → HasParent qs (i + 1 + n) c q → HasParent (p ∷ (ps ++ qs)) i c q
  back_has p ps qs n len h = record { place = suc (n + h.place); is = (let e = h.is in omega (arith, e)); at = behind ps qs n h.place len ∙ h.at }

-- cases of what a list contains
first_or_next : (x : ℕ) (xs : List ℕ) (c : ℕ) (P : Type 0) → Contains (x ∷ xs) c → (x ≡ c → P) → (Contains xs c → P) → P
first_or_next x xs c P h here more = by h.0 h.1 h.2
  where
    by : (k : ℕ) → k < length (x ∷ xs) → slice_index_or (x ∷ xs) k c ≡ c → P
    by zero w e = here e
    by (suc k) w e = more (k, omega (arith, w), e)

-- the trees themselves have that parent
tops_have : (f : Forest SourceTag) (p : Option ℕ) (i c : ℕ) → Contains (numbers i f) c → HasParent (parents p i f) i c p
tops_have none p i c h = absurd (omega (arith, h.1))
tops_have (text bytes more) p i c h =
    first_or_next i (numbers (i + 1) more) c _ h (λ e. first_has i c p _ e) (λ k. next_has i c p p _ (tops_have more p (i + 1) c k))
tops_have (comment bytes more) p i c h =
    first_or_next i (numbers (i + 1) more) c _ h (λ e. first_has i c p _ e) (λ k. next_has i c p p _ (tops_have more p (i + 1) c k))
tops_have (tag own children more) p i c h =
    first_or_next i (numbers (i + 1 + size children) more) c _ h (λ e. first_has i c p _ e)
    (λ k. back_has i c p p (parents (Some i) (i + 1) children) (parents p (i + 1 + size children) more) (size children)
    (length-parents children (Some i) (i + 1)) (tops_have more p (i + 1 + size children) c k))

module _ (t : List ℕ) where
  -- a tag of the table, as the trees have it
  record Found (len n : ℕ) (own : TagNode) : Type 0 where
    children : Forest SourceTag
    are : own.children.items ≡ numbers (n + 1) children
    within : n + 1 + size children ≤ len

  -- what holds of a tag at a place, and of its children
  record Told (f : Forest SourceTag) (p : Option ℕ) (i k : ℕ) (own : TagNode) : Type 0 where
    found : Found (i + size f) (i + k) own
    parent : (c : ℕ) → Contains own.children.items c → HasParent (parents p i f) i c (Some (i + k))

  later : (len more n m : ℕ) (own : TagNode) → n ≡ m → len ≤ more → Found len n own → Found more m own
  later len more n m own e le g = subst (λ (n : ℕ). Found more n own) e (record { children = g.children; are = g.are; within = (let w = g.within in omega (arith, w, le)) })

  moved : (ps : List (Option ℕ)) (i c n m : ℕ) → n ≡ m → HasParent ps i c (Some n) → HasParent ps i c (Some m)
  moved ps i c n m e h = subst (λ (n : ℕ). HasParent ps i c (Some n)) e h

  told_head : (read : SourceTag) (children more : Forest SourceTag) (p : Option ℕ) (i : ℕ) (own : TagNode)
      → tag_node t read (numbers (i + 1) children) ≡ own → Told (tag read children more) p i 0 own
  told_head read children more p i own e =
      let is : numbers (i + 1) children ≡ own.children.items = ap (λ (o : TagNode). o.children.items) e in
      let here : i ≡ i + 0 = omega arith in
      record {
        found = later (i + 1 + size children) (i + size (tag read children more)) i (i + 0) own here (omega arith)
            (record { children = children; are = sym is; within = omega arith });
        parent = λ c h. moved _ i c i (i + 0) here
            (front_has i c (Some i) p (parents (Some i) (i + 1) children) (parents p (i + 1 + size children) more)
            (tops_have children (Some i) (i + 1) c (subst (λ (xs : List ℕ). Contains xs c) (sym is) h)));
      }

  told : (f : Forest SourceTag) (p : Option ℕ) (i k : ℕ) (own : TagNode) → slice_get (nodes t i f) k ≡ Some (Tag own) → Told f p i k own
  told none p i k own e = cc
  told (text bytes more) p i zero own e = cc
  told (text bytes more) p i (suc k) own e =
      let h = told more p (i + 1) k own e in
      let same : i + 1 + k ≡ i + suc k = omega arith in
      record {
        found = later (i + 1 + size more) (i + size (text bytes more)) (i + 1 + k) (i + suc k) own same (omega arith) h.found;
        parent = λ c w. moved _ i c (i + 1 + k) (i + suc k) same (next_has i c (Some (i + 1 + k)) p _ (h.parent c w));
      }
  told (comment bytes more) p i zero own e = cc
  told (comment bytes more) p i (suc k) own e =
      let h = told more p (i + 1) k own e in
      let same : i + 1 + k ≡ i + suc k = omega arith in
      record {
        found = later (i + 1 + size more) (i + size (comment bytes more)) (i + 1 + k) (i + suc k) own same (omega arith) h.found;
        parent = λ c w. moved _ i c (i + 1 + k) (i + suc k) same (next_has i c (Some (i + 1 + k)) p _ (h.parent c w));
      }
  told (tag read children more) p i zero own e =
      told_head read children more p i own (let x : tag_node t read (numbers (i + 1) children) ≡ own = cc in x)
  told (tag read children more) p i (suc k) own e =
      let inner = nodes t (i + 1) children in
      let outer = nodes t (i + 1 + size children) more in
      let len : length inner ≡ size children = length-nodes t children (i + 1) in
      elim (cases_lt k (size children)) [
        | inl low ↦
            (let h = told children (Some i) (i + 1) k own (sym (cut inner outer k (omega (arith, low, len))) ∙ e) in
            let same : i + 1 + k ≡ i + suc k = omega arith in
            record {
              found = later (i + 1 + size children) (i + size (tag read children more)) (i + 1 + k) (i + suc k) own same (omega arith) h.found;
              parent = λ c w. moved _ i c (i + 1 + k) (i + suc k) same (front_has i c (Some (i + 1 + k)) p _ _ (h.parent c w));
            })
        | inr high ↦
            (let j = k - size children in
            let at : size children + j ≡ k = omega (arith, high) in
            let h = told more p (i + 1 + size children) j own (sym (behind inner outer (size children) j len) ∙ ap (slice_get (inner ++ outer)) at ∙ e) in
            let same : i + 1 + size children + j ≡ i + suc k = omega (arith, high) in
            record {
              found = later (i + 1 + size children + size more) (i + size (tag read children more)) (i + 1 + size children + j) (i + suc k) own same (omega arith) h.found;
              parent = λ c w. moved _ i c (i + 1 + size children + j) (i + suc k) same
                  (back_has i c (Some (i + 1 + size children + j)) p (parents (Some i) (i + 1) children) _ (size children) (length-parents children (Some i) (i + 1)) (h.parent c w));
            })
      ]

  table_rises : (f : Forest SourceTag) → AreChildrenRising (nodes t 0 f)
  table_rises f n own e =
      let table = nodes t 0 f in
      let len = length-nodes t f 0 in
      let g = later (0 + size f) (size f) (0 + n) n own (omega arith) (omega arith) (told f None 0 n own e).found in
      let all = numbers_rise g.children n (n + 1) (length table) (omega arith) (let w = g.within in omega (arith, w, len)) in
      subst (λ (cs : List ℕ). AllPairs (λ a b. a < b) (n ∷ cs) × All (λ c. c < length table) cs) (sym g.are) all

  table_once : (f : Forest SourceTag) (l m n : ℕ) → IsChild (nodes t 0 f) l n → IsChild (nodes t 0 f) m n → l ≡ m
  table_once f l m n a b =
      let x = parent_tag (slice_get (nodes t 0 f) l) n a.listed in
      let y = parent_tag (slice_get (nodes t 0 f) m) n b.listed in
      let u = (told f None 0 l x.0 x.1).parent n x.2 in
      let v = (told f None 0 m y.0 y.1).parent n y.2 in
      let ps = parents None 0 f in
      let place : u.place ≡ v.place = (let e = u.is in let d = v.is in omega (arith, e, d)) in
      let both : Some (Some (0 + l)) ≡ Some (Some (0 + m)) = sym u.at ∙ ap (slice_get ps) place ∙ v.at in
      let same : 0 + l ≡ 0 + m = cc in
      omega (arith, same)

pub document_is_forest : (t : List ℕ) → IsForest (document t).nodes
document_is_forest t = record { rising = table_rises t (forest (tokens t)); once = table_once t (forest (tokens t)) }
