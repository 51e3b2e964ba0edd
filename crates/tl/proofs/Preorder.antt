-- Walks over a table in preorder: a handle's node and what hangs below it are the nodes from it up to its end.
use Rattle.std.proofs.Common.{◌≡◌, ℕ, zero, suc, ◌+◌, ◌-◌, ◌<◌, ◌≤◌, ◌≢◌, false, nat_lt, if◌then◌else◌, List, [], ◌∷◌, ◌++◌, length, map, flat_map, slice_get, get_or, take, drop, drop-cons, add-one, Option, Some, None, Ok, Err, Result, refl, ap, sym, ◌∙◌, subst, arith, append_assoc, append-nil, le-ltb}
use Rattle.std.specs.Result.{result_err}
use Rattle.std.specs.List.{All, AllByRecursion, between, last_or}
use Rattle.std.proofs.lemmas.List.{drop-map, map-append, take-map}
use Rattle.std.proofs.lemmas.List.Elements.{All-nil, All-cons}
use Rattle.std.specs.Str.Lossy.{utf8_lossy}
use Rattle.tl_spec.specs.Tree.Document.{Node, Tag, Raw, Comment, document, nodes, numbers, size}
use Rattle.tl_spec.specs.Tree.Element.{children_of, last_child_of}
use Rattle.tl_spec.specs.Tree.Forest.{Forest, SourceTag, comment, forest, none, tag, text}
use Rattle.tl_spec.specs.Tree.Order.{ChildrenFollowParents}
use Rattle.tl_spec.specs.Walk.Range.{end_below, range_between, range_from, with_end}
use Rattle.tl_spec.specs.Print.Text.{text_of}
use Rattle.tl_spec.specs.Lex.Token.{tokens}
use Rattle.tl_spec.specs.Walk.{TreeFault, Cycle, Dangling, all_tags, first_fault, handle_walk, earlier_fault, trees, walk}
use Rattle.tl_spec.proofs.Walk.Rising.{walk-one}
use Rattle.tl_spec.proofs.Walk.Walks.{walk-nil}
use Rattle.tl_table.specs.TreeFault.{IsRefusal}
use Rattle.tl_table.specs.Inner.Way.{Rises}
use Rattle.tl_table.specs.declared.errors.TreeError.{TreeError}
use Rattle.tl_table.specs.declared.errors.TreeError.TheVariants.{Dangling as DanglingError, Cycle as CycleError, OutOfMemory}
use Rattle.tl_table.proofs.Way.{AreBelow, all_rise, below-above, below-off, further, here, past}
use Rattle.tl.specs.Inner.Preorder.{ArePreorder, IsInPreorder, children_in}
use Rattle.tl.specs.View.{HTMLNode, node_view}
use Rattle.tl.specs.declared.parser.tag.node.NodeOf.TheVariants.{Tag as ATag, Raw as ARaw, Comment as AComment}
use Rattle.tl.proofs.Frames.{shown_past}
use Rattle.tl.specs.Walker.{own_text}

-- handles in preorder

-- each handle is a number from n up to m
abbrev AreWithin : ℕ → ℕ → List ℕ → Type 0
AreWithin n m hs = AllByRecursion (λ h. (n ≤ h) × (h < m)) hs

within-wider : (n m : ℕ) (hs : List ℕ) → AreWithin (n + 1) m hs → AreWithin n m hs
within-wider n m [] w = tt
within-wider n m (h ∷ hs) w = ((omega (arith, w.0.0), w.0.1), within-wider n m hs w.1)

within-front : (n m : ℕ) (hs later : List ℕ) → AreWithin n m (hs ++ later) → AreWithin n m hs
within-front n m [] later w = tt
within-front n m (h ∷ hs) later w = (w.0, within-front n m hs later w.1)

within-later : (n m : ℕ) (hs later : List ℕ) → AreWithin n m (hs ++ later) → AreWithin n m later
within-later n m [] later w = w
within-later n m (h ∷ hs) later w = within-later n m hs later w.1

preorder-within : (lists : List (List ℕ)) (n m : ℕ) (hs : List ℕ) → n + length lists ≡ m → ArePreorder n hs lists → AreWithin n m hs
preorder-within [] n m [] e p = tt
preorder-within [] n m (h ∷ hs) e p = absurd p
preorder-within (cs ∷ lists) n m [] e p = tt
preorder-within (cs ∷ lists) n m (h ∷ hs) e p =
    let later = preorder-within lists (n + 1) m (cs ++ hs) (omega arith) p.1 in
    ((omega (arith, p.0), omega (arith, p.0)), within-wider n m hs (within-later (n + 1) m cs hs later))

-- a node of a table, whose handle comes before some others
record Comes (table : List Node) (n k : ℕ) (x : Node) : Type 0 where
  later : List ℕ
  rest : List Node
  cut : drop k table ≡ x ∷ rest
  order : ArePreorder (n + k) ((n + k) ∷ later) (map children_of (x ∷ rest))

comes : (table : List Node) (n k : ℕ) (x : Node) (hs : List ℕ) → ArePreorder n hs (map children_of table) → slice_get table k ≡ Some x → Comes table n k x
comes [] n k x hs p is = absurd (cc)
comes (y ∷ table) n k x [] p is = absurd p
comes (y ∷ table) n zero x (h ∷ hs) p is =
    let same : y ≡ x = cc in
    let order : ArePreorder n (n ∷ hs) (map children_of (y ∷ table)) = (refl, p.1) in
    let place : n ≡ n + 0 = omega arith in
    record {
      later = hs;
      rest = table;
      cut = ap (λ z. z ∷ table) same;
      order = subst (λ z. ArePreorder (n + 0) ((n + 0) ∷ hs) (map children_of (z ∷ table))) same (subst (λ m. ArePreorder m (m ∷ hs) (map children_of (y ∷ table))) place order);
    }
comes (y ∷ table) n (suc k) x (h ∷ hs) p is =
    let c = comes table (n + 1) k x (children_of y ++ hs) p.1 is in
    let place : n + 1 + k ≡ n + suc k = omega arith in
    record {
      later = c.later;
      rest = c.rest;
      cut = c.cut;
      order = subst (λ m. ArePreorder m (m ∷ c.later) (map children_of (x ∷ c.rest))) place c.order;
    }

all-above : (n m : ℕ) (hs : List ℕ) → AreWithin (0 + n + 1) m hs → All (λ c. n < c) hs
all-above n m [] w = All-nil (λ c. n < c)
all-above n m (h ∷ hs) w = All-cons (λ c. n < c) h hs (omega (arith, w.0.0)) (all-above n m hs w.1)

pub preorder-above : (table : List Node) (roots : List ℕ) → ArePreorder 0 roots (map children_of table) → ChildrenFollowParents table
preorder-above table roots p n own is =
    let c = comes table 0 n (Tag own) roots p is in
    let m : ℕ = 0 + n + 1 + length (map children_of c.rest) in
    all-above n m own.children.items (within-front (0 + n + 1) m own.children.items c.later (preorder-within (map children_of c.rest) (0 + n + 1) m (own.children.items ++ c.later) refl c.order.1))

-- texts and faults of handles in a row

earlier_fault-assoc : (a b c : Option TreeFault) → earlier_fault a (earlier_fault b c) ≡ earlier_fault (earlier_fault a b) c
earlier_fault-assoc None b c = refl
earlier_fault-assoc (Some e) b c = refl

last-some : (v : ℕ) (us : List ℕ) → (k : ℕ) × (last_or (Some v) us ≡ Some k)
last-some v [] = (v, refl)
last-some v (u ∷ us) = last-some u us

last-append : (o : Option ℕ) (cs : List ℕ) (u : ℕ) (us : List ℕ) → last_or o (cs ++ u ∷ us) ≡ last_or (Some u) us
last-append o [] u us = refl
last-append o (c ∷ cs) u us = last-append (Some c) cs u us

module _ (table : List Node) (above : ChildrenFollowParents table) where
  abbrev texts : List ℕ → List ℕ
  texts hs = text_of (trees (walk all_tags table [] hs))

  abbrev fault : List ℕ → Option TreeFault
  fault hs = first_fault (walk all_tags table [] hs)

  abbrev text_at : Option Node → List ℕ
  text_at None = []
  text_at (Some (Raw bytes)) = utf8_lossy bytes
  text_at (Some (Comment bytes)) = []
  text_at (Some (Tag own)) = texts own.children.items

  abbrev fault_at : ℕ → Option Node → Option TreeFault
  fault_at h None = Some (Dangling h)
  fault_at h (Some (Raw bytes)) = None
  fault_at h (Some (Comment bytes)) = None
  fault_at h (Some (Tag own)) = fault own.children.items

  texts-edit_if_found : (h : ℕ) (hs : List ℕ) (o : Option Node) → text_of (trees (handle_walk all_tags table (walk all_tags table []) h (walk all_tags table [] hs) false o)) ≡ text_at o ++ texts hs
  texts-edit_if_found h hs None = refl
  texts-edit_if_found h hs (Some (Raw bytes)) = refl
  texts-edit_if_found h hs (Some (Comment bytes)) = refl
  texts-edit_if_found h hs (Some (Tag own)) = refl

  fault-edit_if_found : (h : ℕ) (hs : List ℕ) (o : Option Node) → first_fault (handle_walk all_tags table (walk all_tags table []) h (walk all_tags table [] hs) false o) ≡ earlier_fault (fault_at h o) (fault hs)
  fault-edit_if_found h hs None = refl
  fault-edit_if_found h hs (Some (Raw bytes)) = refl
  fault-edit_if_found h hs (Some (Comment bytes)) = refl
  fault-edit_if_found h hs (Some (Tag own)) = refl

  texts-cons : (h : ℕ) (hs : List ℕ) (o : Option Node) → slice_get table h ≡ o → texts (h ∷ hs) ≡ text_at o ++ texts hs
  texts-cons h hs o is = ap (λ w. text_of (trees w)) (walk-one table above h hs o is) ∙ texts-edit_if_found h hs o

  fault-cons : (h : ℕ) (hs : List ℕ) (o : Option Node) → slice_get table h ≡ o → fault (h ∷ hs) ≡ earlier_fault (fault_at h o) (fault hs)
  fault-cons h hs o is = ap first_fault (walk-one table above h hs o is) ∙ fault-edit_if_found h hs o

  texts-nil : texts [] ≡ []
  texts-nil = ap (λ w. text_of (trees w)) (walk-nil all_tags table [])

  fault-nil : fault [] ≡ None
  fault-nil = ap first_fault (walk-nil all_tags table [])

  texts-append : (hs later : List ℕ) → texts (hs ++ later) ≡ texts hs ++ texts later
  texts-append [] later = ap (λ s. s ++ texts later) (sym texts-nil)
  texts-append (h ∷ hs) later =
      let own : List ℕ = text_at (slice_get table h) in
      texts-cons h (hs ++ later) (slice_get table h) refl
      ∙ ap (λ s. own ++ s) (texts-append hs later)
      ∙ sym (append_assoc own (texts hs) (texts later))
      ∙ ap (λ s. s ++ texts later) (sym (texts-cons h hs (slice_get table h) refl))

  fault-append : (hs later : List ℕ) → fault (hs ++ later) ≡ earlier_fault (fault hs) (fault later)
  fault-append [] later = ap (λ e. earlier_fault e (fault later)) (sym fault-nil)
  fault-append (h ∷ hs) later =
      let own : Option TreeFault = fault_at h (slice_get table h) in
      fault-cons h (hs ++ later) (slice_get table h) refl
      ∙ ap (earlier_fault own) (fault-append hs later)
      ∙ earlier_fault-assoc own (fault hs) (fault later)
      ∙ ap (λ e. earlier_fault e (fault later)) (sym (fault-cons h hs (slice_get table h) refl))

  -- a node, and then its children before what comes after it
  texts-step : (h : ℕ) (hs : List ℕ) (x : Node) → slice_get table h ≡ Some x → texts (h ∷ hs) ≡ own_text x ++ texts (children_of x ++ hs)
  texts-step h hs (Raw bytes) is = texts-cons h hs (Some (Raw bytes)) is
  texts-step h hs (Comment bytes) is = texts-cons h hs (Some (Comment bytes)) is
  texts-step h hs (Tag own) is = texts-cons h hs (Some (Tag own)) is ∙ sym (texts-append own.children.items hs)

  fault-step : (h : ℕ) (hs : List ℕ) (x : Node) → slice_get table h ≡ Some x → fault (h ∷ hs) ≡ fault (children_of x ++ hs)
  fault-step h hs (Raw bytes) is = fault-cons h hs (Some (Raw bytes)) is
  fault-step h hs (Comment bytes) is = fault-cons h hs (Some (Comment bytes)) is
  fault-step h hs (Tag own) is = fault-cons h hs (Some (Tag own)) is ∙ sym (fault-append own.children.items hs)

  -- nodes from the number n on that are what hangs at these handles
  record Spans (n : ℕ) (xs : List Node) (hs : List ℕ) : Type 0 where
    count : ℕ
    last : ℕ
    some : 0 < count
    ends : last + 1 ≡ n + count
    text_is : texts hs ≡ flat_map own_text (take count xs)
    faultless : fault hs ≡ None
    climbs : (path : List ℕ) → AreBelow n path → end_below table path (last_or None hs) ≡ Ok (Some last)

  climb-next : (x : Node) (n w last v : ℕ) (ws us path : List ℕ) → w ≡ n → slice_get table w ≡ Some x → v ∷ us ≡ children_of x ++ ws
      → ((path : List ℕ) → AreBelow (n + 1) path → end_below table path (last_or (Some v) us) ≡ Ok (Some last))
      → AreBelow n path → end_below table path (last_or None (w ∷ ws)) ≡ Ok (Some last)
  climb-next x n w last v [] us path same is e on b =
      let k = last-some v us in
      let child : last_child_of x ≡ Some k.0 = ap (last_or None) (sym (append-nil (children_of x)) ∙ sym e) ∙ k.1 in
      let off : AreBelow w path = subst (λ m. AreBelow m path) (sym same) b in
      let longer : AreBelow (n + 1) (w ∷ path) = (omega arith, below-above n (n + 1) path (omega arith) b) in
      further table path w x is k.0 (below-off w path off) child ∙ ap (end_below table (w ∷ path)) (sym k.1) ∙ on (w ∷ path) longer
  climb-next x n w last v (u ∷ more) us path same is e on b =
      let last_is : last_or (Some v) us ≡ last_or (Some u) more = ap (last_or None) e ∙ last-append None (children_of x) u more in
      ap (end_below table path) (sym last_is) ∙ on path (below-above n (n + 1) path (omega arith) b)

  spans-next : (x : Node) (xs : List Node) (n w : ℕ) (ws vs : List ℕ) → w ≡ n → slice_get table w ≡ Some x → vs ≡ children_of x ++ ws
      → ((v : ℕ) (us : List ℕ) → vs ≡ v ∷ us → Spans (n + 1) xs (v ∷ us)) → Spans n (x ∷ xs) (w ∷ ws)
  spans-next x xs n w ws [] same is e later =
      let nothing = empty-parts (children_of x) ws e in
      record {
        count = 1;
        last = n;
        some = omega arith;
        ends = refl;
        text_is = texts-step w ws x is ∙ ap (λ hs. own_text x ++ texts hs) (sym e) ∙ ap (λ s. own_text x ++ s) texts-nil;
        faultless = fault-step w ws x is ∙ ap fault (sym e) ∙ fault-nil;
        climbs = λ path b.
            let off : AreBelow w path = subst (λ m. AreBelow m path) (sym same) b in
            ap (λ hs. end_below table path (last_or (Some w) hs)) nothing.1
            ∙ here table path w x is (below-off w path off) (ap (last_or None) nothing.0)
            ∙ ap (λ k. Ok (Some k)) same;
      }
    where
      empty-parts : (cs ws : List ℕ) → [] ≡ cs ++ ws → (cs ≡ []) × (ws ≡ [])
      empty-parts [] ws e = (refl, sym e)
      empty-parts (c ∷ cs) ws e = absurd (cc)
  spans-next x xs n w ws (v ∷ us) same is e later =
      let s = later v us refl in
      record {
        count = suc s.count;
        last = s.last;
        some = omega arith;
        ends = omega (arith, s.ends);
        text_is = texts-step w ws x is ∙ ap (λ hs. own_text x ++ texts hs) (sym e) ∙ ap (λ t. own_text x ++ t) s.text_is;
        faultless = fault-step w ws x is ∙ ap fault (sym e) ∙ s.faultless;
        climbs = λ path b. climb-next x n w s.last v ws us path same is e s.climbs b;
      }

  spans : (xs : List Node) (n w : ℕ) (ws later : List ℕ) → ((k : ℕ) → slice_get xs k ≡ slice_get table (n + k)) → ArePreorder n (w ∷ (ws ++ later)) (map children_of xs) → Spans n xs (w ∷ ws)
  spans [] n w ws later at p = absurd p
  spans (x ∷ xs) n w ws later at p =
      let place : w ≡ n + 0 = p.0 ∙ omega arith in
      let is : slice_get table w ≡ Some x = ap (slice_get table) place ∙ sym (at 0) in
      let order : ArePreorder (n + 1) ((children_of x ++ ws) ++ later) (map children_of xs) =
      subst (λ hs. ArePreorder (n + 1) hs (map children_of xs)) (sym (append_assoc (children_of x) ws later)) p.1 in
      let after : (k : ℕ) → slice_get xs k ≡ slice_get table (n + 1 + k) = λ k. at (suc k) ∙ ap (slice_get table) (omega arith) in
      spans-next x xs n w ws (children_of x ++ ws) p.0 is refl
      (λ v us e. spans xs (n + 1) v us later after (subst (λ hs. ArePreorder (n + 1) (hs ++ later) (map children_of xs)) e order))

at-drop : (xs : List Node) (h k : ℕ) → slice_get (drop h xs) k ≡ slice_get xs (h + k)
at-drop xs zero k = ap (slice_get xs) (omega arith)
at-drop [] (suc h) k = refl
at-drop (x ∷ xs) (suc h) k = let place : suc (h + k) ≡ suc h + k = omega arith in at-drop xs h k ∙ ap (slice_get (x ∷ xs)) place

module _ (table : List Node) (roots : List ℕ) (order : ArePreorder 0 roots (map children_of table)) where
  abbrev above : ChildrenFollowParents table
  above = preorder-above table roots order

  -- what hangs at one handle of the table
  spanned : (h : ℕ) (x : Node) → slice_get table h ≡ Some x → Spans table above h (drop h table) (h ∷ [])
  spanned h x is =
      let c = comes table 0 h x roots order is in
      let zero-first : 0 + h ≡ h = omega arith in
      let from : ArePreorder h (h ∷ c.later) (map children_of (x ∷ c.rest)) = subst (λ m. ArePreorder m (m ∷ c.later) (map children_of (x ∷ c.rest))) zero-first c.order in
      spans table above (drop h table) h h [] c.later (at-drop table h) (subst (λ xs. ArePreorder h (h ∷ c.later) (map children_of xs)) (sym c.cut) from)

  module _ (h : ℕ) (hs : List ℕ) where
    abbrev range_at : Result (ℕ × ℕ) TreeFault
    range_at = range_from table (Some h) (Some h)

    row-past : slice_get table h ≡ None → range_at ≡ Err (Dangling h)
    row-past is = ap (λ r. range_between (with_end (Some h) r)) (past table [] h is)

    record Row (r : ℕ × ℕ) : Type 0 where
      text_is : text_of (trees (walk all_tags table [] (h ∷ hs))) ≡ flat_map own_text (between r.0 r.1 table) ++ text_of (trees (walk all_tags table [] hs))
      fault_is : first_fault (walk all_tags table [] (h ∷ hs)) ≡ first_fault (walk all_tags table [] hs)

    row-found : (x : Node) → slice_get table h ≡ Some x → (last : ℕ) × (range_at ≡ Ok (h, last + 1)) × Row (h, last + 1)
    row-found x is =
        let s = spanned h x is in
        let forward : nat_lt s.last h ≡ false = le-ltb s.last h (omega (arith, s.ends, s.some)) in
        let long : s.count ≡ s.last + 1 - h = omega (arith, s.ends) in (
          s.last,
          ap (λ r. range_between (with_end (Some h) r)) (s.climbs [] tt) ∙ ap (λ b. Ok (if b then (0, 0) else (h, s.last + 1))) forward,
          record {
            text_is = texts-append table above (h ∷ []) hs ∙ ap (λ y. y ++ text_of (trees (walk all_tags table [] hs))) (s.text_is ∙ ap (λ k. flat_map own_text (take k (drop h table))) long);
            fault_is = fault-append table above (h ∷ []) hs ∙ ap (λ e. earlier_fault e (first_fault (walk all_tags table [] hs))) s.faultless;
          },
        )

    -- the nodes of a handle's range are what the walk meets of it
    pub row_ok : (r : ℕ × ℕ) → range_from table (Some h) (Some h) ≡ Ok r
        → (text_of (trees (walk all_tags table [] (h ∷ hs))) ≡ flat_map own_text (between r.0 r.1 table) ++ text_of (trees (walk all_tags table [] hs)))
        × (first_fault (walk all_tags table [] (h ∷ hs)) ≡ first_fault (walk all_tags table [] hs))
    row_ok r e = by (slice_get table h) refl
      where
        by : (o : Option Node) → slice_get table h ≡ o
            → (text_of (trees (walk all_tags table [] (h ∷ hs))) ≡ flat_map own_text (between r.0 r.1 table) ++ text_of (trees (walk all_tags table [] hs)))
            × (first_fault (walk all_tags table [] (h ∷ hs)) ≡ first_fault (walk all_tags table [] hs))
        by None is = absurd (let no : Err (Dangling h) ≡ Ok r = sym (row-past is) ∙ e in cc)
        by (Some x) is =
            let f = row-found x is in
            let both : Ok (h, f.0 + 1) ≡ Ok r = sym f.1 ∙ e in
            let same : ◌≡◌ {A = ℕ × ℕ} (h, f.0 + 1) r = cc in
            let row = subst Row same f.2 in
            (row.text_is, row.fault_is)

    -- a handle without a range is past the table
    pub row_err : (e : TreeFault) → range_from table (Some h) (Some h) ≡ Err e → (e ≡ Dangling h) × (first_fault (walk all_tags table [] (h ∷ hs)) ≡ Some e)
    row_err e is = by (slice_get table h) refl
      where
        by : (o : Option Node) → slice_get table h ≡ o → (e ≡ Dangling h) × (first_fault (walk all_tags table [] (h ∷ hs)) ≡ Some e)
        by None past =
            let both : Err (Dangling h) ≡ Err e = sym (row-past past) ∙ is in
            let same : Dangling h ≡ e = cc in
            (sym same, fault-cons table above h hs None past ∙ ap (λ f. Some f) same)
        by (Some x) found = absurd (let f = row-found x found in let no : Ok (h, f.0 + 1) ≡ Err e = sym f.1 ∙ is in cc)

-- a document just read

module _ (t : List ℕ) where
  trees-preorder : (f : Forest SourceTag) (n : ℕ) (hs : List ℕ) (lists : List (List ℕ)) → ArePreorder (n + size f) hs lists → ArePreorder n (numbers n f ++ hs) (map children_of (nodes t n f) ++ lists)
  trees-preorder none n hs lists p = let e : n + 0 ≡ n = omega arith in subst (λ m. ArePreorder m hs lists) e p
  trees-preorder (text bytes more) n hs lists p =
      let e : n + (1 + size more) ≡ n + 1 + size more = omega arith in
      (refl, trees-preorder more (n + 1) hs lists (subst (λ m. ArePreorder m hs lists) e p))
  trees-preorder (comment bytes more) n hs lists p =
      let e : n + (1 + size more) ≡ n + 1 + size more = omega arith in
      (refl, trees-preorder more (n + 1) hs lists (subst (λ m. ArePreorder m hs lists) e p))
  trees-preorder (tag own children more) n hs lists p =
      let e : n + (1 + size children + size more) ≡ n + 1 + size children + size more = omega arith in
      let after_number : ℕ = n + 1 + size children in
      let later : List ℕ = numbers after_number more ++ hs in
      let later_lists : List (List ℕ) = map children_of (nodes t after_number more) ++ lists in
      let after : ArePreorder after_number later later_lists = trees-preorder more after_number hs lists (subst (λ m. ArePreorder m hs lists) e p) in
      let inside : ArePreorder (n + 1) (numbers (n + 1) children ++ later) (map children_of (nodes t (n + 1) children) ++ later_lists) = trees-preorder children (n + 1) later later_lists after in
      let joined : map children_of (nodes t (n + 1) children) ++ later_lists ≡ map children_of (nodes t (n + 1) children ++ nodes t after_number more) ++ lists =
      sym (append_assoc (map children_of (nodes t (n + 1) children)) (map children_of (nodes t after_number more)) lists)
      ∙ ap (λ ls. ls ++ lists) (sym (map-append children_of (nodes t (n + 1) children) (nodes t after_number more))) in
      (refl, subst (ArePreorder (n + 1) (numbers (n + 1) children ++ later)) joined inside)

  pub document-preorder : ArePreorder 0 (document t).top (map children_of (document t).nodes)
  document-preorder =
      let f = forest (tokens t) in
      let all : ArePreorder 0 (numbers 0 f ++ []) (map children_of (nodes t 0 f) ++ []) = trees-preorder f 0 [] [] tt in
      subst (λ hs. ArePreorder 0 hs (map children_of (nodes t 0 f))) (append-nil (numbers 0 f))
      (subst (ArePreorder 0 (numbers 0 f ++ [])) (append-nil (map children_of (nodes t 0 f))) all)

-- SCRATCH-END
-- tables as they are kept

children-shown : (nodes : List HTMLNode) → map children_in nodes ≡ map children_of (map node_view nodes)
children-shown [] = refl
children-shown (ATag own ∷ nodes) = ap (λ lists. own.children.items ∷ lists) (children-shown nodes)
children-shown (ARaw bytes ∷ nodes) = ap (λ lists. [] ∷ lists) (children-shown nodes)
children-shown (AComment bytes ∷ nodes) = ap (λ lists. [] ∷ lists) (children-shown nodes)

-- the nodes of a document just read are in preorder
pub read-preorder : (t : List ℕ) (kept : List HTMLNode) → map node_view kept ≡ (document t).nodes → IsInPreorder kept
read-preorder t kept is = ((document t).top, subst (ArePreorder 0 (document t).top) (ap (map children_of) (sym is) ∙ sym (children-shown kept)) (document-preorder t))

module _ (kept : List HTMLNode) (preorder : IsInPreorder kept) where
  abbrev shown_order : ArePreorder 0 preorder.0 (map children_of (map node_view kept))
  shown_order = subst (ArePreorder 0 preorder.0) (children-shown kept) preorder.1

  module _ (h : ℕ) (hs : List ℕ) where
    -- the texts of a handle's range are written, and those of later handles are left
    pub texts-next : (start end : ℕ) (before out new : List ℕ) → range_from (map node_view kept) (Some h) (Some h) ≡ Ok (start, end)
        → before ≡ out ++ text_of (trees (walk all_tags (map node_view kept) [] (h ∷ hs)))
        → new ≡ out ++ flat_map own_text (map node_view (between start end kept))
        → before ≡ new ++ text_of (trees (walk all_tags (map node_view kept) [] hs))
    texts-next start end before out new range is wrote =
        let later : List ℕ = text_of (trees (walk all_tags (map node_view kept) [] hs)) in
        let cut : between start end (map node_view kept) ≡ map node_view (between start end kept) = ap (take (end - start)) (drop-map node_view start kept) ∙ take-map node_view (end - start) (drop start kept) in
        is
        ∙ ap (λ s. out ++ s) ((row_ok (map node_view kept) preorder.0 shown_order h hs (start, end) range).0 ∙ ap (λ ns. flat_map own_text ns ++ later) cut)
        ∙ sym (append_assoc out (flat_map own_text (map node_view (between start end kept))) later)
        ∙ ap (λ s. s ++ later) (sym wrote)

    pub fault-next : (r : ℕ × ℕ) → range_from (map node_view kept) (Some h) (Some h) ≡ Ok r → first_fault (walk all_tags (map node_view kept) [] (h ∷ hs)) ≡ first_fault (walk all_tags (map node_view kept) [] hs)
    fault-next r range = (row_ok (map node_view kept) preorder.0 shown_order h hs r range).1

    -- a handle without a range is refused, and that hides behind no want of memory
    pub refused : (e : TreeError) → IsRefusal (result_err (range_from (map node_view kept) (Some h) (Some h))) e → IsRefusal (first_fault (walk all_tags (map node_view kept) [] (h ∷ hs))) e
    refused OutOfMemory r = tt
    refused (DanglingError k) r = by (range_from (map node_view kept) (Some h) (Some h)) refl r
      where
        by : (a : Result (ℕ × ℕ) TreeFault) → range_from (map node_view kept) (Some h) (Some h) ≡ a → result_err a ≡ Some (Dangling k) → first_fault (walk all_tags (map node_view kept) [] (h ∷ hs)) ≡ Some (Dangling k)
        by (Ok range) is r = absurd (cc)
        by (Err fault) is r = (row_err (map node_view kept) preorder.0 shown_order h hs fault is).1 ∙ r
    refused (CycleError k) r = by (range_from (map node_view kept) (Some h) (Some h)) refl r
      where
        by : (a : Result (ℕ × ℕ) TreeFault) → range_from (map node_view kept) (Some h) (Some h) ≡ a → result_err a ≡ Some (Cycle k) → first_fault (walk all_tags (map node_view kept) [] (h ∷ hs)) ≡ Some (Cycle k)
        by (Ok range) is r = absurd (cc)
        by (Err fault) is r = (row_err (map node_view kept) preorder.0 shown_order h hs fault is).1 ∙ r

  -- a handle past the table has no range
  pub no_range : (h : ℕ) (r : ℕ × ℕ) → slice_get kept h ≡ None → range_from (map node_view kept) (Some h) (Some h) ≡ Ok r → ⊥
  no_range h r past range = let no : Err (Dangling h) ≡ Ok r = sym (row-past (map node_view kept) preorder.0 shown_order h [] (shown_past kept h (sym past))) ∙ range in cc

  pub dangles : (h : ℕ) (e : TreeError) → slice_get kept h ≡ None → IsRefusal (result_err (range_from (map node_view kept) (Some h) (Some h))) e
      → (Rises (map node_view kept) (Some h) → e ≢ OutOfMemory) → e ≡ DanglingError h
  dangles h OutOfMemory past r memory = absurd (memory (all_rise (map node_view kept) (preorder-above (map node_view kept) preorder.0 shown_order) (Some h)) refl)
  dangles h (DanglingError k) past r memory =
      let is : Some (Dangling h) ≡ Some (Dangling k) = ap result_err (sym (row-past (map node_view kept) preorder.0 shown_order h [] (shown_past kept h (sym past)))) ∙ r in
      let same : h ≡ k = cc in
      ap DanglingError (sym same)
  dangles h (CycleError k) past r memory =
      let is : Some (Dangling h) ≡ Some (Cycle k) = ap result_err (sym (row-past (map node_view kept) preorder.0 shown_order h [] (shown_past kept h (sym past)))) ∙ r in
      absurd (cc)

-- the next handle of a loop over handles

pub next-handle : (handles : List ℕ) (i item n : ℕ) → i < length handles → item ≡ get_or handles i item → n ≡ item → drop i handles ≡ n ∷ drop (i + 1) handles
next-handle handles i item n within is same =
    rw add-one (drop-cons handles i item within ∙ ap (λ h. h ∷ drop (suc i) handles) (sym is ∙ sym same))

pub first-handle : (handles hs : List ℕ) (i n k : ℕ) → i ≡ 0 → drop i handles ≡ n ∷ hs → slice_get handles 0 ≡ Some k → k ≡ n
first-handle handles hs i n k begins cut is =
    let both : Some k ≡ Some n = sym is ∙ ap (λ xs. slice_get xs 0) (ap (λ m. drop m handles) (sym begins) ∙ cut) in
    cc
