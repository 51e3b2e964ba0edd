-- The step of a walk, and walks over a clean table.
use Rattle.std.proofs.Common.{◌≡◌, ℕ, zero, suc, ◌≢◌, ◌+◌, ◌<◌, ◌≤◌, Bool, true, false, cond, not, inl, inr, ◌||◌, ◌==◌, List, [], ◌∷◌, length, codes, Option, Some, None, Result, Ok, Err, refl, ap, sym, ◌∙◌, subst, subst₂, arith, eq-eqb, true≢false}
use Rattle.std.specs.List.{slice_get}
use Rattle.std.proofs.Math.Nat.{eq-or-lt_of_le, le_of_suc-le-suc}
use Rattle.std.proofs.lemmas.Option.{slice_get_within}
use Rattle.tl_spec.specs.Lex.ByteClass.{is_void}
use Rattle.tl_spec.specs.Print.Clean.{HaveOwnKeys, IsClean, IsCleanNode, IsCleanTable, IsCleanWalk}
use Rattle.tl_spec.specs.Tree.Document.{Comment, Document, Node, Raw, Tag, TagNode}
use Rattle.tl_spec.specs.Tree.Forest.{tag, text, comment}
use Rattle.tl_spec.specs.Print.Normal.{ReadsAs}
use Rattle.tl_spec.specs.Print.{document_print, outer_html, print}
use Rattle.tl_spec.specs.Walk.{TreeFault, Walk, walk_result, end, all_tags, first_fault, handle_walk, meets_tag, node_walk, earlier_fault, plain_node, row_walk, prints_children, stands_on, tag_walk, trees, fault_or, walk, walk_of, walk_within}
use Rattle.tl_spec.proofs.Print.Identity.{identity, not_command}

-- how many numbers below n are not on the path
room : ℕ → List ℕ → ℕ
room zero path = 0
room (suc n) path = cond (stands_on path n) 0 1 + room n path

room_le : (n : ℕ) (path : List ℕ) → room n path ≤ n
unfolding room
room_le zero path = omega arith
room_le (suc n) path = let h : room n path ≤ n = room_le n path in elim (stands_on path n) as (λ b. cond b 0 1 + room n path ≤ suc n) [ true ↦ omega arith | false ↦ omega arith ]

-- one where neither holds is at most one where the second doesn't
or-le : (a b : Bool) → cond (a || b) 0 1 ≤ cond b 0 1
or-le true true = omega arith
or-le true false = omega arith
or-le false b = omega arith

-- one more handle on the path leaves no more room
room_more_le : (n : ℕ) (path : List ℕ) (h : ℕ) → room n (h ∷ path) ≤ room n path
unfolding room
room_more_le zero path h = omega arith
room_more_le (suc n) path h =
    let rest : room n (h ∷ path) ≤ room n path = room_more_le n path h in
    let here : cond (stands_on (h ∷ path) n) 0 1 ≤ cond (stands_on path n) 0 1 = or-le (h == n) (stands_on path n) in
    omega arith

-- a new handle takes some of the room
room_more : (n : ℕ) (path : List ℕ) (h : ℕ) → h < n → stands_on path h ≡ false → room n (h ∷ path) < room n path
unfolding room
room_more zero path h l s = absurd (omega arith)
room_more (suc n) path h l s = elim (eq-or-lt_of_le (le_of_suc-le-suc l)) [ inl e ↦ here e | inr p ↦ further (room_more n path h p s) ]
  where
    further : room n (h ∷ path) < room n path → cond (stands_on (h ∷ path) n) 0 1 + room n (h ∷ path) < cond (stands_on path n) 0 1 + room n path
    further rest =
        let first : cond (stands_on (h ∷ path) n) 0 1 ≤ cond (stands_on path n) 0 1 = or-le (h == n) (stands_on path n) in
        omega arith

    here : h ≡ n → cond (stands_on (h ∷ path) n) 0 1 + room n (h ∷ path) < cond (stands_on path n) 0 1 + room n path
    here e =
        let rest : room n (h ∷ path) ≤ room n path = room_more_le n path h in
        let on : (h == n) ≡ true = eq-eqb h n e in
        let off : stands_on path n ≡ false = subst (λ k. stands_on path k ≡ false) e s in
        rw (on, off) (omega arith)

-- two ways to walk below a path agree below each new handle of the table
abbrev Agree : List Node → List ℕ → (List ℕ → List ℕ → Walk) → (List ℕ → List ℕ → Walk) → Type 0
Agree nodes path f g = (h : ℕ) → h < length nodes → stands_on path h ≡ false → (cs : List ℕ) → f (h ∷ path) cs ≡ g (h ∷ path) cs

module _ (enters : List ℕ → Bool) (nodes : List Node) where
  tag-agree : (f g : List ℕ → Walk) (h : ℕ) (m : Walk) (own : TagNode) → f own.children.items ≡ g own.children.items → (b : Bool) →
      tag_walk enters nodes f h m own b ≡ tag_walk enters nodes g h m own b
  tag-agree f g h m own e true = ap (λ c. meets_tag h own c m) e
  tag-agree f g h m own e false = refl

  node-agree : (f g : List ℕ → Walk) (h : ℕ) (m : Walk) → ((cs : List ℕ) → f cs ≡ g cs) → (x : Node) →
      node_walk enters nodes f h m x ≡ node_walk enters nodes g h m x
  node-agree f g h m e (Raw bytes) = refl
  node-agree f g h m e (Comment bytes) = refl
  node-agree f g h m e (Tag own) = tag-agree f g h m own (e own.children.items) (enters own.name)

  handle-agree : (f g : List ℕ → Walk) (h : ℕ) (m : Walk) (b : Bool) (o : Option Node) → (b ≡ false → (x : Node) → o ≡ Some x → (cs : List ℕ) → f cs ≡ g cs) →
      handle_walk enters nodes f h m b o ≡ handle_walk enters nodes g h m b o
  handle-agree f g h m b None e = refl
  handle-agree f g h m true (Some x) e = refl
  handle-agree f g h m false (Some x) e = node-agree f g h m (e refl x refl) x

  row-agree : (f g : List ℕ → List ℕ → Walk) (path : List ℕ) → Agree nodes path f g → (hs : List ℕ) → row_walk enters nodes f path hs ≡ row_walk enters nodes g path hs
  row-agree f g path e [] = refl
  row-agree f g path e (h ∷ hs) =
      handle-agree (f (h ∷ path)) (g (h ∷ path)) h (row_walk enters nodes f path hs) (stands_on path h) (slice_get nodes h) (λ off x is. e h (slice_get_within nodes h x is) off)
      ∙ ap (λ m. handle_walk enters nodes (g (h ∷ path)) h m (stands_on path h) (slice_get nodes h)) (row-agree f g path e hs)

  -- one step more changes nothing where there is no room for it
  within-same : (k : ℕ) (path hs : List ℕ) → room (length nodes) path ≤ k → walk_within enters nodes k path hs ≡ walk_within enters nodes (suc k) path hs
  within-same zero path hs le =
      row-agree (λ _ _. end) (walk_within enters nodes zero) path (λ h within off cs. absurd (let less = room_more (length nodes) path h within off in omega arith)) hs
  within-same (suc k) path hs le =
      row-agree (walk_within enters nodes k) (walk_within enters nodes (suc k)) path
      (λ h within off cs. within-same k (h ∷ path) cs (let less = room_more (length nodes) path h within off in omega arith)) hs

  step-within : (n : ℕ) (path hs : List ℕ) → n ≡ length nodes → walk_within enters nodes n path hs ≡ row_walk enters nodes (walk_within enters nodes n) path hs
  step-within zero path hs e =
      row-agree (λ _ _. end) (walk_within enters nodes zero) path (λ h within off cs. absurd (omega arith)) hs
  step-within (suc n) path hs e =
      row-agree (walk_within enters nodes n) (walk_within enters nodes (suc n)) path
      (λ h within off cs. within-same n (h ∷ path) cs (let less = room_more (length nodes) path h within off in let most = room_le (length nodes) path in omega arith)) hs

  -- the walk, one step down
  pub walk-step : (path hs : List ℕ) → walk enters nodes path hs ≡ row_walk enters nodes (walk enters nodes) path hs
  walk-step path hs = step-within (length nodes) path hs refl

  pub walk-nil : (path : List ℕ) → walk enters nodes path [] ≡ end
  walk-nil path = walk-step path []

  -- the walk, one handle on, where it is known what the handle is
  pub walk-cons : (path : List ℕ) (h : ℕ) (hs : List ℕ) (b : Bool) (o : Option Node) → stands_on path h ≡ b → slice_get nodes h ≡ o →
      walk enters nodes path (h ∷ hs) ≡ handle_walk enters nodes (walk enters nodes (h ∷ path)) h (walk enters nodes path hs) b o
  walk-cons path h hs b o stands is =
      let after = sym (walk-step path hs) in
      walk-step path (h ∷ hs) ∙ (λ i. handle_walk enters nodes (walk enters nodes (h ∷ path)) h (after i) (stands i) (is i))

-- over a clean table both walks have the same trees, which are clean
record Same (full shown : Walk) : Type 0 where
  same : trees full ≡ trees shown
  no_fault : first_fault shown ≡ None
  clean : IsClean (trees shown)

nothing_met : Same end end
nothing_met = record { same = refl; no_fault = refl; clean = tt }

module _ (nodes : List Node) where
  abbrev Both : (List ℕ → Walk) → (List ℕ → Walk) → Type 0
  Both f g = (cs : List ℕ) → IsCleanWalk (g cs) → Same (f cs) (g cs)

  -- a tag, where the print's walk passes by exactly the void ones
  same-tag : (f g : List ℕ → Walk) (h : ℕ) (mf mg : Walk) → Both f g → f [] ≡ end → (IsCleanWalk mg → Same mf mg) → (own : TagNode) (b : Bool) → b ≡ not (is_void own.name) →
      IsCleanWalk (tag_walk prints_children nodes g h mg own b) → Same (tag_walk all_tags nodes f h mf own true) (tag_walk prints_children nodes g h mg own b)
  same-tag f g h mf mg both nil more own true open_ c =
      let m = more c.3 in
      let k = both own.children.items c.2 in
      record {
        same = (λ i. tag (plain_node own) (k.same i) (m.same i));
        no_fault = ap (λ e. earlier_fault e (first_fault mg)) k.no_fault ∙ m.no_fault;
        clean = (c.0, λ v. absurd (true≢false (open_ ∙ ap not v)), k.clean, m.clean);
      }
  same-tag f g h mf mg both nil more own false closed c =
      let m = more c.2 in
      let childless : f own.children.items ≡ end = ap f (c.1 (void_is (is_void own.name) closed)) ∙ nil in
      record {
        same = (λ i. tag (plain_node own) (trees (childless i)) (m.same i));
        no_fault = m.no_fault;
        clean = (c.0, λ _. refl, tt, m.clean);
      }
    where
      void_is : (v : Bool) → false ≡ not v → v ≡ true
      void_is true e = refl
      void_is false e = e

  same-node : (f g : List ℕ → Walk) (h : ℕ) (mf mg : Walk) → Both f g → f [] ≡ end → (IsCleanWalk mg → Same mf mg) → (x : Node) →
      IsCleanWalk (node_walk prints_children nodes g h mg x) → Same (node_walk all_tags nodes f h mf x) (node_walk prints_children nodes g h mg x)
  same-node f g h mf mg both nil more (Raw bytes) c =
      let m = more c.1 in record { same = ap (text bytes) m.same; no_fault = m.no_fault; clean = (c.0, m.clean) }
  same-node f g h mf mg both nil more (Comment bytes) c =
      let m = more c.1 in record { same = ap (comment bytes) m.same; no_fault = m.no_fault; clean = (c.0, m.clean) }
  same-node f g h mf mg both nil more (Tag own) c =
      same-tag f g h mf mg both nil more own (prints_children own.name) (ap not (not_command own.name (no_command own (prints_children own.name) c))) c
    where
      no_command : (own : TagNode) (b : Bool) → IsCleanWalk (tag_walk prints_children nodes g h mg own b) → own.name ≢ codes "command"
      no_command own true c = c.0.no_command
      no_command own false c = c.0.no_command

  same-handle : (f g : List ℕ → Walk) (h : ℕ) (mf mg : Walk) → Both f g → f [] ≡ end → (IsCleanWalk mg → Same mf mg) → (b : Bool) (o : Option Node) →
      IsCleanWalk (handle_walk prints_children nodes g h mg b o) → Same (handle_walk all_tags nodes f h mf b o) (handle_walk prints_children nodes g h mg b o)
  same-handle f g h mf mg both nil more b None c = absurd c
  same-handle f g h mf mg both nil more true (Some x) c = absurd c
  same-handle f g h mf mg both nil more false (Some x) c = same-node f g h mf mg both nil more x c

  same-row : (f g : List ℕ → List ℕ → Walk) → ((p : List ℕ) → Both (f p) (g p)) → ((p : List ℕ) → f p [] ≡ end) → (path hs : List ℕ) →
      IsCleanWalk (row_walk prints_children nodes g path hs) → Same (row_walk all_tags nodes f path hs) (row_walk prints_children nodes g path hs)
  same-row f g both nil path [] c = nothing_met
  same-row f g both nil path (h ∷ hs) c =
      same-handle (f (h ∷ path)) (g (h ∷ path)) h (row_walk all_tags nodes f path hs) (row_walk prints_children nodes g path hs) (both (h ∷ path)) (nil (h ∷ path))
      (same-row f g both nil path hs) (stands_on path h) (slice_get nodes h) c

  within-nil : (n : ℕ) (p : List ℕ) → walk_within all_tags nodes n p [] ≡ end
  within-nil zero p = refl
  within-nil (suc n) p = refl

  same-within : (n : ℕ) (path hs : List ℕ) → IsCleanWalk (walk_within prints_children nodes n path hs) → Same (walk_within all_tags nodes n path hs) (walk_within prints_children nodes n path hs)
  same-within zero path hs c = same-row (λ _ _. end) (λ _ _. end) (λ _ _ _. nothing_met) (λ _. refl) path hs c
  same-within (suc n) path hs c = same-row (walk_within all_tags nodes n) (walk_within prints_children nodes n) (same-within n) (within-nil n) path hs c

ok_value : List ℕ → Result (List ℕ) TreeFault → List ℕ
ok_value d (Ok s) = s
ok_value d (Err e) = d

-- the print of a clean walk is read as the trees of the full one
walk_identity : (full shown : Walk) → Same full shown → HaveOwnKeys (trees shown) → (s : List ℕ) → walk_result print shown ≡ Ok s → ReadsAs s (trees full)
unfolding ok_value
walk_identity full shown both own s e =
    let made : walk_result print shown ≡ Ok (print (trees shown)) = ap (λ o. fault_or o (print (trees shown))) both.no_fault in
    let is : print (trees shown) ≡ s = ap (ok_value []) (sym made ∙ e) in
    subst₂ (λ t f. ReadsAs t f) is (sym both.same) (identity (trees shown) both.clean own)

-- and has a print
walk-prints : (full shown : Walk) → Same full shown → walk_result print shown ≡ Ok (print (trees full))
walk-prints full shown both = ap (λ o. fault_or o (print (trees shown))) both.no_fault ∙ ap (λ f. Ok (print f)) (sym both.same)

same_table : (d : Document) → IsCleanTable d.nodes d.top → Same (walk all_tags d.nodes [] d.top) (walk prints_children d.nodes [] d.top)
same_table d c = same-within d.nodes (length d.nodes) [] d.top c

same_of : (nodes : List Node) (node : Node) → IsCleanNode nodes node → Same (walk_of all_tags nodes node) (walk_of prints_children nodes node)
same_of nodes node c =
    same-node nodes (walk all_tags nodes []) (walk prints_children nodes []) 0 end end (same-within nodes (length nodes) []) (within-nil nodes (length nodes) []) (λ _. nothing_met) node c

-- the law over tables
pub table_identity : (d : Document) → IsCleanTable d.nodes d.top → HaveOwnKeys (trees (walk prints_children d.nodes [] d.top)) →
    (s : List ℕ) → document_print d ≡ Ok s → ReadsAs s (trees (walk all_tags d.nodes [] d.top))
table_identity d c own s e = walk_identity (walk all_tags d.nodes [] d.top) (walk prints_children d.nodes [] d.top) (same_table d c) own s e

-- a clean document has a print
pub clean-prints : (d : Document) → IsCleanTable d.nodes d.top → document_print d ≡ Ok (print (trees (walk all_tags d.nodes [] d.top)))
clean-prints d c = walk-prints (walk all_tags d.nodes [] d.top) (walk prints_children d.nodes [] d.top) (same_table d c)

-- the same laws of a node
pub node_identity : (nodes : List Node) (node : Node) → IsCleanNode nodes node → HaveOwnKeys (trees (walk_of prints_children nodes node)) →
    (s : List ℕ) → outer_html nodes node ≡ Ok s → ReadsAs s (trees (walk_of all_tags nodes node))
node_identity nodes node c own s e = walk_identity (walk_of all_tags nodes node) (walk_of prints_children nodes node) (same_of nodes node c) own s e

pub node-prints : (nodes : List Node) (node : Node) → IsCleanNode nodes node → outer_html nodes node ≡ Ok (print (trees (walk_of all_tags nodes node)))
node-prints nodes node c = walk-prints (walk_of all_tags nodes node) (walk_of prints_children nodes node) (same_of nodes node c)
