-- Rows of a store, taken apart at the last `head` among their nodes.
use Rattle.std.proofs.Common.{ap, arith, get_or, length, nat_le, nat_lt, subst, suc, sym, take, zero, ◌∙◌, ◌≡◌, ◌+◌, ◌<◌, ◌≤◌, ◌++◌, ◌∷◌, [], Bool, IsTrue, List, None, Option, Some, false, not, refl, reverse, slice_get, true, ℕ}
use Rattle.std.specs.Option.{IfSome, MatchOption, is_some}
use Rattle.std.proofs.lemmas.Bool.{and_from, and_parts, leb-true, ltb-true}
use Rattle.std.proofs.lemmas.List.{reverse-append, take_more}
use Rattle.std.proofs.lemmas.List.Folds.{list_all-append}
use Rattle.std.specs.List.{list_all}
use Rattle.tl_dom_spec.specs.Path.{Nodes, and_element, at_head, joined, no_nodes}
use Rattle.tl_dom_spec.specs.Tags.{Tag}
use Rattle.tl_tree.proofs.Grown.{grows_trans, is-node-grown, node-element, node-grown, node-joined, nodes-at, nodes-grown, nodes-none, tag-at-grown}
use Rattle.tl_tree.proofs.Listed.{all-weaker}
use Rattle.tl_tree.proofs.Within.{cell-within}
use Rattle.tl_tree.proofs.Written.{all-at}
use Rattle.tl_tree.proofs.Heads.{at-head-behind, at-head-yes, joined-assoc}
use Rattle.tl_tree.specs.Inner.Heads.{IsApart, IsHeaded, IsSplit, front_weight, is_head, is_head_node, is_headless, is_plain, listed}
use Rattle.tl_tree.specs.Inner.Settling.{held_weight, weight_of}
use Rattle.tl_tree.specs.Inner.Store.{Grows, is_node, is_row, node_of, nodes_of, sizes_of, tag_at}
use Rattle.tl_tree.specs.Inner.Within.{node_is_within}
use Rattle.tl_tree.specs.declared.cell.Cell.{Cell}
use Rattle.tl_tree.specs.declared.cell.Node.{Node}
use Rattle.tl_tree.specs.declared.cell.Node.TheVariants.{Comment, Doctype, Element, Joined, Text}
use Rattle.tl_tree.specs.declared.head.Apart.{Apart}
use Rattle.tl_tree.specs.declared.head.Head.{Head}
use Rattle.tl_tree.specs.declared.store.Store.{Store}

all-join : {A : Type 0} (test : A → Bool) (xs ys : List A) → IsTrue (list_all test xs) → IsTrue (list_all test ys) → IsTrue (list_all test (xs ++ ys))
all-join test xs ys h k =
    list_all-append test xs ys ∙ and_from (list_all test xs) (list_all test ys) h k

all-apart : {A : Type 0} (test : A → Bool) (xs ys : List A) → IsTrue (list_all test (xs ++ ys)) → IsTrue (list_all test xs) × IsTrue (list_all test ys)
all-apart test xs ys h =
    and_parts (list_all test xs) (list_all test ys) (sym (list_all-append test xs ys) ∙ h)

all-reverse : {A : Type 0} (test : A → Bool) (xs : List A) → IsTrue (list_all test xs) → IsTrue (list_all test (reverse xs))
all-reverse test [] h = refl
all-reverse test (x ∷ xs) h =
    let p = and_parts (test x) (list_all test xs) h in
    ap (list_all test) (reverse-append (x ∷ []) xs)
    ∙ all-join test (reverse xs) (x ∷ []) (all-reverse test xs p.1) (and_from (test x) true p.0 refl)

listed-append : (s : Store) (nodes : Nodes) (xs ys : List Node) → listed s nodes (xs ++ ys) ≡ listed s (listed s nodes xs) ys
listed-append s nodes [] ys = refl
listed-append s nodes (x ∷ xs) ys = listed-append s (joined nodes (node_of s x)) xs ys

pub listed-grown : (s t : Store) → Grows s t → (nodes : Nodes) (xs : List Node) → IsTrue (list_all (is_node s) xs) → listed t nodes xs ≡ listed s nodes xs
listed-grown s t g nodes [] h = refl
listed-grown s t g nodes (x ∷ xs) h =
    let p = and_parts (is_node s x) (list_all (is_node s) xs) h in
    listed-grown s t g (joined nodes (node_of t x)) xs p.1
    ∙ ap (λ (own : Nodes). listed s (joined nodes own) xs) (node-grown s t g x p.0)

weight-append : (s : Store) (xs ys : List Node) → front_weight s (xs ++ ys) ≡ front_weight s xs + front_weight s ys
weight-append s [] ys = omega arith
weight-append s (x ∷ xs) ys = let rest = weight-append s xs ys in omega (arith, rest)

-- A row in front is taken apart

split-front : (s : Store) (nodes : Nodes) (old new behind : List Node) → listed s no_nodes new ≡ listed s no_nodes old → IsTrue (list_all (is_node s) new) → IsSplit s nodes old behind → IsSplit s nodes new behind
split-front s nodes old new behind e h split = record {
  stands = ap (λ (front : Nodes). listed s front (reverse behind)) e ∙ split.stands;
  plain = split.plain;
  before = h;
  after = split.after;
}

pub open-none : (s : Store) (row : ℕ) (front : List Node) → row ≡ 0 → (nodes : Nodes) (behind : List Node) → IsSplit s nodes (front ++ Joined row ∷ []) behind → IsSplit s nodes front behind
open-none s row front e nodes behind split =
    let own = listed s no_nodes front in
    split-front s nodes (front ++ Joined row ∷ []) front behind
    (sym (listed-append s no_nodes front (Joined row ∷ [])
    ∙ ap (joined own) (node-joined s row ∙ (ap (nodes_of s) e ∙ nodes-none s))))
    (all-apart (is_node s) front (Joined row ∷ []) split.before).0 split

pub less-none : (s : Store) (row : ℕ) (front : List Node) → front_weight s front < front_weight s (front ++ Joined row ∷ [])
less-none s row front =
    let all = weight-append s front (Joined row ∷ []) in
    omega (arith, all)

pub open-some : (s : Store) (row before : ℕ) (node : Node) (front new : List Node) → joined (nodes_of s before) (node_of s node) ≡ nodes_of s row → IsTrue (is_node s (Joined before)) → IsTrue (is_node s node) → new ≡ (front ++ Joined before ∷ []) ++ node ∷ [] → (nodes : Nodes) (behind : List Node) → IsSplit s nodes (front ++ Joined row ∷ []) behind → IsSplit s nodes new behind
open-some s row before node front new is h k e nodes behind split =
    let own = listed s no_nodes front in
    let first = front ++ Joined before ∷ [] in
    split-front s nodes (front ++ Joined row ∷ []) new behind
    (ap (listed s no_nodes) e
    ∙ (listed-append s no_nodes first (node ∷ [])
    ∙ (ap (λ (part : Nodes). joined part (node_of s node)) (listed-append s no_nodes front (Joined before ∷ []) ∙ ap (joined own) (node-joined s before))
    ∙ (joined-assoc own (nodes_of s before) (node_of s node)
    ∙ (ap (joined own) (is ∙ sym (node-joined s row))
    ∙ sym (listed-append s no_nodes front (Joined row ∷ [])))))))
    (ap (list_all (is_node s)) e
    ∙ all-join (is_node s) first (node ∷ [])
    (all-join (is_node s) front (Joined before ∷ []) (all-apart (is_node s) front (Joined row ∷ []) split.before).0 (and_from (is_node s (Joined before)) true h refl))
    (and_from (is_node s node) true k refl))
    split

pub less-some : (s : Store) (row before : ℕ) (node : Node) (front new : List Node) → 1 + weight_of s before + held_weight s node ≡ weight_of s row → new ≡ (front ++ Joined before ∷ []) ++ node ∷ [] → front_weight s new < front_weight s (front ++ Joined row ∷ [])
less-some s row before node front new is e =
    let all = ap (front_weight s) e in
    let one = weight-append s (front ++ Joined before ∷ []) (node ∷ []) in
    let two = weight-append s front (Joined before ∷ []) in
    let old = weight-append s front (Joined row ∷ []) in
    omega (arith, all, one, two, old, is)

-- A node goes behind

pub turned : (s : Store) (node : Node) (front behind new : List Node) → IsTrue (is_plain s node) → new ≡ behind ++ node ∷ [] → (nodes : Nodes) → IsSplit s nodes (front ++ node ∷ []) behind → IsSplit s nodes front new
turned s node front behind new plain e nodes split =
    let own = listed s no_nodes front in
    let p = all-apart (is_node s) front (node ∷ []) split.before in
    let one = (and_parts (is_node s node) true p.1).0 in record {
      stands = ap (λ (all : List Node). listed s own (reverse all)) e
          ∙ (ap (listed s own) (reverse-append behind (node ∷ []))
          ∙ (ap (λ (part : Nodes). listed s part (reverse behind)) (sym (listed-append s no_nodes front (node ∷ [])))
          ∙ split.stands));
      plain = ap (list_all (is_plain s)) e
          ∙ all-join (is_plain s) behind (node ∷ []) split.plain (and_from (is_plain s node) true plain refl);
      before = p.0;
      after = ap (list_all (is_node s)) e
          ∙ all-join (is_node s) behind (node ∷ []) split.after (and_from (is_node s node) true one refl);
    }

pub less-turned : (s : Store) (node : Node) (front : List Node) → front_weight s front < front_weight s (front ++ node ∷ [])
less-turned s node front =
    let all = weight-append s front (node ∷ []) in
    omega (arith, all)

-- What is behind has no `head`

pub plain-headless : (s : Store) (node : Node) → IsTrue (is_plain s node) → IsTrue (is_headless (node_of s node))
unfolding node_of
plain-headless s (Text own) h = refl
plain-headless s (Comment own) h = refl
plain-headless s (Doctype number source) h = refl
plain-headless s (Element tag below) h = and_from (not (is_head (tag_at s tag))) true h refl
plain-headless s (Joined second) h = absurd (cc)

at-head-listed : (s : Store) (nodes new : Nodes) (xs : List Node) → IsTrue (list_all (is_plain s) xs) → at_head (listed s nodes xs) new ≡ listed s (at_head nodes new) xs
at-head-listed s nodes new [] h = refl
at-head-listed s nodes new (x ∷ xs) h =
    let p = and_parts (is_plain s x) (list_all (is_plain s) xs) h in
    at-head-listed s (joined nodes (node_of s x)) new xs p.1
    ∙ ap (λ (own : Nodes). listed s own xs) (at-head-behind nodes (node_of s x) new (plain-headless s x p.0))

-- where there is none
pub headless-row : (s : Store) (nodes new : Nodes) (behind : List Node) → IsSplit s nodes [] behind → nodes ≡ at_head nodes new
headless-row s nodes new behind split =
    sym (ap (λ (own : Nodes). at_head own new) (sym split.stands)
    ∙ (at-head-listed s no_nodes new (reverse behind) (all-reverse (is_plain s) behind split.plain)
    ∙ split.stands))

pub plain-other : (s : Store) (node : Node) → is_head_node s node ≡ false → ((row : ℕ) → node ≡ Joined row → ⊥) → IsTrue (is_plain s node)
plain-other s (Text own) h k = refl
plain-other s (Comment own) h k = refl
plain-other s (Doctype number source) h k = refl
plain-other s (Element tag below) h k = ap not h
plain-other s (Joined row) h k = absurd (k row refl)

-- How a row is taken apart

cell-some : (cells : List Cell) (k : ℕ) → k < length cells → (c : Cell) × (slice_get cells k ≡ Some c)
cell-some [] k h = absurd (omega arith)
cell-some (c ∷ cells) zero h = (c, refl)
cell-some (c ∷ cells) (suc k) h = cell-some cells k (omega arith)

-- behind nothing it is the same row
row-left : (s : Store) (bound row : ℕ) → row ≤ bound → row ≤ length s.cells.items → joined no_nodes (nodes_of s row) ≡ nodes_of s row
row-left s bound zero l h = ap (joined no_nodes) (nodes-none s) ∙ sym (nodes-none s)
row-left s zero (suc k) l h = absurd (omega arith)
row-left s (suc bound) (suc k) l h =
    let got = cell-some s.cells.items k (omega arith) in
    let c = got.0 in
    let is = nodes-at s k c got.1 in
    let own = cell-within (sizes_of s) 0 s.cells.items k c s.cells_within got.1 in
    let before = leb-true c.before (0 + k) (and_parts (nat_le c.before (0 + k)) (node_is_within (sizes_of s) (0 + k) c.node) own).0 in
    ap (joined no_nodes) is
    ∙ (sym (joined-assoc no_nodes (nodes_of s c.before) (node_of s c.node))
    ∙ (ap (λ (own : Nodes). joined own (node_of s c.node)) (row-left s bound c.before (omega arith) (omega arith))
    ∙ sym is))

pub split-none : (s : Store) (row : ℕ) (none front behind : List Node) → IsTrue (is_row s row) → none ≡ [] → front ≡ none ++ Joined row ∷ [] → behind ≡ [] → IsSplit s (nodes_of s row) front behind
split-none s row none front behind h e is empty =
    let same : front ≡ Joined row ∷ [] = is ∙ ap (λ (own : List Node). own ++ Joined row ∷ []) e in record {
      stands = ap (λ (all : List Node). listed s (listed s no_nodes front) (reverse all)) empty
          ∙ (ap (listed s no_nodes) same
          ∙ (ap (joined no_nodes) (node-joined s row) ∙ row-left s row row (omega arith) (leb-true row (length s.cells.items) h)));
      plain = ap (list_all (is_plain s)) empty;
      before = ap (list_all (is_node s)) same ∙ and_from (is_node s (Joined row)) true h refl;
      after = ap (list_all (is_node s)) empty;
    }

-- the last of those in front
pub last-within : (s : Store) (nodes : Nodes) (all front behind : List Node) (node : Node) → all ≡ front ++ node ∷ [] → IsSplit s nodes all behind → IsTrue (is_node s node)
last-within s nodes all front behind node e split =
    let p = all-apart (is_node s) front (node ∷ []) (ap (list_all (is_node s)) (sym e) ∙ split.before) in
    (and_parts (is_node s node) true p.1).0

pub split-head : (s : Store) (nodes : Nodes) (all front behind : List Node) (node : Node) (r : Option Head) → is_some r ≡ true → IfSome r (λ head. node ≡ Element head.tag head.below) → IfSome r (λ head. is_head (tag_at s head.tag) ≡ true) → all ≡ front ++ node ∷ [] → IsSplit s nodes all behind → MatchOption r (IsSplit s nodes [] behind) (λ head. IsHeaded s nodes front head behind)
split-head s nodes all front behind node None some is head e split = absurd (cc)
split-head s nodes all front behind node (Some own) some is head e split = record {
  split = subst (λ (last : Node). IsSplit s nodes (front ++ last ∷ []) behind) is
      (subst (λ (own : List Node). IsSplit s nodes own behind) e split);
  is = head;
}

-- a node more behind a row
pub listed-more : (s t : Store) → Grows s t → (start : Nodes) (all : List Node) (i : ℕ) (node d : Node) → IsTrue (list_all (is_node s) all) → node ≡ get_or all i d → i < length all → (before row : ℕ) (u : Store) → nodes_of t before ≡ listed s start (take i all) → nodes_of u row ≡ joined (nodes_of t before) (node_of t node) → nodes_of u row ≡ listed s start (take (i + 1) all)
listed-more s t g start all i node d h is l before row u e f =
    f
    ∙ (ap (joined (nodes_of t before)) (node-grown s t g node (all-at (is_node s) all i node d is l h))
    ∙ (ap (λ (own : Nodes). joined own (node_of s node)) e
    ∙ (sym (listed-append s start (take i all) (node ∷ []))
    ∙ ap (listed s start) (sym (take_more all i d l ∙ ap (λ (own : Node). take i all ++ own ∷ []) (sym is))))))

-- A row made anew

pub nodes-within : (s t : Store) → Grows s t → (all xs : List Node) → all ≡ xs → IsTrue (list_all (is_node s) xs) → IsTrue (list_all (is_node t) all)
nodes-within s t g all xs e h =
    ap (list_all (is_node t)) e
    ∙ all-weaker (is_node s) (is_node t) (λ node. is-node-grown s t g node) xs h

pub apart-none : (s : Store) (nodes : Nodes) (apart : Apart) → apart.head ≡ None → IsApart s nodes apart → IsSplit s nodes [] apart.behind.items
apart-none s nodes apart e h =
    subst (λ (r : Option Head). MatchOption r (IsSplit s nodes [] apart.behind.items) (λ head. IsHeaded s nodes apart.front.items head apart.behind.items)) e h

pub apart-some : (s : Store) (nodes : Nodes) (apart : Apart) (head : Head) → apart.head ≡ Some head → IsApart s nodes apart → IsHeaded s nodes apart.front.items head apart.behind.items
apart-some s nodes apart head e h =
    subst (λ (r : Option Head). MatchOption r (IsSplit s nodes [] apart.behind.items) (λ own. IsHeaded s nodes apart.front.items own apart.behind.items)) e h

pub front-within : (s : Store) (nodes : Nodes) (front behind : List Node) (head : Head) → IsHeaded s nodes front head behind → IsTrue (list_all (is_node s) front)
front-within s nodes front behind head h =
    (all-apart (is_node s) front (Element head.tag head.below ∷ []) h.split.before).0

pub behind-within : (s : Store) (nodes : Nodes) (front behind : List Node) (head : Head) → IsHeaded s nodes front head behind → IsTrue (list_all (is_node s) (reverse behind))
behind-within s nodes front behind head h = all-reverse (is_node s) behind h.split.after

pub headed-row : (s t u v : Store) → Grows s t → Grows t u → Grows u v → (nodes new : Nodes) (front behind : List Node) (head : Head) → IsHeaded s nodes front head behind → (below start end : ℕ) → IsTrue (is_row t below) → nodes_of t below ≡ joined (nodes_of s head.below) new → nodes_of u start ≡ listed t (nodes_of t 0) front → nodes_of v end ≡ joined (nodes_of u start) (node_of u (Element head.tag below)) → listed v (nodes_of v end) (reverse behind) ≡ at_head nodes new
headed-row s t u v g h k nodes new front behind head headed below start end within is first last =
    let tag = tag_at s head.tag in
    let own = nodes_of s head.below in
    let before = listed s no_nodes front in
    let all = all-apart (is_node s) front (Element head.tag head.below ∷ []) headed.split.before in
    let node = (and_parts (is_node s (Element head.tag head.below)) true all.1).0 in
    let parts = and_parts (nat_lt head.tag (length s.tags.items)) (nat_le head.below (length s.cells.items)) node in
    let to-u = grows_trans s t u g h in
    let to-v = grows_trans s u v to-u k in
    let started : nodes_of u start ≡ before =
    first ∙ (ap (λ (none : Nodes). listed t none front) (nodes-none t) ∙ listed-grown s t g no_nodes front all.0) in
    let made : node_of u (Element head.tag below) ≡ and_element no_nodes tag (joined own new) =
    node-element u head.tag below
    ∙ (ap (λ (x : Tag). and_element no_nodes x (nodes_of u below)) (tag-at-grown s u to-u head.tag (ltb-true head.tag (length s.tags.items) parts.0))
    ∙ ap (and_element no_nodes tag) (nodes-grown t u h below (leb-true below (length t.cells.items) within) ∙ is)) in
    let seen : at_head (listed s no_nodes (front ++ Element head.tag head.below ∷ [])) new ≡ and_element before tag (joined own new) =
    ap (λ (x : Nodes). at_head x new) (listed-append s no_nodes front (Element head.tag head.below ∷ []) ∙ ap (joined before) (node-element s head.tag head.below))
    ∙ at-head-yes before tag own new headed.is in
    listed-grown s v to-v (nodes_of v end) (reverse behind) (all-reverse (is_node s) behind headed.split.after)
    ∙ (ap (λ (x : Nodes). listed s x (reverse behind))
    (last ∙ (ap (λ (x : Nodes). joined x (node_of u (Element head.tag below))) started ∙ (ap (joined before) made ∙ sym seen)))
    ∙ (sym (at-head-listed s (listed s no_nodes (front ++ Element head.tag head.below ∷ [])) new (reverse behind) (all-reverse (is_plain s) behind headed.split.plain))
    ∙ ap (λ (x : Nodes). at_head x new) headed.split.stands))

pub no-nodes : (xs : List Node) (n : ℕ) → length xs ≡ n → n ≡ 0 → xs ≡ []
no-nodes [] n h e = refl
no-nodes (x ∷ xs) n h e = absurd (omega arith)
