-- What holds of all nodes of a table holds of what a walk meets, of its trees, and of their normal form.
use Rattle.std.proofs.Common.{◌≡◌, ℕ, zero, suc, Bool, true, false, List, [], ◌∷◌, length, Option, Some, None, Ok, refl, sym, subst}
use Rattle.std.specs.List.{All, slice_get}
use Rattle.std.proofs.lemmas.Option.{slice_get_within, get_or_from_slice_get}
use Rattle.tl_spec.specs.Print.Clean.{IsCleanNode, IsCleanTable, IsCleanWalk}
use Rattle.tl_spec.specs.Tree.Document.{Document, Node, TagNode, Tag, Raw, Comment}
use Rattle.tl_spec.specs.Tree.EveryNode.{EachNode, IsCleanAlone, HoldOfJoined, HoldOfNode, HoldOfTrees, Tests, of_lossy}
use Rattle.tl_spec.specs.Tree.Forest.{Forest, none, text, comment, tag, PlainTag, forest, plain}
use Rattle.tl_spec.specs.Print.Normal.{lossy, join_text, join_comment, tidy, norm, ReadsAs}
use Rattle.tl_spec.specs.Print.{document_print, print}
use Rattle.tl_spec.specs.Lex.Token.{tokens}
use Rattle.tl_spec.specs.Walk.{TreeFault, Walk, end, meets_text, meets_comment, meets_tag, passes_tag, meets_fault, all_tags, prints_children, walk, walk_of, walk_within, row_walk, handle_walk, node_walk, tag_walk, stands_on, trees, first_fault, earlier_fault, fault_or}

-- walks

-- of the node of a handle, where it holds of all nodes
at : (P : Node → Type 0) (nodes : List Node) → All P nodes → (h : ℕ) (x : Node) → slice_get nodes h ≡ Some x → P x
at P nodes all h x e = subst P (get_or_from_slice_get nodes h x x e) (all h x (slice_get_within nodes h x e))

module _ (P : Node → Type 0) (enters : List ℕ → Bool) (nodes : List Node) (each : (h : ℕ) (x : Node) → slice_get nodes h ≡ Some x → P x) where
  each-tag : (f : List ℕ → Walk) → ((cs : List ℕ) → EachNode P (f cs)) → (h : ℕ) (m : Walk) → EachNode P m → (own : TagNode) → P (Tag own) → (b : Bool) →
      EachNode P (tag_walk enters nodes f h m own b)
  each-tag f e h m k own p true = (p, e own.children.items, k)
  each-tag f e h m k own p false = (p, k)

  each-node : (f : List ℕ → Walk) → ((cs : List ℕ) → EachNode P (f cs)) → (h : ℕ) (m : Walk) → EachNode P m → (x : Node) → P x → EachNode P (node_walk enters nodes f h m x)
  each-node f e h m k (Raw bytes) p = (p, k)
  each-node f e h m k (Comment bytes) p = (p, k)
  each-node f e h m k (Tag own) p = each-tag f e h m k own p (enters own.name)

  each-handle : (f : List ℕ → Walk) → ((cs : List ℕ) → EachNode P (f cs)) → (h : ℕ) (m : Walk) → EachNode P m → (b : Bool) (o : Option Node) → ((x : Node) → o ≡ Some x → P x) →
      EachNode P (handle_walk enters nodes f h m b o)
  each-handle f e h m k b None p = k
  each-handle f e h m k true (Some x) p = k
  each-handle f e h m k false (Some x) p = each-node f e h m k x (p x refl)

  each-row : (f : List ℕ → List ℕ → Walk) → ((path cs : List ℕ) → EachNode P (f path cs)) → (path hs : List ℕ) → EachNode P (row_walk enters nodes f path hs)
  each-row f e path [] = tt
  each-row f e path (h ∷ hs) = each-handle (f (h ∷ path)) (e (h ∷ path)) h (row_walk enters nodes f path hs) (each-row f e path hs) (stands_on path h) (slice_get nodes h) (each h)

  each-within : (n : ℕ) (path hs : List ℕ) → EachNode P (walk_within enters nodes n path hs)
  each-within zero path hs = each-row (λ _ _. end) (λ _ _. tt) path hs
  each-within (suc n) path hs = each-row (walk_within enters nodes n) (each-within n) path hs

-- of each node that a walk meets
pub each-walk : (P : Node → Type 0) (enters : List ℕ → Bool) (nodes : List Node) (path hs : List ℕ) → All P nodes → EachNode P (walk enters nodes path hs)
each-walk P enters nodes path hs all = each-within P enters nodes (at P nodes all) (length nodes) path hs

-- the same of the walk of a node
pub each-walk_of : (P : Node → Type 0) (enters : List ℕ → Bool) (nodes : List Node) (node : Node) → All P nodes → P node → EachNode P (walk_of enters nodes node)
each-walk_of P enters nodes node all p = each-node P enters nodes (at P nodes all) (walk enters nodes []) (λ hs. each-walk P enters nodes [] hs all) 0 end tt node p

-- cleanness

none_first : (a b : Option TreeFault) → earlier_fault a b ≡ None → a ≡ None
none_first None b h = refl
none_first (Some e) b h = h

none_second : (a b : Option TreeFault) → earlier_fault a b ≡ None → b ≡ None
none_second None b h = h
none_second (Some e) b h = absurd (cc)

-- a walk that meets no fault and nodes that are clean by themselves is clean
clean-walk : (w : Walk) → EachNode IsCleanAlone w → first_fault w ≡ None → IsCleanWalk w
clean-walk end h n = tt
clean-walk (meets_text g bytes more) h n = (h.0, clean-walk more h.1 n)
clean-walk (meets_comment g bytes more) h n = (h.0, clean-walk more h.1 n)
clean-walk (meets_tag g own children more) h n =
    (h.0.0, h.0.1, clean-walk children h.1 (none_first _ (first_fault more) n), clean-walk more h.2 (none_second (first_fault children) _ n))
clean-walk (passes_tag g own more) h n = (h.0.0, h.0.1, clean-walk more h.1 n)
clean-walk (meets_fault e more) h n = absurd (cc)

pub clean-table : (d : Document) → All IsCleanAlone d.nodes → first_fault (walk prints_children d.nodes [] d.top) ≡ None → IsCleanTable d.nodes d.top
clean-table d all n = clean-walk (walk prints_children d.nodes [] d.top) (each-walk IsCleanAlone prints_children d.nodes [] d.top all) n

no_fault : (o : Option TreeFault) (t s : List ℕ) → fault_or o t ≡ Ok s → o ≡ None
no_fault None t s h = refl
no_fault (Some e) t s h = absurd (cc)

pub clean-printed : (d : Document) (s : List ℕ) → All IsCleanAlone d.nodes → document_print d ≡ Ok s → IsCleanTable d.nodes d.top
clean-printed d s all e = clean-table d all (no_fault (first_fault (walk prints_children d.nodes [] d.top)) (print (trees (walk prints_children d.nodes [] d.top))) s e)

pub clean-node : (nodes : List Node) (node : Node) → All IsCleanAlone nodes → IsCleanAlone node → first_fault (walk_of prints_children nodes node) ≡ None → IsCleanNode nodes node
clean-node nodes node all own n = clean-walk (walk_of prints_children nodes node) (each-walk_of IsCleanAlone prints_children nodes node all own) n

-- trees

-- what holds of each node that a walk meets holds of its trees
pub trees-hold : (t : Tests) (w : Walk) → EachNode (HoldOfNode t) w → HoldOfTrees t (trees w)
trees-hold t end h = tt
trees-hold t (meets_text g bytes more) h = (h.0, trees-hold t more h.1)
trees-hold t (meets_comment g bytes more) h = (h.0, trees-hold t more h.1)
trees-hold t (meets_tag g own children more) h = (h.0, trees-hold t children h.1, trees-hold t more h.2)
trees-hold t (passes_tag g own more) h = (h.0, tt, trees-hold t more h.1)
trees-hold t (meets_fault e more) h = trees-hold t more h

lossy-hold : (t : Tests) (f : Forest PlainTag) → HoldOfTrees (of_lossy t) f → HoldOfTrees t (lossy f)
lossy-hold t none h = tt
lossy-hold t (text bytes more) h = (h.0, lossy-hold t more h.1)
lossy-hold t (comment bytes more) h = (h.0, lossy-hold t more h.1)
lossy-hold t (tag own children more) h = (h.0, lossy-hold t children h.1, lossy-hold t more h.2)

text-hold : (t : Tests) → HoldOfJoined t → (bytes : List ℕ) (f : Forest PlainTag) → t.of_text bytes ≡ true → HoldOfTrees t f → HoldOfTrees t (join_text bytes f)
text-hold t joins [] f x h = h
text-hold t joins (b ∷ bytes) none x h = (x, h)
text-hold t joins (b ∷ bytes) (text more f) x h = (joins (b ∷ bytes) more x h.0, h.1)
text-hold t joins (b ∷ bytes) (comment more f) x h = (x, h)
text-hold t joins (b ∷ bytes) (tag own children f) x h = (x, h)

comment-hold : (t : Tests) (bytes : List ℕ) (f : Forest PlainTag) → t.of_comment bytes ≡ true → HoldOfTrees t f → HoldOfTrees t (join_comment bytes f)
comment-hold t [] f x h = h
comment-hold t (b ∷ bytes) f x h = (x, h)

tidy-hold : (t : Tests) → HoldOfJoined t → (f : Forest PlainTag) → HoldOfTrees t f → HoldOfTrees t (tidy f)
tidy-hold t joins none h = tt
tidy-hold t joins (text bytes more) h = text-hold t joins bytes (tidy more) h.0 (tidy-hold t joins more h.1)
tidy-hold t joins (comment bytes more) h = comment-hold t bytes (tidy more) h.0 (tidy-hold t joins more h.1)
tidy-hold t joins (tag own children more) h = (h.0, tidy-hold t joins children h.1, tidy-hold t joins more h.2)

-- what holds of trees that are made text, and of joined texts, holds of their normal form
pub norm-hold : (t : Tests) (f : Forest PlainTag) → HoldOfJoined t → HoldOfTrees (of_lossy t) f → HoldOfTrees t (norm f)
norm-hold t f joins h = tidy-hold t joins (lossy f) (lossy-hold t f h)

-- so what holds of all nodes, made text, holds of what is read of a text that is read as their trees
pub read-hold : (t : Tests) (d : Document) (s : List ℕ) → HoldOfJoined t → All (HoldOfNode (of_lossy t)) d.nodes → ReadsAs s (trees (walk all_tags d.nodes [] d.top)) →
    HoldOfTrees t (plain (forest (tokens s)))
read-hold t d s joins all reads =
    let w : Walk = walk all_tags d.nodes [] d.top in
    subst (HoldOfTrees t) (sym reads.trees) (norm-hold t (trees w) joins (trees-hold (of_lossy t) w (each-walk (HoldOfNode (of_lossy t)) all_tags d.nodes [] d.top all)))
