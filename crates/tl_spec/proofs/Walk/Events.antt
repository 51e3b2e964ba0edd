-- Faults, prints and texts of a walk are read from its events.
use Rattle.std.proofs.Common.{◌≡◌, ℕ, zero, suc, Bool, true, false, not, if◌then◌else◌, List, [], ◌∷◌, ◌++◌, length, flat_map, Option, Some, None, refl, ap, ap₂, sym, ◌∙◌, append_assoc}
use Rattle.std.specs.Prelude.{⊤}
use Rattle.std.specs.List.{slice_get, AllByRecursion}
use Rattle.std.proofs.lemmas.List.Concat.{flat_map-append}
use Rattle.std.specs.Str.Lossy.{utf8_lossy}
use Rattle.tl_spec.specs.Lex.ByteClass.{is_printed_alone}
use Rattle.tl_spec.specs.Print.Clean.{HaveOwnKeys, MeetsOwnKeys}
use Rattle.tl_spec.specs.Tree.Document.{Comment, Node, Raw, Tag, TagNode}
use Rattle.tl_spec.specs.Print.{print, print_end, print_start, print_of_event}
use Rattle.tl_spec.specs.Print.Text.{text_of, event_text}
use Rattle.tl_spec.specs.Walk.{Cycle, Dangling, Event, TreeFault, Walk, end, events, fault_among, faulty, first_fault, handle_walk, leaves, meets, meets_comment, meets_fault, meets_tag, meets_text, node_walk, earlier_fault, passes_tag, plain_node, row_walk, prints_children, stands_on, tag_walk, trees, walk, walk_of, walk_within}
use Rattle.tl_spec.proofs.Walk.Walks.{walk-cons, walk-nil}

-- faults

fault_among-append : (es later : List Event) → fault_among (es ++ later) ≡ earlier_fault (fault_among es) (fault_among later)
fault_among-append [] later = refl
fault_among-append (meets h node ∷ es) later = fault_among-append es later
fault_among-append (leaves own ∷ es) later = fault_among-append es later
fault_among-append (faulty e ∷ es) later = refl

-- the first fault of a walk is the first among its events
pub first_fault-events : (w : Walk) → first_fault w ≡ fault_among (events w)
first_fault-events end = refl
first_fault-events (meets_text h bytes more) = first_fault-events more
first_fault-events (meets_comment h bytes more) = first_fault-events more
first_fault-events (meets_tag h own children more) =
    ap₂ earlier_fault (first_fault-events children) (first_fault-events more) ∙ sym (fault_among-append (events children) (leaves own ∷ events more))
first_fault-events (passes_tag h own more) = first_fault-events more
first_fault-events (meets_fault e more) = refl

-- keys

own-append : (es later : List Event) → AllByRecursion MeetsOwnKeys (es ++ later) → AllByRecursion MeetsOwnKeys es × AllByRecursion MeetsOwnKeys later
own-append [] later h = (tt, h)
own-append (e ∷ es) later h = let rest = own-append es later h.1 in ((h.0, rest.0), rest.1)

-- where each node that is met has its own keys, so have the trees
pub own-events : (w : Walk) → AllByRecursion MeetsOwnKeys (events w) → HaveOwnKeys (trees w)
own-events end h = tt
own-events (meets_text n bytes more) h = own-events more h.1
own-events (meets_comment n bytes more) h = own-events more h.1
own-events (meets_tag n own children more) h =
    let rest = own-append (events children) (leaves own ∷ events more) h.1 in
    (h.0, own-events children rest.0, own-events more rest.1.1)
own-events (passes_tag n own more) h = (h.0, tt, own-events more h.1)
own-events (meets_fault e more) h = own-events more h.1

-- texts

-- the text of a walk's trees is what its events tell
pub text_of-events : (w : Walk) → text_of (trees w) ≡ flat_map event_text (events w)
text_of-events end = refl
text_of-events (meets_text h bytes more) = ap (λ s. utf8_lossy bytes ++ s) (text_of-events more)
text_of-events (meets_comment h bytes more) = text_of-events more
text_of-events (meets_tag h own children more) =
    ap₂ (λ s t. s ++ t) (text_of-events children) (text_of-events more) ∙ sym (flat_map-append event_text (events children) (leaves own ∷ events more))
text_of-events (passes_tag h own more) = text_of-events more
text_of-events (meets_fault e more) = text_of-events more

-- rows: the events of handles come of the first handle and of those after it

module _ (enters : List ℕ → Bool) (nodes : List Node) where
  pub events-nil : (path : List ℕ) → events (walk enters nodes path []) ≡ []
  events-nil path = ap events (walk-nil enters nodes path)

  pub events-dangling : (path : List ℕ) (h : ℕ) (hs : List ℕ) → slice_get nodes h ≡ None →
      events (walk enters nodes path (h ∷ hs)) ≡ faulty (Dangling h) ∷ events (walk enters nodes path hs)
  events-dangling path h hs is = ap events (walk-cons enters nodes path h hs (stands_on path h) None refl is)

  pub events-cycle : (path : List ℕ) (h : ℕ) (hs : List ℕ) (node : Node) → slice_get nodes h ≡ Some node → stands_on path h ≡ true →
      events (walk enters nodes path (h ∷ hs)) ≡ faulty (Cycle h) ∷ events (walk enters nodes path hs)
  events-cycle path h hs node is stands = ap events (walk-cons enters nodes path h hs true (Some node) stands is)

  pub events-text : (path : List ℕ) (h : ℕ) (hs : List ℕ) (bytes : List ℕ) → slice_get nodes h ≡ Some (Raw bytes) → stands_on path h ≡ false →
      events (walk enters nodes path (h ∷ hs)) ≡ meets h (Raw bytes) ∷ events (walk enters nodes path hs)
  events-text path h hs bytes is new = ap events (walk-cons enters nodes path h hs false (Some (Raw bytes)) new is)

  pub events-comment : (path : List ℕ) (h : ℕ) (hs : List ℕ) (bytes : List ℕ) → slice_get nodes h ≡ Some (Comment bytes) → stands_on path h ≡ false →
      events (walk enters nodes path (h ∷ hs)) ≡ meets h (Comment bytes) ∷ events (walk enters nodes path hs)
  events-comment path h hs bytes is new = ap events (walk-cons enters nodes path h hs false (Some (Comment bytes)) new is)

  -- a tag that is entered
  pub events-tag : (path : List ℕ) (h : ℕ) (hs : List ℕ) (own : TagNode) → slice_get nodes h ≡ Some (Tag own) → stands_on path h ≡ false → enters own.name ≡ true →
      events (walk enters nodes path (h ∷ hs))
      ≡ meets h (Tag own) ∷ (events (walk enters nodes (h ∷ path) own.children.items) ++ (leaves own ∷ events (walk enters nodes path hs)))
  events-tag path h hs own is new open_ =
      let after : Walk = walk enters nodes path hs in
      ap events (walk-cons enters nodes path h hs false (Some (Tag own)) new is ∙ ap (tag_walk enters nodes (walk enters nodes (h ∷ path)) h after own) open_)

  -- a tag that is passed by
  pub events-passed : (path : List ℕ) (h : ℕ) (hs : List ℕ) (own : TagNode) → slice_get nodes h ≡ Some (Tag own) → stands_on path h ≡ false → enters own.name ≡ false →
      events (walk enters nodes path (h ∷ hs)) ≡ meets h (Tag own) ∷ events (walk enters nodes path hs)
  events-passed path h hs own is new closed =
      let after : Walk = walk enters nodes path hs in
      ap events (walk-cons enters nodes path h hs false (Some (Tag own)) new is ∙ ap (tag_walk enters nodes (walk enters nodes (h ∷ path)) h after own) closed)

  -- a node on which a call is made, where it is a tag

  pub walk_of-tag : (own : TagNode) → enters own.name ≡ true → walk_of enters nodes (Tag own) ≡ meets_tag 0 own (walk enters nodes [] own.children.items) end
  walk_of-tag own open_ = ap (tag_walk enters nodes (walk enters nodes []) 0 end own) open_

  pub walk_of-passed : (own : TagNode) → enters own.name ≡ false → walk_of enters nodes (Tag own) ≡ passes_tag 0 own end
  walk_of-passed own closed = ap (tag_walk enters nodes (walk enters nodes []) 0 end own) closed

-- which tags are entered

-- a walk enters the tags of these names, and passes by the others
abbrev pub Enters : (List ℕ → Bool) → Walk → Type 0
Enters enters end = ⊤
Enters enters (meets_text h bytes more) = Enters enters more
Enters enters (meets_comment h bytes more) = Enters enters more
Enters enters (meets_tag h own children more) = (enters own.name ≡ true) × Enters enters children × Enters enters more
Enters enters (passes_tag h own more) = (enters own.name ≡ false) × Enters enters more
Enters enters (meets_fault e more) = Enters enters more

module _ (enters : List ℕ → Bool) (nodes : List Node) where
  Enters-tag : (below : List ℕ → Walk) → ((hs : List ℕ) → Enters enters (below hs)) → (h : ℕ) (more : Walk) → Enters enters more → (own : TagNode) (b : Bool) → enters own.name ≡ b →
      Enters enters (tag_walk enters nodes below h more own b)
  Enters-tag below inside h more after own true e = (e, inside own.children.items, after)
  Enters-tag below inside h more after own false e = (e, after)

  Enters-node : (below : List ℕ → Walk) → ((hs : List ℕ) → Enters enters (below hs)) → (h : ℕ) (more : Walk) → Enters enters more → (node : Node) →
      Enters enters (node_walk enters nodes below h more node)
  Enters-node below inside h more after (Raw bytes) = after
  Enters-node below inside h more after (Comment bytes) = after
  Enters-node below inside h more after (Tag own) = Enters-tag below inside h more after own (enters own.name) refl

  Enters-handle : (below : List ℕ → Walk) → ((hs : List ℕ) → Enters enters (below hs)) → (h : ℕ) (more : Walk) → Enters enters more → (b : Bool) (o : Option Node) →
      Enters enters (handle_walk enters nodes below h more b o)
  Enters-handle below inside h more after b None = after
  Enters-handle below inside h more after true (Some node) = after
  Enters-handle below inside h more after false (Some node) = Enters-node below inside h more after node

  Enters-row : (below : List ℕ → List ℕ → Walk) → ((path hs : List ℕ) → Enters enters (below path hs)) → (path hs : List ℕ) → Enters enters (row_walk enters nodes below path hs)
  Enters-row below inside path [] = tt
  Enters-row below inside path (h ∷ hs) =
      Enters-handle (below (h ∷ path)) (inside (h ∷ path)) h (row_walk enters nodes below path hs) (Enters-row below inside path hs) (stands_on path h) (slice_get nodes h)

  Enters-within : (n : ℕ) (path hs : List ℕ) → Enters enters (walk_within enters nodes n path hs)
  Enters-within zero path hs = Enters-row (λ _ _. end) (λ _ _. tt) path hs
  Enters-within (suc n) path hs = Enters-row (walk_within enters nodes n) (Enters-within n) path hs

  pub Enters-walk : (path hs : List ℕ) → Enters enters (walk enters nodes path hs)
  Enters-walk = Enters-within (length nodes)

-- prints

if_flipped : (b v : Bool) (s t : List ℕ) → not b ≡ v → (if b then s else t) ≡ (if v then t else s)
if_flipped true true s t e = absurd (cc)
if_flipped true false s t e = refl
if_flipped false true s t e = refl
if_flipped false false s t e = absurd (cc)

-- the print of a walk's trees is what its events print, where the walk passes by the tags that are printed alone
pub print-events : (w : Walk) → Enters prints_children w → print (trees w) ≡ flat_map print_of_event (events w)
print-events end h = refl
print-events (meets_text h bytes more) shown = ap (λ s. utf8_lossy bytes ++ s) (print-events more shown)
print-events (meets_comment h bytes more) shown = ap (λ s. utf8_lossy bytes ++ s) (print-events more shown)
print-events (meets_tag h own children more) shown =
    let start : List ℕ = print_start (plain_node own) in
    let end_tag : List ℕ = print_end (plain_node own) in
    let inner : List ℕ = print (trees children) in
    let after : List ℕ = print (trees more) in
    ap (λ s. (start ++ s) ++ after) (if_flipped (is_printed_alone own.name) true [] (inner ++ end_tag) shown.0)
    ∙ append_assoc start (inner ++ end_tag) after
    ∙ ap (λ s. start ++ s) (
    append_assoc inner end_tag after
    ∙ ap₂ (λ s t. s ++ (end_tag ++ t)) (print-events children shown.1) (print-events more shown.2)
    ∙ sym (flat_map-append print_of_event (events children) (leaves own ∷ events more)))
print-events (passes_tag h own more) shown =
    let start : List ℕ = print_start (plain_node own) in
    let after : List ℕ = print (trees more) in
    ap (λ s. (start ++ s) ++ after) (if_flipped (is_printed_alone own.name) false [] (print_end (plain_node own)) shown.0)
    ∙ append_assoc start [] after
    ∙ ap (λ s. start ++ s) (print-events more shown.1)
print-events (meets_fault e more) shown = print-events more shown

-- the print's walk prints by its events
pub print-walk : (nodes : List Node) (path hs : List ℕ) → print (trees (walk prints_children nodes path hs)) ≡ flat_map print_of_event (events (walk prints_children nodes path hs))
print-walk nodes path hs = print-events (walk prints_children nodes path hs) (Enters-walk prints_children nodes path hs)

-- answers: the first fault among the events, or what all of them say

-- calls on a node, by the events below it

earlier_fault-none : (o : Option TreeFault) → earlier_fault o None ≡ o
earlier_fault-none None = refl
earlier_fault-none (Some e) = refl

-- texts and comments
