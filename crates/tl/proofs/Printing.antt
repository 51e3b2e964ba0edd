-- What is printed of a tag on which a call is made, of a walk by its events, and of attributes in order.
use Rattle.std.proofs.Common.{◌≡◌, ℕ, Bool, false, not, if◌then◌else◌, List, [], ◌∷◌, ◌++◌, map, flat_map, Option, Some, None, Result, Ok, Err, string_bytes, true, refl, ap, sym, subst, subst₂, ◌∙◌, append-nil, append_assoc}
use Rattle.tl_spec.specs.Lex.AttributeList.{Attributes, pairs_in_order, printed_pairs}
use Rattle.tl_spec.specs.Lex.ByteClass.{is_printed_alone}
use Rattle.tl_spec.specs.Print.Clean.{HaveOwnKeys, IsCleanNode, IsCleanTable, NodeHasOwnKeys}
use Rattle.tl_spec.specs.Tree.Document.{Node, Tag, TagNode}
use Rattle.tl_spec.specs.Print.Normal.{ReadsAs}
use Rattle.tl_spec.specs.Print.{outer_html, print, print_start, print_end, print_of_event}
use Rattle.tl_spec.specs.Print.Text.{text_of, event_text}
use Rattle.tl_spec.specs.Walk.{Event, TreeFault, Walk, events, all_tags, fault_among, first_fault, earlier_fault, plain_node, prints_children, trees, fault_or, walk, walk_of}
use Rattle.tl_spec.proofs.Walk.Events.{first_fault-events, print-walk, text_of-events, walk_of-passed, walk_of-tag}
use Rattle.tl_spec.proofs.Print.Images.{image-pairs_in_order}
use Rattle.tl_spec.specs.Lex.Attribute.{Pair}
use Rattle.tl_spec.proofs.Walk.Walks.{node_identity, table_identity}
use Rattle.tl_bytes.specs.Held.{Kept}
use Rattle.tl_table.specs.declared.errors.TreeError.{TreeError}
use Rattle.tl_attributes.specs.Inner.Listing.{as_borrowed, listed}
use Rattle.tl_attributes.specs.AttributesView.{plain, bytes_view, pair_view, value_view}
use Rattle.std.specs.Prelude.{IfOk}
use Rattle.std.specs.Global.{Global}
use Rattle.std.specs.declared.string.String.{String}
use Rattle.tl_table.specs.Answer.{Answers}
use Rattle.tl.specs.Walker.{Writes}

earlier_fault-none : (o : Option TreeFault) → earlier_fault o None ≡ o
earlier_fault-none None = refl
earlier_fault-none (Some e) = refl

chosen : (b v : Bool) (s t : List ℕ) → b ≡ v → (if b then s else t) ≡ (if v then s else t)
chosen b v s t e = ap (λ x. if x then s else t) e

module _ (nodes : List Node) (own : TagNode) where
  abbrev inside : Walk
  inside = walk prints_children nodes [] own.children.items

  abbrev start_bytes : List ℕ
  start_bytes = print_start (plain_node own)

  abbrev end_bytes : List ℕ
  end_bytes = print_end (plain_node own)

  -- a tag that is not printed alone has the faults of its children
  pub fault-entered : is_printed_alone own.name ≡ false → first_fault (walk_of prints_children nodes (Tag own)) ≡ first_fault (walk prints_children nodes [] own.children.items)
  fault-entered entered = ap first_fault (walk_of-tag prints_children nodes own (ap not entered)) ∙ earlier_fault-none (first_fault inside)

  -- its print is its start tag, the print of its children and its end tag
  pub print-entered : is_printed_alone own.name ≡ false → print (trees (walk_of prints_children nodes (Tag own))) ≡ start_bytes ++ (print (trees (walk prints_children nodes [] own.children.items)) ++ end_bytes)
  print-entered entered =
      ap (λ w. print (trees w)) (walk_of-tag prints_children nodes own (ap not entered))
      ∙ ap (λ s. (start_bytes ++ s) ++ []) (chosen (is_printed_alone own.name) false [] (print (trees inside) ++ end_bytes) entered)
      ∙ append-nil (start_bytes ++ (print (trees inside) ++ end_bytes))

  -- its trees have their own keys where it and those of its children have
  pub own-entered : is_printed_alone own.name ≡ false → NodeHasOwnKeys (Tag own) → HaveOwnKeys (trees (walk prints_children nodes [] own.children.items)) → HaveOwnKeys (trees (walk_of prints_children nodes (Tag own)))
  own-entered entered start below = subst (λ w. HaveOwnKeys (trees w)) (sym (walk_of-tag prints_children nodes own (ap not entered))) (start, below, tt)

  pub own-passed : is_printed_alone own.name ≡ true → NodeHasOwnKeys (Tag own) → HaveOwnKeys (trees (walk_of prints_children nodes (Tag own)))
  own-passed alone start = subst (λ w. HaveOwnKeys (trees w)) (sym (walk_of-passed prints_children nodes own (ap not alone))) (start, tt, tt)

-- a walk's events say what its trees print
pub writes-walk : {A : Type 0} (nodes : List Node) (hs : List ℕ) (es : List Event) (old : List ℕ) (r : Result A TreeError) (new : List ℕ) →
    es ≡ events (walk prints_children nodes [] hs) → Writes (fault_among es) (flat_map print_of_event es) old r new →
    Writes (first_fault (walk prints_children nodes [] hs)) (print (trees (walk prints_children nodes [] hs))) old r new
writes-walk nodes hs es old r new e h =
    subst₂ (λ f s. Writes f s old r new) (ap fault_among e ∙ sym (first_fault-events (walk prints_children nodes [] hs))) (ap (flat_map print_of_event) e ∙ sym (print-walk nodes [] hs)) h

-- the print of a clean table is read as the table
pub reads-printed : (nodes : List Node) (top s : List ℕ) → first_fault (walk prints_children nodes [] top) ≡ None → s ≡ print (trees (walk prints_children nodes [] top)) → HaveOwnKeys (trees (walk prints_children nodes [] top)) →
    IsCleanTable nodes top → ReadsAs s (trees (walk all_tags nodes [] top))
reads-printed nodes top s no_fault is own clean =
    table_identity (record { nodes = nodes; top = top; is_html5 = false }) clean own s (ap (λ o. fault_or o (print (trees (walk prints_children nodes [] top)))) no_fault ∙ ap Ok (sym is))

-- the print of a clean node is read as that one tree
pub reads-node : (nodes : List Node) (node : Node) (s : List ℕ) → first_fault (walk_of prints_children nodes node) ≡ None → s ≡ print (trees (walk_of prints_children nodes node)) →
    HaveOwnKeys (trees (walk_of prints_children nodes node)) → IsCleanNode nodes node → ReadsAs s (trees (walk_of all_tags nodes node))
reads-node nodes node s no_fault is own clean =
    node_identity nodes node clean own s (ap (λ o. fault_or o (print (trees (walk_of prints_children nodes node)))) no_fault ∙ ap Ok (sym is))

-- so is that of a text and of a comment
pub reads-leaf : (nodes : List Node) (node : Node) (s : List ℕ) (r : Result (String Global) TreeError) → outer_html nodes node ≡ Ok s → HaveOwnKeys (trees (walk_of prints_children nodes node)) →
    Answers string_bytes (Ok s) r → IsCleanNode nodes node → IfOk r (λ t. ReadsAs (string_bytes t) (trees (walk_of all_tags nodes node)))
reads-leaf nodes node s (Ok t) is own answers clean = node_identity nodes node clean own (string_bytes t) (is ∙ answers)
reads-leaf nodes node s (Err e) is own answers clean = tt

-- a walk's events say what the texts of its trees are
pub writes-texts : {A : Type 0} (nodes : List Node) (hs : List ℕ) (es : List Event) (old : List ℕ) (r : Result A TreeError) (new : List ℕ) →
    es ≡ events (walk all_tags nodes [] hs) → Writes (fault_among es) (flat_map event_text es) old r new →
    Writes (first_fault (walk all_tags nodes [] hs)) (text_of (trees (walk all_tags nodes [] hs))) old r new
writes-texts nodes hs es old r new e h =
    let w : Walk = walk all_tags nodes [] hs in
    subst₂ (λ f s. Writes f s old r new) (ap fault_among e ∙ sym (first_fault-events w)) (ap (flat_map event_text) e ∙ sym (text_of-events w)) h

-- the texts of the walk below a tag are the tag's
pub writes-below : {A : Type 0} (nodes : List Node) (own : TagNode) (hs : List ℕ) (old : List ℕ) (r : Result A TreeError) (new : List ℕ) →
    hs ≡ own.children.items → Writes (first_fault (walk all_tags nodes [] hs)) (text_of (trees (walk all_tags nodes [] hs))) old r new →
    Writes (first_fault (walk_of all_tags nodes (Tag own))) (text_of (trees (walk_of all_tags nodes (Tag own)))) old r new
writes-below nodes own hs old r new e h =
    let below : Walk = walk all_tags nodes [] own.children.items in
    let same : walk all_tags nodes [] hs ≡ below = ap (walk all_tags nodes []) e in
    subst₂ (λ f s. Writes f s old r new)
    (ap first_fault same ∙ sym (earlier_fault-none (first_fault below)))
    (ap (λ w. text_of (trees w)) same ∙ sym (append-nil (text_of (trees below))))
    h

-- the attributes in order, as they are printed

pairs-map : (es : List (Kept × Option Kept)) → map pair_view (map (λ (e : Kept × Option Kept). (as_borrowed e.0.list, e.1)) es) ≡ map pair_view es
pairs-map [] = refl
pairs-map (e ∷ es) = ap (λ ps. pair_view e ∷ ps) (pairs-map es)

pub pairs-listed : (a : Attributes Kept) → map pair_view (listed (λ b. b.list) a) ≡ printed_pairs (plain a)
pairs-listed a =
    image-pairs_in_order bytes_view bytes_view as_borrowed (map (λ (e : Kept × Option Kept). (as_borrowed e.0.list, e.1)) a.others.entries) a.id a.class
    ∙ ap (λ (ps : List Pair). pairs_in_order (λ key. key) ps (value_view a.id) (value_view a.class)) (pairs-map a.others.entries)

-- what three calls wrote, in order
pub three : (a b d whole out one two all : List ℕ) → one ≡ out ++ a → two ≡ one ++ b → all ≡ two ++ d → whole ≡ a ++ (b ++ d) → all ≡ out ++ whole
three a b d whole out one two all first second third is =
    third ∙ ap (λ s. s ++ d) (second ∙ ap (λ s. s ++ b) first) ∙ append_assoc (out ++ a) b d ∙ append_assoc out a (b ++ d) ∙ ap (λ s. out ++ s) (sym is)
