-- The `head` among nodes, and what goes to its end.
use Rattle.std.proofs.Common.{ap, sym, ◌∙◌, ◌≡◌, ◌++◌, Bool, IsTrue, List, cond, false, not, refl, true, ℕ}
use Rattle.std.proofs.lemmas.Bool.{and_parts, not-true}
use Rattle.std.proofs.lemmas.List.{append_assoc}
use Rattle.tl_dom_spec.specs.Marks.{Marked}
use Rattle.tl_dom_spec.specs.Path.{Nodes, and_comment, and_doctype, and_element, and_text, at_head, joined, no_nodes, with_text}
use Rattle.tl_dom_spec.specs.Tags.{Tag}
use Rattle.tl_tree.specs.Inner.Heads.{is_head, is_headless}

-- Rows of rows

text-twice : (nodes : Nodes) (first second : Marked (List ℕ)) → with_text (with_text nodes first) second ≡ with_text nodes (record first { said = first.said ++ second.said })
text-twice no_nodes first second = refl
text-twice (and_text nodes own) first second =
    ap (λ zs. and_text nodes (record own { said = zs })) (append_assoc own.said first.said second.said)
text-twice (and_comment nodes bytes) first second = refl
text-twice (and_doctype nodes own) first second = refl
text-twice (and_element nodes tag children) first second = refl

joined-text : (nodes more : Nodes) (bytes : Marked (List ℕ)) → joined nodes (with_text more bytes) ≡ with_text (joined nodes more) bytes
joined-text nodes no_nodes bytes = refl
joined-text nodes (and_text more own) bytes = sym (text-twice (joined nodes more) own bytes)
joined-text nodes (and_comment more own) bytes = refl
joined-text nodes (and_doctype more own) bytes = refl
joined-text nodes (and_element more tag children) bytes = refl

pub joined-assoc : (first second third : Nodes) → joined (joined first second) third ≡ joined first (joined second third)
joined-assoc first second no_nodes = refl
joined-assoc first second (and_text third bytes) =
    ap (λ (nodes : Nodes). with_text nodes bytes) (joined-assoc first second third)
    ∙ sym (joined-text first (joined second third) bytes)
joined-assoc first second (and_comment third bytes) =
    ap (λ (nodes : Nodes). and_comment nodes bytes) (joined-assoc first second third)
joined-assoc first second (and_doctype third own) =
    ap (λ (nodes : Nodes). and_doctype nodes own) (joined-assoc first second third)
joined-assoc first second (and_element third tag children) =
    ap (λ (nodes : Nodes). and_element nodes tag children) (joined-assoc first second third)

-- An element, by what is said of it

pub at-head-yes : (nodes : Nodes) (tag : Tag) (children new : Nodes) → is_head tag ≡ true → at_head (and_element nodes tag children) new ≡ and_element nodes tag (joined children new)
at-head-yes nodes tag children new e =
    ap (λ (b : Bool). cond b (and_element nodes tag (joined children new)) (and_element (at_head nodes new) tag children)) e

at-head-no : (nodes : Nodes) (tag : Tag) (children new : Nodes) → is_head tag ≡ false → at_head (and_element nodes tag children) new ≡ and_element (at_head nodes new) tag children
at-head-no nodes tag children new e =
    ap (λ (b : Bool). cond b (and_element nodes tag (joined children new)) (and_element (at_head nodes new) tag children)) e

-- Nothing, and one after the other

none-element : (nodes : Nodes) (tag : Tag) (children : Nodes) → at_head nodes no_nodes ≡ nodes → (is : Bool) → is_head tag ≡ is → at_head (and_element nodes tag children) no_nodes ≡ and_element nodes tag children
none-element nodes tag children rest true e = at-head-yes nodes tag children no_nodes e
none-element nodes tag children rest false e =
    at-head-no nodes tag children no_nodes e
    ∙ ap (λ (own : Nodes). and_element own tag children) rest

pub at-head-none : (nodes : Nodes) → at_head nodes no_nodes ≡ nodes
at-head-none no_nodes = refl
at-head-none (and_text nodes bytes) = ap (λ (own : Nodes). and_text own bytes) (at-head-none nodes)
at-head-none (and_comment nodes bytes) = ap (λ (own : Nodes). and_comment own bytes) (at-head-none nodes)
at-head-none (and_doctype nodes own) = ap (λ (rest : Nodes). and_doctype rest own) (at-head-none nodes)
at-head-none (and_element nodes tag children) =
    none-element nodes tag children (at-head-none nodes) (is_head tag) refl

twice-element : (nodes : Nodes) (tag : Tag) (children first second : Nodes) → at_head (at_head nodes first) second ≡ at_head nodes (joined first second) → (is : Bool) → is_head tag ≡ is → at_head (at_head (and_element nodes tag children) first) second ≡ at_head (and_element nodes tag children) (joined first second)
twice-element nodes tag children first second rest true e =
    ap (λ (own : Nodes). at_head own second) (at-head-yes nodes tag children first e)
    ∙ (at-head-yes nodes tag (joined children first) second e
    ∙ (ap (and_element nodes tag) (joined-assoc children first second)
    ∙ sym (at-head-yes nodes tag children (joined first second) e)))
twice-element nodes tag children first second rest false e =
    ap (λ (own : Nodes). at_head own second) (at-head-no nodes tag children first e)
    ∙ (at-head-no (at_head nodes first) tag children second e
    ∙ (ap (λ (own : Nodes). and_element own tag children) rest
    ∙ sym (at-head-no nodes tag children (joined first second) e)))

pub at-head-twice : (nodes first second : Nodes) → at_head (at_head nodes first) second ≡ at_head nodes (joined first second)
at-head-twice no_nodes first second = refl
at-head-twice (and_text nodes bytes) first second =
    ap (λ (own : Nodes). and_text own bytes) (at-head-twice nodes first second)
at-head-twice (and_comment nodes bytes) first second =
    ap (λ (own : Nodes). and_comment own bytes) (at-head-twice nodes first second)
at-head-twice (and_doctype nodes own) first second =
    ap (λ (rest : Nodes). and_doctype rest own) (at-head-twice nodes first second)
at-head-twice (and_element nodes tag children) first second =
    twice-element nodes tag children first second (at-head-twice nodes first second) (is_head tag) refl

-- What stands behind

at-head-text : (nodes : Nodes) (bytes : Marked (List ℕ)) (new : Nodes) → at_head (with_text nodes bytes) new ≡ with_text (at_head nodes new) bytes
at-head-text no_nodes bytes new = refl
at-head-text (and_text nodes own) bytes new = refl
at-head-text (and_comment nodes own) bytes new = refl
at-head-text (and_doctype nodes own) bytes new = refl
at-head-text (and_element nodes tag children) bytes new =
    let yes = and_element nodes tag (joined children new) in
    let no = and_element (at_head nodes new) tag children in
    elim (is_head tag) as (λ (b : Bool). and_text (cond b yes no) bytes ≡ with_text (cond b yes no) bytes) [
      | true ↦ refl
      | false ↦ refl
    ]

-- nodes without a `head` stand behind
pub at-head-behind : (nodes more new : Nodes) → IsTrue (is_headless more) → at_head (joined nodes more) new ≡ joined (at_head nodes new) more
at-head-behind nodes no_nodes new h = refl
at-head-behind nodes (and_text more bytes) new h =
    at-head-text (joined nodes more) bytes new
    ∙ ap (λ (own : Nodes). with_text own bytes) (at-head-behind nodes more new h)
at-head-behind nodes (and_comment more bytes) new h =
    ap (λ (own : Nodes). and_comment own bytes) (at-head-behind nodes more new h)
at-head-behind nodes (and_doctype more own) new h =
    ap (λ (rest : Nodes). and_doctype rest own) (at-head-behind nodes more new h)
at-head-behind nodes (and_element more tag children) new h =
    let p = and_parts (not (is_head tag)) (is_headless more) h in
    at-head-no (joined nodes more) tag children new (not-true (is_head tag) p.0)
    ∙ ap (λ (own : Nodes). and_element own tag children) (at-head-behind nodes more new p.1)
