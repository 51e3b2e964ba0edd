-- Nodes are the same, but for where they come from, where all that is asked of them is.
use Rattle.std.proofs.Common.{List, None, Option, Some, [], ap, false, refl, sym, ℕ, ◌≡◌, ◌∙◌}
use Rattle.std.specs.Option.{option_and_then, option_map, unwrap_or}
use Rattle.tl_dom_spec.specs.Marks.{unmarked}
use Rattle.tl_dom_spec.specs.Tags as dom
use Rattle.tl_html_spec.specs.Doctypes.{Doctype}
use Rattle.tl_tree.specs.Asked.{attributes_of, doctype_of, kind_of, name_of, namespace_by, namespace_of, text_of}
use Rattle.tl_tree.specs.Rows.{Node, a_comment, a_doctype, a_text, an_element, contents}
use Rattle.tl_tree.specs.declared.entries.Namespace.{Namespace}
use Rattle.tl_tree.specs.declared.entries.Namespace.TheVariants.{Html, Math, Svg}
use Rattle.tl_tree.specs.declared.kind.Kind as kind
use Rattle.tl_tree.specs.declared.kind.Kind.TheVariants as kinds
use Rattle.tl_tree_edit.specs.Bare.{bare}

abbrev space_of : Namespace → dom.Namespace
space_of Html = dom.html_space
space_of Math = dom.math_space
space_of Svg = dom.svg_space

space-back : (s : dom.Namespace) → space_of (namespace_by s) ≡ s
space-back dom.html_space = refl
space-back dom.math_space = refl
space-back dom.svg_space = refl

abbrev tag_by : dom.Namespace → List ℕ → List dom.Attribute → Node
tag_by space name attributes =
    an_element (record { space = space; name = name; attributes = attributes; source = None })

abbrev no_doctype : Doctype
no_doctype = record { name = []; public_id = None; system_id = None; forces_quirks = false }

-- all that is asked of a node
pub record Parts : Type 0 where
  pub space : Option Namespace
  pub name : Option (List ℕ)
  pub attributes : List dom.Attribute
  pub text : Option (List ℕ)
  pub doctype : Option Doctype

abbrev parts_of : Option Node → Parts
parts_of a = record {
  space = option_and_then namespace_of a;
  name = option_and_then name_of a;
  attributes = unwrap_or (option_map attributes_of a) [];
  text = option_and_then text_of a;
  doctype = option_and_then doctype_of a;
}

-- the node that these are asked of
abbrev rebuilt : Parts → kind.Kind → Node
rebuilt p kinds.Element =
    tag_by (unwrap_or (option_map space_of p.space) dom.html_space) (unwrap_or p.name []) p.attributes
rebuilt p kinds.Contents = contents
rebuilt p kinds.Text = a_text (unmarked (unwrap_or p.text []))
rebuilt p kinds.Comment = a_comment (unmarked (unwrap_or p.text []))
rebuilt p kinds.Doctype = a_doctype (unmarked (unwrap_or p.doctype no_doctype))

rebuilt-is : (a : Option Node) → option_map (rebuilt (parts_of a)) (option_map kind_of a) ≡ option_map bare a
rebuilt-is None = refl
rebuilt-is (Some (an_element t)) =
    ap (λ (s : dom.Namespace). Some (tag_by s t.name t.attributes)) (space-back t.space)
rebuilt-is (Some contents) = refl
rebuilt-is (Some (a_text own)) = refl
rebuilt-is (Some (a_comment own)) = refl
rebuilt-is (Some (a_doctype own)) = refl

pub record AreAlike (a b : Option Node) : Type 0 where
  pub kind : option_map kind_of a ≡ option_map kind_of b
  pub space : option_and_then namespace_of a ≡ option_and_then namespace_of b
  pub name : option_and_then name_of a ≡ option_and_then name_of b
  pub attributes : unwrap_or (option_map attributes_of a) [] ≡ unwrap_or (option_map attributes_of b) []
  pub text : option_and_then text_of a ≡ option_and_then text_of b
  pub doctype : option_and_then doctype_of a ≡ option_and_then doctype_of b

same-parts : (p q : Parts) → p.space ≡ q.space → p.name ≡ q.name → p.attributes ≡ q.attributes → p.text ≡ q.text → p.doctype ≡ q.doctype → p ≡ q
same-parts p q s n a t d =
    ap (λ (x : Option Namespace). record { space = x; name = p.name; attributes = p.attributes; text = p.text; doctype = p.doctype }) s
    ∙ (ap (λ (x : Option (List ℕ)). record { space = q.space; name = x; attributes = p.attributes; text = p.text; doctype = p.doctype }) n
    ∙ (ap (λ (x : List dom.Attribute). record { space = q.space; name = q.name; attributes = x; text = p.text; doctype = p.doctype }) a
    ∙ (ap (λ (x : Option (List ℕ)). record { space = q.space; name = q.name; attributes = q.attributes; text = x; doctype = p.doctype }) t
    ∙ ap (λ (x : Option Doctype). record { space = q.space; name = q.name; attributes = q.attributes; text = q.text; doctype = x }) d)))

pub same_nodes : (a b : Option Node) → AreAlike a b → option_map bare a ≡ option_map bare b
same_nodes a b h =
    sym (rebuilt-is a)
    ∙ (ap (λ (p : Parts). option_map (rebuilt p) (option_map kind_of a)) (same-parts (parts_of a) (parts_of b) h.space h.name h.attributes h.text h.doctype)
    ∙ (ap (option_map (rebuilt (parts_of b))) h.kind ∙ rebuilt-is b))

-- What is asked of a node is asked of it without where it comes from

kind-bare : (a : Option Node) → option_map kind_of (option_map bare a) ≡ option_map kind_of a
kind-bare None = refl
kind-bare (Some (an_element t)) = refl
kind-bare (Some contents) = refl
kind-bare (Some (a_text own)) = refl
kind-bare (Some (a_comment own)) = refl
kind-bare (Some (a_doctype own)) = refl

parts-bare : (a : Option Node) → parts_of (option_map bare a) ≡ parts_of a
parts-bare None = refl
parts-bare (Some (an_element t)) = refl
parts-bare (Some contents) = refl
parts-bare (Some (a_text own)) = refl
parts-bare (Some (a_comment own)) = refl
parts-bare (Some (a_doctype own)) = refl

pub nodes_alike : (a b : Option Node) → option_map bare a ≡ option_map bare b → AreAlike a b
nodes_alike a b e =
    let parts : parts_of a ≡ parts_of b = sym (parts-bare a) ∙ (ap parts_of e ∙ parts-bare b) in
    record {
      kind = sym (kind-bare a) ∙ (ap (option_map kind_of) e ∙ kind-bare b);
      space = ap (λ (p : Parts). p.space) parts;
      name = ap (λ (p : Parts). p.name) parts;
      attributes = ap (λ (p : Parts). p.attributes) parts;
      text = ap (λ (p : Parts). p.text) parts;
      doctype = ap (λ (p : Parts). p.doctype) parts;
    }

-- the same, part by part
pub same_alike : (a b : Option Node) → option_map kind_of a ≡ option_map kind_of b → option_and_then namespace_of a ≡ option_and_then namespace_of b → option_and_then name_of a ≡ option_and_then name_of b → unwrap_or (option_map attributes_of a) [] ≡ unwrap_or (option_map attributes_of b) [] → option_and_then text_of a ≡ option_and_then text_of b → option_and_then doctype_of a ≡ option_and_then doctype_of b → option_map bare a ≡ option_map bare b
same_alike a b k s n l t d =
    same_nodes a b (record { kind = k; space = s; name = n; attributes = l; text = t; doctype = d })

pub kinds_alike : (a b : Option Node) → option_map bare a ≡ option_map bare b → option_map kind_of a ≡ option_map kind_of b
kinds_alike a b e = (nodes_alike a b e).kind

pub spaces_alike : (a b : Option Node) → option_map bare a ≡ option_map bare b → option_and_then namespace_of a ≡ option_and_then namespace_of b
spaces_alike a b e = (nodes_alike a b e).space

pub names_alike : (a b : Option Node) → option_map bare a ≡ option_map bare b → option_and_then name_of a ≡ option_and_then name_of b
names_alike a b e = (nodes_alike a b e).name

pub attributes_alike : (a b : Option Node) → option_map bare a ≡ option_map bare b → unwrap_or (option_map attributes_of a) [] ≡ unwrap_or (option_map attributes_of b) []
attributes_alike a b e = (nodes_alike a b e).attributes

pub texts_alike : (a b : Option Node) → option_map bare a ≡ option_map bare b → option_and_then text_of a ≡ option_and_then text_of b
texts_alike a b e = (nodes_alike a b e).text

pub doctypes_alike : (a b : Option Node) → option_map bare a ≡ option_map bare b → option_and_then doctype_of a ≡ option_and_then doctype_of b
doctypes_alike a b e = (nodes_alike a b e).doctype
