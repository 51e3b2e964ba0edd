-- Elements with other attributes.
use Rattle.std.proofs.Common.{Bool, List, None, Option, Some, [], ap, false, refl, sym, true, ◌≡◌, ◌≢◌, ◌∙◌}
use Rattle.std.proofs.lemmas.Bool.{false≢true}
use Rattle.std.proofs.lemmas.Option.{none-some}
use Rattle.std.specs.Option.{option_and_then, option_map, unwrap_or}
use Rattle.tl_dom_spec.specs.Tags as dom
use Rattle.tl_tree.specs.Asked.{attributes_of, kind_of, name_of, namespace_of}
use Rattle.tl_tree.specs.Rows.{Node, a_comment, a_doctype, a_text, an_element, contents}
use Rattle.tl_tree.specs.declared.kind.Kind as kind
use Rattle.tl_tree.specs.declared.kind.Kind.TheVariants as kinds
use Rattle.tl_tree_edit.proofs.Nodes.{nodes_alike, same_alike}
use Rattle.tl_tree_edit.specs.Bare.{bare}
use Rattle.tl_tree_edit.specs.Changes.{with_attributes}

abbrev is_element : Option kind.Kind → Bool
is_element (Some kinds.Element) = true
is_element _ = false

-- what is asked of two elements
pub record AreElements (f : List dom.Attribute → List dom.Attribute) (a b : Option Node) : Type 0 where
  pub kind : option_map kind_of b ≡ Some kinds.Element
  pub space : option_and_then namespace_of a ≡ option_and_then namespace_of b
  pub name : option_and_then name_of a ≡ option_and_then name_of b
  pub attributes : f (unwrap_or (option_map attributes_of a) []) ≡ unwrap_or (option_map attributes_of b) []

abbrev no-element : (a : Option kind.Kind) → a ≡ Some kinds.Element → is_element a ≡ false → false ≡ true
no-element a e f = sym f ∙ ap is_element e

with-attributes : (f : List dom.Attribute → List dom.Attribute) (t : dom.Tag) (b : Option Node) → AreElements f (Some (an_element t)) b → option_map bare (Some (with_attributes f (an_element t))) ≡ option_map bare b
with-attributes f t None h = absurd (none-some kinds.Element h.kind)
with-attributes f t (Some (an_element u)) h =
    same_alike (Some (with_attributes f (an_element t))) (Some (an_element u)) refl h.space h.name h.attributes refl refl
with-attributes f t (Some contents) h = absurd (false≢true (no-element (Some kinds.Contents) h.kind refl))
with-attributes f t (Some (a_text own)) h = absurd (false≢true (no-element (Some kinds.Text) h.kind refl))
with-attributes f t (Some (a_comment own)) h = absurd (false≢true (no-element (Some kinds.Comment) h.kind refl))
with-attributes f t (Some (a_doctype own)) h = absurd (false≢true (no-element (Some kinds.Doctype) h.kind refl))

pub element_changed : (f : List dom.Attribute → List dom.Attribute) (a b : Option Node) → option_map kind_of a ≡ Some kinds.Element → AreElements f a b → option_map bare b ≡ option_map bare (option_map (with_attributes f) a)
element_changed f None b k h = absurd (none-some kinds.Element k)
element_changed f (Some (an_element t)) b k h = sym (with-attributes f t b h)
element_changed f (Some contents) b k h = absurd (false≢true (no-element (Some kinds.Contents) k refl))
element_changed f (Some (a_text own)) b k h = absurd (false≢true (no-element (Some kinds.Text) k refl))
element_changed f (Some (a_comment own)) b k h = absurd (false≢true (no-element (Some kinds.Comment) k refl))
element_changed f (Some (a_doctype own)) b k h = absurd (false≢true (no-element (Some kinds.Doctype) k refl))

pub changed_element : (f : List dom.Attribute → List dom.Attribute) (a b : Option Node) → option_map kind_of a ≡ Some kinds.Element → option_map bare b ≡ option_map bare (option_map (with_attributes f) a) → AreElements f a b
changed_element f None b k e = absurd (none-some kinds.Element k)
changed_element f (Some (an_element t)) b k e =
    let it = nodes_alike (Some (with_attributes f (an_element t))) b (sym e) in
    record { kind = sym it.kind; space = it.space; name = it.name; attributes = it.attributes }
changed_element f (Some contents) b k e = absurd (false≢true (no-element (Some kinds.Contents) k refl))
changed_element f (Some (a_text own)) b k e = absurd (false≢true (no-element (Some kinds.Text) k refl))
changed_element f (Some (a_comment own)) b k e = absurd (false≢true (no-element (Some kinds.Comment) k refl))
changed_element f (Some (a_doctype own)) b k e = absurd (false≢true (no-element (Some kinds.Doctype) k refl))

-- what is no element stays
pub no_element : (f : List dom.Attribute → List dom.Attribute) (a : Option Node) → option_map kind_of a ≢ Some kinds.Element → option_map (with_attributes f) a ≡ a
no_element f None k = refl
no_element f (Some (an_element t)) k = absurd (k refl)
no_element f (Some contents) k = refl
no_element f (Some (a_text own)) k = refl
no_element f (Some (a_comment own)) k = refl
no_element f (Some (a_doctype own)) k = refl
