-- Nodes as contexts.
use Rattle.std.proofs.Common.{Bool, List, None, Option, Some, [], ap, codes, false, map, refl, sym, true, ℕ, ◌∙◌, ◌≡◌, ◌≢◌}
use Rattle.std.specs.Option.{option_and_then, option_map, unwrap_or}
use Rattle.std.specs.Prelude.{◌&&◌}
use Rattle.tl_dom_spec.specs.Tags as dom
use Rattle.tl_dom_spec.specs.Tags.{Attribute, Tag}
use Rattle.tl_tree.specs.Asked.{attributes_of, name_of, namespace_by, namespace_of}
use Rattle.tl_tree.specs.Inner.Store.{space_of}
use Rattle.tl_tree.specs.Rows.{Node, a_comment, a_doctype, a_text, an_element, contents}
use Rattle.tl_tree.specs.declared.entries.Namespace.{Namespace}
use Rattle.tl_tree.specs.declared.entries.Namespace.TheVariants.{Html, Math, Svg}
use Rattle.tl_tree_edit.specs.Operations.{context_attributes, is_html_name, is_named, read_by, tag_for, without_space}

abbrev pub tag_by : dom.Namespace → List ℕ → List Attribute → Tag
tag_by space name attributes = record { space = space; name = name; attributes = attributes; source = None }

space-back : (s : dom.Namespace) → space_of (namespace_by s) ≡ s
space-back dom.html_space = refl
space-back dom.math_space = refl
space-back dom.svg_space = refl

-- what is asked of a node for its context
pub tag_asked : (r : Option Node) → tag_by (space_of (unwrap_or (option_and_then namespace_of r) Html)) (unwrap_or (option_and_then name_of r) (codes "body")) (context_attributes (option_and_then namespace_of r) (unwrap_or (option_map attributes_of r) [])) ≡ tag_for r
tag_asked None = refl
tag_asked (Some (an_element t)) = ap (λ (s : dom.Namespace). tag_by s t.name (context_attributes (Some (namespace_by t.space)) t.attributes)) (space-back t.space)
tag_asked (Some contents) = refl
tag_asked (Some (a_text own)) = refl
tag_asked (Some (a_comment own)) = refl
tag_asked (Some (a_doctype own)) = refl

pub read_by_none : (is : Bool) → read_by is None ≡ None
read_by_none true = refl
read_by_none false = refl

pub read_by_other : (is : Bool) (r : Option Node) → is && is_named (codes "html") r ≡ false → read_by is r ≡ r
read_by_other is r e = rw e refl

pub read_by_html : (is : Bool) (r : Option Node) → is && is_named (codes "html") r ≡ true → read_by is r ≡ None
read_by_html is r e = rw e refl

-- the attributes of which rules ask in a context

pub no_context : (s : Option Namespace) (own : List Attribute) → s ≢ Some Math → context_attributes s own ≡ []
no_context None own n = refl
no_context (Some Html) own n = refl
no_context (Some Svg) own n = refl
no_context (Some Math) own n = absurd (n refl)

pub in_math : (s : Option Namespace) (own : List Attribute) → s ≡ Some Math → context_attributes s own ≡ map without_space own
in_math s own e = ap (λ (x : Option Namespace). context_attributes x own) e

-- Nodes as contexts that are alike

tags_alike : (a b : Option Node) → option_and_then namespace_of a ≢ Some Math → option_and_then namespace_of a ≡ option_and_then namespace_of b → option_and_then name_of a ≡ option_and_then name_of b → tag_for a ≡ tag_for b
tags_alike a b n s m =
    let of-a = unwrap_or (option_map attributes_of a) [] in
    let of-b = unwrap_or (option_map attributes_of b) [] in
    let none = no_context (option_and_then namespace_of a) of-a n ∙ sym (no_context (option_and_then namespace_of b) of-b (λ e. n (s ∙ e))) in
    let name = λ (r : Option Node). unwrap_or (option_and_then name_of r) (codes "body") in
    sym (tag_asked a)
    ∙ (ap (λ (x : List Attribute). tag_by (space_of (unwrap_or (option_and_then namespace_of a) Html)) (name a) x) none
    ∙ (ap (λ (x : Option Namespace). tag_by (space_of (unwrap_or x Html)) (name a) (context_attributes (option_and_then namespace_of b) of-b)) s
    ∙ (ap (λ (x : Option (List ℕ)). tag_by (space_of (unwrap_or (option_and_then namespace_of b) Html)) (unwrap_or x (codes "body")) (context_attributes (option_and_then namespace_of b) of-b)) m
    ∙ tag_asked b)))

named_alike : (a b : Option Node) → option_and_then namespace_of a ≡ option_and_then namespace_of b → option_and_then name_of a ≡ option_and_then name_of b → is_named (codes "html") a ≡ is_named (codes "html") b
named_alike a b s m =
    ap (λ (x : Option Namespace). is_html_name (codes "html") x (option_and_then name_of a)) s
    ∙ ap (λ (x : Option (List ℕ)). is_html_name (codes "html") (option_and_then namespace_of b) x) m

read_alike : (is c d : Bool) (a b : Option Node) → is && is_named (codes "html") a ≡ c → c ≡ d → is && is_named (codes "html") b ≡ d → tag_for a ≡ tag_for b → tag_for (read_by is a) ≡ tag_for (read_by is b)
read_alike is true d a b ca e db same =
    ap tag_for (read_by_html is a ca ∙ sym (read_by_html is b (db ∙ sym e)))
read_alike is false d a b ca e db same =
    ap tag_for (read_by_other is a ca) ∙ (same ∙ sym (ap tag_for (read_by_other is b (db ∙ sym e))))

pub contexts_alike : (is : Bool) (a b : Option Node) → option_and_then namespace_of a ≢ Some Math → option_and_then namespace_of a ≡ option_and_then namespace_of b → option_and_then name_of a ≡ option_and_then name_of b → tag_for (read_by is a) ≡ tag_for (read_by is b)
contexts_alike is a b n s m =
    read_alike is (is && is_named (codes "html") a) (is && is_named (codes "html") b) a b refl (ap (λ (x : Bool). is && x) (named_alike a b s m)) refl (tags_alike a b n s m)
