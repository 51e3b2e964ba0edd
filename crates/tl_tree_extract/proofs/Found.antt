-- Links: one more URL of a value, and what an attribute of an HTML element holds.
use Rattle.std.proofs.Common.{◌≡◌, ◌++◌, ◌∷◌, ◌∙◌, List, None, Option, Some, [], append_assoc, map, suc, true, ℕ}
use Rattle.std.specs.Option.{option_and_then, option_map, unwrap_or}
use Rattle.tl_dom_spec.specs.Tags as dom
use Rattle.tl_tree.specs.Asked.{attributes_of, has_no_space, name_of, namespace_by, namespace_of}
use Rattle.tl_tree.specs.Rows.{Node, a_comment, a_doctype, a_text, an_element, contents}
use Rattle.tl_tree.specs.declared.entries.Namespace.TheVariants.{Html}
use Rattle.tl_tree_extract.specs.Candidates.{Item}
use Rattle.tl_tree_extract.specs.Links.{Link, kind_by, kind_if, kind_in, next_item, parts_from, refreshes}
use Rattle.tl_tree_extract.specs.Spans.{Part, trimmed}
use Rattle.tl_tree_extract.specs.UrlKeys.{kind_at, url_keys}
use Rattle.tl_tree_extract.specs.declared.url_keys.UrlKind.{UrlKind}

parts_more : (kind : UrlKind) (whole most : ℕ) (bytes : List ℕ) (i : Item) → next_item kind bytes ≡ Some i
    → parts_from kind whole bytes (suc most) ≡ trimmed whole i.rest i.url ∷ parts_from kind whole i.next most
parts_more kind whole most bytes i found = rw (found, parts_from)

pub items_more : (mk : Part → Link) (links : List Link) (said : Link) (kind : UrlKind) (whole most left : ℕ) (bytes : List ℕ) (i : Item)
    → next_item kind bytes ≡ Some i → left ≡ suc most → said ≡ mk (trimmed whole i.rest i.url)
    → (links ++ said ∷ []) ++ map mk (parts_from kind whole i.next most) ≡ links ++ map mk (parts_from kind whole bytes left)
items_more mk links said kind whole most left bytes i found all is =
    rw (append_assoc, all, parts_more kind whole most bytes i found, is)

html_by : (space : dom.Namespace) (tag : dom.Tag) (a : dom.Attribute) → namespace_by space ≡ Html → has_no_space a.space ≡ true
    → kind_by space tag a ≡ kind_if (refreshes tag.attributes) (kind_at url_keys a.key tag.name)
html_by dom.html_space tag a is plain = rw plain
html_by dom.math_space tag a is plain = cc
html_by dom.svg_space tag a is plain = cc

pub html_is : (node : Option Node) (a : dom.Attribute) (name : List ℕ) → option_and_then name_of node ≡ Some name
    → option_and_then namespace_of node ≡ Some Html → has_no_space a.space ≡ true
    → option_and_then (kind_in a) node ≡ kind_if (refreshes (unwrap_or (option_map attributes_of node) [])) (kind_at url_keys a.key name)
html_is None a name named html plain = cc
html_is (Some (an_element tag)) a name named html plain =
    let is : tag.name ≡ name = cc in
    html_by tag.space tag a (cc) plain ∙ rw is
html_is (Some contents) a name named html plain = cc
html_is (Some (a_text bytes)) a name named html plain = cc
html_is (Some (a_comment bytes)) a name named html plain = cc
html_is (Some (a_doctype own)) a name named html plain = cc
