use Rattle.std.proofs.Common.{ap, sym, ◌&&◌, ◌∙◌, ◌||◌}
use Rattle.std.specs.Str.{bytes_eq}
use Rattle.tl_dom_spec.specs.Tags.{is_any}
use Rattle.tl_tree.proofs.NumberedNames.{in-space}
use Rattle.tl_tree.specs.Inner.NameLists.{list_of}
use Rattle.tl_tree.specs.Inner.Store.{bytes_of, tag_of}
use Rattle.tl_tree.proofs.test.TagTest.is.Goals as goal

pub returns-in-Any : goal.returns-in-Any
unfolding tag_of
returns-in-Any c =
    rw c.in-Any.is (c.is_any.ensures (bytes_of c.args.store.now c.args.tag.name) c.requires.known)

pub returns-in-Scope : goal.returns-in-Scope
unfolding tag_of
returns-in-Scope c =
    rw c.in-Scope.is (c.is_scope.ensures (bytes_of c.args.store.now c.args.tag.name) c.requires.known)

pub returns-in-Heading : goal.returns-in-Heading
unfolding tag_of
returns-in-Heading c =
    rw c.in-Heading.is (c.is_heading.ensures (bytes_of c.args.store.now c.args.tag.name) c.requires.known)

pub returns-in-ImpliedThoroughly : goal.returns-in-ImpliedThoroughly
unfolding tag_of
returns-in-ImpliedThoroughly c =
    rw c.in-ImpliedThoroughly.is (c.is_implied_thoroughly.ensures (bytes_of c.args.store.now c.args.tag.name) c.requires.known)

pub returns-in-Special : goal.returns-in-Special
unfolding tag_of
returns-in-Special c =
    rw c.in-Special.is (c.is_special.ensures (bytes_of c.args.store.now c.args.tag.name) c.requires.known)

pub returns-in-ItemBound : goal.returns-in-ItemBound
unfolding tag_of
returns-in-ItemBound c =
    rw c.in-ItemBound.is (c.is_item_bound.ensures (bytes_of c.args.store.now c.args.tag.name) c.requires.known)

pub returns-then-is_html : goal.returns-then-is_html
unfolding tag_of
returns-then-is_html c =
    rw c.in-Named.is
    (in-space c.is_html.result _ c.are_same.result _ c.is_html.ensures c.if-is_html.true
    (c.are_same.ensures ∙ ap (bytes_eq c.in-Named.own.now) c.bytes.ensures))

pub returns-else-is_html : goal.returns-else-is_html
unfolding tag_of
returns-else-is_html c =
    rw c.in-Named.is
    (c.if-is_html.false
    ∙ ap (λ b. b && bytes_eq c.in-Named.own.now (bytes_of c.args.store.now c.args.tag.name)) (sym c.if-is_html.false ∙ c.is_html.ensures))

pub returns-then-is_scope : goal.returns-then-is_scope
unfolding tag_of
returns-then-is_scope c =
    let is = c.is_scope-in-ScopeOr.ensures (bytes_of c.args.store.now c.args.tag.name) c.requires.known in
    rw c.in-ScopeOr.is
    (c.if-is_scope.true
    ∙ ap (λ b. b || is_any (list_of c.in-ScopeOr.names) (tag_of c.args.store.now c.args.tag)) (sym c.if-is_scope.true ∙ is))

pub returns-else-is_scope : goal.returns-else-is_scope
unfolding tag_of
returns-else-is_scope c =
    let name = bytes_of c.args.store.now c.args.tag.name in
    rw c.in-ScopeOr.is
    (c.is_any-else-is_scope.ensures name c.requires.known
    ∙ ap (λ b. b || is_any (list_of c.in-ScopeOr.names) (tag_of c.args.store.now c.args.tag)) (sym c.if-is_scope.false ∙ c.is_scope-in-ScopeOr.ensures name c.requires.known))
