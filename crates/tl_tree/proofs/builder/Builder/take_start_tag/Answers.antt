use Rattle.std.proofs.Common.{Bool, ap, refl, ◌∙◌, ◌≡◌}
use Rattle.std.proofs.lemmas.Result.{on_ok_weaker}
use Rattle.tl_dom_spec.specs.Builder.{Builder, a_start}
use Rattle.tl_dom_spec.specs.Groups.{Group, group}
use Rattle.tl_dom_spec.specs.Tags.{Tag, html_tag}
use Rattle.tl_html_parts.specs.Parts.{attributes_of, name_of}
use Rattle.tl_html_parts.specs.Places.{pairs_in, part_in}
use Rattle.tl_dom_spec.specs.Dispatcher.{token_done}
use Rattle.tl_tree.proofs.IgnoredTags.{ignored-alike}
use Rattle.tl_tree.specs.Inner.Builders.{builder_of, token_of}
use Rattle.tl_tree.specs.Inner.GroupNames.{group_view}
use Rattle.tl_tree.specs.Inner.Parted.{start_said}
use Rattle.tl_tree.specs.Inner.Taking.{token_taken}
use Rattle.tl_tree.proofs.builder.Builder.take_start_tag.Goals as goal

same-start : (b b' : Builder) (g g' : Group) (t t' : Tag) (closes closes' : Bool) → b ≡ b' → g ≡ g' → t ≡ t' → closes ≡ closes' → token_taken b (a_start g t closes) ≡ token_taken b' (a_start g' t' closes')
same-start b b' g g' t t' closes closes' is-b is-g is-t is-closes =
    ap (λ own. token_taken own (a_start g t closes)) is-b
    ∙ (ap (λ own. token_taken b' (a_start own t closes)) is-g
    ∙ (ap (λ own. token_taken b' (a_start g' own closes)) is-t
    ∙ ap (λ own. token_taken b' (a_start g' t' own)) is-closes))

-- one that is ignored
pub returns-in-Some-clause-ok : goal.returns-in-Some-clause-ok
returns-in-Some-clause-ok c =
    let b = builder_of c.args.self.now in
    let page = c.args.self.now.path.store.page.now in
    let name = name_of (part_in page c.args.tag.name) in
    let own = html_tag name (attributes_of (pairs_in page c.args.attributes.now)) in
    let closes = c.args.tag.closes in
    let held = (token_of c.args.self.now).tag in
    let alike = ignored-alike b (group_view c.in-Some.group) own held closes c.in-Some.ensures.ignored in
    let named : group_view c.in-Some.group ≡ group name = c.in-Some.ensures.group in
    let said = ap (λ (g : Group). token_done b (a_start g own closes)) named in
    on_ok_weaker {P = builder_of c.take_token.new.self ≡ token_taken b (a_start (group_view c.in-Some.group) held closes)} {Q = builder_of c.take_token.new.self ≡ token_done b (start_said page c.args.attributes.now c.args.tag)} c.take_token.result
    (λ e. e ∙ (alike ∙ said))
    c.take_token.ensures.ok

pub returns-clause-ok : goal.returns-clause-ok
returns-clause-ok c =
    on_ok_weaker {Q = builder_of c.take_token-2.new.self ≡ token_done (builder_of c.args.self.now) (start_said c.args.self.now.path.store.page.now c.args.attributes.now c.args.tag)} c.take_token-2.result
    (λ e.
    let tag = c.set_tag.ensures.tag ∙ c.in_ok-number.ensures.tag in
    e ∙ same-start _ _ _ (group (name_of (part_in c.args.self.now.path.store.page.now c.args.tag.name))) _ _ c.args.tag.closes c.args.tag.closes
    (c.set_tag.ensures.ok ∙ c.add_start_tag.ensures.ok)
    (c.held_group-group.ensures ∙ ap (λ (t : Tag). group t.name) tag) tag refl)
    c.take_token-2.ensures.ok
