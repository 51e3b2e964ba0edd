use Rattle.std.proofs.Common.{List, ap, arith, length, suc, ◌∙◌, ◌∷◌}
use Rattle.std.proofs.lemmas.Result.{on_ok_weaker}
use Rattle.tl_dom_spec.specs.Builder as dom
use Rattle.tl_dom_spec.specs.Path.{Path, Place, new_frame}
use Rattle.tl_dom_spec.specs.Tags.{Tag}
use Rattle.tl_tree.proofs.ActiveNumbers.{active-grown}
use Rattle.tl_tree.proofs.Built.{both-changed, known-both, known-more, token-kept}
use Rattle.tl_tree.proofs.Grown.{tag-at-grown}
use Rattle.tl_tree.specs.Inner.Active.{active_of}
use Rattle.tl_tree.specs.Inner.Builders.{builder_of, token_of}
use Rattle.tl_tree.specs.Inner.Frames.{path_of}
use Rattle.tl_tree.specs.Inner.Store.{tag_at}
use Rattle.tl_tree.proofs.builder.Builder.insert_listed.Goals as goal

pub returns-in_err-insert_element-clause-token : goal.returns-in_err-insert_element-clause-token
unfolding token_of
returns-in_err-insert_element-clause-token c =
    let b = c.args.self.now in
    token-kept b c.insert_element.new.self (known-more b c.insert_element.new.self c.insert_element.ensures.grows c.insert_element.ensures.least) c.insert_element.ensures.grows

pub returns-clause-token : goal.returns-clause-token
unfolding token_of
returns-clause-token c =
    let b = c.args.self.now in
    token-kept b c.insert_element.new.self (known-more b c.insert_element.new.self c.insert_element.ensures.grows c.insert_element.ensures.least) c.insert_element.ensures.grows

pub returns-clause-ok : goal.returns-clause-ok
unfolding builder_of token_of
returns-clause-ok c =
    let b = c.args.self.now in
    let s = b.path.store in
    let q = c.insert_element.new.self in
    let list = c.push.new.self in
    let own = tag_at s b.tag in
    let g = c.insert_element.ensures.grows in
    let least = c.insert_element.ensures.least in
    let more = known-more b q g least in
    let next = c.in_ok-insert_element.ensures.next in
    let number = c.push.ensures.number in
    let known = known-both b q list g least (omega arith) (c.push.ensures.tag (length q.store.tags.items) more.listed more.own) (c.push.ensures.tallied more.tallied) in
    let placed : Place → Path = λ at. dom.pushed_at at (new_frame b.path.next own at) (path_of b.path) in
    on_ok_weaker c.push.result
    (λ listed.
    both-changed b q list known
    (placed (dom.appropriate_place (builder_of b))) (suc b.path.next) (dom.formatting b.path.next own ∷ active_of s b.active) g (omega (arith, c.in_ok-insert_element.ensures.next))
    (c.in_ok-insert_element.ensures.ok ∙ ap placed c.appropriate_place-place.ensures)
    (listed q.store
    ∙ (ap (λ (t : Tag). dom.formatting b.path.next t ∷ active_of q.store b.active) (tag-at-grown s q.store g b.tag b.known.own)
    ∙ ap (λ (entries : List dom.Entry). dom.formatting b.path.next own ∷ entries) (active-grown s q.store g b.active b.known.listed))))
    c.push.ensures.active

pub push-requires-clause-listed : goal.push-requires-clause-listed
push-requires-clause-listed c =
    (known-more c.args.self.now c.insert_element.new.self c.insert_element.ensures.grows c.insert_element.ensures.least).listed

pub push-requires-clause-own : goal.push-requires-clause-own
push-requires-clause-own c =
    (known-more c.args.self.now c.insert_element.new.self c.insert_element.ensures.grows c.insert_element.ensures.least).own

pub invariant_of-self : goal.invariant_of-self
invariant_of-self c =
    record { known = known-more c.args.self.now c.insert_element.new.self c.insert_element.ensures.grows c.insert_element.ensures.least }

pub invariant_of-self-2 : goal.invariant_of-self-2
invariant_of-self-2 c =
    let b = c.args.self.now in
    let q = c.insert_element.new.self in
    let more = known-more b q c.insert_element.ensures.grows c.insert_element.ensures.least in
    let next = c.in_ok-insert_element.ensures.next in
    let number = c.push.ensures.number in
    record {
      known = known-both b q c.push.new.self c.insert_element.ensures.grows c.insert_element.ensures.least (omega arith) (c.push.ensures.tag (length q.store.tags.items) more.listed more.own) (c.push.ensures.tallied more.tallied);
    }
