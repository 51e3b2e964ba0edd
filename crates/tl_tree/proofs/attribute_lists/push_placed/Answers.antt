use Rattle.std.proofs.Common.{IsTrue, List, Vec, inl, is_ok, refl, subst, sym, ℕ}
use Rattle.std.specs.List.{list_all}
use Rattle.std.specs.declared.alloc.Global.{Global}
use Rattle.tl_tree.proofs.Lists.{placed-pushed, pushed-one}
use Rattle.tl_tree.proofs.NamesMet.{among-kept, once-more}
use Rattle.tl_tree.specs.Inner.Placing.{has_place}
use Rattle.tl_tree.proofs.attribute_lists.push_placed.Goals as goal

pub returns-in_err-own-clause-one_more : goal.returns-in_err-own-clause-one_more
returns-in_err-own-clause-one_more c = inl refl

pub returns-in_err-insert-clause-one_more : goal.returns-in_err-insert-clause-one_more
returns-in_err-insert-clause-one_more c = inl refl

pub returns-in_err-insert-clause-placed : goal.returns-in_err-insert-clause-placed
returns-in_err-insert-clause-placed c key_of own all =
    subst (λ (es : List (Vec ℕ Global × ℕ)). IsTrue (list_all (has_place es key_of) c.args.attributes.now.items)) (sym c.in_err-insert.ensures.err) all

pub returns-in_err-push-clause-one_more : goal.returns-in_err-push-clause-one_more
returns-in_err-push-clause-one_more c =
    pushed-one (is_ok c.push.result) c.args.attribute c.args.attributes.now.items c.push.new.self.items c.push.ensures.items

pub returns-in_err-push-clause-placed : goal.returns-in_err-push-clause-placed
returns-in_err-push-clause-placed c key_of own all =
    let old = c.args.places.now.entries in
    let new = c.insert.new.self.entries in
    let key = c.args.key.now in
    placed-pushed (is_ok c.push.result) old new key_of c.args.attribute key _ own
    (once-more old new c.in_ok-own.own _ key (c.in_ok-own.ensures.items_if_clones_equal (λ x y e. e)) c.in_ok-insert.ensures.entries)
    (among-kept old new c.in_ok-own.own _ c.in_ok-insert.ensures.entries)
    c.args.attributes.now.items c.push.new.self.items c.push.ensures.items all

pub returns-clause-one_more : goal.returns-clause-one_more
returns-clause-one_more c =
    pushed-one (is_ok c.push.result) c.args.attribute c.args.attributes.now.items c.push.new.self.items c.push.ensures.items

pub returns-clause-placed : goal.returns-clause-placed
returns-clause-placed c key_of own all =
    let old = c.args.places.now.entries in
    let new = c.insert.new.self.entries in
    let key = c.args.key.now in
    placed-pushed (is_ok c.push.result) old new key_of c.args.attribute key _ own
    (once-more old new c.in_ok-own.own _ key (c.in_ok-own.ensures.items_if_clones_equal (λ x y e. e)) c.in_ok-insert.ensures.entries)
    (among-kept old new c.in_ok-own.own _ c.in_ok-insert.ensures.entries)
    c.args.attributes.now.items c.push.new.self.items c.push.ensures.items all
