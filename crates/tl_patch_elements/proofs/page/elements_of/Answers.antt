use Rattle.tl_patch_elements.proofs.Whole.{all_done, none_done, one_done, part_places}
use Rattle.tl_patch_elements.proofs.page.elements_of.Goals as goal

pub loop-at-init : goal.loop-at-init
loop-at-init c = none_done c.args.page.now c.args.tokens.now c.new-finder.result c.requires c.new-finder.ensures.names c.new-finder.ensures.elements

pub loop-at-preserved : goal.loop-at-preserved
loop-at-preserved c =
    one_done c.args.page.now c.args.tokens.now c.loop-at.at _ c.loop-at.finder c.push_token.new.self c.loop-at-test.true c.loop-at.invariant c.in_ok-push_token.ensures

pub push_token-requires : goal.push_token-requires
push_token-requires c =
    let p = part_places c.args.page.now c.args.tokens.now c.loop-at.at _ c.loop-at.finder c.loop-at-test.true c.loop-at.invariant in
    record { order = p.0; within = p.1 }

pub returns : goal.returns
returns c =
    all_done c.args.page.now c.args.tokens.now c.loop-at.at c.loop-at.finder c.close_all.new.self c.requires c.loop-at-test.false c.loop-at.invariant c.in_ok-close_all.ensures
