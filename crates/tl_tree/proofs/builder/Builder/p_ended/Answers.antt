use Rattle.std.proofs.Common.{ap, codes, if◌then◌else◌}
use Rattle.tl_dom_spec.specs.Builder.{Builder, close_except_for, has_in_button_scope, insert_implied}
use Rattle.tl_dom_spec.specs.Tags.{is_paragraph}
use Rattle.tl_tree.proofs.Built.{on-ok-is}
use Rattle.tl_tree.specs.Inner.Builders.{builder_of}
use Rattle.tl_tree.proofs.builder.Builder.p_ended.Goals as goal

pub returns-clause-ok : goal.returns-clause-ok
returns-clause-ok c =
    let b = builder_of c.args.self.now in
    let given = builder_of c.p_implied.new.self in
    let ready = if has_in_button_scope is_paragraph b then b else insert_implied (codes "p") b in
    let closed : Builder → Builder = λ own. close_except_for is_paragraph is_paragraph own in
    on-ok-is c.close_except_for.result (builder_of c.close_except_for.new.self) (closed given) (closed ready)
    (ap closed c.in_ok-p_implied.ensures.ok) c.close_except_for.ensures.ok
