use Rattle.std.proofs.Common.{List, ◌≡◌, ◌∙◌, ap, sym, ℕ}
use Rattle.std.proofs.lemmas.Result.{on_ok_weaker}
use Rattle.tl_dom_spec.specs.Builder.{an_end}
use Rattle.tl_dom_spec.specs.Dispatcher.{token_done}
use Rattle.tl_dom_spec.specs.Groups.{group}
use Rattle.tl_tree.specs.Inner.Builders.{builder_of}
use Rattle.tl_tree.specs.Inner.Parted.{end_said}
use Rattle.tl_tree.proofs.builder.Builder.take_end_tag.Goals as goal

pub returns-then-name-clause-ok : goal.returns-then-name-clause-ok
returns-then-name-clause-ok c =
    let b = builder_of c.args.self.now in
    on_ok_weaker {Q = builder_of c.take_end.new.self ≡ token_done b (end_said c.args.self.now.path.store.page.now c.args.name)} c.take_end.result
    (λ e. e ∙ ap (λ (own : List ℕ). token_done b (an_end (group own) own)) (sym (c.requires.plain c.if-name.true)))
    c.take_end.ensures.ok

pub returns-clause-ok : goal.returns-clause-ok
returns-clause-ok c =
    let b = builder_of c.args.self.now in
    on_ok_weaker {Q = builder_of c.take_end-2.new.self ≡ token_done b (end_said c.args.self.now.path.store.page.now c.args.name)} c.take_end-2.result
    (λ e. e ∙ ap (λ (own : List ℕ). token_done b (an_end (group own) own)) (c.as_bytes.ensures ∙ c.in_ok-lower.ensures))
    c.take_end-2.ensures.ok
