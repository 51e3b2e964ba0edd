use Rattle.std.proofs.Common.{ap, ◌∙◌}
use Rattle.std.proofs.lemmas.Result.{on_ok_weaker}
use Rattle.tl_dom_spec.specs.Builder.{insert_comment_at}
use Rattle.tl_dom_spec.specs.Path.{Place}
use Rattle.tl_tree.specs.Inner.Builders.{builder_of, comment_of, token_of}
use Rattle.tl_tree.proofs.builder.Builder.insert_comment.Goals as goal

pub returns-clause-ok : goal.returns-clause-ok
unfolding builder_of token_of
returns-clause-ok c =
    let b = c.args.self.now in
    on_ok_weaker c.put_comment.result
    (λ is. is ∙ ap (λ (at : Place). insert_comment_at at (comment_of (token_of b)) (builder_of b)) c.place_in-place.ensures)
    c.put_comment.ensures.ok

pub returns-clause-token : goal.returns-clause-token
unfolding token_of
returns-clause-token c = c.put_comment.ensures.token
