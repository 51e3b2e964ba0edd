use Rattle.std.proofs.Common.{[], ap, ◌++◌, ◌∙◌, ◌∷◌}
use Rattle.std.proofs.lemmas.Result.{on_ok_weaker}
use Rattle.json.specs.Token.{key}
use Rattle.tl_tree_extract.proofs.Sinks.{by_tokens}
use Rattle.tl_tree_extract.proofs.json_sink.WriterSink.known.Goals as goal

pub returns-clause-adds : goal.returns-clause-adds
returns-clause-adds c =
    on_ok_weaker c.put_text.result
    (λ e. by_tokens c.args.self.now c.put_text.new.out _ c.put_text.ensures.before (e ∙ ap (λ n. c.args.self.now.tokens ++ key n ∷ []) c.name.ensures))
    c.put_text.ensures.tokens
