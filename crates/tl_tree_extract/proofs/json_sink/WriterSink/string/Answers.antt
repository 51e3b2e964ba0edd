use Rattle.std.proofs.lemmas.Result.{on_ok_weaker}
use Rattle.tl_tree_extract.proofs.Sinks.{by_tokens}
use Rattle.tl_tree_extract.proofs.json_sink.WriterSink.string.Goals as goal

pub returns-clause-adds : goal.returns-clause-adds
returns-clause-adds c =
    on_ok_weaker c.put_bytes.result
    (λ e. by_tokens c.args.self.now c.put_bytes.new.out _ c.put_bytes.ensures.before e)
    c.put_bytes.ensures.tokens
