use Rattle.std.proofs.lemmas.Result.{on_ok_weaker}
use Rattle.tl_tree_extract.proofs.Sinks.{by_tokens}
use Rattle.tl_tree_extract.proofs.json_sink.WriterSink.number.Goals as goal

pub returns-clause-adds : goal.returns-clause-adds
returns-clause-adds c =
    on_ok_weaker c.u64.result
    (λ e. by_tokens c.args.self.now c.u64.new.self _ c.u64.ensures.room.0 e)
    c.u64.ensures.ok
