use Rattle.std.proofs.lemmas.Result.{on_ok_weaker}
use Rattle.tl_tree_extract.proofs.Sinks.{tokens_of}
use Rattle.tl_tree_extract.proofs.node_json.write_json.Goals as goal

pub returns-clause-tokens : goal.returns-clause-tokens
returns-clause-tokens c =
    on_ok_weaker c.write_json_in.result
    (λ e. tokens_of c.args.out.now c.write_json_in.new.out _ e)
    c.write_json_in.ensures.adds
