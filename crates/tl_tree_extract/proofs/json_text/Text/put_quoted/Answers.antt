use Rattle.std.proofs.Common.{ap, sym, ◌++◌, ◌∙◌}
use Rattle.std.proofs.lemmas.Result.{on_ok_weaker}
use Rattle.tl_tree_extract.proofs.Sinks.{quoted_as_is}
use Rattle.tl_tree_extract.proofs.json_text.Text.put_quoted.Goals as goal

pub returns-then-is_unmarked : goal.returns-then-is_unmarked
returns-then-is_unmarked c =
    let same = quoted_as_is c.args.is_key c.args.bytes.now (c.is_unmarked.ensures c.if-is_unmarked.true) in
    record {
      text = on_ok_weaker c.put_plain.result
          (λ e. e ∙ ap (λ l. c.args.self.now.out.items ++ l) (sym same))
          c.put_plain.ensures.text;
    }
