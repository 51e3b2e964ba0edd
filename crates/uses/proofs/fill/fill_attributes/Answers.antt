use Rattle.std.proofs.Common.{ap, ◌∙◌}
use Rattle.std.specs.Prelude.{fold}
use Rattle.std.proofs.lemmas.Result.{on_ok_weaker}
use Rattle.tl_attributes.specs.AttributesView.{attributes_view}
use Rattle.uses.specs.Fields.{fields_of}
use Rattle.uses.specs.Filling.{insert_pair}
use Rattle.uses.proofs.Attributes.{insert_pair-all}
use Rattle.uses.proofs.fill.fill_attributes.Goals as goal

pub returns : goal.returns
returns c =
    on_ok_weaker c.insert_pairs.result
    (λ all. ap attributes_view (all ∙ ap (fold insert_pair c.args.attributes.now) c.in_ok-pairs.ensures.pairs)
    ∙ insert_pair-all (fields_of c.args.fields.now) c.args.attributes.now c.in_ok-pairs.ensures.distinct c.in_ok-pairs.ensures.others)
    c.insert_pairs.ensures
