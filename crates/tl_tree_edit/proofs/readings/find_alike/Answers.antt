use Rattle.std.proofs.Common.{get_or}
use Rattle.std.proofs.lemmas.Option.{slice_get-get_or}
use Rattle.tl_tree_edit.proofs.readings.find_alike.Goals as goal

pub returns-then-are_alike : goal.returns-then-are_alike
returns-then-are_alike c =
    let read = c.index-readings-number.result in
    record {
      own = get_or c.args.readings.now c.loop-number.number read;
      stands = slice_get-get_or c.args.readings.now c.loop-number.number read c.loop-number-test.true;
      tag = c.are_alike.ensures.tag c.if-are_alike.true;
      is_in_form = c.are_alike.ensures.form c.if-are_alike.true;
    }
