use Rattle.std.proofs.Common.{Err, List, Option, Some, ap, get_or, rules, ◌∙◌, ◌≡◌}
use Rattle.std.proofs.lemmas.Option.{slice_get-get_or}
use Rattle.tl_dom_spec.specs.HtmlTree.{Context, html_fragment_by, standard}
use Rattle.tl_tree.specs.Rows.{Row, rows_of}
use Rattle.tl_tree.specs.TreeView.{rows_in}
use Rattle.tl_tree_edit.proofs.Places.{one_more}
use Rattle.tl_tree_edit.proofs.ReadOnce.{all_kept}
use Rattle.tl_tree_edit.proofs.Unread.{seat_is, unput_seen}
use Rattle.tl_tree_edit.specs.Inner.Contexts.{read_for, seat_context, should_read}
use Rattle.tl_tree_edit.specs.Operations.{fragment}
use Rattle.tl_tree_edit.proofs.fragments.fragments.Goals as goal

pub loop-number-preserved : goal.loop-number-preserved
loop-number-preserved c =
    let rows = rows_in c.args.old.now in
    let quirks = c.args.old.now.is_quirks in
    let n = get_or c.args.numbers.now c.loop-number.number-index 0 in
    let seat = seat_is rows quirks c.args.position n c.is_adjacent-is_adjacent.result c.of-seat.result c.loop-number.invariant.adjacent c.of-seat.ensures.seat in
    let kept =
    all_kept c.loop-number.readings.items c.reading_at.new.readings.items c.in_ok-reading.ensures.kept (fragment rows quirks c.args.position c.args.markup.now)
    c.loop-number.each.items _ c.loop-number.invariant.put in
    record {
      put = one_more (read_for c.reading_at.new.readings.items) (should_read rows quirks c.args.position c.args.markup.now)
          c.loop-number.each.items c.push.new.self.items (record { number = n; reading = c.in_ok-reading.reading }) c.args.numbers.now c.loop-number.number-index
          kept c.in_ok-push.ensures.items c.loop-number-test.true
          (ap (λ (o : Option (List Row)). (n, o))
          (c.in_ok-reading.ensures.own ∙ ap (λ (x : Context). Some (rows_of (html_fragment_by standard x c.args.markup.now))) seat));
      read = c.in_ok-reading.ensures.read;
      adjacent = c.loop-number.invariant.adjacent;
      forms = c.of-seat.ensures.forms;
    }

pub returns-in_err-reading : goal.returns-in_err-reading
returns-in_err-reading c =
    let rows = rows_in c.args.old.now in
    let quirks = c.args.old.now.is_quirks in
    let numbers = c.args.numbers.now in
    let k = c.loop-number.number-index in
    let n = get_or numbers k 0 in
    let adjacent = c.is_adjacent-is_adjacent.result in
    let why = c.in_err-reading.field-0.0 in
    let seat = seat_is rows quirks c.args.position n adjacent c.of-seat.result c.loop-number.invariant.adjacent c.of-seat.ensures.seat in
    let is : c.from_residual-in_err-reading.result ≡ Err why = search rules in
    rw is (unput_seen rows quirks c.args.position n c.args.markup.now numbers k (seat_context rows quirks adjacent c.of-seat.result) why
    (slice_get-get_or numbers k 0 c.loop-number-test.true) seat c.in_err-reading.ensures.own)
