use Rattle.std.proofs.Common.{List, ap, map, subst, ◌∙◌, ◌↔◌, ◌≡◌}
use Rattle.std.specs.Bool.{IsTrue}
use Rattle.tl_tree.specs.TreeView.{rows_in}
use Rattle.tl_tree_edit.proofs.ReadOnce.{put_made}
use Rattle.tl_tree_edit.specs.Changes.{Edit, edited}
use Rattle.tl_tree_edit.specs.Events.{events}
use Rattle.tl_tree_edit.specs.Inner.Contexts.{put_by, read_for}
use Rattle.tl_tree_edit.specs.View.{edit_of}
use Rattle.tl_tree_edit.specs.declared.fragments.Fragment.{Fragment}
use Rattle.tl_tree_edit.specs.declared.readings.Reading.{Reading}
use Rattle.tl_tree_edit.proofs.made.has_put.Goals as goal

pub returns : goal.returns
returns c =
    let rows = rows_in c.args.old.now in
    let edits = put_made rows c.args.old.now.is_quirks c.args.position c.args.markup.now c.in_ok-own.own.readings.items c.in_ok-own.own.each.items c.args.numbers.now (map edit_of c.in_ok-edits.edits.items)
    (c.in_ok-edits.ensures
    ∙ (ap (λ (rs : List Reading). map (put_by rows c.args.position) (map (read_for rs) c.as_slice-2.result.now)) c.as_slice.ensures.value
    ∙ ap (λ (each : List Fragment). map (put_by rows c.args.position) (map (read_for c.in_ok-own.own.readings.items) each)) c.as_slice-2.ensures.value))
    c.in_ok-own.ensures in
    subst (λ (es : List Edit). IsTrue c.in_ok-is_edited.field-0 ↔ (events (rows_in c.args.new.now) ≡ edited es rows)) (ap (map edit_of) c.as_slice-3.ensures.value ∙ edits) c.in_ok-is_edited.ensures
