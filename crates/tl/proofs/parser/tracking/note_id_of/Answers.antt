use Rattle.std.proofs.Common.{◌≡◌, None, Option, refl, sym, ap, ◌∙◌}
use Rattle.std.specs.Option.{option_copied, option_map}
use Rattle.tl_bytes.specs.Held.{Kept}
use Rattle.tl_spec.specs.Lookup.Scan.{id_of}
use Rattle.tl.specs.View.{HTMLNode, node_view}
use Rattle.tl.proofs.Tracked.{ids-without, no-id}
use Rattle.tl.proofs.parser.tracking.note_id_of.Goals as goal

pub returns-in_default : goal.returns-in_default
returns-in_default c = record {
  ids = λ nodes e h. ids-without c.args.tracking.now nodes (node_view c.args.node.now) (no-id c.args.node.now c.in_default.not-Tag) h;
  classes = refl;
  tracked = refl;
  key = refl;
}

pub returns-in_default-id-clause-ids : goal.returns-in_default-id-clause-ids
returns-in_default-id-clause-ids c =
    let kept : ◌≡◌ {A = Option Kept} c.in-Tag.tag.attributes.id None = ap (λ a. a.id) (sym c.attributes.ensures) ∙ sym c.id.ensures ∙ ap option_copied c.in_default-id.is in
    let none : id_of (node_view c.args.node.now) ≡ None = ap (λ (n : HTMLNode). id_of (node_view n)) c.in-Tag.is ∙ ap (option_map (λ (b : Kept). b.list)) kept in
    λ nodes e h. ids-without c.args.tracking.now nodes (node_view c.args.node.now) none h
