use Rattle.std.proofs.Common.{Some, ◌∙◌, ap, sym}
use Rattle.tl_inline.proofs.PlacesLemmas.{found_nowhere, found_alone, found_other}
use Rattle.tl_inline.proofs.inline.hashmap.heap.index.index_by_note.Goals as goal

pub returns-in-None : goal.returns-in-None
returns-in-None g c = found_nowhere (g.K.PartialEq.eq c.args.key.now) c.args.note c.args.pairs.now c.requires (sym c.in-None.is)

pub returns-then-has_key : goal.returns-then-has_key
returns-then-has_key g c =
    found_alone (g.K.PartialEq.eq c.args.key.now) c.args.note c.args.pairs.now c.requires c.in-Alone.at (ap Some (sym c.in-Alone.is) ∙ sym c.in-Some.is) (sym c.if-has_key.ensures)

pub returns-else-has_key : goal.returns-else-has_key
returns-else-has_key g c =
    found_other (g.K.PartialEq.eq c.args.key.now) c.args.note c.args.pairs.now c.requires c.in-Alone.at (ap Some (sym c.in-Alone.is) ∙ sym c.in-Some.is) (sym c.if-has_key.ensures)
