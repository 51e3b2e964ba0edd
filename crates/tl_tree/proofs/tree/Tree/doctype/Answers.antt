use Rattle.std.proofs.Common.{refl}
use Rattle.tl_tree.proofs.Asks.{doctype-found, doctype-parts}
use Rattle.tl_tree.specs.declared.doctype.Doctype.{Doctype}
use Rattle.tl_tree.proofs.tree.Tree.doctype.Goals as goal

pub returns : goal.returns
returns c =
    let t = c.args.self.now in
    let found = c.in_ok-doctype.ensures.lookup in
    let entry = c.doctype-entry.result in
    let said : Doctype = record {
      name = c.bytes.result;
      public_id = c.id_bytes.result;
      system_id = c.id_bytes-2.result;
      forces_quirks = entry.forces_quirks;
    } in
    doctype-found t c.args.number c.in-Doctype.doctype c.in-Doctype.source c.deref.result.now c.in_ok-doctype.field-0.now entry said
    c.deref.ensures.value found.0 found.1 c.in-Doctype.is c.doctype-entry.ensures.stands
    (doctype-parts t.store entry said c.bytes.ensures c.id_bytes.ensures c.id_bytes-2.ensures refl)
