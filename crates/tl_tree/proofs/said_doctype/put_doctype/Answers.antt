use Rattle.std.proofs.Common.{◌∙◌}
use Rattle.tl_tree.proofs.SaidDoctypes.{doctype-put, doctype-within}
use Rattle.tl_html_doctype.specs.Doctyping.{doctyping_of}
use Rattle.tl_tree.specs.declared.entries.DoctypeEntry.{DoctypeEntry}
use Rattle.tl_tree.proofs.Grown.{grows_trans}
use Rattle.tl_tree.proofs.said_doctype.put_doctype.Goals as goal

pub returns-clause-stands : goal.returns-clause-stands
returns-clause-stands c =
    let own : DoctypeEntry = record { name = c.in_ok-name.name; public_id = c.in_ok-public_id.public_id; system_id = c.in_ok-system_id.system_id; forces_quirks = c.asks_for_quirks.result } in
    doctype-put c.put_bytes.new.store c.put_identifier.new.store c.put_identifier-2.new.store c.put_identifier.ensures.grows c.put_identifier-2.ensures.grows
    own (doctyping_of c.args.reader.now) c.args.is_whole
    c.in_ok-name.ensures.within (c.in_ok-name.ensures.stands ∙ c.as_slice.ensures.value) c.in_ok-public_id.ensures.within c.in_ok-public_id.ensures.stands
    c.in_ok-system_id.ensures.stands c.asks_for_quirks.ensures

pub returns-clause-within : goal.returns-clause-within
returns-clause-within c =
    let own : DoctypeEntry = record { name = c.in_ok-name.name; public_id = c.in_ok-public_id.public_id; system_id = c.in_ok-system_id.system_id; forces_quirks = c.asks_for_quirks.result } in
    doctype-within c.put_bytes.new.store c.put_identifier.new.store c.put_identifier-2.new.store c.put_identifier.ensures.grows c.put_identifier-2.ensures.grows
    own c.in_ok-name.ensures.within c.in_ok-public_id.ensures.within c.in_ok-system_id.ensures.within

pub returns-in_err-public_id-clause-grows : goal.returns-in_err-public_id-clause-grows
returns-in_err-public_id-clause-grows c =
    grows_trans c.args.store.now c.put_bytes.new.store c.put_identifier.new.store c.put_bytes.ensures.grows c.put_identifier.ensures.grows

pub returns-in_err-system_id-clause-grows : goal.returns-in_err-system_id-clause-grows
returns-in_err-system_id-clause-grows c =
    let s = c.args.store.now in
    let u = c.put_identifier.new.store in
    grows_trans s u c.put_identifier-2.new.store (grows_trans s c.put_bytes.new.store u c.put_bytes.ensures.grows c.put_identifier.ensures.grows) c.put_identifier-2.ensures.grows

pub returns-clause-grows : goal.returns-clause-grows
returns-clause-grows c =
    let s = c.args.store.now in
    let u = c.put_identifier.new.store in
    grows_trans s u c.put_identifier-2.new.store (grows_trans s c.put_bytes.new.store u c.put_bytes.ensures.grows c.put_identifier.ensures.grows) c.put_identifier-2.ensures.grows
