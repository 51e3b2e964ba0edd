use Rattle.std.proofs.Common.{refl}
use Rattle.tl_tree.proofs.OwnText.{SayAlike, rows-owned, rows-said, sources-said}
use Rattle.tl_tree.specs.declared.tree.Tree.{Tree}
use Rattle.tl_tree.proofs.tree.Tree.into_owned.Goals as goal

pub invariant_of-result : goal.invariant_of-result
invariant_of-result c =
    let own = c.with_text-owned.ensures in
    let s = c.args.self.store in
    let t = c.with_text-owned.result in
    let alike : SayAlike s t = record { text = own.text; attributes = own.attributes; tags = own.tags; doctypes = own.doctypes } in
    record {
      few = c.args.self.few;
      rows_within = rows-owned s t alike own.page c.args.self.rows.items c.args.self.rows_within;
      in_order = c.args.self.in_order;
    }

pub returns-clause-rows : goal.returns-clause-rows
returns-clause-rows c =
    let own = c.with_text-owned.ensures in
    let alike : SayAlike c.args.self.store c.with_text-owned.result = record { text = own.text; attributes = own.attributes; tags = own.tags; doctypes = own.doctypes } in
    rows-said c.args.self.store c.with_text-owned.result alike c.args.self.rows.items c.args.self.rows_within

pub returns-clause-sources : goal.returns-clause-sources
returns-clause-sources c row =
    let own = c.with_text-owned.ensures in
    let alike : SayAlike c.args.self.store c.with_text-owned.result = record { text = own.text; attributes = own.attributes; tags = own.tags; doctypes = own.doctypes } in
    let made : Tree = record { store = c.with_text-owned.result; rows = c.args.self.rows; sources = c.args.self.sources; is_quirks = c.args.self.is_quirks; page_end = c.args.self.page_end; few = c.args.self.few; rows_within = rows-owned c.args.self.store c.with_text-owned.result alike own.page c.args.self.rows.items c.args.self.rows_within; in_order = c.args.self.in_order } in
    sources-said c.args.self made refl refl (rows-said c.args.self.store c.with_text-owned.result alike c.args.self.rows.items c.args.self.rows_within) row
